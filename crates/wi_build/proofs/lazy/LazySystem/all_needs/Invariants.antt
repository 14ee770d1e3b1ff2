use Rattle.std.proofs.Common.{◌≡◌, drop}
use Rattle.wi_net.specs.Net.{entry}
use Rattle.wi_build.specs.private.Needs.{no_needs, with_groups}
use Rattle.wi_build.proofs.lazy.LazySystem.all_needs.Given as goal

abbrev pub invariant-loop-group : goal.invariant-loop-group
invariant-loop-group l =
    with_groups l.self.net l.self.bounds l.needs (drop l.group-index (entry l.self.net l.fn.at.link l.fn.at.top))
    ≡ with_groups l.self.net l.self.bounds no_needs (entry l.self.net l.fn.at.link l.fn.at.top)
