use Rattle.std.proofs.Common.{◌≡◌, ◌++◌, map, drop}
use Rattle.std.specs.List.{filter}
use Rattle.wi_detour.specs.private.Around.{is_outside, exits_at, links_on, along}
use Rattle.wi_detour.proofs.around.Ways.push_links.Given as goal

abbrev pub invariant-loop-link : goal.invariant-loop-link
invariant-loop-link l =
    l.rules.items ++ map (along l.self.net l.state) (filter (is_outside l.self) (drop l.link-index (exits_at l.self l.state)))
    ≡ l.initial.rules.items ++ map (along l.self.net l.state) (links_on l.self l.state)
