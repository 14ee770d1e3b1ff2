-- Those that are left tell what all tell.
use Rattle.std.proofs.Common.{◌≡◌, drop}
use Rattle.std.specs.List.{list_any}
use Rattle.wi_query.specs.private.Names.{is_between}
use Rattle.wi_query.proofs.names.any_between.Given as goal

abbrev pub invariant-loop-ends : goal.invariant-loop-ends
invariant-loop-ends l = list_any (λ ends. is_between l.net ends l.link.0) (drop l.ends-index l.pairs) ≡ list_any (λ ends. is_between l.net ends l.link.0) l.pairs
