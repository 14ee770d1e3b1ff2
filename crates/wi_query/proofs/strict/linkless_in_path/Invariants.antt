-- Those that are left tell what all tell.
use Rattle.std.proofs.Common.{◌≡◌, drop}
use Rattle.std.specs.List.{flat_map}
use Rattle.wi_query.specs.Linked.{pairs_in_sign}
use Rattle.wi_query.specs.private.Lookups.{linkless_at}
use Rattle.wi_query.proofs.strict.linkless_in_path.Given as goal

abbrev pub invariant-loop-sign : goal.invariant-loop-sign
invariant-loop-sign l = linkless_at l.net (flat_map pairs_in_sign (drop l.sign-index l.signs)) ≡ linkless_at l.net (flat_map pairs_in_sign l.signs)
