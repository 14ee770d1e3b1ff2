-- Those that are left tell what all tell.
use Rattle.std.proofs.Common.{◌≡◌, drop}
use Rattle.wi_query.specs.private.Lookups.{linkless_at}
use Rattle.wi_query.proofs.strict.linkless_among.Given as goal

abbrev pub invariant-loop-pair : goal.invariant-loop-pair
invariant-loop-pair l = linkless_at l.net (drop l.pair-index l.pairs) ≡ linkless_at l.net l.pairs
