-- No link so far has both ends.
use Rattle.std.proofs.Common.{◌≡◌, ℕ, ◌<◌, false}
use Rattle.wi_query.specs.private.Names.{is_between}
use Rattle.wi_query.proofs.names.any_link.Given as goal

abbrev pub invariant-loop-x : goal.invariant-loop-x
invariant-loop-x l = (k : ℕ) → k < l.x → is_between l.net l.ends k ≡ false
