use Rattle.std.proofs.Common.{◌≡◌, ◌++◌}
use Rattle.wi_build.specs.Encodings.{encoding_of}
use Rattle.wi_build.specs.private.Rows.{rules_for}
use Rattle.wi_build.proofs.RowLemmas.{up_to, begun}
use Rattle.wi_build.proofs.lazy.LazySystem.push_start.Given as goal

abbrev pub invariant-loop-state : goal.invariant-loop-state
invariant-loop-state l = l.rules.items ≡ l.initial.rules.items ++ rules_for (encoding_of l.self) l.head (up_to (begun (encoding_of l.self)) l.state)
