use Rattle.std.proofs.Common.{◌≡◌, ◌++◌}
use Rattle.wi_rules.specs.Rules.{build_rules}
use Rattle.wi_build.specs.Encodings.{encoding_of}
use Rattle.wi_build.specs.private.Rows.{rules_for}
use Rattle.wi_build.proofs.RowLemmas.{up_to}
use Rattle.wi_build.proofs.lazy.LazySystem.push_build.Given as goal

abbrev pub invariant-loop-label : goal.invariant-loop-label
invariant-loop-label l = l.rules.items ≡ l.initial.rules.items ++ rules_for (encoding_of l.self) l.head (up_to (build_rules (encoding_of l.self) l.state l.head.symbol) l.label)
