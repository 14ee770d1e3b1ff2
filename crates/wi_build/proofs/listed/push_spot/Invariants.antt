use Rattle.std.proofs.Common.{◌≡◌, ◌++◌}
use Rattle.wi_build.specs.Encodings.{encoding_of}
use Rattle.wi_build.specs.Systems.{rules_by}
use Rattle.wi_build.proofs.RowLemmas.{up_to}
use Rattle.wi_build.proofs.listed.push_spot.Given as goal

abbrev pub invariant-loop-symbol : goal.invariant-loop-symbol
invariant-loop-symbol l = l.rules.items ≡ l.initial.rules.items ++ up_to (rules_by (encoding_of l.system) l.spot) l.symbol
