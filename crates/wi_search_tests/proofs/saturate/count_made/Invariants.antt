use Rattle.std.proofs.Common.{◌≡◌, take}
use Rattle.std.specs.List.{sum_by}
use Rattle.wi_saturate.specs.Tries.{ways}
use Rattle.wi_search_tests.proofs.saturate.count_made.Given as goal

abbrev pub invariant-loop-rule : goal.invariant-loop-rule
invariant-loop-rule l = l.total ≡ sum_by (λ r. ways l.rows r.to r.word) (take l.rule-index l.rules)
