use Rattle.std.proofs.Common.{◌≡◌, take}
use Rattle.wi_pds.specs.Rules.{rules_at}
use Rattle.wi_saturate.specs.Tries.{candidates}
use Rattle.wi_search_tests.proofs.saturate.count_candidates.Given as goal

abbrev pub invariant-loop-i : goal.invariant-loop-i
invariant-loop-i l = l.total ≡ candidates (rules_at l.list.rules) (take l.i l.heads) l.rows
