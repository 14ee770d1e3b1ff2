use Rattle.std.proofs.Common.{rules}
use Rattle.wi_check.proofs.Absent.{rises_kept}
use Rattle.wi_check.proofs.Followed.{one_found, two_found}
use Rattle.wi_check.proofs.heads.missing_by_rule.Goals as goal

pub missing_head-requires-clause-below : goal.missing_head-requires-clause-below
missing_head-requires-clause-below c = rises_kept _ _ _ c.requires.below c.requires.pairs

pub returns-in-Empty-clause-found : goal.returns-in-Empty-clause-found
returns-in-Empty-clause-found c = search rules

pub returns-else-not-has_head-clause-found : goal.returns-else-not-has_head-clause-found
returns-else-not-has_head-clause-found c = one_found _ _ _ _ _ _ 0 _ _ c.if-not-has_head.ensures c.requires.below c.in-One.is c.missing_pair.ensures.found

pub returns-else-not-has_pair-clause-found : goal.returns-else-not-has_pair-clause-found
returns-else-not-has_pair-clause-found c = two_found _ _ _ _ _ _ _ _ _ c.if-not-has_head-2.ensures c.requires.below c.in-Two.is c.if-not-has_pair.ensures c.missing_pair-in-Two.ensures.found
