use Rattle.wi_nfa.proofs.EndsLemmas.{joint_with}
use Rattle.wi_nfa.proofs.ends.join.Goals as goal

pub returns-in_ok-extend_from_slice : goal.returns-in_ok-extend_from_slice
returns-in_ok-extend_from_slice c = joint_with _ _ _ _ c.if-also.true c.in_ok-extend_from_slice.ensures.items
