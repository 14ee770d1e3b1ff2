use Rattle.wi_policy.proofs.LineLemmas.{query_within}
use Rattle.wi_policy.proofs.line.said_on.Goals as goal

pub overflow_sub-before : goal.overflow_sub-before
overflow_sub-before c = query_within _ _ _ _ _ _ c.after_blanks.ensures c.in_ok-word.ensures c.in_ok-front.ensures
