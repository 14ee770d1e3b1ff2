use Rattle.wi_policy.proofs.LineLemmas.{before_is, cut_before, fewer}
use Rattle.wi_policy.proofs.line.before_blanks.Goals as goal

pub overflow_sub-text : goal.overflow_sub-text
overflow_sub-text c = fewer _ _ _ c.as_bytes.ensures.value c.blanks_behind.ensures

pub split_at-requires : goal.split_at-requires
split_at-requires c = cut_before c.args.text.now c.as_bytes.result.now c.blanks_behind.result c.as_bytes.ensures.value c.blanks_behind.ensures

pub returns : goal.returns
returns c = before_is _ _ _ _ c.as_bytes.ensures.value c.blanks_behind.ensures c.split_at.ensures.front
