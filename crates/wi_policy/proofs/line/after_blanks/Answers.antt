use Rattle.wi_policy.proofs.LineLemmas.{after_is, cut_after}
use Rattle.wi_policy.proofs.line.after_blanks.Goals as goal

pub split_at-requires : goal.split_at-requires
split_at-requires c = cut_after c.args.text.now c.as_bytes.result.now c.blanks_before.result c.as_bytes.ensures.value c.blanks_before.ensures c.utf8.text

pub returns : goal.returns
returns c = after_is _ _ _ _ c.as_bytes.ensures.value c.blanks_before.ensures c.split_at.ensures.back
