use Rattle.wi_cert.proofs.WritingLemmas.{shown_put}
use Rattle.wi_cert.proofs.writer.put_shown.Goals as goal

pub returns-clause-text : goal.returns-clause-text
returns-clause-text c = shown_put c.args.shown.now c.from.result c.as_slice-steps.result.now c.args.out.now.items _ _ _ _ _ _ _ _
    c.from.ensures c.as_slice-steps.ensures c.in_ok-put_count.ensures c.in_ok-put_answer.ensures c.in_ok-put_weight.ensures.text c.in_ok-put_first.ensures.text c.in_ok-put_count-2.ensures c.in_ok-put_pairs.ensures.text c.put_dropped.ensures.text
