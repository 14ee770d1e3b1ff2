use Rattle.wi_cert.proofs.WritingLemmas.{lists_put}
use Rattle.wi_cert.proofs.writer.put_closed.Goals as goal

pub returns-clause-text : goal.returns-clause-text
returns-clause-text c = lists_put c.args.closed.now c.as_slice-heads.result.now c.as_slice-pairs.result.now c.as_slice-rows.result.now c.args.out.now.items c.put_count.new.out.items c.put_heads.new.out.items c.put_count-2.new.out.items c.put_pairs.new.out.items c.put_count-3.new.out.items c.put_rows.new.out.items c.put_rows.result
    c.as_slice-heads.ensures c.as_slice-pairs.ensures c.as_slice-rows.ensures c.in_ok-put_count.ensures c.in_ok-put_heads.ensures.text c.in_ok-put_count-2.ensures c.in_ok-put_pairs.ensures.text c.in_ok-put_count-3.ensures c.put_rows.ensures.text
