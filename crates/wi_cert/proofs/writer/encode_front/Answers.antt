use Rattle.wi_cert.proofs.WritingLemmas.{front_put}
use Rattle.wi_cert.proofs.writer.encode_front.Goals as goal

pub returns-clause-text : goal.returns-clause-text
returns-clause-text c = front_put c.args.certificate.now c.new-out.result.items c.put_title.new.out.items c.put_shown.new.out.items c.new-out.ensures.items c.in_ok-put_title.ensures c.in_ok-put_shown.ensures.text
