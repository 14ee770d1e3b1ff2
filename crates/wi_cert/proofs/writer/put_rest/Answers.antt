use Rattle.wi_cert.proofs.WritingLemmas.{rest_put}
use Rattle.wi_cert.proofs.writer.put_rest.Goals as goal

pub returns-clause-text : goal.returns-clause-text
returns-clause-text c = rest_put c.args.certificate.now c.args.out.now.items c.put_closed.new.out.items c.put.new.out.items c.put.result c.in_ok-put_closed.ensures.text c.put.ensures
