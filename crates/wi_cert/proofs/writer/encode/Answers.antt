use Rattle.wi_cert.proofs.WritingLemmas.{text_put}
use Rattle.wi_cert.proofs.writer.encode.Goals as goal

pub returns : goal.returns
returns c = record {
  writable = c.requires;
  ranges = record { shown = c.in_ok-out.ensures.ranges; closed = c.in_ok-put_rest.ensures.ranges };
  is = text_put c.args.certificate.now c.in_ok-out.out.items c.put_rest.new.out.items c.in_ok-out.ensures.text c.in_ok-put_rest.ensures.text;
}
