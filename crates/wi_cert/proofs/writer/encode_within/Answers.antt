-- How long the text is.
use Rattle.std.proofs.Common.{arith}
use Rattle.std.proofs.lemmas.Grind.{common_steps}
use Rattle.wi_cert.proofs.WritingLemmas.{text_put}
use Rattle.wi_cert.proofs.writer.encode_within.Goals as goal

pub returns-clause-text : goal.returns-clause-text
returns-clause-text c = record {
  writable = c.requires;
  ranges = record { shown = c.in_ok-out.ensures.ranges; closed = c.in_ok-put_rest.ensures.ranges };
  is = text_put c.args.certificate.now c.in_ok-out.out.items c.put_rest.new.out.items c.in_ok-out.ensures.text c.in_ok-put_rest.ensures.text;
}

pub returns-then-len-front-clause-long : goal.returns-then-len-front-clause-long
returns-then-len-front-clause-long c = grind (arith, common_steps)

pub returns-clause-short : goal.returns-clause-short
returns-clause-short c = grind (arith, common_steps)
