use Rattle.std.proofs.Common.{◌^◌, rules}
use Rattle.wi_cert.proofs.WritingLemmas.{each_below}
use Rattle.wi_cert.proofs.writer.put_spaced_short.Goals as goal

pub returns-clause-ranges : goal.returns-clause-ranges
returns-clause-ranges c = each_below (2 ^ 32) c.args.numbers.now (λ i. let h = c.type_inv.numbers i in search rules)
