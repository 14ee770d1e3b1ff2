use Rattle.std.proofs.Common.{◌∷◌, [], take}
use Rattle.wi_quantity.specs.Weighing.{components}
use Rattle.wi_faults.proofs.CertificateLemmas.{if_put, numbers_put}
use Rattle.wi_faults.proofs.certificate_faults.put_components.Goals as goal

pub returns : goal.returns
returns c =
    if_put c.put_numbers.result (numbers_put (take c.args.terms (components c.args.weight.now)) (c.args.weight.now.second.count ∷ []) c.args.text.now c.put_values.new.text c.put_numbers.new.text c.in_ok-put_values.ensures) c.put_numbers.ensures
