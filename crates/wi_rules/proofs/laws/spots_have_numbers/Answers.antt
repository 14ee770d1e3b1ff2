use Rattle.wi_rules.proofs.Numbering.{spot_of_number}
use Rattle.wi_rules.proofs.Spots.{number_of_spot}
use Rattle.wi_rules.proofs.laws.spots_have_numbers.Goals as goal

pub returns : goal.returns
returns c = record { number = spot_of_number; spot = number_of_spot }
