use Rattle.wi_quantity.proofs.RunShares.{run_weighs}
use Rattle.wi_quantity.proofs.laws.runs_weigh_the_sum_of_their_shares.Goals as goal

pub returns : goal.returns
returns c = run_weighs
