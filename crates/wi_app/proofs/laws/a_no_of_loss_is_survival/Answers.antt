use Rattle.wi_app.proofs.Surviving.{verified_survives, exact_survives}
use Rattle.wi_app.proofs.laws.a_no_of_loss_is_survival.Goals as goal

pub returns : goal.returns
returns c = record { verified = verified_survives; exactly = exact_survives }
