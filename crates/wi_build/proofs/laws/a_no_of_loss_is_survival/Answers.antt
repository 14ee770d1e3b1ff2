use Rattle.wi_build.proofs.Losses.{traces, moving}
use Rattle.wi_build.proofs.laws.a_no_of_loss_is_survival.Goals as goal

pub returns : goal.returns
returns c = record { traces = traces; moving = moving }
