use Rattle.wi_trees.proofs.FitLaws.{fits_verdict, verdict_fits, verdict_whole}
use Rattle.wi_trees.proofs.laws.runs_that_fit_a_branch.Goals as goal

pub returns : goal.returns
returns c = record {
  forwards = λ net whole branch run b fits. fits_verdict net run whole branch b fits;
  backwards = λ net whole branch run fails b fits. verdict_fits net run whole branch b fails fits;
  whole = λ net whole branch run fails kw b fits. verdict_whole net run whole branch b kw fails fits;
}
