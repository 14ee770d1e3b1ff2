use Rattle.wi_trees.proofs.FitLaws.{split_whole, split_there}
use Rattle.wi_trees.proofs.laws.runs_that_do_not_fit_split.Goals as goal

pub returns : goal.returns
returns c = record {
  least = λ net whole branch run b. split_whole net run whole branch b;
  there = λ net whole branch run k b moving unfit. split_there net run whole branch b k moving unfit;
}
