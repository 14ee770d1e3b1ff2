use Rattle.wi_trees.proofs.BranchLaws.{root, child_down, child_up}
use Rattle.wi_trees.proofs.laws.children_are_branches.Goals as goal

pub returns : goal.returns
returns c = record {
  root = root;
  down = λ net whole branch e k b can. child_down net whole branch e b can k;
  up = child_up;
}
