use Rattle.std.proofs.Common.{arith}
use Rattle.std.specs.Prelude.{⊤}
use Rattle.wi_trees.proofs.FreeLaws.{fewer_down, fewer_up, few_nodes}
use Rattle.wi_trees.proofs.laws.splits_leave_fewer_groups_free.Goals as goal

pub returns : goal.returns
returns c = record {
  down = λ net branch e k can. fewer_down net k.network branch e k.bounds_of can;
  up = λ net branch e k can. fewer_up net k.network branch e k.bounds_of can;
  nodes = λ net branch tree k t. let most = few_nodes net k.network (λ leaf. ⊤) branch tree k.bounds_of t in omega (arith, most);
}
