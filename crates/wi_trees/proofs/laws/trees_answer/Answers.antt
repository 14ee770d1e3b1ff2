use Rattle.std.proofs.Common.{Some, None}
use Rattle.wi_query.specs.Meaning.{question_of}
use Rattle.wi_quantity.specs.Weighing.{weight_of}
use Rattle.wi_trees.specs.Trees.{question_at, whole_of}
use Rattle.wi_trees.proofs.TreeLaws.{tree_covers, covers_at, least_from, no_from, yes_from, bounds_at, matches_at}
use Rattle.wi_trees.proofs.laws.trees_answer.Goals as goal

pub returns : goal.returns
returns c = record {
  none_below = λ net query vector bound branch tree k holds.
      tree_covers net (question_of query) (weight_of net vector) k.network bound branch tree k.bounds_of holds;
  least_yes = λ net query n vector tree branch run fails k q holds b moving matches fits.
      let whole = bounds_at net query n q in
      let bound = Some (weight_of net vector run) in
      let none = tree_covers net (question_of query) (weight_of net vector) k bound (whole_of n query) tree whole holds in
      let none_at = covers_at net query n (weight_of net vector) bound (whole_of n query) none in
      let least = least_from net (question_at n query) (weight_of net vector) k (weight_of net vector run) none_at in
      let matches_there = matches_at net query n run matches in
      yes_from net (question_at n query) (weight_of net vector) k branch run fails whole b moving matches_there fits least;
  never = λ net query n vector tree k q holds.
      let whole = bounds_at net query n q in
      let none = tree_covers net (question_of query) (weight_of net vector) k None (whole_of n query) tree whole holds in
      no_from net (question_at n query) (weight_of net vector) k
      (covers_at net query n (weight_of net vector) None (whole_of n query) none);
}
