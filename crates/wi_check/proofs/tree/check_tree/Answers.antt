use Rattle.wi_build.specs.Problems.{allowing}
use Rattle.wi_accept.proofs.AcceptedTrees.{tree_answer_holds}
use Rattle.wi_check.proofs.tree.check_tree.Goals as goal

pub returns-in-Ok-clause-holds : goal.returns-in-Ok-clause-holds
returns-in-Ok-clause-holds c =
    tree_answer_holds (allowing c.args.problem.now c.args.k) c.args.tree.now
    (record { network = c.keeps.ensures.problem.network; automata = c.keeps.ensures.problem.automata; any_last = c.keeps.ensures.problem.any_last; bounds_of = rw c.in_ok-whole.ensures.value at c.in_ok-whole.ensures.are })
    c.requires (rw (c.within.ensures, c.in_ok-whole.ensures.value) at c.in-Ok.ensures.accepted)

pub returns-in-Err-clause-refused : goal.returns-in-Err-clause-refused
returns-in-Err-clause-refused c = rw (c.within.ensures, c.in_ok-whole.ensures.value) at c.in-Err.ensures.refused
