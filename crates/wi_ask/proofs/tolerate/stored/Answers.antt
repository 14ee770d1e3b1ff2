use Rattle.wi_files.proofs.Causes.{err_as}
use Rattle.wi_ask.proofs.Tolerating.{first_writable, second_writable}
use Rattle.wi_ask.proofs.tolerate.stored.Goals as goal

pub store_trees_of-requires-clause-first : goal.store_trees_of-requires-clause-first
store_trees_of-requires-clause-first g c = first_writable c.args.problem.now c.args.most c.args.found.now c.requires

pub store_trees_of-requires-clause-second : goal.store_trees_of-requires-clause-second
store_trees_of-requires-clause-second g c = second_writable c.args.problem.now c.args.most c.args.found.now c.requires

pub returns-in_err-store_trees_of-clause-refused : goal.returns-in_err-store_trees_of-clause-refused
returns-in_err-store_trees_of-clause-refused g c = err_as _ _ _ c.from_residual-in_err-store_trees_of.ensures.1 (rw c.in-Some.is c.in_err-store_trees_of.ensures.refused)
