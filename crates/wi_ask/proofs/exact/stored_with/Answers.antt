use Rattle.wi_files.proofs.Causes.{err_as}
use Rattle.wi_ask.proofs.exact.stored_with.Goals as goal

pub returns-in_err-store_tree-clause-refused : goal.returns-in_err-store_tree-clause-refused
returns-in_err-store_tree-clause-refused g c = err_as _ _ _ c.from_residual-in_err-store_tree.ensures.1 c.in_err-store_tree.ensures.refused
