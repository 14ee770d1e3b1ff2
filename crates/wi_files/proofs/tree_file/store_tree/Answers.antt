use Rattle.std.proofs.Common.{rules}
use Rattle.wi_files.proofs.tree_file.store_tree.Goals as goal

pub returns-clause-kept : goal.returns-clause-kept
returns-clause-kept g c = search rules
