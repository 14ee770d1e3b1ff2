use Rattle.std.proofs.Common.{rules}
use Rattle.wi_files.proofs.trees_file.store_trees.Goals as goal

pub returns-in-Some-clause-stored : goal.returns-in-Some-clause-stored
returns-in-Some-clause-stored g c = search rules
