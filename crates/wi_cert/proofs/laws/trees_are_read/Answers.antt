use Rattle.wi_cert.proofs.TreeSoundLemmas.{decoded_is_tree}
use Rattle.wi_cert.proofs.TreeCompleteLemmas.{tree_is_decoded}
use Rattle.wi_cert.proofs.laws.trees_are_read.Goals as goal

pub returns-clause-read : goal.returns-clause-read
returns-clause-read c = tree_is_decoded

pub returns-clause-written : goal.returns-clause-written
returns-clause-written c = decoded_is_tree
