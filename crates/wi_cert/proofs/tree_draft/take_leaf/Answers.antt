use Rattle.std.proofs.Common.{rules}
use Rattle.wi_cert.proofs.tree_draft.take_leaf.Goals as goal

pub returns-in_ok-push-in-Some-None-clause-ok : goal.returns-in_ok-push-in-Some-None-clause-ok
returns-in_ok-push-in-Some-None-clause-ok c = search rules
