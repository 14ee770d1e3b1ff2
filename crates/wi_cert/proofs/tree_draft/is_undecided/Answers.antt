use Rattle.std.proofs.Common.{rules}
use Rattle.wi_cert.proofs.tree_draft.is_undecided.Goals as goal

pub returns-in-Answer : goal.returns-in-Answer
returns-in-Answer c = search rules
