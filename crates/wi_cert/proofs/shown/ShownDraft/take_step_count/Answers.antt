use Rattle.std.proofs.Common.{rules}
use Rattle.wi_cert.proofs.shown.ShownDraft.take_step_count.Goals as goal

pub returns-clause-ok : goal.returns-clause-ok
returns-clause-ok c = search rules
