use Rattle.std.proofs.Common.{◌∙◌}
use Rattle.wi_words.proofs.Parsed.{refused, taken}
use Rattle.wi_words.proofs.command_of.Goals as goal

pub returns-in-Ok-clause-command : goal.returns-in-Ok-clause-command
returns-in-Ok-clause-command c = taken _ _ _ _ _ c.in_ok-program.ensures c.in-Ok.ensures.kinds c.in-Ok.ensures.matches c.command_in.ensures.command

pub returns-clause-command : goal.returns-clause-command
returns-clause-command c = refused _ _ _ c.in_ok-program.ensures c.in-Err.ensures.kinds (λ e. c.in_default.not-OutOfMemory (c.kind.ensures ∙ e))
