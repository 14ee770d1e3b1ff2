use Rattle.std.proofs.Common.{◌∙◌, ap, option_and_then}
use Rattle.wi_words.specs.Commands.{command_named}
use Rattle.wi_words.proofs.Entered.{entered}
use Rattle.wi_words.proofs.reader.command_in.Goals as goal

pub returns-in-Some-clause-command : goal.returns-in-Some-clause-command
returns-in-Some-clause-command c = c.command_named.ensures.command ∙ ap (option_and_then command_named) (entered _ _ _ c.in-Some.ensures.name c.in-Some.ensures.rows)
