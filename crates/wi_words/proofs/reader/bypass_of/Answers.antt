use Rattle.std.proofs.Common.{rules}
use Rattle.wi_words.proofs.reader.bypass_of.Goals as goal

pub returns-clause-command : goal.returns-clause-command
returns-clause-command c = search rules
