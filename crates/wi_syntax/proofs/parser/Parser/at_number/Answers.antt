use Rattle.std.proofs.Common.{rules}
use Rattle.wi_syntax.proofs.parser.Parser.at_number.Goals as goal

pub returns-in-Word : goal.returns-in-Word
returns-in-Word c = search rules
