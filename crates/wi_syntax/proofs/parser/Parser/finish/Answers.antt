use Rattle.std.proofs.Common.{rules}
use Rattle.wi_syntax.proofs.parser.Parser.finish.Goals as goal

pub returns-in-BehindNumber-Some : goal.returns-in-BehindNumber-Some
returns-in-BehindNumber-Some c = search rules
