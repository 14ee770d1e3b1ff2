use Rattle.std.proofs.Common.{rules}
use Rattle.wi_syntax.proofs.parser.Parser.next.Goals as goal

pub returns-in-BehindUp : goal.returns-in-BehindUp
returns-in-BehindUp c = search rules
