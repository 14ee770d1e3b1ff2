use Rattle.std.proofs.Common.{rules}
use Rattle.wi_syntax.proofs.parser.Parser.end_list.Goals as goal

pub returns-in-Up : goal.returns-in-Up
returns-in-Up c = search rules
