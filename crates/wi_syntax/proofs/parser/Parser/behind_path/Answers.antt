use Rattle.std.proofs.Common.{rules}
use Rattle.wi_syntax.proofs.parser.Parser.behind_path.Goals as goal

pub returns : goal.returns
returns c = search rules
