use Rattle.std.proofs.Common.{rules}
use Rattle.wi_syntax.proofs.reader.Reader.after_quoted.Goals as goal

pub returns-then-character-eq34 : goal.returns-then-character-eq34
returns-then-character-eq34 c = search rules
