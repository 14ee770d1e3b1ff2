use Rattle.std.proofs.Common.{rules}
use Rattle.wi_syntax.proofs.reader.Reader.keep.Goals as goal

pub returns : goal.returns
returns c = search rules
