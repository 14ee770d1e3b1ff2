use Rattle.std.proofs.Common.{rules}
use Rattle.wi_words.proofs.reader.tested_by.Goals as goal

pub returns-then-has_flag : goal.returns-then-has_flag
returns-then-has_flag c = search rules
