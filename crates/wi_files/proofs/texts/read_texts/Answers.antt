use Rattle.std.proofs.Common.{rules}
use Rattle.wi_files.proofs.texts.read_texts.Goals as goal

pub returns-in-Ok-clause-read : goal.returns-in-Ok-clause-read
returns-in-Ok-clause-read c = search rules
