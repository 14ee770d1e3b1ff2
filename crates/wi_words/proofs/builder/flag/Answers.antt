use Rattle.std.proofs.Common.{rules}
use Rattle.wi_words.proofs.builder.flag.Goals as goal

pub returns-clause-rule : goal.returns-clause-rule
returns-clause-rule c = search rules
