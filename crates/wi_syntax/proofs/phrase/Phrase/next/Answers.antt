use Rattle.std.proofs.Common.{rules}
use Rattle.wi_syntax.proofs.phrase.Phrase.next.Goals as goal

pub returns-in-Bar : goal.returns-in-Bar
returns-in-Bar c = search rules

pub returns-in-Star : goal.returns-in-Star
returns-in-Star c = search rules
