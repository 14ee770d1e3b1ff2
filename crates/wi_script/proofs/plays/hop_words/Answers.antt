use Rattle.std.proofs.Common.{rules}
use Rattle.wi_script.proofs.plays.hop_words.Goals as goal

pub returns-in-LinkFailed : goal.returns-in-LinkFailed
returns-in-LinkFailed c = search rules
