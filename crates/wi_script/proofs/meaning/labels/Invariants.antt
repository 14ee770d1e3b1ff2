use Rattle.wi_script.proofs.Meanings.{Found}
use Rattle.wi_script.proofs.meaning.labels.Given as goal

abbrev pub invariant-loop-name : goal.invariant-loop-name
invariant-loop-name l = Found l.net l.names l.name-index l.labels.items
