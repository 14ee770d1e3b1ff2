use Rattle.wi_nfa.specs.Sets.{symbols}
use Rattle.wi_check.proofs.MatchLemmas.{yes_matches, no_match}
use Rattle.wi_check.proofs.matched.matches.Goals as goal

pub returns-in-Ok-clause-yes : goal.returns-in-Ok-clause-yes
returns-in-Ok-clause-yes c = yes_matches c.args.expression.now c.keeps.ensures c.nfa.result.now c.nfa.ensures c.in-Ok.accepts (symbols c.args.word.now) c.in-Ok.ensures

pub returns-in-Ok-clause-no : goal.returns-in-Ok-clause-no
returns-in-Ok-clause-no c = no_match c.args.expression.now c.keeps.ensures c.nfa.result.now c.nfa.ensures c.in-Ok.accepts (symbols c.args.word.now) c.in-Ok.ensures
