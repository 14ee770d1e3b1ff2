use Rattle.std.proofs.Common.{rules}
use Rattle.wi_nfa.proofs.nfa.Nfa.accepts.Goals as goal

pub returns : goal.returns
returns c = search rules
