use Rattle.std.proofs.Common.{rules}
use Rattle.wi_nfa.proofs.ends.Ends.chain.Goals as goal

pub returns : goal.returns
returns c = search rules
