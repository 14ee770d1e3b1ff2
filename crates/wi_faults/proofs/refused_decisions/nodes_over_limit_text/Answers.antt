use Rattle.std.proofs.Common.{rules}
use Rattle.wi_faults.proofs.refused_decisions.nodes_over_limit_text.Goals as goal

pub returns : goal.returns
returns c = search rules
