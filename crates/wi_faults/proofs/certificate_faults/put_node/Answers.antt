use Rattle.std.proofs.Common.{rules}
use Rattle.wi_faults.proofs.certificate_faults.put_node.Goals as goal

pub returns : goal.returns
returns c = search rules
