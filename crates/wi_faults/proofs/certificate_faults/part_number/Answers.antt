use Rattle.std.proofs.Common.{rules}
use Rattle.wi_faults.proofs.certificate_faults.part_number.Goals as goal

pub returns-in-First : goal.returns-in-First
returns-in-First c = search rules
