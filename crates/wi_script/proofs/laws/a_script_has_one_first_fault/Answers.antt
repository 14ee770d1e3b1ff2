use Rattle.wi_script.proofs.Unique.{fault_first}
use Rattle.wi_script.proofs.laws.a_script_has_one_first_fault.Goals as goal

pub returns : goal.returns
returns c = fault_first
