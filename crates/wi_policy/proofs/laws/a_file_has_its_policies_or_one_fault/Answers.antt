use Rattle.wi_policy.proofs.Fine.{only_memory}
use Rattle.wi_policy.proofs.laws.a_file_has_its_policies_or_one_fault.Goals as goal

pub returns : goal.returns
returns c = only_memory
