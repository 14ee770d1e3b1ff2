use Rattle.wi_script.proofs.Unique.{script_one, script_fine}
use Rattle.wi_script.proofs.laws.a_script_is_read_one_way.Goals as goal

pub returns-clause-alone : goal.returns-clause-alone
returns-clause-alone c = script_one

pub returns-clause-fine : goal.returns-clause-fine
returns-clause-fine c = script_fine
