use Rattle.wi_script.proofs.Outcomes.{written_one_way}
use Rattle.wi_script.proofs.laws.a_line_is_written_one_way.Goals as goal

pub returns : goal.returns
returns c = written_one_way
