use Rattle.std.proofs.Common.{rules}
use Rattle.wi_make.proofs.script_file.played.Goals as goal

pub returns-in-Ok-states_of-clause-played : goal.returns-in-Ok-states_of-clause-played
returns-in-Ok-states_of-clause-played c = search rules
