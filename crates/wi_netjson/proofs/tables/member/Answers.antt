use Rattle.std.proofs.Common.{rules}
use Rattle.wi_netjson.specs.Tables.{way_at}
use Rattle.wi_netjson.proofs.tables.member.Goals as goal

pub returns-in_default-clause-answer : goal.returns-in_default-clause-answer
unfolding way_at
returns-in_default-clause-answer c = search rules

pub returns-in_err-limited-clause-answer : goal.returns-in_err-limited-clause-answer
unfolding way_at
returns-in_err-limited-clause-answer c = search rules
