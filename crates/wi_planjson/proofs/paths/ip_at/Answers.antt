use Rattle.std.proofs.Common.{rules}
use Rattle.wi_planjson.proofs.paths.ip_at.Goals as goal

pub returns-in-Ip : goal.returns-in-Ip
returns-in-Ip c = search rules
