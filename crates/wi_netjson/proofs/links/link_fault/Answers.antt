use Rattle.std.proofs.Common.{rules}
use Rattle.wi_netjson.proofs.links.link_fault.Goals as goal

pub returns-in-Taken-Out : goal.returns-in-Taken-Out
returns-in-Taken-Out c = search rules
