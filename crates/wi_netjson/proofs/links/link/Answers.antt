use Rattle.std.proofs.Common.{rules}
use Rattle.wi_netjson.specs.Links.{link_at}
use Rattle.wi_netjson.proofs.links.link.Goals as goal

pub returns-in_err-out_if-clause-answer : goal.returns-in_err-out_if-clause-answer
unfolding link_at
returns-in_err-out_if-clause-answer c = search rules
