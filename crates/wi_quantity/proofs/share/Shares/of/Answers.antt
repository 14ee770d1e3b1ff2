use Rattle.std.proofs.Common.{rules}
use Rattle.wi_quantity.proofs.share.Shares.of.Goals as goal

pub returns-then-found : goal.returns-then-found
returns-then-found c = search rules
