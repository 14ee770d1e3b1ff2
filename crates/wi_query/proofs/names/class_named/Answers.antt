use Rattle.std.proofs.Common.{rules}
use Rattle.wi_query.proofs.names.class_named.Goals as goal

pub returns : goal.returns
returns c = search rules
