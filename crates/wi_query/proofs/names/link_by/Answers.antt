use Rattle.std.proofs.Common.{rules}
use Rattle.wi_query.proofs.names.link_by.Goals as goal

pub returns-in-Source : goal.returns-in-Source
returns-in-Source c = search rules
