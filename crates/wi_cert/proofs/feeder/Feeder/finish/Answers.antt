use Rattle.std.proofs.Common.{rules}
use Rattle.wi_cert.proofs.feeder.Feeder.finish.Goals as goal

pub returns-then-is_whole : goal.returns-then-is_whole
returns-then-is_whole c = search rules
