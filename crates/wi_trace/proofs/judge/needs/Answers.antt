use Rattle.std.proofs.Common.{rules}
use Rattle.wi_trace.proofs.NeedsLemmas.{needs_gathered}
use Rattle.wi_trace.proofs.judge.needs.Goals as goal

pub returns : goal.returns
returns c = search (rules, needs_gathered)
