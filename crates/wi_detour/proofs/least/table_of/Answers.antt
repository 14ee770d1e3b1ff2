use Rattle.wi_detour.proofs.ReadyLemmas.{ready}
use Rattle.wi_detour.proofs.LeastLemmas.{none_overflows}
use Rattle.wi_detour.proofs.least.table_of.Goals as goal

pub least-requires-clause-ready : goal.least-requires-clause-ready
least-requires-clause-ready c = ready c.args.ways.now c.keeps.ensures c.args.heads.now.heads

pub unreachable-requires : goal.unreachable-requires
unreachable-requires c =
    none_overflows c.args.ways.now c.keeps.ensures c.args.heads.now.heads _ _ _ _ (rw c.in-Err-Overflow.field-0-is at c.in-Err-Overflow.ensures.refusal)
