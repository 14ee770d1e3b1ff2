use Rattle.std.proofs.Common.{arith}
use Rattle.wi_witness.proofs.Tables.{least_derivation}
use Rattle.wi_detour.specs.private.Around.{rules_around}
use Rattle.wi_detour.proofs.LeastLemmas.{none_too_long}
use Rattle.wi_detour.proofs.least.goal_run.Goals as goal

pub unfold-requires-clause-derived : goal.unfold-requires-clause-derived
unfold-requires-clause-derived c = (rules_around c.args.ways.now, (0, 0, 1), least_derivation _ _ _ _ _ _ _ _ c.requires.table.least)

pub unreachable-requires : goal.unreachable-requires
unreachable-requires c =
    none_too_long c.args.ways.now c.keeps.ensures c.args.table.now _ _ (omega arith) c.requires.table c.requires.reached (rw c.in-Err-TooLong.field-0-is at c.in-Err-TooLong.ensures.refusal)

pub returns-in-Ok : goal.returns-in-Ok
returns-in-Ok c = c.in-Ok.ensures.run (rules_around c.args.ways.now) (0, 0, 1) (least_derivation _ _ _ _ _ _ _ _ c.requires.table.least)
