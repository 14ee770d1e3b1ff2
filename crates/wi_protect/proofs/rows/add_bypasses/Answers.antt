use Rattle.std.proofs.Common.{arith, refl}
use Rattle.wi_protect.specs.Labels.{bypass_labels}
use Rattle.wi_protect.proofs.AddLemmas.{number_first}
use Rattle.wi_protect.proofs.RowSteps.{bypass_room, bypass_can, bypass_now, bypass_number}
use Rattle.wi_protect.proofs.rows.add_bypasses.Goals as goal

pub loop-bypass-init : goal.loop-bypass-init
loop-bypass-init c = record { now = refl; here = number_first bypass_labels c.args.first c.args.bypasses.now }

pub add_via-requires-clause-room : goal.add_via-requires-clause-room
add_via-requires-clause-room c = bypass_room _ _ _ _ _ _ c.loop-bypass.invariant.here c.loop-bypass-test.true c.bypass-item.is c.as_slice.ensures c.requires.room

pub add_via-requires-clause-rules : goal.add_via-requires-clause-rules
add_via-requires-clause-rules c = bypass_can _ _ c.args.builder.now c.loop-bypass.builder _ _ _ _ c.requires.rules c.loop-bypass.invariant.now c.loop-bypass.invariant.here c.loop-bypass-test.true c.bypass-item.is c.as_slice.ensures

pub overflow_cast-number : goal.overflow_cast-number
overflow_cast-number c =
    let room = bypass_room _ _ _ _ c.bypass-item.result _ c.loop-bypass.invariant.here c.loop-bypass-test.true c.bypass-item.is refl c.requires.room in
    omega (arith, room, c.bypass_labels.ensures)

pub overflow_add-number : goal.overflow_add-number
overflow_add-number c =
    let room = bypass_room _ _ _ _ c.bypass-item.result _ c.loop-bypass.invariant.here c.loop-bypass-test.true c.bypass-item.is refl c.requires.room in
    omega (arith, room, c.bypass_labels.ensures)

pub loop-bypass-preserved : goal.loop-bypass-preserved
loop-bypass-preserved c = record {
  now = bypass_now _ _ c.args.builder.now c.loop-bypass.builder c.add_via.new.builder _ _ _ _ c.loop-bypass.invariant.now c.loop-bypass.invariant.here c.loop-bypass-test.true c.bypass-item.is c.as_slice.ensures c.in_ok-add_via.ensures;
  here = bypass_number _ _ _ _ _ _ c.loop-bypass.invariant.here c.loop-bypass-test.true c.bypass-item.is c.bypass_labels.ensures;
}
