use Rattle.std.proofs.Common.{arith, refl}
use Rattle.wi_protect.specs.Labels.{path_labels}
use Rattle.wi_protect.specs.private.Detours.{round_by}
use Rattle.wi_protect.proofs.AddLemmas.{number_first}
use Rattle.wi_protect.proofs.RowSteps.{path_room, path_can, path_now, path_number}
use Rattle.wi_protect.proofs.rows.add_paths.Goals as goal

pub loop-path-init : goal.loop-path-init
loop-path-init c = record { now = refl; here = number_first path_labels c.args.numbers.path c.args.paths.now }

pub add_path-requires-clause-room : goal.add_path-requires-clause-room
add_path-requires-clause-room c = path_room _ _ _ _ _ _ c.loop-path.invariant.here c.loop-path-test.true c.path-item.is c.as_slice-links.ensures c.requires.room

pub add_path-requires-clause-rules : goal.add_path-requires-clause-rules
add_path-requires-clause-rules c = path_can (round_by c.args.bypasses.now c.args.detours.now) c.args.numbers.new _ _ _ c.args.builder.now c.loop-path.builder _ _ c.path-item.result _ c.requires.rules c.loop-path.invariant.now c.loop-path.invariant.here c.loop-path-test.true c.path-item.is c.as_slice-links.ensures (omega arith)

pub overflow_cast-number : goal.overflow_cast-number
overflow_cast-number c =
    let room = path_room _ _ _ _ c.path-item.result _ c.loop-path.invariant.here c.loop-path-test.true c.path-item.is refl c.requires.room in
    omega (arith, room, c.path_labels.ensures)

pub overflow_add-number : goal.overflow_add-number
overflow_add-number c =
    let room = path_room _ _ _ _ c.path-item.result _ c.loop-path.invariant.here c.loop-path-test.true c.path-item.is refl c.requires.room in
    omega (arith, room, c.path_labels.ensures)

pub loop-path-preserved : goal.loop-path-preserved
loop-path-preserved c = record {
  now = path_now (round_by c.args.bypasses.now c.args.detours.now) c.args.numbers.new _ _ _ c.args.builder.now c.loop-path.builder c.add_path.new.builder _ _ c.path-item.result _ c.loop-path.invariant.now c.loop-path.invariant.here c.loop-path-test.true c.path-item.is c.as_slice-links.ensures (omega arith) c.in_ok-add_path.ensures;
  here = path_number _ _ _ _ _ _ c.loop-path.invariant.here c.loop-path-test.true c.path-item.is c.path_labels.ensures;
}
