use Rattle.wi_protect.specs.private.Detours.{round_by}
use Rattle.wi_protect.proofs.RowSteps.{some_left, from_can, from_rest, from_all, from_room}
use Rattle.wi_protect.proofs.rows.add_from.Goals as goal

pub add_arrivals-requires-clause-rules : goal.add_arrivals-requires-clause-rules
add_arrivals-requires-clause-rules c =
    from_can (round_by c.args.bypasses.now c.args.detours.now) _ _ _ _ c.loop-link.builder c.in-Some.ensures.cases.0 (some_left _ c.if-not-is_empty.ensures) c.loop-link.invariant.can

pub loop-link-preserved-in_ok-add_arrivals : goal.loop-link-preserved-in_ok-add_arrivals
loop-link-preserved-in_ok-add_arrivals c = record {
  can = from_rest (round_by c.args.bypasses.now c.args.detours.now) _ _ _ _ c.loop-link.builder c.add_arrivals.new.builder c.in-Some.ensures.cases.0 (some_left _ c.if-not-is_empty.ensures) c.loop-link.invariant.can c.in_ok-add_arrivals.ensures;
  all = from_all (round_by c.args.bypasses.now c.args.detours.now) _ _ _ _ c.loop-link.builder c.add_arrivals.new.builder _ c.in-Some.ensures.cases.0 (some_left _ c.if-not-is_empty.ensures) c.loop-link.invariant.all c.in_ok-add_arrivals.ensures;
  room = from_room _ _ _ _ c.in-Some.ensures.cases.0 c.loop-link.invariant.room;
}
