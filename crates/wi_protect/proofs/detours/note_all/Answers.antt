use Rattle.std.proofs.Common.{◌≡◌, ◌+◌, slice_get, Some, ap}
use Rattle.wi_net.proofs.MemberLemmas.{get_read}
use Rattle.wi_protect.specs.Labels.{bypass_labels}
use Rattle.wi_protect.proofs.DetourLemmas.{note_step, noted_length, within_at, few_step}
use Rattle.wi_protect.proofs.detours.note_all.Goals as goal

pub loop-i-preserved : goal.loop-i-preserved
loop-i-preserved c =
    let bypass = c.index-bypasses-i.result in
    let at : slice_get c.args.bypasses.now c.loop-i.i ≡ Some bypass = get_read c.args.bypasses.now c.loop-i.i bypass c.loop-i-test.true c.index-bypasses-i.is in
    let within = within_at c.args.bypasses.now c.loop-i.i bypass c.loop-i.detours.items c.args.detours.now.items c.requires.within at c.loop-i.invariant.places in
    let next : c.loop-i.number + c.bypass_labels.result ≡ c.loop-i.number + bypass_labels bypass = ap (λ k. c.loop-i.number + k) c.bypass_labels.ensures in
    record {
      noted = λ e. note_step c.args.bypasses.now c.loop-i.detours.items c.note.new.detours.items c.loop-i.i c.loop-i.number (c.loop-i.number + c.bypass_labels.result) bypass e _ at within (c.loop-i.invariant.noted e) c.note.ensures next;
      places = noted_length c.loop-i.detours.items c.note.new.detours.items c.args.detours.now.items bypass.link _ c.note.ensures c.loop-i.invariant.places;
      few = few_step c.args.bypasses.now c.loop-i.i c.loop-i.number (c.loop-i.number + c.bypass_labels.result) _ bypass at c.loop-i.invariant.few next;
    }
