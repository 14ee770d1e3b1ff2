use Rattle.std.proofs.Common.{◌≡◌, ◌+◌, drop, length}
use Rattle.wi_net.specs.declared.parts.LinkId.{LinkId}
use Rattle.wi_protect.specs.Labels.{bypasses_labels}
use Rattle.wi_protect.specs.private.Detours.{at_link, detour_from}
use Rattle.wi_protect.proofs.DetourLemmas.{or_else}
use Rattle.wi_protect.proofs.detours.note_all.Given as goal

abbrev pub invariant-loop-i : goal.invariant-loop-i
invariant-loop-i l = record {
  noted : (e : LinkId) → or_else (at_link l.detours.items e) (detour_from l.i l.number (drop l.i l.bypasses) e) ≡ detour_from 0 l.first l.bypasses e;
  places : length l.detours.items ≡ length l.fn.detours.items;
  few : l.number + bypasses_labels (drop l.i l.bypasses) ≡ l.first + bypasses_labels l.bypasses;
}
