use Rattle.std.proofs.Common.{◌≡◌, take}
use Rattle.wi_protect.specs.Labels.{bypass_labels}
use Rattle.wi_protect.specs.Rows.{bypasses_rows}
use Rattle.wi_protect.specs.private.Adding.{with_rows}
use Rattle.wi_protect.proofs.AddLemmas.{number_at}
use Rattle.wi_protect.proofs.rows.add_bypasses.Given as goal

abbrev pub invariant-loop-bypass : goal.invariant-loop-bypass
invariant-loop-bypass l = record {
  now : l.builder ≡ with_rows l.fn.builder (bypasses_rows l.first (take l.bypass-index l.bypasses));
  here : l.number ≡ number_at bypass_labels l.first l.bypasses l.bypass-index;
}
