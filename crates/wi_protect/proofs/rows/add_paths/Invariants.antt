use Rattle.std.proofs.Common.{◌≡◌, take}
use Rattle.wi_protect.specs.Labels.{moved_by, path_labels}
use Rattle.wi_protect.specs.Rows.{paths_rows}
use Rattle.wi_protect.specs.private.Detours.{round_by}
use Rattle.wi_protect.specs.private.Adding.{with_rows}
use Rattle.wi_protect.proofs.AddLemmas.{number_at}
use Rattle.wi_protect.proofs.rows.add_paths.Given as goal

abbrev pub invariant-loop-path : goal.invariant-loop-path
invariant-loop-path l = record {
  now : l.builder ≡ with_rows l.fn.builder (paths_rows (round_by l.bypasses l.detours) (moved_by l.numbers.new) l.numbers.path (take l.path-index l.paths));
  here : l.number ≡ number_at path_labels l.numbers.path l.paths l.path-index;
}
