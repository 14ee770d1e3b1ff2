use Rattle.std.proofs.Common.{◌≡◌, ◌≤◌, false, List, length, refl, sym, ◌∙◌, arith}
use Rattle.std.proofs.lemmas.Bool.{le-ltb}
use Rattle.std.proofs.lemmas.Option.{slice_get_past}
use Rattle.wi_labels.specs.declared.label.Label.{Label}
use Rattle.wi_labels.specs.declared.label.Class.{Class}
use Rattle.wi_net.specs.Net.{label_known}
use Rattle.wi_network_tests.proofs.wire.is_known.Goals as goal

-- a number past the labels is no label
unknown : (classes : List Class) (label : Label × Class) → length classes ≤ label.0.0 → label_known classes label ≡ false
unknown classes label h = rw (slice_get_past classes label.0.0 h) refl

pub returns-else-label-counts : goal.returns-else-label-counts
returns-else-label-counts c =
    le-ltb c.args.label.0.0 c.counts.result.labels c.if-label-counts.false
    ∙ sym (unknown c.args.net.now.classes c.args.label (omega (arith, c.keeps.ensures.classes, c.counts.ensures.labels, c.if-label-counts.false)))
