use Rattle.std.specs.Prelude.{codes}
use Rattle.wi_labels.specs.declared.label.Class.TheVariants.{Smpls}
use Rattle.wi_protect.specs.Labels.{path_labels}
use Rattle.wi_protect.proofs.NameLemmas.{each_can, each_now}
use Rattle.wi_protect.proofs.labels.add_path_labels.Goals as goal

pub add_numbered-requires : goal.add_numbered-requires
add_numbered-requires c =
    each_can (codes "p") path_labels Smpls c.args.builder.now c.loop-i.builder _ _ _ _ c.requires c.loop-i.invariant c.loop-i-test.true c.index-paths-i.is c.path_labels-count.ensures

pub loop-i-preserved : goal.loop-i-preserved
loop-i-preserved c =
    each_now (codes "p") path_labels Smpls c.args.builder.now c.loop-i.builder c.add_numbered.new.builder _ _ _ _ c.loop-i.invariant c.loop-i-test.true c.index-paths-i.is c.path_labels-count.ensures c.in_ok-add_numbered.ensures
