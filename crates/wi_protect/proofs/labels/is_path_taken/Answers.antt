use Rattle.std.specs.Prelude.{codes}
use Rattle.wi_protect.specs.Labels.{path_labels}
use Rattle.wi_protect.proofs.NameLemmas.{each_taken, each_free}
use Rattle.wi_protect.proofs.labels.is_path_taken.Goals as goal

pub returns-then-branch : goal.returns-then-branch
returns-then-branch c =
    each_taken (codes "p") path_labels c.args.net.now _ _ _ _ _ c.loop-i-test.true c.index-paths-i.is c.path_labels-count.ensures c.in_ok-is_numbered_taken.ensures c.if-branch.true

pub loop-i-preserved : goal.loop-i-preserved
loop-i-preserved c =
    each_free (codes "p") path_labels c.args.net.now _ _ _ _ _ c.loop-i-test.true c.index-paths-i.is c.path_labels-count.ensures c.in_ok-is_numbered_taken.ensures c.if-branch.false c.loop-i.invariant
