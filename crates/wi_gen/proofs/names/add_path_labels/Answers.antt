-- No label of a router of the path is there before.
use Rattle.std.proofs.Common.{arith}
use Rattle.wi_gen.proofs.names.add_path_labels.Goals as goal
use Rattle.wi_gen.proofs.LabelLemmas.{smpls_order, path_allowed, path_added}

pub put_label-requires : goal.put_label-requires
put_label-requires c = record {
  order = smpls_order _ c.args.ring.now c.loop-i.i c.loop-i.invariant;
  rules =
      path_allowed _ c.args.ring.now c.loop-i.i _ _ _ (omega (arith, c.keeps.ensures.short, c.path-i-end.ensures))
      (omega (arith, c.keeps.ensures.short)) (omega arith) c.loop-i.invariant c.in_ok-name.ensures c.as_str.ensures.value;
}

pub loop-i-preserved : goal.loop-i-preserved
loop-i-preserved c =
    path_added _ _ c.args.ring.now c.loop-i.i _ _ _ (omega arith) c.loop-i.invariant c.in_ok-name.ensures c.as_str.ensures.value
    c.in_ok-put_label.ensures
