-- No label of a bypass is there before.
use Rattle.std.proofs.Common.{arith}
use Rattle.wi_gen.proofs.names.add_bypass_labels.Goals as goal
use Rattle.wi_gen.proofs.LabelLemmas.{mpls_order, bypass_allowed, bypass_added}

pub put_label-requires : goal.put_label-requires
put_label-requires c = record {
  order = mpls_order _ c.args.ring.now c.loop-i.i c.loop-i.invariant;
  rules =
      bypass_allowed _ c.args.ring.now c.loop-i.i _ _ (omega (arith, c.keeps.ensures.short, c.path-i-end.ensures)) c.loop-i.invariant
      c.in_ok-name.ensures c.as_str.ensures.value;
}

pub loop-i-preserved : goal.loop-i-preserved
loop-i-preserved c =
    bypass_added _ _ c.args.ring.now c.loop-i.i _ _ c.loop-i.invariant c.in_ok-name.ensures c.as_str.ensures.value c.in_ok-put_label.ensures
