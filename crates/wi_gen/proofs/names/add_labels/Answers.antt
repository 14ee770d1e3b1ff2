-- The last label goes after those of all classes.
use Rattle.std.proofs.Common.{arith}
use Rattle.wi_gen.proofs.names.add_labels.Goals as goal
use Rattle.wi_gen.proofs.LabelLemmas.{ip_order, ip_allowed}

pub put_label-requires : goal.put_label-requires
put_label-requires c = record {
  order = ip_order _ c.args.ring.now c.in_ok-add_path_labels.ensures;
  rules = ip_allowed _ c.args.ring.now (omega (arith, c.keeps.ensures.short)) c.in_ok-add_path_labels.ensures;
}
