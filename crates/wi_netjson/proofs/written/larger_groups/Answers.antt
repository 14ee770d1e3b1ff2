use Rattle.std.proofs.Common.{◌≡◌, ◌∙◌, true, set, length, length-set, ap}
use Rattle.wi_netjson.proofs.WrittenLemmas.{marked, unmarked}
use Rattle.wi_netjson.proofs.written.larger_groups.Goals as goal
use Rattle.wi_netjson.proofs.written.larger_groups.Goals.{then-risk-e, else-risk-e}

pub loop-e-preserved : goal.loop-e-preserved
loop-e-preserved c = elim c.if-risk-e.branch [
  | then-risk-e w ↦
      let made : c.if-risk-e.larger.items ≡ set c.loop-e.larger.items c.link.result.now.risk.0 true = ap (λ v. v.items) w.larger-is in
      record {
        len = ap length made ∙ length-set c.loop-e.larger.items c.link.result.now.risk.0 true ∙ c.loop-e.invariant.len;
        so_far = marked c.args.network.now.links c.loop-e.e c.link.result.now c.loop-e.larger.items c.if-risk-e.larger.items c.link.ensures.value c.loop-e.invariant.len w.if-risk-e.true made c.loop-e.invariant.so_far;
      }
  | else-risk-e w ↦
      rw w.larger-is (record {
        len = c.loop-e.invariant.len;
        so_far = unmarked c.args.network.now.links c.loop-e.e c.link.result.now c.loop-e.larger.items c.link.ensures.value w.if-risk-e.false c.loop-e.invariant.so_far;
      })
]
