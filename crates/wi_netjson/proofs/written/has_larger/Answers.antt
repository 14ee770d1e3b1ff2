use Rattle.std.proofs.Common.{◌≡◌, ◌∙◌, true, false, sym}
use Rattle.wi_net.specs.declared.parts.Link.{Link}
use Rattle.wi_netjson.specs.Written.{is_larger}
use Rattle.wi_netjson.proofs.WrittenLemmas.{any_here, none_more}
use Rattle.wi_netjson.proofs.written.has_larger.Goals as goal

pub returns-then-is_larger : goal.returns-then-is_larger
returns-then-is_larger c =
    let here : is_larger c.args.network.now.links c.link.result.now.risk.0 ≡ true = sym (c.requires c.link.result.now.risk.0) ∙ sym c.is_larger.ensures ∙ c.if-is_larger.true in
    sym (any_here (λ (l : Link). is_larger c.args.network.now.links l.risk.0) c.args.network.now.links c.loop-e.e c.link.result.now c.link.ensures.value here)

pub loop-e-preserved : goal.loop-e-preserved
loop-e-preserved c =
    let other : is_larger c.args.network.now.links c.link.result.now.risk.0 ≡ false = sym (c.requires c.link.result.now.risk.0) ∙ sym c.is_larger.ensures ∙ c.if-is_larger.false in
    none_more (λ (l : Link). is_larger c.args.network.now.links l.risk.0) c.args.network.now.links c.loop-e.e c.link.result.now c.link.ensures.value c.loop-e.invariant other
