use Rattle.std.proofs.Common.{◌≡◌, ◌∙◌, ap, refl, sym, List, length, slice_set, ◌<◌, arith}
use Rattle.wi_net.specs.declared.parts.LinkId.{LinkId}
use Rattle.wi_net.specs.LinkSet.{with_link}
use Rattle.wi_net.specs.private.RiskGroups.{named_by}
use Rattle.wi_net.proofs.IndexLemmas.{risk_place, shared_next}
use Rattle.wi_net.proofs.risk_groups.RiskGroups.of.Goals as goal

pub put-requires : goal.put-requires
put-requires c = risk_place c.args.links.now c.loop-i.i (record { 0 = c.loop-i.i }) c.risk_in.result c.loop-i.groups.items c.requires.within c.loop-i-test.true c.risk_in.ensures c.loop-i.invariant

pub loop-i-preserved : goal.loop-i-preserved
loop-i-preserved c =
    let link : LinkId = record { 0 = c.loop-i.i } in
    let count : length c.loop-i.groups.items ≡ length c.args.links.now = ap length c.loop-i.invariant ∙ Rattle.wi_net.proofs.IndexLemmas.shared_count c.args.links.now c.loop-i.i (length c.args.links.now) in
    let place : c.risk_in.result.0 < length c.loop-i.groups.items = risk_place c.args.links.now c.loop-i.i link c.risk_in.result c.loop-i.groups.items c.requires.within c.loop-i-test.true c.risk_in.ensures c.loop-i.invariant in
    let put = λ (groups : List (List LinkId)). slice_set groups c.risk_in.result.0 (with_link (named_by groups c.risk_in.result) link) in
    c.in_ok-put.ensures ∙ ap put c.loop-i.invariant ∙ shared_next c.args.links.now c.loop-i.i (length c.args.links.now) link c.risk_in.result refl (omega (arith, count, place)) (sym c.risk_in.ensures)
