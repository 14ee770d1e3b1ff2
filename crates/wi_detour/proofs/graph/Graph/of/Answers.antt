use Rattle.std.proofs.Common.{◌∙◌, arith, length, refl}
use Rattle.wi_net.specs.declared.parts.LinkId.{LinkId}
use Rattle.wi_detour.proofs.ExitLemmas.{exits_first, exits_place, exits_next}
use Rattle.wi_detour.proofs.graph.Graph.of.Goals as goal

pub put-requires : goal.put-requires
put-requires c = exits_place c.args.net.now c.loop-number.number _ c.loop-number.exits.items (omega (arith, c.link.ensures.ends.from, c.link.ensures.ends.to)) c.loop-number.invariant

pub loop-number-init : goal.loop-number-init
loop-number-init c = (rw c.counts-counts.ensures.routers at c.in_ok-exits.ensures) ∙ exits_first c.args.net.now (length c.args.net.now.routers)

pub loop-number-preserved : goal.loop-number-preserved
loop-number-preserved c =
    let link : LinkId = record { 0 = c.loop-number.number } in
    c.in_ok-put.ensures
    ∙ exits_next c.args.net.now c.loop-number.number (length c.args.net.now.routers) _ link c.link.result.now c.loop-number.exits.items refl c.link.ensures.value refl c.link.ensures.ends.from c.loop-number.invariant
