use Rattle.std.proofs.Common.{◌≡◌, ◌∙◌, length, arith, refl}
use Rattle.wi_outage.proofs.Gathering.{none_gathered, gathered_long, put_long, gathered_next, all_gathered}
use Rattle.wi_outage.proofs.routers.put_all.Goals as goal

pub loop-e-init : goal.loop-e-init
loop-e-init c = c.requires ∙ none_gathered c.args.net.now

pub put-requires : goal.put-requires
put-requires c =
    let long : length c.loop-e.index.items ≡ length c.args.net.now.routers = gathered_long c.args.net.now c.loop-e.e _ c.loop-e.invariant in
    omega (arith, long, c.link-link.ensures.ends.from, c.link-link.ensures.ends.to)

pub put-requires-in-loop-e : goal.put-requires-in-loop-e
put-requires-in-loop-e c =
    let long : length c.put.new.index.items ≡ length c.args.net.now.routers = put_long _ _ _ _ c.in_ok-put.ensures ∙ gathered_long c.args.net.now c.loop-e.e _ c.loop-e.invariant in
    omega (arith, long, c.link-link.ensures.ends.from, c.link-link.ensures.ends.to)

pub loop-e-preserved : goal.loop-e-preserved
loop-e-preserved c =
    gathered_next c.args.net.now c.loop-e.e (record { 0 = c.loop-e.e }) c.link-link.result.now _ _ _ refl c.link-link.ensures.value c.link-link.ensures.ends.from c.link-link.ensures.ends.to c.loop-e.invariant c.in_ok-put.ensures c.in_ok-put-2.ensures

pub returns : goal.returns
returns c = all_gathered c.args.net.now c.loop-e.e _ (omega (arith, c.loop-e-test.false, c.counts-e-end.ensures.links)) c.loop-e.invariant
