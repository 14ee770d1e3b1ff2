use Rattle.std.proofs.Common.{◌≤◌, length, arith}
use Rattle.wi_netjson.specs.Written.{link_data}
use Rattle.wi_netjson.proofs.WrittenLemmas.{made_more, made_all}
use Rattle.wi_netjson.proofs.written.links_value.Goals as goal

pub loop-e-preserved : goal.loop-e-preserved
loop-e-preserved c = made_more (link_data c.args.network.now) c.args.network.now.links c.loop-e.values.items c.push.new.self.items c.in_ok-link_value.field-0 c.link.result.now c.loop-e.e c.loop-e.invariant c.in_ok-push.ensures.items c.link.ensures.value c.in_ok-link_value.ensures

pub returns : goal.returns
returns c =
    let done : length c.args.network.now.links ≤ c.loop-e.e = omega arith in
    made_all (link_data c.args.network.now) c.args.network.now.links c.loop-e.values c.loop-e.e done c.loop-e.invariant
