use Rattle.std.proofs.Common.{◌≤◌, length, arith}
use Rattle.serde_json.specs.Data.{string}
use Rattle.wi_netjson.proofs.WrittenLemmas.{made_more, made_all}
use Rattle.wi_netjson.proofs.written.routers_value.Goals as goal

pub loop-r-preserved : goal.loop-r-preserved
loop-r-preserved c = made_more string c.args.network.now.routers c.loop-r.values.items c.push.new.self.items c.in_ok-try_from_str.field-0 c.router_name.result.now c.loop-r.r c.loop-r.invariant c.in_ok-push.ensures.items c.router_name.ensures c.in_ok-try_from_str.ensures

pub returns : goal.returns
returns c =
    let done : length c.args.network.now.routers ≤ c.loop-r.r = omega arith in
    made_all string c.args.network.now.routers c.loop-r.values c.loop-r.r done c.loop-r.invariant
