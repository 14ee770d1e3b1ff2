use Rattle.std.proofs.Common.{◌∙◌, ◌<◌, length, sym, arith}
use Rattle.wi_net.proofs.DraftLemmas.{none_there, router_done}
use Rattle.wi_net.proofs.builder.NetworkBuilder.router.Goals as goal

pub invariant_of-self-2 : goal.invariant_of-self-2
invariant_of-self-2 c =
    let few : length c.self.inside.routers.0 < 10000 = omega arith in
    router_done _ c.args.name.now c.add.new.self.0 c.self.invariant few c.if-not-is_name.ensures (sym c.find.ensures.value ∙ none_there c.find.result c.if-is_some.ensures) c.in_ok-add.ensures.ok
