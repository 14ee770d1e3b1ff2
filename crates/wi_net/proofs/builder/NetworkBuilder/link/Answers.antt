use Rattle.std.proofs.Common.{◌≡◌, Ok, option_map, arith, subst, sym}
use Rattle.wi_net.specs.Builder.{Draft, link_ends}
use Rattle.wi_net.proofs.DraftLemmas.{out_done, in_done, link_done}
use Rattle.wi_net.proofs.builder.NetworkBuilder.link.Goals as goal

pub put-requires-3-clause-free_out : goal.put-requires-3-clause-free_out
put-requires-3-clause-free_out c =
    let P : Draft → Type 0 = λ d. link_ends d c.args.from.now c.args.out_if.now c.args.to.now c.args.in_if.now (option_map (λ s. s.now) c.args.group) ≡ Ok (c.in_ok-from.from, c.in_ok-from.to) in
    out_done _ c.args.from.now c.args.out_if.now c.args.to.now c.args.in_if.now _ (c.in_ok-from.from, c.in_ok-from.to) c.reserve.new.self.0 c.reserve-2.new.self.0 _ c.put.result c.self.invariant
    (subst P (sym c.self.view_is) c.in_ok-from.ensures.answer) c.reserve.ensures.same c.reserve-2.ensures.same c.in_ok-out_text.ensures c.put.ensures.number

pub put-requires-3-clause-free_in : goal.put-requires-3-clause-free_in
put-requires-3-clause-free_in c =
    let P : Draft → Type 0 = λ d. link_ends d c.args.from.now c.args.out_if.now c.args.to.now c.args.in_if.now (option_map (λ s. s.now) c.args.group) ≡ Ok (c.in_ok-from.from, c.in_ok-from.to) in
    in_done _ c.args.from.now c.args.out_if.now c.args.to.now c.args.in_if.now _ (c.in_ok-from.from, c.in_ok-from.to) c.reserve.new.self.0 c.put.new.self.0 c.reserve-2.new.self.0 _ _ c.put-2.result c.self.invariant
    (subst P (sym c.self.view_is) c.in_ok-from.ensures.answer) c.reserve.ensures.same c.reserve-2.ensures.same c.in_ok-out_text.ensures c.in_ok-in_text.ensures c.put.ensures.names c.put-2.ensures.number

pub invariant_of-self-2 : goal.invariant_of-self-2
invariant_of-self-2 c =
    let P : Draft → Type 0 = λ d. link_ends d c.args.from.now c.args.out_if.now c.args.to.now c.args.in_if.now (option_map (λ s. s.now) c.args.group) ≡ Ok (c.in_ok-from.from, c.in_ok-from.to) in
    link_done _ c.args.from.now c.args.out_if.now c.args.to.now c.args.in_if.now c.args.distance _ (c.in_ok-from.from, c.in_ok-from.to) c.self.invariant (omega (arith, c.ranges.distance)) (subst P (sym c.self.view_is) c.in_ok-from.ensures.answer)
    c.reserve.new.self.0 c.put.new.self.0 c.put-2.new.self.0 c.reserve-3.new.self.0 c.put_group-risk.new.named.0 c.reserve-2.new.self.0 c.put-3.new.self.0 c.reserve-4.new.self.items c.put_group-risk.new.firsts.items _ _ _ c.len.result c.put.result c.put-2.result c.put_group-risk.result
    c.reserve.ensures.same c.reserve-2.ensures.same c.reserve-3.ensures.same c.reserve-4.ensures.items c.in_ok-out_text.ensures c.in_ok-in_text.ensures c.in_ok-group_text.ensures
    c.len.ensures c.put.ensures.number c.put.ensures.names c.put-2.ensures.number c.put-2.ensures.names c.put_group-risk.ensures.first c.put_group-risk.ensures.named c.put_group-risk.ensures.firsts c.put-3.ensures
