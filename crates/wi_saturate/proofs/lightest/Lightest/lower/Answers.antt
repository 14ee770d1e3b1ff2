use Rattle.std.proofs.Common.{◌≡◌, Some, true, subst}
use Rattle.wi_saturate.specs.private.Lightest.{Noted, weight_at, Lowers}
use Rattle.wi_saturate.proofs.Lowering.{lowers_none, lowers_now, numbers_put}
use Rattle.wi_saturate.proofs.lightest.Lightest.lower.Goals as goal

pub returns-then-has_as_light : goal.returns-then-has_as_light
returns-then-has_as_light g c =
    lowers_none g.W.Domain.scale g.W.Domain.components g.met.W.Domain.laws g.met.W.Domain.admitted c.args.head c.args.to c.args.weight c.args.self.now (c.has_as_light.ensures.reached c.if-has_as_light.true)

pub invariant_of-self-2 : goal.invariant_of-self-2
invariant_of-self-2 g c =
    numbers_put c.args.head c.args.to c.in_ok-number.number c.self.inside.numbers.entries c.insert.new.self.entries c.in_ok-insert.ensures.updates.0 c.self.inside.weights.items c.number_of.new.weights.items c.number_of.ensures.more.0 c.args.weight
    c.number_of.ensures.more.1 c.in_ok-number.ensures.there c.self.invariant

pub returns : goal.returns
returns g c =
    let m = g.W.Domain.scale in
    let w = g.W.Domain.components in
    let new : Noted _ = record { numbers = c.insert.new.self.entries; weights = c.number_of.new.weights.items } in
    let old : Noted _ = record { numbers = c.self.inside.numbers.entries; weights = c.self.inside.weights.items } in
    subst (λ v. Lowers m w c.args.head c.args.to c.args.weight v new true) c.self.view_is
    (lowers_now m w g.met.W.Domain.laws g.met.W.Domain.admitted c.args.head c.args.to c.args.weight old new c.in_ok-number.number c.number_of.ensures.more.0
    (λ x at. c.has_as_light.ensures.lighter c.if-has_as_light.false x (subst (λ v. weight_at v c.args.head c.args.to ≡ Some x) c.self.view_is at))
    c.self.invariant c.number_of.ensures.more.1 c.in_ok-number.ensures.there c.in_ok-insert.ensures.updates.0 c.in_ok-insert.ensures.updates.1)
