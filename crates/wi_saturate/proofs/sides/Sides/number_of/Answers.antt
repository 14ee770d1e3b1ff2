use Rattle.std.proofs.Common.{◌≡◌, Some, map, slice_get, refl, sym, ap, ◌∙◌, subst}
use Rattle.std.proofs.lemmas.Option.{slice_get_read}
use Rattle.wi_saturate.specs.private.SmallSides.{side_of}
use Rattle.wi_saturate.proofs.SidesShown.{same_small, none_added, one_added, there_before, there_now, all_within}
use Rattle.wi_saturate.proofs.sides.Sides.number_of.Goals as goal

pub returns-in_err-weight-clause-more : goal.returns-in_err-weight-clause-more
returns-in_err-weight-clause-more g c = none_added c.self.inside.unit c.self.inside.weights.items c.number_of.ensures.more.0 c.number_of.new.weights.items c.number_of.ensures.more.1 c.self.inside.small.items c.args.self.now c.self.view_is c.self.invariant _ refl

pub returns-then-eq-clause-more : goal.returns-then-eq-clause-more
returns-then-eq-clause-more g c = none_added c.self.inside.unit c.self.inside.weights.items c.number_of.ensures.more.0 c.number_of.new.weights.items c.number_of.ensures.more.1 c.self.inside.small.items c.args.self.now c.self.view_is c.self.invariant _ refl

pub returns-then-eq-clause-there : goal.returns-then-eq-clause-there
returns-then-eq-clause-there g c =
    let kept = c.self.inside.small.items in
    let at = slice_get_read c.deref-2.result.now _ c.args.guess _ refl (c.in-Some.ensures.lookup.3.0) c.in-Some.ensures.lookup.1 in
    there_before c.self.inside.unit c.self.inside.weights.items c.number_of.ensures.more.0 c.number_of.new.weights.items c.number_of.ensures.more.1 kept c.args.self.now c.self.view_is c.self.invariant
    _ c.args.side c.in_ok-weight.ensures.there refl c.args.guess
    (subst (λ ss. slice_get ss c.args.guess ≡ Some c.in-Some.known.now) c.deref-2.ensures.value at ∙ ap (λ s. Some s) (same_small _ _ (sym c.eq.ensures ∙ c.if-eq.true)))

pub returns-in_err-push-clause-more : goal.returns-in_err-push-clause-more
returns-in_err-push-clause-more g c =
    none_added c.self.inside.unit c.self.inside.weights.items c.number_of.ensures.more.0 c.number_of.new.weights.items c.number_of.ensures.more.1 c.self.inside.small.items c.args.self.now c.self.view_is c.self.invariant c.push.new.self.items c.in_err-push.ensures.items

pub invariant_of-self-2 : goal.invariant_of-self-2
invariant_of-self-2 g c =
    all_within c.self.inside.unit c.self.inside.weights.items c.number_of.ensures.more.0 c.number_of.new.weights.items c.number_of.ensures.more.1 c.self.inside.small.items c.args.self.now c.self.view_is c.self.invariant
    _ c.args.side c.in_ok-weight.ensures.there refl c.push.new.self.items c.in_ok-push.ensures.items

pub returns-clause-more : goal.returns-clause-more
returns-clause-more g c =
    one_added c.self.inside.unit c.self.inside.weights.items c.number_of.ensures.more.0 c.number_of.new.weights.items c.number_of.ensures.more.1 c.self.inside.small.items c.args.self.now c.self.view_is c.self.invariant
    _ c.args.side c.in_ok-weight.ensures.there refl c.push.new.self.items c.in_ok-push.ensures.items

pub returns-clause-there : goal.returns-clause-there
returns-clause-there g c =
    let kept = c.self.inside.small.items in
    subst (λ n. slice_get (map (side_of c.number_of.new.weights.items c.self.inside.unit) c.push.new.self.items) n ≡ Some c.args.side) (sym (c.len-number.ensures ∙ c.self.inside.small.ok.0))
    (there_now c.self.inside.unit c.self.inside.weights.items c.number_of.ensures.more.0 c.number_of.new.weights.items c.number_of.ensures.more.1 kept c.args.self.now c.self.view_is c.self.invariant
    _ c.args.side c.in_ok-weight.ensures.there refl c.push.new.self.items c.in_ok-push.ensures.items)
