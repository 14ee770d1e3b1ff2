use Rattle.std.proofs.Common.{◌≡◌, ℕ, zero, suc, ◌<◌, ◌∷◌, ◌++◌, [], List, Some, length, slice_get, arith, sym, ap, ◌∙◌, subst, refl, reverse}
use Rattle.std.proofs.lemmas.Option.{slice_get_read}
use Rattle.wi_witness.proofs.Unfolds.{Unfolds, begins, in_range, unfolds_more, ends}
use Rattle.wi_witness.proofs.unfolding.run_of_row.Goals as goal

element : {X : Type 0} (xs : List X) (i : ℕ) → i < length xs → (x : X) × (slice_get xs i ≡ Some x)
element [] i h = absurd (omega arith)
element (x ∷ xs) zero h = (x, refl)
element (x ∷ xs) (suc i) h = element xs i (omega arith)

empty : {X : Type 0} (xs : List X) → length xs ≡ 0 → xs ≡ []
empty [] h = refl
empty (x ∷ xs) h = cc

pub rules-init : goal.rules-init
rules-init g c row at =
    begins g.W.Domain.scale g.W.Domain.components g.met.W.Domain.laws g.met.W.Domain.admitted c.args.rows.now c.args.place row _ _ at
    (c.in_ok-push.ensures.items ∙ ap (λ x. x ++ c.args.place ∷ []) c.new-todo.ensures.items) c.new-ids.ensures.items

pub bounds-rows-i : goal.bounds-rows-i
bounds-rows-i g c =
    let start = element c.args.rows.now c.args.place c.requires.within in
    in_range g.W.Domain.scale g.W.Domain.components g.met.W.Domain.laws g.met.W.Domain.admitted c.args.rows.now start.0 c.in-Some.i _ _ _ c.in-Some.ensures.items (c.rules.invariant start.0 start.1)

pub offset_bounds-rows-i : goal.offset_bounds-rows-i
offset_bounds-rows-i g c = let h = bounds-rows-i g c in omega (arith, h)

pub rules-preserved : goal.rules-preserved
rules-preserved g c row at =
    let unfolds = c.rules.invariant row at in
    let within : c.in-Some.i < length c.args.rows.now =
    in_range g.W.Domain.scale g.W.Domain.components g.met.W.Domain.laws g.met.W.Domain.admitted c.args.rows.now row c.in-Some.i _ _ _ c.in-Some.ensures.items unfolds in
    unfolds_more g.W.Domain.scale g.W.Domain.components g.met.W.Domain.laws g.met.W.Domain.admitted c.args.rows.now c.requires.made.0 c.requires.made.1 row c.index-rows-i.result c.in-Some.i
    (slice_get_read c.args.rows.now _ c.in-Some.i c.index-rows-i.result refl within c.index-rows-i.is)
    _ _ _ _ _ c.in-Some.ensures.items c.in_ok-put_off.ensures c.in_ok-push-2.ensures.items unfolds

pub returns : goal.returns
returns g c row rules at are =
    let P : List ℕ → Type 0 = λ x. Unfolds g.W.Domain.scale g.W.Domain.components c.args.rows.now row (reverse x) c.rules.ids.items in
    ends g.W.Domain.scale g.W.Domain.components g.met.W.Domain.laws g.met.W.Domain.admitted c.args.rows.now row c.rules.ids.items
    (subst P (empty c.rules.todo.items (sym c.rules.todo.ok.0 ∙ c.in_default.ensures.cases.0)) (c.rules.invariant row at)) rules are
