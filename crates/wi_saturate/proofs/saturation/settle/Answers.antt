use Rattle.wi_saturate.proofs.Counts.{ways_grow, turn_within, tried_now, tried_goal, tries_now}
use Rattle.std.proofs.Common.{◌≡◌, ◌∷◌, ◌++◌, [], List, Some, slice_get, refl, ap, sym, subst, arith, length, length-append, ◌∙◌, ◌-◌}
use Rattle.std.specs.Prelude.{None, ℕ, Option, Result}
use Rattle.std.specs.declared.result.Result.TheVariants.{Ok, Err}
use Rattle.std.specs.Result.{IfErr, IsErrAnd}
use Rattle.wi_weight.specs.Weights.{Scale}
use Rattle.wi_pds.specs.declared.rule.Rule.{Rule}
use Rattle.wi_saturate.specs.declared.refused.LeastRefused.{LeastRefused}
use Rattle.wi_saturate.specs.declared.refused.LeastRefused.TheVariants.{Memory}
use Rattle.wi_saturate.specs.Refusals.{IsRefusal}
use Rattle.std.proofs.lemmas.Bool.{false≢true}
use Rattle.wi_saturate.specs.declared.row.Row.{Row}
use Rattle.wi_saturate.specs.private.Searches.{IsSearch}
use Rattle.wi_saturate.proofs.Settle.{ends, settled_more, reaches, stays_open, overflows, closed_at_end, closed_at_turn}
use Rattle.wi_saturate.proofs.Elements.{if_err}
use Rattle.wi_saturate.proofs.Searching.{last_head}
use Rattle.wi_saturate.proofs.Turns.{closed_to_cut, closed_at_cut, seen_moved, candidate_moved}
use Rattle.wi_saturate.proofs.saturation.settle.Goals as goal

pub next_row-requires-clause-search : goal.next_row-requires-clause-search
next_row-requires-clause-search g c =
    subst (λ (rows : List (Row _)). IsSearch g.W.Domain.scale g.W.Domain.components c.args.asked.now.index.now.rules.heads c.args.asked.now.index.now.rules.items rows rows c.turns.search) (sym c.deref.ensures.value) c.turns.invariant.search

pub returns-in_default-clause-table : goal.returns-in_default-clause-table
returns-in_default-clause-table g c =
    let m = g.W.Domain.scale in
    let W = g.met.W.Domain in
    ends _ _ W.laws W.admitted _ _ _ _ c.requires.asked.closed _ refl _ _ c.turns.invariant.settled c.turns.invariant.open_goal
    (closed_to_cut _ _ _ W.laws W.admitted _ _ c.args.asked.now.cut
    (closed_at_end _ _ W.laws W.admitted _ _ _ _ c.turns.invariant.settled
    (seen_moved m g.W.Domain.components (g.S.System.rules c.args.sys.now) c.args.asked.now.index.now.rules.heads _ _ None c.deref.ensures.value c.in_default.ensures.least)))

pub returns-then-is_cut-clause-table : goal.returns-then-is_cut-clause-table
returns-then-is_cut-clause-table g c =
    let m = g.W.Domain.scale in
    let W = g.met.W.Domain in
    ends _ _ W.laws W.admitted _ _ _ _ c.requires.asked.closed _ refl _ _ c.turns.invariant.settled c.turns.invariant.open_goal
    (closed_at_cut _ _ _ W.laws W.admitted _ _ c.args.asked.now.cut c.in-Some.next.weight (c.is_cut.ensures.above c.if-is_cut.true)
    (closed_at_turn _ _ W.laws W.admitted _ _ _ _ c.turns.invariant.settled c.in-Some.next
    (seen_moved m g.W.Domain.components (g.S.System.rules c.args.sys.now) c.args.asked.now.index.now.rules.heads _ _ (Some c.in-Some.next) c.deref.ensures.value c.in-Some.ensures.least)))

pub returns-then-not-fits-clause-refusal : goal.returns-then-not-fits-clause-refusal
returns-then-not-fits-clause-refusal g c =
    let m = g.W.Domain.scale in
    let W = g.met.W.Domain in
    overflows _ _ W.laws W.admitted _ _ _ _ c.requires.asked.closed _ refl _ _ c.turns.invariant.settled c.turns.invariant.open_goal c.in-Some.next
    (candidate_moved m g.W.Domain.components (g.S.System.rules c.args.sys.now) c.args.asked.now.index.now.rules.heads _ _ c.in-Some.next c.deref.ensures.value c.in-Some.ensures.made)
    (seen_moved m g.W.Domain.components (g.S.System.rules c.args.sys.now) c.args.asked.now.index.now.rules.heads _ _ (Some c.in-Some.next) c.deref.ensures.value c.in-Some.ensures.least)
    c.requires.asked.ready (c.is_cut.ensures.below c.if-is_cut.false) (λ fits. false≢true (sym c.if-not-fits.true ∙ c.fits.ensures.1 fits))

pub returns-then-is_for-clause-table : goal.returns-then-is_for-clause-table
returns-then-is_for-clause-table g c =
    let m = g.W.Domain.scale in
    let W = g.met.W.Domain in
    rw c.in_ok-push.ensures.items
    (reaches _ _ W.laws W.admitted _ _ _ _ c.requires.asked.closed _ refl _ _ c.turns.invariant.settled c.turns.invariant.open_goal c.in-Some.next
    (candidate_moved m g.W.Domain.components (g.S.System.rules c.args.sys.now) c.args.asked.now.index.now.rules.heads _ _ c.in-Some.next c.deref.ensures.value c.in-Some.ensures.made)
    (seen_moved m g.W.Domain.components (g.S.System.rules c.args.sys.now) c.args.asked.now.index.now.rules.heads _ _ (Some c.in-Some.next) c.deref.ensures.value c.in-Some.ensures.least)
    (c.is_cut.ensures.below c.if-is_cut.false) (c.fits.ensures.0 c.if-not-fits.false) (c.is_for.ensures.is c.if-is_for.true))

pub extend-requires-clause-turn : goal.extend-requires-clause-turn
extend-requires-clause-turn g c =
    let m = g.W.Domain.scale in
    let W = g.met.W.Domain in
    record {
      index = c.requires.asked.index.indexed;
      fit = λ i r at. (settled_more _ _ W.laws W.admitted _ _ _ _ c.requires.asked.closed _ refl _ _ c.turns.invariant.settled c.turns.invariant.open_goal c.in-Some.next
          (candidate_moved m g.W.Domain.components (g.S.System.rules c.args.sys.now) c.args.asked.now.index.now.rules.heads _ _ c.in-Some.next c.deref.ensures.value c.in-Some.ensures.made)
          (seen_moved m g.W.Domain.components (g.S.System.rules c.args.sys.now) c.args.asked.now.index.now.rules.heads _ _ (Some c.in-Some.next) c.deref.ensures.value c.in-Some.ensures.least)
          (c.is_cut.ensures.below c.if-is_cut.false) (c.fits.ensures.0 c.if-not-fits.false) i r (subst (λ (rows : List (Row _)). slice_get rows i ≡ Some r) (c.deref-in-turns.ensures.value ∙ c.in_ok-push.ensures.items) at)).fits;
      within = omega (arith, c.len-last.ensures, c.in_ok-push.ensures.len, ap length c.deref-in-turns.ensures.value);
      head = last_head g.W.Domain.components c.args.asked.now.index.now.rules.heads c.args.asked.now.index.now.rules.items c.turns.rows.items c.in-Some.next c.deref-in-turns.result.now (c.deref-in-turns.ensures.value ∙ c.in_ok-push.ensures.items)
          (c.len-last.result - 1) c.in-Some.place (omega (arith, c.len-last.ensures, c.in_ok-push.ensures.len, c.turns.rows.ok.0)) c.in-Some.ensures.place;
    }

pub extend-requires-clause-search : goal.extend-requires-clause-search
extend-requires-clause-search g c =
    let m = g.W.Domain.scale in
    let W = g.met.W.Domain in
    let flat = c.args.asked.now.index.now.rules.items in
    let whole : c.deref-in-turns.result.now ≡ c.turns.rows.items ++ c.in-Some.next ∷ [] = c.deref-in-turns.ensures.value ∙ c.in_ok-push.ensures.items in
    record {
      earlier = c.turns.rows.items;
      row = c.in-Some.next;
      pushed = whole;
      place = omega (arith, c.len-last.ensures, c.in_ok-push.ensures.len, c.turns.rows.ok.0);
      stands = subst (λ (rows : List (Row _)). IsSearch g.W.Domain.scale g.W.Domain.components c.args.asked.now.index.now.rules.heads flat c.turns.rows.items rows c.next_row.new.self) (sym whole)
          (subst (λ (rows : List (Row _)). IsSearch g.W.Domain.scale g.W.Domain.components c.args.asked.now.index.now.rules.heads flat rows (rows ++ c.in-Some.next ∷ []) c.next_row.new.self) c.deref.ensures.value c.in-Some.ensures.search);
    }

pub turns-preserved : goal.turns-preserved
turns-preserved g c =
    let m = g.W.Domain.scale in
    let W = g.met.W.Domain in
    record {
      settled = rw c.in_ok-push.ensures.items (settled_more _ _ W.laws W.admitted _ _ _ _ c.requires.asked.closed _ refl _ _ c.turns.invariant.settled c.turns.invariant.open_goal c.in-Some.next
          (candidate_moved m g.W.Domain.components (g.S.System.rules c.args.sys.now) c.args.asked.now.index.now.rules.heads _ _ c.in-Some.next c.deref.ensures.value c.in-Some.ensures.made)
          (seen_moved m g.W.Domain.components (g.S.System.rules c.args.sys.now) c.args.asked.now.index.now.rules.heads _ _ (Some c.in-Some.next) c.deref.ensures.value c.in-Some.ensures.least)
          (c.is_cut.ensures.below c.if-is_cut.false) (c.fits.ensures.0 c.if-not-fits.false));
      open_goal = rw c.in_ok-push.ensures.items (stays_open _ _ W.laws W.admitted _ _ _ _ c.requires.asked.closed _ refl _ _ c.turns.invariant.settled c.turns.invariant.open_goal c.in-Some.next
          (candidate_moved m g.W.Domain.components (g.S.System.rules c.args.sys.now) c.args.asked.now.index.now.rules.heads _ _ c.in-Some.next c.deref.ensures.value c.in-Some.ensures.made)
          (seen_moved m g.W.Domain.components (g.S.System.rules c.args.sys.now) c.args.asked.now.index.now.rules.heads _ _ (Some c.in-Some.next) c.deref.ensures.value c.in-Some.ensures.least)
          (c.is_cut.ensures.below c.if-is_cut.false) (c.fits.ensures.0 c.if-not-fits.false) (c.is_for.ensures.other c.if-is_for.false));
      tried = omega (arith, c.turns.invariant.tried, c.in-Some.ensures.fewer, c.in_ok-extend.ensures.lengths, ap length c.in_ok-push.ensures.items, length-append c.turns.rows.items (c.in-Some.next ∷ []));
      tries = turn_within c.args.asked.now.index.now.rules.items c.turns.rows.items c.push.new.self.items c.deref-in-turns.result.now c.in-Some.next _ _ _ _ _ c.in_ok-push.ensures.items c.deref-in-turns.ensures.value
          (let last : c.len-last.result - 1 ≡ length c.turns.rows.items = omega (arith, c.len-last.ensures, c.in_ok-push.ensures.len, c.turns.rows.ok.0) in last) c.turns.invariant.tries c.in_ok-extend.ensures.tries;
      counted = omega (arith, c.tick.ensures, c.turns.invariant.counted, ap length c.in_ok-push.ensures.items, length-append c.turns.rows.items (c.in-Some.next ∷ []));
      search = subst (λ (rows : List (Row _)). IsSearch g.W.Domain.scale g.W.Domain.components c.args.asked.now.index.now.rules.heads c.args.asked.now.index.now.rules.items rows rows c.extend.new.self) c.deref-in-turns.ensures.value c.in_ok-extend.ensures.search;
    }

pub returns-in_default-clause-tried : goal.returns-in_default-clause-tried
returns-in_default-clause-tried g c = tried_now _ _ _ _ c.turns.invariant.tried

pub returns-then-is_cut-clause-tried : goal.returns-then-is_cut-clause-tried
returns-then-is_cut-clause-tried g c = tried_now _ _ _ _ c.turns.invariant.tried

pub returns-then-is_for-clause-tried : goal.returns-then-is_for-clause-tried
returns-then-is_for-clause-tried g c = tried_goal _ _ _ _ _ _ c.turns.invariant.tried c.in-Some.ensures.fewer (ap length c.in_ok-push.ensures.items ∙ length-append c.turns.rows.items (c.in-Some.next ∷ []))

pub returns-then-is_for-clause-tries : goal.returns-then-is_for-clause-tries
returns-then-is_for-clause-tries g c =
    tries_now _ _ _ _ _ c.turns.invariant.tries (ways_grow c.args.asked.now.index.now.rules.items c.turns.rows.items c.push.new.self.items c.in-Some.next c.in_ok-push.ensures.items) refl

-- want of memory says nothing
memory_says : {T W : Type 0} (m : Scale) (c : W → List ℕ) (rules : ℕ → ℕ → List (Rule W)) (heads : List (ℕ × ℕ)) (goal : ℕ × ℕ × ℕ) (cut : Option (List ℕ)) (r : Result T (LeastRefused W))
    → IsErrAnd r (λ x. x ≡ Memory) → IfErr r (IsRefusal m c rules heads goal cut)
memory_says m c rules heads goal cut (Ok x) h = tt
memory_says m c rules heads goal cut (Err x) h = subst (IsRefusal m c rules heads goal cut) (sym h) tt

pub returns-in_err-push : goal.returns-in_err-push
returns-in_err-push g c = record {
  table = if_err _ c.from_residual.result _ c.from_residual.ensures.1;
  steps = if_err _ c.from_residual.result _ c.from_residual.ensures.1;
  tried = if_err _ c.from_residual.result _ c.from_residual.ensures.1;
  tries = if_err _ c.from_residual.result _ c.from_residual.ensures.1;
  refusal = memory_says _ _ _ _ _ _ _ c.from_residual.ensures.1;
}

pub returns-in_err-extend : goal.returns-in_err-extend
returns-in_err-extend g c = record {
  table = if_err _ c.from_residual-in_err-extend.result _ c.from_residual-in_err-extend.ensures.1;
  steps = if_err _ c.from_residual-in_err-extend.result _ c.from_residual-in_err-extend.ensures.1;
  tried = if_err _ c.from_residual-in_err-extend.result _ c.from_residual-in_err-extend.ensures.1;
  tries = if_err _ c.from_residual-in_err-extend.result _ c.from_residual-in_err-extend.ensures.1;
  refusal = memory_says _ _ _ _ _ _ _ c.from_residual-in_err-extend.ensures.1;
}

pub returns-then-is_for-clause-steps : goal.returns-then-is_for-clause-steps
returns-then-is_for-clause-steps g c = omega (arith, c.tick.ensures, c.turns.invariant.counted, ap length c.in_ok-push.ensures.items, length-append c.turns.rows.items (c.in-Some.next ∷ []))
