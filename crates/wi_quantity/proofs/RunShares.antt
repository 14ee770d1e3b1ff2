-- What a run weighs is the sum of what its first link, its steps and its end weigh.
use Rattle.std.proofs.Common.{◌≡◌, ℕ, ◌+◌, ◌-◌, ◌*◌, Bool, true, false, cond, List, [], ◌∷◌, ◌++◌, Option, Some, None, Result, Ok, Err, length, map, replicate, slice_get, refl, arith, ap, sym, ◌∙◌, add-zero, zero-add}
use Rattle.std.proofs.lemmas.List.Sums.{sum_by-cons}
use Rattle.std.specs.Option.{option_map, option_map_or, option_and_then}
use Rattle.std.specs.Result.{result_ok}
use Rattle.std.specs.List.{filter}
use Rattle.wi_labels.specs.declared.ops.Op.{Op}
use Rattle.wi_labels.specs.declared.ops.Op.TheVariants.{Swap, Push, Pop}
use Rattle.wi_labels.specs.Header.{Entry, allowed, effect, after_op, outcome, after_ops}
use Rattle.wi_weight.specs.Weights.{plus}
use Rattle.wi_net.specs.declared.parts.Member.{Member}
use Rattle.wi_net.specs.Net.{Net, risk_count}
use Rattle.wi_world.specs.declared.run.Quantity.{Quantity}
use Rattle.wi_world.specs.declared.run.Quantity.TheVariants.{Links, Hops, Distance, Failures, Tunnels}
use Rattle.wi_world.specs.declared.run.Run.{Run}
use Rattle.wi_world.specs.declared.run.Step.{Step}
use Rattle.wi_world.specs.declared.run.End.{End}
use Rattle.wi_world.specs.Moves.{Location, member_at, through, moved, needed, needed_to_end}
use Rattle.wi_world.specs.Runs.{link_share, hop_share, end_share, sum_over, quantity_of, effort_of}
use Rattle.wi_quantity.specs.declared.vector.Part.{Part}
use Rattle.wi_quantity.specs.Weighing.{term_value, term_values, weight_of, is_push, is_pop, growth, member_share, end_adds, first_weight, hop_weight, step_weight, steps_weight}
use Rattle.wi_quantity.proofs.ShareLemmas.{value_at, five_terms, same_values}

-- what a part adds to a term
abbrev part_value : (Quantity → ℕ) → Part → ℕ
part_value value part = part.coefficient * value part.quantity

term_cons : (f : Quantity → ℕ) (part : Part) (term : List Part) → term_value f (part ∷ term) ≡ part_value f part + term_value f term
term_cons f part term = sum_by-cons (λ x. x) (part_value f part) (map (part_value f) term)

term_plus : (f g : Quantity → ℕ) (term : List Part) → term_value f term + term_value g term ≡ term_value (λ q. f q + g q) term
term_plus f g [] = refl
term_plus f g (part ∷ term) =
    rw (term_cons f part term, term_cons g part term, term_cons (λ q. f q + g q) part term)
    (let ih = term_plus f g term in omega (arith, ih))

term_zero : (term : List Part) → term_value (λ q. 0) term ≡ 0
term_zero [] = refl
term_zero (part ∷ term) = rw (term_cons (λ q. 0) part term) (let ih = term_zero term in omega (arith, ih))

at_plus : (f g : Quantity → ℕ) (o : Option (List Part)) → option_map_or (term_value f) o 0 + option_map_or (term_value g) o 0 ≡ option_map_or (term_value (λ q. f q + g q)) o 0
at_plus f g None = refl
at_plus f g (Some term) = term_plus f g term

at_zero : (o : Option (List Part)) → option_map_or (term_value (λ q. 0)) o 0 ≡ 0
at_zero None = refl
at_zero (Some term) = term_zero term

-- five values and the effort, one by one
five : (f : Quantity → ℕ) (vector : List (List Part)) → term_values f vector ++ 0 ∷ [] ≡ value_at f vector 0 ∷ value_at f vector 1 ∷ value_at f vector 2 ∷ value_at f vector 3 ∷ value_at f vector 4 ∷ 0 ∷ []
five f vector = sym (five_terms f vector vector _ _ _ _ _ refl refl refl refl refl refl)

pub values_plus : (f g : Quantity → ℕ) (vector : List (List Part)) → plus (term_values f vector ++ 0 ∷ []) (term_values g vector ++ 0 ∷ []) ≡ term_values (λ q. f q + g q) vector ++ 0 ∷ []
values_plus f g vector =
    rw (
      five f vector,
      five g vector,
      five (λ q. f q + g q) vector,
      sym (at_plus f g (slice_get vector 0)),
      sym (at_plus f g (slice_get vector 1)),
      sym (at_plus f g (slice_get vector 2)),
      sym (at_plus f g (slice_get vector 3)),
      sym (at_plus f g (slice_get vector 4)),
    ) refl

pub values_zero : (vector : List (List Part)) → replicate 6 0 ≡ term_values (λ q. 0) vector ++ 0 ∷ []
values_zero vector =
    rw (five (λ q. 0) vector, at_zero (slice_get vector 0), at_zero (slice_get vector 1), at_zero (slice_get vector 2), at_zero (slice_get vector 3), at_zero (slice_get vector 4)) refl

-- operations that are defined make a header grow by the labels that they push, less those that they pop
op_grows : (op : Op) (h next : List Entry) → after_op op h ≡ Some next → length next + cond (is_pop op) 1 0 ≡ length h + cond (is_push op) 1 0
op_grows op [] next e = cc
op_grows op (top ∷ below) next e = go op (allowed op top.1) e
  where
    go : (op : Op) (b : Bool) → (cond b (Some (effect op top below)) None) ≡ Some next → length next + cond (is_pop op) 1 0 ≡ length (top ∷ below) + cond (is_push op) 1 0
    go op false e = cc
    go (Swap l c) true e = let is : next ≡ (l, c) ∷ below = cc in rw is refl
    go (Push l c) true e = let is : next ≡ (l, c) ∷ top ∷ below = cc in rw is (omega arith)
    go Pop true e = let is : next ≡ below = cc in rw is (omega arith)

ops_grow : (at : ℕ) (ops : List Op) (h next : List Entry) → outcome at ops h ≡ Ok next → length next + length (filter is_pop ops) ≡ length h + length (filter is_push ops)
ops_grow at [] h next e = let is : next ≡ h = cc in rw is refl
ops_grow at (op ∷ ops) h next e = go (after_op op h) refl e (λ g i. ops_grow (at + 1) ops g next i)
  where
    counted : (p : Op → Bool) → length (filter p (op ∷ ops)) ≡ length (filter p ops) + cond (p op) 1 0
    counted p = by (p op) refl
      where
        by : (b : Bool) → p op ≡ b → length (filter p (op ∷ ops)) ≡ length (filter p ops) + cond (p op) 1 0
        by true eb = rw eb (omega arith)
        by false eb = rw eb (omega arith)

    go : (o : Option (List Entry)) → after_op op h ≡ o → (elim o as (λ _. Result (List Entry) ℕ) [ Some g ↦ outcome (at + 1) ops g | None ↦ Err at ]) ≡ Ok next → ((g : List Entry) → outcome (at + 1) ops g ≡ Ok next → length next + length (filter is_pop ops) ≡ length g + length (filter is_push ops))
        → length next + length (filter is_pop (op ∷ ops)) ≡ length h + length (filter is_push (op ∷ ops))
    go None eo e ih = cc
    go (Some g) eo e ih =
        let rest = ih g e in
        let here = op_grows op h g eo in
        let a = counted is_pop in
        let b = counted is_push in
        omega (arith, rest, here, a, b)

growth_is : (ops : List Op) (h next : List Entry) → after_ops ops h ≡ Some next → growth ops ≡ length next - length h
growth_is ops h next e = go (outcome 0 ops h) refl e
  where
    go : (r : Result (List Entry) ℕ) → outcome 0 ops h ≡ r → result_ok r ≡ Some next → growth ops ≡ length next - length h
    go (Err i) er e = cc
    go (Ok g) er e =
        let is : g ≡ next = cc in
        let all = ops_grow 0 ops h g er in
        let e2 : length g ≡ length next = ap length is in
        omega (arith, all, e2)

-- a step weighs what its hop adds to each quantity
step_shares : (net : Net) (at next : Location) (step : Step) (m : Member) → through at.1 m ≡ Some next → (q : Quantity) → member_share q net m (risk_count net (needed net at step)) ≡ link_share q net next.0 + hop_share q net at step next
step_shares net at next step m e q = go (after_ops m.ops at.1) refl e q
  where
    go : (o : Option (List Entry)) → after_ops m.ops at.1 ≡ o → option_map (λ (h : List Entry). (m.link, h)) o ≡ Some next → (q : Quantity) → member_share q net m (risk_count net (needed net at step)) ≡ link_share q net next.0 + hop_share q net at step next
    go None eo e q = cc
    go (Some h) eo e q = let is : (m.link, h) ≡ next = cc in by next is q
      where
        by : (n : Location) → (m.link, h) ≡ n → (q : Quantity) → member_share q net m (risk_count net (needed net at step)) ≡ link_share q net n.0 + hop_share q net at step n
        by n is q = rw (← is) (each q)
          where
            each : (q : Quantity) → member_share q net m (risk_count net (needed net at step)) ≡ link_share q net m.link + hop_share q net at step (m.link, h)
            each Links = refl
            each Hops = sym (add-zero _)
            each Distance = sym (add-zero _)
            each Failures = refl
            each Tunnels = ap (λ n. 0 + n) (growth_is m.ops at.1 h eo)

pub step_weighs : (net : Net) (vector : List (List Part)) (at next : Location) (step : Step) → moved net at step ≡ Some next → step_weight net vector at step ≡ term_values (λ q. link_share q net next.0 + hop_share q net at step next) vector ++ 0 ∷ []
step_weighs net vector at next step e = go (member_at net at step) refl e
  where
    go : (o : Option Member) → member_at net at step ≡ o → option_and_then (λ m. through at.1 m) o ≡ Some next
        → option_map_or (λ m. hop_weight net vector m (risk_count net (needed net at step))) (member_at net at step) (replicate 6 0) ≡ term_values (λ q. link_share q net next.0 + hop_share q net at step next) vector ++ 0 ∷ []
    go None eo e = cc
    go (Some m) eo e = rw eo (same_values _ _ vector (step_shares net at next step m e))

-- an end weighs what it adds to each quantity
end_adds_share : (net : Net) (end : End) (at : Location) (q : Quantity) → end_adds q (risk_count net (needed_to_end net at end)) ≡ end_share q net end at
end_adds_share net end at Links = refl
end_adds_share net end at Hops = refl
end_adds_share net end at Distance = refl
end_adds_share net end at Failures = refl
end_adds_share net end at Tunnels = refl

-- what steps and the end add to a quantity
abbrev steps_share : Net → End → Location → List Step → Quantity → ℕ
steps_share net end at steps q = sum_over net (λ here step next. link_share q net next.0 + hop_share q net here step next) (end_share q net end) at steps

pub steps_weigh : (net : Net) (vector : List (List Part)) (end : End) (at : Location) (steps : List Step) → steps_weight net vector end at steps ≡ term_values (steps_share net end at steps) vector ++ 0 ∷ []
steps_weigh net vector end at [] = same_values (λ q. end_adds q (risk_count net (needed_to_end net at end))) (steps_share net end at []) vector (end_adds_share net end at)
steps_weigh net vector end at (step ∷ steps) = go (moved net at step) refl (λ next. steps_weigh net vector end next steps)
  where
    go : (o : Option Location) → moved net at step ≡ o → ((next : Location) → steps_weight net vector end next steps ≡ term_values (steps_share net end next steps) vector ++ 0 ∷ [])
        → option_map_or (λ next. plus (step_weight net vector at step) (steps_weight net vector end next steps)) o (replicate 6 0) ≡ term_values (steps_share net end at (step ∷ steps)) vector ++ 0 ∷ []
    go None eo ih = values_zero vector ∙ same_values (λ q. 0) (steps_share net end at (step ∷ steps)) vector (λ q. rw eo refl)
    go (Some next) eo ih =
        rw (step_weighs net vector at next step eo, ih next)
        (values_plus (λ q. link_share q net next.0 + hop_share q net at step next) (steps_share net end next steps) vector
        ∙ same_values (λ q. link_share q net next.0 + hop_share q net at step next + steps_share net end next steps q) (steps_share net end at (step ∷ steps)) vector (λ q. rw eo refl))

with_effort : (f : Quantity → ℕ) (vector : List (List Part)) (effort : ℕ) → plus (term_values f vector ++ 0 ∷ []) (replicate 5 0 ++ effort ∷ []) ≡ term_values f vector ++ effort ∷ []
with_effort f [] effort = ap (λ n. 0 ∷ 0 ∷ 0 ∷ 0 ∷ 0 ∷ n ∷ []) (zero-add effort)
with_effort f (a ∷ []) effort = rw (add-zero (term_value f a), zero-add effort) refl
with_effort f (a ∷ b ∷ []) effort = rw (add-zero (term_value f a), add-zero (term_value f b), zero-add effort) refl
with_effort f (a ∷ b ∷ c ∷ []) effort = rw (add-zero (term_value f a), add-zero (term_value f b), add-zero (term_value f c), zero-add effort) refl
with_effort f (a ∷ b ∷ c ∷ d ∷ []) effort = rw (add-zero (term_value f a), add-zero (term_value f b), add-zero (term_value f c), add-zero (term_value f d), zero-add effort) refl
with_effort f (a ∷ b ∷ c ∷ d ∷ e ∷ more) effort = rw (add-zero (term_value f a), add-zero (term_value f b), add-zero (term_value f c), add-zero (term_value f d), add-zero (term_value f e), zero-add effort) refl

pub run_weighs : (net : Net) (vector : List (List Part)) (run : Run) → plus (plus (first_weight net vector run.first.0) (steps_weight net vector run.end (run.first, run.header) run.steps)) (replicate 5 0 ++ effort_of net run ∷ []) ≡ weight_of net vector run
run_weighs net vector run =
    rw (
      steps_weigh net vector run.end (run.first, run.header) run.steps,
      values_plus (λ q. link_share q net run.first) (steps_share net run.end (run.first, run.header) run.steps) vector,
    )
    (with_effort (λ q. quantity_of q net run) vector (effort_of net run))
