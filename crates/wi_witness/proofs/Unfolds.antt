-- Unfolding one row after the other.
use Rattle.std.specs.Prelude.{◌≡◌, ℕ, ◌<◌, reverse, List, [], ◌∷◌, ◌++◌, Option, Some, None, take, slice_get, length, refl}
use Rattle.std.specs.Option.{option_to_list}
use Rattle.std.proofs.Common.{sym, ap, ◌∙◌, subst, append_assoc, append-nil}
use Rattle.std.proofs.lemmas.List.{reverse-append}
use Rattle.std.proofs.lemmas.Option.{slice_get_within}
use Rattle.wi_weight.specs.Weights.{Scale, WeightLaws, IsWeight, plus, zero_weight}
use Rattle.wi_weight.specs.lemmas.Order.{weight_zero}
use Rattle.wi_pds.specs.declared.rule.Word2.{Word2}
use Rattle.wi_pds.specs.declared.rule.Word2.TheVariants.{Empty, One, Two}
use Rattle.wi_pds.specs.declared.rule.Rule.{Rule}
use Rattle.wi_pds.specs.declared.rule.RuleId.{RuleId}
use Rattle.wi_pds.specs.Runs.{symbols, Run, run_weight}
use Rattle.wi_saturate.specs.declared.row.Row.{Row}
use Rattle.wi_saturate.specs.Rows.{EachAfter, Parts, IsMade}
use Rattle.wi_saturate.proofs.Elements.{contains_from_get, get_taken, same_some}
use Rattle.wi_witness.specs.GoalRuns.{Names}

-- the ids name a run from p with s to q with nothing, which weighs w
abbrev pub NamedRun : {W : Type 0} → Scale → (W → List ℕ) → (ℕ → ℕ → List (Rule W)) → ℕ → List ℕ → List RuleId → ℕ → List ℕ → Type 0
NamedRun {W} m c rules p s ids q w = (rs : List (Rule W)) × Run rules p s rs q [] × Names rules p s ids rs × (run_weight m c rs ≡ w)

-- rows at places, one for each symbol in turn, the first from p and the last to q, of sum w
abbrev pub Covers : {W : Type 0} → Scale → (W → List ℕ) → List (Row W) → List ℕ → ℕ → List ℕ → ℕ → List ℕ → Type 0
Covers m c rows [] p [] q w = (p ≡ q) × (zero_weight m ≡ w)
Covers m c rows [] p (g ∷ s) q w = ⊥
Covers m c rows (i ∷ is) p [] q w = ⊥
Covers {W} m c rows (i ∷ is) p (g ∷ s) q w =
    (row : Row W) × (y : List ℕ) × (slice_get rows i ≡ Some row) × (row.p ≡ p) × (row.g ≡ g) × Covers m c rows is row.q s q y × (plus (c row.weight) y ≡ w)

-- what is unfolded so far: whatever completes the rest completes the whole
pub record Unfolds {W : Type 0} (m : Scale) (c : W → List ℕ) (rows : List (Row W)) (row : Row W) (todo : List ℕ) (ids : List RuleId) : Type 0 where
  pub spot : ℕ
  pub stack : List ℕ
  pub rest : List ℕ
  pub covers : Covers m c rows todo spot stack row.q rest
  pub run : (rules : ℕ → ℕ → List (Rule W)) → EachAfter (IsMade m c rules) rows → (more : List RuleId)
      → NamedRun m c rules spot stack more row.q rest → NamedRun m c rules row.p (row.g ∷ []) (ids ++ more) row.q (c row.weight)

module _ {W : Type 0} (m : Scale) (c : W → List ℕ) (laws : WeightLaws m) (admitted : (w : W) → IsWeight m (c w)) (rows : List (Row W)) where
  weight_covers : (is : List ℕ) (p : ℕ) (s : List ℕ) (q : ℕ) (w : List ℕ) → Covers m c rows is p s q w → IsWeight m w
  weight_covers [] p [] q w h = subst (λ x. IsWeight m x) h.1 (weight_zero m)
  weight_covers [] p (g ∷ s) q w h = absurd h
  weight_covers (i ∷ is) p [] q w h = absurd h
  weight_covers (i ∷ is) p (g ∷ s) q w h = subst (λ x. IsWeight m x) h.6 (laws.sum _ _ (admitted h.0.weight) (weight_covers is h.0.q s q h.1 h.5))

  -- the rows of a rule's right side in the place of the row that it made
  covers_parts : (earlier : ℕ) (is : List ℕ) (s : List ℕ) (q : ℕ) (y : List ℕ) (to : ℕ) (word : Word2) (left right : Option ℕ) (mid : ℕ) (w : List ℕ)
      → Parts m c (take earlier rows) to word left right mid w → Covers m c rows is mid s q y
      → Covers m c rows (option_to_list left ++ (option_to_list right ++ is)) to (symbols word ++ s) q (plus w y)
  covers_parts e is s q y to Empty left right mid w h k =
      subst (λ l. Covers m c rows (option_to_list l ++ (option_to_list right ++ is)) to s q (plus w y)) (sym h.0)
      (subst (λ r. Covers m c rows (option_to_list r ++ is) to s q (plus w y)) (sym h.1)
      (subst (λ v. Covers m c rows is to s q v) (sym (laws.unit_left y (weight_covers is mid s q y k)) ∙ ap (λ v. plus v y) h.3)
      (subst (λ x. Covers m c rows is x s q y) (sym h.2) k)))
  covers_parts e is s q y to (One u) left right mid w h k =
      let at = h.3 in
      subst (λ l. Covers m c rows (option_to_list l ++ (option_to_list right ++ is)) to (u ∷ s) q (plus w y)) (sym h.1)
      (subst (λ r. Covers m c rows (h.0 ∷ (option_to_list r ++ is)) to (u ∷ s) q (plus w y)) (sym h.2)
      (at.0, y, get_taken e rows h.0 at.0 at.1, at.2.0, at.2.1, subst (λ x. Covers m c rows is x s q y) (sym at.2.2) k, ap (λ v. plus v y) at.3))
  covers_parts e is s q y to (Two u v) left right mid w h k =
      let first = h.7 in
      let second = h.8 in
      let y_weight : IsWeight m y = weight_covers is mid s q y k in
      let x_weight : IsWeight m h.3 = subst (λ x. IsWeight m x) first.3 (admitted first.0.weight) in
      let x'_weight : IsWeight m h.4 = subst (λ x. IsWeight m x) second.3 (admitted second.0.weight) in
      subst (λ l. Covers m c rows (option_to_list l ++ (option_to_list right ++ is)) to (u ∷ v ∷ s) q (plus w y)) (sym h.5)
      (subst (λ r. Covers m c rows (h.0 ∷ (option_to_list r ++ is)) to (u ∷ v ∷ s) q (plus w y)) (sym h.6) (
        first.0,
        plus h.4 y,
        get_taken e rows h.0 first.0 first.1,
        first.2.0,
        first.2.1,
        (second.0, y, get_taken e rows h.1 second.0 second.1, second.2.0 ∙ sym first.2.2, second.2.1, subst (λ x. Covers m c rows is x s q y) (sym second.2.2) k, ap (λ x. plus x y) second.3),
        ap (λ x. plus x (plus h.4 y)) first.3 ∙ sym (laws.assoc h.3 h.4 y x_weight x'_weight y_weight) ∙ ap (λ x. plus x y) h.9,
      ))

  parts_weight : (e to : ℕ) (word : Word2) (left right : Option ℕ) (mid : ℕ) (w : List ℕ) → Parts m c (take e rows) to word left right mid w → IsWeight m w
  parts_weight e to Empty left right mid w h = subst (λ x. IsWeight m x) h.3 (weight_zero m)
  parts_weight e to (One u) left right mid w h = subst (λ x. IsWeight m x) h.3.3 (admitted h.3.0.weight)
  parts_weight e to (Two u v) left right mid w h =
      subst (λ x. IsWeight m x) h.9
      (laws.sum h.3 h.4 (subst (λ x. IsWeight m x) h.7.3 (admitted h.7.0.weight)) (subst (λ x. IsWeight m x) h.8.3 (admitted h.8.0.weight)))

  starts : (place : ℕ) (row : Row W) → slice_get rows place ≡ Some row → Unfolds m c rows row (place ∷ []) []
  starts place row at = record {
    spot = row.p;
    stack = row.g ∷ [];
    rest = c row.weight;
    covers = (row, zero_weight m, at, refl, refl, (refl, refl), laws.unit_right _ (admitted row.weight));
    run = λ rules made more h. h;
  }

  pub begins : (place : ℕ) (row : Row W) (todo : List ℕ) (ids : List RuleId) → slice_get rows place ≡ Some row → todo ≡ place ∷ [] → ids ≡ [] → Unfolds m c rows row (reverse todo) ids
  begins place row todo ids at e f =
      subst (λ x. Unfolds m c rows row (reverse x) ids) (sym e) (subst (λ x. Unfolds m c rows row (place ∷ []) x) (sym f) (starts place row at))

  top_within : (i : ℕ) (is : List ℕ) (p : ℕ) (s : List ℕ) (q : ℕ) (w : List ℕ) → Covers m c rows (i ∷ is) p s q w → i < length rows
  top_within i is p [] q w h = absurd h
  top_within i is p (g ∷ s) q w h = slice_get_within rows i h.0 h.2

  popped : (row : Row W) (i : ℕ) (todo rest : List ℕ) (ids : List RuleId) → todo ≡ rest ++ i ∷ [] → Unfolds m c rows row (reverse todo) ids → Unfolds m c rows row (i ∷ reverse rest) ids
  popped row i todo rest ids e h = subst (λ x. Unfolds m c rows row x ids) (ap reverse e ∙ reverse-append rest (i ∷ [])) h

  -- a place on the stack is one of a row
  pub in_range : (row : Row W) (i : ℕ) (todo rest : List ℕ) (ids : List RuleId) → todo ≡ rest ++ i ∷ [] → Unfolds m c rows row (reverse todo) ids → i < length rows
  in_range row i todo rest ids e h = let top = popped row i todo rest ids e h in top_within i (reverse rest) top.spot top.stack row.q top.rest top.covers

  module _ (some_rules : ℕ → ℕ → List (Rule W)) (made : EachAfter (IsMade m c some_rules) rows) (row next : Row W) (i : ℕ) (at : slice_get rows i ≡ Some next) where
    -- the rule of a row, and then a run for the rest, is a run
    one_rule : (rules : ℕ → ℕ → List (Rule W)) → EachAfter (IsMade m c rules) rows → (s : List ℕ) (more : List RuleId) (y w : List ℕ) → plus (c next.rule.weight) y ≡ w
        → NamedRun m c rules next.rule.to (symbols next.rule.word ++ s) more row.q y → NamedRun m c rules next.p (next.g ∷ s) (next.id ∷ more) row.q w
    one_rule rules are s more y w sum h = (
      next.rule ∷ h.0,
      (contains_from_get (rules next.p next.g) next.id.at next.rule (are i next at).0, h.1),
      ((are i next at).1.head.0, (are i next at).1.head.1, (are i next at).0, h.2),
      ap (λ x. plus (c next.rule.weight) x) h.3 ∙ sum,
    )

    one_step : (is : List ℕ) (ids : List RuleId) (p : ℕ) (s : List ℕ) (y : List ℕ) → Covers m c rows (i ∷ is) p s row.q y
        → ((rules : ℕ → ℕ → List (Rule W)) → EachAfter (IsMade m c rules) rows → (more : List RuleId)
        → NamedRun m c rules p s more row.q y → NamedRun m c rules row.p (row.g ∷ []) (ids ++ more) row.q (c row.weight))
        → Unfolds m c rows row (option_to_list next.left ++ (option_to_list next.right ++ is)) (ids ++ next.id ∷ [])
    one_step is ids p [] y cover run = absurd cover
    one_step is ids p (g ∷ s) y cover run =
        let same : cover.0 ≡ next = same_some (sym cover.2 ∙ at) in
        let here : (next.p ≡ p) × (next.g ≡ g) = subst (λ (x : Row W). (x.p ≡ p) × (x.g ≡ g)) same (cover.3, cover.4) in
        let below : Covers m c rows is next.q s row.q cover.1 = subst (λ (x : Row W). Covers m c rows is x.q s row.q cover.1) same cover.5 in
        let sum : plus (c next.weight) cover.1 ≡ y = subst (λ (x : Row W). plus (c x.weight) cover.1 ≡ y) same cover.6 in
        let parts = (made i next at).1.parts in
        let w : List ℕ = parts.0 in
        let w_weight : IsWeight m w = parts_weight i next.rule.to next.rule.word next.left next.right next.q w parts.1 in
        let regrouped : plus (c next.rule.weight) (plus w cover.1) ≡ y =
        sym (laws.assoc (c next.rule.weight) w cover.1 (admitted next.rule.weight) w_weight (weight_covers is next.q s row.q cover.1 below)) ∙ ap (λ x. plus x cover.1) (sym parts.2) ∙ sum in
        record {
          spot = next.rule.to;
          stack = symbols next.rule.word ++ s;
          rest = plus w cover.1;
          covers = covers_parts i is s row.q cover.1 next.rule.to next.rule.word next.left next.right next.q w parts.1 below;
          run = λ rules are more h.
              subst (λ x. NamedRun m c rules row.p (row.g ∷ []) x row.q (c row.weight)) (sym (append_assoc ids (next.id ∷ []) more))
              (run rules are (next.id ∷ more)
              (subst (λ x. NamedRun m c rules p (x ∷ s) (next.id ∷ more) row.q y) here.1
              (subst (λ x. NamedRun m c rules x (next.g ∷ s) (next.id ∷ more) row.q y) here.0 (one_rule rules are s more (plus w cover.1) y regrouped h))));
        }

    reversed_option : (o : Option ℕ) → reverse (option_to_list o) ≡ option_to_list o
    reversed_option None = refl
    reversed_option (Some x) = refl

    -- a turn of the loop
    pub unfolds_more : (todo rest new : List ℕ) (ids new_ids : List RuleId) → todo ≡ rest ++ i ∷ [] → new ≡ rest ++ (option_to_list next.right ++ option_to_list next.left) → new_ids ≡ ids ++ next.id ∷ []
        → Unfolds m c rows row (reverse todo) ids → Unfolds m c rows row (reverse new) new_ids
    unfolds_more todo rest new ids new_ids e f k h =
        let top = popped row i todo rest ids e h in
        let step = one_step (reverse rest) ids top.spot top.stack top.rest top.covers top.run in
        let turned : reverse new ≡ option_to_list next.left ++ (option_to_list next.right ++ reverse rest) =
        ap reverse f ∙ reverse-append rest (option_to_list next.right ++ option_to_list next.left)
        ∙ ap (λ x. x ++ reverse rest) (reverse-append (option_to_list next.right) (option_to_list next.left) ∙ ap (λ x. x ++ reverse (option_to_list next.right)) (reversed_option next.left) ∙ ap (λ x. option_to_list next.left ++ x) (reversed_option next.right))
        ∙ append_assoc (option_to_list next.left) (option_to_list next.right) (reverse rest) in
        subst (λ x. Unfolds m c rows row x new_ids) (sym turned) (subst (λ x. Unfolds m c rows row (option_to_list next.left ++ (option_to_list next.right ++ reverse rest)) x) (sym k) step)

  at_end : (rules : ℕ → ℕ → List (Rule W)) (row : Row W) (ids : List RuleId) (p : ℕ) (s : List ℕ) (y : List ℕ) → Covers m c rows [] p s row.q y
      → ((more : List RuleId) → NamedRun m c rules p s more row.q y → NamedRun m c rules row.p (row.g ∷ []) (ids ++ more) row.q (c row.weight)) → NamedRun m c rules row.p (row.g ∷ []) ids row.q (c row.weight)
  at_end rules row ids p [] y cover run =
      subst (λ x. NamedRun m c rules row.p (row.g ∷ []) x row.q (c row.weight)) (append-nil ids) (run [] ([], (cover.0, refl), tt, cover.1))
  at_end rules row ids p (g ∷ s) y cover run = absurd cover

  -- with nothing left, the run is whole
  pub ends : (row : Row W) (ids : List RuleId) → Unfolds m c rows row [] ids → (rules : ℕ → ℕ → List (Rule W)) → EachAfter (IsMade m c rules) rows → NamedRun m c rules row.p (row.g ∷ []) ids row.q (c row.weight)
  ends row ids h rules are = at_end rules row ids h.spot h.stack h.rest h.covers (h.run rules are)
