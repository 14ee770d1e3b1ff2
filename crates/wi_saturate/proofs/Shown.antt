-- What is kept of rules, with further right-hand sides and further rules.
use Rattle.std.specs.Prelude.{◌≡◌, ℕ, List, [], ◌∷◌, ◌++◌, Some, map, slice_get, slice_index_or, refl}
use Rattle.std.specs.List.{All}
use Rattle.std.proofs.Common.{ap, ◌∙◌}
use Rattle.std.proofs.Math.ListN.{get_or-append}
use Rattle.std.proofs.lemmas.List.{map-append}
use Rattle.std.proofs.lemmas.List.Elements.{All-head, All-tail}
use Rattle.std.proofs.lemmas.Option.{get_or_from_slice_get}
use Rattle.wi_saturate.specs.declared.rules.Ruled.{Ruled}
use Rattle.wi_saturate.specs.declared.sides.Side.{Side}
use Rattle.wi_saturate.specs.private.Sides.{SidesView}
use Rattle.wi_saturate.specs.private.Rulings.{RulesView, rule_by, rule_of, no_side, IsLink}

-- heads and rules of them
abbrev rules_seen : {W : Type 0} → List (ℕ × ℕ) → List (Ruled W) → RulesView W
rules_seen heads items = record { heads = heads; items = items }

module _ {W : Type 0} (heads : List (ℕ × ℕ)) (sides whole : SidesView W) (more : List (Side W)) (grown : whole ≡ record { items = sides.items ++ more; unit = sides.unit }) where
  items_grown : whole.items ≡ sides.items ++ more
  items_grown = ap (λ (v : SidesView W). v.items) grown

  -- with further sides links stand for the same rules
  same_rule : (link : ℕ × ℕ) → IsLink heads sides link → rule_of heads whole link ≡ rule_of heads sides link
  same_rule link is =
      ap (λ (v : SidesView W). rule_of heads v link) grown
      ∙ ap (rule_by link.0 (slice_index_or heads link.0 (0, 0))) (get_or-append sides.items more (no_side sides.unit) link.1 is.1)

  all_same : (links : List (ℕ × ℕ)) → All (IsLink heads sides) links → map (rule_of heads whole) links ≡ map (rule_of heads sides) links
  all_same [] all = refl
  all_same (x ∷ xs) all =
      ap (λ y. y ∷ map (rule_of heads whole) xs) (same_rule x (All-head (IsLink heads sides) x xs all))
      ∙ ap (λ ys. rule_of heads sides x ∷ ys) (all_same xs (All-tail (IsLink heads sides) x xs all))

  module _ (old new : List (ℕ × ℕ)) (head number : ℕ) (side : Side W) (h : ℕ × ℕ) (ruled : Ruled W) (all : All (IsLink heads sides) old) (added : new ≡ old ++ (head, number) ∷ [])
      (at : slice_get heads head ≡ Some h) (there : slice_get whole.items number ≡ Some side) (is : rule_by head h side ≡ ruled) where
    rule_added : map (rule_of heads whole) new ≡ map (rule_of heads sides) old ++ ruled ∷ []
    rule_added =
        ap (map (rule_of heads whole)) added ∙ map-append (rule_of heads whole) old ((head, number) ∷ [])
        ∙ ap (λ ys. ys ++ rule_of heads whole (head, number) ∷ []) (all_same old all)
        ∙ ap (λ y. map (rule_of heads sides) old ++ y ∷ [])
        (ap (λ x. rule_by head x (slice_index_or whole.items number (no_side whole.unit))) (get_or_from_slice_get heads head h (0, 0) at)
        ∙ ap (rule_by head h) (get_or_from_slice_get whole.items number side (no_side whole.unit) there)
        ∙ is)

    -- the same, seen as rules of heads
    pub pushed : (now : RulesView W) → rules_seen heads (map (rule_of heads sides) old) ≡ now → rules_seen heads (map (rule_of heads whole) new) ≡ rules_seen now.heads (now.items ++ ruled ∷ [])
    pushed now is_now =
        let further : RulesView W → RulesView W = λ v. rules_seen v.heads (v.items ++ ruled ∷ []) in
        ap (rules_seen heads) rule_added ∙ ap further is_now
