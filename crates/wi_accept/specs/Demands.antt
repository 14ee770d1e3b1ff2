-- What rows there must be for rows to be closed, in the order in which they are asked for.
use Rattle.std.specs.Prelude.{ℕ, Bool, true, false, not, ◌&&◌, ◌==◌, List, [], ◌∷◌, Option, Some, None, map, filter, find, option_map}
use Rattle.std.specs.List.{flat_map}
use Rattle.std.specs.Option.{option_map_or}
use Rattle.std.specs.Ordering.{is_lt, is_le}
use Rattle.wi_weight.specs.Weights.{Scale, plus}
use Rattle.wi_pds.specs.declared.rule.Word2.{Word2}
use Rattle.wi_pds.specs.declared.rule.Word2.TheVariants.{Empty, One, Two}
use Rattle.wi_pds.specs.declared.rule.Rule.{Rule}
use Rattle.wi_pds.specs.Closed.{Summary}

-- the rows from p with g on top, in their order
abbrev pub rows_at : List Summary → ℕ → ℕ → List Summary
rows_at rows p g = filter (λ r. r.p == p && r.g == g) rows

abbrev pub row : ℕ → ℕ → ℕ → List ℕ → Summary
row p g q w = record { p = p; g = g; q = q; weight = w }

-- the rows that there must be, each of at most this weight, by a rule of (p, g) of weight w that goes to a state and writes a
-- word, with rows for that word
abbrev pub demands : List Summary → ℕ → ℕ → List ℕ → ℕ → Word2 → List Summary
demands rows p g w to Empty = row p g to w ∷ []
demands rows p g w to (One u) = map (λ r. row p g r.q (plus w r.weight)) (rows_at rows to u)
demands rows p g w to (Two u v) = flat_map (λ r. map (λ s. row p g s.q (plus (plus w r.weight) s.weight)) (rows_at rows r.q v)) (rows_at rows to u)

-- by the rules of a head, rule by rule
abbrev pub demands_at : {W : Type 0} → (W → List ℕ) → List Summary → ℕ → ℕ → List (Rule W) → List Summary
demands_at c rows p g rules = flat_map (λ r. demands rows p g (c r.weight) r.to r.word) rules

-- by the rules of heads, head by head
abbrev pub demands_of : {W : Type 0} → (W → List ℕ) → (ℕ → ℕ → List (Rule W)) → List Summary → List (ℕ × ℕ) → List Summary
demands_of c rules rows heads = flat_map (λ h. demands_at c rows h.0 h.1 (rules h.0 h.1)) heads

-- below the bound, if there is one
abbrev pub is_within : Scale → Option (List ℕ) → List ℕ → Bool
is_within m None w = true
is_within m (Some b) w = is_lt (m.order w b)

-- the first row to q among those from p with g on top
abbrev pub row_to : List Summary → ℕ → ℕ → ℕ → Option Summary
row_to rows p g q = find (λ r. r.q == q) (rows_at rows p g)

-- there is a row for it, of at most its weight
abbrev pub is_met : Scale → List Summary → Summary → Bool
is_met m rows d = option_map_or (λ r. is_le (m.order r.weight d.weight)) (row_to rows d.p d.g d.q) false

-- it must be there, and isn't
abbrev pub is_open : Scale → Option (List ℕ) → List Summary → Summary → Bool
is_open m bound rows d = is_within m bound d.weight && not (is_met m rows d)

-- the first that must be there and isn't: head by head, rule by rule, row by row
abbrev pub first_open : {W : Type 0} → Scale → (W → List ℕ) → (ℕ → ℕ → List (Rule W)) → List (ℕ × ℕ) → List Summary → Option (List ℕ) → Option Summary
first_open m c rules heads rows bound = find (λ d. is_open m bound rows d) (demands_of c rules rows heads)

-- what the row from p with g on top to q weighs, if there is one
abbrev pub weight_to : List Summary → ℕ → ℕ → ℕ → Option (List ℕ)
weight_to rows p g q = option_map (λ r. r.weight) (row_to rows p g q)
