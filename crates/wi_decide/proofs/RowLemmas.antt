-- The rows of a table that weigh less than its goal are just the least summaries below it, and no two are for one summary. Without
-- a goal's row these are all rows, and the least summaries below the cut.
use Rattle.std.proofs.Common.{◌≡◌, ◌↔◌, ℕ, zero, suc, ◌<◌, ◌≤◌, Bool, true, false, ◌&&◌, nat_eq, List, [], ◌∷◌, map, take, filter, length, get_or, slice_get, Option, Some, None, refl, sym, ap, ◌∙◌, subst, arith}
use Rattle.std.specs.Prelude.{option_map, IfSome}
use Rattle.std.specs.Option.{option_or}
use Rattle.std.specs.List.{All, AllByRecursion, IsDistinct}
use Rattle.std.specs.List.Sorted.{IsPermutation}
use Rattle.std.specs.Ordering.{is_lt}
use Rattle.std.specs.declared.cmp.Ordering.{Ordering}
use Rattle.std.specs.declared.cmp.Ordering.TheVariants.{Less, Equal, Greater}
use Rattle.std.proofs.lemmas.Bool.{and_parts, eqb-true, false_from_ne_true}
use Rattle.std.proofs.lemmas.List.Elements.{Contains-get_or}
use Rattle.std.proofs.lemmas.List.Sorted.{All-permutation, Contains-permutation, IsPermutation-map, IsPermutation-sym}
use Rattle.std.proofs.lemmas.Map.Keys.{IsDistinct-head, IsDistinct-tail, IsDistinct-cons, IsDistinct-from_apart, IsDistinct-IsPermutation}
use Rattle.std.proofs.lemmas.Option.{slice_get-get_or}
use Rattle.wi_quantity.specs.Weighing.{components}
use Rattle.wi_weight.specs.Weights.{Below, IsWeight}
use Rattle.wi_pds.specs.declared.rule.Rule.{Rule}
use Rattle.wi_pds.specs.Runs.{Least}
use Rattle.wi_pds.specs.Closed.{Summary, Listed, Within}
use Rattle.wi_saturate.specs.declared.row.Row as settled
use Rattle.wi_saturate.specs.Rows.{TableView}
use Rattle.wi_saturate.proofs.Elements.{contains_from_get, get_from_contains, get_from_listed}
use Rattle.wi_rules.proofs.Lists.{In, contains_in, in_contains, in_map, map_in, in_filter, filter_in}
use Rattle.wi_build.specs.Problems.{Problem, IsProblem}
use Rattle.wi_build.specs.Systems.{scale, rules}
use Rattle.wi_cert.specs.declared.row.Row.{Row}
use Rattle.wi_accept.specs.Answers.{padded}
use Rattle.wi_accept.specs.Causes.{rows_of}
use Rattle.wi_accept.specs.Demands.{row}
use Rattle.wi_accept.specs.Makers.{IsLeastWithin}
use Rattle.wi_accept.proofs.UnusedTerms.{pops_at, take_at}
use Rattle.wi_accept.proofs.WeightLemmas.{pops_weight, scale_laws}
use Rattle.wi_decide.specs.Showing.{Weight, shown_weight}
use Rattle.wi_decide.specs.private.Certificates.{row_by, rows_below, is_below, IsFitting}
use Rattle.wi_decide.specs.private.Tables.{IsTable}
use Rattle.wi_decide.proofs.WrittenLemmas.{HasTerms, padded_written}
use Rattle.wi_decide.proofs.RisingLemmas.{is_same, same_turned}

less_is : (o : Ordering) → is_lt o ≡ true → o ≡ Less
less_is Less h = refl
less_is Equal h = cc
less_is Greater h = cc

kept_within : (best cut : Option Weight) (v : Weight) → is_below best v ≡ true → Within scale (option_map components cut) (components v) → Within scale (option_map components (option_or best cut)) (components v)
kept_within None cut v below within = within
kept_within (Some b) cut v below within = less_is (scale.order (components v) (components b)) below

within_kept : (best cut : Option Weight) (v : Weight) → Within scale (option_map components (option_or best cut)) (components v) → is_below best v ≡ true
within_kept None cut v h = refl
within_kept (Some b) cut v h = ap is_lt h

-- what is below the goal's weight is so, and is below the cut as that is
within_if : (best cut : Option Weight) (w : List ℕ) → Within scale (option_map components (option_or best cut)) w → IfSome (option_map components best) (λ b. Below scale w b)
within_if None cut w h = tt
within_if (Some b) cut w h = h

within_cut : (rules : ℕ → ℕ → List (Rule Weight)) (best cut : Option Weight) (w : List ℕ) → IsWeight scale w → IfSome (option_map components best) (λ b. Least scale components rules 0 0 1 b × Within scale (option_map components cut) b)
    → Within scale (option_map components (option_or best cut)) w → Within scale (option_map components cut) w
within_cut rules None cut w weight goal h = h
within_cut rules (Some b) None w weight goal h = tt
within_cut rules (Some b) (Some c) w weight goal h = scale_laws.trans w (components b) (components c) weight refl refl h goal.1

-- what holds of each element that is in a list holds of all
all_in : {X : Type 0} (P : X → Type 0) (xs : List X) → ((x : X) → In xs x → P x) → All P xs
all_in P xs each i d low = each (get_or xs i d) (contains_in xs (get_or xs i d) (Contains-get_or xs i d low))

-- items that are kept and mapped are apart where the items are
module _ {X Y : Type 0} (apart : X → X → Bool) (same : Y → Y → Bool) (f : X → Y) (p : X → Bool) (agree : (x y : X) → same (f x) (f y) ≡ apart x y) where
  none_kept : (x : X) (xs : List X) → AllByRecursion (λ y. apart x y ≡ false) xs → AllByRecursion (λ y. same (f x) y ≡ false) (map f (filter p xs))
  none_kept x [] h = tt
  none_kept x (y ∷ xs) h = go (p y) refl (none_kept x xs h.1)
    where
      go : (b : Bool) → p y ≡ b → AllByRecursion (λ z. same (f x) z ≡ false) (map f (filter p xs)) → AllByRecursion (λ z. same (f x) z ≡ false) (map f (filter p (y ∷ xs)))
      go true e ih = rw e (agree x y ∙ h.0, ih)
      go false e ih = rw e ih

  kept_apart : (xs : List X) → IsDistinct apart xs → IsDistinct same (map f (filter p xs))
  unfolding IsDistinct
  kept_apart [] h = tt
  kept_apart (x ∷ xs) h = go (p x) refl (kept_apart xs (IsDistinct-tail apart x xs h))
    where
      go : (b : Bool) → p x ≡ b → IsDistinct same (map f (filter p xs)) → IsDistinct same (map f (filter p (x ∷ xs)))
      go true e ih = rw e (IsDistinct-cons same (f x) (map f (filter p xs)) (none_kept x xs (IsDistinct-head apart x xs h)) ih)
      go false e ih = rw e ih

get_early : {X : Type 0} (xs : List X) (i j : ℕ) → i < j → slice_get (take j xs) i ≡ slice_get xs i
get_early xs i zero h = absurd (omega (arith, h))
get_early [] i (suc j) h = refl
get_early (x ∷ xs) zero (suc j) h = refl
get_early (x ∷ xs) (suc i) (suc j) h = get_early xs i j (omega (arith, h))

abbrev is_same_settled : settled.Row Weight → settled.Row Weight → Bool
is_same_settled a b = nat_eq a.p b.p && (nat_eq a.g b.g && nat_eq a.q b.q)

module _ (problem : Problem) (heads : List (ℕ × ℕ)) (cut : Option Weight) (table : TableView Weight) (is : IsTable problem heads cut table) where
  -- each row's weight has components of 64 bits
  pub rows_fit : All IsFitting table.rows
  rows_fit i d low = (is.settled i (get_or table.rows i d) (slice_get-get_or table.rows i d low)).fits

  rows_apart : IsDistinct is_same_settled table.rows
  rows_apart = IsDistinct-from_apart is_same_settled table.rows (λ i j d early low. false_from_ne_true (is_same_settled (get_or table.rows i d) (get_or table.rows j d)) (twice i j d early low))
    where
      twice : (i j : ℕ) (d : settled.Row Weight) → i < j → j < length table.rows → is_same_settled (get_or table.rows i d) (get_or table.rows j d) ≡ true → ⊥
      twice i j d early low h =
          let a = get_or table.rows i d in
          let b = get_or table.rows j d in
          let p1 = and_parts (nat_eq a.p b.p) (nat_eq a.g b.g && nat_eq a.q b.q) h in
          let p2 = and_parts (nat_eq a.g b.g) (nat_eq a.q b.q) p1.1 in
          let here : slice_get (take j table.rows) i ≡ Some a = get_early table.rows i j early ∙ slice_get-get_or table.rows i d (omega (arith, early, low)) in
          (is.settled j b (slice_get-get_or table.rows j d low)).once (i, a, here, (eqb-true a.p b.p p1.0, eqb-true a.g b.g p2.0, eqb-true a.q b.q p2.1))

  -- rows that are those below the goal, in another order
  module _ (n : ℕ) (rows : List Row) (order : IsPermutation (rows_below n table) rows) where
    pub rows_distinct : IsDistinct is_same rows
    rows_distinct =
        IsDistinct-IsPermutation is_same same_turned (rows_below n table) rows order
        (kept_apart is_same_settled is_same (row_by n) (λ r. is_below table.best r.weight) (λ x y. refl) table.rows rows_apart)

    -- what holds of each row below the goal holds of all
    pub each_row : (P : Row → Type 0) → ((t : settled.Row Weight) → In table.rows t → Within scale (option_map components (option_or table.best cut)) (components t.weight) → P (row_by n t)) → All P rows
    each_row P each = All-permutation P (rows_below n table) rows order (all_in P (rows_below n table) from)
      where
        from : (x : Row) → In (rows_below n table) x → P x
        from x h =
            let m = map_in (row_by n) (filter (λ r. is_below table.best r.weight) table.rows) x h in
            let t = filter_in (λ r. is_below table.best r.weight) table.rows m.0 m.1 in
            let at = get_from_contains table.rows m.0 (in_contains table.rows m.0 t.0) in
            subst P m.2 (each m.0 t.0 (kept_within table.best cut (m.0).weight t.1 (is.settled at.0 m.0 at.1).within))

  module _ (k : IsProblem problem) (few : length problem.vector ≤ 5) where
    -- the terms that the vector hasn't are 0
    pub row_terms : (t : settled.Row Weight) → In table.rows t → HasTerms (length problem.vector) t.weight
    row_terms t there i past low =
        let at = get_from_contains table.rows t (in_contains table.rows t there) in
        take_at 5 (components t.weight) i (pops_at problem k t.p t.g t.q (components t.weight) (is.settled at.0 t at.1).least.0 i past low)

    -- what a row of a certificate says
    abbrev said : Row → Summary
    said r = row r.p r.g r.q (padded (length problem.vector) r.weight)

    abbrev IsWithin : Summary → Type 0
    IsWithin s = IsLeastWithin problem heads (option_map components (option_or table.best cut)) s.p s.g s.q s.weight

    from_row : (s : Summary) → In (map said (rows_below (length problem.vector) table)) s → IsWithin s
    from_row s h =
        let x = map_in said (rows_below (length problem.vector) table) s h in
        let m = map_in (row_by (length problem.vector)) (filter (λ r. is_below table.best r.weight) table.rows) x.0 x.1 in
        let t = filter_in (λ r. is_below table.best r.weight) table.rows m.0 m.1 in
        let at = get_from_contains table.rows m.0 (in_contains table.rows m.0 t.0) in
        let there = is.settled at.0 m.0 at.1 in
        let whole : padded (length problem.vector) (shown_weight (length problem.vector) (m.0).weight) ≡ components (m.0).weight = padded_written (length problem.vector) (m.0).weight few (row_terms m.0 t.0) in
        let here : IsWithin (row (m.0).p (m.0).g (m.0).q (components (m.0).weight)) = record { head = there.head; least = there.least; within = kept_within table.best cut (m.0).weight t.1 there.within } in
        subst IsWithin (ap (λ w. row (m.0).p (m.0).g (m.0).q w) (sym whole) ∙ (ap said m.2 ∙ x.2)) here

    to_row : (p g q : ℕ) (w : List ℕ) → IsLeastWithin problem heads (option_map components (option_or table.best cut)) p g q w → In (map said (rows_below (length problem.vector) table)) (row p g q w)
    to_row p g q w h =
        let weight = pops_weight (rules problem) p g q w h.least.0 in
        let within = within_cut (rules problem) table.best cut w weight is.found h.within in
        let found = get_from_listed components table.rows p g q w (is.complete p g q w h.head h.least within (within_if table.best cut w h.within)) in
        let t = found.1.0 in
        let at : slice_get table.rows found.0 ≡ Some t = found.1.1 in
        let there : In table.rows t = contains_in table.rows t (contains_from_get table.rows found.0 t at) in
        let weighs : components t.weight ≡ w = found.1.3 in
        let below : is_below table.best t.weight ≡ true = within_kept table.best cut t.weight (subst (Within scale (option_map components (option_or table.best cut))) (sym weighs) h.within) in
        let kept = in_map (row_by (length problem.vector)) (filter (λ r. is_below table.best r.weight) table.rows) t (in_filter (λ r. is_below table.best r.weight) table.rows t there below) in
        let whole : padded (length problem.vector) (shown_weight (length problem.vector) t.weight) ≡ w = padded_written (length problem.vector) t.weight few (row_terms t there) ∙ weighs in
        let same : said (row_by (length problem.vector) t) ≡ row p g q w =
        ap (λ x. row x t.g t.q (padded (length problem.vector) (shown_weight (length problem.vector) t.weight))) found.1.2.0
        ∙ ap (λ x. row p x t.q (padded (length problem.vector) (shown_weight (length problem.vector) t.weight))) found.1.2.1
        ∙ ap (λ x. row p g x (padded (length problem.vector) (shown_weight (length problem.vector) t.weight))) found.1.2.2
        ∙ ap (λ x. row p g q x) whole in
        subst (In (map said (rows_below (length problem.vector) table))) same (in_map said (rows_below (length problem.vector) table) (row_by (length problem.vector) t) kept)

    pub rows_listed : (rows : List Row) → IsPermutation (rows_below (length problem.vector) table) rows → (p g q : ℕ) (w : List ℕ)
        → Listed (rows_of (length problem.vector) rows) p g q w ↔ IsLeastWithin problem heads (option_map components (option_or table.best cut)) p g q w
    rows_listed rows order p g q w = (
      λ h. from_row (row p g q w) (contains_in (map said (rows_below (length problem.vector) table)) (row p g q w) (Contains-permutation (map said rows) (map said (rows_below (length problem.vector) table)) (row p g q w) (IsPermutation-sym _ _ moved) h)),
      λ h. Contains-permutation (map said (rows_below (length problem.vector) table)) (map said rows) (row p g q w) moved (in_contains (map said (rows_below (length problem.vector) table)) (row p g q w) (to_row p g q w h)),
    )
      where
        moved : IsPermutation (map said (rows_below (length problem.vector) table)) (map said rows)
        moved = IsPermutation-map said (rows_below (length problem.vector) table) rows order
