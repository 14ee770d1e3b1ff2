-- The rows of a leaf that weigh less than what is shown: they are just the least summaries below it.
use Rattle.std.proofs.Common.{◌≡◌, ℕ, ◌+◌, ◌-◌, ◌≤◌, Bool, true, false, ◌||◌, List, [], ◌∷◌, ◌++◌, length, take, drop, replicate, filter, Option, inl, inr, refl, arith, sym, ap, ◌∙◌, subst, length-append, length-take, length-drop}
use Rattle.std.specs.Prelude.{IfSome}
use Rattle.std.specs.Cmp.Lexicographic.{slice_cmp}
use Rattle.std.specs.Ordering.{nat_cmp}
use Rattle.std.specs.declared.cmp.Ordering.{Ordering}
use Rattle.std.specs.declared.cmp.Ordering.TheVariants.{Less, Equal, Greater}
use Rattle.std.proofs.lemmas.List.{length-replicate}
use Rattle.wi_weight.specs.Weights.{IsWeight}
use Rattle.wi_pds.specs.Closed.{Summary, Listed, Within}
use Rattle.wi_rules.proofs.Lists.{In, in_contains, contains_in, in_map, map_in}
use Rattle.wi_trees.specs.Trees.{IsBelow}
use Rattle.wi_build.specs.Problems.{Problem}
use Rattle.wi_build.specs.Systems.{scale, rules}
use Rattle.wi_cert.specs.declared.closed.Closed.{Closed}
use Rattle.wi_cert.specs.declared.row.Row.{Row}
use Rattle.wi_cert.specs.declared.shown.Shown.{Shown}
use Rattle.wi_cert.specs.Shown.{is_no, IsShown}
use Rattle.wi_cert.specs.Closed.{is_less, is_lighter}
use Rattle.wi_accept.specs.Answers.{padded}
use Rattle.wi_accept.specs.Causes.{rows_of, bound_of}
use Rattle.wi_accept.specs.Demands.{row}
use Rattle.wi_accept.specs.Makers.{AreLeast, IsLeastWithin}
use Rattle.wi_accept.proofs.OrderLemmas.{below_within, parts_compared, within_below}
use Rattle.wi_accept.proofs.WeightLemmas.{bound_weight, pops_weight, shown_six}
use Rattle.wi_decide.specs.Searches.{lowered}
use Rattle.wi_decide.proofs.WrittenLemmas.{padded_compared}

-- what is padded to six numbers had one for each term, and the effort
padded_count : (n : ℕ) (xs : List ℕ) → n ≤ 5 → length (padded n xs) ≡ 6 → length xs ≡ n + 1
padded_count n xs few six = omega (
  arith,
  few,
  six,
  length-append (take n xs) (replicate (5 - n) 0 ++ drop n xs),
  length-append (replicate (5 - n) 0) (drop n xs),
  length-take n xs,
  length-drop n xs,
  length-replicate {A = ℕ} (5 - n) 0,
)

is_less_less : (o : Ordering) → is_less o ≡ true → o ≡ Less
is_less_less Less h = refl
is_less_less Equal h = cc
is_less_less Greater h = cc

-- what is kept of a list stands in it and passes, and the other way round
filter_in : {A : Type 0} (p : A → Bool) (xs : List A) (x : A) → In (filter p xs) x → In xs x × (p x ≡ true)
filter_in p [] x i = absurd i
filter_in p (y ∷ ys) x i = go (p y) refl (filter_in p ys x)
  where
    go : (b : Bool) → p y ≡ b → (In (filter p ys) x → In ys x × (p x ≡ true)) → In (y ∷ ys) x × (p x ≡ true)
    go true e rest =
        let kept : In (y ∷ filter p ys) x = rw e at i in
        elim kept [ inl same ↦ (inl same, subst (λ z. p z ≡ true) same e) | inr later ↦ (inr (rest later).0, (rest later).1) ]
    go false e rest = let kept : In (filter p ys) x = rw e at i in (inr (rest kept).0, (rest kept).1)

in_filter : {A : Type 0} (p : A → Bool) (xs : List A) (x : A) → In xs x → p x ≡ true → In (filter p xs) x
in_filter p [] x i passes = absurd i
in_filter p (y ∷ ys) x (inl same) passes = let this : p y ≡ true = subst (λ z. p z ≡ true) (sym same) passes in rw this (inl same)
in_filter p (y ∷ ys) x (inr later) passes = go (p y) refl (in_filter p ys x later passes)
  where
    go : (b : Bool) → p y ≡ b → In (filter p ys) x → In (filter p (y ∷ ys)) x
    go true e rest = rw e (inr rest)
    go false e rest = rw e rest

-- padded numbers are weighed as they compare
padded_order : (n : ℕ) (xs ys : List ℕ) → length xs ≡ length ys → length (padded n xs) ≡ length (padded n ys) → scale.order (padded n xs) (padded n ys) ≡ slice_cmp nat_cmp xs ys
padded_order n xs ys same both = parts_compared 5 (padded n xs) (padded n ys) both ∙ padded_compared (5 - n) n xs ys same

module _ (problem : Problem) (n : ℕ) (s : Shown) (shown : IsShown s) (terms : s.terms ≡ n) (few : n ≤ 5) where
  -- a row that is lighter than what is shown is within its bound, and the other way round
  light_within : (r : Row) → length (padded n r.weight) ≡ 6 → is_lighter s r ≡ true → Within scale (bound_of s) (padded n r.weight)
  light_within r six light = go (is_no s.claim) refl
    where
      go : (b : Bool) → is_no s.claim ≡ b → Within scale (bound_of s) (padded n r.weight)
      go true e = rw e tt
      go false e =
          let less : is_less (slice_cmp nat_cmp r.weight s.weight) ≡ true = rw e at light in
          let counted : length s.weight ≡ s.terms + 1 = rw e at shown.weight in
          let same : length r.weight ≡ length s.weight = padded_count n r.weight few six ∙ ap (λ m. m + 1) (sym terms) ∙ sym counted in
          let order = padded_order n r.weight s.weight same (six ∙ sym (ap (λ m. length (padded m s.weight)) (sym terms) ∙ shown_six s shown e)) in
          rw e (subst (λ m. scale.order (padded n r.weight) (padded m s.weight) ≡ Less) (sym terms) (order ∙ is_less_less (slice_cmp nat_cmp r.weight s.weight) less))

  within_light : (r : Row) → length (padded n r.weight) ≡ 6 → Within scale (bound_of s) (padded n r.weight) → is_lighter s r ≡ true
  within_light r six within = go (is_no s.claim) refl
    where
      go : (b : Bool) → is_no s.claim ≡ b → (is_no s.claim || is_less (slice_cmp nat_cmp r.weight s.weight)) ≡ true
      go true e = rw e refl
      go false e =
          let counted : length s.weight ≡ s.terms + 1 = rw e at shown.weight in
          let same : length r.weight ≡ length s.weight = padded_count n r.weight few six ∙ ap (λ m. m + 1) (sym terms) ∙ sym counted in
          let order = padded_order n r.weight s.weight same (six ∙ sym (ap (λ m. length (padded m s.weight)) (sym terms) ∙ shown_six s shown e)) in
          let inside : scale.order (padded n r.weight) (padded s.terms s.weight) ≡ Less = rw e at within in
          let less : slice_cmp nat_cmp r.weight s.weight ≡ Less = sym order ∙ subst (λ m. scale.order (padded n r.weight) (padded m s.weight) ≡ Less) terms inside in
          rw (e, less) refl

  abbrev as_row : Row → Summary
  as_row r = row r.p r.g r.q (padded n r.weight)

  -- what of a leaf is lighter is just what is least below what is shown, where the leaf's own bound is no lower
  pub least_lowered : (bound : Option (List ℕ)) (c : Closed) → IfSome bound (λ b. IsWeight scale b) → ((x : List ℕ) → IsBelow (bound_of s) x → IsBelow bound x) → AreLeast problem n bound c
      → AreLeast problem n (bound_of s) (lowered s c)
  least_lowered bound c bound_is falls least = record {
    closed = least.closed;
    rows = λ p g q w. (there p g q w, back p g q w);
  }
    where
      six : (p g q : ℕ) (w : List ℕ) → IsLeastWithin problem c.heads bound p g q w → length w ≡ 6
      six p g q w is = pops_weight (rules problem) p g q w is.least.0

      there : (p g q : ℕ) (w : List ℕ) → Listed (rows_of n (filter (is_lighter s) c.rows)) p g q w → IsLeastWithin problem c.heads (bound_of s) p g q w
      there p g q w at =
          let found = map_in as_row (filter (is_lighter s) c.rows) (row p g q w) (contains_in (rows_of n (filter (is_lighter s) c.rows)) (row p g q w) at) in
          let kept = filter_in (is_lighter s) c.rows found.0 found.1 in
          let weight_is : padded n found.0.weight ≡ w = ap (λ (x : Summary). x.weight) found.2 in
          let old = (least.rows p g q w).0 (in_contains (rows_of n c.rows) (row p g q w) (subst (In (rows_of n c.rows)) found.2 (in_map as_row c.rows found.0 kept.0))) in
          let count : length (padded n found.0.weight) ≡ 6 = ap length weight_is ∙ six p g q w old in
          record {
            head = old.head;
            least = old.least;
            within = subst (Within scale (bound_of s)) weight_is (light_within found.0 count kept.1);
          }

      back : (p g q : ℕ) (w : List ℕ) → IsLeastWithin problem c.heads (bound_of s) p g q w → Listed (rows_of n (filter (is_lighter s) c.rows)) p g q w
      back p g q w is =
          let weight = pops_weight (rules problem) p g q w is.least.0 in
          let wider = below_within bound bound_is w weight (falls w (within_below (bound_of s) (bound_weight s shown) w weight is.within)) in
          let old = (least.rows p g q w).1 (record { head = is.head; least = is.least; within = wider }) in
          let found = map_in as_row c.rows (row p g q w) (contains_in (rows_of n c.rows) (row p g q w) old) in
          let weight_is : padded n found.0.weight ≡ w = ap (λ (x : Summary). x.weight) found.2 in
          let count : length (padded n found.0.weight) ≡ 6 = ap length weight_is ∙ weight in
          let light = within_light found.0 count (subst (Within scale (bound_of s)) (sym weight_is) is.within) in
          in_contains (rows_of n (filter (is_lighter s) c.rows)) (row p g q w)
          (subst (In (rows_of n (filter (is_lighter s) c.rows))) found.2 (in_map as_row (filter (is_lighter s) c.rows) found.0 (in_filter (is_lighter s) c.rows found.0 found.1 light)))
