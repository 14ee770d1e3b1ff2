-- Two makers' certificates of a problem list the same heads, pairs and rows.
use Rattle.std.proofs.Common.{◌≡◌, ℕ, zero, suc, ◌+◌, ◌-◌, Bool, true, false, List, [], ◌∷◌, ◌++◌, length, take, drop, replicate, Option, Some, refl, arith, ap, sym, ◌∙◌, subst}
use Rattle.std.proofs.lemmas.List.{append_cancel_left}
use Rattle.wi_weight.specs.lemmas.Order.{at_most_both, not_below}
use Rattle.wi_world.specs.Runs.{is_less}
use Rattle.wi_trace.specs.declared.answer.Answer.{Answer}
use Rattle.wi_pds.specs.Closed.{Summary, Listed}
use Rattle.wi_pds.specs.LeastClosed.{Includes}
use Rattle.wi_rules.proofs.Lists.{In, in_contains, contains_in, in_map, map_in}
use Rattle.wi_build.specs.Problems.{Problem, IsProblem}
use Rattle.wi_cert.specs.declared.certificate.Certificate.{Certificate}
use Rattle.wi_cert.specs.declared.closed.Closed.{Closed}
use Rattle.wi_cert.specs.declared.row.Row.{Row}
use Rattle.wi_cert.specs.Shown.{is_no}
use Rattle.wi_cert.specs.Order.{EachAdded}
use Rattle.wi_cert.specs.Closed.{IsRow}
use Rattle.wi_accept.specs.Answers.{IsDecided, padded, run_of}
use Rattle.wi_accept.specs.Demands.{row}
use Rattle.wi_accept.specs.Causes.{rows_of, bound_of}
use Rattle.wi_accept.specs.Makers.{IsMaker, IsLeastWithin}
use Rattle.wi_accept.proofs.ListLemmas.{each_added}
use Rattle.wi_accept.proofs.OrderLemmas.{below_less}
use Rattle.wi_accept.proofs.WeightLemmas.{scale_laws, shown_six}
use Rattle.wi_accept.proofs.MakerLemmas.{run_is_least, shown_no}
use Rattle.wi_accept.proofs.RisingRows.{AllIn, one_pair_list, one_row_list}

-- ---- heads and pairs

-- what is within another list has its items there
all_in : (xs ys : List (ℕ × ℕ)) → Includes xs ys → AllIn xs ys
all_in xs ys includes x there = contains_in ys x (includes x (in_contains xs x there))

-- ---- the bound

-- weights of which neither is less are the same
neither_less : (a b : List ℕ) → length a ≡ 6 → length b ≡ 6 → is_less a b ≡ false → is_less b a ≡ false → a ≡ b
neither_less a b a_six b_six h k = at_most_both scale_laws a b a_six b_six
    (not_below scale_laws a b a_six b_six (λ below. let less = below_less b a (b_six ∙ sym a_six) below in cc))
    (not_below scale_laws b a b_six a_six (λ below. let less = below_less a b (a_six ∙ sym b_six) below in cc))

-- ---- rows

-- zeros in the same place of two lists can be taken out
without : (zeros : List ℕ) (n : ℕ) (a b : List ℕ) → length a ≡ length b → take n a ++ (zeros ++ drop n a) ≡ take n b ++ (zeros ++ drop n b) → a ≡ b
without zeros zero a b h e = append_cancel_left zeros a b e
without zeros (suc n) [] [] h e = refl
without zeros (suc n) [] (y ∷ b) h e = absurd (omega (arith, h))
without zeros (suc n) (x ∷ a) [] h e = absurd (omega (arith, h))
without zeros (suc n) (x ∷ a) (y ∷ b) h e =
    let first : x ≡ y = cc in
    let rest : a ≡ b = without zeros n a b (omega (arith, h)) (cc) in
    cc

-- a row from its numbers
abbrev made : ℕ → ℕ → ℕ → List ℕ → Row
made p g q w = record { p = p; g = g; q = q; weight = w }

-- a row is told by its summary and how many numbers its weight has
same_row : (terms : ℕ) (r s : Row) → length r.weight ≡ length s.weight → row r.p r.g r.q (padded terms r.weight) ≡ row s.p s.g s.q (padded terms s.weight) → r ≡ s
same_row terms r s h e =
    let spot : r.p ≡ s.p = ap (λ (x : Summary). x.p) e in
    let symbol : r.g ≡ s.g = ap (λ (x : Summary). x.g) e in
    let target : r.q ≡ s.q = ap (λ (x : Summary). x.q) e in
    let weight : r.weight ≡ s.weight = without (replicate (5 - terms) 0) terms r.weight s.weight h (ap (λ (x : Summary). x.weight) e) in
    ap (λ n. made n r.g r.q r.weight) spot ∙ ap (λ n. made s.p n r.q r.weight) symbol ∙ ap (λ n. made s.p s.g n r.weight) target ∙ ap (λ w. made s.p s.g s.q w) weight

-- a row's weight has a number for each term, and the effort
abbrev HasTerms : ℕ → Row → Type 0
HasTerms terms r = length r.weight ≡ terms + 1

-- so it is in every certificate that can be written
rows_have : (c : Certificate) → EachAdded (IsRow c.shown) [] c.closed.rows → (r : Row) → In c.closed.rows r → HasTerms c.shown.terms r
rows_have c each = each_added (IsRow c.shown) (HasTerms c.shown.terms) (λ before r h. h.weight) [] c.closed.rows each

-- ---- what the one certificate has, the other has

module _ (problem : Problem) (a b : Answer) (c d : Certificate) (k : IsProblem problem) (decided : IsDecided problem a) (also : IsDecided problem b) (maker : IsMaker problem a c) (other : IsMaker problem b d) where
  -- heads and pairs are the least closed ones in both
  heads_in : AllIn c.closed.heads d.closed.heads
  heads_in = all_in c.closed.heads d.closed.heads (maker.least.closed.within d.closed.heads d.closed.pairs other.least.closed.closed).0

  pairs_in : AllIn c.closed.pairs d.closed.pairs
  pairs_in = all_in c.closed.pairs d.closed.pairs (maker.least.closed.within d.closed.heads d.closed.pairs other.least.closed.closed).1

  -- where the one says no, the other shows no run
  no_run : is_no c.shown.claim ≡ true → is_no d.shown.claim ≡ false → ⊥
  no_run e f =
      let shown = run_is_least problem b d k also other f in
      (shown_no problem a c k decided maker e).moving (run_of problem.net d.shown) shown.moving shown.matches

  -- and where both show one, that of the other weighs no less
  no_lighter : is_no c.shown.claim ≡ false → is_no d.shown.claim ≡ false → is_less (padded d.shown.terms d.shown.weight) (padded c.shown.terms c.shown.weight) ≡ false
  no_lighter e f =
      let shown = run_is_least problem b d k also other f in
      ap (λ (w : List ℕ). is_less w (padded c.shown.terms c.shown.weight)) (sym shown.weight)
      ∙ (run_is_least problem a c k decided maker e).least (run_of problem.net d.shown) shown.moving shown.matches

  -- with the same heads and bound each row of the one is in the other
  rows_in : c.shown.terms ≡ d.shown.terms → c.closed.heads ≡ d.closed.heads → bound_of c.shown ≡ bound_of d.shown → AllIn c.closed.rows d.closed.rows
  rows_in terms heads bound r there =
      let w : List ℕ = padded c.shown.terms r.weight in
      let here : Listed (rows_of c.shown.terms c.closed.rows) r.p r.g r.q w
      = in_contains (rows_of c.shown.terms c.closed.rows) (row r.p r.g r.q w) (in_map (λ (x : Row). row x.p x.g x.q (padded c.shown.terms x.weight)) c.closed.rows r there) in
      let least : IsLeastWithin problem d.closed.heads (bound_of d.shown) r.p r.g r.q w
      = subst (λ (hs : List (ℕ × ℕ)). IsLeastWithin problem hs (bound_of d.shown) r.p r.g r.q w) heads
      (subst (λ (o : Option (List ℕ)). IsLeastWithin problem c.closed.heads o r.p r.g r.q w) bound ((maker.least.rows r.p r.g r.q w).0 here)) in
      let found = map_in (λ (x : Row). row x.p x.g x.q (padded d.shown.terms x.weight)) d.closed.rows (row r.p r.g r.q w)
      (contains_in (rows_of d.shown.terms d.closed.rows) (row r.p r.g r.q w) ((other.least.rows r.p r.g r.q w).1 least)) in
      let count : length found.0.weight ≡ length r.weight
      = rows_have d other.writable.closed.rows found.0 found.1 ∙ ap (λ n. n + 1) (sym terms) ∙ sym (rows_have c maker.writable.closed.rows r there) in
      subst (In d.closed.rows) (same_row d.shown.terms found.0 r count (found.2 ∙ ap (λ n. row r.p r.g r.q (padded n r.weight)) terms)) found.1

-- ---- both

-- heads, pairs and rows together
abbrev listing : List (ℕ × ℕ) → List (ℕ × ℕ) → List Row → Closed
listing heads pairs rows = record { heads = heads; pairs = pairs; rows = rows }

module _ (problem : Problem) (a b : Answer) (c d : Certificate) (k : IsProblem problem) (decided : IsDecided problem a) (also : IsDecided problem b) (maker : IsMaker problem a c) (other : IsMaker problem b d) where
  terms_same : c.shown.terms ≡ d.shown.terms
  terms_same = maker.terms ∙ sym other.terms

  heads_same : c.closed.heads ≡ d.closed.heads
  heads_same = one_pair_list c.closed.heads d.closed.heads maker.writable.closed.heads other.writable.closed.heads
      (heads_in problem a b c d k decided also maker other) (heads_in problem b a d c k also decided other maker)

  pairs_same : c.closed.pairs ≡ d.closed.pairs
  pairs_same = one_pair_list c.closed.pairs d.closed.pairs maker.writable.closed.pairs other.writable.closed.pairs
      (pairs_in problem a b c d k decided also maker other) (pairs_in problem b a d c k also decided other maker)

  -- both say no, or both show runs that weigh the same
  bound_same : bound_of c.shown ≡ bound_of d.shown
  bound_same = go (is_no c.shown.claim) (is_no d.shown.claim) refl refl
    where
      go : (x y : Bool) → is_no c.shown.claim ≡ x → is_no d.shown.claim ≡ y → bound_of c.shown ≡ bound_of d.shown
      go true true e f = rw (e, f) refl
      go true false e f = absurd (no_run problem a b c d k decided also maker other e f)
      go false true e f = absurd (no_run problem b a d c k also decided other maker f e)
      go false false e f = rw (e, f) (ap Some (neither_less (padded c.shown.terms c.shown.weight) (padded d.shown.terms d.shown.weight)
          (shown_six c.shown maker.writable.shown e) (shown_six d.shown other.writable.shown f)
          (no_lighter problem b a d c k also decided other maker f e) (no_lighter problem a b c d k decided also maker other e f)))

  rows_same : c.closed.rows ≡ d.closed.rows
  rows_same = one_row_list c.shown d.shown c.closed.rows d.closed.rows maker.writable.closed.rows other.writable.closed.rows
      (rows_in problem a b c d k decided also maker other terms_same heads_same bound_same)
      (rows_in problem b a d c k also decided other maker (sym terms_same) (sym heads_same) (sym bound_same))

  pub closed_alike : c.closed ≡ d.closed
  closed_alike =
      ap (λ (xs : List (ℕ × ℕ)). listing xs c.closed.pairs c.closed.rows) heads_same
      ∙ ap (λ (xs : List (ℕ × ℕ)). listing d.closed.heads xs c.closed.rows) pairs_same
      ∙ ap (λ (xs : List Row). listing d.closed.heads d.closed.pairs xs) rows_same
