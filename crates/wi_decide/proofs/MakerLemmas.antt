-- What a search writes down, and that it is the certificate that a maker writes for the answer.
use Rattle.std.proofs.Common.{◌≡◌, ℕ, ◌+◌, ◌≤◌, ◌^◌, Bool, true, false, ◌||◌, nat_le, List, [], filter, length, Option, Some, None, Result, Ok, Err, refl, sym, ap, ◌∙◌, subst, arith}
use Rattle.std.specs.Prelude.{option_map, IfOk, IfSome}
use Rattle.std.specs.Option.{option_or}
use Rattle.std.specs.List.{All, list_all}
use Rattle.std.specs.List.Sorted.{IsPermutation, IsSortedBy, IsStrictlySortedBy}
use Rattle.std.specs.Cmp.Lexicographic.{slice_cmp}
use Rattle.std.specs.Ordering.{nat_cmp}
use Rattle.std.proofs.lemmas.Bool.{and_parts, leb-true}
use Rattle.wi_base.specs.declared.no_memory.NoMemory.{NoMemory}
use Rattle.wi_weight.specs.Weights.{EachBelow}
use Rattle.wi_quantity.specs.declared.vector.Part.{Part}
use Rattle.wi_quantity.specs.Vectors.{is_term, is_vector}
use Rattle.wi_quantity.specs.Weighing.{components}
use Rattle.wi_trace.specs.declared.answer.Answer.{Answer}
use Rattle.wi_pds.specs.Closed.{Within}
use Rattle.wi_pds.specs.LeastClosed.{AreLeastClosed}
use Rattle.wi_pds.specs.Pairs.{pair_cmp}
use Rattle.wi_saturate.specs.Rows.{TableView}
use Rattle.wi_build.specs.Problems.{Problem, IsProblem}
use Rattle.wi_build.specs.Systems.{rules, scale}
use Rattle.wi_cert.specs.declared.closed.Closed.{Closed}
use Rattle.wi_cert.specs.declared.row.Row.{Row}
use Rattle.wi_cert.specs.declared.shown.Shown.{Shown}
use Rattle.wi_cert.specs.Order.{pair_below, row_below, is_next, EachAdded}
use Rattle.wi_cert.specs.Shown.{IsShown, is_no}
use Rattle.wi_cert.specs.Closed.{IsClosed, IsRow, is_less, is_lighter}
use Rattle.wi_accept.specs.Answers.{IsDecided, padded}
use Rattle.wi_accept.specs.Causes.{bound_of}
use Rattle.wi_accept.specs.Makers.{AreLeast, IsMaker}
use Rattle.wi_accept.proofs.RisingRows.{row_below_trans}
use Rattle.wi_decide.specs.declared.searching.LeastRun.{LeastRun}
use Rattle.wi_decide.specs.declared.searching.Evidence.{Evidence}
use Rattle.wi_decide.specs.Searches.{IsEvidence, IsWrittenDown, bound_with, lowered}
use Rattle.wi_decide.specs.Showing.{Weight, shown_by, shown_weight}
use Rattle.wi_decide.specs.private.Certificates.{row_by, rows_below}
use Rattle.wi_decide.specs.private.Tables.{IsTable}
use Rattle.wi_decide.proofs.AnswerLemmas.{goal_fits}
use Rattle.wi_decide.proofs.RisingLemmas.{added, all_filter, filter_rises, pairs_rise, rows_rise}
use Rattle.wi_decide.proofs.RowLemmas.{each_row, row_terms, rows_distinct, rows_listed}
use Rattle.wi_decide.proofs.ShowingLemmas.{Shows, about_asked, shows}
use Rattle.wi_decide.proofs.WrittenLemmas.{HasTerms, written_length, written_less}

pub few_terms : (vector : List (List Part)) → is_vector vector ≡ true → length vector ≤ 5
few_terms vector h = leb-true (length vector) 5 (and_parts (nat_le (length vector) 5) (list_all is_term vector) h).0

-- a run that weighs what the table's goal does has a weight of 64 bits
pub found_small : (problem : Problem) (heads : List (ℕ × ℕ)) (cut : Option Weight) (table : TableView Weight) (found : Option LeastRun) → IsTable problem heads cut table → option_map (λ f. f.weight) found ≡ table.best
    → IfSome found (λ f. EachBelow (2 ^ 64) (components f.weight))
found_small problem heads cut table None is same = tt
found_small problem heads cut table (Some f) is same = goal_fits problem heads cut table f.weight is (sym same)

-- pairs that rise are each added
pairs_added : (xs : List (ℕ × ℕ)) → IsStrictlySortedBy pair_cmp xs → EachAdded (λ before x. is_next pair_below before x ≡ true) [] xs
pairs_added xs h = added pair_below (λ (x : ℕ × ℕ). Unit {0}) (λ before x. is_next pair_below before x ≡ true) (λ before x next p. next) xs (pairs_rise xs h) (λ i d low. tt)

-- a weight below what bounds the rows is lighter than whatever shows that bound
below_shown : (n : ℕ) (s : Shown) (bound : Option Weight) (w : Weight) → n ≤ 5 → s.terms ≡ n → HasTerms n w → length s.weight ≡ n + 1
    → Some (padded s.terms s.weight) ≡ option_map components bound → Within scale (option_map components bound) (components w) → is_less (slice_cmp nat_cmp (shown_weight n w) s.weight) ≡ true
below_shown n s None w few terms h count is within = cc
below_shown n s (Some b) w few terms h count is within =
    let same : padded s.terms s.weight ≡ components b = cc in
    ap is_less (written_less n w b s.weight few h count (ap (λ m. padded m s.weight) (sym terms) ∙ same) within)

lighter : (n : ℕ) (s : Shown) (bound : Option Weight) (r : Row) (w : Weight) → n ≤ 5 → IsShown s → s.terms ≡ n → bound_of s ≡ option_map components bound → HasTerms n w
    → r.weight ≡ shown_weight n w → Within scale (option_map components bound) (components w) → is_lighter s r ≡ true
lighter n s bound r w few k terms is h same within = go (is_no s.claim) refl
  where
    go : (b : Bool) → is_no s.claim ≡ b → (is_no s.claim || is_less (slice_cmp nat_cmp r.weight s.weight)) ≡ true
    go true e = rw e refl
    go false e =
        let count : length s.weight ≡ s.terms + 1 = rw e at k.weight in
        rw (e, same) (below_shown n s bound w few terms h (omega (arith, count, terms)) (rw e at is) within)

-- heads and pairs as they were found, and the rows of the table below its goal, sorted
pub record IsListed (problem : Problem) (cut : Option Weight) (table : TableView Weight) (closed : Closed) : Type 0 where
  pub table_is : IsTable problem closed.heads cut table
  pub least : AreLeastClosed (rules problem) (0, 0) closed.heads closed.pairs
  pub heads : IsStrictlySortedBy pair_cmp closed.heads
  pub pairs : IsStrictlySortedBy pair_cmp closed.pairs
  pub rows : IsPermutation (rows_below (length problem.vector) table) closed.rows
  pub sorted : IsSortedBy row_below closed.rows

-- a row has the terms of the weight that is shown, and is lighter
abbrev HasCount : Shown → Row → Type 0
HasCount s r = length r.weight ≡ s.terms + 1

abbrev IsRight : Shown → Row → Type 0
IsRight s r = HasCount s r × (is_lighter s r ≡ true)

module _ (problem : Problem) (k : IsProblem problem) (few : length problem.vector ≤ 5) (cut : Option Weight) (table : TableView Weight) (closed : Closed) (l : IsListed problem cut table closed) where
  -- they can be written under whatever shows their bound
  writable : (s : Shown) → IsShown s → s.terms ≡ length problem.vector → bound_of s ≡ option_map components (option_or table.best cut) → IsClosed s closed
  writable s shown terms bound = record {
    heads = pairs_added closed.heads l.heads;
    pairs = pairs_added closed.pairs l.pairs;
    rows = added row_below (IsRight s) (IsRow s) (λ before x next f. record { weight = f.0; next = next; lighter = f.1 }) closed.rows
        (rows_rise closed.rows l.sorted (rows_distinct problem closed.heads cut table l.table_is (length problem.vector) closed.rows l.rows)) fine;
  }
    where
      fine : All (IsRight s) closed.rows
      fine = each_row problem closed.heads cut table l.table_is (length problem.vector) closed.rows l.rows (IsRight s) (λ t there within. (
        written_length (length problem.vector) t.weight few ∙ ap (λ m. m + 1) (sym terms),
        lighter (length problem.vector) s (option_or table.best cut) (row_by (length problem.vector) t) t.weight few shown terms bound (row_terms problem closed.heads cut table l.table_is k few t there) refl within,
      ))

  -- and the lighter rows under whatever is shown
  lower_writable : (s : Shown) → IsShown s → s.terms ≡ length problem.vector → IsClosed s (lowered s closed)
  lower_writable s shown terms = record {
    heads = pairs_added closed.heads l.heads;
    pairs = pairs_added closed.pairs l.pairs;
    rows = added row_below (IsRight s) (IsRow s) (λ before x next f. record { weight = f.0; next = next; lighter = f.1 }) (filter (is_lighter s) closed.rows)
        (filter_rises row_below row_below_trans (is_lighter s) closed.rows
        (rows_rise closed.rows l.sorted (rows_distinct problem closed.heads cut table l.table_is (length problem.vector) closed.rows l.rows)))
        (all_filter (HasCount s) (IsRight s) (is_lighter s) (λ r count light. (count, light)) closed.rows counted);
  }
    where
      counted : All (HasCount s) closed.rows
      counted = each_row problem closed.heads cut table l.table_is (length problem.vector) closed.rows l.rows (HasCount s)
          (λ t there within. written_length (length problem.vector) t.weight few ∙ ap (λ m. m + 1) (sym terms))

  written_down : IsWrittenDown problem (option_map components (option_or table.best cut)) closed
  written_down = record {
    least = record { closed = l.least; rows = rows_listed problem closed.heads cut table l.table_is k few closed.rows l.rows };
    writable = writable;
    lowered = lower_writable;
  }

-- what bounds every run is the weight of the run that was found, or the cut
pub bound_is : (cut : Option Weight) (found : Option LeastRun) (best : Option Weight) → option_map (λ f. f.weight) found ≡ best → bound_with (option_map components cut) found ≡ option_map components (option_or best cut)
bound_is cut None best same = ap (λ (b : Option Weight). option_map components (option_or b cut)) same
bound_is cut (Some f) best same = ap (λ (b : Option Weight). option_map components (option_or b cut)) same

-- evidence is written down by what each step of writing promises
written_by : (problem : Problem) (e : Evidence) (closed : Closed) (terms : ℕ) → IsProblem problem → is_vector problem.vector ≡ true → terms ≡ length problem.vector
    → closed.heads ≡ e.heads.heads → closed.pairs ≡ e.heads.pairs → IsStrictlySortedBy pair_cmp e.heads.heads → IsStrictlySortedBy pair_cmp e.heads.pairs
    → IsPermutation (rows_below terms e.table) closed.rows → IsSortedBy row_below closed.rows → (bound : Option (List ℕ)) → IsEvidence problem bound e → IsWrittenDown problem bound closed
written_by problem e closed terms k v terms_are heads_are pairs_are heads_rise pairs_rise rows sorted bound is =
    let heads = e.heads.heads in
    let pairs = e.heads.pairs in
    let table = e.table in
    let cut = is.cut in
    let listed : IsListed problem cut table closed = record {
      table_is = subst (λ (hs : List (ℕ × ℕ)). IsTable problem hs cut table) (sym heads_are) is.table;
      least = subst (λ (hs : List (ℕ × ℕ)). AreLeastClosed (rules problem) (0, 0) hs closed.pairs) (sym heads_are)
          (subst (λ (ps : List (ℕ × ℕ)). AreLeastClosed (rules problem) (0, 0) heads ps) (sym pairs_are) is.closed);
      heads = subst (IsStrictlySortedBy pair_cmp) (sym heads_are) heads_rise;
      pairs = subst (IsStrictlySortedBy pair_cmp) (sym pairs_are) pairs_rise;
      rows = subst (λ m. IsPermutation (rows_below m table) closed.rows) terms_are rows;
      sorted = sorted;
    } in
    subst (λ (b : Option (List ℕ)). IsWrittenDown problem b closed) (sym is.bound_is) (written_down problem k (few_terms problem.vector v) cut table closed listed)

-- so it is by what is promised of writing it down
pub written_ok : (r : Result Closed NoMemory) (problem : Problem) (e : Evidence) (terms : ℕ) → IsProblem problem → is_vector problem.vector ≡ true → terms ≡ length problem.vector
    → IfOk r (λ closed. closed.heads ≡ e.heads.heads) → IfOk r (λ closed. closed.pairs ≡ e.heads.pairs) → IsStrictlySortedBy pair_cmp e.heads.heads → IsStrictlySortedBy pair_cmp e.heads.pairs
    → IfOk r (λ closed. IsPermutation (rows_below terms e.table) closed.rows) → IfOk r (λ closed. IsSortedBy row_below closed.rows)
    → IfOk r (λ closed. (bound : Option (List ℕ)) → IsEvidence problem bound e → IsWrittenDown problem bound closed)
written_ok (Ok closed) problem e terms k v terms_are heads pairs heads_rise pairs_rise rows sorted = written_by problem e closed terms k v terms_are heads pairs heads_rise pairs_rise rows sorted
written_ok (Err error) problem e terms k v terms_are heads pairs heads_rise pairs_rise rows sorted = tt

-- what was written down is the certificate of an answer that shows its bound
made : (problem : Problem) (a : Answer) (closed : Closed) → IsProblem problem → length problem.vector ≤ 5 → IsWrittenDown problem (option_map components a.weight) closed → IsDecided problem a
    → IsMaker problem a (record { shown = shown_by problem a; closed = closed })
made problem a closed k few w decided = record {
  writable = record { shown = seen.shown; closed = w.writable (shown_by problem a) seen.shown refl seen.bound };
  about = about_asked problem a;
  terms = refl;
  shows = seen.back;
  least = subst (λ (bound : Option (List ℕ)). AreLeast problem (length problem.vector) bound closed) (sym seen.bound) w.least;
}
  where
    seen : Shows problem a
    seen = shows problem k few a decided

weight_bound : (found : Option LeastRun) → bound_with None found ≡ option_map components (option_map (λ f. f.weight) found)
weight_bound None = refl
weight_bound (Some f) = refl

pub made_by : (problem : Problem) (a : Answer) (found : Option LeastRun) (shown : Shown) (closed : Closed) → IsProblem problem → is_vector problem.vector ≡ true
    → IsWrittenDown problem (bound_with None found) closed → IsDecided problem a → a.weight ≡ option_map (λ f. f.weight) found → shown ≡ shown_by problem a → IsMaker problem a (record { shown = shown; closed = closed })
made_by problem a found shown closed k v w decided same shown_is =
    let P : Shown → Type 0 = λ s. IsMaker problem a (record { shown = s; closed = closed }) in
    subst P (sym shown_is)
    (made problem a closed k (few_terms problem.vector v)
    (subst (λ (bound : Option (List ℕ)). IsWrittenDown problem bound closed) (weight_bound found ∙ ap (option_map components) (sym same)) w) decided)
