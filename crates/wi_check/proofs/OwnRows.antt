-- The rows of a head stand for all rows where a demand of it is looked up.
use Rattle.std.specs.Prelude.{◌≡◌, ℕ, Bool, true, false, not, ◌&&◌, ◌==◌, List, [], ◌∷◌, Option, Some, None, cond, map, filter, find, option_map}
use Rattle.std.specs.Option.{option_map_or}
use Rattle.std.specs.Ordering.{is_le}
use Rattle.std.proofs.Common.{sym, ap, ◌∙◌, subst, refl}
use Rattle.wi_base.proofs.Cases.{by_test}
use Rattle.wi_weight.specs.Weights.{plus}
use Rattle.wi_weight.specs.declared.kinds.Pair.{Pair}
use Rattle.wi_weight.specs.declared.kinds.Terms.{Terms}
use Rattle.wi_weight.specs.declared.kinds.Effort.{Effort}
use Rattle.wi_quantity.specs.Weighing.{components}
use Rattle.wi_pds.specs.Closed.{Summary}
use Rattle.wi_build.specs.Systems.{scale}
use Rattle.wi_cert.specs.declared.row.Row.{Row}
use Rattle.wi_cert.specs.Order.{row_below}
use Rattle.wi_accept.specs.Causes.{rows_of}
use Rattle.wi_accept.specs.Demands.{row, rows_at, is_within}
use Rattle.wi_check.specs.declared.rows.Rows.{Rows}
use Rattle.wi_check.specs.private.Lists.{Rises, is_row_of}
use Rattle.wi_check.specs.private.Rows.{HaveTerms, AreRows, AreOwn, summaries}
use Rattle.wi_check.proofs.Rising.{filter_rises}
use Rattle.wi_check.proofs.RowLemmas.{one_part, is_open_in, own_parts, own_terms}

filter_again : {A : Type 0} (test : A → Bool) (xs : List A) → filter test (filter test xs) ≡ filter test xs
filter_again test [] = refl
filter_again test (x ∷ xs) = by_test (test x)
    (λ (e : test x ≡ true). rw e (rw e (ap (λ ys. x ∷ ys) (filter_again test xs))))
    (λ (e : test x ≡ false). rw e (filter_again test xs))

find_mapped : {A B : Type 0} (one other : B → Bool) (f : A → B) → ((x : A) → one (f x) ≡ other (f x)) → (xs : List A) → find one (map f xs) ≡ find other (map f xs)
find_mapped one other f same [] = refl
find_mapped one other f same (x ∷ xs) =
    ap (λ b. cond b (Some (f x)) (find one (map f xs))) (same x) ∙ ap (λ o. cond (other (f x)) (Some (f x)) o) (find_mapped one other f same xs)

pub are_own : (rows own : Rows) (head : ℕ × ℕ) → own.terms ≡ rows.terms → own.rows.now ≡ filter (is_row_of head.0 head.1) rows.rows.now → AreRows rows → AreOwn rows head own
are_own rows own head terms is are = record {
  terms = terms;
  of_head = is;
  are_rows = record {
    few = rw terms are.few;
    terms = subst (λ n. HaveTerms n own.rows.now) (sym terms) (own_terms rows.terms head.0 head.1 rows.rows.now own.rows.now is are.terms);
    rise = subst (Rises row_below) (sym is) (filter_rises row_below row_below (is_row_of head.0 head.1) (λ x y _ _ h. h) rows.rows.now are.rise);
  };
}

module _ (rows own : Rows) (head : ℕ × ℕ) (bound : Option (Pair Terms Effort)) (are : AreOwn rows head own) where
  own_at : rows_at (summaries own) head.0 head.1 ≡ rows_at (summaries rows) head.0 head.1
  own_at = ap (λ n. rows_at (rows_of n own.rows.now) head.0 head.1) are.terms
      ∙ ap (λ (ss : List Summary). rows_at ss head.0 head.1) (own_parts rows.terms head.0 head.1 rows.rows.now own.rows.now are.of_head)
      ∙ filter_again (λ r. r.p == head.0 && r.g == head.1) (summaries rows)

  open_same : (q : ℕ) (w : List ℕ) → is_open_in own bound (row head.0 head.1 q w) ≡ is_open_in rows bound (row head.0 head.1 q w)
  open_same q w = ap (λ (ss : List Summary). is_within scale (option_map components bound) w && not (option_map_or (λ r. is_le (scale.order r.weight w)) (find (λ r. r.q == q) ss) false)) own_at

  pub own_demand : (q : ℕ) (w : List ℕ) → find (is_open_in own bound) (row head.0 head.1 q w ∷ []) ≡ find (is_open_in rows bound) (row head.0 head.1 q w ∷ [])
  own_demand q w = ap (λ b. cond b (Some (row head.0 head.1 q w)) None) (open_same q w)

  pub own_after : (w : List ℕ) (parts : List Row) → find (is_open_in own bound) (map (one_part head w) (rows_of own.terms parts)) ≡ find (is_open_in rows bound) (map (one_part head w) (rows_of rows.terms parts))
  own_after w parts = ap (λ n. find (is_open_in own bound) (map (one_part head w) (rows_of n parts))) are.terms
      ∙ find_mapped (is_open_in own bound) (is_open_in rows bound) (one_part head w) (λ s. open_same s.q (plus w s.weight)) (rows_of rows.terms parts)

  pub terms_of_own : (parts : List Row) → HaveTerms rows.terms parts → HaveTerms own.terms parts
  terms_of_own parts have = subst (λ n. HaveTerms n parts) (sym are.terms) have
