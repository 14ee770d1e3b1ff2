-- Rows of a certificate as summaries: those of one head, the one to a target, and what parts of them demand.
use Rattle.std.specs.Prelude.{◌≡◌, ℕ, ◌+◌, ◌^◌, Bool, true, false, ◌==◌, List, [], ◌∷◌, Option, Some, None, length, map, filter, find, option_map, get_or, Contains, refl}
use Rattle.std.specs.List.{All, flat_map, position_or_len}
use Rattle.std.proofs.Common.{sym, ap, ◌∙◌, subst}
use Rattle.std.proofs.lemmas.List.Elements.{All-filter, Contains-get_or}
use Rattle.std.proofs.lemmas.List.Folds.{find_at}
use Rattle.std.proofs.lemmas.Option.{slice_get_within, get_or_from_slice_get}
use denote.Ref.{Bor}
use Rattle.wi_base.proofs.Cases.{by_test}
use Rattle.wi_weight.specs.Weights.{EachBelow, plus}
use Rattle.wi_weight.specs.declared.kinds.Pair.{Pair}
use Rattle.wi_weight.specs.declared.kinds.Terms.{Terms}
use Rattle.wi_weight.specs.declared.kinds.Effort.{Effort}
use Rattle.wi_quantity.specs.Vectors.{is_vector}
use Rattle.wi_quantity.specs.Weighing.{components}
use Rattle.wi_pds.specs.Closed.{Summary}
use Rattle.wi_pds.specs.declared.rule.Rule.{Rule}
use Rattle.wi_pds.specs.declared.rule.Word2.{Word2}
use Rattle.wi_pds.specs.declared.rule.Word2.TheVariants.{One, Two}
use Rattle.wi_build.specs.Problems.{Problem, IsProblem}
use Rattle.wi_build.specs.Systems.{scale, rules}
use Rattle.wi_build.proofs.FitLemmas.{fit}
use Rattle.wi_cert.specs.declared.row.Row.{Row}
use Rattle.wi_accept.specs.Answers.{padded}
use Rattle.wi_accept.specs.Causes.{rows_of}
use Rattle.wi_accept.specs.Demands.{row, rows_at, demands, is_open, weight_to}
use Rattle.wi_check.specs.private.Lists.{is_row_of, is_row_to}
use Rattle.wi_check.specs.declared.rows.Rows.{Rows}
use Rattle.wi_check.specs.private.Rows.{HaveTerms, summaries}

abbrev pub summary_of : ℕ → Row → Summary
summary_of terms r = row r.p r.g r.q (padded terms r.weight)

-- what a head demands after a weight so far, by one more part, and by one that is followed by a row from its target with v on top
abbrev pub one_part : ℕ × ℕ → List ℕ → Summary → Summary
one_part head w r = row head.0 head.1 r.q (plus w r.weight)

abbrev pub two_parts : ℕ × ℕ → List ℕ → List Summary → ℕ → Summary → List Summary
two_parts head w rows v r = map (one_part head (plus w r.weight)) (rows_at rows r.q v)

-- a demand is below the bound, and no row meets it
abbrev pub is_open_in : Rows → Option (Pair Terms Effort) → Summary → Bool
is_open_in rows bound d = is_open scale (option_map components bound) (summaries rows) d

own_rows : (terms p g : ℕ) (rows : List Row) → rows_at (rows_of terms rows) p g ≡ rows_of terms (filter (is_row_of p g) rows)
own_rows terms p g [] = refl
own_rows terms p g (r ∷ rs) = by_test (is_row_of p g r)
    (λ (e : is_row_of p g r ≡ true). rw e (ap (λ ys. summary_of terms r ∷ ys) (own_rows terms p g rs)))
    (λ (e : is_row_of p g r ≡ false). rw e (own_rows terms p g rs))

weight_found : (terms q : ℕ) (rows : List Row) → option_map (λ r. r.weight) (find (λ r. r.q == q) (rows_of terms rows)) ≡ option_map (λ r. padded terms r.weight) (find (is_row_to q) rows)
weight_found terms q [] = refl
weight_found terms q (r ∷ rs) = by_test (is_row_to q r)
    (λ (e : is_row_to q r ≡ true). rw e refl)
    (λ (e : is_row_to q r ≡ false). rw e (weight_found terms q rs))

-- the summaries of the rows of a head are those of its summaries
pub own_parts : (terms p g : ℕ) (rows parts : List Row) → parts ≡ filter (is_row_of p g) rows → rows_of terms parts ≡ rows_at (rows_of terms rows) p g
own_parts terms p g rows parts are = ap (rows_of terms) are ∙ sym (own_rows terms p g rows)

pub own_terms : (terms p g : ℕ) (rows parts : List Row) → parts ≡ filter (is_row_of p g) rows → HaveTerms terms rows → HaveTerms terms parts
own_terms terms p g rows parts are have = subst (HaveTerms terms) (sym are) (All-filter (is_row_of p g) (λ (r : Row). length r.weight ≡ terms + 1) rows have)

found_has : {A : Type 0} (P : A → Type 0) (test : A → Bool) (xs : List A) (x : A) → All P xs → find test xs ≡ Some x → P x
found_has P test xs x all found =
    let at = sym (find_at test xs) ∙ found in
    subst P (get_or_from_slice_get xs (position_or_len test xs) x x at) (all (position_or_len test xs) x (slice_get_within xs (position_or_len test xs) x at))

weight_is : (terms p g q : ℕ) (rows : List Row) → weight_to (rows_of terms rows) p g q ≡ option_map (λ r. padded terms r.weight) (find (is_row_to q) (filter (is_row_of p g) rows))
weight_is terms p g q rows =
    ap (λ (ss : List Summary). option_map (λ s. s.weight) (find (λ s. s.q == q) ss)) (own_rows terms p g rows) ∙ weight_found terms q (filter (is_row_of p g) rows)

module _ (terms p g q : ℕ) (rows : List Row) (found : Option (Bor Row)) (is : option_map (λ r. r.now) found ≡ find (is_row_to q) (filter (is_row_of p g) rows)) where
  weighs : (o : Option Row) → option_map (λ r. r.now) found ≡ o → option_map (λ r. padded terms r.weight) o ≡ weight_to (rows_of terms rows) p g q
  weighs o e = ap (option_map (λ (r : Row). padded terms r.weight)) (sym e ∙ is) ∙ sym (weight_is terms p g q rows)

  pub missing_weighs : found ≡ None → None ≡ weight_to (rows_of terms rows) p g q
  missing_weighs none = weighs None (ap (option_map (λ (r : Bor Row). r.now)) none)

  pub found_weighs : (r : Bor Row) (w ns : List ℕ) → found ≡ Some r → w ≡ padded terms ns → ns ≡ r.now.weight → Some w ≡ weight_to (rows_of terms rows) p g q
  found_weighs r w ns some same read = ap Some (same ∙ ap (padded terms) read) ∙ weighs (Some r.now) (ap (option_map (λ (x : Bor Row). x.now)) some)

  pub found_terms : (r : Bor Row) (ns : List ℕ) → found ≡ Some r → ns ≡ r.now.weight → HaveTerms terms rows → length ns ≡ terms + 1
  found_terms r ns some read have =
      ap length read
      ∙ found_has (λ (x : Row). length x.weight ≡ terms + 1) (is_row_to q) (filter (is_row_of p g) rows) r.now (own_terms terms p g rows (filter (is_row_of p g) rows) refl have)
      (sym is ∙ ap (option_map (λ (x : Bor Row). x.now)) some)

-- what a rule demands that writes one symbol, or two
pub by_one : (terms to u : ℕ) (rows parts : List Row) (head : ℕ × ℕ) (w : List ℕ) (word : Word2) → word ≡ One u → parts ≡ filter (is_row_of to u) rows
    → map (one_part head w) (rows_of terms parts) ≡ demands (rows_of terms rows) head.0 head.1 w to word
by_one terms to u rows parts head w word is are =
    ap (map (one_part head w)) (own_parts terms to u rows parts are) ∙ ap (demands (rows_of terms rows) head.0 head.1 w to) (sym is)

pub by_two : (terms to u v : ℕ) (rows parts : List Row) (head : ℕ × ℕ) (w : List ℕ) (word : Word2) → word ≡ Two u v → parts ≡ filter (is_row_of to u) rows
    → flat_map (two_parts head w (rows_of terms rows) v) (rows_of terms parts) ≡ demands (rows_of terms rows) head.0 head.1 w to word
by_two terms to u v rows parts head w word is are =
    ap (flat_map (two_parts head w (rows_of terms rows) v)) (own_parts terms to u rows parts are) ∙ ap (demands (rows_of terms rows) head.0 head.1 w to) (sym is)

-- the weight so far and that of one part
pub sum_of_part : (terms : ℕ) (sum w share ns weight : List ℕ) → sum ≡ plus w share → share ≡ padded terms ns → ns ≡ weight → sum ≡ plus w (padded terms weight)
sum_of_part terms sum w share ns weight added same read = added ∙ ap (plus w) (same ∙ ap (padded terms) read)

-- the rules of a head weigh less than 2^64 in each component
pub rules_small : (problem : Problem) → IsProblem problem → is_vector problem.vector ≡ true → (p g : ℕ) (listed : List (Rule (Pair Terms Effort))) → listed ≡ rules problem p g
    → All (λ r. EachBelow (2 ^ 64) (components r.weight)) listed
rules_small problem is vector p g listed are k d within =
    fit problem is vector p g (get_or listed k d) (subst (λ (rs : List (Rule (Pair Terms Effort))). Contains rs (get_or listed k d)) are (Contains-get_or listed k d within))
