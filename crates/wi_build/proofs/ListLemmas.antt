-- Of the list of all rules those of a head are its own.
use Rattle.std.proofs.Common.{◌≡◌, ◌≢◌, ℕ, zero, suc, ◌+◌, ◌<◌, ◌≤◌, ◌⊎◌, Bool, true, false, ◌&&◌, nat_eq, nat_lt, List, [], ◌∷◌, ◌++◌, length, map, Option, Some, None, refl, sym, ap, ◌∙◌, arith, inl, inr, append-nil, ◌-◌, ◌*◌}
use Rattle.std.proofs.lemmas.Bool.{and_right, eq-eqb, eqb-true, eqb-false, ne_eqb, ltb-true, ltb-false, le-ltb}
use Rattle.std.proofs.lemmas.List.Elements.{filter-append}
use Rattle.std.specs.List.{filter, flat_map, range_with_len}
use Rattle.wi_weight.specs.declared.kinds.Pair.{Pair}
use Rattle.wi_weight.specs.declared.kinds.Terms.{Terms}
use Rattle.wi_weight.specs.declared.kinds.Effort.{Effort}
use Rattle.wi_pds.specs.declared.rule.Rule.{Rule}
use Rattle.wi_pds.specs.Rules.{rules_at}
use Rattle.wi_quantity.specs.Weighing.{components}
use Rattle.wi_rules.specs.declared.spot.Spot.{Spot}
use Rattle.wi_rules.specs.Rules.{Encoding}
use Rattle.wi_rules.specs.Numbers.{AreRulesOf, Layout, NumberedRule, layout_of, dropping, rules_at_number, seen, spot_of}
use Rattle.wi_build.specs.Tags.{origin_of}
use Rattle.wi_build.specs.Problems.{Problem, IsProblem}
use Rattle.wi_build.specs.Encodings.{encoding_of}
use Rattle.wi_build.specs.Systems.{all_rules, rule_at, rules_by, spot_count, spot_rules}
use Rattle.wi_build.proofs.HeadLemmas.{past_labels}
use Rattle.wi_build.proofs.LawLemmas.{systems}
use Rattle.wi_build.proofs.RowLemmas.{Listing}

-- a rule is of a head
abbrev is_of : ℕ → ℕ → Rule (Pair Terms Effort) → Bool
is_of n g rule = nat_eq rule.from n && nat_eq rule.top g

all_kept : (n g : ℕ) (rs : List NumberedRule) → filter (is_of n g) (map (λ r. rule_at n g r) rs) ≡ map (λ r. rule_at n g r) rs
all_kept n g [] = refl
all_kept n g (r ∷ rs) = rw (eq-eqb n n refl, eq-eqb g g refl) (ap (λ t. rule_at n g r ∷ t) (all_kept n g rs))

other_spot : (n g k h : ℕ) (rs : List NumberedRule) → k ≢ n → filter (is_of n g) (map (λ r. rule_at k h r) rs) ≡ []
other_spot n g k h [] ne = refl
other_spot n g k h (r ∷ rs) ne = rw (ne_eqb k n ne) (other_spot n g k h rs ne)

other_symbol : (n g k h : ℕ) (rs : List NumberedRule) → h ≢ g → filter (is_of n g) (map (λ r. rule_at k h r) rs) ≡ []
other_symbol n g k h [] ne = refl
other_symbol n g k h (r ∷ rs) ne = rw (ne_eqb h g ne, and_right (nat_eq k n) false refl) (other_symbol n g k h rs ne)

-- of what is listed for some numbers, what passes a test that only what is listed for one passes
module _ {X : Type 0} (p : X → Bool) (f : ℕ → List X) (n : ℕ) (other : (k : ℕ) → k ≢ n → filter p (f k) ≡ []) where
  none_out : (a c : ℕ) → (n < a) ⊎ (a + c ≤ n) → filter p (flat_map f (range_with_len a c)) ≡ []
  none_out a zero out = refl
  none_out a (suc c) out =
      let apart : a ≢ n = elim out [ inl l ↦ λ e. omega (arith, l, e) | inr r ↦ λ e. omega (arith, r, e) ] in
      let later : (n < a + 1) ⊎ (a + 1 + c ≤ n) = elim out [ inl l ↦ inl (omega (arith, l)) | inr r ↦ inr (omega (arith, r)) ] in
      filter-append p (f a) (flat_map f (range_with_len (a + 1) c)) ∙ rw (other a apart) (none_out (a + 1) c later)

  one_in : (a c : ℕ) → a ≤ n → n < a + c → filter p (flat_map f (range_with_len a c)) ≡ filter p (f n)
  one_in a zero low high = absurd (omega (arith, low, high))
  one_in a (suc c) low high = filter-append p (f a) (flat_map f (range_with_len (a + 1) c)) ∙ go (nat_eq a n) refl (λ l h. one_in (a + 1) c l h)
    where
      go : (b : Bool) → nat_eq a n ≡ b → (a + 1 ≤ n → n < a + 1 + c → filter p (flat_map f (range_with_len (a + 1) c)) ≡ filter p (f n)) → filter p (f a) ++ filter p (flat_map f (range_with_len (a + 1) c)) ≡ filter p (f n)
      go true e later =
          let same : a ≡ n = eqb-true a n e in
          rw (none_out (a + 1) c (inl (omega (arith, same)))) (append-nil (filter p (f a)) ∙ ap (λ k. filter p (f k)) same)
      go false e later =
          let apart : a ≢ n = eqb-false a n e in
          rw (other a apart) (later (omega (arith, low, apart)) (omega (arith, high)))

-- no spot has a number past the last
past_spots : (y : Layout) (n : ℕ) → spot_count y ≤ n → spot_of y n ≡ None
past_spots y zero h = absurd (omega (arith, h))
past_spots y (suc zero) h = absurd (omega (arith, h))
past_spots y (suc (suc n)) h =
    let first : nat_lt n y.first ≡ false = le-ltb n y.first (omega (arith, h)) in
    let last : nat_lt (n - y.first) y.last ≡ false = le-ltb (n - y.first) y.last (omega (arith, h)) in
    let links : nat_lt (n - y.first - y.last) (y.links * y.path) ≡ false = le-ltb (n - y.first - y.last) (y.links * y.path) (omega (arith, h)) in
    let members : nat_lt (n - y.first - y.last - y.links * y.path) (y.members * 7 * y.path) ≡ false = le-ltb (n - y.first - y.last - y.links * y.path) (y.members * 7 * y.path) (omega (arith, h)) in
    rw (first, last, links, members) (none y.drops refl)
  where
    rest : ℕ
    rest = n - y.first - y.last - y.links * y.path - y.members * 7 * y.path

    none : (b : Bool) → y.drops ≡ b → dropping y rest ≡ None
    none false d = rw d refl
    none true d =
        let much : suc (suc (y.first + (y.last + (y.links * y.path + (y.members * 7 * y.path + y.members * 7))))) ≤ suc (suc n) = rw d at h in
        let more : nat_lt rest (y.members * 7) ≡ false = le-ltb rest (y.members * 7) (omega (arith, much)) in
        rw (d, more) refl

module _ (s : Encoding) (n g : ℕ) where
  symbol_apart : (h : ℕ) → h ≢ g → filter (is_of n g) (rules_by s n h) ≡ []
  symbol_apart h ne = other_symbol n g n h (rules_at_number s n h) ne

  spot_apart : (k : ℕ) → k ≢ n → filter (is_of n g) (spot_rules s k) ≡ []
  spot_apart k ne = each (range_with_len 0 (suc (length s.net.classes)))
    where
      each : (hs : List ℕ) → filter (is_of n g) (flat_map (rules_by s k) hs) ≡ []
      each [] = refl
      each (h ∷ hs) = filter-append (is_of n g) (rules_by s k h) (flat_map (rules_by s k) hs) ∙ rw (other_spot n g k h (rules_at_number s k h) ne) (each hs)

  -- no head past the labels has rules
  past_symbol : length s.net.classes < g → rules_by s n g ≡ []
  past_symbol h = go (spot_of (layout_of s) n) refl
    where
      go : (o : Option Spot) → spot_of (layout_of s) n ≡ o → rules_by s n g ≡ []
      go None e = rw e refl
      go (Some p) e = rw (e, past_labels s p g h) refl

  past_spot : spot_count (layout_of s) ≤ n → rules_by s n g ≡ []
  past_spot h = rw (past_spots (layout_of s) n h) refl

  of_spot : filter (is_of n g) (spot_rules s n) ≡ rules_by s n g
  of_spot = go (nat_lt g (suc (length s.net.classes))) refl
    where
      go : (b : Bool) → nat_lt g (suc (length s.net.classes)) ≡ b → filter (is_of n g) (spot_rules s n) ≡ rules_by s n g
      go true e = one_in (is_of n g) (rules_by s n) g symbol_apart 0 (suc (length s.net.classes)) (omega arith) (let lt = ltb-true g (suc (length s.net.classes)) e in omega (arith, lt)) ∙ all_kept n g (rules_at_number s n g)
      go false e =
          let past = ltb-false g (suc (length s.net.classes)) e in
          none_out (is_of n g) (rules_by s n) g symbol_apart 0 (suc (length s.net.classes)) (inr (omega (arith, past))) ∙ sym (past_symbol (omega (arith, past)))

  pub of_all : rules_at (all_rules s) n g ≡ rules_by s n g
  of_all = go (nat_lt n (spot_count (layout_of s))) refl
    where
      go : (b : Bool) → nat_lt n (spot_count (layout_of s)) ≡ b → rules_at (all_rules s) n g ≡ rules_by s n g
      go true e = one_in (is_of n g) (spot_rules s) n spot_apart 0 (spot_count (layout_of s)) (omega arith) (let lt = ltb-true n (spot_count (layout_of s)) e in omega (arith, lt)) ∙ of_spot
      go false e =
          let past = ltb-false n (spot_count (layout_of s)) e in
          none_out (is_of n g) (spot_rules s) n spot_apart 0 (spot_count (layout_of s)) (inr (omega (arith, past))) ∙ sym (past_spot (omega (arith, past)))

pub lists : (problem : Problem) → IsProblem problem → AreRulesOf (encoding_of problem) components (λ rule. origin_of rule.tag) (rules_at (all_rules (encoding_of problem)))
lists problem k = record {
  each = λ n g. ap (λ (rs : Listing). map (λ (r : Rule (Pair Terms Effort)). seen components (λ x. origin_of x.tag) r) rs) (of_all (encoding_of problem) n g) ∙ (systems problem k).each n g;
}
