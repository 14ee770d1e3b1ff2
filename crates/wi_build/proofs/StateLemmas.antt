-- The states that an automaton's calls give are those of the definitions.
use Rattle.std.proofs.Common.{◌≡◌, ℕ, ◌<◌, Bool, true, nat_eq, List, [], ◌∷◌, length, Option, Some, None, slice_get, Contains, IsTrue, refl, inl, inr, subst}
use Rattle.std.proofs.lemmas.Bool.{eqb-true, eq-eqb, or_cases, or_left, or_right}
use Rattle.std.proofs.lemmas.Option.{slice_get_within}
use Rattle.std.proofs.lemmas.List.Kept.{IsStrictlyIncreasing-filter}
use Rattle.std.specs.List.{list_any}
use Rattle.std.specs.Prelude.{Vec}
use Rattle.std.specs.declared.alloc.Global.{Global}
use Rattle.wi_nfa.specs.Automata.{IsPositionAutomaton, ListsRising, Steps}
use Rattle.wi_nfa.specs.Rows.{Tables, automaton_of, row}
use Rattle.wi_nfa.proofs.Marking.{nothing_in}
use Rattle.wi_nfa.proofs.Reading.{from_filter, into_filter}
use Rattle.wi_nfa.proofs.Listing.{passed_rise}
use Rattle.wi_nfa.proofs.RisingLists.{one_rising_list}
use Rattle.wi_query.specs.Compiled.{Compiled, HasAutomaton}
use Rattle.wi_query.specs.Sets.{SymbolMarks, holds}
use Rattle.wi_rules.proofs.Lists.{In, contains_in, in_contains}
use Rattle.wi_build.specs.Encodings.{after, before, comes_after}

pub in_any : (xs : List ℕ) (r : ℕ) → list_any (λ n. nat_eq n r) xs ≡ true → In xs r
in_any [] r h = cc
in_any (x ∷ xs) r h = elim (or_cases (nat_eq x r) (list_any (λ n. nat_eq n r) xs) h) [ inl a ↦ inl (eqb-true x r a) | inr b ↦ inr (in_any xs r b) ]

pub any_in : (xs : List ℕ) (r : ℕ) → In xs r → list_any (λ n. nat_eq n r) xs ≡ true
any_in [] r h = absurd h
any_in (x ∷ xs) r (inl e) = or_left (nat_eq x r) (list_any (λ n. nat_eq n r) xs) (eq-eqb x r e)
any_in (x ∷ xs) r (inr h) = or_right (nat_eq x r) (list_any (λ n. nat_eq n r) xs) (any_in xs r h)

-- the states that come after one
after_is : (e : Compiled) (q x : ℕ) (xs : List ℕ) → IsPositionAutomaton holds e.regex (automaton_of holds e.nfa) → ListsRising xs (Steps (automaton_of holds e.nfa) q x) → xs ≡ after e q x
after_is e q x xs k l = one_rising_list xs (after e q x) l.rising (IsStrictlyIncreasing-filter reads next (k.next q).rising) same
  where
    reads : ℕ → Bool
    reads = λ r. (automaton_of holds e.nfa).reads r x

    next : List ℕ
    next = (automaton_of holds e.nfa).next q

    same : (t : ℕ) → (Contains xs t → Contains (after e q x) t) × (Contains (after e q x) t → Contains xs t)
    same t = (
      λ m. (let s : Steps (automaton_of holds e.nfa) q x t = (l.each t).0 m in into_filter (λ r. (automaton_of holds e.nfa).reads r x) ((automaton_of holds e.nfa).next q) t s.0 s.1),
      λ m. (l.each t).1 (from_filter (λ r. (automaton_of holds e.nfa).reads r x) ((automaton_of holds e.nfa).next q) t m),
    )

pub after_by : (e : Compiled) (t : Tables SymbolMarks) (q x : ℕ) (xs : List ℕ) → t ≡ e.nfa → HasAutomaton e → ListsRising xs (Steps (automaton_of holds t) q x) → xs ≡ after e q x
after_by e t q x xs is k l = let P : Tables SymbolMarks → Type 0 = λ s. ListsRising xs (Steps (automaton_of holds s) q x) in after_is e q x xs k.automaton (subst P is l)

-- a state that another comes after is one
row_there : (rows : List (Vec ℕ Global)) (p t : ℕ) → Contains (row rows p) t → p < length rows
row_there rows p t h = go (slice_get rows p) refl
  where
    go : (o : Option (Vec ℕ Global)) → slice_get rows p ≡ o → p < length rows
    go None e = let none : Contains [] t = rw e at h in nothing_in t none
    go (Some v) e = slice_get_within rows p v e

comes_true : (e : Compiled) (p x q : ℕ) → comes_after e p x q ≡ true → Steps (automaton_of holds e.nfa) p x q
comes_true e p x q h =
    from_filter (λ r. (automaton_of holds e.nfa).reads r x) ((automaton_of holds e.nfa).next p) q (in_contains (after e p x) q (in_any (after e p x) q h))

true_comes : (e : Compiled) (p x q : ℕ) → Steps (automaton_of holds e.nfa) p x q → comes_after e p x q ≡ true
true_comes e p x q s =
    any_in (after e p x) q (contains_in (after e p x) q (into_filter (λ r. (automaton_of holds e.nfa).reads r x) ((automaton_of holds e.nfa).next p) q s.0 s.1))

-- the states that come before one
before_is : (e : Compiled) (q x : ℕ) (xs : List ℕ) → ListsRising xs (λ p. Steps (automaton_of holds e.nfa) p x q) → xs ≡ before e q x
before_is e q x xs l = one_rising_list xs (before e q x) l.rising listed.rising same
  where
    listed : ListsRising (before e q x) (λ p. IsTrue (comes_after e p x q))
    listed = passed_rise (λ p. comes_after e p x q) (automaton_of holds e.nfa).states (before e q x) refl (λ p h. row_there e.nfa.after p q ((comes_true e p x q h).0))

    same : (t : ℕ) → (Contains xs t → Contains (before e q x) t) × (Contains (before e q x) t → Contains xs t)
    same t = (λ m. (listed.each t).1 (true_comes e t x q ((l.each t).0 m)), λ m. (l.each t).1 (comes_true e t x q ((listed.each t).0 m)))

pub before_by : (e : Compiled) (t : Tables SymbolMarks) (q x : ℕ) (xs : List ℕ) → t ≡ e.nfa → ListsRising xs (λ p. Steps (automaton_of holds t) p x q) → xs ≡ before e q x
before_by e t q x xs is l = let P : Tables SymbolMarks → Type 0 = λ s. ListsRising xs (λ p. Steps (automaton_of holds s) p x q) in before_is e q x xs (subst P is l)
