-- A walk of a position automaton spells what its expression matches.
use Rattle.std.proofs.Common.{◌≡◌, ℕ, Bool, ◌⊎◌, ◌↔◌, IsTrue, List, [], ◌∷◌, Contains, refl, inl, inr, arith}
use Rattle.wi_regex.specs.declared.regex.Regex.{Regex}
use Rattle.wi_regex.specs.Matching.{Matches, position_count}
use Rattle.wi_regex.proofs.MatchingLemmas.{matches_empty, empty_matched}
use Rattle.wi_nfa.specs.Automata.{Automaton, AcceptsFrom, MayEnd, IsPositionAutomaton}
use Rattle.wi_nfa.proofs.Ranges.{Within, begins_within, follows_within}
use Rattle.wi_nfa.proofs.Glushkov.{After, after_within, after_end, end_after, enter, entered, goes, gone}

module _ {A : Type 0} (set : A → ℕ → Bool) (r : Regex A) (m : Automaton) (is : IsPositionAutomaton set r m) where
  -- what a state leads to is a position
  pub led_within : (p q : ℕ) → Contains (m.next p) q → Within 0 (position_count r) q
  led_within p q h = elim (((is.next p).each q).0 h) as (λ _. Within 0 (position_count r) q) [
    | inl f ↦ begins_within 0 r q f.1
    | inr f ↦ (follows_within 0 r p q f).1
  ]

  -- what may be read from a state on
  abbrev From : ℕ → List ℕ → Type 0
  From p w = ((p ≡ 0) × Matches set r w) ⊎ After set 0 r p w

  ended : (p : ℕ) → IsTrue (m.accepts p) → From p []
  ended p h =
      elim ((is.accepts p).0 h) [ inl e ↦ inl (e.0, matches_empty set r e.1) | inr e ↦ inr (after_end set 0 r p e) ]

  ends : (p : ℕ) → From p [] → IsTrue (m.accepts p)
  ends p h =
      (is.accepts p).1 (elim h as (λ _. MayEnd r p) [ inl e ↦ inl (e.0, empty_matched set r e.1) | inr e ↦ inr (end_after set 0 r p e) ])

  -- a state that was led to isn't the start
  rest : (q : ℕ) (w : List ℕ) → Within 0 (position_count r) q → From q w → After set 0 r q w
  rest q w within h = elim h [ inl e ↦ (let z = e.0 in let above = within.above in absurd (omega arith)) | inr a ↦ a ]

  pub spelled : (p : ℕ) (w : List ℕ) → AcceptsFrom m p w → From p w
  spelled p [] h = let P : ℕ → Type 0 = λ z. From z [] in rw h.1 (ended h.0 h.2)
  spelled p (x ∷ w) h =
      let t = h.1.0 in
      let on : From t w = spelled t w (h.0, h.1.2, h.2) in
      elim (((is.next p).each t).0 h.1.1.0) as (λ _. From p (x ∷ w)) [
        | inl f ↦ inl (f.0, entered set m.reads 0 r is.sets t x w f.1 h.1.1.1 (rest t w (begins_within 0 r t f.1) on))
        | inr f ↦ inr (gone set m.reads 0 r is.sets p t x w f h.1.1.1 (rest t w (follows_within 0 r p t f).1 on))
      ]

  pub spells : (p : ℕ) (w : List ℕ) → From p w → AcceptsFrom m p w
  spells p [] h = (p, refl, ends p h)
  spells p (x ∷ w) h =
      elim h [
        | inl e ↦ let by = enter set m.reads 0 r is.sets x w e.1 in
            let on = spells by.at w (inr by.after) in
            (on.0, (by.at, (((is.next p).each by.at).1 (inl (e.0, by.begins)), by.reads_it), on.1), on.2)
        | inr a ↦ let by = goes set m.reads 0 r is.sets p x w a in
            let on = spells by.at w (inr by.after) in
            (on.0, (by.at, (((is.next p).each by.at).1 (inr by.follows), by.reads_it), on.1), on.2)
      ]

  pub accepted : (w : List ℕ) → AcceptsFrom m 0 w ↔ Matches set r w
  accepted w = (
    λ h. elim (spelled 0 w h) as (λ _. Matches set r w) [
      | inl e ↦ e.1
      | inr a ↦ (let above = (after_within set 0 r 0 w a).above in absurd (omega arith))
    ],
    λ h. spells 0 w (inl (refl, h)),
  )
