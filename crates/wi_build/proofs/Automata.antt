-- An expression's automaton, as rules are made of it: it accepts just what the expression matches.
use Rattle.std.proofs.Common.{◌≡◌, ℕ, ◌<◌, ◌↔◌, List, [], ◌∷◌, inl, inr, arith}
use Rattle.std.specs.List.{Contains, range_with_len}
use Rattle.wi_regex.specs.Matching.{Matches}
use Rattle.wi_nfa.specs.Automata as nfa
use Rattle.wi_nfa.specs.Rows.{automaton_of}
use Rattle.wi_nfa.proofs.Ranges.{follows_within}
use Rattle.wi_nfa.proofs.Reading.{from_filter, into_filter}
use Rattle.wi_nfa.proofs.Walks.{led_within, accepted}
use Rattle.wi_query.specs.Compiled.{Compiled, HasAutomaton}
use Rattle.wi_query.specs.Sets.{holds}
use Rattle.wi_rules.specs.Rules.{IsAutomaton, IsTurned, Walks, Accepts}
use Rattle.wi_rules.proofs.Lists.{contains_in, in_contains, in_range}
use Rattle.wi_build.specs.Encodings.{after, comes_after, before, automaton}
use Rattle.wi_build.proofs.StateLemmas.{any_in, in_any}

module _ (e : Compiled) (k : HasAutomaton e) where
  abbrev positions : nfa.Automaton
  positions = automaton_of holds e.nfa

  -- a state after one by a symbol may come next after it, and has the symbol
  stepped : (q r x : ℕ) → Contains (after e q x) r → nfa.Steps positions q x r
  stepped q r x h = from_filter (λ s. positions.reads s x) (positions.next q) r h

  steps : (q r x : ℕ) → nfa.Steps positions q x r → Contains (after e q x) r
  steps q r x h = into_filter (λ s. positions.reads s x) (positions.next q) r h.0 h.1

  -- what leads on is a state, and so is what is led to, other than the start
  from_state : (q r : ℕ) → Contains (positions.next q) r → q < positions.states
  from_state q r h = elim (((k.automaton.next q).each r).0 h) as (λ _. q < positions.states) [
    | inl f ↦ (let zero : q ≡ 0 = f.0 in omega (arith, zero, k.automaton.states))
    | inr f ↦ (let w = (follows_within 0 e.regex q r f).0 in omega (arith, w.upto, k.automaton.states))
  ]

  to_state : (q r : ℕ) → Contains (positions.next q) r → r < positions.states
  to_state q r h = let w = led_within holds e.regex positions k.automaton q r h in omega (arith, w.upto, k.automaton.states)

  pub is_automaton : IsAutomaton (automaton e)
  is_automaton = record {
    some = omega (arith, k.automaton.states);
    from_below = λ q r x h. from_state q r (stepped q r x h).0;
    below = λ q r x h. to_state q r (stepped q r x h).0;
  }

  pub is_turned : IsTurned (automaton e) (before e)
  is_turned = record {
    turned = λ q r x h. into_filter (λ p. comes_after e p x r) (range_with_len 0 positions.states) q
        (in_contains (range_with_len 0 positions.states) q (in_range 0 positions.states q (omega arith) (let lt = from_state q r (stepped q r x h).0 in omega (arith, lt))))
        (any_in (after e q x) r (contains_in (after e q x) r h));
    returned = λ q r x h. in_contains (after e q x) r (in_any (after e q x) r (from_filter (λ p. comes_after e p x r) (range_with_len 0 positions.states) q h).1);
    start = λ q x h. (let w = led_within holds e.regex positions k.automaton q 0 (stepped q 0 x h).0 in absurd (omega (arith, w.above)));
  }

  walked : (w : List ℕ) (q r : ℕ) → Walks (automaton e) q w r → nfa.Walk positions q w r
  walked [] q r h = h
  walked (x ∷ w) q r h = (h.0, stepped q h.0 x h.1, walked w h.0 r h.2)

  walks : (w : List ℕ) (q r : ℕ) → nfa.Walk positions q w r → Walks (automaton e) q w r
  walks [] q r h = h
  walks (x ∷ w) q r h = (h.0, steps q h.0 x h.1, walks w h.0 r h.2)

  -- the automaton accepts just what the expression matches
  pub accepts_matches : (w : List ℕ) → Matches holds e.regex w ↔ Accepts (automaton e) w
  accepts_matches w = (
    λ h. (let a = (accepted holds e.regex positions k.automaton w).1 h in (a.0, walks w 0 a.0 a.1, a.2)),
    λ h. (accepted holds e.regex positions k.automaton w).0 (h.0, walked w 0 h.0 h.1, h.2),
  )
