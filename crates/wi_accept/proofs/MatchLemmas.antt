-- Whether a run has the form that is asked for can be told, by the automata.
use Rattle.std.proofs.Common.{◌≡◌, ℕ, Bool, true, false, List, [], ◌∷◌, ◌⊎◌, inl, inr, refl, ap}
use Rattle.std.specs.Prelude.{map}
use Rattle.wi_regex.specs.Matching as regex
use Rattle.wi_nfa.specs.Automata.{Automaton, AcceptsFrom}
use Rattle.wi_nfa.specs.Rows.{automaton_of}
use Rattle.wi_nfa.proofs.Walks.{accepted}
use Rattle.wi_query.specs.Compiled.{Compiled, HasAutomaton}
use Rattle.wi_query.specs.Sets.{holds}
use Rattle.wi_world.specs.declared.run.Run.{Run}
use Rattle.wi_world.specs.Holds.{Matches, is_dropped}
use Rattle.wi_world.specs.Runs.{links_of, last_header}
use Rattle.wi_rules.proofs.Lists.{in_contains, contains_in}
use Rattle.wi_build.specs.Problems.{Problem, IsProblem, asks}
use Rattle.wi_cert.specs.declared.check_refused.RunPart.{RunPart}
use Rattle.wi_cert.specs.declared.check_refused.RunPart.TheVariants.{First, Path, Last}
use Rattle.wi_accept.specs.Causes.{IsFirstUnmatched}
use Rattle.wi_accept.proofs.ListLemmas.{both_or_not, some_or_none}

true_or_not : (b : Bool) → (b ≡ true) ⊎ (b ≡ true → ⊥)
true_or_not true = inl refl
true_or_not false = inr (λ h. cc)

-- a state accepts a word, or doesn't
accepts_or_not : (m : Automaton) (p : ℕ) (w : List ℕ) → AcceptsFrom m p w ⊎ (AcceptsFrom m p w → ⊥)
accepts_or_not m p [] = elim (true_or_not (m.accepts p)) [
  | inl e ↦ inl (p, refl, e)
  | inr n ↦ inr (λ h. n (let same : m.accepts p ≡ m.accepts h.0 = ap m.accepts h.1 in let last : m.accepts h.0 ≡ true = h.2 in cc))
]
accepts_or_not m p (x ∷ w) =
    elim (some_or_none (λ t. (m.reads t x ≡ true) × AcceptsFrom m t w) (λ t. both_or_not (true_or_not (m.reads t x)) (accepts_or_not m t w)) (m.next p)) [
      | inl k ↦ inl (k.2.1.0, (k.0, (in_contains (m.next p) k.0 k.1, k.2.0), k.2.1.1), k.2.1.2)
      | inr n ↦ inr (λ h. n h.1.0 (contains_in (m.next p) h.1.0 h.1.1.0) (h.1.1.1, (h.0, h.1.2, h.2)))
    ]

-- a word that isn't one that doesn't match matches
matched : (e : Compiled) → HasAutomaton e → (w : List ℕ) → ((regex.Matches holds e.regex w → ⊥) → ⊥) → regex.Matches holds e.regex w
matched e k w h = elim (accepts_or_not (automaton_of holds e.nfa) 0 w) [
  | inl a ↦ (accepted holds e.regex (automaton_of holds e.nfa) k.automaton w).0 a
  | inr n ↦ absurd (h (λ a. n ((accepted holds e.regex (automaton_of holds e.nfa) k.automaton w).1 a)))
]

-- a run of which no part is the first unmatched one, and that is dropped exactly where that is asked for, matches
pub none_unmatched : (problem : Problem) → IsProblem problem → (run : Run) → ((part : RunPart) → IsFirstUnmatched problem.net (asks problem) run part → ⊥)
    → is_dropped run.end ≡ (asks problem).drops → Matches problem.net (asks problem) run
none_unmatched problem k run none end =
    let first = matched problem.query.first k.automata.first (map (λ l. l.0.0) run.header) (λ n. none First n) in
    let path = matched problem.query.path k.automata.path (map (λ e. e.0) (links_of problem.net run)) (λ n. none Path (first, n)) in
    let last = matched problem.query.last k.automata.last (map (λ l. l.0.0) (last_header problem.net (run.first, run.header) run.steps)) (λ n. none Last (first, path, n)) in
    record { first = first; path = path; last = last; end = end }
