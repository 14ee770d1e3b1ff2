-- Two readings of the text of a query have the same rules.
use Rattle.std.proofs.Common.{◌≡◌, ℕ, ◌+◌, Bool, true, false, ◌==◌, nat_lt, List, Contains, refl, sym, ap, subst, ◌∙◌, arith}
use Rattle.std.proofs.Math.Path.{fun_ext}
use Rattle.std.proofs.lemmas.Bool.{ltb-true, ltb-false}
use Rattle.std.specs.List.Sorted.{IsStrictlyIncreasing}
use Rattle.std.specs.List.{filter, list_any, range_with_len}
use Rattle.std.proofs.lemmas.List.Kept.{IsStrictlyIncreasing-filter}
use Rattle.wi_regex.specs.declared.regex.Regex.{Regex}
use Rattle.wi_regex.specs.declared.regex.Regex.TheVariants as regex
use Rattle.wi_regex.specs.Matching.{position_count}
use Rattle.wi_nfa.specs.Positions.{Agrees}
use Rattle.wi_nfa.specs.Automata as nfa
use Rattle.wi_nfa.specs.Rows.{automaton_of}
use Rattle.wi_nfa.proofs.Ranges.{Within}
use Rattle.wi_nfa.proofs.Reading.{from_filter, into_filter}
use Rattle.wi_nfa.proofs.RisingLists.{one_rising_list}
use Rattle.wi_nfa.proofs.Walks.{led_within}
use Rattle.wi_net.specs.Net.{Net}
use Rattle.wi_net.proofs.CountLemmas.{bool_same}
use Rattle.wi_query.specs.declared.query.Query.{Query}
use Rattle.wi_query.specs.Compiled.{Compiled, HasAutomaton}
use Rattle.wi_query.specs.Meaning.{HasAutomata, IsQuery}
use Rattle.wi_query.specs.Sets.{SymbolMarks, holds}
use Rattle.wi_query.proofs.Alike.{Alike, count_same, may_follow_same, may_end_same, alike_first, alike_path, alike_last, same_bounds, ask_the_same}
use Rattle.wi_quantity.specs.declared.vector.Part.{Part}
use Rattle.wi_build.specs.Problems.{problem_of}
use Rattle.wi_build.specs.Encodings.{after, before, automaton, encoding_of}
use Rattle.wi_build.specs.Systems.{rules, rules_by}

-- a position is one of the first or one of those behind them
split_within : {X : Type 0} (n j k p : ℕ) → Within n (j + k) p → (Within n j p → X) → (Within (n + j) k p → X) → X
split_within {X} n j k p w left right = go (nat_lt (n + j) p) refl
  where
    go : (b : Bool) → nat_lt (n + j) p ≡ b → X
    go true e = let above = ltb-true (n + j) p e in right (record { above = omega (arith, above); upto = omega (arith, w.upto) })
    go false e = let upto = ltb-false (n + j) p e in left (record { above = w.above; upto = omega (arith, upto) })

-- at each position the symbols are the same
read_same : (reads other : ℕ → ℕ → Bool) (n : ℕ) (r s : Regex SymbolMarks) → Alike r s → Agrees holds reads n r → Agrees holds other n s → (q x : ℕ) → Within n (position_count r) q → reads q x ≡ other q x
read_same reads other n (regex.Atom a) (regex.Atom b) h f g q x w =
    let is : q ≡ n + 1 = omega (arith, w.above, w.upto) in rw is (f x ∙ h x ∙ sym (g x))
read_same reads other n (regex.Concat' _ a _ b) (regex.Concat' _ c _ d) h f g q x w =
    let behind : Agrees holds other (n + position_count a) d = subst (λ j. Agrees holds other (n + j) d) (sym (count_same a c h.0)) g.1 in
    split_within n (position_count a) (position_count b) q w (λ v. read_same reads other n a c h.0 f.0 g.0 q x v) (λ v. read_same reads other (n + position_count a) b d h.1 f.1 behind q x v)
read_same reads other n (regex.Either' _ a _ b) (regex.Either' _ c _ d) h f g q x w =
    let behind : Agrees holds other (n + position_count a) d = subst (λ j. Agrees holds other (n + j) d) (sym (count_same a c h.0)) g.1 in
    split_within n (position_count a) (position_count b) q w (λ v. read_same reads other n a c h.0 f.0 g.0 q x v) (λ v. read_same reads other (n + position_count a) b d h.1 f.1 behind q x v)
read_same reads other n (regex.Star' _ a) (regex.Star' _ b) h f g q x w = read_same reads other n a b h f g q x w
read_same reads other n (regex.Plus' _ a) (regex.Plus' _ b) h f g q x w = read_same reads other n a b h f g q x w
read_same reads other n (regex.Maybe' _ a) (regex.Maybe' _ b) h f g q x w = read_same reads other n a b h f g q x w
read_same reads other n r s h f g q x w = absurd h

-- what comes after a state by a symbol comes after it in the automaton of an expression that is made alike
after_too : (e f : Compiled) → HasAutomaton e → HasAutomaton f → Alike e.regex f.regex → (q x t : ℕ) → Contains (after e q x) t → Contains (after f q x) t
after_too e f k l h q x t m =
    into_filter (λ r. to.reads r x) (to.next q) t
    (((l.automaton.next q).each t).1 (subst (λ P. P q t) (may_follow_same e.regex f.regex h) (((k.automaton.next q).each t).0 found.0)))
    (sym (read_same from.reads to.reads 0 e.regex f.regex h k.automaton.sets l.automaton.sets t x (led_within holds e.regex from k.automaton q t found.0)) ∙ found.1)
  where
    from : nfa.Automaton
    from = automaton_of holds e.nfa

    to : nfa.Automaton
    to = automaton_of holds f.nfa

    found : Contains (from.next q) t × (from.reads t x ≡ true)
    found = from_filter (λ r. from.reads r x) (from.next q) t m

accepts_too : (e f : Compiled) → HasAutomaton e → HasAutomaton f → Alike e.regex f.regex → (q : ℕ) → (automaton e).accepts q ≡ true → (automaton f).accepts q ≡ true
accepts_too e f k l h q a = (l.automaton.accepts q).1 (subst (λ P. P q) (may_end_same e.regex f.regex h) ((k.automaton.accepts q).0 a))

after_rises : (e : Compiled) → HasAutomaton e → (q x : ℕ) → IsStrictlyIncreasing (after e q x)
after_rises e k q x = IsStrictlyIncreasing-filter (λ r. (automaton_of holds e.nfa).reads r x) ((automaton_of holds e.nfa).next q) (k.automaton.next q).rising

-- so the automata have the same states
module _ (e f : Compiled) (k : HasAutomaton e) (l : HasAutomaton f) (h : Alike e.regex f.regex) (g : Alike f.regex e.regex) where
  states_same : (automaton e).states ≡ (automaton f).states
  states_same = k.automaton.states ∙ ap (λ n. n + 1) (count_same e.regex f.regex h) ∙ sym l.automaton.states

  after_same : after e ≡ after f
  after_same = fun_ext (λ q. fun_ext (λ x. one_rising_list (after e q x) (after f q x) (after_rises e k q x) (after_rises f l q x) (λ t. (after_too e f k l h q x t, after_too f e l k g q x t))))

  accepts_same : (automaton e).accepts ≡ (automaton f).accepts
  accepts_same = fun_ext (λ q. bool_same ((automaton e).accepts q) ((automaton f).accepts q) (accepts_too e f k l h q) (accepts_too f e l k g q))

  automaton_same : automaton e ≡ automaton f
  automaton_same = λ i. record { states = states_same i; next = after_same i; accepts = accepts_same i }

  before_same : before e ≡ before f
  before_same = λ i q x. filter (λ p. list_any (λ n. n == q) (after_same i p x)) (range_with_len 0 (states_same i))

-- and the rules are made of the same
module _ (net : Net) (text : List ℕ) (q r : Query) (vector : List (List Part)) (first : IsQuery net text q) (other : IsQuery net text r) (k : HasAutomata q) (l : HasAutomata r) where
  pub one_encoding : encoding_of (problem_of net q vector) ≡ encoding_of (problem_of net r vector)
  one_encoding = λ i. record {
    net = net;
    bounds = same_bounds net text q r first other i;
    first = automaton_same q.first r.first k.first l.first (alike_first net text q r first other) (alike_first net text r q other first) i;
    first_before = before_same q.first r.first k.first l.first (alike_first net text q r first other) (alike_first net text r q other first) i;
    path = automaton_same q.path r.path k.path l.path (alike_path net text q r first other) (alike_path net text r q other first) i;
    last = automaton_same q.last r.last k.last l.last (alike_last net text q r first other) (alike_last net text r q other first) i;
    drops = (ask_the_same net text q r first other).drops i;
    terms = 5;
    first_share = (encoding_of (problem_of net q vector)).first_share;
    step_share = (encoding_of (problem_of net q vector)).step_share;
    end_share = (encoding_of (problem_of net q vector)).end_share;
  }

pub one_system : (net : Net) (text : List ℕ) (q r : Query) (vector : List (List Part)) → IsQuery net text q → IsQuery net text r → HasAutomata q → HasAutomata r
    → (p g : ℕ) → rules (problem_of net q vector) p g ≡ rules (problem_of net r vector) p g
one_system net text q r vector first other k l p g = ap (λ s. rules_by s p g) (one_encoding net text q r vector first other k l)
