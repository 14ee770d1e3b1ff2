-- The rules of a head are few.
use Rattle.std.proofs.Common.{◌≡◌, ℕ, zero, suc, ◌+◌, ◌*◌, ◌<◌, ◌≤◌, ◌^◌, Bool, true, false, not, List, [], ◌∷◌, ◌++◌, length, map, slice_get, arith, length-append}
use Rattle.std.specs.Prelude.{if◌then◌else◌}
use Rattle.std.specs.List.{filter, flat_map, range_with_len}
use Rattle.std.specs.Option.{option_map_or}
use Rattle.std.proofs.lemmas.List.{length-map}
use Rattle.std.proofs.lemmas.List.FromFn.{length-range_with_len}
use Rattle.std.proofs.lemmas.List.Kept.{IsStrictlyIncreasing-filter}
use Rattle.wi_labels.specs.declared.label.Label.{Label}
use Rattle.wi_labels.specs.declared.ops.Op.{Op}
use Rattle.wi_net.specs.declared.parts.LinkId.{LinkId}
use Rattle.wi_net.specs.declared.parts.Member.{Member}
use Rattle.wi_net.specs.LinkSet.{has}
use Rattle.wi_net.specs.Tables.{all_members, row_members}
use Rattle.wi_net.specs.Net.{Net, entry, before as before_group, all_links, links_where}
use Rattle.wi_pds.specs.declared.rule.Word2.{Word2}
use Rattle.wi_pds.specs.declared.rule.Word2.TheVariants.{Empty, One}
use Rattle.wi_nfa.specs.Rows.{automaton_of}
use Rattle.wi_world.specs.declared.run.Step.{Step}
use Rattle.wi_world.specs.declared.run.End.TheVariants.{Arrives, Inactive, Undefined}
use Rattle.wi_world.specs.Moves.{may_be_down}
use Rattle.wi_query.specs.Compiled.{Compiled, HasAutomaton}
use Rattle.wi_query.specs.Sets.{holds}
use Rattle.wi_rules.specs.declared.spot.Spot.{Spot}
use Rattle.wi_rules.specs.declared.spot.Spot.TheVariants.{Start, Done, Build, Close, OnLink, Mid, Drop}
use Rattle.wi_rules.specs.Rules.{Encoding, SpotRule, each_member, plain, working, pushing, ending, is_label, word_over, first_word_over, member_number, on_way, may_build, may_use, build_rules, set_out_rules, hop_rules, entry_rules, inactive_rules, lost_by, undefined_rules, lost_rules, end_rules, next_op_rules, on_link_rules, rules_of}
use Rattle.wi_rules.specs.Numbers.{layout_of, spot_of, numbered, rules_at_number}
use Rattle.wi_rules.proofs.HopRun.{hop_rule}
use Rattle.wi_build.specs.Encodings.{after, comes_after, before, encoding_of}
use Rattle.wi_build.specs.Problems.{Problem, IsProblem}
use Rattle.wi_build.proofs.Automata.{is_automaton}
use Rattle.wi_build.proofs.Lengths.{filter_length, rising_length, flat_length, members_length, entry_members, if_length, option_length}

-- how many labels, links and members a network may have, and how many states an automaton
pub record IsFew (s : Encoding) : Type 0 where
  pub labels : length s.net.classes ≤ 20000
  pub links : length s.net.links ≤ 20000
  pub members : row_members s.net.rows ≤ 400000
  pub first : s.first.states ≤ 513
  pub first_before : (q x : ℕ) → length (s.first_before q x) ≤ 513
  pub path : (q x : ℕ) → length (s.path.next q x) ≤ 513
  pub last : (q x : ℕ) → length (s.last.next q x) ≤ 513

-- the links that pass a test are no more than there are
links_length : (net : Net) (p : LinkId → Bool) → length (links_where net p) ≤ length net.links
links_length net p =
    let all : length (all_links net) ≡ length (range_with_len 0 (length net.links)) = length-map (range_with_len 0 (length net.links)) (λ (i : ℕ). record { 0 = i }) in
    omega (arith, filter_length p (all_links net), all, length-range_with_len 0 (length net.links))

map_length : {X Y : Type 0} (f : X → Y) (xs : List X) (n : ℕ) → length xs ≤ n → length (map f xs) ≤ n
map_length f xs n h = omega (arith, length-map xs f, h)

module _ (s : Encoding) (few : IsFew s) where
  build_few : (q g l : ℕ) → length (build_rules s q g l) ≤ 513
  build_few q g l = if_length (may_build s.net l g) (map (λ (r : ℕ). pushing s l g r) (s.first_before q l)) 513 (map_length (λ (r : ℕ). pushing s l g r) (s.first_before q l) 513 (few.first_before q l))

  set_out_few : (n : ℕ) (e : LinkId) → length (set_out_rules s n e) ≤ 513
  set_out_few n e = map_length _ (s.path.next 0 e.0) 513 (few.path 0 e.0)

  hop_few : (e : LinkId) (q : ℕ) (l : Label) (step : Step) (member : Member) → length (hop_rules s e q l step member) ≤ 513
  hop_few e q l step member =
      if_length (may_use s.net s.bounds (entry s.net e l) step.group member.link) (option_map_or (λ (word : Word2). map (hop_rule s e q l step member word) (s.path.next q member.link.0)) (first_word_over s.net member.ops l.0) []) 513
      (option_length (λ (word : Word2). map (hop_rule s e q l step member word) (s.path.next q member.link.0)) (first_word_over s.net member.ops l.0) 513
      (λ word. map_length (hop_rule s e q l step member word) (s.path.next q member.link.0) 513 (few.path q member.link.0)))

  entry_few : (e : LinkId) (q : ℕ) (l : Label) → length (entry_rules s e q l) ≤ 400000 * 513
  entry_few e q l =
      let all = members_length (hop_rules s e q l) 513 (entry s.net e l) (hop_few e q l) in
      let most = entry_members s.net.rows e l in
      omega (arith, all, most, few.members)

  inactive_few : (e : LinkId) (l : Label) → length (inactive_rules s e l) ≤ 1
  inactive_few e l = if_length (may_be_down s.net s.bounds (before_group s.net (entry s.net e l) (length (entry s.net e l)))) (ending s e l Inactive (Close 0) (One (suc l.0)) ∷ []) 1 (omega arith)

  undefined_few : (e : LinkId) (l : Label) (step : Step) (member : Member) → length (undefined_rules s e l step member) ≤ 1
  undefined_few e l step member =
      let to_rule : Spot × Word2 → List SpotRule = λ way. ending s e l (Undefined step) way.0 way.1 ∷ [] in
      if_length (may_use s.net s.bounds (entry s.net e l) step.group member.link) (option_map_or to_rule (lost_by s.net member.ops (member_number s.net e l step) 0 l.0) []) 1
      (option_length to_rule (lost_by s.net member.ops (member_number s.net e l step) 0 l.0) 1 (λ way. omega arith))

  end_few : (e : LinkId) (l : Label) → length (end_rules s e l) ≤ 400001
  end_few e l = go s.drops
    where
      go : (b : Bool) → length (if b then inactive_rules s e l ++ each_member (undefined_rules s e l) (entry s.net e l) else ending s e l Arrives (Close 0) (One (suc l.0)) ∷ []) ≤ 400001
      go false = omega arith
      go true =
          let all = members_length (undefined_rules s e l) 1 (entry s.net e l) (undefined_few e l) in
          let most = entry_members s.net.rows e l in
          omega (arith, length-append (inactive_rules s e l) (each_member (undefined_rules s e l) (entry s.net e l)), inactive_few e l, all, most, few.members)

  on_link_few : (e : LinkId) (q : ℕ) (l : Label) → length (on_link_rules s e q l) ≤ 400000 * 514 + 1
  on_link_few e q l =
      let over : length (if s.path.accepts q then end_rules s e l else []) ≤ 400001 = if_length (s.path.accepts q) (end_rules s e l) 400001 (end_few e l) in
      omega (arith, length-append (entry_rules s e q l) (if s.path.accepts q then end_rules s e l else []), entry_few e q l, over)

  next_op_few : (m i q n : ℕ) (member : Member) → length (next_op_rules s m i q n member) ≤ 1
  next_op_few m i q n member =
      option_length (λ (op : Op). option_map_or (λ (word : Word2). working s m i (on_way member m (suc i) q) word ∷ []) (word_over s.net op n) []) (slice_get member.ops i) 1
      (λ op. option_length (λ (word : Word2). working s m i (on_way member m (suc i) q) word ∷ []) (word_over s.net op n) 1 (λ word. omega arith))

  lost_few : (m i n : ℕ) (member : Member) → length (lost_rules s m i n member) ≤ 1
  lost_few m i n member = option_length (λ (way : Spot × Word2). working s m i way.0 way.1 ∷ []) (lost_by s.net member.ops m i n) 1 (λ way. omega arith)

  pub rules_few : (p : Spot) (g : ℕ) → length (rules_of s p g) ≤ 400000 * 514 + 1
  rules_few Start zero =
      let accepting = filter_length (λ (q : ℕ). s.first.accepts q) (range_with_len 0 s.first.states) in
      map_length (λ (q : ℕ). plain s (Build q) (One 0)) (filter (λ (q : ℕ). s.first.accepts q) (range_with_len 0 s.first.states)) (400000 * 514 + 1) (omega (arith, accepting, length-range_with_len 0 s.first.states, few.first))
  rules_few Start (suc n) = omega arith
  rules_few Done g = omega arith
  rules_few (Build zero) zero = omega arith
  rules_few (Build zero) (suc n) =
      let alive = links_where s.net (λ e. not (has s.bounds.down e)) in
      let all = flat_length (set_out_rules s n) 513 alive (set_out_few n) in
      if_length (is_label s.net n) (flat_map (set_out_rules s n) alive) (400000 * 514 + 1) (omega (arith, all, links_length s.net (λ e. not (has s.bounds.down e)), few.links))
  rules_few (Build (suc q)) g =
      let all = flat_length (build_rules s (suc q) g) 513 (range_with_len 0 (length s.net.classes)) (build_few (suc q) g) in
      omega (arith, all, length-range_with_len 0 (length s.net.classes), few.labels)
  rules_few (Close q) zero = if_length (s.last.accepts q) (plain s Done Empty ∷ []) (400000 * 514 + 1) (omega arith)
  rules_few (Close q) (suc n) =
      if_length (is_label s.net n) (map (λ (r : ℕ). plain s (Close r) Empty) (s.last.next q n)) (400000 * 514 + 1)
      (map_length (λ (r : ℕ). plain s (Close r) Empty) (s.last.next q n) (400000 * 514 + 1) (omega (arith, few.last q n)))
  rules_few (OnLink e q) zero = omega arith
  rules_few (OnLink e q) (suc n) = if_length (is_label s.net n) (on_link_rules s e q (record { 0 = n })) (400000 * 514 + 1) (on_link_few e q (record { 0 = n }))
  rules_few (Mid m zero q) g = omega arith
  rules_few (Mid m (suc i) q) zero = omega arith
  rules_few (Mid m (suc i) q) (suc n) =
      option_length (next_op_rules s m (suc i) q n) (slice_get (all_members s.net.rows) m) (400000 * 514 + 1) (λ member. omega (arith, next_op_few m (suc i) q n member))
  rules_few (Drop m zero) g = omega arith
  rules_few (Drop m (suc i)) zero = omega arith
  rules_few (Drop m (suc i)) (suc n) =
      if_length (is_label s.net n) (option_map_or (lost_rules s m (suc i) n) (slice_get (all_members s.net.rows) m) []) (400000 * 514 + 1)
      (option_length (lost_rules s m (suc i) n) (slice_get (all_members s.net.rows) m) (400000 * 514 + 1) (λ member. omega (arith, lost_few m (suc i) n member)))

  pub head_few : (n g : ℕ) → length (rules_at_number s n g) < 2 ^ 32
  head_few n g =
      let most = option_length (λ (p : Spot). map (λ (r : SpotRule). numbered s r) (rules_of s p g)) (spot_of (layout_of s) n) (400000 * 514 + 1)
      (λ p. map_length (λ (r : SpotRule). numbered s r) (rules_of s p g) (400000 * 514 + 1) (rules_few p g)) in
      omega (arith, most)

module _ (e : Compiled) (k : HasAutomaton e) where
  states_few : (automaton_of holds e.nfa).states ≤ 513
  states_few = omega (arith, k.automaton.states, k.few)

  after_few : (q x : ℕ) → length (after e q x) ≤ 513
  after_few q x =
      let rises = IsStrictlyIncreasing-filter (λ r. (automaton_of holds e.nfa).reads r x) ((automaton_of holds e.nfa).next q) (k.automaton.next q).rising in
      let most = rising_length (after e q x) (automaton_of holds e.nfa).states rises (λ t h. (is_automaton e k).below q t x h) in
      omega (arith, most, states_few)

  before_few : (q x : ℕ) → length (before e q x) ≤ 513
  before_few q x =
      let most = filter_length (λ p. comes_after e p x q) (range_with_len 0 (automaton_of holds e.nfa).states) in
      omega (arith, most, length-range_with_len 0 (automaton_of holds e.nfa).states, states_few)

is_few : (problem : Problem) → IsProblem problem → IsFew (encoding_of problem)
is_few problem k = record {
  labels = omega (arith, k.network.classes, k.network.few_labels);
  links = k.network.few_links;
  members = k.network.few_members;
  first = states_few problem.query.first k.automata.first;
  first_before = before_few problem.query.first k.automata.first;
  path = after_few problem.query.path k.automata.path;
  last = after_few problem.query.last k.automata.last;
}

pub few : (problem : Problem) (n g : ℕ) → IsProblem problem → length (rules_at_number (encoding_of problem) n g) < 2 ^ 32
few problem n g k = head_few (encoding_of problem) (is_few problem k) n g
