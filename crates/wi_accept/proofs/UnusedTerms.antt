-- The terms that a vector hasn't are 0 in what rules weigh, in what their runs weigh, and in what the runs of a network weigh.
use Rattle.std.proofs.Common.{◌≡◌, ℕ, zero, suc, ◌<◌, ◌≤◌, List, [], ◌∷◌, ◌++◌, Option, Some, None, length, map, take, replicate, Contains, refl, sym, ap, ◌∙◌, subst, arith, length-append}
use Rattle.std.specs.Prelude.{slice_index}
use Rattle.std.specs.Option.{option_map_or}
use Rattle.std.proofs.lemmas.List.{get_or_append_left, get_or_past, length-map, length-take}
use Rattle.wi_labels.specs.declared.label.Label.{Label}
use Rattle.wi_net.specs.declared.parts.LinkId.{LinkId}
use Rattle.wi_net.specs.declared.parts.Member.{Member}
use Rattle.wi_net.specs.Net.{entry, risk_count, before}
use Rattle.wi_weight.specs.lemmas.Sums.{plus_at}
use Rattle.wi_weight.specs.declared.kinds.Pair.{Pair}
use Rattle.wi_weight.specs.declared.kinds.Terms.{Terms}
use Rattle.wi_weight.specs.declared.kinds.Effort.{Effort}
use Rattle.wi_world.specs.declared.run.Quantity.{Quantity}
use Rattle.wi_world.specs.declared.run.Run.{Run as WorldRun}
use Rattle.wi_world.specs.declared.run.Step.{Step}
use Rattle.wi_world.specs.declared.run.End.{End}
use Rattle.wi_world.specs.Moves.{before_end}
use Rattle.wi_world.specs.Runs.{link_share, quantity_of, effort_of}
use Rattle.wi_quantity.specs.declared.vector.Part.{Part}
use Rattle.wi_quantity.specs.Weighing.{components, term_value, term_values, member_share, end_adds, hop_weight, end_weight, member_in, entry_weight, first_weight}
use Rattle.wi_pds.specs.declared.rule.Rule.{Rule}
use Rattle.wi_pds.specs.Runs.{Run, Pops, run_weight, symbols}
use Rattle.wi_rules.specs.declared.spot.Spot.{Spot}
use Rattle.wi_rules.specs.Rules.{SpotRule, IsEncoding, rules_of}
use Rattle.wi_rules.specs.Numbers.{NumberedRule, layout_of, spot_of, numbered, rules_at_number}
use Rattle.wi_rules.proofs.Lists.{contains_in, map_in, option_in}
use Rattle.wi_build.proofs.Sound.{sound}
use Rattle.wi_build.proofs.RuleShares.{shares_hold}
use Rattle.wi_build.specs.Problems.{Problem, IsProblem, weighs}
use Rattle.wi_build.specs.Encodings.{encoding_of}
use Rattle.wi_build.specs.Systems.{scale, rule_at, rules_by}
use Rattle.wi_build.proofs.LawLemmas.{weight_tells}

-- where lists have nothing but 0
pub zeros_at : (k i : ℕ) → slice_index (replicate k 0) i ≡ 0
zeros_at zero i = refl
zeros_at (suc k) zero = refl
zeros_at (suc k) (suc i) = zeros_at k i

pub append_at : (xs ys : List ℕ) (i : ℕ) → slice_index xs i ≡ 0 → ((j : ℕ) → slice_index ys j ≡ 0) → slice_index (xs ++ ys) i ≡ 0
append_at [] ys i h k = k i
append_at (x ∷ xs) ys zero h k = h
append_at (x ∷ xs) ys (suc i) h k = append_at xs ys i h k

pub take_at : (k : ℕ) (xs : List ℕ) (i : ℕ) → slice_index xs i ≡ 0 → slice_index (take k xs) i ≡ 0
take_at zero xs i h = refl
take_at (suc k) [] i h = refl
take_at (suc k) (x ∷ xs) zero h = h
take_at (suc k) (x ∷ xs) (suc i) h = take_at k xs i h

-- past the terms of a vector, what is worth nothing
pub term_values_at : (value : Quantity → ℕ) (vector : List (List Part)) (i : ℕ) → length vector ≤ i → slice_index (term_values value vector) i ≡ 0
term_values_at value vector i past =
    let none : slice_index (map (term_value value) vector) i ≡ 0 = get_or_past (map (term_value value) vector) i 0 (omega (arith, past, length-map vector (term_value value))) in
    take_at 5 (map (term_value value) vector ++ replicate 5 0) i (append_at (map (term_value value) vector) (replicate 5 0) i none (zeros_at 5))

values_at : (value : Quantity → ℕ) (vector : List (List Part)) (i : ℕ) → length vector ≤ i → slice_index (take 5 (term_values value vector ++ 0 ∷ [])) i ≡ 0
values_at value vector i past = take_at 5 (term_values value vector ++ 0 ∷ []) i (append_at (term_values value vector) (0 ∷ []) i (term_values_at value vector i past) (zeros_at 1))

-- a list of five numbers, which are 0 from a place on
pub record IsZeroFrom (n : ℕ) (share : List ℕ) : Type 0 where
  pub five : length share ≡ 5
  pub past : (i : ℕ) → n ≤ i → slice_index share i ≡ 0

module _ (problem : Problem) (k : IsProblem problem) where
  is_encoding : IsEncoding (encoding_of problem)
  is_encoding = sound problem k

  -- what links, hops and ends add to terms
  first_zero : (e : LinkId) → IsZeroFrom (length problem.vector) (take 5 (first_weight problem.net problem.vector e.0))
  first_zero e = record { five = is_encoding.first_length e; past = values_at (λ q. link_share q problem.net (record { 0 = e.0 })) problem.vector }

  entry_at : (groups : List (List Member)) (j : ℕ) (o : Option Member) (i : ℕ) → length problem.vector ≤ i
      → slice_index (take 5 (option_map_or (λ (member : Member). hop_weight problem.net problem.vector member (risk_count problem.net (before problem.net groups j))) o (replicate 6 0))) i ≡ 0
  entry_at groups j None i past = take_at 5 (replicate 6 0) i (zeros_at 6 i)
  entry_at groups j (Some member) i past = values_at (λ q. member_share q problem.net member (risk_count problem.net (before problem.net groups j))) problem.vector i past

  step_zero : (e : LinkId) (l : Label) (step : Step) → IsZeroFrom (length problem.vector) (take 5 (entry_weight problem.net problem.vector (entry problem.net e l) step.group step.member))
  step_zero e l step = record {
    five = is_encoding.step_length e l step;
    past = entry_at (entry problem.net e l) step.group (member_in (entry problem.net e l) step.group step.member);
  }

  end_zero : (e : LinkId) (l : Label) (end : End)
      → IsZeroFrom (length problem.vector) (take 5 (end_weight problem.vector (risk_count problem.net (before_end problem.net (entry problem.net e l) end))))
  end_zero e l end = record {
    five = is_encoding.end_length e l end;
    past = values_at (λ q. end_adds q (risk_count problem.net (before_end problem.net (entry problem.net e l) end))) problem.vector;
  }

  -- what a rule weighs
  spot_rule_at : (n g : ℕ) (rule : SpotRule) → length rule.share ≡ 5 → ((i : ℕ) → length problem.vector ≤ i → slice_index rule.share i ≡ 0)
      → (i : ℕ) → length problem.vector ≤ i → i < 5 → slice_index (components (rule_at n g (numbered (encoding_of problem) rule)).weight) i ≡ 0
  spot_rule_at n g rule five none i past low =
      ap (λ xs. slice_index xs i) (weight_tells (rule.share ++ 1 ∷ []) (length-append rule.share (1 ∷ []) ∙ omega arith))
      ∙ get_or_append_left rule.share (1 ∷ []) 0 i (omega arith) ∙ none i past

  pub rule_weighs : (n g : ℕ) (r : Rule (Pair Terms Effort)) → Contains (rules_by (encoding_of problem) n g) r → (i : ℕ) → length problem.vector ≤ i → i < 5 → slice_index (components r.weight) i ≡ 0
  rule_weighs n g r h i past low =
      let s = encoding_of problem in
      let a = map_in (λ (x : NumberedRule). rule_at n g x) (rules_at_number s n g) r (contains_in (rules_by s n g) r h) in
      let b = option_in (λ (p : Spot). map (λ (x : SpotRule). numbered s x) (rules_of s p g)) (spot_of (layout_of s) n) a.0 a.1 in
      let d = map_in (λ (x : SpotRule). numbered s x) (rules_of s b.0 g) a.0 b.2 in
      let share : IsZeroFrom (length problem.vector) (d.0).share =
      shares_hold s is_encoding (λ (x : List ℕ). IsZeroFrom (length problem.vector) x) (record { five = refl; past = λ j p. zeros_at 5 j }) first_zero step_zero end_zero b.0 g d.0 d.1 in
      let same : rule_at n g (numbered s d.0) ≡ r = ap (λ (x : NumberedRule). rule_at n g x) d.2 ∙ a.2 in
      subst (λ (x : Rule (Pair Terms Effort)). slice_index (components x.weight) i ≡ 0) same (spot_rule_at n g d.0 share.five share.past i past low)

  -- and what runs do
  run_at : (rs : List (Rule (Pair Terms Effort))) (p : ℕ) (s : List ℕ) (q : ℕ) (t : List ℕ) → Run (rules_by (encoding_of problem)) p s rs q t
      → (i : ℕ) → length problem.vector ≤ i → i < 5 → slice_index (run_weight scale components rs) i ≡ 0
  run_at [] p s q t run i past low = zeros_at 6 i
  run_at (r ∷ rs) p [] q t run i past low = absurd run
  run_at (r ∷ rs) p (g ∷ s) q t (there, more) i past low =
      plus_at (components r.weight) (run_weight scale components rs) i
      ∙ rw (rule_weighs p g r there i past low, run_at rs r.to (symbols r.word ++ s) q t more i past low) refl

  pub pops_at : (p g q : ℕ) (w : List ℕ) → Pops scale components (rules_by (encoding_of problem)) p g q w → (i : ℕ) → length problem.vector ≤ i → i < 5 → slice_index w i ≡ 0
  pops_at p g q w pops i past low = ap (λ x. slice_index x i) (sym pops.2) ∙ run_at pops.0 p (g ∷ []) q [] pops.1 i past low

-- and the runs of a network, whose five values stand before the effort
pub run_weighs : (problem : Problem) (run : WorldRun) (i : ℕ) → length problem.vector ≤ i → i < 5 → slice_index (weighs problem run) i ≡ 0
run_weighs problem run i past low =
    let value : Quantity → ℕ = λ q. quantity_of q problem.net run in
    let parts : List ℕ = map (term_value value) problem.vector in
    get_or_append_left (term_values value problem.vector) (effort_of problem.net run ∷ []) 0 i (omega (arith, low, length-take 5 (parts ++ replicate 5 0), length-append parts (replicate 5 0)))
    ∙ term_values_at value problem.vector i past
