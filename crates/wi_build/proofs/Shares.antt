-- A run weighs what its first link, its steps and its end add to five terms, and its effort.
use Rattle.std.proofs.Common.{◌≡◌, ℕ, zero, suc, ◌+◌, false, List, [], ◌∷◌, ◌++◌, Option, Some, None, length, map, take, replicate, refl, arith, ap, sym, ◌∙◌, length-append}
use Rattle.std.proofs.Math.Seq.{take-append_seam}
use Rattle.std.proofs.lemmas.List.{length-take-le}
use Rattle.std.specs.List.{filter}
use Rattle.std.specs.Option.{option_map_or}
use Rattle.wi_weight.specs.Weights.{plus}
use Rattle.wi_weight.specs.lemmas.Sums.{take_plus}
use Rattle.wi_net.specs.declared.parts.Member.{Member}
use Rattle.wi_net.specs.declared.parts.LinkId.{LinkId}
use Rattle.wi_net.specs.Net.{Net, all_links, risk_count, before}
use Rattle.wi_world.specs.declared.run.Quantity.{Quantity}
use Rattle.wi_world.specs.declared.run.Quantity.TheVariants.{Links, Hops, Distance, Failures, Tunnels}
use Rattle.wi_world.specs.declared.run.Run.{Run}
use Rattle.wi_world.specs.declared.run.Step.{Step}
use Rattle.wi_world.specs.declared.run.End.{End}
use Rattle.wi_world.specs.declared.run.End.TheVariants.{Arrives, Inactive, Undefined}
use Rattle.wi_world.specs.Moves.{Location, moved, needed_to_end}
use Rattle.wi_world.specs.Runs.{link_share, hop_share, end_share, sum_over, quantity_of, effort_of}
use Rattle.wi_quantity.specs.declared.vector.Part.{Part}
use Rattle.wi_quantity.specs.Weighing.{term_value, term_values, weight_of, first_weight, hop_weight, end_adds, end_weight, member_in, entry_weight, step_weight, steps_weight}
use Rattle.wi_quantity.proofs.RunShares.{values_plus, values_zero, steps_weigh}
use Rattle.wi_quantity.proofs.ShareLemmas.{same_values}
use Rattle.wi_rules.specs.Goals as goals
use Rattle.wi_build.specs.Problems.{Problem}
use Rattle.wi_build.specs.Encodings.{encoding_of}

-- a vector gives five values, which stand before the effort
five_values : (f : Quantity → ℕ) (vector : List (List Part)) → length (term_values f vector) ≡ 5
five_values f vector = length-take-le 5 (map (term_value f) vector ++ replicate 5 0) (omega (arith, length-append (map (term_value f) vector) (replicate 5 0)))

five_before : (f : Quantity → ℕ) (vector : List (List Part)) (effort : ℕ) → take 5 (term_values f vector ++ effort ∷ []) ≡ term_values f vector
five_before f vector effort = ap (λ (n : ℕ). take n (term_values f vector ++ effort ∷ [])) (sym (five_values f vector)) ∙ take-append_seam (term_values f vector) (effort ∷ [])

pub five_taken : (f : Quantity → ℕ) (vector : List (List Part)) (effort : ℕ) → length (take 5 (term_values f vector ++ effort ∷ [])) ≡ 5
five_taken f vector effort = ap length (five_before f vector effort) ∙ five_values f vector

pub five_added : (net : Net) (vector : List (List Part)) (groups : List (List Member)) (j m : ℕ) → length (take 5 (entry_weight net vector groups j m)) ≡ 5
five_added net vector groups j m = go (member_in groups j m)
  where
    go : (o : Option Member) → length (take 5 (option_map_or (λ member. hop_weight net vector member (risk_count net (before net groups j))) o (replicate 6 0))) ≡ 5
    go None = refl
    go (Some member) = five_taken _ vector 0

-- where there are no groups, no end needs failures, and none adds anything
filter_none : {X : Type 0} (xs : List X) → filter (λ x. false) xs ≡ []
filter_none [] = refl
filter_none (x ∷ xs) = filter_none xs

none_before : (net : Net) (j : ℕ) → risk_count net (before net [] j) ≡ 0
none_before net zero = ap (λ (links : List LinkId). risk_count net links) (filter_none (all_links net))
none_before net (suc j) = ap (λ (links : List LinkId). risk_count net links) (filter_none (all_links net))

none_to_end : (net : Net) (e : LinkId) (end : End) → risk_count net (needed_to_end net (e, []) end) ≡ 0
none_to_end net e Arrives = refl
none_to_end net e Inactive = none_before net 0
none_to_end net e (Undefined step) = none_before net step.group

adds_none : (q : Quantity) → 0 ≡ end_adds q 0
adds_none Links = refl
adds_none Hops = refl
adds_none Distance = refl
adds_none Failures = refl
adds_none Tunnels = refl

module _ (problem : Problem) where
  share_is : (at : Location) (step : Step) → goals.share_at (encoding_of problem) at step ≡ take 5 (step_weight problem.net problem.vector at step)
  share_is (e, []) step = refl
  share_is (e, top ∷ below) step = refl

  end_is : (end : End) (at : Location) → goals.end_share_at (encoding_of problem) at end ≡ take 5 (end_weight problem.vector (risk_count problem.net (needed_to_end problem.net at end)))
  end_is end (e, []) =
      ap (λ (x : List ℕ). take 5 x) (values_zero problem.vector ∙ same_values (λ q. 0) (λ q. end_adds q 0) problem.vector adds_none)
      ∙ ap (λ (n : ℕ). take 5 (end_weight problem.vector n)) (sym (none_to_end problem.net e end))
  end_is end (e, top ∷ below) = refl

  shares_are : (end : End) (steps : List Step) (at : Location) → goals.shares (encoding_of problem) end at steps ≡ take 5 (steps_weight problem.net problem.vector end at steps)
  shares_are end [] at = end_is end at
  shares_are end (step ∷ steps) at = go (moved problem.net at step) (shares_are end steps)
    where
      go : (o : Option Location) → ((next : Location) → goals.shares (encoding_of problem) end next steps ≡ take 5 (steps_weight problem.net problem.vector end next steps))
          → option_map_or (λ next. plus (goals.share_at (encoding_of problem) at step) (goals.shares (encoding_of problem) end next steps)) o (replicate 5 0)
          ≡ take 5 (option_map_or (λ next. plus (step_weight problem.net problem.vector at step) (steps_weight problem.net problem.vector end next steps)) o (replicate 6 0))
      go None ih = refl
      go (Some next) ih = rw (share_is at step, ih next) (sym (take_plus 5 (step_weight problem.net problem.vector at step) (steps_weight problem.net problem.vector end next steps)))

  -- what the first link, the steps and the end weigh together, without effort
  together : (run : Run) → plus (first_weight problem.net problem.vector run.first.0) (steps_weight problem.net problem.vector run.end (run.first, run.header) run.steps) ≡ term_values (λ q. quantity_of q problem.net run) problem.vector ++ 0 ∷ []
  together run =
      ap (λ (x : List ℕ). plus (first_weight problem.net problem.vector run.first.0) x) (steps_weigh problem.net problem.vector run.end (run.first, run.header) run.steps)
      ∙ values_plus (λ q. link_share q problem.net run.first) (λ q. sum_over problem.net (λ here step next. link_share q problem.net next.0 + hop_share q problem.net here step next) (end_share q problem.net run.end) (run.first, run.header) run.steps) problem.vector

  pub weight_is : (run : Run) → goals.weight_of (encoding_of problem) run ≡ weight_of problem.net problem.vector run
  weight_is run =
      let terms : plus (take 5 (first_weight problem.net problem.vector run.first.0)) (goals.shares (encoding_of problem) run.end (run.first, run.header) run.steps) ≡ term_values (λ q. quantity_of q problem.net run) problem.vector =
      ap (λ (x : List ℕ). plus (take 5 (first_weight problem.net problem.vector run.first.0)) x) (shares_are run.end run.steps (run.first, run.header))
      ∙ sym (take_plus 5 (first_weight problem.net problem.vector run.first.0) (steps_weight problem.net problem.vector run.end (run.first, run.header) run.steps))
      ∙ ap (λ (x : List ℕ). take 5 x) (together run)
      ∙ five_before (λ q. quantity_of q problem.net run) problem.vector 0 in
      ap (λ (x : List ℕ). x ++ effort_of problem.net run ∷ []) terms
