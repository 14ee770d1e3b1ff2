-- Runs over numbers are runs over spots, of the same weight.
use Rattle.std.proofs.Common.{◌≡◌, ℕ, zero, suc, ◌+◌, List, [], ◌∷◌, ◌++◌, map, replicate, Some, refl, arith, ap, sym, ◌∙◌, subst}
use Rattle.std.specs.List.{Contains}
use Rattle.wi_weight.specs.Weights.{Scale, plus, zero_weight}
use Rattle.wi_pds.specs.declared.rule.Rule.{Rule}
use Rattle.wi_pds.specs.Runs as pds
use Rattle.wi_pds.specs.Runs.{symbols, run_weight, Pops}
use Rattle.wi_rules.specs.declared.spot.Origin.{Origin}
use Rattle.wi_rules.specs.declared.spot.Spot.{Spot}
use Rattle.wi_rules.specs.declared.spot.Spot.TheVariants.{Start, Done}
use Rattle.wi_rules.specs.Rules.{Encoding, SpotRule, rules_of, IsEncoding}
use Rattle.wi_rules.specs.Goals.{Rewrites, rules_weight, IsGoalRun, IsMatch, main_origin, origins_of, origins_for}
use Rattle.wi_rules.specs.Numbers.{layout_of, number, spot_of, Fits, NumberedRule, numbered, seen, AreRulesOf, origins_by}
use Rattle.wi_rules.proofs.Lists.{In, in_contains, contains_in, in_map, map_in}
use Rattle.wi_world.specs.declared.run.Run.{Run}
use Rattle.wi_rules.proofs.Matches.{goal_of_match, match_of_goal}
use Rattle.wi_rules.proofs.Numbering.{spot_of_number, rule_fits}

module _ {W : Type 0} (s : Encoding) (k : IsEncoding s) (m : Scale) (c : W → List ℕ) (o : Rule W → Origin) (rules : ℕ → ℕ → List (Rule W)) (are : AreRulesOf s c o rules) (arity : m.arity ≡ s.terms + 1) where
  -- the rules at a spot's number are the spot's
  at_number : (p : Spot) (g : ℕ) → Fits (layout_of s) p → map (λ (r : Rule W). seen c o r) (rules (number (layout_of s) p) g) ≡ map (λ (r : SpotRule). numbered s r) (rules_of s p g)
  at_number p g f = are.each (number (layout_of s) p) g ∙ rw (spot_of_number (layout_of s) p f) refl

  -- a rule over numbers is a rule over spots
  record Same (p : Spot) (g : ℕ) (r : Rule W) : Type 0 where
    spot_rule : SpotRule
    there : In (rules_of s p g) spot_rule
    is : numbered s spot_rule ≡ seen c o r

  to_spot_rule : (p : Spot) (g : ℕ) (r : Rule W) → Fits (layout_of s) p → Contains (rules (number (layout_of s) p) g) r → Same p g r
  to_spot_rule p g r f h =
      let i : In (map (λ (x : Rule W). seen c o x) (rules (number (layout_of s) p) g)) (seen c o r) = in_map (λ (x : Rule W). seen c o x) (rules (number (layout_of s) p) g) r (contains_in (rules (number (layout_of s) p) g) r h) in
      let a = map_in (λ (x : SpotRule). numbered s x) (rules_of s p g) (seen c o r) (subst (λ (x : List NumberedRule). In x (seen c o r)) (at_number p g f) i) in
      record { spot_rule = a.0; there = a.1; is = a.2 }

  record Back (p : Spot) (g : ℕ) (spot_rule : SpotRule) : Type 0 where
    rule : Rule W
    there : Contains (rules (number (layout_of s) p) g) rule
    is : seen c o rule ≡ numbered s spot_rule

  to_rule : (p : Spot) (g : ℕ) (spot_rule : SpotRule) → Fits (layout_of s) p → Contains (rules_of s p g) spot_rule → Back p g spot_rule
  to_rule p g spot_rule f h =
      let i : In (map (λ (x : SpotRule). numbered s x) (rules_of s p g)) (numbered s spot_rule) = in_map (λ (x : SpotRule). numbered s x) (rules_of s p g) spot_rule (contains_in (rules_of s p g) spot_rule h) in
      let a = map_in (λ (x : Rule W). seen c o x) (rules (number (layout_of s) p) g) (numbered s spot_rule) (subst (λ (x : List NumberedRule). In x (numbered s spot_rule)) (sym (at_number p g f)) i) in
      record { rule = a.0; there = in_contains (rules (number (layout_of s) p) g) a.0 a.1; is = a.2 }

  done_is : (p : Spot) → Fits (layout_of s) p → number (layout_of s) p ≡ 1 → p ≡ Done
  done_is p f e =
      let a : Some p ≡ Some Done = sym (spot_of_number (layout_of s) p f) ∙ ap (λ (x : ℕ). spot_of (layout_of s) x) e in
      cc

  empty_weight : rules_weight s [] ≡ zero_weight m
  empty_weight = go s.terms ∙ ap (λ (x : ℕ). replicate x 0) (sym arity)
    where
      go : (n : ℕ) → ◌++◌ {A = ℕ} (replicate n 0) (0 ∷ []) ≡ replicate (n + 1) 0
      go zero = refl
      go (suc n) = let e : suc n + 1 ≡ suc (n + 1) = omega arith in rw e (ap (λ (x : List ℕ). 0 ∷ x) (go n))

  pub to_spot_rules : (rs : List (Rule W)) (p : Spot) (stack : List ℕ) → Fits (layout_of s) p → pds.Run rules (number (layout_of s) p) stack rs 1 [] → (ss : List SpotRule) × Rewrites s p stack ss Done [] × (rules_weight s ss ≡ run_weight m c rs) × (origins_of ss ≡ origins_by o rs)
  to_spot_rules [] p stack f h = ([], (done_is p f h.0, h.1), empty_weight, refl)
  to_spot_rules (r ∷ rs) p [] f h = absurd h
  to_spot_rules (r ∷ rs) p (g ∷ stack) f h =
      let a : Same p g r = to_spot_rule p g r f h.0 in
      let h1 : pds.Run rules (seen c o r).to (symbols (seen c o r).word ++ stack) rs 1 [] = h.1 in
      let h2 : pds.Run rules (number (layout_of s) a.spot_rule.to) (symbols a.spot_rule.word ++ stack) rs 1 [] = subst (λ (x : NumberedRule). pds.Run rules x.to (symbols x.word ++ stack) rs 1 []) (sym a.is) h1 in
      let rest : (ss : List SpotRule) × Rewrites s a.spot_rule.to (symbols a.spot_rule.word ++ stack) ss Done [] × (rules_weight s ss ≡ run_weight m c rs) × (origins_of ss ≡ origins_by o rs) = to_spot_rules rs a.spot_rule.to (symbols a.spot_rule.word ++ stack) (rule_fits s k p g a.spot_rule f a.there) h2 in (
        a.spot_rule ∷ rest.0,
        (in_contains (rules_of s p g) a.spot_rule a.there, rest.1),
        ap (λ (x : List ℕ). plus (a.spot_rule.share ++ 1 ∷ []) x) rest.2 ∙ ap (λ (x : NumberedRule). plus x.weight (run_weight m c rs)) a.is,
        ap (λ (x : List Origin). main_origin a.spot_rule.origin ++ x) rest.3 ∙ ap (λ (x : NumberedRule). main_origin x.origin ++ origins_by o rs) a.is,
      )

  pub to_rules : (ss : List SpotRule) (p : Spot) (stack : List ℕ) → Fits (layout_of s) p → Rewrites s p stack ss Done [] → (rs : List (Rule W)) × pds.Run rules (number (layout_of s) p) stack rs 1 [] × (run_weight m c rs ≡ rules_weight s ss) × (origins_by o rs ≡ origins_of ss)
  to_rules [] p stack f h = ([], (ap (λ (x : Spot). number (layout_of s) x) h.0, h.1), sym empty_weight, refl)
  to_rules (r ∷ ss) p [] f h = absurd h
  to_rules (spot_rule ∷ ss) p (g ∷ stack) f h =
      let a : Back p g spot_rule = to_rule p g spot_rule f h.0 in
      let rest : (rs : List (Rule W)) × pds.Run rules (number (layout_of s) spot_rule.to) (symbols spot_rule.word ++ stack) rs 1 [] × (run_weight m c rs ≡ rules_weight s ss) × (origins_by o rs ≡ origins_of ss) =
      to_rules ss spot_rule.to (symbols spot_rule.word ++ stack) (rule_fits s k p g spot_rule f (contains_in (rules_of s p g) spot_rule h.0)) h.1 in (
        a.rule ∷ rest.0,
        (a.there, subst (λ (x : NumberedRule). pds.Run rules x.to (symbols x.word ++ stack) rest.0 1 []) (sym a.is) rest.1),
        ap (λ (x : List ℕ). plus (c a.rule.weight) x) rest.2 ∙ ap (λ (x : NumberedRule). plus x.weight (rules_weight s ss)) a.is,
        ap (λ (x : List Origin). main_origin (o a.rule) ++ x) rest.3 ∙ ap (λ (x : NumberedRule). main_origin x.origin ++ origins_of ss) a.is,
      )

  -- goal runs over numbers and over spots
  pub to_goal : (rs : List (Rule W)) → pds.Run rules 0 (0 ∷ []) rs 1 [] → (ss : List SpotRule) × IsGoalRun s ss × (rules_weight s ss ≡ run_weight m c rs) × (origins_of ss ≡ origins_by o rs)
  to_goal rs h = to_spot_rules rs Start (0 ∷ []) tt h

  pub of_goal : (ss : List SpotRule) → IsGoalRun s ss → (rs : List (Rule W)) × pds.Run rules 0 (0 ∷ []) rs 1 [] × (run_weight m c rs ≡ rules_weight s ss) × (origins_by o rs ≡ origins_of ss)
  of_goal ss h = to_rules ss Start (0 ∷ []) tt h

  -- rules over numbers tell a run, and each run is told
  pub tells_match : (rs : List (Rule W)) → pds.Run rules 0 (0 ∷ []) rs 1 [] → (run : Run) × IsMatch s (run_weight m c rs) run × (origins_by o rs ≡ origins_for run)
  tells_match rs h =
      let g : (ss : List SpotRule) × IsGoalRun s ss × (rules_weight s ss ≡ run_weight m c rs) × (origins_of ss ≡ origins_by o rs) = to_goal rs h in
      let r : (run : Run) × IsMatch s (rules_weight s g.0) run × (origins_of g.0 ≡ origins_for run) = match_of_goal s k g.0 g.1 in
      (r.0, subst (λ (x : List ℕ). IsMatch s x r.0) g.2 r.1, sym g.3 ∙ r.2)

  pub match_told : (w : List ℕ) (run : Run) → IsMatch s w run → (rs : List (Rule W)) × pds.Run rules 0 (0 ∷ []) rs 1 [] × (run_weight m c rs ≡ w) × (origins_by o rs ≡ origins_for run)
  match_told w run h =
      let g : (ss : List SpotRule) × IsGoalRun s ss × (rules_weight s ss ≡ w) × (origins_of ss ≡ origins_for run) = goal_of_match s k w run h in
      let r : (rs : List (Rule W)) × pds.Run rules 0 (0 ∷ []) rs 1 [] × (run_weight m c rs ≡ rules_weight s g.0) × (origins_by o rs ≡ origins_of g.0) = of_goal g.0 g.1 in
      (r.0, r.1, r.2 ∙ g.2, r.3 ∙ g.3)

  pub pops_match : (w : List ℕ) → Pops m c rules 0 0 1 w → (run : Run) × IsMatch s w run
  pops_match w h = let r = tells_match h.0 h.1 in (r.0, subst (λ (x : List ℕ). IsMatch s x r.0) h.2 r.1)

  pub match_pops : (w : List ℕ) (run : Run) → IsMatch s w run → Pops m c rules 0 0 1 w
  match_pops w run h = let r = match_told w run h in (r.0, r.1, r.2)
