-- What the rules of a goal run tell is a run of the network.
use Rattle.std.proofs.Common.{◌≡◌, ℕ, ◌<◌, true, false, ◌&&◌, nat_lt, List, [], ◌∷◌, ◌++◌, map, reverse, length, slice_get, Option, Some, refl, arith, ap, sym, ◌∙◌, subst, append_assoc}
use Rattle.std.specs.Prelude.{not}
use Rattle.std.specs.List.{list_all}
use Rattle.std.specs.Option.{option_map_or}
use Rattle.std.proofs.lemmas.Bool.{and_parts, and_from, lt-ltb}
use Rattle.std.proofs.lemmas.List.{append-nil, reverse-append, reverse-reverse}
use Rattle.std.proofs.lemmas.List.Folds.{list_all-append}
use Rattle.std.proofs.lemmas.Option.{slice_get_within}
use Rattle.wi_labels.specs.Header.{Entry, is_valid_header}
use Rattle.wi_weight.specs.declared.kinds.Pair.{Pair}
use Rattle.wi_weight.specs.declared.kinds.Terms.{Terms}
use Rattle.wi_weight.specs.declared.kinds.Effort.{Effort}
use Rattle.wi_net.specs.declared.parts.LinkId.{LinkId}
use Rattle.wi_net.specs.LinkSet.{has}
use Rattle.wi_net.specs.Net.{Net, is_link, label_known, labels_known}
use Rattle.wi_net.specs.Network.{IsNetwork}
use Rattle.wi_world.specs.declared.run.Step.{Step}
use Rattle.wi_world.specs.declared.run.End.{End}
use Rattle.wi_world.specs.declared.run.End.TheVariants.{Arrives}
use Rattle.wi_world.specs.declared.run.Run.{Run}
use Rattle.wi_quantity.specs.Weighing.{components}
use Rattle.wi_pds.specs.declared.rule.Rule.{Rule}
use Rattle.wi_pds.specs.declared.rule.RuleId.{RuleId}
use Rattle.wi_witness.specs.GoalRuns.{IsNamedRun, Names}
use Rattle.wi_rules.specs.declared.spot.Origin.{Origin}
use Rattle.wi_rules.specs.declared.spot.Origin.TheVariants.{Pushed, SetOut, Hop, Operation, Ending, Nothing}
use Rattle.wi_rules.specs.Goals.{main_origin, origins_for, hops_of}
use Rattle.wi_rules.specs.Numbers.{Layout, origins_by}
use Rattle.wi_rules.proofs.Ops.{class_known}
use Rattle.wi_build.specs.Problems.{IsAnswering, Problem, IsProblem}
use Rattle.wi_build.specs.Encodings.{encoding_of}
use Rattle.wi_build.specs.Systems.{rules_by}
use Rattle.wi_decide.specs.Spelled.{AreRulesFor, origin}
use Rattle.wi_build.specs.Systems.{scale}
use Rattle.wi_decide.specs.private.Spelled.{IsSpelledRun, Spelled, classed, is_named, is_origin_of, named, unspelled, with_origin, with_rules}
use Rattle.wi_accept.proofs.RuleLemmas.{rules_tell}

-- what is told of a whole run
abbrev pub whole : Run → Spelled
whole run = record { from_bottom = reverse run.header; first = Some run.first; steps = run.steps; end = run.end }

-- what is told once all this was read
abbrev with_all : Net → Spelled → List Origin → Spelled
with_all net s [] = s
with_all net s (o ∷ os) = with_all net (with_origin net s o) os

-- a label that the network knows has its class there, and a name
pub classed_is : (net : Net) (l : Entry) → label_known net.classes l ≡ true → classed net l.0 ≡ l
classed_is net l h = rw (class_known net.classes l h) refl

pub known_there : (net : Net) (l : Entry) → IsNetwork net → label_known net.classes l ≡ true → l.0.0 < length net.labels
known_there net l k h = let within = slice_get_within net.classes l.0.0 l.1 (class_known net.classes l h) in omega (arith, within, k.classes)

module _ (net : Net) where
  -- the labels of a header, from the bottom
  known_reversed : (h : List Entry) → labels_known net h ≡ true → labels_known net (reverse h) ≡ true
  known_reversed [] k = refl
  known_reversed (l ∷ h) k =
      let p = and_parts (label_known net.classes l) (labels_known net h) k in
      let one : labels_known net (l ∷ []) ≡ true = and_from (label_known net.classes l) true p.0 refl in
      let turned : reverse (l ∷ h) ≡ reverse h ++ l ∷ [] = reverse-append (l ∷ []) h in
      ap (λ (x : List Entry). labels_known net x) turned
      ∙ list_all-append (λ (x : Entry). label_known net.classes x) (reverse h) (l ∷ [])
      ∙ and_from (labels_known net (reverse h)) (labels_known net (l ∷ [])) (known_reversed h p.1) one

  pushed_all : (s : Spelled) (ls : List Entry) (os : List Origin) → labels_known net ls ≡ true
      → with_all net s (map (λ (l : Entry). Pushed l.0) ls ++ os) ≡ with_all net (record s { from_bottom = s.from_bottom ++ ls }) os
  pushed_all s [] os k = ap (λ (x : List Entry). with_all net (record s { from_bottom = x }) os) (sym (append-nil s.from_bottom))
  pushed_all s (l ∷ ls) os k =
      let p = and_parts (label_known net.classes l) (labels_known net ls) k in
      pushed_all (with_origin net s (Pushed l.0)) ls os p.1
      ∙ ap (λ (x : List Entry). with_all net (record s { from_bottom = x }) os) (append_assoc s.from_bottom (classed net l.0 ∷ []) ls)
      ∙ ap (λ (e : Entry). with_all net (record s { from_bottom = s.from_bottom ++ e ∷ ls }) os) (classed_is net l p.0)

  hopped_all : (s : Spelled) (steps : List Step) (os : List Origin) → with_all net s (hops_of steps ++ os) ≡ with_all net (record s { steps = s.steps ++ steps }) os
  hopped_all s [] os = ap (λ (x : List Step). with_all net (record s { steps = x }) os) (sym (append-nil s.steps))
  hopped_all s (step ∷ steps) os =
      hopped_all (with_origin net s (Hop step)) steps os
      ∙ ap (λ (x : List Step). with_all net (record s { steps = x }) os) (append_assoc s.steps (step ∷ []) steps)

  told_whole : (run : Run) → labels_known net run.header ≡ true → with_all net unspelled (origins_for run) ≡ whole run
  told_whole run k =
      pushed_all unspelled (reverse run.header) (SetOut run.first ∷ (hops_of run.steps ++ Ending run.end ∷ [])) (known_reversed run.header k)
      ∙ hopped_all (record { from_bottom = reverse run.header; first = Some run.first; steps = []; end = Arrives }) run.steps (Ending run.end ∷ [])

  -- the labels of a header are the network's
  pushes_known : (ls : List Entry) (os : List Origin) → IsNetwork net → labels_known net ls ≡ true → list_all (is_origin_of net) os ≡ true
      → list_all (is_origin_of net) (map (λ (l : Entry). Pushed l.0) ls ++ os) ≡ true
  pushes_known [] os k known rest = rest
  pushes_known (l ∷ ls) os k known rest =
      let p = and_parts (label_known net.classes l) (labels_known net ls) known in
      and_from (nat_lt l.0.0 (length net.labels)) (list_all (is_origin_of net) (map (λ (l : Entry). Pushed l.0) ls ++ os))
      (lt-ltb l.0.0 (length net.labels) (known_there net l k p.0)) (pushes_known ls os k p.1 rest)

  hops_known : (steps : List Step) (end : End) → list_all (is_origin_of net) (hops_of steps ++ Ending end ∷ []) ≡ true
  hops_known [] end = refl
  hops_known (step ∷ steps) end = hops_known steps end

  told_known : (run : Run) → IsNetwork net → labels_known net run.header ≡ true → list_all (is_origin_of net) (origins_for run) ≡ true
  told_known run k known =
      pushes_known (reverse run.header) (SetOut run.first ∷ (hops_of run.steps ++ Ending run.end ∷ [])) k (known_reversed run.header known) (hops_known run.steps run.end)

  module _ (rules : ℕ → ℕ → List (Rule (Pair Terms Effort))) where
    -- the rule that the first of some ids names
    first_named : (p g : ℕ) (id : RuleId) (r : Rule (Pair Terms Effort)) → id.p ≡ p → id.g ≡ g → slice_get (rules p g) id.at ≡ Some r → named rules id ≡ Some r
    first_named p g id r e f at = ap (λ (x : ℕ). slice_get (rules x id.g) id.at) e ∙ ap (λ (x : ℕ). slice_get (rules p x) id.at) f ∙ at

    -- a rule that tells nothing changes nothing
    told_one : (s : Spelled) (o : Origin) (os : List Origin) → with_all net (with_origin net s o) os ≡ with_all net s (main_origin o ++ os)
    told_one s (Pushed l) os = refl
    told_one s (SetOut e) os = refl
    told_one s (Hop step) os = refl
    told_one s (Operation m i) os = refl
    told_one s (Ending end) os = refl
    told_one s Nothing os = refl

    names_tell : (s : Spelled) (p : ℕ) (stack : List ℕ) (ids : List RuleId) (rs : List (Rule (Pair Terms Effort))) → Names rules p stack ids rs
        → with_rules net rules s ids ≡ with_all net s (origins_by origin rs)
    names_tell s p [] [] [] h = refl
    names_tell s p (g ∷ stack) [] [] h = refl
    names_tell s p [] [] (r ∷ rs) h = absurd h
    names_tell s p (g ∷ stack) [] (r ∷ rs) h = absurd h
    names_tell s p [] (id ∷ ids) [] h = absurd h
    names_tell s p [] (id ∷ ids) (r ∷ rs) h = absurd h
    names_tell s p (g ∷ stack) (id ∷ ids) [] h = absurd h
    names_tell s p (g ∷ stack) (id ∷ ids) (r ∷ rs) h =
        ap (λ (x : Option (Rule (Pair Terms Effort))). with_rules net rules (option_map_or (λ (rule : Rule (Pair Terms Effort)). with_origin net s (origin rule)) x s) ids) (first_named p g id r h.0 h.1 h.2)
        ∙ names_tell (with_origin net s (origin r)) r.to _ ids rs h.3
        ∙ told_one s (origin r) (origins_by origin rs)

    known_one : (o : Origin) (os : List Origin) → list_all (is_origin_of net) (main_origin o ++ os) ≡ true → (is_origin_of net o ≡ true) × (list_all (is_origin_of net) os ≡ true)
    known_one (Pushed l) os h = and_parts (is_origin_of net (Pushed l)) (list_all (is_origin_of net) os) h
    known_one (SetOut e) os h = (refl, h)
    known_one (Hop step) os h = (refl, h)
    known_one (Operation m i) os h = (refl, h)
    known_one (Ending end) os h = (refl, h)
    known_one Nothing os h = (refl, h)

    names_known : (p : ℕ) (stack : List ℕ) (ids : List RuleId) (rs : List (Rule (Pair Terms Effort))) → Names rules p stack ids rs
        → list_all (is_origin_of net) (origins_by origin rs) ≡ true → list_all (is_named net rules) ids ≡ true
    names_known p [] [] [] h known = refl
    names_known p (g ∷ stack) [] [] h known = refl
    names_known p [] [] (r ∷ rs) h known = absurd h
    names_known p (g ∷ stack) [] (r ∷ rs) h known = absurd h
    names_known p [] (id ∷ ids) [] h known = absurd h
    names_known p [] (id ∷ ids) (r ∷ rs) h known = absurd h
    names_known p (g ∷ stack) (id ∷ ids) [] h known = absurd h
    names_known p (g ∷ stack) (id ∷ ids) (r ∷ rs) h known =
        let parts = known_one (origin r) (origins_by origin rs) known in
        let here : is_named net rules id ≡ true = ap (λ (x : Option (Rule (Pair Terms Effort))). option_map_or (λ (rule : Rule (Pair Terms Effort)). is_origin_of net (origin rule)) x false) (first_named p g id r h.0 h.1 h.2) ∙ parts.0 in
        and_from (is_named net rules id) (list_all (is_named net rules) ids) here (names_known r.to _ ids rs h.3 parts.1)

-- the run that a goal run tells
pub record IsTold (problem : Problem) (net : Net) (rules : ℕ → ℕ → List (Rule (Pair Terms Effort))) (ids : List RuleId) (w : List ℕ) (rs : List (Rule (Pair Terms Effort))) (run : Run) : Type 0 where
  pub answers : IsAnswering problem w run
  pub told : origins_by origin rs ≡ origins_for run
  pub named : list_all (is_named net rules) ids ≡ true
  pub whole : with_rules net rules unspelled ids ≡ whole run

module _ (problem : Problem) (k : IsProblem problem) (ids : List RuleId) (w : List ℕ) where
  at_given : (goal : IsNamedRun scale components (rules_by (encoding_of problem)) 0 0 1 ids w)
      → (run : Run) × IsTold problem problem.net (rules_by (encoding_of problem)) ids w goal.0 run
  at_given goal =
      let t = rules_tell problem k goal.0 goal.1 in
      let answers : IsAnswering problem w t.0 = subst (λ (x : List ℕ). IsAnswering problem x t.0) goal.3 t.1 in
      let known : labels_known problem.net t.0.header ≡ true =
      (and_parts (is_link problem.net t.0.first && not (has problem.bounds.down t.0.first) && is_valid_header t.0.header) (labels_known problem.net t.0.header) answers.moving.start).1 in
      let all_known : list_all (is_origin_of problem.net) (origins_by origin goal.0) ≡ true = ap (λ (os : List Origin). list_all (is_origin_of problem.net) os) t.2 ∙ told_known problem.net t.0 k.network known in (
        t.0,
        record {
          answers = answers;
          told = t.2;
          named = names_known problem.net (rules_by (encoding_of problem)) 0 (0 ∷ []) ids goal.0 goal.2 all_known;
          whole = names_tell problem.net (rules_by (encoding_of problem)) unspelled 0 (0 ∷ []) ids goal.0 goal.2
              ∙ ap (λ (os : List Origin). with_all problem.net unspelled os) t.2
              ∙ told_whole problem.net t.0 known;
        },
      )

  by_rules : (rules : ℕ → ℕ → List (Rule (Pair Terms Effort))) → rules ≡ rules_by (encoding_of problem)
      → (goal : IsNamedRun scale components rules 0 0 1 ids w) → (run : Run) × IsTold problem problem.net rules ids w goal.0 run
  by_rules rules e =
      subst (λ (rs : ℕ → ℕ → List (Rule (Pair Terms Effort))). (goal : IsNamedRun scale components rs 0 0 1 ids w) → (run : Run) × IsTold problem problem.net rs ids w goal.0 run) (sym e) at_given

-- the ids of a goal run tell a run that answers
pub goal_tells : (problem : Problem) (net : Net) (layout : Layout) (rules : ℕ → ℕ → List (Rule (Pair Terms Effort))) (ids : List RuleId) (w : List ℕ) → AreRulesFor problem net layout rules
    → (goal : IsNamedRun scale components rules 0 0 1 ids w) → (run : Run) × IsTold problem net rules ids w goal.0 run
goal_tells problem net layout rules ids w are goal =
    let t = by_rules problem are.is_problem ids w rules are.rules_are goal in
    (t.0, subst (λ (n : Net). IsTold problem n rules ids w goal.0 t.0) are.net_is t.1)

-- a run that was told is the one that it was told of
pub spelled_same : (s : Spelled) (run told : Run) → IsSpelledRun s run → s ≡ whole told → run ≡ told
spelled_same s run told is e =
    let first : Some run.first ≡ Some told.first = sym is.first ∙ ap (λ (x : Spelled). x.first) e in
    let same_first : run.first ≡ told.first = cc in
    let same_header : run.header ≡ told.header = is.header ∙ ap (λ (x : Spelled). reverse x.from_bottom) e ∙ reverse-reverse told.header in
    let same_steps : run.steps ≡ told.steps = is.steps ∙ ap (λ (x : Spelled). x.steps) e in
    let same_end : run.end ≡ told.end = is.end ∙ ap (λ (x : Spelled). x.end) e in
    ap (λ (x : LinkId). record { first = x; header = run.header; steps = run.steps; end = run.end }) same_first
    ∙ ap (λ (x : List Entry). record { first = told.first; header = x; steps = run.steps; end = run.end }) same_header
    ∙ ap (λ (x : List Step). record { first = told.first; header = told.header; steps = x; end = run.end }) same_steps
    ∙ ap (λ (x : End). record { first = told.first; header = told.header; steps = told.steps; end = x }) same_end
