-- Nothing speaks against the tree that a maker writes for an answer that holds without doubt.
use Rattle.std.proofs.Common.{◌≡◌, ℕ, ◌-◌, false, List, [], ◌∷◌, slice_get, Option, Some, refl, sym, subst}
use Rattle.std.proofs.lemmas.List.Elements.{All-nil, All-cons, All-weaker}
use Rattle.wi_net.specs.declared.bounds.Bounds.{Bounds}
use Rattle.wi_world.specs.declared.answer.Verdict.{Verdict}
use Rattle.wi_world.specs.declared.answer.Verdict.TheVariants.{Fits, Exceeds, UsesFailed}
use Rattle.wi_world.specs.declared.run.Run.{Run}
use Rattle.wi_world.specs.Runs.{verdict_of}
use Rattle.wi_world.proofs.RunLaws.{trace_moving}
use Rattle.wi_quantity.specs.Weighing.{components}
use Rattle.wi_trace.specs.declared.answer.Answer.{Answer}
use Rattle.wi_pds.specs.Closed.{Within}
use Rattle.wi_pds.specs.Runs.{Pops}
use Rattle.wi_build.specs.Problems.{Problem, IsProblem, asks, weighs, within}
use Rattle.wi_build.specs.Systems.{scale, weight, rules}
use Rattle.wi_build.proofs.LawLemmas.{weight_tells}
use Rattle.wi_cert.specs.declared.closed.Closed.{Closed}
use Rattle.wi_cert.specs.declared.tree.Node.{Node}
use Rattle.wi_cert.specs.declared.tree.Node.TheVariants as node
use Rattle.wi_cert.specs.declared.tree.TreeCertificate.{TreeCertificate}
use Rattle.wi_cert.specs.declared.shown.Claim.{Claim}
use Rattle.wi_cert.specs.declared.shown.Claim.TheVariants as claims
use Rattle.wi_cert.specs.declared.check_refused.CheckRefused.TheVariants.{BadSplit, Leaf}
use Rattle.wi_cert.specs.Shown.{is_no}
use Rattle.wi_trees.specs.Branches.{IsBranch}
use Rattle.wi_net.specs.declared.parts.LinkId.{LinkId}
use Rattle.wi_trees.specs.Trees.{IsBelow, NoRunBelow, IsExactYes, HoldsExactly}
use Rattle.wi_trees.proofs.BranchLaws.{root}
use Rattle.wi_accept.specs.Answers.{word_of, padded, run_of, answer_of}
use Rattle.wi_accept.specs.Causes.{is_wrong, bound_of}
use Rattle.wi_accept.specs.Makers.{AreLeast}
use Rattle.wi_accept.specs.Trees.{branches_of, IsMadeAt, IsTreeMaker, IsTreeAccepted, IsDecidedExactly}
use Rattle.wi_accept.proofs.OrderLemmas.{within_below}
use Rattle.wi_accept.proofs.RuleLemmas.{pops_answer}
use Rattle.wi_accept.proofs.WeightLemmas.{pops_weight, shown_six, bound_weight}
use Rattle.wi_accept.proofs.RightlyShown.{IsRightlyShown, nothing_against_shown}
use Rattle.wi_accept.proofs.Leasts.{nothing_open_in}
use Rattle.wi_accept.proofs.Visits.{matches_whole, problem_within, get_from_all, IsAt, parts}

-- a yes shows its run rightly
rightly_yes : (problem : Problem) → IsProblem problem → (claim : Claim) (w : List ℕ) (run : Run) (v : Verdict) → is_no claim ≡ false
    → HoldsExactly problem.net (asks problem) (weighs problem) (word_of claim) (Some w) (Some run) (Some v)
    → (fails : List LinkId) × IsExactYes problem.net (asks problem) (weighs problem) w run fails × (is_wrong claim v ≡ false)
rightly_yes problem k claims.No w run v there h = absurd (cc)
rightly_yes problem k claims.Inconclusive w run v there h = absurd h
rightly_yes problem k claims.Yes w run (Fits fails) there h = (fails, h, refl)
rightly_yes problem k claims.Yes w run (Exceeds n) there h = absurd h
rightly_yes problem k claims.Yes w run (UsesFailed e) there h = absurd h

module _ (problem : Problem) (answer : Answer) (t : TreeCertificate) (k : IsProblem problem) (decided : IsDecidedExactly problem answer) (maker : IsTreeMaker problem answer t) where
  abbrev bound : Option (List ℕ)
  bound = bound_of t.shown

  abbrev shown_run : Run
  shown_run = run_of problem.net t.shown

  abbrev shown_weight : List ℕ
  shown_weight = padded t.shown.terms t.shown.weight

  abbrev shown_verdict : Verdict
  shown_verdict = verdict_of problem.net problem.bounds shown_run

  shown_decided : IsDecidedExactly problem (answer_of problem t.shown)
  shown_decided = subst (λ (a : Answer). IsDecidedExactly problem a) (sym maker.shows) decided

  rightly : is_no t.shown.claim ≡ false → IsRightlyShown problem t.shown
  rightly there =
      let P : List ℕ → Type 0 = λ w. HoldsExactly problem.net (asks problem) (weighs problem) (word_of t.shown.claim) (Some w) (Some shown_run) (Some shown_verdict) in
      let holds : P (components (weight shown_weight)) = rw there at shown_decided in
      let told : P shown_weight = subst P (weight_tells shown_weight (shown_six t.shown maker.writable.shown there)) holds in
      let yes = rightly_yes problem k t.shown.claim shown_weight shown_run shown_verdict there told in
      record {
        moving = trace_moving problem.net problem.bounds yes.0 shown_run k.network k.bounds_of yes.1.allowed yes.1.trace;
        matches = yes.1.matches;
        weight = yes.1.weight;
        right = yes.2;
      }

  -- each node is one that a maker writes, within a branch of the whole
  abbrev IsLeast : Bounds → Closed → Type 0
  IsLeast branch c = NoRunBelow problem.net (asks problem) (weighs problem) bound branch × AreLeast (within problem branch) t.shown.terms bound c

  abbrev IsMade : Bounds × Node → Type 0
  IsMade x = IsMadeAt problem t.shown.terms bound x.0 x.1

  made_at : (branch : Bounds) (n : Node) → IsMade (branch, n) → IsAt problem.net problem.bounds k.network IsLeast (branch, n)
  made_at branch (node.Split e) h = h
  made_at branch (node.Closed c) h = h

  part_of : (i : ℕ) (branch : Bounds) (n : Node) → slice_get (branches_of problem t) i ≡ Some (branch, n) → IsBranch problem.net problem.bounds branch
  part_of i branch n at =
      let whole = All-cons (IsBranch problem.net problem.bounds) problem.bounds [] (root problem.net problem.bounds k.bounds_of) (All-nil (IsBranch problem.net problem.bounds)) in
      let nodes = All-weaker IsMade (IsAt problem.net problem.bounds k.network IsLeast) (λ x h. made_at x.0 x.1 h) (branches_of problem t) maker.nodes in
      get_from_all (λ (x : Bounds × Node). IsBranch problem.net problem.bounds x.0) (branches_of problem t) i (branch, n)
      (parts problem.net problem.bounds k.network IsLeast t.nodes (problem.bounds ∷ []) whole nodes) at

  -- no goal run of a leaf's branch is within the bound
  leaf_none : (branch : Bounds) → IsBranch problem.net problem.bounds branch → NoRunBelow problem.net (asks problem) (weighs problem) bound branch
      → (w : List ℕ) → Pops scale components (rules (within problem branch)) 0 0 1 w → Within scale bound w → ⊥
  leaf_none branch b none w pops inside =
      let found = pops_answer (within problem branch) (problem_within problem branch k b) w pops in
      let below = within_below bound (bound_weight t.shown maker.writable.shown) w (pops_weight (rules (within problem branch)) 0 0 1 w pops) inside in
      none found.0 found.1.moving (matches_whole problem branch found.0 found.1.matches) (subst (λ (x : List ℕ). IsBelow bound x) (sym found.1.weight) below)

  pub nothing_against_tree : IsTreeAccepted problem t
  nothing_against_tree (BadSplit n) h = h.3 (get_from_all IsMade (branches_of problem t) (n - 1) (h.0, node.Split h.1) maker.nodes h.2.1)
  nothing_against_tree (Leaf n r) h =
      let made = get_from_all IsMade (branches_of problem t) (n - 1) (h.0, node.Closed h.1) maker.nodes h.2.1 in
      let b = part_of (n - 1) h.0 (node.Closed h.1) h.2.1 in
      nothing_open_in (within problem h.0) t.shown.terms bound h.1 made.1 (bound_weight t.shown maker.writable.shown) (leaf_none h.0 b made.0) r h.3
  nothing_against_tree r h = nothing_against_shown problem t.shown k maker.about maker.terms rightly r h
