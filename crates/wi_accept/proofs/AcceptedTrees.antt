-- The answer of a tree that nothing speaks against holds without doubt.
use Rattle.std.proofs.Common.{◌≡◌, ℕ, suc, ◌-◌, true, false, List, [], ◌∷◌, map, slice_get, Option, Some, None, inl, inr, refl, arith, sym, ap, ◌∙◌, subst}
use Rattle.std.specs.List.{All}
use Rattle.std.proofs.lemmas.List.Elements.{All-nil, All-cons}
use Rattle.wi_net.specs.declared.bounds.Bounds.{Bounds}
use Rattle.wi_world.specs.declared.answer.Verdict.{Verdict}
use Rattle.wi_world.specs.declared.answer.Verdict.TheVariants.{Fits, Exceeds, UsesFailed}
use Rattle.wi_world.specs.declared.answer.Word.TheVariants.{Yes}
use Rattle.wi_world.specs.declared.run.Run.{Run}
use Rattle.wi_net.specs.declared.parts.LinkId.{LinkId}
use Rattle.wi_world.specs.Runs.{verdict_of, needs}
use Rattle.wi_quantity.specs.Weighing.{components}
use Rattle.wi_build.specs.Problems.{Problem, IsProblem, asks, weighs, within}
use Rattle.wi_build.specs.Systems.{weight}
use Rattle.wi_build.proofs.LawLemmas.{weight_tells}
use Rattle.wi_cert.specs.declared.closed.Closed.{Closed}
use Rattle.wi_cert.specs.declared.tree.Node.{Node}
use Rattle.wi_cert.specs.declared.tree.Node.TheVariants as node
use Rattle.wi_cert.specs.declared.tree.TreeCertificate.{TreeCertificate}
use Rattle.wi_cert.specs.declared.shown.Claim.{Claim}
use Rattle.wi_cert.specs.declared.shown.Claim.TheVariants as claims
use Rattle.wi_cert.specs.declared.check_refused.ClosedRefused.{ClosedRefused}
use Rattle.wi_cert.specs.declared.check_refused.CheckRefused.{CheckRefused}
use Rattle.wi_cert.specs.declared.check_refused.CheckRefused.TheVariants.{OfAnotherQuestion, TermsDiffer, StepNotInTable, NoMatch, WeightDiffers, WrongAnswer, Unbounded, BadSplit, Leaf, Memory}
use Rattle.wi_cert.specs.Shown.{is_no}
use Rattle.wi_cert.specs.Closed.{IsClosed}
use Rattle.wi_cert.specs.Trees.{is_inconclusive, IsLeafOf, IsTreeWritable}
use Rattle.wi_trees.specs.Branches.{IsBranch}
use Rattle.wi_trees.specs.Trees.{NoRunBelow, NoTraceBelow, IsExactYes, HoldsExactly}
use Rattle.wi_trees.proofs.BranchLaws.{root}
use Rattle.wi_trees.proofs.TreeLaws.{tree_covers, least_from, no_from, yes_from}
use Rattle.wi_trees.proofs.NodeLaws.{nodes_tree}
use Rattle.wi_accept.specs.Answers.{padded, run_of, answer_of}
use Rattle.wi_accept.specs.Causes.{is_wrong, bound_of, IsShownCause, IsClosedCause}
use Rattle.wi_accept.specs.Trees.{link_of, branches_of, IsNode, IsTreeCause, IsTreeAccepted, IsDecidedExactly}
use Rattle.wi_accept.proofs.OrderLemmas.{below_within}
use Rattle.wi_accept.proofs.WeightLemmas.{six_components, shown_six, bound_weight, row_weights}
use Rattle.wi_accept.proofs.Bounding.{none_within}
use Rattle.wi_accept.proofs.Showing.{moving, matches, weight_is}
use Rattle.wi_accept.proofs.Visits.{matches_within, problem_within, all_from_get, get_from_all, split_or_not, split_in, leaves_branched, IsAt, are_nodes}

-- what speaks against what is shown speaks against the tree
shown_cause : (problem : Problem) (t : TreeCertificate) (r : CheckRefused) → IsShownCause problem t.shown r → IsTreeCause problem t r
shown_cause problem t OfAnotherQuestion h = h
shown_cause problem t (TermsDiffer shown asked) h = h
shown_cause problem t (StepNotInTable n) h = h
shown_cause problem t (NoMatch part) h = h
shown_cause problem t (WeightDiffers shown counted) h = h
shown_cause problem t WrongAnswer h = h
shown_cause problem t (Unbounded r) h = h
shown_cause problem t (BadSplit n) h = absurd h
shown_cause problem t (Leaf n r) h = absurd h
shown_cause problem t Memory h = h

-- a verdict that isn't wrong for a yes is that the run fits
fits_for_yes : (v : Verdict) → (is_wrong claims.Yes v ≡ true → ⊥) → (fails : List LinkId) × (v ≡ Fits fails)
fits_for_yes (Fits fails) right = (fails, refl)
fits_for_yes (Exceeds n) right = absurd (right refl)
fits_for_yes (UsesFailed e) right = absurd (right refl)

module _ (problem : Problem) (t : TreeCertificate) (k : IsProblem problem) (writable : IsTreeWritable t) (accepted : IsTreeAccepted problem t) where
  abbrev bound : Option (List ℕ)
  bound = bound_of t.shown

  none_shown : (r : CheckRefused) → IsShownCause problem t.shown r → ⊥
  none_shown r h = accepted r (shown_cause problem t r h)

  -- nothing speaks against a leaf, which can be written
  abbrev IsGood : Bounds → Closed → Type 0
  IsGood branch c = ((r : ClosedRefused) → IsClosedCause (within problem branch) t.shown.terms bound c r → ⊥) × IsClosed t.shown c

  abbrev IsGoodAt : Bounds × Node → Type 0
  IsGoodAt = IsAt problem.net problem.bounds k.network IsGood

  abbrev IsLeafAt : Bounds × Node → Type 0
  IsLeafAt x = IsLeafOf t.shown x.1

  -- nodes count from 1
  nth : (i : ℕ) (branch : Bounds) (n : Node) → slice_get (branches_of problem t) i ≡ Some (branch, n) → IsNode problem t (suc i) branch n
  nth i branch n at =
      let same : suc i - 1 ≡ i = omega arith in
      (omega arith, ap (λ j. slice_get (branches_of problem t) j) same ∙ at)

  good_at : (i : ℕ) (branch : Bounds) (n : Node) → slice_get (branches_of problem t) i ≡ Some (branch, n) → IsLeafOf t.shown n → IsGoodAt (branch, n)
  good_at i branch (node.Split e) at leaf = elim (split_or_not problem.net branch (link_of e)) [
    | inl can ↦ can
    | inr not ↦ absurd (accepted (BadSplit (suc i)) (branch, e, nth i branch (node.Split e) at, not))
  ]
  good_at i branch (node.Closed c) at leaf = (λ r h. accepted (Leaf (suc i) r) (branch, c, nth i branch (node.Closed c) at, h), leaf)

  all_good : All IsGoodAt (branches_of problem t)
  all_good = all_from_get IsGoodAt (branches_of problem t) (λ i x at.
      good_at i x.0 x.1 at (get_from_all IsLeafAt (branches_of problem t) i x (leaves_branched problem.net t.shown t.nodes (problem.bounds ∷ []) writable.leaves) at))

  -- so at each leaf no run is below the bound
  none_at : (branch : Bounds) (c : Closed) → IsBranch problem.net problem.bounds branch → IsGood branch c → NoRunBelow problem.net (asks problem) (weighs problem) bound branch
  none_at branch c b good run moves m below =
      none_within (within problem branch) t.shown.terms bound c (row_weights t.shown c writable.shown good.1) (bound_weight t.shown writable.shown) good.0
      (problem_within problem branch k b) run moves (matches_within problem branch run m)
      (below_within bound (bound_weight t.shown writable.shown) (weighs problem run) (six_components problem.net problem.vector run) below)

  -- and no trace under allowed failures is
  none_below : NoTraceBelow problem.net (asks problem) (weighs problem) bound problem.bounds
  none_below =
      let parts = All-cons (IsBranch problem.net problem.bounds) problem.bounds [] (root problem.net problem.bounds k.bounds_of) (All-nil (IsBranch problem.net problem.bounds)) in
      let nodes = are_nodes problem.net problem.bounds k.network IsGood (NoRunBelow problem.net (asks problem) (weighs problem) bound) none_at t.nodes (problem.bounds ∷ []) writable.whole parts all_good in
      let tree = nodes_tree (NoRunBelow problem.net (asks problem) (weighs problem) bound) problem.net (map split_in t.nodes) problem.bounds nodes in
      tree_covers problem.net (asks problem) (weighs problem) k.network bound problem.bounds tree.0 k.bounds_of tree.1

  abbrev shown_run : Run
  shown_run = run_of problem.net t.shown

  abbrev shown_weight : List ℕ
  shown_weight = padded t.shown.terms t.shown.weight

  abbrev HoldsWith : List ℕ → Verdict → Type 0
  HoldsWith w v = HoldsExactly problem.net (asks problem) (weighs problem) Yes (Some w) (Some shown_run) (Some v)

  -- a yes holds
  yes_holds : t.shown.claim ≡ claims.Yes → HoldsWith (components (weight shown_weight)) (verdict_of problem.net problem.bounds shown_run)
  yes_holds is_yes =
      let claim : is_no t.shown.claim ≡ false = rw is_yes refl in
      let fits = fits_for_yes (verdict_of problem.net problem.bounds shown_run) (λ wrong. none_shown WrongAnswer (rw is_yes wrong)) in
      let weighed = weight_is problem t.shown k writable.shown none_shown claim in
      let told : weighs problem shown_run ≡ components (weight shown_weight) = weighed ∙ sym (weight_tells shown_weight (shown_six t.shown writable.shown claim)) in
      let Below : List ℕ → Type 0 = λ w. NoTraceBelow problem.net (asks problem) (weighs problem) (Some w) problem.bounds in
      let none : Below shown_weight = rw claim at none_below in
      let least = least_from problem.net (asks problem) (weighs problem) k.network (weighs problem shown_run) (subst Below (sym weighed) none) in
      let is = yes_from problem.net (asks problem) (weighs problem) k.network problem.bounds shown_run fits.0 k.bounds_of (root problem.net problem.bounds k.bounds_of)
      (moving problem t.shown k writable.shown none_shown claim) (matches problem t.shown k writable.shown none_shown claim) fits.1 least in
      let Q : Verdict → Type 0 = λ v. HoldsWith (components (weight shown_weight)) v in
      let R : List ℕ → Type 0 = λ w. IsExactYes problem.net (asks problem) (weighs problem) w shown_run (needs problem.net problem.bounds shown_run) in
      subst Q (sym is.verdict) (subst R told is)

  -- a no holds
  no_holds : t.shown.claim ≡ claims.No → IsDecidedExactly problem (answer_of problem t.shown)
  no_holds is_no_claim =
      let claim : is_no t.shown.claim ≡ true = rw is_no_claim refl in
      let none : NoTraceBelow problem.net (asks problem) (weighs problem) None problem.bounds = rw claim at none_below in
      rw claim (no_from problem.net (asks problem) (weighs problem) k.network none)

  pub tree_answer_holds : IsDecidedExactly problem (answer_of problem t.shown)
  tree_answer_holds = go t.shown.claim refl
    where
      go : (claim : Claim) → t.shown.claim ≡ claim → IsDecidedExactly problem (answer_of problem t.shown)
      go claims.No e = no_holds e
      go claims.Yes e = rw e (yes_holds e)
      go claims.Inconclusive e = absurd (let is : is_inconclusive t.shown.claim ≡ true = rw e refl in let not = writable.decided in cc)
