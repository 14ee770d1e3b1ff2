-- What was opened, under what is shown, are the nodes that a maker writes.
use Rattle.std.proofs.Common.{◌≡◌, ℕ, zero, suc, ◌+◌, ◌*◌, ◌≤◌, true, List, [], ◌∷◌, length, map, Option, Some, refl, arith, sym, ◌∙◌, subst}
use Rattle.std.specs.Prelude.{IfSome}
use Rattle.std.specs.List.{All}
use Rattle.std.proofs.lemmas.Bool.{true≢false}
use Rattle.std.proofs.lemmas.List.Elements.{All-nil, All-cons}
use Rattle.wi_weight.specs.Weights.{IsWeight}
use Rattle.wi_net.specs.declared.bounds.Bounds.{Bounds}
use Rattle.wi_net.specs.Network.{IsNetwork}
use Rattle.wi_world.specs.Moves.{AreBounds}
use Rattle.wi_quantity.specs.Weighing.{components}
use Rattle.wi_cert.specs.declared.closed.Closed.{Closed as Leaf}
use Rattle.wi_cert.specs.declared.shown.Shown.{Shown}
use Rattle.wi_cert.specs.declared.tree.Node.{Node}
use Rattle.wi_cert.specs.declared.tree.Node.TheVariants as node
use Rattle.wi_cert.specs.Shown.{IsShown}
use Rattle.wi_cert.specs.Trees.{makes_trees, IsLeafOf}
use Rattle.wi_trees.specs.Branches.{with_down, with_up}
use Rattle.wi_trees.specs.Trees.{IsBelow}
use Rattle.wi_trees.proofs.BranchLaws.{child_down, child_up}
use Rattle.wi_build.specs.Problems.{Problem, weighs, within}
use Rattle.wi_build.specs.Systems.{scale}
use Rattle.wi_accept.specs.Causes.{bound_of}
use Rattle.wi_accept.specs.Makers.{AreLeast}
use Rattle.wi_accept.specs.Trees.{branched, IsMadeAt}
use Rattle.wi_accept.proofs.Visits.{matches_within, after_leaf, after_split, before_leaf, before_split, none_due, some_due}
use Rattle.wi_decide.specs.Searches.{lowered}
use Rattle.wi_branch.specs.declared.opened.Opened.{Opened}
use Rattle.wi_branch.specs.declared.opened.Opened.TheVariants as opened
use Rattle.wi_branch.specs.Exactly.{node_under}
use Rattle.wi_branch.specs.Walks.{IsWalk}
use Rattle.wi_branch.specs.private.Courses.{AreBranches}
use Rattle.wi_branch.proofs.LeafLaws.{least_lowered}
use Rattle.wi_branch.proofs.WalkLaws.{can_split, falls}

-- trees in a row have one node each, and two more for each split
pub odd_nodes : (n : ℕ) (nodes : List Node) → makes_trees n nodes ≡ true → (m : ℕ) × (length nodes ≡ n + 2 * m)
odd_nodes zero [] h = (zero, refl)
odd_nodes (suc n) [] h = absurd (some_due n h)
odd_nodes zero (x ∷ nodes) h = absurd (none_due x nodes h)
odd_nodes (suc n) (node.Split e ∷ nodes) h = let r = odd_nodes (suc (suc n)) nodes (after_split n e nodes h) in (suc r.0, omega (arith, r.1))
odd_nodes (suc n) (node.Closed c ∷ nodes) h = let r = odd_nodes n nodes (after_leaf n c nodes h) in (r.0, omega (arith, r.1))

module _ (problem : Problem) (s : Shown) (shown : IsShown s) (terms : s.terms ≡ length problem.vector) (few : length problem.vector ≤ 5) where
  -- they make one tree for each branch that was left
  pub walk_whole : (cut : Option (List ℕ)) (nodes : List Opened) (left : List Bounds) (last : Option (List ℕ)) → IsWalk problem cut nodes left last [] → makes_trees (length left) (map (node_under s) nodes) ≡ true
  walk_whole cut [] left last h = subst (λ (l : List Bounds). makes_trees (length l) [] ≡ true) (sym h.1) refl
  walk_whole cut (node ∷ nodes) [] last h = absurd h
  walk_whole cut (opened.Closed leaf ∷ nodes) (branch ∷ left) last h =
      before_leaf (length left) (lowered s leaf) (map (node_under s) nodes) (walk_whole cut nodes left last h.1)
  walk_whole cut (opened.Fits w leaf ∷ nodes) (branch ∷ left) last h =
      before_leaf (length left) (lowered s leaf) (map (node_under s) nodes) (walk_whole (Some (components w)) nodes left last h.1)
  walk_whole cut (opened.Split e ∷ nodes) (branch ∷ left) last h =
      before_split (length left) e.0 (map (node_under s) nodes) (walk_whole cut nodes (with_down problem.net branch e ∷ with_up problem.net branch e ∷ left) last h.1)

  -- each leaf can be written
  pub walk_leaves : (cut : Option (List ℕ)) (nodes : List Opened) (left : List Bounds) (last : Option (List ℕ)) → IsWalk problem cut nodes left last [] → All (IsLeafOf s) (map (node_under s) nodes)
  walk_leaves cut [] left last h = All-nil (IsLeafOf s)
  walk_leaves cut (node ∷ nodes) [] last h = absurd h
  walk_leaves cut (opened.Closed leaf ∷ nodes) (branch ∷ left) last h =
      All-cons (IsLeafOf s) (node.Closed (lowered s leaf)) (map (node_under s) nodes) (h.0.2.lowered s shown terms) (walk_leaves cut nodes left last h.1)
  walk_leaves cut (opened.Fits w leaf ∷ nodes) (branch ∷ left) last h =
      All-cons (IsLeafOf s) (node.Closed (lowered s leaf)) (map (node_under s) nodes) (h.0.2.lowered s shown terms) (walk_leaves (Some (components w)) nodes left last h.1)
  walk_leaves cut (opened.Split e ∷ nodes) (branch ∷ left) last h =
      All-cons (IsLeafOf s) (node.Split e.0) (map (node_under s) nodes) tt (walk_leaves cut nodes (with_down problem.net branch e ∷ with_up problem.net branch e ∷ left) last h.1)

  abbrev pub IsMade : Bounds × Node → Type 0
  IsMade x = IsMadeAt problem s.terms (bound_of s) x.0 x.1

  -- and each node is one that a maker writes
  module _ (k : IsNetwork problem.net) (kw : AreBounds problem.net problem.bounds) (last : Option (List ℕ)) (bound : bound_of s ≡ last) where
    below_last : (x : List ℕ) → IsBelow (bound_of s) x → IsBelow last x
    below_last x h = subst (λ (b : Option (List ℕ)). IsBelow b x) bound h

    least_under : (branch : Bounds) (old : Option (List ℕ)) (leaf : Leaf) → IfSome old (λ b. IsWeight scale b) → ((x : List ℕ) → IsBelow last x → IsBelow old x)
        → AreLeast (within problem branch) (length problem.vector) old leaf → AreLeast (within problem branch) s.terms (bound_of s) (lowered s leaf)
    least_under branch old leaf old_is falls least =
        subst (λ n. AreLeast (within problem branch) n (bound_of s) (lowered s leaf)) (sym terms)
        (least_lowered (within problem branch) (length problem.vector) s shown terms few old leaf old_is (λ x below. falls x (below_last x below)) least)

    pub walk_made : (cut : Option (List ℕ)) (nodes : List Opened) (left : List Bounds) → IfSome cut (λ b. IsWeight scale b) → AreBranches problem.net problem.bounds left → IsWalk problem cut nodes left last []
        → All IsMade (branched problem.net left (map (node_under s) nodes))
    walk_made cut [] left cut_is b h = All-nil IsMade
    walk_made cut (node ∷ nodes) [] cut_is b h = absurd h
    walk_made cut (opened.Closed leaf ∷ nodes) (branch ∷ left) cut_is b h =
        All-cons IsMade (branch, node.Closed (lowered s leaf)) (branched problem.net left (map (node_under s) nodes)) (
          λ run moving matches below. h.0.1 run moving (matches_within problem branch run matches) (falls problem cut nodes left last [] h.1 (weighs problem run) (below_last (weighs problem run) below)),
          least_under branch cut leaf cut_is (falls problem cut nodes left last [] h.1) h.0.2.least,
        )
        (walk_made cut nodes left cut_is b.1 h.1)
    walk_made cut (opened.Fits w leaf ∷ nodes) (branch ∷ left) cut_is b h =
        All-cons IsMade (branch, node.Closed (lowered s leaf)) (branched problem.net left (map (node_under s) nodes)) (
          λ run moving matches below. true≢false (sym (falls problem (Some (components w)) nodes left last [] h.1 (weighs problem run) (below_last (weighs problem run) below))
              ∙ h.0.1.1.least.least run moving (matches_within problem branch run matches)),
          least_under branch (Some (components w)) leaf refl (falls problem (Some (components w)) nodes left last [] h.1) h.0.2.least,
        )
        (walk_made (Some (components w)) nodes left refl b.1 h.1)
    walk_made cut (opened.Split e ∷ nodes) (branch ∷ left) cut_is b h =
        let m = h.0.1 in
        let can = can_split problem.net branch m.1 e k b.0.bounds m.2.least.answers.moving m.2.fitting m.3 in
        let next : List Bounds = with_down problem.net branch e ∷ with_up problem.net branch e ∷ left in
        All-cons IsMade (branch, node.Split e.0) (branched problem.net next (map (node_under s) nodes)) can
        (walk_made cut nodes next cut_is (child_down problem.net problem.bounds branch e b.0 can k, (child_up problem.net problem.bounds branch e b.0 can, b.1)) h.1)
