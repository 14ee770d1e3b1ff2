-- Branches of a problem, opened one after the other: a tree of them, node by node in preorder.
use Rattle.std.specs.Prelude.{◌≡◌, ℕ, ◌≤◌, Bool, true, false, List, [], ◌∷◌, Option, Some, None}
use Rattle.wi_net.specs.declared.bounds.Bounds.{Bounds}
use Rattle.wi_net.specs.Net.{Net}
use Rattle.wi_world.specs.declared.run.Run.{Run}
use Rattle.wi_world.specs.declared.answer.Verdict.{Verdict}
use Rattle.wi_world.specs.declared.answer.Verdict.TheVariants as verdicts
use Rattle.wi_world.specs.Runs.{effort_of, verdict_of}
use Rattle.wi_quantity.specs.Weighing.{components}
use Rattle.wi_trees.specs.Branches.{with_down, with_up, split_of}
use Rattle.wi_build.specs.Problems.{Problem, within}
use Rattle.wi_decide.specs.declared.searching.TheConstants.{EFFORT_LIMIT}
use Rattle.wi_decide.specs.Searches.{AllFitBelow, IsFound, IsLeastBelow, IsWrittenDown}
use Rattle.wi_branch.specs.declared.opened.Opened.{Opened}
use Rattle.wi_branch.specs.declared.opened.Opened.TheVariants.{Closed, Fits, Split}

-- a verdict that a run fits
abbrev pub is_fitting : Verdict → Bool
is_fitting (verdicts.Fits fails) = true
is_fitting (verdicts.Exceeds n) = false
is_fitting (verdicts.UsesFailed e) = false

-- a least run below the cut that is short enough to be shown, and whether it fits
pub record HasLeast (problem : Problem) (cut : Option (List ℕ)) (w : List ℕ) (run : Run) (fits : Bool) : Type 0 where
  pub least : IsLeastBelow problem cut w run
  pub short : effort_of problem.net run ≤ EFFORT_LIMIT
  pub fitting : is_fitting (verdict_of problem.net problem.bounds run) ≡ fits

-- what a node says of a problem, whose bounds are its branch, below a cut: no run is below it; or the least one fits, and weighs this;
-- or it doesn't fit, and the split is by the first link that it needs and that is neither down nor up
abbrev pub IsNode : Problem → Option (List ℕ) → Opened → Type 0
IsNode problem cut (Closed leaf) = AllFitBelow problem cut × IsFound problem cut None × IsWrittenDown problem cut leaf
IsNode problem cut (Fits w leaf) =
    AllFitBelow problem cut × ((run : Run) × HasLeast problem cut (components w) run true) × IsWrittenDown problem (Some (components w)) leaf
IsNode problem cut (Split e) =
    AllFitBelow problem cut × ((w : List ℕ) × (run : Run) × HasLeast problem cut w run false × (split_of problem.net problem.bounds run ≡ Some e))

-- the cut after a node: the weight of the least run that fitted so far
abbrev pub cut_after : Option (List ℕ) → Opened → Option (List ℕ)
cut_after cut (Closed leaf) = cut
cut_after cut (Fits w leaf) = Some (components w)
cut_after cut (Split e) = cut

-- the branches left after a node: the children of a split come first
abbrev pub left_after : Net → Bounds → Opened → List Bounds → List Bounds
left_after net branch (Closed leaf) left = left
left_after net branch (Fits w leaf) left = left
left_after net branch (Split e) left = with_down net branch e ∷ with_up net branch e ∷ left

-- nodes opened one after the other, from a cut and branches on, to a cut and branches
abbrev pub IsWalk : Problem → Option (List ℕ) → List Opened → List Bounds → Option (List ℕ) → List Bounds → Type 0
IsWalk problem cut [] left last rest = (cut ≡ last) × (left ≡ rest)
IsWalk problem cut (node ∷ nodes) [] last rest = ⊥
IsWalk problem cut (node ∷ nodes) (branch ∷ left) last rest =
    IsNode (within problem branch) cut node × IsWalk problem (cut_after cut node) nodes (left_after problem.net branch node left) last rest
