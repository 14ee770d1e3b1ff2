-- How far branches were opened.
use Rattle.std.specs.Prelude.{◌≡◌, ℕ, ◌^◌, ◌+◌, ◌<◌, ◌≤◌, Bool, true, false, List, [], ◌∷◌, ◌++◌, length, Option, Some, None, IfSome, option_map}
use Rattle.wi_net.specs.declared.bounds.Bounds.{Bounds}
use Rattle.wi_net.specs.Net.{Net}
use Rattle.wi_world.specs.declared.answer.Word.TheVariants.{Yes, No}
use Rattle.wi_world.specs.Runs.{verdict_of}
use Rattle.wi_quantity.specs.Weighing.{components}
use Rattle.wi_trace.specs.declared.answer.Answer.{Answer}
use Rattle.wi_trees.specs.Branches.{IsBranch, CanSplit, with_down, with_up, split_of}
use Rattle.wi_build.specs.Problems.{Problem, IsAnswering, within}
use Rattle.wi_weight.specs.Weights.{EachBelow}
use Rattle.wi_decide.specs.Showing.{IsSmallRun}
use Rattle.wi_decide.specs.declared.searching.LeastRun.{LeastRun}
use Rattle.wi_decide.specs.declared.searching.Evidence.{Evidence}
use Rattle.wi_decide.specs.Searches.{IsEvidence, IsWrittenDown}
use Rattle.wi_branch.specs.declared.opened.Opened.{Opened}
use Rattle.wi_branch.specs.declared.opened.Opened.TheVariants as opened
use Rattle.wi_branch.specs.declared.finding.Told.{Told}
use Rattle.wi_branch.specs.declared.finding.Told.TheVariants.{Nothing, Fitting, Splitting}
use Rattle.wi_branch.specs.Walks.{is_fitting, IsNode, IsWalk}

-- the node of what a branch tells
abbrev pub node_of : Told → Opened
node_of (Nothing leaf) = opened.Closed leaf
node_of (Fitting found leaf) = opened.Fits found.weight leaf
node_of (Splitting e) = opened.Split e

-- a matching moving run that fits, of a weight that can be shown
pub record IsBest (problem : Problem) (found : LeastRun) : Type 0 where
  pub answers : IsAnswering problem (components found.weight) found.run
  pub small : EachBelow (2 ^ 64) (components found.weight)
  pub fitting : is_fitting (verdict_of problem.net problem.bounds found.run) ≡ true

abbrev pub IsToldWell : Problem → Told → Type 0
IsToldWell problem (Nothing leaf) = Unit {0}
IsToldWell problem (Fitting found leaf) = IsBest problem found
IsToldWell problem (Splitting e) = CanSplit problem.net problem.bounds e

-- what a least run tells: whether it fits, and else by what link to split
abbrev pub IsJudged : Net → Bounds → LeastRun → Told → Type 0
IsJudged net branch found (Nothing leaf) = ⊥
IsJudged net branch found (Fitting shown leaf) = (shown ≡ found) × (is_fitting (verdict_of net branch found.run) ≡ true)
IsJudged net branch found (Splitting e) =
    (is_fitting (verdict_of net branch found.run) ≡ false) × (split_of net branch found.run ≡ Some e) × CanSplit net branch e

-- where a run fits, its leaf is what the evidence is written down as
abbrev pub KeepsLeaf : Problem → Evidence → Told → Type 0
KeepsLeaf problem evidence (Nothing leaf) = ⊥
KeepsLeaf problem evidence (Fitting found leaf) = (bound : Option (List ℕ)) → IsEvidence problem bound evidence → IsWrittenDown problem bound leaf
KeepsLeaf problem evidence (Splitting e) = Unit {0}

-- a branch that is split may have one more risk group fail
abbrev pub MaySplit : Bounds → Told → Type 0
MaySplit branch (Nothing leaf) = Unit {0}
MaySplit branch (Fitting found leaf) = Unit {0}
MaySplit branch (Splitting e) = 0 < branch.k

-- the best run so far, how many nodes were opened, whether they are kept, those that are, and the branches left, the next one first
pub record Opening : Type 0 where
  pub best : Option LeastRun
  pub count : ℕ
  pub keeps : Bool
  pub nodes : List Opened
  pub left : List Bounds

-- the nodes, where they are kept
abbrev pub kept : Bool → List Opened → List Opened
kept true nodes = nodes
kept false nodes = []

abbrev pub cut_of : Option LeastRun → Option (List ℕ)
cut_of best = option_map (λ found. components found.weight) best

-- with one node more
abbrev pub with_node : Opening → Opened → Opening
with_node now node = record now { count = now.count + 1; nodes = now.nodes ++ kept now.keeps (node ∷ []) }

-- once a branch was opened
abbrev pub after_told : Net → Opening → Bounds → Told → Opening
after_told net now branch (Nothing leaf) = with_node now (opened.Closed leaf)
after_told net now branch (Fitting found leaf) = record (with_node now (opened.Fits found.weight leaf)) { best = Some found }
after_told net now branch (Splitting e) = record (with_node now (opened.Split e)) { left = with_down net branch e ∷ with_up net branch e ∷ now.left }

-- each is a branch of the whole
abbrev pub AreBranches : Net → Bounds → List Bounds → Type 0
AreBranches net whole [] = Unit {0}
AreBranches net whole (branch ∷ left) = IsBranch net whole branch × AreBranches net whole left

-- what holds as long as branches are opened
pub record IsOpening (problem : Problem) (limit : ℕ) (now : Opening) : Type 0 where
  pub opened : List Opened
  pub count : now.count ≡ length opened
  pub nodes : now.nodes ≡ kept now.keeps opened
  pub walk : IsWalk problem None opened (problem.bounds ∷ []) (cut_of now.best) now.left
  pub branches : AreBranches problem.net problem.bounds now.left
  pub best : IfSome now.best (λ found. (branch : Bounds) × IsBranch problem.net problem.bounds branch × IsBest (within problem branch) found)
  pub few : length opened ≤ limit

-- and once none is left
abbrev pub IsDone : Problem → ℕ → Opening → Type 0
IsDone problem limit now = IsOpening problem limit now × (now.left ≡ [])

-- once a branch was opened: what it told
pub record IsOpenedAt (problem : Problem) (branch : Bounds) (now after : Opening) : Type 0 where
  pub told : Told
  pub after_is : after ≡ after_told problem.net now branch told
  pub node : IsNode (within problem branch) (cut_of now.best) (node_of told)
  pub well : IsToldWell (within problem branch) told

-- the answer with a best run, or without one
abbrev pub answer_with : Net → Bounds → Option LeastRun → Answer
answer_with net whole None = record { word = No; weight = None; run = None; verdict = None }
answer_with net whole (Some found) = record {
  word = Yes;
  weight = Some found.weight;
  run = Some found.run;
  verdict = Some (verdict_of net whole found.run);
}

-- an answer that can be shown: its weight and its run are of small numbers
abbrev pub CanBeShown : Answer → Type 0
CanBeShown answer = IfSome answer.weight (λ w. EachBelow (2 ^ 64) (components w)) × IfSome answer.run IsSmallRun
