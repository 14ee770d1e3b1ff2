-- Trees of branches, and the answers that they show.
use Rattle.std.specs.Prelude.{◌≡◌, ℕ, ◌+◌, true, List, [], ◌∷◌, ◌++◌, Option, Some, None}
use Rattle.wi_net.specs.declared.parts.LinkId.{LinkId}
use Rattle.wi_net.specs.declared.bounds.Bounds.{Bounds}
use Rattle.wi_net.specs.Net.{Net}
use Rattle.wi_world.specs.declared.run.Run.{Run}
use Rattle.wi_world.specs.declared.answer.Word.{Word}
use Rattle.wi_world.specs.declared.answer.Word.TheVariants.{Yes, No}
use Rattle.wi_world.specs.declared.answer.Verdict.{Verdict}
use Rattle.wi_world.specs.declared.answer.Verdict.TheVariants.{Fits}
use Rattle.wi_world.specs.Moves.{is_trace, IsAllowed}
use Rattle.wi_world.specs.Moving.{IsMovingRun}
use Rattle.wi_world.specs.Runs.{verdict_of, is_less}
use Rattle.wi_world.specs.Holds.{Question, Matches, Weighing, NoTraceLess, NoTrace}
use Rattle.wi_query.specs.declared.query.Query.{Query}
use Rattle.wi_query.specs.Meaning.{question_of}
use Rattle.wi_trees.specs.Branches.{CanSplit, with_down, with_up}

-- within what a query is answered: its lists, and so many risk groups that may fail
abbrev pub whole_of : ℕ → Query → Bounds
whole_of k query = record query.bounds { k = k }

-- the question that a query asks then
abbrev pub question_at : ℕ → Query → Question
question_at k query = record (question_of query) { bounds = whole_of k query }

-- a weight is below the bound, if there is one
abbrev pub IsBelow : Option (List ℕ) → List ℕ → Type 0
IsBelow None w = Unit {0}
IsBelow (Some bound) w = is_less w bound ≡ true

-- no matching moving run of a branch is below the bound; where there is no bound, there is none at all
abbrev pub NoRunBelow : Net → Question → Weighing → Option (List ℕ) → Bounds → Type 0
NoRunBelow net question weigh bound branch =
    (run : Run) → IsMovingRun net branch run → Matches net question run → IsBelow bound (weigh run) → ⊥

-- no matching trace under a set of a branch is below the bound
abbrev pub NoTraceBelow : Net → Question → Weighing → Option (List ℕ) → Bounds → Type 0
NoTraceBelow net question weigh bound branch =
    (fails : List LinkId) (run : Run) → IsAllowed net branch fails → is_trace net fails run ≡ true → Matches net question run
    → IsBelow bound (weigh run) → ⊥

-- a tree of branches: each inner node has the link by which it is split
pub data Tree : Type 0 where
  closed : Tree
  split : LinkId → Tree → Tree → Tree

-- its nodes in preorder: a leaf, or the link of a split
abbrev pub preorder : Tree → List (Option LinkId)
preorder closed = None ∷ []
preorder (split e down up) = Some e ∷ (preorder down ++ preorder up)

-- how many nodes a tree has
abbrev pub size : Tree → ℕ
size closed = 1
size (split e down up) = size down + size up + 1

-- a tree of a branch: each split is one, and of the branch of each leaf something is so
abbrev pub TreeOf : (Bounds → Type 0) → Net → Bounds → Tree → Type 0
TreeOf AtLeaf net branch closed = AtLeaf branch
TreeOf AtLeaf net branch (split e down up) =
    CanSplit net branch e × TreeOf AtLeaf net (with_down net branch e) down × TreeOf AtLeaf net (with_up net branch e) up

-- a tree holds below a bound: no run at a leaf is below the bound
abbrev pub TreeHolds : Net → Question → Weighing → Option (List ℕ) → Bounds → Tree → Type 0
TreeHolds net question weigh bound = TreeOf (NoRunBelow net question weigh bound) net

-- a yes without doubt: a matching trace under allowed failures, which are its needs, and no matching trace under any weighs less
pub record IsExactYes (net : Net) (question : Question) (weigh : Weighing) (w : List ℕ) (run : Run) (fails : List LinkId)
    : Type 0 where
  pub matches : Matches net question run
  pub allowed : IsAllowed net question.bounds fails
  pub trace : is_trace net fails run ≡ true
  pub verdict : verdict_of net question.bounds run ≡ Fits fails
  pub weight : weigh run ≡ w
  pub least : NoTraceLess net question weigh w

-- an exact answer holds: it is a yes, or a no without doubt, which says that no trace under allowed failures matches
abbrev pub HoldsExactly : Net → Question → Weighing → Word → Option (List ℕ) → Option Run → Option Verdict → Type 0
HoldsExactly net question weigh Yes (Some w) (Some run) (Some (Fits fails)) = IsExactYes net question weigh w run fails
HoldsExactly net question weigh No None None None = NoTrace net question
HoldsExactly net question weigh _ _ _ _ = ⊥
