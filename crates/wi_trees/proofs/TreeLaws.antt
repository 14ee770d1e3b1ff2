-- Each set of a tree's branch is one of a leaf: so where a tree holds, no matching trace is below its bound.
use Rattle.std.proofs.Common.{◌≡◌, ℕ, List, Option, Some, None, refl, inl, inr}
use Rattle.std.proofs.lemmas.Bool.{false_from_ne_true, cases_Bool}
use Rattle.wi_net.specs.declared.parts.LinkId.{LinkId}
use Rattle.wi_net.specs.declared.bounds.Bounds.{Bounds}
use Rattle.wi_net.specs.LinkSet.{has}
use Rattle.wi_net.specs.Net.{Net}
use Rattle.wi_net.specs.Network.{IsNetwork}
use Rattle.wi_world.specs.declared.run.Run.{Run}
use Rattle.wi_world.specs.declared.answer.Verdict.TheVariants.{Fits}
use Rattle.wi_world.specs.Moves.{IsAllowed, AreBounds}
use Rattle.wi_world.specs.Moving.{IsMovingRun}
use Rattle.wi_world.specs.Runs.{is_less, needs, verdict_of}
use Rattle.wi_world.specs.Holds.{Question, Matches, Weighing, NoTraceLess, NoTrace}
use Rattle.wi_world.proofs.MovingLaws.{moving_possible}
use Rattle.wi_world.proofs.RunLaws.{trace_moving, fits_trace}
use Rattle.wi_query.specs.declared.query.Query.{Query}
use Rattle.wi_query.specs.Meaning.{IsQueryOf, question_of}
use Rattle.wi_trees.specs.Branches.{IsBranch, with_down, with_up}
use Rattle.wi_trees.specs.Trees.{NoRunBelow, NoTraceBelow, Tree, closed, split, TreeOf, TreeHolds, IsExactYes, whole_of, question_at}
use Rattle.wi_trees.proofs.BranchLaws.{root, child_down, child_up, allowed_set, allowed_down_child, allowed_up_child}
use Rattle.wi_trees.proofs.FitLaws.{verdict_whole}

module _ (net : Net) (whole : Bounds) (k : IsNetwork net) where
  -- each leaf's branch is one of the whole: so at the leaves is what follows from that and from what is there
  pub leaves_say : (AtLeaf Then : Bounds → Type 0) → ((leaf : Bounds) → IsBranch net whole leaf → AtLeaf leaf → Then leaf)
      → (branch : Bounds) (tree : Tree) → IsBranch net whole branch → TreeOf AtLeaf net branch tree → TreeOf Then net branch tree
  leaves_say AtLeaf Then each branch closed b t = each branch b t
  leaves_say AtLeaf Then each branch (split e down up) b t = (
    t.0,
    leaves_say AtLeaf Then each (with_down net branch e) down (child_down net whole branch e b t.0 k) t.1,
    leaves_say AtLeaf Then each (with_up net branch e) up (child_up net whole branch e b t.0) t.2,
  )

  -- each set that a branch allows is allowed at a leaf
  pub leaf_of : (AtLeaf : Bounds → Type 0) (branch : Bounds) (tree : Tree) (fails : List LinkId) → IsBranch net whole branch
      → TreeOf AtLeaf net branch tree → IsAllowed net branch fails
      → (leaf : Bounds) × IsBranch net whole leaf × AtLeaf leaf × IsAllowed net leaf fails
  leaf_of AtLeaf branch closed fails b t a = (branch, b, t, a)
  leaf_of AtLeaf branch (split e down up) fails b t a = elim (cases_Bool (has fails e)) [
    | inl i ↦ leaf_of AtLeaf (with_down net branch e) down fails (child_down net whole branch e b t.0 k) t.1
        (allowed_down_child net branch fails e t.0 k b.bounds a i)
    | inr i ↦ leaf_of AtLeaf (with_up net branch e) up fails (child_up net whole branch e b t.0) t.2
        (allowed_up_child net branch fails e t.0 a i)
  ]

module _ (net : Net) (question : Question) (weigh : Weighing) (k : IsNetwork net) where
  pub tree_covers : (bound : Option (List ℕ)) (branch : Bounds) (tree : Tree) → AreBounds net branch
      → TreeHolds net question weigh bound branch tree → NoTraceBelow net question weigh bound branch
  tree_covers bound branch tree kb t fails run a trace matches below =
      let leaf = leaf_of net branch k (NoRunBelow net question weigh bound) branch tree fails (root net branch kb) t a in
      leaf.2 run (trace_moving net leaf.0 fails run k leaf.1.bounds leaf.3 trace) matches below

  pub least_from : (w : List ℕ) → NoTraceBelow net question weigh (Some w) question.bounds → NoTraceLess net question weigh w
  least_from w none fails run a t m = false_from_ne_true (is_less (weigh run) w) (λ less. none fails run a t m less)

  pub no_from : NoTraceBelow net question weigh None question.bounds → NoTrace net question
  no_from none fails run a t m = none fails run a t m tt

  -- a run that fits a branch is a trace under its needs within the whole
  pub yes_from : (branch : Bounds) (run : Run) (fails : List LinkId) → AreBounds net question.bounds
      → IsBranch net question.bounds branch → IsMovingRun net branch run → Matches net question run
      → verdict_of net branch run ≡ Fits fails → NoTraceLess net question weigh (weigh run)
      → IsExactYes net question weigh (weigh run) run (needs net question.bounds run)
  yes_from branch run fails kw b moving matches v least =
      let within = fits_trace net branch run fails k b.bounds (moving_possible net branch run k b.bounds moving) v in
      let allowed = (allowed_set net question.bounds branch fails b within.1).allowed in
      let moves = trace_moving net question.bounds fails run k kw allowed within.0 in
      let verdict = verdict_whole net run question.bounds branch b kw fails v in
      let possible = moving_possible net question.bounds run k kw moves in
      let t = fits_trace net question.bounds run (needs net question.bounds run) k kw possible verdict in
      record { matches = matches; allowed = t.1; trace = t.0; verdict = verdict; weight = refl; least = least }

-- a query's lists with another number that may fail are bounds, and what matches the query matches it there
module _ (net : Net) (query : Query) (k : ℕ) where
  pub bounds_at : IsQueryOf net query → AreBounds net (whole_of k query)
  bounds_at q = record { down = q.bounds.down; up = q.bounds.up; apart = q.bounds.apart }

  pub matches_at : (run : Run) → Matches net (question_of query) run → Matches net (question_at k query) run
  matches_at run m = record { first = m.first; path = m.path; last = m.last; end = m.end }

  pub matches_of : (run : Run) → Matches net (question_at k query) run → Matches net (question_of query) run
  matches_of run m = record { first = m.first; path = m.path; last = m.last; end = m.end }

  pub covers_at : (weigh : Weighing) (bound : Option (List ℕ)) (branch : Bounds)
      → NoTraceBelow net (question_of query) weigh bound branch → NoTraceBelow net (question_at k query) weigh bound branch
  covers_at weigh bound branch none fails run a t m below = none fails run a t (matches_of run m) below
