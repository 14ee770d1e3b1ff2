-- The definitions computed on the small networks of the moving world: l0 x to a, l1 a to b, l2 a to c, l3 c to b, l4 b to y, and
-- in one of them l5 b to z.
use Rattle.std.proofs.Common.{◌≡◌, ℕ, true, false, List, [], ◌∷◌, Option, Some, None, refl, arith}
use Rattle.wi_net.specs.declared.bounds.Bounds.{Bounds}
use Rattle.wi_net.specs.declared.parts.LinkId.{LinkId}
use Rattle.wi_net.specs.Net.{Net, risk_count}
use Rattle.wi_world.specs.declared.run.Run.{Run}
use Rattle.wi_world.specs.declared.world.State.{State}
use Rattle.wi_world.specs.declared.world.Event.TheVariants.{Fail, Repair, Hop}
use Rattle.wi_world.specs.declared.answer.Word.TheVariants.{Yes, No, Inconclusive}
use Rattle.wi_world.specs.declared.answer.Verdict.{Verdict}
use Rattle.wi_world.specs.declared.answer.Verdict.TheVariants.{Fits, Exceeds, UsesFailed}
use Rattle.wi_world.specs.Moves.{is_possible_run}
use Rattle.wi_world.specs.Moving.{after_event, start_of}
use Rattle.wi_world.specs.Runs.{verdict_of}
use Rattle.wi_world.specs.Holds.{Question, Weighing}
use Rattle.wi_world.proofs.Samples.{l, s10, ip1, base, fiber, shared, undefined_back, with_z, step, bounds, at_most, state, direct, around, around_to_z, lost_at_b, undefined_after_c}
use Rattle.wi_trees.specs.Branches.{IsBranch, keeps_to, IsBranchSet, after_event_in, IsBranchRun, branch_needs, fits_branch, CanSplit, with_down, with_up, free_links, split_of}
use Rattle.wi_trees.specs.Trees.{IsBelow, Tree, closed, split, preorder, size, TreeOf, HoldsExactly}
use Rattle.wi_trees.specs.Nodes.{AreNodes}

-- l1 and l2 are one risk group, and two may fail: each child takes both links, and in the one where they are down one place less
-- is left.
abbrev both_down : Bounds
both_down = with_down shared (at_most 2) (l 2)

abbrev both_up : Bounds
both_up = with_up shared (at_most 2) (l 2)

takes_both_down : both_down ≡ bounds 1 (l 1 ∷ l 2 ∷ []) []
takes_both_down = refl

takes_both_up : both_up ≡ bounds 2 [] (l 1 ∷ l 2 ∷ [])
takes_both_up = refl

may_be_split : CanSplit shared (at_most 2) (l 2)
may_be_split = record { known = refl; down = refl; up = refl; room = omega arith }

down_is_a_branch : IsBranch shared (at_most 2) both_down
down_is_a_branch = record { bounds = record { down = refl; up = refl; apart = refl }; down = refl; up = refl; left = refl }

up_is_a_branch : IsBranch shared (at_most 2) both_up
up_is_a_branch = record { bounds = record { down = refl; up = refl; apart = refl }; down = refl; up = refl; left = refl }

-- One link of a risk group alone makes no branch, nor does a failure more or less than what is down leaves.
half_a_group : IsBranch shared (at_most 2) (bounds 1 (l 2 ∷ []) []) → ⊥
half_a_group b = let u = b.bounds.down in cc

one_too_many : IsBranch shared (at_most 2) (bounds 2 (l 1 ∷ l 2 ∷ []) []) → ⊥
one_too_many b = omega (arith, b.left)

one_too_few : IsBranch shared (at_most 2) (bounds 0 (l 1 ∷ l 2 ∷ []) []) → ⊥
one_too_few b = omega (arith, b.left)

-- What is down or up is split no more, by either link; nor is anything where no more may fail, nor a link that isn't there.
down_already : CanSplit shared both_down (l 1) → ⊥
down_already c = let d = c.down in cc

up_already : CanSplit shared both_up (l 1) → ⊥
up_already c = let u = c.up in cc

no_room : CanSplit shared (at_most 0) (l 2) → ⊥
no_room c = omega (arith, c.room)

no_such_link : CanSplit shared (at_most 2) (l 5) → ⊥
no_such_link c = let k = c.known in cc

-- Four risk groups are free at first, and three in each child.
free_first : risk_count shared (free_links shared (at_most 2)) ≡ 4
free_first = refl

free_then : (free_links shared both_down ≡ l 0 ∷ l 3 ∷ l 4 ∷ []) × (free_links shared both_up ≡ l 0 ∷ l 3 ∷ l 4 ∷ [])
free_then = (refl, refl)

-- A set of a branch has all that is down there, and nothing that is up.
a_set_with_both : IsBranchSet shared (at_most 2) both_down (l 1 ∷ l 2 ∷ l 3 ∷ [])
a_set_with_both = record { allowed = record { union = refl; down = refl; up = refl; few = refl }; keeps = refl }

a_set_without : (keeps_to both_down (l 3 ∷ []) ≡ false) × (keeps_to both_up (l 3 ∷ []) ≡ true)
a_set_without = (refl, refl)

what_is_up : keeps_to both_up (l 1 ∷ l 2 ∷ []) ≡ false
what_is_up = refl

-- Where both are down, the whole bounds let them be repaired, and the branch doesn't.
abbrev with_fails : Bounds → List LinkId → State
with_fails branch fails = record (start_of branch direct) { fails = fails }

repaired : after_event shared (at_most 2) (start_of both_down direct) (Repair (l 2)) ≡ Some (with_fails both_down [])
repaired = refl

not_repaired : after_event_in shared (at_most 2) both_down (start_of both_down direct) (Repair (l 2)) ≡ None
not_repaired = refl

-- Another link may fail, and then no third; in the other branch neither of the two may.
abbrev three_down : State
three_down = with_fails both_down (l 1 ∷ l 2 ∷ l 3 ∷ [])

fails_too : after_event_in shared (at_most 2) both_down (start_of both_down direct) (Fail (l 3)) ≡ Some three_down
fails_too = refl

fails_no_more : after_event_in shared (at_most 2) both_down three_down (Fail (l 4)) ≡ None
fails_no_more = refl

stays_up : after_event_in shared (at_most 2) both_up (start_of both_up direct) (Fail (l 2)) ≡ None
stays_up = refl

stays_up_too : after_event_in shared (at_most 2) both_up (start_of both_up direct) (Fail (l 1)) ≡ None
stays_up_too = refl

-- The way around needs that l1 has failed. With one failure it fits, and it also fits the branch with that link down, in which it
-- moves though nothing else fails.
around_needs : branch_needs base (at_most 1) (at_most 1) around ≡ l 1 ∷ []
around_needs = refl

around_fits : fits_branch base (at_most 1) (at_most 1) around ≡ true
around_fits = refl

around_fits_down : fits_branch base (at_most 1) (with_down base (at_most 1) (l 1)) around ≡ true
around_fits_down = refl

around_verdict_down : verdict_of base (with_down base (at_most 1) (l 1)) around ≡ Fits (l 1 ∷ [])
around_verdict_down = refl

around_moves_down : IsBranchRun base (at_most 1) (with_down base (at_most 1) (l 1)) around
around_moves_down =
    record {
      start = refl;
      events = Hop (step 1 0) ∷ Hop (step 0 0) ∷ Hop (step 0 0) ∷ [];
      last = state (l 4) (ip1 ∷ []) (l 1 ∷ []);
      allowed = refl;
      steps = refl;
      ends = refl;
    }

-- With another link down, and no failure left, l1 would be one too many: the run fits the whole bounds, and not that branch.
around_fits_whole : verdict_of with_z (at_most 1) around ≡ Fits (l 1 ∷ [])
around_fits_whole = refl

around_needs_more : branch_needs with_z (at_most 1) (with_down with_z (at_most 1) (l 5)) around ≡ l 1 ∷ l 5 ∷ []
around_needs_more = refl

around_fits_not_there : fits_branch with_z (at_most 1) (with_down with_z (at_most 1) (l 5)) around ≡ false
around_fits_not_there = refl

-- Where l1 and l4 are one risk group, the way around moves with one failure, but needs a link that it uses. So it doesn't fit, and
-- l1 is the link to split by.
fiber_moves : is_possible_run fiber (at_most 1) around ≡ true
fiber_moves = refl

fiber_verdict : verdict_of fiber (at_most 1) around ≡ UsesFailed (l 4)
fiber_verdict = refl

fiber_fits_not : fits_branch fiber (at_most 1) (at_most 1) around ≡ false
fiber_fits_not = refl

fiber_splits : split_of fiber (at_most 1) around ≡ Some (l 1)
fiber_splits = refl

-- A packet that is dropped at b, since the link from there has failed, is dropped so in the branch with that link down. In the one
-- with it up it isn't.
lost_fits_down : fits_branch base (at_most 1) (with_down base (at_most 1) (l 4)) lost_at_b ≡ true
lost_fits_down = refl

lost_moves_down : IsBranchRun base (at_most 1) (with_down base (at_most 1) (l 4)) lost_at_b
lost_moves_down =
    record {
      start = refl;
      events = Hop (step 0 0) ∷ [];
      last = state (l 1) (s10 ∷ ip1 ∷ []) (l 4 ∷ []);
      allowed = refl;
      steps = refl;
      ends = refl;
    }

lost_not_up : is_possible_run base (with_up base (at_most 1) (l 4)) lost_at_b ≡ false
lost_not_up = refl

-- A packet that comes back to a, and is dropped on the way over l1, needs that l1 has failed before. The end's own link is used, so
-- the run doesn't fit, and l1 is the link to split by.
back_moves : is_possible_run undefined_back (at_most 1) undefined_after_c ≡ true
back_moves = refl

back_fits_not : fits_branch undefined_back (at_most 1) (at_most 1) undefined_after_c ≡ false
back_fits_not = refl

back_splits : split_of undefined_back (at_most 1) undefined_after_c ≡ Some (l 1)
back_splits = refl

-- The way to z needs two failures, one after the other: with one it moves, doesn't fit, and is split by the lesser link. Once that
-- is down or up, it moves no more.
exceeds : verdict_of with_z (at_most 1) around_to_z ≡ Exceeds 2
exceeds = refl

exceeds_moves : is_possible_run with_z (at_most 1) around_to_z ≡ true
exceeds_moves = refl

exceeds_fits_not : fits_branch with_z (at_most 1) (at_most 1) around_to_z ≡ false
exceeds_fits_not = refl

exceeds_splits : split_of with_z (at_most 1) around_to_z ≡ Some (l 1)
exceeds_splits = refl

exceeds_in_none : TreeOf (λ leaf. is_possible_run with_z leaf around_to_z ≡ false) with_z (at_most 1) (split (l 1) closed closed)
exceeds_in_none = (record { known = refl; down = refl; up = refl; room = omega arith }, refl, refl)

-- With two failures it fits; what is down is split no more, so the next link is l4.
two_fit : fits_branch with_z (at_most 2) (with_down with_z (at_most 2) (l 1)) around_to_z ≡ true
two_fit = refl

next_link : split_of with_z (with_down with_z (at_most 2) (l 1)) around_to_z ≡ Some (l 4)
next_link = refl

none_left : split_of with_z (with_down with_z (with_down with_z (at_most 2) (l 1)) (l 4)) around_to_z ≡ None
none_left = refl

-- A tree of one split, in neither of whose leaves the way around is possible: by its shape, and node by node.
abbrev one_split : Tree
one_split = split (l 1) closed closed

abbrev GoesNotAround : Bounds → Type 0
GoesNotAround leaf = is_possible_run fiber leaf around ≡ false

fiber_can_split : CanSplit fiber (at_most 1) (l 1)
fiber_can_split = record { known = refl; down = refl; up = refl; room = omega arith }

fiber_tree : TreeOf GoesNotAround fiber (at_most 1) one_split
fiber_tree = (fiber_can_split, refl, refl)

fiber_nodes : AreNodes GoesNotAround fiber (Some (l 1) ∷ None ∷ None ∷ []) (at_most 1 ∷ [])
fiber_nodes = (fiber_can_split, (refl, (refl, tt)))

fiber_preorder : (preorder one_split ≡ Some (l 1) ∷ None ∷ None ∷ []) × (size one_split ≡ 3)
fiber_preorder = (refl, refl)

-- The branch alone is no such leaf, a node too few leaves a branch open, and one too many has none.
fiber_no_leaf : TreeOf GoesNotAround fiber (at_most 1) closed → ⊥
fiber_no_leaf t = cc

fiber_too_few : AreNodes GoesNotAround fiber (Some (l 1) ∷ None ∷ []) (at_most 1 ∷ []) → ⊥
fiber_too_few n = n.1.1

fiber_too_many : AreNodes GoesNotAround fiber (Some (l 1) ∷ None ∷ None ∷ None ∷ []) (at_most 1 ∷ []) → ⊥
fiber_too_many n = n.1.1.1

-- A tree whose first split is split again comes with its inner nodes first.
abbrev two_splits : Tree
two_splits = split (l 1) (split (l 4) closed closed) closed

two_splits_preorder : (preorder two_splits ≡ Some (l 1) ∷ Some (l 4) ∷ None ∷ None ∷ None ∷ []) × (size two_splits ≡ 5)
two_splits_preorder = (refl, refl)

-- Below a bound is what is less than it, and without a bound every weight.
below : IsBelow (Some (4 ∷ 12 ∷ [])) (4 ∷ 11 ∷ [])
below = refl

not_below_itself : IsBelow (Some (4 ∷ 12 ∷ [])) (4 ∷ 12 ∷ []) → ⊥
not_below_itself h = cc

below_nothing : IsBelow None (4 ∷ 12 ∷ [])
below_nothing = tt

-- An exact answer is a yes with a verdict that fits or a no with nothing to show, and never inconclusive.
never_inconclusive : (net : Net) (question : Question) (weigh : Weighing) (w : Option (List ℕ)) (shown : Option Run)
    (v : Option Verdict) → HoldsExactly net question weigh Inconclusive w shown v → ⊥
never_inconclusive net question weigh w shown v h = h

no_shows_nothing : (net : Net) (question : Question) (weigh : Weighing) (w : List ℕ) (shown : Run) (v : Verdict)
    → HoldsExactly net question weigh No (Some w) (Some shown) (Some v) → ⊥
no_shows_nothing net question weigh w shown v h = h

yes_shows_a_fit : (net : Net) (question : Question) (weigh : Weighing) (w : List ℕ) (shown : Run) (n : ℕ)
    → HoldsExactly net question weigh Yes (Some w) (Some shown) (Some (Exceeds n)) → ⊥
yes_shows_a_fit net question weigh w shown n h = h
