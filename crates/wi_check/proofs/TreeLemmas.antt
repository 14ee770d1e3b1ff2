-- How a tree is checked, node by node.
use Rattle.std.proofs.Common.{◌≡◌, ℕ, suc, ◌+◌, ◌-◌, ◌*◌, ◌<◌, ◌≤◌, true, List, [], ◌∷◌, ◌++◌, length, drop, get_or, reverse, slice_get, Some, refl, arith, add-one, sym, ap, ◌∙◌, inl, inr, subst}
use Rattle.std.specs.Prelude.{Result, Ok, Err, OnOk, IfErr}
use Rattle.std.specs.List.{All}
use Rattle.std.proofs.lemmas.List.Elements.{All-nil, All-cons, All-head, All-tail}
use Rattle.std.proofs.lemmas.Bool.{cases_lt}
use Rattle.std.proofs.lemmas.List.{reverse-append}
use Rattle.std.proofs.lemmas.Option.{slice_get_read}
use Rattle.wi_net.specs.declared.bounds.Bounds.{Bounds}
use Rattle.wi_net.specs.Net.{Net}
use Rattle.wi_rules.proofs.Lists.{drop_get, get_below}
use Rattle.wi_labels.proofs.HeaderLemmas.{drop_at}
use Rattle.wi_build.specs.Problems.{Problem, IsProblem, within}
use Rattle.wi_cert.specs.declared.closed.Closed.{Closed}
use Rattle.wi_cert.specs.declared.tree.Node.{Node}
use Rattle.wi_cert.specs.declared.tree.Node.TheVariants as node
use Rattle.wi_cert.specs.declared.tree.TreeCertificate.{TreeCertificate}
use Rattle.wi_cert.specs.declared.check_refused.CheckRefused.{CheckRefused}
use Rattle.wi_cert.specs.declared.check_refused.CheckRefused.TheVariants.{OfAnotherQuestion, TermsDiffer, StepNotInTable, NoMatch, WeightDiffers, WrongAnswer, Unbounded, BadSplit, Leaf, Memory}
use Rattle.wi_cert.specs.declared.check_refused.ClosedRefused.{ClosedRefused}
use Rattle.wi_cert.specs.Trees.{makes_trees, IsTreeWritable}
use Rattle.wi_trees.specs.Branches.{IsBranch, CanSplit, with_down, with_up}
use Rattle.wi_trees.proofs.BranchLaws.{root, child_down, child_up}
use Rattle.wi_accept.specs.Causes.{IsShownCause, IsClosedCause, bound_of, place}
use Rattle.wi_accept.specs.Trees.{link_of, branched, branches_of, IsNode, IsTreeCause, IsTreeAccepted, IsTreeRefused}
use Rattle.wi_accept.proofs.Visits.{after_leaf, after_split, none_due}
use Rattle.wi_accept.proofs.FirstRefusals.{few_places, shown_first, not_both_kinds, one_leaf, one_node}
use Rattle.wi_check.specs.private.Stages.{NoneShown, NoneClosed, NoneInTree, IsShownRefused, IsFirstClosed, AreChecked, IsNodeChecked, IsNodeRefused}

-- the branch that was taken from the stack is the next one
pub taken : (old new : List Bounds) (branch : Bounds) → old ≡ new ++ branch ∷ [] → reverse old ≡ branch ∷ reverse new
taken old new branch same = ap reverse same ∙ reverse-append new (branch ∷ [])

-- what is put on an empty stack is alone there
pub alone : (old new : List Bounds) (branch whole : Bounds) → new ≡ old ++ branch ∷ [] → old ≡ [] → branch ≡ whole → new ≡ whole ∷ []
alone old new branch whole is none same = is ∙ ap (λ bs. bs ++ branch ∷ []) none ∙ ap (λ b. b ∷ []) same

-- an element that is read stands at its place
pub stands : {A : Type 0} (xs ys : List A) (i : ℕ) (x : A) → ys ≡ xs → i < length xs → x ≡ get_or ys i x → slice_get xs i ≡ Some x
stands xs ys i x same within is = slice_get_read xs (length xs) i x refl within (is ∙ ap (λ zs. get_or zs i x) same)

module _ (problem : Problem) (t : TreeCertificate) where
  -- a cause against a tree is one against what is shown, or against a node
  cause_shown : (r : CheckRefused) → place r < 9 → IsTreeCause problem t r → IsShownCause problem t.shown r
  cause_shown (BadSplit n) low h = absurd (omega (arith, low, h.2.0))
  cause_shown (Leaf n r) low h = absurd (omega (arith, low, h.2.0))
  cause_shown r low h = h

  pub none_shown : NoneShown problem t.shown 6 → NoneInTree problem t 9
  none_shown none r low h = let k = cause_shown r low h in none r (shown_first problem t.shown r k) k

  pub shown_refused : (r : CheckRefused) → IsShownRefused problem t.shown r → IsTreeRefused problem t r
  shown_refused Memory h = tt
  shown_refused OfAnotherQuestion h = record { cause = h.cause; first = λ s low k. absurd (omega (arith, low)) }
  shown_refused (TermsDiffer shown asked) h = record { cause = h.cause; first = λ s low k. h.first s low (cause_shown s (omega (arith, low)) k) }
  shown_refused (StepNotInTable n) h = record { cause = h.cause; first = λ s low k. h.first s low (cause_shown s (omega (arith, low)) k) }
  shown_refused (NoMatch part) h = record { cause = h.cause; first = λ s low k. h.first s low (cause_shown s (omega (arith, low)) k) }
  shown_refused (WeightDiffers shown counted) h = record { cause = h.cause; first = λ s low k. h.first s low (cause_shown s (omega (arith, low)) k) }
  shown_refused WrongAnswer h = record { cause = h.cause; first = λ s low k. h.first s low (cause_shown s (omega (arith, low)) k) }
  shown_refused (Unbounded r) h = absurd h.cause
  shown_refused (BadSplit n) h = absurd h.cause
  shown_refused (Leaf n r) h = absurd h.cause

  -- before the first node the whole is left
  begun : IsProblem problem → IsTreeWritable t → NoneInTree problem t 9 → AreChecked problem t 0 (problem.bounds ∷ [])
  begun k writable none = record {
    rest = refl;
    whole = writable.whole;
    parts = All-cons (IsBranch problem.net problem.bounds) problem.bounds [] (root problem.net problem.bounds k.bounds_of) (All-nil (IsBranch problem.net problem.bounds));
    none = none;
  }

  pub begun_with : IsProblem problem → IsTreeWritable t → NoneInTree problem t 9 → (left : List Bounds) → left ≡ problem.bounds ∷ [] → AreChecked problem t 0 (reverse left)
  begun_with k writable none left same = subst (λ (bs : List Bounds). AreChecked problem t 0 (reverse bs)) (sym same) (begun k writable none)

  -- while nodes are left, so is a branch
  pub some_left : (n : ℕ) (x : Node) → slice_get t.nodes n ≡ Some x → AreChecked problem t n [] → ⊥
  some_left n x at h =
      let all : makes_trees 0 (drop n t.nodes) ≡ true = h.whole in
      none_due x (drop (n + 1) t.nodes) (rw (drop_at t.nodes n x at) at all)

  module _ (n : ℕ) (x : Node) (branch : Bounds) (left : List Bounds) (at : slice_get t.nodes n ≡ Some x) (h : AreChecked problem t n (branch ∷ left)) where
    pub is_part : IsBranch problem.net problem.bounds branch
    is_part = All-head (IsBranch problem.net problem.bounds) branch left h.parts

    rest_is : drop n (branches_of problem t) ≡ branched problem.net (branch ∷ left) (x ∷ drop (n + 1) t.nodes)
    rest_is = h.rest ∙ ap (λ nodes. branched problem.net (branch ∷ left) nodes) (drop_at t.nodes n x at)

    -- the branches that are left once the node was one of this branch
    abbrev pub next_of : Node → List Bounds
    next_of (node.Split e) = with_down problem.net branch (link_of e) ∷ with_up problem.net branch (link_of e) ∷ left
    next_of (node.Closed c) = left

    visited : (y : Node) → branched problem.net (branch ∷ left) (y ∷ drop (n + 1) t.nodes) ≡ (branch, y) ∷ branched problem.net (next_of y) (drop (n + 1) t.nodes)
    visited (node.Split e) = refl
    visited (node.Closed c) = refl

    there : (slice_get (branches_of problem t) n ≡ Some (branch, x)) × (drop (suc n) (branches_of problem t) ≡ branched problem.net (next_of x) (drop (n + 1) t.nodes)) × (n < length (branches_of problem t))
    there = drop_get (branches_of problem t) n (branch, x) (branched problem.net (next_of x) (drop (n + 1) t.nodes)) (rest_is ∙ visited x)

    is_node : IsNode problem t (n + 1) branch x
    is_node =
        let same : n + 1 - 1 ≡ n = omega arith in
        (omega arith, ap (λ i. slice_get (branches_of problem t) i) same ∙ there.0)

    -- what is left are trees still
    still_whole : (y : Node) → makes_trees (length (branch ∷ left)) (y ∷ drop (n + 1) t.nodes) ≡ true → makes_trees (length (next_of y)) (drop (n + 1) t.nodes) ≡ true
    still_whole (node.Split e) whole = after_split (length left) e (drop (n + 1) t.nodes) whole
    still_whole (node.Closed c) whole = after_leaf (length left) c (drop (n + 1) t.nodes) whole

    -- a node of this number is this one
    pub this : (m : ℕ) (b : Bounds) (y : Node) → m ≡ n + 1 → IsNode problem t m b y → ◌≡◌ {A = Bounds × Node} (b, y) (branch, x)
    this m b y same k = one_node problem t m (n + 1) b branch y x same k is_node

    -- a cause told no later than those of this node is one before, or of this node
    pub before_or_here : {G : Type 0} (m : ℕ) (r : CheckRefused) → 6 + 3 * m ≤ place r → place r < 9 + 3 * m → place r < 9 + 3 * (n + 1) → IsTreeCause problem t r → (m ≡ n + 1 → G) → G
    before_or_here m r from upto low k at_this = elim (cases_lt (place r) (9 + 3 * n)) [
      | inl less ↦ absurd (h.none r less k)
      | inr more ↦ at_this (omega (arith, from, upto, low, more))
    ]

    -- the node was checked
    pub checked : (next : List Bounds) → next ≡ next_of x → All (IsBranch problem.net problem.bounds) (next_of x) → NoneInTree problem t (9 + 3 * (n + 1)) → AreChecked problem t (n + 1) next
    checked next same parts none =
        let whole : makes_trees (length (branch ∷ left)) (x ∷ drop (n + 1) t.nodes) ≡ true = rw (drop_at t.nodes n x at) at h.whole in
        let rest : drop (n + 1) (branches_of problem t) ≡ branched problem.net (next_of x) (drop (n + 1) t.nodes) = ap (λ i. drop i (branches_of problem t)) (add-one n) ∙ there.1 in
        subst (AreChecked problem t (n + 1)) (sym same) (record { rest = rest; whole = still_whole x whole; parts = parts; none = none })

  same_can : (b branch : Bounds) (d e : ℕ) → ◌≡◌ {A = Bounds × Node} (b, node.Split d) (branch, node.Split e) → CanSplit problem.net branch (link_of e) → CanSplit problem.net b (link_of d)
  same_can b branch d e same can =
      let branch_is : b ≡ branch = ap (λ (y : Bounds × Node). y.0) same in
      let link_is : d ≡ e = one_link d e (ap (λ (y : Bounds × Node). y.1) same) in
      subst (λ c. CanSplit problem.net c (link_of d)) (sym branch_is) (subst (λ i. CanSplit problem.net branch (link_of i)) (sym link_is) can)
    where
      one_link : (d e : ℕ) → node.Split d ≡ node.Split e → d ≡ e
      one_link d e same = cc

  -- a cause against the leaf within its branch, wherever the two are named
  same_gap_at : (b branch : Bounds) (c d : Closed) (r : ClosedRefused) → ◌≡◌ {A = Bounds × Node} (b, node.Closed c) (branch, node.Closed d)
      → IsClosedCause (within problem b) t.shown.terms (bound_of t.shown) c r → IsClosedCause (within problem branch) t.shown.terms (bound_of t.shown) d r
  same_gap_at b branch c d r same k =
      let P : Bounds → Closed → Type 0 = λ a x. IsClosedCause (within problem a) t.shown.terms (bound_of t.shown) x r in
      let branch_is : b ≡ branch = ap (λ (y : Bounds × Node). y.0) same in
      let leaf_is : c ≡ d = one_leaf problem t c d (ap (λ (y : Bounds × Node). y.1) same) in
      subst (λ a. P a d) branch_is (subst (λ x. P b x) leaf_is k)

  -- a split that is one
  module _ (n e : ℕ) (branch : Bounds) (left : List Bounds) (at : slice_get t.nodes n ≡ Some (node.Split e)) (h : AreChecked problem t n (branch ∷ left)) where
    split_none : CanSplit problem.net branch (link_of e) → NoneInTree problem t (9 + 3 * (n + 1))
    split_none can (BadSplit m) low k =
        before_or_here n (node.Split e) branch left at h m (BadSplit m) (omega arith) (omega arith) low k
        (λ same. k.3 (same_can k.0 branch k.1 e (this n (node.Split e) branch left at h m k.0 (node.Split k.1) same k.2) can))
    split_none can (Leaf m r) low k =
        before_or_here n (node.Split e) branch left at h m (Leaf m r) (omega arith) (omega (arith, few_places r)) low k
        (λ same. not_both_kinds problem t branch k.0 e k.1 (sym (this n (node.Split e) branch left at h m k.0 (node.Closed k.1) same k.2)))
    split_none can r low k = let first = shown_first problem t.shown r k in h.none r (omega (arith, first)) k

    pub split_checked : IsProblem problem → (next : List Bounds) → CanSplit problem.net branch (link_of e) → next ≡ with_down problem.net branch (link_of e) ∷ with_up problem.net branch (link_of e) ∷ left
        → AreChecked problem t (n + 1) next
    split_checked k next can same =
        let part = is_part n (node.Split e) branch left at h in
        let IsPart : Bounds → Type 0 = IsBranch problem.net problem.bounds in
        let up = All-cons IsPart (with_up problem.net branch (link_of e)) left (child_up problem.net problem.bounds branch (link_of e) part can) (All-tail IsPart branch left h.parts) in
        let both = All-cons IsPart (with_down problem.net branch (link_of e)) (with_up problem.net branch (link_of e) ∷ left) (child_down problem.net problem.bounds branch (link_of e) part can k.network) up in
        checked n (node.Split e) branch left at h next same both (split_none can)

    -- and one that isn't
    pub split_refused : (CanSplit problem.net branch (link_of e) → ⊥) → IsTreeRefused problem t (BadSplit (n + 1))
    split_refused not = record {
      cause = (branch, e, is_node n (node.Split e) branch left at h, not);
      first = λ s low k. h.none s (omega (arith, low)) k;
    }

  -- a leaf that bounds its branch
  module _ (n : ℕ) (c : Closed) (branch : Bounds) (left : List Bounds) (at : slice_get t.nodes n ≡ Some (node.Closed c)) (h : AreChecked problem t n (branch ∷ left)) where
    leaf_none : NoneClosed (within problem branch) t.shown c 3 → NoneInTree problem t (9 + 3 * (n + 1))
    leaf_none none (BadSplit m) low k =
        before_or_here n (node.Closed c) branch left at h m (BadSplit m) (omega arith) (omega arith) low k
        (λ same. not_both_kinds problem t k.0 branch k.1 c (this n (node.Closed c) branch left at h m k.0 (node.Split k.1) same k.2))
    leaf_none none (Leaf m r) low k =
        before_or_here n (node.Closed c) branch left at h m (Leaf m r) (omega arith) (omega (arith, few_places r)) low k
        (λ same. none r (few_places r) (same_gap_at k.0 branch k.1 c r (this n (node.Closed c) branch left at h m k.0 (node.Closed k.1) same k.2) k.3))
    leaf_none none r low k = let first = shown_first problem t.shown r k in h.none r (omega (arith, first)) k

    pub leaf_checked : (next : List Bounds) → NoneClosed (within problem branch) t.shown c 3 → next ≡ left → AreChecked problem t (n + 1) next
    leaf_checked next none same =
        checked n (node.Closed c) branch left at h next same (All-tail (IsBranch problem.net problem.bounds) branch left h.parts) (leaf_none none)

    -- and one that doesn't
    pub leaf_refused : (r : ClosedRefused) → IsFirstClosed (within problem branch) t.shown c r → IsTreeRefused problem t (Leaf (n + 1) r)
    leaf_refused r first = record { cause = (branch, c, is_node n (node.Closed c) branch left at h, first.cause); first = earlier }
      where
        earlier : (s : CheckRefused) → place s < place (Leaf (n + 1) r) → IsTreeCause problem t s → ⊥
        earlier (BadSplit m) low k =
            before_or_here n (node.Closed c) branch left at h m (BadSplit m) (omega arith) (omega arith) (omega (arith, low, few_places r)) k
            (λ same. not_both_kinds problem t k.0 branch k.1 c (this n (node.Closed c) branch left at h m k.0 (node.Split k.1) same k.2))
        earlier (Leaf m s) low k =
            before_or_here n (node.Closed c) branch left at h m (Leaf m s) (omega arith) (omega (arith, few_places s)) (omega (arith, low, few_places r)) k
            (λ same. first.first s (omega (arith, low, same)) (same_gap_at k.0 branch k.1 c s (this n (node.Closed c) branch left at h m k.0 (node.Closed k.1) same k.2) k.3))
        earlier s low k = let shown = shown_first problem t.shown s k in h.none s (omega (arith, shown)) k

  -- what a node's check says of the tree
  pub node_checked : (n : ℕ) (x : Node) (branch : Bounds) (left next : List Bounds) → IsProblem problem → slice_get t.nodes n ≡ Some x → AreChecked problem t n (branch ∷ left)
      → IsNodeChecked problem t.shown branch x left next → AreChecked problem t (n + 1) next
  node_checked n (node.Split e) branch left next k at h is = split_checked n e branch left at h k next is.0 is.1
  node_checked n (node.Closed c) branch left next k at h is = leaf_checked n c branch left at h next is.0 is.1

  pub node_refused : (n m : ℕ) (x : Node) (branch : Bounds) (left : List Bounds) (r : CheckRefused) → m ≡ n + 1 → slice_get t.nodes n ≡ Some x → AreChecked problem t n (branch ∷ left)
      → IsNodeRefused problem t.shown branch x m r → IsTreeRefused problem t r
  node_refused n m (node.Split e) branch left (BadSplit i) number at h is =
      subst (λ j. IsTreeRefused problem t (BadSplit j)) (sym (is.0 ∙ number)) (split_refused n e branch left at h is.1)
  node_refused n m (node.Closed c) branch left (Leaf i r) number at h is =
      subst (λ j. IsTreeRefused problem t (Leaf j r)) (sym (is.0 ∙ number)) (leaf_refused n c branch left at h r is.1)
  node_refused n m x branch left Memory number at h is = tt
  node_refused n m (node.Split e) branch left (Leaf i r) number at h is = absurd is
  node_refused n m (node.Closed c) branch left (BadSplit i) number at h is = absurd is
  node_refused n m x branch left r number at h is = absurd is

  -- no more nodes have branches than there are
  few_branched : (net : Net) (nodes : List Node) (left : List Bounds) → length (branched net left nodes) ≤ length nodes
  few_branched net [] left = omega arith
  few_branched net (x ∷ nodes) [] = omega arith
  few_branched net (node.Split e ∷ nodes) (branch ∷ left) =
      let few = few_branched net nodes (with_down net branch (link_of e) ∷ with_up net branch (link_of e) ∷ left) in
      omega (arith, few)
  few_branched net (node.Closed c ∷ nodes) (branch ∷ left) = let few = few_branched net nodes left in omega (arith, few)

  -- once all nodes were checked, the tree is accepted
  all_checked : (left : List Bounds) → AreChecked problem t (length t.nodes) left → IsTreeAccepted problem t
  all_checked left h (BadSplit m) k =
      let few = few_branched problem.net t.nodes (problem.bounds ∷ []) in
      let low = get_below (branches_of problem t) (m - 1) (k.0, node.Split k.1) k.2.1 in
      h.none (BadSplit m) (omega (arith, few, low)) k
  all_checked left h (Leaf m r) k =
      let few = few_branched problem.net t.nodes (problem.bounds ∷ []) in
      let low = get_below (branches_of problem t) (m - 1) (k.0, node.Closed k.1) k.2.1 in
      h.none (Leaf m r) (omega (arith, few, low, few_places r)) k
  all_checked left h r k = let first = shown_first problem t.shown r k in h.none r (omega (arith, first)) k

  pub all_checked_at : (n : ℕ) (nodes : List Node) (left : List Bounds) → nodes ≡ t.nodes → length nodes ≤ n → n ≤ length nodes → AreChecked problem t n left → IsTreeAccepted problem t
  all_checked_at n nodes left same from upto h =
      let all : n ≡ length t.nodes = omega (arith, from, upto, ap (λ (xs : List Node). length xs) same) in
      all_checked left (subst (λ i. AreChecked problem t i left) all h)

  -- the node at a place was checked, with the branch that was taken from the stack
  module _ (n : ℕ) (x : Node) (branch : Bounds) (old popped : List Bounds) (k : IsProblem problem) (at : slice_get t.nodes n ≡ Some x) (pop : old ≡ popped ++ branch ∷ []) (h : AreChecked problem t n (reverse old)) where
    next_first : AreChecked problem t n (branch ∷ reverse popped)
    next_first = subst (AreChecked problem t n) (taken old popped branch pop) h

    pub taken_part : IsBranch problem.net problem.bounds branch
    taken_part = is_part n x branch (reverse popped) at next_first

    pub next_checked : (r : Result (Unit {0}) CheckRefused) (new : List Bounds) → OnOk r (IsNodeChecked problem t.shown branch x (reverse popped) (reverse new)) → OnOk r (AreChecked problem t (n + 1) (reverse new))
    next_checked (Ok done) new is = node_checked n x branch (reverse popped) (reverse new) k at next_first is
    next_checked (Err e) new is = tt

    pub next_refused : (m : ℕ) (r : Result (Unit {0}) CheckRefused) → m ≡ n + 1 → IfErr r (IsNodeRefused problem t.shown branch x m) → IfErr r (IsTreeRefused problem t)
    next_refused m (Ok done) number is = tt
    next_refused m (Err e) number is = node_refused n m x branch (reverse popped) e number at next_first is
