-- The nodes of a tree, each with its branch: what is so at every node, and what trees they make.
use Rattle.std.proofs.lemmas.Bool.{and_from, and_parts, eqb-true, lt-ltb, ltb-true}
use Rattle.std.proofs.Common.{◌≡◌, ℕ, zero, suc, ◌+◌, ◌-◌, ◌<◌, nat_lt, Bool, true, false, List, [], ◌∷◌, length, map, slice_get, Option, Some, None, ◌⊎◌, inl, inr, refl, arith, subst}
use Rattle.std.specs.List.{All}
use Rattle.std.proofs.lemmas.List.Elements.{All-nil, All-cons, All-head, All-tail}
use Rattle.wi_net.specs.declared.parts.LinkId.{LinkId}
use Rattle.wi_net.specs.declared.bounds.Bounds.{Bounds}
use Rattle.wi_net.specs.LinkSet.{has}
use Rattle.wi_net.specs.Net.{Net, is_link}
use Rattle.wi_net.specs.Network.{IsNetwork}
use Rattle.wi_world.specs.declared.run.Run.{Run}
use Rattle.wi_world.specs.Holds.{Matches}
use Rattle.wi_build.specs.Problems.{Problem, IsProblem, asks, within}
use Rattle.wi_cert.specs.declared.closed.Closed.{Closed}
use Rattle.wi_cert.specs.declared.shown.Shown.{Shown}
use Rattle.wi_cert.specs.declared.tree.Node.{Node}
use Rattle.wi_cert.specs.declared.tree.Node.TheVariants as node
use Rattle.wi_cert.specs.Trees.{makes_trees, IsLeafOf}
use Rattle.wi_trees.specs.Branches.{IsBranch, CanSplit, with_down, with_up}
use Rattle.wi_trees.specs.Nodes.{AreNodes}
use Rattle.wi_trees.proofs.BranchLaws.{child_down, child_up}
use Rattle.wi_accept.specs.Trees.{link_of, branched}
use Rattle.wi_accept.proofs.ListLemmas.{both_or_not}

-- what matches matches within a branch too, and the other way round
pub matches_within : (problem : Problem) (branch : Bounds) (run : Run) → Matches problem.net (asks problem) run → Matches problem.net (asks (within problem branch)) run
matches_within problem branch run m = record { first = m.first; path = m.path; last = m.last; end = m.end }

pub matches_whole : (problem : Problem) (branch : Bounds) (run : Run) → Matches problem.net (asks (within problem branch)) run → Matches problem.net (asks problem) run
matches_whole problem branch run m = record { first = m.first; path = m.path; last = m.last; end = m.end }

-- within a branch a problem is one
pub problem_within : (problem : Problem) (branch : Bounds) → IsProblem problem → IsBranch problem.net problem.bounds branch → IsProblem (within problem branch)
problem_within problem branch k b = record { network = k.network; automata = k.automata; any_last = k.any_last; bounds_of = b.bounds }

-- what is so at each place is so of all, and the other way round
pub all_from_get : {A : Type 0} (P : A → Type 0) (xs : List A) → ((i : ℕ) (x : A) → slice_get xs i ≡ Some x → P x) → All P xs
all_from_get P [] h = All-nil P
all_from_get P (x ∷ xs) h = All-cons P x xs (h zero x refl) (all_from_get P xs (λ i y e. h (suc i) y e))

pub get_from_all : {A : Type 0} (P : A → Type 0) (xs : List A) (i : ℕ) (x : A) → All P xs → slice_get xs i ≡ Some x → P x
get_from_all P [] i x h e = absurd (cc)
get_from_all P (y ∷ xs) zero x h e = let same : y ≡ x = cc in subst P same (All-head P y xs h)
get_from_all P (y ∷ xs) (suc i) x h e = get_from_all P xs i x (All-tail P y xs h) e

true_or_not : (b : Bool) → (b ≡ true) ⊎ (b ≡ true → ⊥)
true_or_not true = inl refl
true_or_not false = inr (λ h. cc)

false_or_not : (b : Bool) → (b ≡ false) ⊎ (b ≡ false → ⊥)
false_or_not false = inl refl
false_or_not true = inr (λ h. cc)

some_left : (k : ℕ) → (0 < k) ⊎ (0 < k → ⊥)
some_left zero = inr (λ h. omega (arith, h))
some_left (suc k) = inl (omega arith)

-- whether a branch can be split by a link can be told
pub split_or_not : (net : Net) (branch : Bounds) (e : LinkId) → CanSplit net branch e ⊎ (CanSplit net branch e → ⊥)
split_or_not net branch e =
    elim (both_or_not (true_or_not (is_link net e)) (both_or_not (false_or_not (has branch.down e)) (both_or_not (false_or_not (has branch.up e)) (some_left branch.k)))) [
      | inl h ↦ inl (record { known = h.0; down = h.1.0; up = h.1.1.0; room = h.1.1.1 })
      | inr n ↦ inr (λ s. n (s.known, (s.down, (s.up, s.room))))
    ]

-- ---- how many trees are to come
-- after a split one more, and after a leaf one less
pub after_split : (n e : ℕ) (nodes : List Node) → makes_trees (suc n) (node.Split e ∷ nodes) ≡ true → makes_trees (suc (suc n)) nodes ≡ true
after_split n e nodes h =
    let more : suc n + 1 ≡ suc (suc n) = omega arith in
    subst (λ m. makes_trees m nodes ≡ true) more (and_parts (nat_lt 0 (suc n)) (makes_trees (suc n + 1) nodes) h).1

pub after_leaf : (n : ℕ) (c : Closed) (nodes : List Node) → makes_trees (suc n) (node.Closed c ∷ nodes) ≡ true → makes_trees n nodes ≡ true
after_leaf n c nodes h =
    let less : suc n - 1 ≡ n = omega arith in
    subst (λ m. makes_trees m nodes ≡ true) less (and_parts (nat_lt 0 (suc n)) (makes_trees (suc n - 1) nodes) h).1

pub before_split : (n e : ℕ) (nodes : List Node) → makes_trees (suc (suc n)) nodes ≡ true → makes_trees (suc n) (node.Split e ∷ nodes) ≡ true
before_split n e nodes h =
    let more : suc (suc n) ≡ suc n + 1 = omega arith in
    and_from (nat_lt 0 (suc n)) (makes_trees (suc n + 1) nodes) (lt-ltb 0 (suc n) (omega arith)) (subst (λ m. makes_trees m nodes ≡ true) more h)

pub before_leaf : (n : ℕ) (c : Closed) (nodes : List Node) → makes_trees n nodes ≡ true → makes_trees (suc n) (node.Closed c ∷ nodes) ≡ true
before_leaf n c nodes h =
    let less : n ≡ suc n - 1 = omega arith in
    and_from (nat_lt 0 (suc n)) (makes_trees (suc n - 1) nodes) (lt-ltb 0 (suc n) (omega arith)) (subst (λ m. makes_trees m nodes ≡ true) less h)

-- where none is to come there is no node, and where there is no node none is to come
pub none_due : (x : Node) (nodes : List Node) → makes_trees 0 (x ∷ nodes) ≡ true → ⊥
none_due (node.Split e) nodes h = let less = ltb-true 0 0 (and_parts (nat_lt 0 0) (makes_trees (0 + 1) nodes) h).0 in omega (arith, less)
none_due (node.Closed c) nodes h = let less = ltb-true 0 0 (and_parts (nat_lt 0 0) (makes_trees (0 - 1) nodes) h).0 in omega (arith, less)

pub some_due : (n : ℕ) → makes_trees (suc n) [] ≡ true → ⊥
some_due n h = let none = eqb-true (suc n) 0 h in omega (arith, none)

-- a leaf, or the link of a split
abbrev pub split_in : Node → Option LinkId
split_in (node.Split e) = Some (link_of e)
split_in (node.Closed c) = None

-- what is so of every leaf is so of those with their branches
pub leaves_branched : (net : Net) (s : Shown) (nodes : List Node) (left : List Bounds) → All (IsLeafOf s) nodes → All (λ (x : Bounds × Node). IsLeafOf s x.1) (branched net left nodes)
leaves_branched net s [] left h = All-nil (λ (x : Bounds × Node). IsLeafOf s x.1)
leaves_branched net s (n ∷ nodes) [] h = All-nil (λ (x : Bounds × Node). IsLeafOf s x.1)
leaves_branched net s (node.Split e ∷ nodes) (branch ∷ left) h =
    All-cons (λ (x : Bounds × Node). IsLeafOf s x.1) (branch, node.Split e) (branched net (with_down net branch (link_of e) ∷ with_up net branch (link_of e) ∷ left) nodes) tt
    (leaves_branched net s nodes (with_down net branch (link_of e) ∷ with_up net branch (link_of e) ∷ left) (All-tail (IsLeafOf s) (node.Split e) nodes h))
leaves_branched net s (node.Closed c ∷ nodes) (branch ∷ left) h =
    All-cons (λ (x : Bounds × Node). IsLeafOf s x.1) (branch, node.Closed c) (branched net left nodes) (All-head (IsLeafOf s) (node.Closed c) nodes h)
    (leaves_branched net s nodes left (All-tail (IsLeafOf s) (node.Closed c) nodes h))

module _ (net : Net) (whole : Bounds) (k : IsNetwork net) (AtLeaf : Bounds → Closed → Type 0) where
  -- at a node: a split is one, and of a leaf something is so
  abbrev pub IsAt : Bounds × Node → Type 0
  IsAt x = At x.0 x.1
    where
      At : Bounds → Node → Type 0
      At branch (node.Split e) = CanSplit net branch (link_of e)
      At branch (node.Closed c) = AtLeaf branch c

  abbrev IsPart : Bounds → Type 0
  IsPart branch = IsBranch net whole branch

  abbrev IsPartAt : Bounds × Node → Type 0
  IsPartAt x = IsBranch net whole x.0

  children : (branch : Bounds) (e : ℕ) (left : List Bounds) → All IsPart (branch ∷ left) → CanSplit net branch (link_of e) → All IsPart (with_down net branch (link_of e) ∷ with_up net branch (link_of e) ∷ left)
  children branch e left b s =
      let this = All-head IsPart branch left b in
      let rest = All-cons IsPart (with_up net branch (link_of e)) left (child_up net whole branch (link_of e) this s) (All-tail IsPart branch left b) in
      All-cons IsPart (with_down net branch (link_of e)) (with_up net branch (link_of e) ∷ left) (child_down net whole branch (link_of e) this s k) rest

  -- so each node's branch is one of the whole
  pub parts : (nodes : List Node) (left : List Bounds) → All IsPart left → All IsAt (branched net left nodes) → All IsPartAt (branched net left nodes)
  parts [] left b h = All-nil IsPartAt
  parts (n ∷ nodes) [] b h = All-nil IsPartAt
  parts (node.Split e ∷ nodes) (branch ∷ left) b h =
      let next : List Bounds = with_down net branch (link_of e) ∷ with_up net branch (link_of e) ∷ left in
      All-cons IsPartAt (branch, node.Split e) (branched net next nodes) (All-head IsPart branch left b)
      (parts nodes next (children branch e left b (All-head IsAt (branch, node.Split e) (branched net next nodes) h)) (All-tail IsAt (branch, node.Split e) (branched net next nodes) h))
  parts (node.Closed c ∷ nodes) (branch ∷ left) b h =
      All-cons IsPartAt (branch, node.Closed c) (branched net left nodes) (All-head IsPart branch left b)
      (parts nodes left (All-tail IsPart branch left b) (All-tail IsAt (branch, node.Closed c) (branched net left nodes) h))

  -- and they are the nodes of trees, at whose leaves is what follows
  pub are_nodes : (Then : Bounds → Type 0) → ((branch : Bounds) (c : Closed) → IsBranch net whole branch → AtLeaf branch c → Then branch)
      → (nodes : List Node) (left : List Bounds) → makes_trees (length left) nodes ≡ true → All IsPart left → All IsAt (branched net left nodes) → AreNodes Then net (map split_in nodes) left
  are_nodes Then each [] [] m b h = tt
  are_nodes Then each [] (branch ∷ left) m b h = absurd (some_due (length left) m)
  are_nodes Then each (n ∷ nodes) [] m b h = absurd (none_due n nodes m)
  are_nodes Then each (node.Split e ∷ nodes) (branch ∷ left) m b h =
      let next : List Bounds = with_down net branch (link_of e) ∷ with_up net branch (link_of e) ∷ left in
      let can = All-head IsAt (branch, node.Split e) (branched net next nodes) h in
      (can, are_nodes Then each nodes next (after_split (length left) e nodes m) (children branch e left b can) (All-tail IsAt (branch, node.Split e) (branched net next nodes) h))
  are_nodes Then each (node.Closed c ∷ nodes) (branch ∷ left) m b h = (
    each branch c (All-head IsPart branch left b) (All-head IsAt (branch, node.Closed c) (branched net left nodes) h),
    are_nodes Then each nodes left (after_leaf (length left) c nodes m) (All-tail IsPart branch left b) (All-tail IsAt (branch, node.Closed c) (branched net left nodes) h),
  )
