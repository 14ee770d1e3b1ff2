-- Two causes of one place in the order are the same, so a certificate has one first refusal.
use Rattle.std.specs.Prelude.{◌≡◌, ℕ, ◌-◌, ◌<◌, List, Option, Some, slice_get, refl}
use Rattle.std.proofs.Common.{sym, ap, ◌∙◌, arith, inl, inr, subst}
use Rattle.std.proofs.lemmas.Bool.{cases_order}
use Rattle.wi_weight.specs.declared.kinds.Pair.{Pair as WeightPair}
use Rattle.wi_weight.specs.declared.kinds.Terms.{Terms}
use Rattle.wi_weight.specs.declared.kinds.Effort.{Effort}
use Rattle.wi_weight.specs.lemmas.Same.{same_effort, same_terms, same_pair}
use Rattle.wi_net.specs.Net.{Net}
use Rattle.wi_world.specs.declared.run.Run.{Run}
use Rattle.wi_world.specs.Holds.{Question}
use Rattle.wi_quantity.specs.Weighing.{components}
use Rattle.wi_trace.specs.declared.cause.Cause.{Cause}
use Rattle.wi_pds.specs.Closed.{Summary}
use Rattle.wi_build.specs.Problems.{Problem, asks, within}
use Rattle.wi_cert.specs.declared.certificate.Certificate.{Certificate}
use Rattle.wi_cert.specs.declared.check_refused.RunPart.{RunPart}
use Rattle.wi_cert.specs.declared.check_refused.RunPart.TheVariants.{First, Path, Last}
use Rattle.wi_cert.specs.declared.check_refused.CheckRefused.{CheckRefused}
use Rattle.wi_cert.specs.declared.check_refused.CheckRefused.TheVariants.{OfAnotherQuestion, TermsDiffer, StepNotInTable, NoMatch, WeightDiffers, WrongAnswer, Unbounded, BadSplit, Leaf, Memory}
use Rattle.wi_cert.specs.declared.check_refused.ClosedRefused.{ClosedRefused}
use Rattle.wi_cert.specs.declared.check_refused.ClosedRefused.TheVariants.{HeadMissing, PairMissing, GoalBelow, NotClosed}
use Rattle.wi_cert.specs.declared.closed.Closed.{Closed}
use Rattle.wi_cert.specs.declared.shown.Shown.{Shown}
use Rattle.wi_cert.specs.declared.tree.Node.{Node}
use Rattle.wi_cert.specs.declared.tree.Node.TheVariants as node
use Rattle.wi_cert.specs.declared.tree.TreeCertificate.{TreeCertificate}
use Rattle.wi_net.specs.declared.bounds.Bounds.{Bounds}
use Rattle.wi_accept.specs.Trees.{branches_of, IsNode, IsTreeCause, IsTreeRefusal}
use Rattle.wi_cert.proofs.Cases.{some_same}
use Rattle.wi_accept.specs.declared.follower.Follower.{Follower}
use Rattle.wi_accept.specs.declared.follower.Follower.TheVariants.{Head, Pair}
use Rattle.wi_accept.specs.Answers.{run_of}
use Rattle.wi_accept.specs.Demands.{row}
use Rattle.wi_accept.specs.Causes.{IsFirstUnmatched, IsShownCause, IsClosedCause, IsCause, IsFirstCause, IsRefusal, bound_of, closed_place, place}

pub same_weight : (v w : WeightPair Terms Effort) → components v ≡ components w → v ≡ w
same_weight v w same = same_pair v w (same_terms v.first w.first cc) (same_effort v.second w.second cc)

one_part : (net : Net) (question : Question) (run : Run) (a b : RunPart) → IsFirstUnmatched net question run a → IsFirstUnmatched net question run b → a ≡ b
one_part net question run First First h k = refl
one_part net question run First Path h k = absurd (h k.0)
one_part net question run First Last h k = absurd (h k.0)
one_part net question run Path First h k = absurd (k h.0)
one_part net question run Path Path h k = refl
one_part net question run Path Last h k = absurd (h.1 k.1)
one_part net question run Last First h k = absurd (k h.0)
one_part net question run Last Path h k = absurd (k.1 h.1)
one_part net question run Last Last h k = refl

one_follower : (o : Option Follower) (m n : Follower) → o ≡ Some m → o ≡ Some n → m ≡ n
one_follower o m n h k = some_same m n (sym h ∙ k)

same_head : (p g x y : ℕ) → Head p g ≡ Head x y → HeadMissing p g ≡ HeadMissing x y
same_head p g x y h = cc

same_symbols : (p g x y : ℕ) → Pair p g ≡ Pair x y → PairMissing p g ≡ PairMissing x y
same_symbols p g x y h = cc

not_both : {G : Type 0} (p g u v : ℕ) → Head p g ≡ Pair u v → G
not_both p g u v h = cc

same_row : (a b : ℕ × ℕ) (t u : ℕ) (v w : WeightPair Terms Effort) → row a.0 a.1 t (components v) ≡ row b.0 b.1 u (components w) → NotClosed a t v ≡ NotClosed b u w
same_row a b t u v w h =
    let p : a.0 ≡ b.0 = ap (λ (r : Summary). r.p) h in
    let g : a.1 ≡ b.1 = ap (λ (r : Summary). r.g) h in
    let q : t ≡ u = ap (λ (r : Summary). r.q) h in
    ap (λ n. NotClosed (n, a.1) t v) p ∙ ap (λ n. NotClosed (b.0, n) t v) g ∙ ap (λ n. NotClosed b n v) q
    ∙ ap (λ n. NotClosed b u n) (same_weight v w (ap (λ (r : Summary). r.weight) h))

-- two causes of one place against heads, pairs and rows
pub same_gap : (problem : Problem) (terms : ℕ) (bound : Option (List ℕ)) (c : Closed) (r s : ClosedRefused) → closed_place r ≡ closed_place s
    → IsClosedCause problem terms bound c r → IsClosedCause problem terms bound c s → r ≡ s
same_gap problem terms bound c (HeadMissing p g) (HeadMissing x y) e h k = same_head p g x y (one_follower _ (Head p g) (Head x y) h k)
same_gap problem terms bound c (HeadMissing p g) (PairMissing x y) e h k = not_both p g x y (one_follower _ (Head p g) (Pair x y) h k)
same_gap problem terms bound c (PairMissing p g) (HeadMissing x y) e h k = not_both x y p g (one_follower _ (Head x y) (Pair p g) k h)
same_gap problem terms bound c (PairMissing p g) (PairMissing x y) e h k = same_symbols p g x y (one_follower _ (Pair p g) (Pair x y) h k)
same_gap problem terms bound c (GoalBelow v) (GoalBelow w) e h k = ap (λ x. GoalBelow x) (same_weight v w (some_same (components v) (components w) (sym h ∙ k)))
same_gap problem terms bound c (NotClosed a t v) (NotClosed b u w) e h k = same_row a b t u v w (some_same (row a.0 a.1 t (components v)) (row b.0 b.1 u (components w)) (sym h ∙ k))
same_gap problem terms bound c r s e h k = absurd (omega (arith, e))

-- two causes of one place against what is shown
pub same_shown : (problem : Problem) (s : Shown) (r t : CheckRefused) → place r ≡ place t → IsShownCause problem s r → IsShownCause problem s t → r ≡ t
same_shown problem s OfAnotherQuestion OfAnotherQuestion e h k = refl
same_shown problem s (TermsDiffer a b) (TermsDiffer x y) e h k = ap (λ n. TermsDiffer n b) (h.0 ∙ sym k.0) ∙ ap (λ n. TermsDiffer x n) (h.1 ∙ sym k.1)
same_shown problem s (StepNotInTable n) (StepNotInTable x) e h k = ap (λ (y : ℕ × Cause). StepNotInTable y.0) (some_same (n, h.1) (x, k.1) (sym h.2 ∙ k.2))
same_shown problem s (NoMatch a) (NoMatch x) e h k = ap (λ y. NoMatch y) (one_part problem.net (asks problem) (run_of problem.net s) a x h.1 k.1)
same_shown problem s (WeightDiffers a b) (WeightDiffers x y) e h k =
    ap (λ n. WeightDiffers n b) (same_weight a x (h.1 ∙ sym k.1)) ∙ ap (λ n. WeightDiffers x n) (same_weight b y (h.2 ∙ sym k.2))
same_shown problem s WrongAnswer WrongAnswer e h k = refl
same_shown problem s (Unbounded r) t e h k = absurd h
same_shown problem s (BadSplit n) t e h k = absurd h
same_shown problem s (Leaf n r) t e h k = absurd h
same_shown problem s Memory t e h k = absurd h
same_shown problem s r (Unbounded t) e h k = absurd k
same_shown problem s r (BadSplit n) e h k = absurd k
same_shown problem s r (Leaf n t) e h k = absurd k
same_shown problem s r Memory e h k = absurd k
same_shown problem s r t e h k = absurd (omega (arith, e))

-- what has one cause for each place has one first cause
pub one_first : (IsOne : CheckRefused → Type 0) → ((r s : CheckRefused) → place r ≡ place s → IsOne r → IsOne s → r ≡ s) → (r s : CheckRefused) → IsFirstCause IsOne r → IsFirstCause IsOne s → r ≡ s
one_first IsOne same r s h k = elim (cases_order (place r) (place s)) [
  | inl e ↦ same r s e h.cause k.cause
  | inr l ↦ absurd (elim l [ inl a ↦ k.first r a h.cause | inr b ↦ h.first s b k.cause ])
]

module _ (problem : Problem) (c : Certificate) where
  same_cause : (r s : CheckRefused) → place r ≡ place s → IsCause problem c r → IsCause problem c s → r ≡ s
  same_cause (Unbounded r) (Unbounded s) e h k = ap (λ x. Unbounded x) (same_gap problem c.shown.terms (bound_of c.shown) c.closed r s (omega (arith, e)) h k)
  same_cause (Unbounded r) OfAnotherQuestion e h k = absurd (omega (arith, e))
  same_cause (Unbounded r) (TermsDiffer x y) e h k = absurd (omega (arith, e))
  same_cause (Unbounded r) (StepNotInTable x) e h k = absurd (omega (arith, e))
  same_cause (Unbounded r) (NoMatch x) e h k = absurd (omega (arith, e))
  same_cause (Unbounded r) (WeightDiffers x y) e h k = absurd (omega (arith, e))
  same_cause (Unbounded r) WrongAnswer e h k = absurd (omega (arith, e))
  same_cause (Unbounded r) (BadSplit n) e h k = absurd k
  same_cause (Unbounded r) (Leaf n x) e h k = absurd k
  same_cause (Unbounded r) Memory e h k = absurd k
  same_cause OfAnotherQuestion (Unbounded s) e h k = absurd (omega (arith, e))
  same_cause (TermsDiffer a b) (Unbounded s) e h k = absurd (omega (arith, e))
  same_cause (StepNotInTable n) (Unbounded s) e h k = absurd (omega (arith, e))
  same_cause (NoMatch a) (Unbounded s) e h k = absurd (omega (arith, e))
  same_cause (WeightDiffers a b) (Unbounded s) e h k = absurd (omega (arith, e))
  same_cause WrongAnswer (Unbounded s) e h k = absurd (omega (arith, e))
  same_cause (BadSplit n) s e h k = absurd h
  same_cause (Leaf n r) s e h k = absurd h
  same_cause Memory s e h k = absurd h
  same_cause r s e h k = same_shown problem c.shown r s e h k

  pub one_refusal : (r s : CheckRefused) → IsRefusal problem c r → IsRefusal problem c s → r ≡ s
  one_refusal r s h k = one_first (IsCause problem c) same_cause r s h k

pub few_places : (r : ClosedRefused) → closed_place r < 3
few_places (HeadMissing p g) = omega arith
few_places (PairMissing u v) = omega arith
few_places (GoalBelow w) = omega arith
few_places (NotClosed head target sum) = omega arith

-- what speaks against what is shown comes before what speaks against nodes
pub shown_first : (problem : Problem) (s : Shown) (r : CheckRefused) → IsShownCause problem s r → place r < 6
shown_first problem s OfAnotherQuestion h = omega arith
shown_first problem s (TermsDiffer a b) h = omega arith
shown_first problem s (StepNotInTable n) h = omega arith
shown_first problem s (NoMatch part) h = omega arith
shown_first problem s (WeightDiffers a b) h = omega arith
shown_first problem s WrongAnswer h = omega arith
shown_first problem s (Unbounded r) h = absurd h
shown_first problem s (BadSplit n) h = absurd h
shown_first problem s (Leaf n r) h = absurd h
shown_first problem s Memory h = absurd h

module _ (problem : Problem) (t : TreeCertificate) where
  -- one place has one node, within one branch
  pub one_node : (n m : ℕ) (a b : Bounds) (x y : Node) → n ≡ m → IsNode problem t n a x → IsNode problem t m b y → ◌≡◌ {A = Bounds × Node} (a, x) (b, y)
  one_node n m a b x y same h k = some_same (a, x) (b, y) (sym h.1 ∙ ap (λ i. slice_get (branches_of problem t) (i - 1)) same ∙ k.1)

  pub not_both_kinds : {G : Type 0} (a b : Bounds) (e : ℕ) (c : Closed) → ◌≡◌ {A = Bounds × Node} (a, node.Split e) (b, node.Closed c) → G
  not_both_kinds a b e c h = absurd (apart e c (ap (λ (x : Bounds × Node). x.1) h))
    where
      apart : (e : ℕ) (c : Closed) → node.Split e ≡ node.Closed c → ⊥
      apart e c same = cc

  pub one_leaf : (c d : Closed) → node.Closed c ≡ node.Closed d → c ≡ d
  one_leaf c d same = cc

  same_leaf : (n m : ℕ) (r s : ClosedRefused) → n ≡ m → closed_place r ≡ closed_place s → IsTreeCause problem t (Leaf n r) → IsTreeCause problem t (Leaf m s) → Leaf n r ≡ Leaf m s
  same_leaf n m r s same place_is h k =
      let node_is = one_node n m h.0 k.0 (node.Closed h.1) (node.Closed k.1) same h.2 k.2 in
      let branch_is : h.0 ≡ k.0 = ap (λ (x : Bounds × Node). x.0) node_is in
      let leaf_is : h.1 ≡ k.1 = one_leaf h.1 k.1 (ap (λ (x : Bounds × Node). x.1) node_is) in
      let P : Bounds → Closed → Type 0 = λ b c. IsClosedCause (within problem b) t.shown.terms (bound_of t.shown) c r in
      let there : P k.0 k.1 = subst (λ b. P b k.1) branch_is (subst (λ c. P h.0 c) leaf_is h.3) in
      ap (λ i. Leaf i r) same ∙ ap (λ x. Leaf m x) (same_gap (within problem k.0) t.shown.terms (bound_of t.shown) k.1 r s place_is there k.3)

  same_tree_cause : (r s : CheckRefused) → place r ≡ place s → IsTreeCause problem t r → IsTreeCause problem t s → r ≡ s
  same_tree_cause (BadSplit n) (BadSplit m) e h k = ap (λ i. BadSplit i) (omega (arith, e))
  same_tree_cause (BadSplit n) (Leaf m s) e h k =
      not_both_kinds h.0 k.0 h.1 k.1 (one_node n m h.0 k.0 (node.Split h.1) (node.Closed k.1) (omega (arith, e, few_places s)) h.2 k.2)
  same_tree_cause (Leaf n r) (BadSplit m) e h k =
      not_both_kinds k.0 h.0 k.1 h.1 (one_node m n k.0 h.0 (node.Split k.1) (node.Closed h.1) (omega (arith, e, few_places r)) k.2 h.2)
  same_tree_cause (Leaf n r) (Leaf m s) e h k = same_leaf n m r s (omega (arith, e, few_places r, few_places s)) (omega (arith, e, few_places r, few_places s)) h k
  same_tree_cause (BadSplit n) s e h k = absurd (omega (arith, e, h.2.0, shown_first problem t.shown s k))
  same_tree_cause (Leaf n r) s e h k = absurd (omega (arith, e, h.2.0, shown_first problem t.shown s k))
  same_tree_cause r (BadSplit n) e h k = absurd (omega (arith, e, k.2.0, shown_first problem t.shown r h))
  same_tree_cause r (Leaf n s) e h k = absurd (omega (arith, e, k.2.0, shown_first problem t.shown r h))
  same_tree_cause r s e h k = same_shown problem t.shown r s e h k

  pub one_tree_refusal : (r s : CheckRefused) → IsTreeRefusal problem t r → IsTreeRefusal problem t s → r ≡ s
  one_tree_refusal r s h k = one_first (IsTreeCause problem t) same_tree_cause r s h k
