-- How many nodes can make so many trees in a row.
use Rattle.std.specs.Prelude.{◌≡◌, ℕ, zero, suc, ◌+◌, ◌-◌, ◌/◌, ◌%◌, ◌<◌, ◌≤◌, true, false, ◌==◌, List, [], ◌∷◌, ◌++◌, length, nat_lt, nat_le, refl}
use Rattle.std.proofs.Common.{sym, ap, ◌∙◌, arith, length-append}
use Rattle.std.proofs.lemmas.Bool.Decides.{nat_tests}
use Rattle.wi_cert.specs.declared.tree.Node.{Node}
use Rattle.wi_cert.specs.declared.tree.Node.TheVariants as kinds
use Rattle.wi_cert.specs.Closed.{blank_closed}
use Rattle.wi_cert.specs.Trees.{can_make, makes_trees}
use Rattle.wi_cert.proofs.Cases.{by_test, both}

-- what it says where a tree is due
due_is : (nodes trees : ℕ) → 0 < trees → can_make nodes trees ≡ true → (trees ≤ nodes) × ((nodes - trees) % 2 ≡ 0)
due_is nodes trees some h =
    let e : (trees == 0) ≡ false = grind (arith, nat_tests) in
    let r = both (nat_le trees nodes) ((nodes - trees) % 2 == 0) (rw e at h) in
    let fit : trees ≤ nodes = grind (arith, nat_tests, r.0) in
    let even : (nodes - trees) % 2 ≡ 0 = grind (arith, nat_tests, r.1) in
    (fit, even)

due_of : (nodes trees : ℕ) → 0 < trees → trees ≤ nodes → (nodes - trees) % 2 ≡ 0 → can_make nodes trees ≡ true
due_of nodes trees some fit even =
    let e : (trees == 0) ≡ false = grind (arith, nat_tests) in
    let a : nat_le trees nodes ≡ true = grind (arith, nat_tests) in
    let b : ((nodes - trees) % 2 == 0) ≡ true = grind (arith, nat_tests, even) in
    rw (e, a, b) refl

none_due : (nodes trees : ℕ) → trees ≡ 0 → can_make nodes trees ≡ true → nodes ≡ 0
none_due nodes trees none h =
    let e : (trees == 0) ≡ true = grind (arith, nat_tests) in
    let r : (nodes == 0) ≡ true = rw e at h in
    grind (arith, nat_tests, r)

pub nothing_due : (nodes trees : ℕ) → nodes ≡ 0 → can_make nodes trees ≡ true → trees ≡ 0
nothing_due nodes trees none h = by_test (trees == 0)
    (λ (e : (trees == 0) ≡ true). grind (arith, nat_tests, e))
    (λ (e : (trees == 0) ≡ false). let some : 0 < trees = grind (arith, nat_tests, e) in let r = due_is nodes trees some h in absurd (omega (arith, some, r.0, none)))

-- where a node is to come, so is a tree
pub some_due : (nodes trees : ℕ) → 0 < nodes → can_make nodes trees ≡ true → 0 < trees
some_due nodes trees some h = by_test (trees == 0)
    (λ (e : (trees == 0) ≡ true). let none : trees ≡ 0 = grind (arith, nat_tests, e) in absurd (omega (arith, some, none_due nodes trees none h)))
    (λ (e : (trees == 0) ≡ false). grind (arith, nat_tests, e))

-- what makes trees can make them
pub can_when : (nodes : List Node) (trees : ℕ) → makes_trees trees nodes ≡ true → can_make (length nodes) trees ≡ true
can_when [] trees h = rw h refl
can_when (kinds.Split link ∷ rest) trees h =
    let r = both (nat_lt 0 trees) (makes_trees (trees + 1) rest) h in
    let some : 0 < trees = grind (arith, nat_tests, r.0) in
    let k = due_is (length rest) (trees + 1) (omega arith) (can_when rest (trees + 1) r.1) in
    due_of (length (kinds.Split link ∷ rest)) trees some (omega (arith, k.0)) (omega (arith, k.0, k.1))
can_when (kinds.Closed leaf ∷ rest) trees h =
    let r = both (nat_lt 0 trees) (makes_trees (trees - 1) rest) h in
    let some : 0 < trees = grind (arith, nat_tests, r.0) in
    let can = can_when rest (trees - 1) r.1 in
    by_test (trees - 1 == 0)
    (λ (e : (trees - 1 == 0) ≡ true).
    let none : trees - 1 ≡ 0 = grind (arith, nat_tests, e) in
    let end = none_due (length rest) (trees - 1) none can in
    due_of (length (kinds.Closed leaf ∷ rest)) trees some (omega (arith, none, end)) (omega (arith, none, end)))
    (λ (e : (trees - 1 == 0) ≡ false).
    let more : 0 < trees - 1 = grind (arith, nat_tests, e) in
    let k = due_is (length rest) (trees - 1) more can in
    due_of (length (kinds.Closed leaf ∷ rest)) trees some (omega (arith, k.0, more)) (omega (arith, k.0, k.1, more)))

leaves : ℕ → List Node
leaves zero = []
leaves (suc n) = kinds.Closed blank_closed ∷ leaves n

splits : ℕ → List Node
splits zero = []
splits (suc n) = kinds.Split 0 ∷ splits n

leaves_count : (n : ℕ) → length (leaves n) ≡ n
unfolding leaves
leaves_count zero = refl
leaves_count (suc n) = omega (arith, leaves_count n)

splits_count : (n : ℕ) → length (splits n) ≡ n
unfolding splits
splits_count zero = refl
splits_count (suc n) = omega (arith, splits_count n)

leaves_make : (n : ℕ) → makes_trees n (leaves n) ≡ true
unfolding leaves
leaves_make zero = refl
leaves_make (suc n) =
    let some : nat_lt 0 (suc n) ≡ true = grind (arith, nat_tests) in
    let less : suc n - 1 ≡ n = omega arith in
    rw some (ap (λ k. makes_trees k (leaves n)) less ∙ leaves_make n)

splits_make : (n trees : ℕ) (rest : List Node) → 0 < trees → makes_trees trees (splits n ++ rest) ≡ makes_trees (trees + n) rest
unfolding splits
splits_make zero trees rest h = let same : trees ≡ trees + 0 = omega arith in ap (λ k. makes_trees k rest) same
splits_make (suc n) trees rest h =
    let some : nat_lt 0 trees ≡ true = grind (arith, nat_tests) in
    let more : trees + 1 + n ≡ trees + suc n = omega arith in
    rw some (splits_make n (trees + 1) rest (omega arith) ∙ ap (λ k. makes_trees k rest) more)

-- so many nodes that can make so many trees do so in some shape
pub made_when : (n trees : ℕ) → can_make n trees ≡ true → (nodes : List Node) × (length nodes ≡ n) × (makes_trees trees nodes ≡ true)
made_when n trees h = by_test (trees == 0)
    (λ (e : (trees == 0) ≡ true).
    let none : trees ≡ 0 = grind (arith, nat_tests, e) in
    ([], sym (none_due n trees none h), e))
    (λ (e : (trees == 0) ≡ false).
    let some : 0 < trees = grind (arith, nat_tests, e) in
    let k = due_is n trees some h in
    let count : (n - trees) / 2 + (trees + (n - trees) / 2) ≡ n = omega (arith, k.0, k.1) in (
      splits ((n - trees) / 2) ++ leaves (trees + (n - trees) / 2),
      length-append (splits ((n - trees) / 2)) (leaves (trees + (n - trees) / 2)) ∙ both_counts ((n - trees) / 2) (trees + (n - trees) / 2) ∙ count,
      splits_make ((n - trees) / 2) trees (leaves (trees + (n - trees) / 2)) some ∙ leaves_make (trees + (n - trees) / 2),
    ))
  where
    both_counts : (a b : ℕ) → length (splits a) + length (leaves b) ≡ a + b
    both_counts a b = omega (arith, splits_count a, leaves_count b)
