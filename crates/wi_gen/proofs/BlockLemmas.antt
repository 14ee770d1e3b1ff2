-- The rows of a ring, block after block: no two have one link and one label, and there are few.
use Rattle.std.proofs.Common.{◌≡◌, ℕ, zero, suc, ◌+◌, ◌-◌, ◌*◌, ◌<◌, ◌≤◌, Bool, true, false, ◌&&◌, nat_eq, nat_lt, nat_le, List, [], ◌∷◌, ◌++◌, length, map, position, refl, ◌∙◌, arith, length-append}
use Rattle.std.specs.Prelude.{is_none}
use Rattle.std.specs.List.{list_any, list_all, flat_map, range_with_len}
use Rattle.std.proofs.lemmas.Bool.{and_parts, and_from, and_left, and_right, or_from, ne_eqb, lt-ltb, le-leb}
use Rattle.std.proofs.lemmas.Bool.Decides.{nat_tests}
use Rattle.std.proofs.lemmas.List.Folds.{list_any-append, list_all-append}
use Rattle.wi_net.specs.declared.parts.TableRow.{TableRow}
use Rattle.wi_net.specs.Tables.{is_row, are_rows_apart, group_members, row_members}
use Rattle.wi_net.proofs.FindingLemmas.{none_any}
use Rattle.wi_net.proofs.GroupLemmas.{all_weaken}
use Rattle.wi_net.proofs.KeptLists.{nothing_is, is_nothing, none_from, none_by}
use Rattle.wi_gen.specs.Ring.{Ring, rows_of, first_row, middle_rows, last_rows, bypass_row, bypass_rows, forward, backward, back}
use Rattle.wi_gen.specs.private.Ring.{IsRing}
use Rattle.wi_gen.specs.private.Rows.{middle_row, last_row}
use Rattle.wi_gen.proofs.RangeLemmas.{none_in_range}
use Rattle.wi_gen.proofs.TurnLemmas.{back_apart}
use Rattle.wi_gen.proofs.RowLemmas.{AreFew, members-append}

-- a row's label is one of some in turn
abbrev pub has_label : ℕ → ℕ → TableRow → Bool
has_label low high row = nat_le low row.label.0 && nat_lt row.label.0 high

-- rows of such labels, so many at most
pub record IsBlock (low high most : ℕ) (rows : List TableRow) : Type 0 where
  pub apart : are_rows_apart rows ≡ true
  pub labels : list_all (has_label low high) rows ≡ true
  pub count : length rows ≤ most
  pub members : row_members rows ≤ 2 * length rows

labelled : (low high : ℕ) (row : TableRow) → low ≤ row.label.0 → row.label.0 < high → has_label low high row ≡ true
labelled low high row least most = and_from (nat_le low row.label.0) (nat_lt row.label.0 high) (le-leb low row.label.0 least) (lt-ltb row.label.0 high most)

label_is : (low high : ℕ) (row : TableRow) → has_label low high row ≡ true → (low ≤ row.label.0) × (row.label.0 < high)
label_is low high row h =
    let parts = and_parts (nat_le low row.label.0) (nat_lt row.label.0 high) h in
    (grind (arith, nat_tests, parts.0), grind (arith, nat_tests, parts.1))

-- ---- two blocks
rows_apart-append : (p q : TableRow → Bool) (xs ys : List TableRow) → ((x y : TableRow) → p x ≡ true → q y ≡ true → is_row x.link x.label y ≡ false)
    → list_all p xs ≡ true → list_all q ys ≡ true → are_rows_apart xs ≡ true → are_rows_apart ys ≡ true → are_rows_apart (xs ++ ys) ≡ true
rows_apart-append p q [] ys cross all_p all_q first second = second
rows_apart-append p q (x ∷ xs) ys cross all_p all_q first second =
    let test : TableRow → Bool = is_row x.link x.label in
    let passed = and_parts (p x) (list_all p xs) all_p in
    let parts = and_parts (is_none (position test xs)) (are_rows_apart xs) first in
    let here : list_any test xs ≡ false = none_any test xs (nothing_is (position test xs) parts.0) in
    let there : list_any test ys ≡ false = none_any test ys (none_by test q ys (λ y h. cross x y passed.0 h) all_q) in
    let none : list_any test (xs ++ ys) ≡ false = list_any-append test xs ys ∙ or_from (list_any test xs) (list_any test ys) here there in
    and_from (is_none (position test (xs ++ ys))) (are_rows_apart (xs ++ ys)) (is_nothing (position test (xs ++ ys)) (none_from test (xs ++ ys) none))
    (rows_apart-append p q xs ys cross passed.1 all_q parts.1 second)

-- the labels of one aren't those of the other
join_blocks : (a b c d low high m n most : ℕ) (xs ys : List TableRow) → IsBlock a b m xs → IsBlock c d n ys
    → ((l : ℕ) → a ≤ l → l < b → c ≤ l → l < d → ⊥)
    → low ≤ a → b ≤ high → low ≤ c → d ≤ high → m + n ≤ most → IsBlock low high most (xs ++ ys)
join_blocks a b c d low high m n most xs ys first second far low_a high_b low_c high_d few = record {
  apart = rows_apart-append (has_label a b) (has_label c d) xs ys cross first.labels second.labels first.apart second.apart;
  labels = list_all-append (has_label low high) xs ys ∙ and_from (list_all (has_label low high) xs) (list_all (has_label low high) ys)
      (all_weaken (has_label a b) (has_label low high) xs wide first.labels)
      (all_weaken (has_label c d) (has_label low high) ys wide_too second.labels);
  count = omega (arith, first.count, second.count, length-append xs ys);
  members = omega (arith, first.members, second.members, length-append xs ys, members-append xs ys);
}
  where
    cross : (x y : TableRow) → has_label a b x ≡ true → has_label c d y ≡ true → is_row x.link x.label y ≡ false
    cross x y one other =
        let here = label_is a b x one in
        let there = label_is c d y other in
        and_right (nat_eq x.link.0 y.link.0) (nat_eq x.label.0 y.label.0)
        (ne_eqb x.label.0 y.label.0 (λ e. far x.label.0 here.0 here.1 (omega (arith, there.0, e)) (omega (arith, there.1, e))))

    wide : (x : TableRow) → has_label a b x ≡ true → has_label low high x ≡ true
    wide x h = let here = label_is a b x h in labelled low high x (omega (arith, here.0)) (omega (arith, here.1))

    wide_too : (x : TableRow) → has_label c d x ≡ true → has_label low high x ≡ true
    wide_too x h = let here = label_is c d x h in labelled low high x (omega (arith, here.0)) (omega (arith, here.1))

-- ---- blocks in turn, each of one label, the next after that of the one before
blocks_in_turn : (f : ℕ → List TableRow) (base most at n : ℕ) → ((i : ℕ) → at ≤ i → i < at + n → IsBlock (base + i) (base + i + 1) most (f i))
    → IsBlock (base + at) (base + at + n) (n * most) (flat_map f (range_with_len at n))
blocks_in_turn f base most at zero each = record { apart = refl; labels = refl; count = omega arith; members = omega arith }
blocks_in_turn f base most at (suc n) each =
    join_blocks (base + at) (base + at + 1) (base + (at + 1)) (base + (at + 1) + n) (base + at) (base + at + suc n) most (n * most) (suc n * most)
    (f at) (flat_map f (range_with_len (at + 1) n))
    (each at (omega arith) (omega arith))
    (blocks_in_turn f base most (at + 1) n (λ i low high. each i (omega arith) (omega arith)))
    (λ l a b c d. absurd (omega arith))
    (omega arith) (omega arith) (omega arith) (omega arith) (omega arith)

-- ---- the rows of one block
-- rows of links apart
rows_in_range : (f : ℕ → TableRow) (low high at n : ℕ) → ((i : ℕ) → has_label low high (f i) ≡ true)
    → ((i j : ℕ) → at ≤ i → i < j → j < at + n → (f i).link.0 ≡ (f j).link.0 → ⊥) → ((i : ℕ) → group_members (f i).groups ≤ 2)
    → IsBlock low high n (map f (range_with_len at n))
rows_in_range f low high at zero labels links small = record { apart = refl; labels = refl; count = omega arith; members = omega arith }
rows_in_range f low high at (suc n) labels links small =
    let rest = rows_in_range f low high (at + 1) n labels (λ i j from next to. links i j (omega arith) next (omega arith)) small in
    let test : TableRow → Bool = is_row (f at).link (f at).label in
    let none : list_any test (map f (range_with_len (at + 1) n)) ≡ false =
    none_in_range test f (at + 1) n
    (λ j from to. and_left (nat_eq (f at).link.0 (f j).link.0) (nat_eq (f at).label.0 (f j).label.0)
    (ne_eqb (f at).link.0 (f j).link.0 (links at j (omega arith) (omega arith) (omega arith)))) in
    let alone : is_none (position test (map f (range_with_len (at + 1) n))) ≡ true = is_nothing _ (none_from test (map f (range_with_len (at + 1) n)) none) in
    record {
      apart = and_from (is_none (position test (map f (range_with_len (at + 1) n)))) (are_rows_apart (map f (range_with_len (at + 1) n))) alone rest.apart;
      labels = and_from (has_label low high (f at)) (list_all (has_label low high) (map f (range_with_len (at + 1) n))) (labels at) rest.labels;
      count = omega (arith, rest.count);
      members = omega (arith, rest.members, small at);
    }

-- two rows
two_rows : (a b : TableRow) (low high : ℕ) → has_label low high a ≡ true → has_label low high b ≡ true → (a.link.0 ≡ b.link.0 → ⊥)
    → group_members a.groups ≤ 2 → group_members b.groups ≤ 2 → IsBlock low high 2 (a ∷ b ∷ [])
two_rows a b low high one other links few few_too =
    let test : TableRow → Bool = is_row a.link a.label in
    let other_link : test b ≡ false = and_left (nat_eq a.link.0 b.link.0) (nat_eq a.label.0 b.label.0) (ne_eqb a.link.0 b.link.0 links) in
    let none : list_any test (b ∷ []) ≡ false = or_from (test b) false other_link refl in
    record {
      apart = and_from (is_none (position test (b ∷ []))) true (is_nothing (position test (b ∷ [])) (none_from test (b ∷ []) none)) refl;
      labels = and_from (has_label low high a) (has_label low high b && true) one (and_from (has_label low high b) true other refl);
      count = omega arith;
      members = omega (arith, few, few_too);
    }

-- ---- the blocks of a ring
first_block : (ring : Ring) → IsBlock (2 * ring.path) (2 * ring.path + 1) 1 (first_row ring ∷ [])
first_block ring = record {
  apart = refl;
  labels = and_from (has_label (2 * ring.path) (2 * ring.path + 1) (first_row ring)) true (labelled (2 * ring.path) (2 * ring.path + 1) (first_row ring) (omega arith) (omega arith)) refl;
  count = omega arith;
  members = omega arith;
}

middle_block : (ring : Ring) (i : ℕ) → IsRing ring → 1 ≤ i → IsBlock (ring.path - 1 + i) (ring.path - 1 + i + 1) 2 (middle_rows ring i)
middle_block ring i bounds first =
    two_rows (middle_row ring i (forward ring (i - 1))) (middle_row ring i (backward ring i)) (ring.path - 1 + i) (ring.path - 1 + i + 1)
    (labelled _ _ (middle_row ring i (forward ring (i - 1))) (omega (arith, bounds.some)) (omega (arith, bounds.some)))
    (labelled _ _ (middle_row ring i (backward ring i)) (omega (arith, bounds.some)) (omega (arith, bounds.some)))
    (λ e. absurd (omega (arith, bounds.within, e))) (omega arith) (omega arith)

last_block : (ring : Ring) → IsRing ring → IsBlock (2 * ring.path - 1) (2 * ring.path) 2 (last_rows ring)
last_block ring bounds =
    two_rows (last_row ring (forward ring (ring.path - 1))) (last_row ring (backward ring ring.path)) (2 * ring.path - 1) (2 * ring.path)
    (labelled _ _ (last_row ring (forward ring (ring.path - 1))) (omega (arith, bounds.some)) (omega (arith, bounds.some)))
    (labelled _ _ (last_row ring (backward ring ring.path)) (omega (arith, bounds.some)) (omega (arith, bounds.some)))
    (λ e. absurd (omega (arith, bounds.within, e))) (omega arith) (omega arith)

bypass_block : (ring : Ring) (i : ℕ) → IsRing ring → i < ring.path → IsBlock (0 + i) (0 + i + 1) 1998 (bypass_rows ring i)
bypass_block ring i bounds within =
    let block = rows_in_range (bypass_row ring i) (0 + i) (0 + i + 1) 1 (ring.size - 2) (λ d. labelled _ _ (bypass_row ring i d) (omega arith) (omega arith)) apart (λ d. omega arith) in
    record { apart = block.apart; labels = block.labels; count = omega (arith, block.count, bounds.few); members = block.members }
  where
    apart : (d e : ℕ) → 1 ≤ d → d < e → e < 1 + (ring.size - 2) → (bypass_row ring i d).link.0 ≡ (bypass_row ring i e).link.0 → ⊥
    apart d e from next to same =
        absurd (omega (arith, next, back_apart i d e ring.size (omega (arith, bounds.within)) (omega arith) (omega arith) (let places : back ring i d ≡ back ring i e = omega (arith, same) in places)))

-- all of them
pub rows_are_few : (ring : Ring) → IsRing ring → AreFew (rows_of ring)
rows_are_few ring bounds = record { apart = all.apart; count = omega (arith, all.count); members = omega (arith, all.count, all.members) }
  where
    middle : IsBlock (ring.path - 1 + 1) (ring.path - 1 + 1 + (ring.path - 1)) ((ring.path - 1) * 2) (flat_map (middle_rows ring) (range_with_len 1 (ring.path - 1)))
    middle = blocks_in_turn (middle_rows ring) (ring.path - 1) 2 1 (ring.path - 1) (λ i low high. middle_block ring i bounds low)

    along : IsBlock ring.path (2 * ring.path) 126 (flat_map (middle_rows ring) (range_with_len 1 (ring.path - 1)) ++ last_rows ring)
    along =
        join_blocks (ring.path - 1 + 1) (ring.path - 1 + 1 + (ring.path - 1)) (2 * ring.path - 1) (2 * ring.path) ring.path (2 * ring.path)
        ((ring.path - 1) * 2) 2 126 _ _
        middle (last_block ring bounds) (λ l a b c d. absurd (omega (arith, bounds.some)))
        (omega (arith, bounds.some)) (omega (arith, bounds.some)) (omega (arith, bounds.some)) (omega (arith, bounds.some))
        (omega (arith, bounds.short))

    aside : IsBlock (0 + 0) (0 + 0 + ring.path) (ring.path * 1998) (flat_map (bypass_rows ring) (range_with_len 0 ring.path))
    aside = blocks_in_turn (bypass_rows ring) 0 1998 0 ring.path (λ i low high. bypass_block ring i bounds (omega arith))

    both : IsBlock 0 (2 * ring.path) 126000 (flat_map (middle_rows ring) (range_with_len 1 (ring.path - 1)) ++ last_rows ring ++ flat_map (bypass_rows ring) (range_with_len 0 ring.path))
    both =
        join_blocks ring.path (2 * ring.path) (0 + 0) (0 + 0 + ring.path) 0 (2 * ring.path) 126 (ring.path * 1998) 126000 _ _
        along aside (λ l a b c d. absurd (omega arith)) (omega arith) (omega arith) (omega arith) (omega arith) (omega (arith, bounds.short))

    all : IsBlock 0 (2 * ring.path + 1) 126001 (rows_of ring)
    all =
        join_blocks (2 * ring.path) (2 * ring.path + 1) 0 (2 * ring.path) 0 (2 * ring.path + 1) 1 126000 126001 (first_row ring ∷ []) _
        (first_block ring) both (λ l a b c d. absurd (omega arith)) (omega arith) (omega arith) (omega arith) (omega arith) (omega arith)
