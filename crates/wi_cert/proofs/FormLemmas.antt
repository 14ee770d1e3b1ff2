-- What a line of the form asked says.
use Rattle.std.specs.Prelude.{◌≡◌, ℕ, ◌+◌, ◌^◌, ◌<◌, Bool, true, false, ◌&&◌, ◌==◌, if◌then◌else◌, List, [], ◌∷◌, ◌++◌, Option, Some, None, length, refl, codes, nat_lt, option_and_then, option_map, MatchBool}
use Rattle.std.specs.List.{list_all}
use Rattle.std.specs.Str.{bytes_eq}
use Rattle.std.specs.Fmt.{decimal}
use Rattle.std.proofs.Common.{sym, ap, ◌∙◌, subst, arith, append-nil}
use Rattle.std.proofs.lemmas.Bool.Decides.{nat_tests}
use Rattle.std.proofs.lemmas.Slice.Eq.{bytes_eq-Decides}
use Rattle.std.specs.Bool.{Decides}
use Rattle.wi_weight.specs.Weights.{EachBelow}
use Rattle.wi_cert.specs.declared.row.Row.{Row}
use Rattle.wi_cert.specs.declared.shown.Claim.{Claim}
use Rattle.wi_cert.specs.declared.shown.Claim.TheVariants.{Yes, No, Inconclusive}
use Rattle.wi_cert.specs.declared.shown.Dropped.{Dropped}
use Rattle.wi_cert.specs.declared.shown.Dropped.TheVariants.{Nowhere, Inactive, Undefined}
use Rattle.wi_cert.specs.declared.shown.Shown.{Shown}
use Rattle.wi_cert.specs.Numbers.{numbers_in, after, printed, one_number, numbers_after, count_after, count_line}
use Rattle.wi_cert.specs.Order.{is_next, pair_below, row_below}
use Rattle.wi_cert.specs.Shown.{is_no, answer_line, pair_line, dropped_line, title_line, MayBeDropped, HasDroppedRanges, step_of, claim_of, dropped_of, titled}
use Rattle.wi_cert.specs.Closed.{row_line, head_of, pair_of, row_of, is_lighter, heads_after, pairs_after, rows_after, IsRow, HasRowRanges}
use Rattle.wi_cert.proofs.Cases.{by_test, both, nothing, some_same, bind_some, map_some, if_some}
use Rattle.wi_cert.proofs.LineLemmas.{after_some}
use Rattle.wi_cert.proofs.NumberLemmas.{numbers_spell}
use Rattle.wi_cert.proofs.MarkLemmas.{next_is}

decided : (b : Bool) (P : Type 0) → Decides b P → b ≡ true → P
decided b P h e = h.0 e

pub same_bytes : (xs ys : List ℕ) → bytes_eq xs ys ≡ true → xs ≡ ys
same_bytes xs ys h = decided (bytes_eq xs ys) (xs ≡ ys) (bytes_eq-Decides xs ys) h

-- numbers after a front
pub after_spells : (front line ns : List ℕ) → numbers_after front line ≡ Some ns → (line ≡ front ++ printed ns) × EachBelow (2 ^ 64) ns × (0 < length ns)
after_spells front line ns h =
    let r = bind_some numbers_in (after front line) ns h in
    let s = numbers_spell r.0 ns r.2 in
    (after_some front line r.0 r.1 ∙ ap (λ x. front ++ x) s.0, s.1, s.2)

one_is : (ns : List ℕ) (n : ℕ) → one_number ns ≡ Some n → ns ≡ n ∷ []
one_is [] n h = nothing n h
one_is (x ∷ []) n h = ap (λ y. y ∷ []) (some_same x n h)
one_is (x ∷ y ∷ ns) n h = nothing n h

pub count_spells : (front line : List ℕ) (n : ℕ) → count_after front line ≡ Some n → (line ≡ count_line front n) × (n < 2 ^ 64)
count_spells front line n h =
    let r = bind_some one_number (numbers_after front line) n h in
    let s = after_spells front line r.0 r.1 in
    let one : r.0 ≡ n ∷ [] = one_is r.0 n r.2 in
    (s.0 ∙ ap (λ x. front ++ printed x) one ∙ ap (λ x. front ++ x) (append-nil (decimal n)), (subst (EachBelow (2 ^ 64)) one s.1).0)

abbrev pub IsStep : ℕ × ℕ → Type 0
IsStep x = (0 < x.0) × (0 < x.1) × (x.0 < 2 ^ 32) × (x.1 < 2 ^ 32)

pub step_is : (ns : List ℕ) (x : ℕ × ℕ) → step_of ns ≡ Some x → (ns ≡ x.0 ∷ x.1 ∷ []) × IsStep x
step_is [] x h = nothing x h
step_is (a ∷ []) x h = nothing x h
step_is (a ∷ b ∷ []) x h =
    let r = if_some (nat_lt 0 a && nat_lt a (2 ^ 32) && nat_lt 0 b && nat_lt b (2 ^ 32)) (a, b) x h in
    let p : 0 < a = grind (arith, nat_tests, r.0) in
    let q : a < 2 ^ 32 = grind (arith, nat_tests, r.0) in
    let s : 0 < b = grind (arith, nat_tests, r.0) in
    let t : b < 2 ^ 32 = grind (arith, nat_tests, r.0) in
    (ap (λ (y : ℕ × ℕ). y.0 ∷ y.1 ∷ []) r.1, subst IsStep r.1 (p, s, q, t))
step_is (a ∷ b ∷ c ∷ ns) x h = nothing x h

pub head_is : (ns : List ℕ) (x : ℕ × ℕ) → head_of ns ≡ Some x → (ns ≡ x.0 ∷ x.1 ∷ []) × (x.1 < 2 ^ 32)
head_is [] x h = nothing x h
head_is (a ∷ []) x h = nothing x h
head_is (a ∷ b ∷ []) x h =
    let r = if_some (nat_lt b (2 ^ 32)) (a, b) x h in
    let t : b < 2 ^ 32 = grind (arith, nat_tests, r.0) in
    (ap (λ (y : ℕ × ℕ). y.0 ∷ y.1 ∷ []) r.1, subst (λ (y : ℕ × ℕ). y.1 < 2 ^ 32) r.1 t)
head_is (a ∷ b ∷ c ∷ ns) x h = nothing x h

pub pair_is : (ns : List ℕ) (x : ℕ × ℕ) → pair_of ns ≡ Some x → (ns ≡ x.0 ∷ x.1 ∷ []) × (x.0 < 2 ^ 32) × (x.1 < 2 ^ 32)
pair_is [] x h = nothing x h
pair_is (a ∷ []) x h = nothing x h
pair_is (a ∷ b ∷ []) x h =
    let r = if_some (nat_lt a (2 ^ 32) && nat_lt b (2 ^ 32)) (a, b) x h in
    let s : a < 2 ^ 32 = grind (arith, nat_tests, r.0) in
    let t : b < 2 ^ 32 = grind (arith, nat_tests, r.0) in
    (ap (λ (y : ℕ × ℕ). y.0 ∷ y.1 ∷ []) r.1, subst (λ (y : ℕ × ℕ). y.0 < 2 ^ 32) r.1 s, subst (λ (y : ℕ × ℕ). y.1 < 2 ^ 32) r.1 t)
pair_is (a ∷ b ∷ c ∷ ns) x h = nothing x h

pub row_is : (terms : ℕ) (ns : List ℕ) (x : Row) → row_of terms ns ≡ Some x → (ns ≡ x.p ∷ x.g ∷ x.q ∷ x.weight) × (x.g < 2 ^ 32) × (length x.weight ≡ terms + 1)
row_is terms [] x h = nothing x h
row_is terms (a ∷ []) x h = nothing x h
row_is terms (a ∷ b ∷ []) x h = nothing x h
row_is terms (a ∷ b ∷ c ∷ w) x h =
    let r = if_some (nat_lt b (2 ^ 32) && length w == terms + 1) (record { p = a; g = b; q = c; weight = w }) x h in
    let s : b < 2 ^ 32 = grind (arith, nat_tests, r.0) in
    let t : length w ≡ terms + 1 = grind (arith, nat_tests, r.0) in
    (ap (λ (y : Row). y.p ∷ y.g ∷ y.q ∷ y.weight) r.1, subst (λ (y : Row). y.g < 2 ^ 32) r.1 s, subst (λ (y : Row). length y.weight ≡ terms + 1) r.1 t)

-- the line of an item that may follow, and the list after it
pub record Adds {A : Type 0} (MayFollow : List A → A → Type 0) (Range : A → Type 0) (line_of : A → List ℕ) (xs : List A) (line : List ℕ) (ys : List A) : Type 0 where
  pub item : A
  pub more : xs ++ item ∷ [] ≡ ys
  pub text : line ≡ line_of item
  pub follows : MayFollow xs item
  pub ranges : Range item

abbrev pub AnyStep : List (ℕ × ℕ) → ℕ × ℕ → Type 0
AnyStep before x = Unit {0}

abbrev pub IsNextPair : List (ℕ × ℕ) → ℕ × ℕ → Type 0
IsNextPair before x = is_next pair_below before x ≡ true

abbrev pub IsHeadRange : ℕ × ℕ → Type 0
IsHeadRange x = (x.0 < 2 ^ 64) × (x.1 < 2 ^ 32)

abbrev pub IsPairRange : ℕ × ℕ → Type 0
IsPairRange x = (x.0 < 2 ^ 32) × (x.1 < 2 ^ 32)

pub step_adds : (xs : List (ℕ × ℕ)) (line : List ℕ) (x : ℕ × ℕ) → option_and_then step_of (numbers_in line) ≡ Some x → Adds AnyStep IsStep pair_line xs line (xs ++ x ∷ [])
step_adds xs line x h =
    let n = bind_some step_of (numbers_in line) x h in
    let s = numbers_spell line n.0 n.1 in
    let i = step_is n.0 x n.2 in
    record { item = x; more = refl; text = s.0 ∙ ap printed i.0; follows = tt; ranges = i.1 }

pub head_adds : (xs ys : List (ℕ × ℕ)) (line : List ℕ) → heads_after xs line ≡ Some ys → Adds IsNextPair IsHeadRange pair_line xs line ys
head_adds xs ys line h =
    let r = next_is (is_next pair_below) xs (option_and_then head_of (numbers_in line)) ys h in
    let n = bind_some head_of (numbers_in line) r.0 r.1 in
    let s = numbers_spell line n.0 n.1 in
    let i = head_is n.0 r.0 n.2 in
    record { item = r.0; more = r.3; text = s.0 ∙ ap printed i.0; follows = r.2; ranges = ((subst (EachBelow (2 ^ 64)) i.0 s.1).0, i.1) }

pub pair_adds : (xs ys : List (ℕ × ℕ)) (line : List ℕ) → pairs_after xs line ≡ Some ys → Adds IsNextPair IsPairRange pair_line xs line ys
pair_adds xs ys line h =
    let r = next_is (is_next pair_below) xs (option_and_then pair_of (numbers_in line)) ys h in
    let n = bind_some pair_of (numbers_in line) r.0 r.1 in
    let s = numbers_spell line n.0 n.1 in
    let i = pair_is n.0 r.0 n.2 in
    record { item = r.0; more = r.3; text = s.0 ∙ ap printed i.0; follows = r.2; ranges = (i.1, i.2) }

pub row_adds : (s : Shown) (xs ys : List Row) (line : List ℕ) → rows_after s xs line ≡ Some ys → Adds (IsRow s) HasRowRanges row_line xs line ys
row_adds s xs ys line h =
    let r = next_is (λ before x. is_next row_below before x && is_lighter s x) xs (option_and_then (λ ns. row_of s.terms ns) (numbers_in line)) ys h in
    let n = bind_some (λ ns. row_of s.terms ns) (numbers_in line) r.0 r.1 in
    let k = numbers_spell line n.0 n.1 in
    let i = row_is s.terms n.0 r.0 n.2 in
    let e = subst (EachBelow (2 ^ 64)) i.0 k.1 in
    let b = both (is_next row_below xs r.0) (is_lighter s r.0) r.2 in
    record { item = r.0; more = r.3; text = k.0 ∙ ap printed i.0; follows = record { weight = i.2; next = b.0; lighter = b.1 }; ranges = (e.0, i.1, e.1.1.0, e.1.1.1) }

pub claim_is : (line : List ℕ) (w : Claim) → claim_of line ≡ Some w → line ≡ answer_line w
claim_is line w h = by_test (bytes_eq line (codes "answer yes"))
    (λ (e : bytes_eq line (codes "answer yes") ≡ true). same_bytes line (codes "answer yes") e ∙ ap answer_line (claim_same Yes w (rw e at h)))
    (λ (e : bytes_eq line (codes "answer yes") ≡ false). by_test (bytes_eq line (codes "answer no"))
    (λ (k : bytes_eq line (codes "answer no") ≡ true). same_bytes line (codes "answer no") k ∙ ap answer_line (claim_same No w (rw (e, k) at h)))
    (λ (k : bytes_eq line (codes "answer no") ≡ false). by_test (bytes_eq line (codes "answer inconclusive"))
    (λ (i : bytes_eq line (codes "answer inconclusive") ≡ true). same_bytes line (codes "answer inconclusive") i ∙ ap answer_line (claim_same Inconclusive w (rw (e, k, i) at h)))
    (λ (i : bytes_eq line (codes "answer inconclusive") ≡ false). nothing w (rw (e, k, i) at h))))
  where
    claim_same : (a b : Claim) → Some a ≡ Some b → a ≡ b
    claim_same a b h = cc

weight_none : (line w : List ℕ) → (if bytes_eq line (codes "weight none") then Some [] else None) ≡ Some w → (line ≡ codes "weight none") × (w ≡ [])
weight_none line w h = let r = if_some (bytes_eq line (codes "weight none")) [] w h in (same_bytes line (codes "weight none") r.0, sym r.1)

weight_some : (terms : ℕ) (line w : List ℕ) → option_and_then (λ ns. if length ns == terms + 1 then Some ns else None) (numbers_after (codes "weight ") line) ≡ Some w → (line ≡ codes "weight " ++ printed w) × (length w ≡ terms + 1) × EachBelow (2 ^ 64) w
weight_some terms line w h =
    let r = bind_some (λ (ns : List ℕ). if length ns == terms + 1 then Some ns else None) (numbers_after (codes "weight ") line) w h in
    let t = if_some (length r.0 == terms + 1) r.0 w r.2 in
    let s = after_spells (codes "weight ") line r.0 r.1 in
    let long : length r.0 ≡ terms + 1 = grind (arith, nat_tests, t.0) in
    (s.0 ∙ ap (λ ns. codes "weight " ++ printed ns) t.1, ap length (sym t.1) ∙ long, subst (EachBelow (2 ^ 64)) t.1 s.1)

pub weight_is : (no : Bool) (terms : ℕ) (line w : List ℕ)
    → (if no then if bytes_eq line (codes "weight none") then Some [] else None else option_and_then (λ ns. if length ns == terms + 1 then Some ns else None) (numbers_after (codes "weight ") line)) ≡ Some w
    → (line ≡ (if no then codes "weight none" else codes "weight " ++ printed w)) × (length w ≡ (if no then 0 else terms + 1)) × EachBelow (2 ^ 64) w
weight_is true terms line w h = let r = weight_none line w h in (r.0, ap length r.1, subst (EachBelow (2 ^ 64)) (sym r.1) tt)
weight_is false terms line w h = weight_some terms line w h

all_short : (ns : List ℕ) → list_all (λ n. nat_lt n (2 ^ 32)) ns ≡ true → EachBelow (2 ^ 32) ns
all_short [] h = tt
all_short (n ∷ ns) h =
    let r = both (nat_lt n (2 ^ 32)) (list_all (λ n. nat_lt n (2 ^ 32)) ns) h in
    let lt : n < 2 ^ 32 = grind (arith, nat_tests, r.0) in
    (lt, all_short ns r.1)

first_some : (line f : List ℕ) → option_and_then (λ ns. if nat_lt 1 (length ns) && list_all (λ n. nat_lt n (2 ^ 32)) ns then Some ns else None) (numbers_after (codes "first ") line) ≡ Some f → (line ≡ codes "first " ++ printed f) × (1 < length f) × EachBelow (2 ^ 32) f
first_some line f h =
    let r = bind_some (λ (ns : List ℕ). if nat_lt 1 (length ns) && list_all (λ n. nat_lt n (2 ^ 32)) ns then Some ns else None) (numbers_after (codes "first ") line) f h in
    let t = if_some (nat_lt 1 (length r.0) && list_all (λ n. nat_lt n (2 ^ 32)) r.0) r.0 f r.2 in
    let s = after_spells (codes "first ") line r.0 r.1 in
    let b = both (nat_lt 1 (length r.0)) (list_all (λ n. nat_lt n (2 ^ 32)) r.0) t.0 in
    let long : 1 < length r.0 = grind (arith, nat_tests, b.0) in
    (s.0 ∙ ap (λ ns. codes "first " ++ printed ns) t.1, subst (λ ns. 1 < length ns) t.1 long, subst (EachBelow (2 ^ 32)) t.1 (all_short r.0 b.1))

pub first_is : (no : Bool) (line f : List ℕ)
    → (if no then if bytes_eq line (codes "first none") then Some [] else None else option_and_then (λ ns. if nat_lt 1 (length ns) && list_all (λ n. nat_lt n (2 ^ 32)) ns then Some ns else None) (numbers_after (codes "first ") line)) ≡ Some f
    → (line ≡ (if no then codes "first none" else codes "first " ++ printed f)) × MatchBool no (f ≡ []) (1 < length f) × EachBelow (2 ^ 32) f
first_is true line f h = let r = if_some (bytes_eq line (codes "first none")) [] f h in (same_bytes line (codes "first none") r.0, sym r.1, subst (EachBelow (2 ^ 32)) r.1 tt)
first_is false line f h = first_some line f h

-- the first line
pub title_is : (front line : List ℕ) (dropped : Option Dropped) → titled front line ≡ Some dropped → line ≡ title_line front dropped
title_is front line dropped h = by_test (bytes_eq line (front ++ codes "1"))
    (λ (e : bytes_eq line (front ++ codes "1") ≡ true). same_bytes line (front ++ codes "1") e ∙ ap (title_line front) (some_same None dropped (rw e at h)))
    (λ (e : bytes_eq line (front ++ codes "1") ≡ false). by_test (bytes_eq line (front ++ codes "2"))
    (λ (k : bytes_eq line (front ++ codes "2") ≡ true). same_bytes line (front ++ codes "2") k ∙ ap (title_line front) (some_same (Some Nowhere) dropped (rw (e, k) at h)))
    (λ (k : bytes_eq line (front ++ codes "2") ≡ false). nothing dropped (rw (e, k) at h)))

-- the line that says how the packet is dropped
abbrev pub SaysDropped : Claim → List ℕ → Dropped → Type 0
SaysDropped claim line d = (line ≡ dropped_line d) × MayBeDropped claim (Some d) × HasDroppedRanges (Some d)

undefined_is : (claim : Claim) (line : List ℕ) (d : Dropped) → is_no claim ≡ false → option_map (λ x. Undefined x.0 x.1) (option_and_then step_of (numbers_after (codes "drop ") line)) ≡ Some d → SaysDropped claim line d
undefined_is claim line d answers h =
    let r = map_some (λ (x : ℕ × ℕ). Undefined x.0 x.1) (option_and_then step_of (numbers_after (codes "drop ") line)) d h in
    let n = bind_some step_of (numbers_after (codes "drop ") line) r.0 r.1 in
    let s = after_spells (codes "drop ") line n.0 n.1 in
    let i = step_is n.0 r.0 n.2 in
    subst (SaysDropped claim line) r.2 (s.0 ∙ ap (λ ns. codes "drop " ++ printed ns) i.0, (answers, i.1.0, i.1.1), (i.1.2, i.1.3))

pub dropped_is : (claim : Claim) (line : List ℕ) (d : Dropped) → dropped_of claim line ≡ Some d → SaysDropped claim line d
dropped_is claim line d h = by_test (is_no claim)
    (λ (no : is_no claim ≡ true).
    let r = if_some (bytes_eq line (codes "drop none")) Nowhere d (rw no at h) in
    subst (SaysDropped claim line) r.1 (same_bytes line (codes "drop none") r.0, no, tt))
    (λ (answers : is_no claim ≡ false). by_test (bytes_eq line (codes "drop inactive"))
    (λ (e : bytes_eq line (codes "drop inactive") ≡ true). subst (SaysDropped claim line) (some_same Inactive d (rw (answers, e) at h)) (same_bytes line (codes "drop inactive") e, answers, tt))
    (λ (e : bytes_eq line (codes "drop inactive") ≡ false). undefined_is claim line d answers (rw (answers, e) at h)))
