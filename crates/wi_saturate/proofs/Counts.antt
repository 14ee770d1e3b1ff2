-- How many candidates a row adds, and how many items a walk meets.
use Rattle.std.specs.Prelude.{◌≡◌, ℕ, zero, suc, ◌+◌, ◌<◌, ◌≤◌, ◌==◌, Bool, true, false, cond, List, [], ◌∷◌, ◌++◌, Some, drop, take, get_or, length, slice_get, refl}
use Rattle.std.specs.List.{sum_by, count_by}
use Rattle.std.proofs.Common.{sym, ap, ◌∙◌, subst, inl, inr, arith, append-nil, append_assoc}
use Rattle.std.proofs.lemmas.List.Sums.{sum_by-cons, sum_by-append, sum_by_push, sum_by_more, sum_by-le-sum_by}
use Rattle.wi_pds.specs.declared.rule.Word2.{Word2}
use Rattle.wi_pds.specs.declared.rule.Word2.TheVariants.{Empty, One, Two}
use Rattle.wi_pds.specs.declared.rule.Rule.{Rule}
use Rattle.wi_saturate.specs.declared.row.Row.{Row}
use Rattle.wi_saturate.specs.declared.rules.Ruled.{Ruled}
use Rattle.wi_saturate.proofs.Elements.{same_item, some_there}
use Rattle.std.proofs.lemmas.Option.{slice_get_within, get_or_from_slice_get}
use Rattle.std.proofs.lemmas.Bool.{eqb-true, cases_eq}
use Rattle.std.proofs.Math.Seq.{take-append_seam}
use borrow.Author.Tests.{eq-eqb}
use Rattle.wi_saturate.specs.declared.waits.Waits.{Waits}
use Rattle.wi_saturate.specs.private.Chains.{ChainsView}
use Rattle.wi_saturate.specs.private.Indexes.{ruled_from, ruled}
use Rattle.wi_saturate.specs.private.Searches.{IsFirst, AreRowPlaces, AreWaits}
use Rattle.wi_saturate.specs.Tries.{is_from, rows_from, ways, candidates}
use Rattle.wi_saturate.specs.private.Tries.{all_ways, pop_ways, one_ways, begun, all_begun, of_head, IsMore}

-- a sum of sums is a sum
pub sum_both : {X : Type 0} (f g : X → ℕ) (xs : List X) → sum_by (λ x. f x + g x) xs ≡ sum_by f xs + sum_by g xs
sum_both f g [] = refl
sum_both f g (x ∷ xs) = omega (arith, sum_by-cons (λ x. f x + g x) x xs, sum_by-cons f x xs, sum_by-cons g x xs, sum_both f g xs)

pub sum_same : {X : Type 0} (f g : X → ℕ) (xs : List X) → ((x : X) → f x ≡ g x) → sum_by f xs ≡ sum_by g xs
sum_same f g [] h = refl
sum_same f g (x ∷ xs) h = omega (arith, sum_by-cons f x xs, sum_by-cons g x xs, h x, sum_same f g xs h)

-- over the rules of all heads in one list
module _ {W : Type 0} (F : Rule W → ℕ) (rules : ℕ → ℕ → List (Rule W)) where
  sum_from : (head at : ℕ) (rs : List (Rule W)) → sum_by (λ (f : Ruled W). F f.rule) (ruled_from head at rs) ≡ sum_by F rs
  sum_from head at [] = refl
  sum_from head at (r ∷ rs) =
      omega (arith, sum_by-cons (λ (f : Ruled W). F f.rule) (record { head = head; at = at; rule = r }) (ruled_from head (suc at) rs), sum_by-cons F r rs, sum_from head (suc at) rs)

  pub sum_ruled : (head : ℕ) (hs : List (ℕ × ℕ)) → sum_by (λ (f : Ruled W). F f.rule) (ruled rules head hs) ≡ sum_by (λ (h : ℕ × ℕ). sum_by F (rules h.0 h.1)) hs
  sum_ruled head [] = refl
  sum_ruled head (h ∷ hs) =
      omega (
        arith,
        sum_by-append (λ (f : Ruled W). F f.rule) (ruled_from head 0 (rules h.0 h.1)) (ruled rules (suc head) hs),
        sum_from head 0 (rules h.0 h.1),
        sum_ruled (suc head) hs,
        sum_by-cons (λ (h : ℕ × ℕ). sum_by F (rules h.0 h.1)) h hs,
      )

-- one for a row of the head, and none for others
abbrev pub just : {W : Type 0} → Row W → ℕ → ℕ → ℕ
just b p g = cond (is_from p g b) 1 0

cond_plus : (t : Bool) (a b : ℕ) → cond t (a + b) 0 ≡ cond t a 0 + cond t b 0
cond_plus true a b = refl
cond_plus false a b = refl

module _ {W : Type 0} (rows : List (Row W)) (b : Row W) where
  -- what a row adds to the ways of a rule
  pub ways_more : (to : ℕ) (word : Word2) → ways (rows ++ b ∷ []) to word ≡ ways rows to word + (all_begun (just b) rows to word + (one_ways b to word + begun (rows_from (rows ++ b ∷ [])) b to word))
  ways_more to Empty = refl
  ways_more to (One u) = sum_by_push (λ r. cond (is_from to u r) 1 0) rows b ∙ omega arith
  ways_more to (Two u v) =
      let whole = λ (r : Row W). cond (is_from to u r) (rows_from (rows ++ b ∷ []) r.q v) 0 in
      let old = λ (r : Row W). cond (is_from to u r) (rows_from rows r.q v) 0 in
      let new = λ (r : Row W). cond (is_from to u r) (just b r.q v) 0 in
      let split : sum_by whole rows ≡ sum_by old rows + sum_by new rows =
      sum_same whole (λ r. old r + new r) rows (λ r. ap (λ n. cond (is_from to u r) n 0) (sum_by_push (λ s. cond (is_from r.q v s) 1 0) rows b) ∙ cond_plus (is_from to u r) (rows_from rows r.q v) (just b r.q v)) ∙ sum_both old new rows in
      let pushed : sum_by whole (rows ++ b ∷ []) ≡ sum_by whole rows + whole b = sum_by_push whole rows b in
      omega (arith, pushed, split)

  pub all_ways_more : (flat : List (Ruled W)) → all_ways (flat) (rows ++ b ∷ [])
      ≡ all_ways flat rows + (sum_by (λ f. all_begun (just b) rows f.rule.to f.rule.word) flat + (sum_by (λ f. one_ways b f.rule.to f.rule.word) flat + sum_by (λ f. begun (rows_from (rows ++ b ∷ [])) b f.rule.to f.rule.word) flat))
  all_ways_more flat =
      let A = λ (f : Ruled W). ways rows f.rule.to f.rule.word in
      let B = λ (f : Ruled W). all_begun (just b) rows f.rule.to f.rule.word in
      let C = λ (f : Ruled W). one_ways b f.rule.to f.rule.word in
      let D = λ (f : Ruled W). begun (rows_from (rows ++ b ∷ [])) b f.rule.to f.rule.word in
      sum_same (λ f. ways (rows ++ b ∷ []) f.rule.to f.rule.word) (λ f. A f + (B f + (C f + D f))) flat (λ f. ways_more f.rule.to f.rule.word)
      ∙ (sum_both A (λ f. B f + (C f + D f)) flat ∙ ap (λ n. sum_by A flat + n) (sum_both B (λ f. C f + D f) flat ∙ ap (λ n. sum_by B flat + n) (sum_both C D flat)))

-- what begins with a row more
pub begun_more : {W : Type 0} (F : ℕ → ℕ → ℕ) (rows : List (Row W)) (b : Row W) (to : ℕ) (word : Word2) → all_begun F (rows ++ b ∷ []) to word ≡ all_begun F rows to word + begun F b to word
begun_more F rows b to Empty = refl
begun_more F rows b to (One u) = refl
begun_more F rows b to (Two u v) = sum_by_push (λ r. cond (is_from to u r) (F r.q v) 0) rows b

-- a sum over a list from an item on is no more than over all of it
pub sum_whole : {X : Type 0} (F : X → ℕ) (xs : List X) (n : ℕ) → sum_by F (drop n xs) ≤ sum_by F xs
sum_whole F [] zero = omega arith
sum_whole F [] (suc n) = omega arith
sum_whole F (x ∷ xs) zero = omega arith
sum_whole F (x ∷ xs) (suc n) = omega (arith, sum_by-cons F x xs, sum_whole F xs n)

-- from an earlier item on it is no less
sum_falls : {X : Type 0} (F : X → ℕ) (xs : List X) (low high : ℕ) → low ≤ high → sum_by F (drop high xs) ≤ sum_by F (drop low xs)
sum_falls F xs zero high h = sum_whole F xs high
sum_falls F xs (suc low) zero h = absurd (omega arith)
sum_falls F [] (suc low) (suc high) h = omega arith
sum_falls F (x ∷ xs) (suc low) (suc high) h = sum_falls F xs low high (omega arith)

pub sum_at : {X : Type 0} (F : X → ℕ) (xs : List X) (i : ℕ) (x : X) → slice_get xs i ≡ Some x → sum_by F (drop i xs) ≡ F x + sum_by F (drop (i + 1) xs)
sum_at F [] i x at = cc
sum_at F (y ∷ xs) zero x at = sum_by-cons F y xs ∙ ap (λ z. F z + sum_by F xs) (let same : y ≡ x = cc in same)
sum_at F (y ∷ xs) (suc i) x at = sum_at F xs i x at ∙ ap (λ n. F x + sum_by F (drop n (y ∷ xs))) (let e : suc (i + 1) ≡ suc i + 1 = omega arith in e)

-- how often the candidate of a rule that takes its symbol off is pushed, at most
pub pop_tries : {W : Type 0} (flat : List (Ruled W)) (k : ℕ) (f g : Ruled W) (n m : ℕ) → slice_get flat k ≡ Some f → slice_get flat k ≡ Some g → f.rule.word ≡ Empty → n ≤ m + 1 → n ≤ m + pop_ways g.rule.word
pop_tries {W} flat k f g n m at there word more =
    subst (λ w. n ≤ m + pop_ways w) (sym word ∙ ap (λ (z : Ruled W). z.rule.word) (same_item flat k f g at there)) more

-- before any row there are the candidates of rules that take their symbol off
pub first_ways : (W : Type 0) (to : ℕ) (word : Word2) → ways {W = W} [] to word ≡ pop_ways word
first_ways W to Empty = refl
first_ways W to (One u) = refl
first_ways W to (Two u v) = refl

pub first_tries : {W : Type 0} (flat : List (Ruled W)) (k : ℕ) (f : Ruled W) (n m i : ℕ) → slice_get flat k ≡ Some f → n ≤ m + all_ways (take k flat) [] → i ≤ n + pop_ways f.rule.word → i ≤ m + all_ways (take (k + 1) flat) []
first_tries {W} flat k f n m i at before more =
    let one : all_ways (take (k + 1) flat) [] ≡ all_ways (take k flat) [] + ways {W = W} [] (get_or flat k f).rule.to (get_or flat k f).rule.word = sum_by_more (λ (f : Ruled W). ways {W = W} [] f.rule.to f.rule.word) flat k f (slice_get_within flat k f at) in
    let same : ways {W = W} [] (get_or flat k f).rule.to (get_or flat k f).rule.word ≡ pop_ways f.rule.word =
    ap (λ (z : Ruled W). ways {W = W} [] z.rule.to z.rule.word) (get_or_from_slice_get flat k f f at) ∙ first_ways W f.rule.to f.rule.word in
    omega (arith, one, same, before, more)

take_past : {X : Type 0} (n : ℕ) (xs : List X) → length xs ≤ n → take n xs ≡ xs
take_past zero [] h = refl
take_past zero (x ∷ xs) h = absurd (omega arith)
take_past (suc n) [] h = refl
take_past (suc n) (x ∷ xs) h = ap (λ ys. x ∷ ys) (take_past n xs (omega arith))

pub all_tries : {W : Type 0} (flat : List (Ruled W)) (k n m : ℕ) → length flat ≤ k → n ≤ m + all_ways (take k flat) [] → n ≤ m + all_ways flat []
all_tries {W} flat k n m past so_far = subst (λ fs. n ≤ m + all_ways {W = W} fs []) (take_past k flat past) so_far

-- an item that a walk meets adds itself to what comes after it
pub sum_met : {X : Type 0} (F : X → ℕ) (xs : List X) (end item end' : ℕ) (x : X) → end ≡ item + 1 → end' ≤ item → slice_get xs item ≡ Some x → F x + sum_by F (drop end xs) ≤ sum_by F (drop end' xs)
sum_met F xs end item end' x step low at =
    let next : sum_by F (drop (item + 1) xs) ≡ sum_by F (drop end xs) = ap (λ n. sum_by F (drop n xs)) (sym step) in
    omega (arith, sum_falls F xs end' item low, sum_at F xs item x at, next)

-- a row of the head, and another
pub from_true : {W : Type 0} (p g : ℕ) (r : Row W) → r.p ≡ p → r.g ≡ g → is_from p g r ≡ true
from_true p g r h k = rw (eq-eqb r.p p h, eq-eqb r.g g k) refl

none_counted : (t : Bool) (n : ℕ) → (t ≡ true → ⊥) → cond t n 0 ≡ 0
none_counted true n h = absurd (h refl)
none_counted false n h = refl

pub one_counted : (t : Bool) (n : ℕ) → t ≡ true → cond t n 0 ≡ n
one_counted true n h = refl
one_counted false n h = cc

abbrev pub one_if : Bool → ℕ
one_if t = cond t 1 0

pub one_row_here : {W : Type 0} (p g : ℕ) (r : Row W) → r.p ≡ p → r.g ≡ g → one_if (is_from p g r) ≡ 1
one_row_here p g r h k = one_counted (is_from p g r) 1 (from_true p g r h k)

pub not_there : (place p : ℕ) → (p ≡ place → ⊥) → one_if (p == place) ≡ 0
not_there place p other = none_counted (p == place) 1 (λ h. other (eqb-true p place h))

pub there : (place p : ℕ) → p ≡ place → one_if (p == place) ≡ 1
there place p same = one_counted (p == place) 1 (eq-eqb p place same)

-- rules that write one symbol
pub one_tries : {W : Type 0} (flat : List (Ruled W)) (k u : ℕ) (f g : Ruled W) (r : Row W) (n m : ℕ) → slice_get flat k ≡ Some f → slice_get flat k ≡ Some g → f.rule.word ≡ One u → IsFirst g.rule.to g.rule.word r → n ≤ m + 1 → n ≤ m + one_ways r g.rule.to g.rule.word
one_tries {W} flat k u f g r n m at at' word first more =
    let is : g.rule.word ≡ One u = ap (λ (z : Ruled W). z.rule.word) (same_item flat k g f at' at) ∙ word in
    let parts : IsFirst g.rule.to (One u) r = subst (λ w. IsFirst g.rule.to w r) is first in
    subst (λ i. n ≤ m + i) (sym (ap (λ w. one_ways r g.rule.to w) is ∙ one_row_here g.rule.to u r parts.0 parts.1)) more

module _ {W : Type 0} (heads : List (ℕ × ℕ)) (rows : List (Row W)) (places : ChainsView) (stand : AreRowPlaces heads rows places) where
  pub row_counted : (place p g : ℕ) → slice_get heads place ≡ Some (p, g) → (i : ℕ) (r : Row W) → slice_get rows i ≡ Some r → slice_get places.places i ≡ Some place → one_if (is_from p g r) ≡ 1
  row_counted place p g head i r at here =
      let same : (r.p, r.g) ≡ (p, g) = same_item heads place (r.p, r.g) (p, g) (stand.each i place r at here) head in
      one_row_here p g r (ap (λ z. z.0) same) (ap (λ z. z.1) same)

pub wait_head : {W : Type 0} (heads : List (ℕ × ℕ)) (flat : List (Ruled W)) (rows : List (Row W)) (waits : Waits) → AreWaits heads flat rows waits → (n place : ℕ) → slice_get waits.places.places n ≡ Some place → (p g : ℕ) × (slice_get heads place ≡ Some (p, g))
wait_head heads flat rows waits are n place at =
    let within : n < length waits.places.places = slice_get_within waits.places.places n place at in
    let w = some_there waits.items.items n (omega (arith, are.count)) in
    let is = are.each n place w.0 w.1 at in
    (is.1.q, is.3, is.9)

pub head_counted : {W : Type 0} (heads : List (ℕ × ℕ)) (rows : List (Row W)) (place p g : ℕ) → slice_get heads place ≡ Some (p, g) → rows_from rows p g ≡ of_head (rows_from rows) heads place
head_counted heads rows place p g at = ap (λ (h : ℕ × ℕ). rows_from rows h.0 h.1) (sym (get_or_from_slice_get heads place (p, g) (0, 0) at))

pub sum_past : {X : Type 0} (F : X → ℕ) (xs : List X) (n : ℕ) → length xs ≤ n → sum_by F (drop n xs) ≡ 0
sum_past F [] zero h = refl
sum_past F [] (suc n) h = refl
sum_past F (x ∷ xs) zero h = absurd (omega arith)
sum_past F (x ∷ xs) (suc n) h = sum_past F xs n (omega arith)

-- further places
more_none : (heads : List (ℕ × ℕ)) (places : List ℕ) (bound : (ℕ → ℕ → ℕ) → ℕ) → IsMore heads places places bound
more_none heads places bound = ([], sym (append-nil places), λ F. omega arith)

pub more_none_pub : (heads : List (ℕ × ℕ)) (places : List ℕ) (bound : (ℕ → ℕ → ℕ) → ℕ) → IsMore heads places places bound
more_none_pub = more_none

pub more_both : (heads : List (ℕ × ℕ)) (a b d : List ℕ) (f g h : (ℕ → ℕ → ℕ) → ℕ) → ((F : ℕ → ℕ → ℕ) → f F + g F ≤ h F) → IsMore heads a b f → IsMore heads b d g → IsMore heads a d h
more_both heads a b d f g h sum first second = (
  first.0 ++ second.0,
  second.1 ∙ ap (λ xs. xs ++ second.0) first.1 ∙ append_assoc a first.0 second.0,
  λ F. omega (arith, sum_by-append (of_head F heads) first.0 second.0, first.2 F, second.2 F, sum F),
)

pub more_one : {W : Type 0} (heads : List (ℕ × ℕ)) (flat : List (Ruled W)) (rows : List (Row W)) (k i u v place : ℕ) (f g : Ruled W) (d r : Row W) (old new : List ℕ) → slice_get flat k ≡ Some f → slice_get flat k ≡ Some g → slice_get rows i ≡ Some r → f.rule.word ≡ Two u v
    → IsFirst g.rule.to g.rule.word r → slice_get heads place ≡ Some ((get_or rows i d).q, v) → new ≡ old ++ place ∷ [] → IsMore heads old new (λ F. begun F r g.rule.to g.rule.word)
more_one {W} heads flat rows k i u v place f g d r old new at at' row word first head more =
    let is : g.rule.word ≡ Two u v = ap (λ (z : Ruled W). z.rule.word) (same_item flat k g f at' at) ∙ word in
    let parts : IsFirst g.rule.to (Two u v) r = subst (λ w. IsFirst g.rule.to w r) is first in
    let read : slice_get heads place ≡ Some (r.q, v) = head ∙ ap (λ x. Some (x, v)) (ap (λ (z : Row W). z.q) (get_or_from_slice_get rows i r d row)) in (
      place ∷ [],
      more,
      λ F.
          let here : of_head F heads place ≡ F r.q v = ap (λ (h : ℕ × ℕ). F h.0 h.1) (get_or_from_slice_get heads place (r.q, v) (0, 0) read) in
          let counts : begun F r g.rule.to g.rule.word ≡ F r.q v = ap (λ w. begun F r g.rule.to w) is ∙ one_counted (is_from g.rule.to u r) (F r.q v) (from_true g.rule.to u r parts.0 parts.1) in
          omega (arith, here, counts, sum_by-cons (of_head F heads) place []),
    )

drop_front : {X : Type 0} (xs ys : List X) → drop (length xs) (xs ++ ys) ≡ ys
drop_front [] ys = refl
drop_front (x ∷ xs) ys = drop_front xs ys

-- what one turn pushes, at most
module _ {W : Type 0} (heads : List (ℕ × ℕ)) (flat : List (Ruled W)) (earlier rows : List (Row W)) (row : Row W) (pushed : rows ≡ earlier ++ row ∷ []) (place : ℕ) (head : slice_get heads place ≡ Some (row.p, row.g)) where
  here_counted : (p : ℕ) → one_if (p == place) ≤ of_head (just row) heads p
  here_counted p = elim (cases_eq p place) [
    | inl same ↦
        let one : of_head (just row) heads p ≡ 1 =
        ap (λ n. of_head (just row) heads n) same ∙ ap (λ (h : ℕ × ℕ). just row h.0 h.1) (get_or_from_slice_get heads place (row.p, row.g) (0, 0) head) ∙ one_row_here row.p row.g row refl refl in
        let is : one_if (p == place) ≡ 1 = there place p same in
        omega arith
    | inr other ↦ let none : one_if (p == place) ≡ 0 = not_there place p other in omega arith
  ]

  pub turn_tries : (last before t1 t2 after : ℕ) (old new : List ℕ) → last ≡ length earlier → sum_by (of_head (just row) heads) old ≤ sum_by (λ f. all_begun (just row) earlier f.rule.to f.rule.word) flat
      → IsMore heads old new (λ F. sum_by (λ f. begun F row f.rule.to f.rule.word) flat) → (from : ℕ) → from ≡ length old
      → t1 ≤ before + count_by (λ p. p == place) old → t2 ≤ t1 + sum_by (λ f. one_ways row f.rule.to f.rule.word) flat → after ≤ t2 + sum_by (of_head (rows_from rows) heads) (drop from new)
      → after + all_ways flat (take last rows) ≤ before + all_ways flat rows
  turn_tries last before t1 t2 after old new same counted more from at first second third =
      let front : all_ways flat (take last rows) ≡ all_ways flat earlier =
      ap (λ rs. all_ways flat rs) (ap (λ n. take n rows) same ∙ ap (λ rs. take (length earlier) rs) pushed ∙ take-append_seam earlier (row ∷ [])) in
      let ends : count_by (λ p. p == place) old ≤ sum_by (of_head (just row) heads) old = sum_by-le-sum_by (λ p. one_if (p == place)) (of_head (just row) heads) old here_counted in
      let rest : sum_by (of_head (rows_from rows) heads) (drop from new) ≡ sum_by (of_head (rows_from rows) heads) more.0 =
      ap (λ xs. sum_by (of_head (rows_from rows) heads) xs) (ap (λ n. drop n new) at ∙ ap (λ xs. drop (length old) xs) more.1 ∙ drop_front old more.0) in
      let begins : sum_by (of_head (rows_from rows) heads) more.0 ≤ sum_by (λ f. begun (rows_from rows) row f.rule.to f.rule.word) flat = more.2 (rows_from rows) in
      let whole : all_ways flat rows ≡ all_ways flat earlier + (sum_by (λ f. all_begun (just row) earlier f.rule.to f.rule.word) flat + (sum_by (λ f. one_ways row f.rule.to f.rule.word) flat + sum_by (λ f. begun (rows_from rows) row f.rule.to f.rule.word) flat)) =
      subst (λ rs. all_ways flat rs ≡ all_ways flat earlier + (sum_by (λ f. all_begun (just row) earlier f.rule.to f.rule.word) flat + (sum_by (λ f. one_ways row f.rule.to f.rule.word) flat + sum_by (λ f. begun (rows_from rs) row f.rule.to f.rule.word) flat))) (sym pushed) (all_ways_more earlier row flat) in
      omega (arith, front, ends, rest, begins, whole, counted, first, second, third)

-- all candidates, over the rules of all heads in one list
pub ways_are : {W : Type 0} (rules : ℕ → ℕ → List (Rule W)) (heads listed_heads : List (ℕ × ℕ)) (flat : List (Ruled W)) (rows : List (Row W)) → listed_heads ≡ heads → flat ≡ ruled rules 0 listed_heads → all_ways flat rows ≡ candidates rules heads rows
ways_are {W} rules heads listed_heads flat rows same listed = ap (λ fs. all_ways fs rows) (listed ∙ ap (λ hs. ruled rules 0 hs) same) ∙ sum_ruled (λ (r : Rule W). ways rows r.to r.word) rules 0 heads

-- with a row more there are no fewer
pub ways_grow : {W : Type 0} (flat : List (Ruled W)) (earlier rows : List (Row W)) (row : Row W) → rows ≡ earlier ++ row ∷ [] → all_ways flat earlier ≤ all_ways flat rows
ways_grow flat earlier rows row pushed =
    let more = all_ways_more earlier row flat in
    let same : all_ways flat rows ≡ all_ways flat (earlier ++ row ∷ []) = ap (λ rs. all_ways flat rs) pushed in
    omega (arith, more, same)

-- a turn keeps the tries within the candidates
pub turn_within : {W : Type 0} (flat : List (Ruled W)) (earlier rows lent : List (Row W)) (row : Row W) (begin first before after last : ℕ) → rows ≡ earlier ++ row ∷ [] → lent ≡ rows → last ≡ length earlier
    → before + first ≤ begin + all_ways flat earlier → after + all_ways flat (take last lent) ≤ before + all_ways flat lent → after + first ≤ begin + all_ways flat rows
turn_within flat earlier rows lent row begin first before after last pushed same at so_far turn =
    let front : all_ways flat (take last lent) ≡ all_ways flat earlier =
    ap (λ rs. all_ways flat rs) (ap (λ n. take n lent) at ∙ ap (λ rs. take (length earlier) rs) (same ∙ pushed) ∙ take-append_seam earlier (row ∷ [])) in
    let whole : all_ways flat lent ≡ all_ways flat rows = ap (λ rs. all_ways flat rs) same in
    omega (arith, front, whole, so_far, turn)

-- at the end there are as many tries as rows, at least, and as candidates, at most
pub tried_now : (rows heap begin now : ℕ) → rows + heap + begin ≤ now → begin + rows ≤ now
tried_now rows heap begin now h = omega arith

pub tried_goal : (rows rows' heap heap' begin now : ℕ) → rows + heap + begin ≤ now → heap' + 1 ≤ heap → rows' ≡ rows + 1 → begin + rows' ≤ now
tried_goal rows rows' heap heap' begin now h less more = omega arith

pub tries_now : (begin now ways more whole : ℕ) → now ≤ begin + ways → ways ≤ more → more ≡ whole → now ≤ begin + whole
tries_now begin now ways more whole h grow same = omega arith

-- the tries before the first turn, and those of the turns
pub tried_in_all : (begin first now rows heap : ℕ) → heap + begin ≡ first → first + rows ≤ now + heap → begin + rows ≤ now
tried_in_all begin first now rows heap pops turns = omega arith

pub tries_in_all : (begin first now none ways whole : ℕ) → first ≤ begin + none → now + none ≤ first + ways → ways ≡ whole → now ≤ begin + whole
tries_in_all begin first now none ways whole pops turns same = omega arith
