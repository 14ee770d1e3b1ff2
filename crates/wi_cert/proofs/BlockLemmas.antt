-- The lines of a list, one item after the other.
use Rattle.std.specs.Prelude.{◌≡◌, ℕ, ◌+◌, ◌-◌, ◌^◌, ◌<◌, List, [], ◌∷◌, ◌++◌, length, map}
use Rattle.std.specs.List.{All}
use Rattle.std.proofs.Common.{sym, ap, ◌∙◌, subst, arith, append_assoc, append-nil, length-append}
use Rattle.std.proofs.lemmas.List.{map-append}
use Rattle.std.proofs.lemmas.List.Elements.{All-nil, All-push}
use Rattle.wi_cert.specs.Numbers.{count_line}
use Rattle.wi_cert.specs.Order.{EachAdded}
use Rattle.wi_cert.proofs.FormLemmas.{Adds}

-- a list of which n items are to come
pub record IsGood {A : Type 0} (MayFollow : List A → A → Type 0) (Range : A → Type 0) (xs : List A) (n : ℕ) : Type 0 where
  pub each : EachAdded MayFollow [] xs
  pub ranges : All Range xs
  pub count : length xs + n < 2 ^ 64

-- its lines so far
abbrev pub block : {A : Type 0} → List ℕ → (A → List ℕ) → ℕ → List A → List (List ℕ)
block front line_of n xs = count_line front n ∷ map line_of xs

each_added_more : {A : Type 0} (MayFollow : List A → A → Type 0) (before xs : List A) (x : A) → EachAdded MayFollow before xs → MayFollow (before ++ xs) x → EachAdded MayFollow before (xs ++ x ∷ [])
each_added_more MayFollow before [] x h k = (subst (λ ys. MayFollow ys x) (append-nil before) k, tt)
each_added_more MayFollow before (y ∷ ys) x h k = (h.0, each_added_more MayFollow (before ++ y ∷ []) ys x h.1 (subst (λ zs. MayFollow zs x) (sym (append_assoc before (y ∷ []) ys)) k))

pub empty_good : {A : Type 0} (MayFollow : List A → A → Type 0) (Range : A → Type 0) (xs : List A) (n : ℕ) → xs ≡ [] → n < 2 ^ 64 → IsGood MayFollow Range xs n
empty_good MayFollow Range xs n e h = subst (λ ys. IsGood MayFollow Range ys n) (sym e) (record { each = tt; ranges = All-nil Range; count = omega arith })

module _ {A : Type 0} (MayFollow : List A → A → Type 0) (Range : A → Type 0) (front : List ℕ) (line_of : A → List ℕ) where
  pub counted : (xs ys : List A) (n : ℕ) (line : List ℕ) → 0 < n → Adds MayFollow Range line_of xs line ys → length xs + n ≡ length ys + (n - 1)
  counted xs ys n line pos adds =
      let long : length (xs ++ adds.item ∷ []) ≡ length xs + 1 = length-append xs (adds.item ∷ []) in
      let count : length xs + n ≡ length (xs ++ adds.item ∷ []) + (n - 1) = omega (arith, long) in
      count ∙ ap (λ zs. length zs + (n - 1)) adds.more

  pub good_more : (xs ys : List A) (n : ℕ) (line : List ℕ) → 0 < n → Adds MayFollow Range line_of xs line ys → IsGood MayFollow Range xs n → IsGood MayFollow Range ys (n - 1)
  good_more xs ys n line pos adds g = record {
    each = subst (EachAdded MayFollow []) adds.more (each_added_more MayFollow [] xs adds.item g.each adds.follows);
    ranges = subst (All Range) adds.more (All-push Range xs adds.item g.ranges adds.ranges);
    count = subst (λ k. k < 2 ^ 64) (counted xs ys n line pos adds) g.count;
  }

  pub starts : (xs : List A) (n : ℕ) (line : List ℕ) → xs ≡ [] → line ≡ count_line front n → line ∷ [] ≡ block front line_of (length xs + n) xs
  starts xs n line e h =
      let zero : 0 + n ≡ n = omega arith in
      ap (λ l. l ∷ []) (h ∙ ap (count_line front) (sym zero)) ∙ sym (ap (λ ys. block front line_of (length ys + n) ys) e)

  pub grows : (xs ys : List A) (n : ℕ) (line : List ℕ) → 0 < n → Adds MayFollow Range line_of xs line ys → block front line_of (length xs + n) xs ++ line ∷ [] ≡ block front line_of (length ys + (n - 1)) ys
  grows xs ys n line pos adds =
      ap (λ l. block front line_of (length xs + n) xs ++ l ∷ []) adds.text
      ∙ ap (λ k. count_line front k ∷ (map line_of xs ++ line_of adds.item ∷ [])) (counted xs ys n line pos adds)
      ∙ ap (λ ls. count_line front (length ys + (n - 1)) ∷ ls) (sym (map-append line_of xs (adds.item ∷ [])))
      ∙ ap (λ zs. block front line_of (length ys + (n - 1)) zs) adds.more

  -- no item is to come
  pub ends : (xs : List A) (n : ℕ) → n ≡ 0 → block front line_of (length xs + n) xs ≡ block front line_of (length xs) xs
  ends xs n e = let none : length xs + n ≡ length xs = omega arith in ap (λ k. block front line_of k xs) none

  pub good_ends : (xs : List A) (n : ℕ) → n ≡ 0 → IsGood MayFollow Range xs n → IsGood MayFollow Range xs 0
  good_ends xs n e g = subst (IsGood MayFollow Range xs) e g

pub behind : {A : Type 0} (lines before more line after : List A) → lines ≡ before ++ more → more ++ line ≡ after → lines ++ line ≡ before ++ after
behind lines before more line after h e = ap (λ x. x ++ line) h ∙ append_assoc before more line ∙ ap (λ x. before ++ x) e
