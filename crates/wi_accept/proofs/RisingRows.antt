-- A list to which each item was added above the last one is told by which items it has: so are heads, pairs and rows.
use Rattle.std.proofs.Common.{◌≡◌, ℕ, ◌-◌, Bool, true, List, [], ◌∷◌, ◌++◌, length, slice_get, Some, inl, inr, refl, arith, ap, sym, ◌∙◌, subst, length-append}
use Rattle.std.specs.Option.{option_map_or}
use Rattle.std.proofs.lemmas.Bool.Decides.{nat_tests}
use Rattle.wi_net.proofs.KeptLists.{get_last}
use Rattle.wi_rules.proofs.Lists.{In}
use Rattle.wi_cert.specs.declared.row.Row.{Row}
use Rattle.wi_cert.specs.declared.shown.Shown.{Shown}
use Rattle.wi_cert.specs.Order.{pair_below, row_below, last_of, is_next, EachAdded}
use Rattle.wi_cert.specs.Closed.{IsRow}

-- each item of the one list is in the other
abbrev pub AllIn : {A : Type 0} → List A → List A → Type 0
AllIn {A} xs ys = (x : A) → In xs x → In ys x

-- each item stands above the last before it
abbrev Rises : {A : Type 0} → (A → A → Bool) → List A → List A → Type 0
Rises below before xs = EachAdded (λ before x. is_next below before x ≡ true) before xs

-- the last is what was added last
pub last_added : {A : Type 0} (before : List A) (x : A) → last_of (before ++ x ∷ []) ≡ Some x
last_added before x =
    let end : length (before ++ x ∷ []) - 1 ≡ length before = omega (arith, length-append before (x ∷ [])) in
    ap (λ n. slice_get (before ++ x ∷ []) n) end ∙ get_last before x

module _ {A : Type 0} (below : A → A → Bool) (trans : (a b c : A) → below a b ≡ true → below b c ≡ true → below a c ≡ true) (never : (a b : A) → below a b ≡ true → a ≡ b → ⊥) where
  -- all that is added stands above what was the last
  above_last : (before xs : List A) (last : A) → last_of before ≡ Some last → Rises below before xs → (y : A) → In xs y → below last y ≡ true
  above_last before [] last at rises y there = absurd there
  above_last before (x ∷ xs) last at rises y there =
      let up : below last x ≡ true = ap (λ o. option_map_or (λ z. below z x) o true) (sym at) ∙ rises.0 in
      elim there [
        | inl e ↦ subst (λ z. below last z ≡ true) e up
        | inr i ↦ trans last x y up (above_last (before ++ x ∷ []) xs x (last_added before x) rises.1 y i)
      ]

  -- so each item stands below all that come after it
  above_first : (before : List A) (x : A) (xs : List A) → Rises below before (x ∷ xs) → (y : A) → In xs y → below x y ≡ true
  above_first before x xs rises y there = above_last (before ++ x ∷ []) xs x (last_added before x) rises.1 y there

  -- two lists that have the same items begin with the same one
  first_same : (before other : List A) (x y : A) (xs ys : List A) → Rises below before (x ∷ xs) → Rises below other (y ∷ ys) → In (y ∷ ys) x → In (x ∷ xs) y → x ≡ y
  first_same before other x y xs ys rises also (inl e) there = sym e
  first_same before other x y xs ys rises also (inr i) (inl e) = e
  first_same before other x y xs ys rises also (inr i) (inr j) =
      absurd (never x x (trans x y x (above_first before x xs rises y j) (above_first other y ys also x i)) refl)

  -- and go on with the same ones
  rest_in : (before : List A) (x y : A) (xs ys : List A) → Rises below before (x ∷ xs) → x ≡ y → AllIn (x ∷ xs) (y ∷ ys) → AllIn xs ys
  rest_in before x y xs ys rises same all z i = elim (all z (inr i)) [
    | inl e ↦ absurd (never x z (above_first before x xs rises z i) (same ∙ e))
    | inr j ↦ j
  ]

  -- so they are one list
  one_list : (before other xs ys : List A) → Rises below before xs → Rises below other ys → AllIn xs ys → AllIn ys xs → xs ≡ ys
  one_list before other [] [] rises also there back = refl
  one_list before other [] (y ∷ ys) rises also there back = absurd (back y (inl refl))
  one_list before other (x ∷ xs) [] rises also there back = absurd (there x (inl refl))
  one_list before other (x ∷ xs) (y ∷ ys) rises also there back =
      let first : x ≡ y = first_same before other x y xs ys rises also (there x (inl refl)) (back y (inl refl)) in
      let rest : xs ≡ ys = one_list (before ++ x ∷ []) (other ++ y ∷ []) xs ys rises.1 also.1
      (rest_in before x y xs ys rises first there) (rest_in other y x ys xs also (sym first) back) in
      cc

-- the orders of pairs and of rows are strict
pub pair_below_trans : (a b c : ℕ × ℕ) → pair_below a b ≡ true → pair_below b c ≡ true → pair_below a c ≡ true
pair_below_trans a b c h k = grind (arith, nat_tests)

pair_below_never : (a b : ℕ × ℕ) → pair_below a b ≡ true → a ≡ b → ⊥
pair_below_never a b h e =
    let first = ap (λ (x : ℕ × ℕ). x.0) e in
    let second = ap (λ (x : ℕ × ℕ). x.1) e in
    grind (arith, nat_tests)

pub row_below_trans : (a b c : Row) → row_below a b ≡ true → row_below b c ≡ true → row_below a c ≡ true
row_below_trans a b c h k = grind (arith, nat_tests)

row_below_never : (a b : Row) → row_below a b ≡ true → a ≡ b → ⊥
row_below_never a b h e =
    let spot = ap (λ (r : Row). r.p) e in
    let symbol = ap (λ (r : Row). r.g) e in
    let target = ap (λ (r : Row). r.q) e in
    grind (arith, nat_tests)

-- heads, or pairs, that are the same are one list
pub one_pair_list : (xs ys : List (ℕ × ℕ)) → EachAdded (λ before x. is_next pair_below before x ≡ true) [] xs → EachAdded (λ before x. is_next pair_below before x ≡ true) [] ys
    → AllIn xs ys → AllIn ys xs → xs ≡ ys
one_pair_list xs ys = one_list pair_below pair_below_trans pair_below_never [] [] xs ys

-- rows that may follow one another rise
rows_rise : (s : Shown) (before xs : List Row) → EachAdded (IsRow s) before xs → Rises row_below before xs
rows_rise s before [] each = tt
rows_rise s before (x ∷ xs) each = (each.0.next, rows_rise s (before ++ x ∷ []) xs each.1)

-- and so are rows, whatever they may weigh
pub one_row_list : (s t : Shown) (xs ys : List Row) → EachAdded (IsRow s) [] xs → EachAdded (IsRow t) [] ys → AllIn xs ys → AllIn ys xs → xs ≡ ys
one_row_list s t xs ys each also = one_list row_below row_below_trans row_below_never [] [] xs ys (rows_rise s [] xs each) (rows_rise t [] ys also)
