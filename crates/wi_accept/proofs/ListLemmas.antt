-- What is added to a list, and whether some element of one has a property.
use Rattle.std.proofs.Common.{List, [], ◌∷◌, ◌++◌, ◌⊎◌, inl, inr, refl, sym, subst}
use Rattle.wi_cert.specs.Order.{EachAdded}
use Rattle.wi_rules.proofs.Lists.{In}

-- each item that was added could be
pub each_added : {A : Type 0} (MayFollow : List A → A → Type 0) (P : A → Type 0) → ((before : List A) (x : A) → MayFollow before x → P x)
    → (before xs : List A) → EachAdded MayFollow before xs → (x : A) → In xs x → P x
each_added MayFollow P each before [] h x i = absurd i
each_added MayFollow P each before (y ∷ xs) h x (inl e) = subst P e (each before y h.0)
each_added MayFollow P each before (y ∷ xs) h x (inr i) = each_added MayFollow P each (before ++ y ∷ []) xs h.1 x i

-- both hold, or not both
pub both_or_not : {A B : Type 0} → A ⊎ (A → ⊥) → B ⊎ (B → ⊥) → (A × B) ⊎ (A × B → ⊥)
both_or_not (inr n) second = inr (λ h. n h.0)
both_or_not (inl a) (inr n) = inr (λ h. n h.1)
both_or_not (inl a) (inl b) = inl (a, b)

-- some element has the property, or none has, where that can be told of each
pub some_or_none : {A : Type 0} (P : A → Type 0) → ((x : A) → P x ⊎ (P x → ⊥)) → (xs : List A) → ((x : A) × In xs x × P x) ⊎ ((x : A) → In xs x → P x → ⊥)
some_or_none P each [] = inr (λ x i h. absurd i)
some_or_none P each (y ∷ xs) = elim (each y) [
  | inl h ↦ inl (y, inl refl, h)
  | inr n ↦ elim (some_or_none P each xs) [
    | inl k ↦ inl (k.0, inr k.1, k.2)
    | inr m ↦ inr (λ x i h. elim i [ inl e ↦ n (subst P (sym e) h) | inr j ↦ m x j h ])
  ]
]
