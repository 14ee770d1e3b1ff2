-- What it tells of the elements that one is found, or none.
use Rattle.std.specs.Prelude.{◌≡◌, ℕ, Bool, true, false, ◌&&◌, ◌==◌, List, [], ◌∷◌, Some, None, refl, find}
use Rattle.std.specs.List.{list_any}
use Rattle.std.proofs.Common.{subst, sym, inl, inr}
use Rattle.std.proofs.lemmas.Bool.{and_parts, and_from, or_cases, or_left, or_right, eqb-true, eq-eqb}
use Rattle.wi_cert.proofs.Cases.{by_test, nothing, some_same}
use Rattle.wi_rules.proofs.Lists.{In}

-- none is found: none passes
pub find_none : {A : Type 0} (test : A → Bool) (xs : List A) (x : A) → find test xs ≡ None → In xs x → test x ≡ false
find_none test [] x h i = absurd i
find_none test (y ∷ ys) x h i = by_test (test y)
    (λ (e : test y ≡ true). nothing y (sym (rw e at h)))
    (λ (e : test y ≡ false). elim i [ inl s ↦ subst (λ z. test z ≡ false) s e | inr t ↦ find_none test ys x (rw e at h) t ])

-- one is found: it passes
pub find_some : {A : Type 0} (test : A → Bool) (xs : List A) (x : A) → find test xs ≡ Some x → In xs x × (test x ≡ true)
find_some test [] x h = nothing x h
find_some test (y ∷ ys) x h = by_test (test y)
    (λ (e : test y ≡ true). let s : y ≡ x = some_same y x (rw e at h) in (inl s, subst (λ z. test z ≡ true) s e))
    (λ (e : test y ≡ false). let t = find_some test ys x (rw e at h) in (inr t.0, t.1))

-- none passes: none is found
pub none_found : {A : Type 0} (test : A → Bool) (xs : List A) → ((x : A) → In xs x → test x ≡ false) → find test xs ≡ None
none_found test [] h = refl
none_found test (y ∷ ys) h = rw (h y (inl refl)) (none_found test ys (λ x i. h x (inr i)))

pub any_in : {A : Type 0} (test : A → Bool) (xs : List A) → list_any test xs ≡ true → (x : A) × In xs x × (test x ≡ true)
any_in test [] h = cc
any_in test (z ∷ zs) h = elim (or_cases (test z) (list_any test zs) h) [
  | inl e ↦ (z, inl refl, e)
  | inr t ↦ let r = any_in test zs t in (r.0, inr r.1, r.2)
]

pub in_any : {A : Type 0} (test : A → Bool) (xs : List A) (x : A) → In xs x → test x ≡ true → list_any test xs ≡ true
in_any test [] x h t = absurd h
in_any test (z ∷ zs) x (inl e) t = or_left (test z) (list_any test zs) (subst (λ w. test w ≡ true) (sym e) t)
in_any test (z ∷ zs) x (inr i) t = or_right (test z) (list_any test zs) (in_any test zs x i t)

-- two numbers that are tested together
pub both_equal : (a b x y : ℕ) → (a == x && b == y) ≡ true → (a ≡ x) × (b ≡ y)
both_equal a b x y h = let parts = and_parts (a == x) (b == y) h in (eqb-true a x parts.0, eqb-true b y parts.1)

pub equal_both : (a b : ℕ) → (a == a && b == b) ≡ true
equal_both a b = and_from (a == a) (b == b) (eq-eqb a a refl) (eq-eqb b b refl)
