-- Heads and pairs lead on from a rule just where they lack nothing that follows from it.
use Rattle.std.specs.Prelude.{◌≡◌, ℕ, false, not, ◌&&◌, ◌==◌, List, Contains, refl}
use Rattle.std.proofs.Common.{ap, ◌∙◌, subst, inl, inr}
use Rattle.std.proofs.lemmas.Bool.{not-false, eqb-true, eq-eqb}
use Rattle.wi_pds.specs.declared.rule.Word2.{Word2}
use Rattle.wi_pds.specs.declared.rule.Word2.TheVariants.{Empty, One, Two}
use Rattle.wi_pds.specs.Closed.{Leads}
use Rattle.wi_rules.proofs.Lists.{In, contains_in, in_contains, in_map, map_in, in_filter, filter_in}
use Rattle.wi_accept.specs.declared.follower.Follower.{Follower}
use Rattle.wi_accept.specs.declared.follower.Follower.TheVariants.{Head, Pair}
use Rattle.wi_accept.specs.Followers.{is_listed, pairs_of, followers, is_missing}
use Rattle.wi_accept.proofs.Finding.{any_in, in_any, both_equal, equal_both}

pub listed : (xs : List (ℕ × ℕ)) (a b : ℕ) → not (is_listed xs a b) ≡ false → Contains xs (a, b)
listed xs a b h =
    let found = any_in (λ (x : ℕ × ℕ). x.0 == a && x.1 == b) xs (not-false (is_listed xs a b) h) in
    in_contains xs (a, b) (subst (In xs) (same found.0 (both_equal found.0.0 found.0.1 a b found.2)) found.1)
  where
    same : (x : ℕ × ℕ) → (x.0 ≡ a) × (x.1 ≡ b) → x ≡ (a, b)
    same x h = ap (λ n. (n, x.1)) h.0 ∙ ap (λ n. (a, n)) h.1

pub not_lacking : (xs : List (ℕ × ℕ)) (a b : ℕ) → Contains xs (a, b) → not (is_listed xs a b) ≡ false
not_lacking xs a b h = ap not (in_any (λ (x : ℕ × ℕ). x.0 == a && x.1 == b) xs (a, b) (contains_in xs (a, b) h) (equal_both a b))

-- the pairs of an upper symbol are the listed ones
below : (pairs : List (ℕ × ℕ)) (g x : ℕ) → Contains pairs (g, x) → In (pairs_of pairs g) (g, x)
below pairs g x h = in_filter (λ (y : ℕ × ℕ). y.0 == g) pairs (g, x) (contains_in pairs (g, x) h) (eq-eqb g g refl)

is_below : (pairs : List (ℕ × ℕ)) (g : ℕ) (x : ℕ × ℕ) → In (pairs_of pairs g) x → Contains pairs (g, x.1)
is_below pairs g x h =
    let k = filter_in (λ (y : ℕ × ℕ). y.0 == g) pairs x h in
    in_contains pairs (g, x.1) (subst (In pairs) (ap (λ n. (n, x.1)) (eqb-true x.0 g k.1)) k.0)

pub leads : (heads pairs : List (ℕ × ℕ)) (g to : ℕ) (w : Word2) → ((n : Follower) → In (followers pairs g to w) n → is_missing heads pairs n ≡ false) → Leads heads pairs g to w
leads heads pairs g to Empty h = λ x at. listed heads to x (h (Head to x) (in_map (λ (y : ℕ × ℕ). Head to y.1) (pairs_of pairs g) (g, x) (below pairs g x at)))
leads heads pairs g to (One u) h = (
  listed heads to u (h (Head to u) (inl refl)),
  λ x at. listed pairs u x (h (Pair u x) (inr (in_map (λ (y : ℕ × ℕ). Pair u y.1) (pairs_of pairs g) (g, x) (below pairs g x at)))),
)
leads heads pairs g to (Two u v) h = (
  listed heads to u (h (Head to u) (inl refl)),
  listed pairs u v (h (Pair u v) (inr (inl refl))),
  λ x at. listed pairs v x (h (Pair v x) (inr (inr (in_map (λ (y : ℕ × ℕ). Pair v y.1) (pairs_of pairs g) (g, x) (below pairs g x at))))),
)

pub given : (heads pairs : List (ℕ × ℕ)) (g to : ℕ) (w : Word2) → Leads heads pairs g to w → (n : Follower) → In (followers pairs g to w) n → is_missing heads pairs n ≡ false
given heads pairs g to Empty h n i =
    let k = map_in (λ (x : ℕ × ℕ). Head to x.1) (pairs_of pairs g) n i in
    subst (λ n. is_missing heads pairs n ≡ false) k.2 (not_lacking heads to k.0.1 (h k.0.1 (is_below pairs g k.0 k.1)))
given heads pairs g to (One u) h n (inl e) = subst (λ n. is_missing heads pairs n ≡ false) e (not_lacking heads to u h.0)
given heads pairs g to (One u) h n (inr i) =
    let k = map_in (λ (x : ℕ × ℕ). Pair u x.1) (pairs_of pairs g) n i in
    subst (λ n. is_missing heads pairs n ≡ false) k.2 (not_lacking pairs u k.0.1 (h.1 k.0.1 (is_below pairs g k.0 k.1)))
given heads pairs g to (Two u v) h n (inl e) = subst (λ n. is_missing heads pairs n ≡ false) e (not_lacking heads to u h.0)
given heads pairs g to (Two u v) h n (inr (inl e)) = subst (λ n. is_missing heads pairs n ≡ false) e (not_lacking pairs u v h.1)
given heads pairs g to (Two u v) h n (inr (inr i)) =
    let k = map_in (λ (x : ℕ × ℕ). Pair v x.1) (pairs_of pairs g) n i in
    subst (λ n. is_missing heads pairs n ≡ false) k.2 (not_lacking pairs v k.0.1 (h.2 k.0.1 (is_below pairs g k.0 k.1)))
