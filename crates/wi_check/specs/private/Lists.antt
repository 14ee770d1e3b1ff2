-- Lists in rising order, and parts of them.
use Rattle.std.specs.Prelude.{◌≡◌, ℕ, ◌<◌, Bool, true, not, ◌&&◌, ◌==◌, nat_lt, List, slice_get, Option, Some, None, map, find}
use Rattle.std.specs.List.{All, list_any}
use Rattle.wi_cert.specs.declared.row.Row.{Row}
use Rattle.wi_accept.specs.Followers.{pairs_of}

-- each stands below those after it
abbrev pub Rises : {A : Type 0} → (A → A → Bool) → List A → Type 0
Rises {A} below xs = (i j : ℕ) (a b : A) → i < j → slice_get xs i ≡ Some a → slice_get xs j ≡ Some b → below a b ≡ true

-- a comes before b by the symbol, which is the second part of a head, and of a pair the lower one
abbrev pub symbol_below : {A : Type 0} → A × ℕ → A × ℕ → Bool
symbol_below a b = nat_lt a.1 b.1

-- one of them has this symbol
abbrev pub has_symbol : {A : Type 0} → List (A × ℕ) → ℕ → Bool
has_symbol xs g = list_any (λ x. x.1 == g) xs

-- the first symbol that is wanted and that none that is listed has
abbrev pub first_absent : {A B : Type 0} → List (A × ℕ) → List (B × ℕ) → Option ℕ
first_absent wanted listed = find (λ g. not (has_symbol listed g)) (map (λ x. x.1) wanted)

-- each lower symbol of the pairs of g is one of the pairs of u, too
abbrev pub IsWhole : List (ℕ × ℕ) → ℕ → ℕ → Type 0
IsWhole pairs g u = first_absent (pairs_of pairs g) (pairs_of pairs u) ≡ None

-- this is so of each of some symbols g and u
abbrev pub AreWhole : List (ℕ × ℕ) → List (ℕ × ℕ) → Type 0
AreWhole pairs keys = All (λ key. IsWhole pairs key.0 key.1) keys

-- the row is from p with g on top
abbrev pub is_row_of : ℕ → ℕ → Row → Bool
is_row_of p g r = r.p == p && r.g == g

-- the row is to q
abbrev pub is_row_to : ℕ → Row → Bool
is_row_to q r = r.q == q
