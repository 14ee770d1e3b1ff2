-- The order in which heads, pairs and rows stand: each is above the one before it.
use Rattle.std.specs.Prelude.{ℕ, ◌-◌, Bool, true, ◌&&◌, ◌||◌, ◌==◌, List, [], ◌∷◌, ◌++◌, length, Option, slice_get, nat_lt}
use Rattle.std.specs.Option.{option_map_or}
use Rattle.wi_cert.specs.declared.row.Row.{Row}

-- a comes before b: by the first number, then by the second
abbrev pub pair_below : ℕ × ℕ → ℕ × ℕ → Bool
pair_below a b = nat_lt a.0 b.0 || (a.0 == b.0 && nat_lt a.1 b.1)

-- a comes before b: by spot, symbol and target
abbrev pub row_below : Row → Row → Bool
row_below a b = nat_lt a.p b.p || (a.p == b.p && (nat_lt a.g b.g || (a.g == b.g && nat_lt a.q b.q)))

abbrev pub last_of : {A : Type 0} → List A → Option A
last_of xs = slice_get xs (length xs - 1)

-- x may follow the list: it is above the last
abbrev pub is_next : {A : Type 0} → (A → A → Bool) → List A → A → Bool
is_next below xs x = option_map_or (λ last. below last x) (last_of xs) true

-- each item may follow those before it
abbrev pub EachAdded : {A : Type 0} → (List A → A → Type 0) → List A → List A → Type 0
EachAdded MayFollow before [] = Unit {0}
EachAdded MayFollow before (x ∷ xs) = MayFollow before x × EachAdded MayFollow (before ++ x ∷ []) xs
