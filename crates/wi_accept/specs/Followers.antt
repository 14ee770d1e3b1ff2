-- What heads and pairs must have to be closed, in the order in which it is asked for.
use Rattle.std.specs.Prelude.{ℕ, Bool, not, ◌&&◌, ◌==◌, List, ◌∷◌, Option, map, filter, find}
use Rattle.std.specs.List.{flat_map, list_any}
use Rattle.wi_pds.specs.declared.rule.Word2.{Word2}
use Rattle.wi_pds.specs.declared.rule.Word2.TheVariants.{Empty, One, Two}
use Rattle.wi_pds.specs.declared.rule.Rule.{Rule}
use Rattle.wi_accept.specs.declared.follower.Follower.{Follower}
use Rattle.wi_accept.specs.declared.follower.Follower.TheVariants.{Head, Pair}

-- two numbers are listed
abbrev pub is_listed : List (ℕ × ℕ) → ℕ → ℕ → Bool
is_listed xs a b = list_any (λ x. x.0 == a && x.1 == b) xs

-- the pairs of an upper symbol, in their order
abbrev pub pairs_of : List (ℕ × ℕ) → ℕ → List (ℕ × ℕ)
pairs_of pairs g = filter (λ x. x.0 == g) pairs

-- what follows from a rule over g that goes to a state and writes a word: its own head and pair, and then what it makes of each symbol
-- that may stand below g
abbrev pub followers : List (ℕ × ℕ) → ℕ → ℕ → Word2 → List Follower
followers pairs g to Empty = map (λ x. Head to x.1) (pairs_of pairs g)
followers pairs g to (One u) = Head to u ∷ map (λ x. Pair u x.1) (pairs_of pairs g)
followers pairs g to (Two u v) = Head to u ∷ Pair u v ∷ map (λ x. Pair v x.1) (pairs_of pairs g)

-- what follows from the rules of a head, rule by rule
abbrev pub followers_at : {W : Type 0} → List (ℕ × ℕ) → ℕ → List (Rule W) → List Follower
followers_at pairs g rules = flat_map (λ r. followers pairs g r.to r.word) rules

-- what follows from the rules of heads, head by head
abbrev pub followers_of : {W : Type 0} → (ℕ → ℕ → List (Rule W)) → List (ℕ × ℕ) → List (ℕ × ℕ) → List Follower
followers_of rules pairs heads = flat_map (λ h. followers_at pairs h.1 (rules h.0 h.1)) heads

abbrev pub is_missing : List (ℕ × ℕ) → List (ℕ × ℕ) → Follower → Bool
is_missing heads pairs (Head p g) = not (is_listed heads p g)
is_missing heads pairs (Pair u v) = not (is_listed pairs u v)

-- the first head or pair that follows and isn't listed: the start, and then head by head
abbrev pub first_missing : {W : Type 0} → (ℕ → ℕ → List (Rule W)) → ℕ × ℕ → List (ℕ × ℕ) → List (ℕ × ℕ) → Option Follower
first_missing rules start heads pairs = find (λ n. is_missing heads pairs n) (Head start.0 start.1 ∷ followers_of rules pairs heads)
