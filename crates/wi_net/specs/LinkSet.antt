-- Sets of links as strictly rising lists, and risk groups.
use Rattle.std.specs.Prelude.{ℕ, Bool, true, not, ◌&&◌, ◌==◌, nat_lt, if◌then◌else◌, List, [], ◌∷◌, length, slice_get, map}
use Rattle.std.specs.Option.{option_map_or}
use Rattle.std.specs.List.{filter, list_any, list_all, range_with_len}
use Rattle.wi_net.specs.declared.parts.LinkId.{LinkId}
use Rattle.wi_net.specs.declared.parts.Link.{Link}

-- a link is in the set
abbrev pub has : List LinkId → LinkId → Bool
has s e = list_any (λ x. x.0 == e.0) s

abbrev pub is_rising : List LinkId → Bool
is_rising [] = true
is_rising (x ∷ xs) = list_all (λ y. nat_lt x.0 y.0) xs && is_rising xs

-- the set with one more link
abbrev pub with_link : List LinkId → LinkId → List LinkId
with_link [] e = e ∷ []
with_link (x ∷ xs) e =
    if nat_lt e.0 x.0 then e ∷ x ∷ xs
    else if x.0 == e.0 then x ∷ xs
    else x ∷ with_link xs e

-- the set without a link
abbrev pub without : List LinkId → LinkId → List LinkId
without s e = filter (λ x. not (x.0 == e.0)) s

-- each link of the first set is in the second
abbrev pub is_within : List LinkId → List LinkId → Bool
is_within s t = list_all (λ e. has t e) s

-- no link is in both
abbrev pub is_apart : List LinkId → List LinkId → Bool
is_apart s t = list_all (λ e. not (has t e)) s

-- the links of the first set that aren't in the second
abbrev pub outside : List LinkId → List LinkId → List LinkId
outside s t = filter (λ e. not (has t e)) s

-- the links with these numbers: so many, from one on
abbrev pub links_from : ℕ → ℕ → List LinkId
links_from at n = map (λ i. record { 0 = i }) (range_with_len at n)

-- the set of the listed links' numbers that pass a test
abbrev pub numbers_where : List Link → (LinkId → Bool) → List LinkId
numbers_where links p = filter p (links_from 0 (length links))

-- the least link of a link's risk group; a link that isn't there is alone
abbrev pub risk_in : List Link → LinkId → LinkId
risk_in links e = option_map_or (λ l. l.risk) (slice_get links e.0) e

abbrev pub same_risk_in : List Link → LinkId → LinkId → Bool
same_risk_in links d e = (risk_in links d).0 == (risk_in links e).0
