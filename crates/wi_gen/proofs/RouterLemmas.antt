-- Routers that are added to those before them.
use Rattle.std.proofs.Common.{◌≡◌, ℕ, suc, ◌+◌, ◌<◌, ◌≤◌, true, nat_lt, List, [], ◌∷◌, ◌++◌, length, map, Some, None, Ok, refl, sym, ap, ◌∙◌, arith}
use Rattle.std.specs.Prelude.{codes}
use Rattle.std.specs.List.{range_with_len, position_or_len}
use Rattle.std.specs.Fmt.{decimal}
use Rattle.std.specs.Str.{bytes_eq}
use Rattle.std.proofs.lemmas.Bool.{lt-ltb}
use Rattle.std.proofs.lemmas.List.FromFn.{length-map-range_with_len, map-range_with_len_more}
use Rattle.wi_net.specs.Names.{is_name, place}
use Rattle.wi_net.specs.Builder.{Draft, add_router, with_router}
use Rattle.wi_net.proofs.KeptLists.{none_from}
use Rattle.wi_gen.specs.Ring.{Ring, numbered, routers_of}
use Rattle.wi_gen.specs.private.Making.{with_routers}
use Rattle.wi_gen.proofs.NameLemmas.{numbered_is_name, no_lower, numbered_at}

-- what breaks no rule is added
pub router_allowed : (d : Draft) (name : List ℕ) → length d.net.routers < 10000 → is_name name ≡ true → place d.net.routers name ≡ None
    → add_router d name ≡ Ok (with_router d name)
unfolding add_router
router_allowed d name few good new = rw (lt-ltb (length d.net.routers) 10000 few, good, new) refl

-- s and t, and so many of the circle
abbrev pub routers_to : ℕ → List (List ℕ)
routers_to i = codes "s" ∷ codes "t" ∷ map (numbered (codes "r")) (range_with_len 0 i)

pub s_allowed : (d : Draft) → d ≡ with_routers [] → add_router d (codes "s") ≡ Ok (with_router d (codes "s"))
s_allowed d made = rw made (router_allowed (with_routers []) (codes "s") (omega arith) refl refl)

pub t_allowed : (d e : Draft) → d ≡ with_routers [] → e ≡ with_router d (codes "s") → add_router e (codes "t") ≡ Ok (with_router e (codes "t"))
t_allowed d e made first = rw (first, made) (router_allowed (with_routers (codes "s" ∷ [])) (codes "t") (omega arith) refl refl)

pub r_allowed : (d : Draft) (i : ℕ) (name text : List ℕ) → i < 2000 → d ≡ with_routers (routers_to i) → text ≡ codes "r" ++ decimal i → name ≡ text
    → add_router d name ≡ Ok (with_router d name)
r_allowed d i name text few made named is =
    rw (is, named, made)
    (router_allowed (with_routers (routers_to i)) (codes "r" ++ decimal i)
    (let count : length (map (numbered (codes "r")) (range_with_len 0 i)) ≡ i = length-map-range_with_len (numbered (codes "r")) 0 i in omega (arith, count))
    (numbered_is_name 114 i refl (omega arith))
    (none_from (bytes_eq (codes "r" ++ decimal i)) (routers_to i) (no_lower 114 0 i i (omega arith) (omega arith))))

pub r_added : (d after : Draft) (i : ℕ) (name text : List ℕ) → d ≡ with_routers (routers_to i) → text ≡ codes "r" ++ decimal i → name ≡ text
    → after ≡ with_router d name → after ≡ with_routers (routers_to (i + 1))
r_added d after i name text made named is added = added ∙ rw (is, named, made) (ap (λ rs. with_routers (codes "s" ∷ codes "t" ∷ rs)) (sym (map-range_with_len_more (numbered (codes "r")) 0 i i (omega arith))))

-- where the routers of the circle stand
pub r_place : (ring : Ring) (i : ℕ) → i < ring.size → ring.size ≤ 2000 → place (routers_of ring) (codes "r" ++ decimal i) ≡ Some (2 + i)
r_place ring i low few =
    let at : position_or_len (bytes_eq (114 ∷ decimal i)) (map (numbered (codes "r")) (range_with_len 0 ring.size)) ≡ i = numbered_at 114 0 ring.size i i low (omega arith) (omega arith) in
    let count : length (map (numbered (codes "r")) (range_with_len 0 ring.size)) ≡ ring.size = length-map-range_with_len (numbered (codes "r")) 0 ring.size in
    let within : nat_lt (1 + (1 + i)) (suc (suc ring.size)) ≡ true = lt-ltb (1 + (1 + i)) (suc (suc ring.size)) (omega arith) in
    rw (at, count, within) (ap Some (omega arith))

-- and where s and t stand
pub s_place : (ring : Ring) → place (routers_of ring) (codes "s") ≡ Some 0
s_place ring = rw (lt-ltb 0 (length (routers_of ring)) (omega arith)) refl

pub t_place : (ring : Ring) → place (routers_of ring) (codes "t") ≡ Some 1
t_place ring = rw (lt-ltb 1 (length (routers_of ring)) (omega arith)) refl
