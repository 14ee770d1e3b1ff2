-- The names in what is asked of a ring are the ring's.
use Rattle.std.proofs.Common.{◌≡◌, ℕ, ◌<◌, ◌≤◌, Bool, true, false, cond, codes, map, List, [], ◌∷◌, ◌++◌, length, get_or, Some, None, refl, sym, ap, ◌∙◌, subst, arith}
use Rattle.std.specs.Prelude.{nat_lt, is_some, option_map}
use Rattle.std.specs.List.{list_any, position_or_len, range_with_len}
use Rattle.std.specs.Fmt.{decimal}
use Rattle.std.specs.Str.{bytes_eq}
use Rattle.std.proofs.lemmas.Bool.{or_right}
use Rattle.std.proofs.lemmas.Fmt.{decimal_digit}
use Rattle.std.proofs.lemmas.List.Folds.{list_any_at, list_any-append}
use Rattle.std.proofs.lemmas.List.FromFn.{length-map-range_with_len, get_or-map-range_with_len}
use Rattle.std.proofs.lemmas.Slice.Eq.{bytes_eq-Decides}
use Rattle.wi_labels.specs.declared.label.Label.{Label}
use Rattle.wi_net.specs.declared.parts.RouterId.{RouterId}
use Rattle.wi_net.specs.Names.{place}
use Rattle.wi_net.specs.Net.{Net}
use Rattle.wi_net.specs.Finding.{find_label, find_router}
use Rattle.wi_net.proofs.FindingLemmas.{any_within}
use Rattle.wi_query.specs.Unknown.{unknown_in}
use Rattle.wi_gen.specs.Ring.{Ring, numbered, routers_of, labels_of, net_of}
use Rattle.wi_gen.proofs.TextsWritten.{router, written}

-- ---- a name that is one of a list has a place in it

same : (name : List ℕ) → bytes_eq name name ≡ true
same name = (bytes_eq-Decides name name).1 refl

found : {X : Type 0} (f : ℕ → X) (names : List (List ℕ)) (name : List ℕ)
    → list_any (bytes_eq name) names ≡ true → is_some (option_map f (place names name)) ≡ true
found {X} f names name any = go (nat_lt number (length names)) number (sym (any_within (bytes_eq name) names) ∙ any)
  where
    number : ℕ
    number = position_or_len (bytes_eq name) names

    go : (b : Bool) (i : ℕ) → b ≡ true → is_some (option_map f (cond b (Some i) None)) ≡ true
    go true i e = refl
    go false i e = cc

label_found : (net : Net) (name : List ℕ) → list_any (bytes_eq name) net.labels ≡ true → is_some (find_label net name) ≡ true
label_found net name any = let label : ℕ → Label = λ n. record { 0 = n } in found label net.labels name any

router_found : (net : Net) (name : List ℕ) → list_any (bytes_eq name) net.routers ≡ true → is_some (find_router net name) ≡ true
router_found net name any = let id : ℕ → RouterId = λ n. record { 0 = n } in found id net.routers name any

-- ---- a ring's names

ip_label : (ring : Ring) → list_any (bytes_eq (codes "ip0")) (labels_of ring) ≡ true
ip_label ring =
    let p : List ℕ → Bool = bytes_eq (codes "ip0") in
    let bypasses : List (List ℕ) = map (numbered (codes "b")) (range_with_len 0 ring.path) in
    let front : List (List ℕ) = bypasses ++ map (numbered (codes "s")) (range_with_len 1 ring.path) in
    list_any-append p front (codes "ip0" ∷ []) ∙ or_right (list_any p front) true refl

numbered_router : (ring : Ring) (i : ℕ) → i < ring.size → list_any (bytes_eq (numbered (codes "r") i)) (routers_of ring) ≡ true
numbered_router ring i low =
    let name : ℕ → List ℕ = numbered (codes "r") in
    let routers : List (List ℕ) = map name (range_with_len 0 ring.size) in
    let within : i < length routers = omega (arith, low, length-map-range_with_len name 0 ring.size) in
    let there : get_or routers i [] ≡ name i = get_or-map-range_with_len name 0 ring.size i i [] low (omega arith) in
    list_any_at (bytes_eq (name i)) routers i [] within (ap (bytes_eq (name i)) there ∙ same (name i))

-- the router of a number, of which these are the digits
router_known : (ring : Ring) (i : ℕ) (digits : List ℕ)
    → i < ring.size → decimal i ≡ digits → is_some (find_router (net_of ring) (router digits)) ≡ true
router_known ring i digits low is =
    let known : is_some (find_router (net_of ring) (router (decimal i))) ≡ true =
    router_found (net_of ring) (router (decimal i)) (numbered_router ring i low) in
    subst (λ z. is_some (find_router (net_of ring) (router z)) ≡ true) is known

-- ---- a text whose names are known has none that isn't

pub record HasNames (net : Net) (digits : List ℕ) : Type 0 where
  ip : is_some (find_label net (codes "ip0")) ≡ true
  s : is_some (find_router net (codes "s")) ≡ true
  t : is_some (find_router net (codes "t")) ≡ true
  first : is_some (find_router net (router (codes "0"))) ≡ true
  second : is_some (find_router net (router (codes "1"))) ≡ true
  last : is_some (find_router net (router digits)) ≡ true

pub nothing_unknown : (net : Net) (digits : List ℕ) → HasNames net digits → unknown_in net (written digits) ≡ []
nothing_unknown net digits has = rw (has.ip, has.s, has.t, has.first, has.second, has.last) refl

pub has_names : (ring : Ring) → 4 ≤ ring.size → ring.path < ring.size → HasNames (net_of ring) (decimal ring.path)
has_names ring few low = record {
  ip = label_found (net_of ring) (codes "ip0") (ip_label ring);
  s = router_found (net_of ring) (codes "s") refl;
  t = router_found (net_of ring) (codes "t") refl;
  first = router_known ring 0 (codes "0") (omega arith) (decimal_digit 0 (omega arith));
  second = router_known ring 1 (codes "1") (omega arith) (decimal_digit 1 (omega arith));
  last = router_known ring ring.path (decimal ring.path) low refl;
}
