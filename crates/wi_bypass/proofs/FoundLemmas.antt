-- What is found for links, and that a plan stays one with it.
use Rattle.std.proofs.Common.{◌≡◌, ℕ, suc, ◌+◌, ◌<◌, ◌≤◌, length, drop, drop-cons, get_or, arith, subst, Bool, true, false, not, ◌==◌, List, [], ◌∷◌, ◌++◌, Option, Some, None, refl, ap, sym, ◌∙◌, append_assoc, append-nil}
use Rattle.std.specs.List.{filter, flat_map, list_all}
use Rattle.std.specs.Option.{option_to_list}
use Rattle.std.proofs.lemmas.Bool.{and_parts, and_from}
use Rattle.std.proofs.Math.ListN.{drop_of_length-le}
use Rattle.wi_net.specs.declared.parts.LinkId.{LinkId}
use Rattle.wi_net.specs.Net.{Net, same_risk}
use Rattle.wi_net.specs.LinkSet.{has}
use Rattle.wi_net.proofs.KeptLists.{same_flip}
use Rattle.wi_plan.specs.declared.plan.Path.{Path}
use Rattle.wi_plan.specs.declared.plan.Bypass.{Bypass}
use Rattle.wi_plan.specs.declared.plan.Plan.{Plan}
use Rattle.wi_plan.specs.Plans.{is_bypass_of, are_links_apart, are_bypasses_apart, IsPlan}
use Rattle.wi_protect.specs.OneWay.{inner}
use Rattle.wi_bypass.specs.Bypasses.{inner_links, is_without, wanting, IsFound, AreFound, with_found}
use Rattle.wi_bypass.specs.private.Marks.{IsAdded}
use Rattle.wi_bypass.proofs.InnerLemmas.{all_append, apart_filter, once_apart}

-- one link more
pub found_more : (net : Net) (e : LinkId) (links : List LinkId) (o : Option Bypass) (rest : List Bypass) → IsFound net e o → AreFound net links rest → AreFound net (e ∷ links) (option_to_list o ++ rest)
found_more net e links o rest is are = (o, rest, refl, is, are)

-- a least detour is a bypass
found_bypass : (net : Net) (e : LinkId) (b : Bypass) → IsFound net e (Some b) → is_bypass_of net b ≡ true
found_bypass net e b is =
    let own : is_bypass_of net (record { link = e; via = b.via }) ≡ true =
    (and_parts (is_bypass_of net (record { link = e; via = b.via })) (list_all (λ f. not (same_risk net e f)) b.via) is.1.is).0 in
    let again : LinkId → Bypass = λ f. record { link = f; via = b.via } in
    ap (λ f. is_bypass_of net (again f)) is.0 ∙ own

-- what holds of each that is found for a link that passes a test
pub found_all : (net : Net) (p : LinkId → Bool) (q : Bypass → Bool) → ((e : LinkId) (b : Bypass) → p e ≡ true → IsFound net e (Some b) → q b ≡ true)
    → (links : List LinkId) (found : List Bypass) → list_all p links ≡ true → AreFound net links found → list_all q found ≡ true
found_all net p q each [] found h are = rw are refl
found_all net p q each (e ∷ links) found h (None, rest, is, never, are) = rw is (found_all net p q each links rest (and_parts (p e) (list_all p links) h).1 are)
found_all net p q each (e ∷ links) found h (Some b, rest, is, least, are) =
    let parts = and_parts (p e) (list_all p links) h in
    rw is (and_from (q b) (list_all q rest) (each e b parts.0 least) (found_all net p q each links rest parts.1 are))

any_links : (links : List LinkId) → list_all (λ (e : LinkId). true) links ≡ true
any_links [] = refl
any_links (e ∷ links) = any_links links

pub found_bypasses : (net : Net) (links : List LinkId) (found : List Bypass) → AreFound net links found → list_all (is_bypass_of net) found ≡ true
found_bypasses net links found are = found_all net (λ e. true) (is_bypass_of net) (λ e b _ is. found_bypass net e b is) links found (any_links links) are

-- it is for links that pass a test where all do
pub found_pass : (net : Net) (p : LinkId → Bool) (links : List LinkId) (found : List Bypass) → list_all p links ≡ true → AreFound net links found → list_all (λ (b : Bypass). p b.link) found ≡ true
found_pass net p links found h are = found_all net p (λ (b : Bypass). p b.link) (λ e b pass is. ap p is.0 ∙ pass) links found h are

none_links : (links : List LinkId) (e : LinkId) → not (has links e) ≡ true → list_all (λ f. not (f.0 == e.0)) links ≡ true
none_links [] e h = refl
none_links (f ∷ links) e h = go (f.0 == e.0) refl h (none_links links e)
  where
    go : (b : Bool) → (f.0 == e.0) ≡ b → not (has (f ∷ links) e) ≡ true → (not (has links e) ≡ true → list_all (λ g. not (g.0 == e.0)) links ≡ true) → list_all (λ g. not (g.0 == e.0)) (f ∷ links) ≡ true
    go true is k ih = let bad : false ≡ true = rw is at k in cc
    go false is k ih = rw is (ih (rw is at k))

none_for : (bypasses : List Bypass) (e : LinkId) → list_all (λ (b : Bypass). not (b.link.0 == e.0)) bypasses ≡ true → is_without bypasses e ≡ true
none_for [] e h = refl
none_for (b ∷ bypasses) e h = go (b.link.0 == e.0) refl h (none_for bypasses e)
  where
    go : (t : Bool) → (b.link.0 == e.0) ≡ t → list_all (λ (c : Bypass). not (c.link.0 == e.0)) (b ∷ bypasses) ≡ true
        → (list_all (λ (c : Bypass). not (c.link.0 == e.0)) bypasses ≡ true → is_without bypasses e ≡ true) → is_without (b ∷ bypasses) e ≡ true
    go true is k ih = let bad : false ≡ true = rw is at k in cc
    go false is k ih = rw is (ih (rw is at k))

-- no two are for one link
pub found_apart : (net : Net) (links : List LinkId) (found : List Bypass) → are_links_apart links ≡ true → AreFound net links found → are_bypasses_apart found ≡ true
found_apart net [] found h are = rw are refl
found_apart net (e ∷ links) found h (None, rest, is, never, are) = rw is (found_apart net links rest (and_parts (not (has links e)) (are_links_apart links) h).1 are)
found_apart net (e ∷ links) found h (Some b, rest, is, least, are) =
    let parts = and_parts (not (has links e)) (are_links_apart links) h in
    let others : is_without rest e ≡ true = none_for rest e (found_pass net (λ f. not (f.0 == e.0)) links rest (none_links links e parts.0) are) in
    rw is (and_from (is_without rest b.link) (are_bypasses_apart rest) (ap (λ f. is_without rest f) least.0 ∙ others) (found_apart net links rest parts.1 are))

-- bypasses behind others
without_append : (xs ys : List Bypass) (e : LinkId) → is_without xs e ≡ true → is_without ys e ≡ true → is_without (xs ++ ys) e ≡ true
without_append [] ys e h k = k
without_append (x ∷ xs) ys e h k = go (x.link.0 == e.0) refl h (λ j. without_append xs ys e j k)
  where
    go : (b : Bool) → (x.link.0 == e.0) ≡ b → is_without (x ∷ xs) e ≡ true → (is_without xs e ≡ true → is_without (xs ++ ys) e ≡ true) → is_without ((x ∷ xs) ++ ys) e ≡ true
    go true is j ih = let bad : false ≡ true = rw is at j in cc
    go false is j ih = rw is (ih (rw is at j))

each_other : (ys : List Bypass) (x : Bypass) (xs : List Bypass) → list_all (λ (y : Bypass). is_without (x ∷ xs) y.link) ys ≡ true → (is_without ys x.link ≡ true) × (list_all (λ (y : Bypass). is_without xs y.link) ys ≡ true)
each_other [] x xs h = (refl, refl)
each_other (y ∷ ys) x xs h =
    let parts = and_parts (is_without (x ∷ xs) y.link) (list_all (λ (z : Bypass). is_without (x ∷ xs) z.link) ys) h in
    go (x.link.0 == y.link.0) refl parts.0 (each_other ys x xs parts.1)
  where
    go : (b : Bool) → (x.link.0 == y.link.0) ≡ b → is_without (x ∷ xs) y.link ≡ true → (is_without ys x.link ≡ true) × (list_all (λ (z : Bypass). is_without xs z.link) ys ≡ true)
        → (is_without (y ∷ ys) x.link ≡ true) × (list_all (λ (z : Bypass). is_without xs z.link) (y ∷ ys) ≡ true)
    go true is k ih = let bad : false ≡ true = rw is at k in cc
    go false is k ih =
        let flip : (y.link.0 == x.link.0) ≡ false = same_flip y.link.0 x.link.0 ∙ is in
        let here : is_without xs y.link ≡ true = rw is at k in
        (rw flip ih.0, and_from (is_without xs y.link) (list_all (λ (z : Bypass). is_without xs z.link) ys) here ih.1)

pub apart_append : (xs ys : List Bypass) → are_bypasses_apart xs ≡ true → are_bypasses_apart ys ≡ true → list_all (λ (y : Bypass). is_without xs y.link) ys ≡ true → are_bypasses_apart (xs ++ ys) ≡ true
apart_append [] ys h k other = k
apart_append (x ∷ xs) ys h k other =
    let parts = and_parts (is_without xs x.link) (are_bypasses_apart xs) h in
    let split = each_other ys x xs other in
    and_from (is_without (xs ++ ys) x.link) (are_bypasses_apart (xs ++ ys)) (without_append xs ys x.link parts.0 split.0) (apart_append xs ys parts.1 k split.1)

filter_pass : (p : LinkId → Bool) (xs : List LinkId) → list_all p (filter p xs) ≡ true
filter_pass p [] = refl
filter_pass p (x ∷ xs) = go (p x) refl (filter_pass p xs)
  where
    go : (b : Bool) → p x ≡ b → list_all p (filter p xs) ≡ true → list_all p (filter p (x ∷ xs)) ≡ true
    go true is ih = rw is (and_from (p x) (list_all p (filter p xs)) is ih)
    go false is ih = rw is ih

-- a plan stays one
pub stays_plan : (net : Net) (plan : Plan) (found : List Bypass) → IsPlan net plan → AreFound net (wanting plan) found → IsPlan net (with_found plan found)
stays_plan net plan found is are = record {
  no_tables = is.no_tables;
  paths = is.paths;
  paths_apart = is.paths_apart;
  bypasses = all_append (is_bypass_of net) plan.bypasses found is.bypasses (found_bypasses net (wanting plan) found are);
  bypasses_apart =
      apart_append plan.bypasses found is.bypasses_apart
      (found_apart net (wanting plan) found (apart_filter (is_without plan.bypasses) (inner_links plan.paths) (once_apart (flat_map (λ (path : Path). inner path.links) plan.paths))) are)
      (found_pass net (is_without plan.bypasses) (wanting plan) found (filter_pass (is_without plan.bypasses) (inner_links plan.paths)) are);
  ends = is.ends;
}

pub all_filter : (p q : LinkId → Bool) (links : List LinkId) → list_all p links ≡ true → list_all p (filter q links) ≡ true
all_filter p q [] h = refl
all_filter p q (e ∷ links) h =
    let parts = and_parts (p e) (list_all p links) h in
    go (q e) refl parts.0 (all_filter p q links parts.1)
  where
    go : (b : Bool) → q e ≡ b → p e ≡ true → list_all p (filter q links) ≡ true → list_all p (filter q (e ∷ links)) ≡ true
    go true is k ih = rw is (and_from (p e) (list_all p (filter q links)) k ih)
    go false is k ih = rw is ih

-- one link further
pub added_more : (net : Net) (links : List LinkId) (i : ℕ) (d : LinkId) (before so_far after : List Bypass) (o : Option Bypass) → i < length links → IsFound net (get_or links i d) o → after ≡ so_far ++ option_to_list o
    → ((rest : List Bypass) → AreFound net (drop i links) rest → IsAdded net links before (so_far ++ rest)) → (rest : List Bypass) → AreFound net (drop (i + 1) links) rest → IsAdded net links before (after ++ rest)
added_more net links i d before so_far after o lt is more kept rest are =
    let next : suc i ≡ i + 1 = omega arith in
    let front : drop i links ≡ get_or links i d ∷ drop (i + 1) links = drop-cons links i d lt ∙ ap (λ k. get_or links i d ∷ drop k links) next in
    subst (λ t. IsAdded net links before t)
    (sym (append_assoc so_far (option_to_list o) rest) ∙ ap (λ t. t ++ rest) (sym more))
    (kept (option_to_list o ++ rest) (subst (λ ls. AreFound net ls (option_to_list o ++ rest)) (sym front) (found_more net (get_or links i d) (drop (i + 1) links) o rest is are)))

pub added_all : (net : Net) (links : List LinkId) (i : ℕ) (before found : List Bypass) → length links ≤ i
    → ((rest : List Bypass) → AreFound net (drop i links) rest → IsAdded net links before (found ++ rest)) → IsAdded net links before found
added_all net links i before found end kept =
    subst (λ t. IsAdded net links before t) (append-nil found) (kept [] (subst (λ ls. AreFound net ls []) (sym (drop_of_length-le links end)) refl))
