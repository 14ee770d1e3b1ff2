-- The inner links of paths.
use Rattle.std.proofs.Common.{◌≡◌, ℕ, zero, suc, ◌+◌, ◌<◌, ◌≤◌, Bool, true, false, not, ◌&&◌, ◌||◌, ◌==◌, List, [], ◌∷◌, ◌++◌, length, take, drop, slice_get, Some, refl, arith, ap, sym, ◌∙◌}
use Rattle.std.specs.List.{filter, flat_map, list_all}
use Rattle.std.proofs.lemmas.Bool.{and_parts, and_from, eq-eqb}
use Rattle.wi_net.specs.declared.parts.LinkId.{LinkId}
use Rattle.wi_net.specs.Net.{Net, is_link}
use Rattle.wi_net.specs.LinkSet.{has, without}
use Rattle.wi_net.proofs.SetLemmas.{has-filter, all_at, all_from}
use Rattle.wi_net.proofs.KeptLists.{same_flip}
use Rattle.wi_plan.specs.declared.plan.Path.{Path}
use Rattle.wi_plan.specs.Plans.{is_path_of, are_links_apart}
use Rattle.wi_protect.specs.OneWay.{without_last, inner}
use Rattle.wi_protect.proofs.Protection.{path_facts}
use Rattle.wi_bypass.specs.Bypasses.{each_once, inner_links}
use Rattle.wi_bypass.specs.private.Marks.{no_marks, have_marks, is_marked, once_by}
use Rattle.wi_bypass.proofs.MarkLemmas.{none_marked, no_marks_length, once_is}

-- the links between the first and the last, as they are cut out
without_last_is : (e : LinkId) (links : List LinkId) → take (length links) (e ∷ links) ≡ without_last (e ∷ links)
without_last_is e [] = refl
without_last_is e (f ∷ links) = ap (λ t. e ∷ t) (without_last_is f links)

pub inner_is : (links : List LinkId) (n : ℕ) → 2 < length links → n + 2 ≡ length links → take n (drop 1 links) ≡ inner links
inner_is [] n lt is = absurd (omega (arith, lt))
inner_is (d ∷ []) n lt is = absurd (omega (arith, lt))
inner_is (d ∷ e ∷ links) n lt is = let same : n ≡ length links = omega (arith, is) in ap (λ k. take k (e ∷ links)) same ∙ without_last_is e links

pub none_inner : (links : List LinkId) → length links ≤ 2 → inner links ≡ []
none_inner [] le = refl
none_inner (d ∷ []) le = refl
none_inner (d ∷ e ∷ []) le = refl
none_inner (d ∷ e ∷ f ∷ links) le = absurd (omega (arith, le))

-- each once are the same links
pub has_once : (links : List LinkId) (e : LinkId) → has (each_once links) e ≡ has links e
has_once [] e = refl
has_once (d ∷ links) e = go (d.0 == e.0) refl (has_once links e)
  where
    kept : LinkId → Bool
    kept = λ x. not (x.0 == d.0)

    and_not : (x b : Bool) → b ≡ false → (x && not b) ≡ x
    and_not true b is = ap not is
    and_not false b is = refl

    go : (b : Bool) → (d.0 == e.0) ≡ b → has (each_once links) e ≡ has links e → has (each_once (d ∷ links)) e ≡ has (d ∷ links) e
    go true is ih = rw is refl
    go false is ih = rw is (has-filter kept (each_once links) e ∙ and_not (has (each_once links) e) (e.0 == d.0) (same_flip e.0 d.0 ∙ is) ∙ ih)

-- and none twice
pub apart_filter : (p : LinkId → Bool) (links : List LinkId) → are_links_apart links ≡ true → are_links_apart (filter p links) ≡ true
apart_filter p [] h = refl
apart_filter p (e ∷ links) h = go (p e) refl (apart_filter p links (and_parts (not (has links e)) (are_links_apart links) h).1)
  where
    gone : (a b : Bool) → not a ≡ true → not (a && b) ≡ true
    gone false b h = refl
    gone true b h = cc

    first : not (has (filter p links) e) ≡ true
    first = ap not (has-filter p links e) ∙ gone (has links e) (p e) (and_parts (not (has links e)) (are_links_apart links) h).0

    go : (b : Bool) → p e ≡ b → are_links_apart (filter p links) ≡ true → are_links_apart (filter p (e ∷ links)) ≡ true
    go true is ih = rw is (and_from (not (has (filter p links) e)) (are_links_apart (filter p links)) first ih)
    go false is ih = rw is ih

pub once_apart : (links : List LinkId) → are_links_apart (each_once links) ≡ true
once_apart [] = refl
once_apart (e ∷ links) =
    and_from (not (has (without (each_once links) e) e)) (are_links_apart (without (each_once links) e))
    (ap not (has-filter (λ x. not (x.0 == e.0)) (each_once links) e) ∙ own (has (each_once links) e))
    (apart_filter (λ x. not (x.0 == e.0)) (each_once links) (once_apart links))
  where
    own : (b : Bool) → not (b && not (e.0 == e.0)) ≡ true
    own b = let same : (e.0 == e.0) ≡ true = eq-eqb e.0 e.0 refl in rw same (none b)
      where
        none : (c : Bool) → not (c && false) ≡ true
        none true = refl
        none false = refl

-- the inner links of paths of a network are links of it
pub all_append : {X : Type 0} (p : X → Bool) (xs ys : List X) → list_all p xs ≡ true → list_all p ys ≡ true → list_all p (xs ++ ys) ≡ true
all_append p [] ys h k = k
all_append p (x ∷ xs) ys h k =
    let parts = and_parts (p x) (list_all p xs) h in
    and_from (p x) (list_all p (xs ++ ys)) parts.0 (all_append p xs ys parts.1 k)

all_without_last : (p : LinkId → Bool) (links : List LinkId) → list_all p links ≡ true → list_all p (without_last links) ≡ true
all_without_last p [] h = refl
all_without_last p (e ∷ []) h = refl
all_without_last p (e ∷ f ∷ links) h =
    let parts = and_parts (p e) (list_all p (f ∷ links)) h in
    and_from (p e) (list_all p (without_last (f ∷ links))) parts.0 (all_without_last p (f ∷ links) parts.1)

all_inner : (p : LinkId → Bool) (links : List LinkId) → list_all p links ≡ true → list_all p (inner links) ≡ true
all_inner p [] h = refl
all_inner p (e ∷ links) h = all_without_last p links (and_parts (p e) (list_all p links) h).1

path_links : (net : Net) (path : Path) → is_path_of net path ≡ true → list_all (is_link net) path.links ≡ true
path_links net path h = (path_facts net path h).links_known

pub flat_links : (net : Net) (paths : List Path) → list_all (is_path_of net) paths ≡ true → list_all (is_link net) (flat_map (λ (path : Path). inner path.links) paths) ≡ true
flat_links net [] h = refl
flat_links net (path ∷ paths) h =
    let parts = and_parts (is_path_of net path) (list_all (is_path_of net) paths) h in
    all_append (is_link net) (inner path.links) (flat_map (λ (q : Path). inner q.links) paths)
    (all_inner (is_link net) path.links (path_links net path parts.0)) (flat_links net paths parts.1)

pub inner_known : (net : Net) (paths : List Path) → list_all (is_path_of net) paths ≡ true → list_all (is_link net) (inner_links paths) ≡ true
inner_known net paths h =
    let all : List LinkId = flat_map (λ (path : Path). inner path.links) paths in
    all_from (is_link net) (each_once all) (λ e has_e. all_at (is_link net) all e (flat_links net paths h) (sym (has_once all e) ∙ has_e))

-- an inner link of one of the paths is among them
has_append_left : (xs ys : List LinkId) (e : LinkId) → has xs e ≡ true → has (xs ++ ys) e ≡ true
has_append_left [] ys e h = cc
has_append_left (x ∷ xs) ys e h = go (x.0 == e.0) refl h (has_append_left xs ys e)
  where
    go : (b : Bool) → (x.0 == e.0) ≡ b → has (x ∷ xs) e ≡ true → (has xs e ≡ true → has (xs ++ ys) e ≡ true) → has ((x ∷ xs) ++ ys) e ≡ true
    go true is k ih = rw is refl
    go false is k ih = rw is (ih (rw is at k))

has_append_right : (xs ys : List LinkId) (e : LinkId) → has ys e ≡ true → has (xs ++ ys) e ≡ true
has_append_right [] ys e h = h
has_append_right (x ∷ xs) ys e h = rw (has_append_right xs ys e h) (or_true (x.0 == e.0))
  where
    or_true : (b : Bool) → (b || true) ≡ true
    or_true true = refl
    or_true false = refl

has_flat : (paths : List Path) (p : ℕ) (path : Path) (e : LinkId) → slice_get paths p ≡ Some path → has (inner path.links) e ≡ true → has (flat_map (λ (q : Path). inner q.links) paths) e ≡ true
has_flat [] p path e at h = cc
has_flat (q ∷ paths) zero path e at h =
    let same : q ≡ path = cc in
    has_append_left (inner q.links) (flat_map (λ (r : Path). inner r.links) paths) e (ap (λ (r : Path). has (inner r.links) e) same ∙ h)
has_flat (q ∷ paths) (suc p) path e at h = has_append_right (inner q.links) (flat_map (λ (r : Path). inner r.links) paths) e (has_flat paths p path e at h)

pub has_inner : (paths : List Path) (p : ℕ) (path : Path) (e : LinkId) → slice_get paths p ≡ Some path → has (inner path.links) e ≡ true → has (inner_links paths) e ≡ true
has_inner paths p path e at h = has_once (flat_map (λ (q : Path). inner q.links) paths) e ∙ has_flat paths p path e at h

-- what is gathered along the paths, and then each once
pub all_marks : (net : Net) (n : ℕ) (paths : List Path) (links : List LinkId) → n ≡ length net.links → links ≡ flat_map (λ (path : Path). inner path.links) paths → list_all (is_path_of net) paths ≡ true → have_marks n links ≡ true
all_marks net n paths links count are h = ap (λ k. have_marks k links) count ∙ ap (λ ls. list_all (is_link net) ls) are ∙ flat_links net paths h

keep_all : (p : LinkId → Bool) → ((e : LinkId) → p e ≡ true) → (links : List LinkId) → filter p links ≡ links
keep_all p each [] = refl
keep_all p each (e ∷ links) = rw (each e) (ap (λ t. e ∷ t) (keep_all p each links))

pub inner_links_are : (net : Net) (n : ℕ) (paths : List Path) (links : List LinkId) → n ≡ length net.links → links ≡ flat_map (λ (path : Path). inner path.links) paths → list_all (is_path_of net) paths ≡ true → once_by (no_marks n) links ≡ inner_links paths
inner_links_are net n paths links count are h =
    once_is (no_marks n) links (ap (λ k. have_marks k links) (no_marks_length n) ∙ all_marks net n paths links count are h)
    ∙ keep_all (λ e. not (is_marked (no_marks n) e)) (λ e. ap not (none_marked n e)) (each_once links)
    ∙ ap each_once are
