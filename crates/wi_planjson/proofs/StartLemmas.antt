-- Where paths set out, and which links have a bypass, by their keys.
use Rattle.std.proofs.Common.{◌≡◌, ℕ, ◌+◌, ◌-◌, ◌<◌, ◌≤◌, Bool, true, false, not, ◌&&◌, ◌==◌, List, [], ◌∷◌, ◌++◌, drop, length, slice_get, get_or, Some, None, Option, Ok, Err, refl, sym, ap, ◌∙◌, add-one}
use Rattle.std.specs.List.{list_any, position_from}
use Rattle.std.proofs.Math.Seq.{drop-cons}
use Rattle.std.proofs.lemmas.List.{drop_all}
use Rattle.std.proofs.lemmas.Iterator.Adapters.{position_from-zero}
use Rattle.indexmap.specs.IndexSet.{insert_key}
use Rattle.wi_labels.specs.declared.label.Label.{Label}
use Rattle.wi_net.specs.declared.parts.LinkId.{LinkId}
use Rattle.wi_net.proofs.KeptLists.{same_flip}
use Rattle.wi_plan.specs.declared.plan.Path.{Path}
use Rattle.wi_plan.specs.declared.plan.Bypass.{Bypass}
use Rattle.wi_plan.specs.Plans.{first_of, last_of, sets_out, is_end}
use Rattle.wi_planjson.specs.Paths.{is_free}
use Rattle.wi_planjson.specs.Bypasses.{is_bypassed}
use Rattle.wi_planjson.specs.Plan.{all_end}
use Rattle.wi_planjson.specs.Reading.{nowhere}
use Rattle.wi_planjson.specs.declared.refused.Place.TheVariants.{Path as PathAt}
use Rattle.wi_planjson.specs.declared.refused.PlanRefused.TheVariants.{Continues}
use Rattle.wi_planjson.specs.private.Starts.{starts_of, links_of}
use Rattle.wi_planjson.proofs.RouteLemmas.{first_is, last_is}

either_order : (a b : Bool) → (a && b) ≡ (b && a)
either_order true true = refl
either_order true false = refl
either_order false true = refl
either_order false false = refl

pub never : (a : Bool) → (a && false) ≡ false
never true = refl
never false = refl

abbrev same_pair : ℕ × ℕ → ℕ × ℕ → Bool
same_pair j k = (j.0 == k.0) && (j.1 == k.1)

-- a path sets out somewhere where its key is there
pub start_found : (e : LinkId) (ip : Label) (paths : List Path) → list_any (λ k. (e.0 == k.0) && (ip.0 == k.1)) (starts_of paths) ≡ list_any (sets_out e ip) paths
start_found e ip [] = refl
start_found e ip (path ∷ paths) = go (first_of path.links) refl (start_found e ip paths)
  where
    go : (o : Option LinkId) → first_of path.links ≡ o → list_any (λ k. (e.0 == k.0) && (ip.0 == k.1)) (starts_of paths) ≡ list_any (sets_out e ip) paths → list_any (λ k. (e.0 == k.0) && (ip.0 == k.1)) (starts_of (path ∷ paths)) ≡ list_any (sets_out e ip) (path ∷ paths)
    go (Some f) is rest = rw (is, either_order (e.0 == f.0) (ip.0 == path.ip.0), rest) refl
    go None is rest = rw (is, never (ip.0 == path.ip.0)) rest

-- the key of one path more
pub start_last : (paths : List Path) (path : Path) (e : LinkId) → first_of path.links ≡ Some e → starts_of (paths ++ path ∷ []) ≡ starts_of paths ++ (e.0, path.ip.0) ∷ []
start_last [] path e is = rw is refl
start_last (p ∷ paths) path e is = go (first_of p.links) refl (start_last paths path e is)
  where
    go : (o : Option LinkId) → first_of p.links ≡ o → starts_of (paths ++ path ∷ []) ≡ starts_of paths ++ (e.0, path.ip.0) ∷ [] → starts_of (p ∷ (paths ++ path ∷ [])) ≡ starts_of (p ∷ paths) ++ (e.0, path.ip.0) ∷ []
    go (Some f) at rest = rw at (ap (λ ks. (f.0, p.ip.0) ∷ ks) rest)
    go None at rest = rw at rest

pub start_none : (paths : List Path) (path : Path) → first_of path.links ≡ None → starts_of (paths ++ path ∷ []) ≡ starts_of paths
start_none [] path is = rw is refl
start_none (p ∷ paths) path is = go (first_of p.links) refl (start_none paths path is)
  where
    go : (o : Option LinkId) → first_of p.links ≡ o → starts_of (paths ++ path ∷ []) ≡ starts_of paths → starts_of (p ∷ (paths ++ path ∷ [])) ≡ starts_of (p ∷ paths)
    go (Some f) at rest = rw at (ap (λ ks. (f.0, p.ip.0) ∷ ks) rest)
    go None at rest = rw at rest

pub untrue : (b : Bool) → not b ≡ true → b ≡ false
untrue true e = sym e
untrue false e = refl

-- a path that sets out where none does has its key put last
pub start_added : (paths : List Path) (path : Path) (e : LinkId) (before after : List (ℕ × ℕ)) → is_free paths path ≡ true → first_of path.links ≡ Some e → before ≡ starts_of paths
    → after ≡ insert_key same_pair before (e.0, path.ip.0) → after ≡ starts_of (paths ++ path ∷ [])
start_added paths path e before after free is keys made =
    let none : list_any (sets_out e path.ip) paths ≡ false = untrue _ (rw is at free) in
    let absent : list_any (same_pair (e.0, path.ip.0)) before ≡ false = ap (list_any (same_pair (e.0, path.ip.0))) keys ∙ start_found e path.ip paths ∙ none in
    let plain : after ≡ before ++ (e.0, path.ip.0) ∷ [] = made ∙ rw absent refl in
    plain ∙ ap (λ ks. ks ++ (e.0, path.ip.0) ∷ []) keys ∙ sym (start_last paths path e is)

-- a path is pushed behind what is there, and its key behind the keys
pub pushed_some : (paths old list : List Path) (path : Path) (links : List LinkId) (e : LinkId) (before after : List (ℕ × ℕ)) → is_free paths path ≡ true → old ≡ paths → links ≡ path.links → Some e ≡ slice_get links 0 → before ≡ starts_of old
    → list ≡ old → after ≡ insert_key same_pair before (e.0, path.ip.0) → after ≡ starts_of (list ++ path ∷ [])
pushed_some paths old list path links e before after free seen given there keys same made =
    let first : first_of path.links ≡ Some e = sym (first_is path.links) ∙ ap (λ ls. slice_get ls 0) (sym given) ∙ sym there in
    let free_here : is_free old path ≡ true = ap (λ ps. is_free ps path) seen ∙ free in
    start_added old path e before after free_here first keys made ∙ ap (λ ps. starts_of (ps ++ path ∷ [])) (sym same)

pub pushed_none : (old list : List Path) (path : Path) (links : List LinkId) (after : List (ℕ × ℕ)) → links ≡ path.links → None ≡ slice_get links 0 → list ≡ old → after ≡ starts_of old → after ≡ starts_of (list ++ path ∷ [])
pushed_none old list path links after given there same keys =
    let first : first_of path.links ≡ None = sym (first_is path.links) ∙ ap (λ ls. slice_get ls 0) (sym given) ∙ sym there in
    keys ∙ sym (start_none old path first) ∙ ap (λ ps. starts_of (ps ++ path ∷ [])) (sym same)

-- whether a path is free, and whether it ends, by its first and its last link
pub free_by : (paths : List Path) (path : Path) (links : List LinkId) (e : LinkId) (b : Bool) → links ≡ path.links → Some e ≡ slice_get links 0 → b ≡ list_any (sets_out e path.ip) paths → not b ≡ is_free paths path
free_by paths path links e b given there is =
    let first : first_of path.links ≡ Some e = sym (first_is path.links) ∙ ap (λ ls. slice_get ls 0) (sym given) ∙ sym there in
    rw (first, is) refl

pub end_by : (paths : List Path) (path : Path) (links : List LinkId) (e : LinkId) (b : Bool) → links ≡ path.links → Some e ≡ slice_get links (length links - 1) → b ≡ list_any (sets_out e path.ip) paths → not b ≡ is_end paths path
end_by paths path links e b given there is =
    let last : last_of path.links ≡ Some e = sym (last_is path.links) ∙ ap (λ ls. slice_get ls (length ls - 1)) (sym given) ∙ sym there in
    rw (last, is) refl

-- the first path that goes on
abbrev goes_on : List Path → Path → Bool
goes_on paths path = not (is_end paths path)

pub ends_here : (paths list : List Path) (i : ℕ) (path : Path) → list ≡ paths → i < length list → path ≡ get_or list i path → is_end paths path ≡ false → position_from (goes_on paths) i (drop i list) ≡ position_from (goes_on paths) 0 paths
    → all_end paths ≡ Err (Continues (PathAt i))
ends_here paths list i path same lt is fails so_far =
    let split : drop i list ≡ path ∷ drop (i + 1) list = rw (add-one, drop-cons list i path lt, ← is) refl in
    let here : position_from (goes_on paths) i (drop i list) ≡ Some i = rw (split, fails) refl in
    ap (nowhere (λ j. Continues (PathAt j))) (position_from-zero (goes_on paths) paths ∙ sym so_far ∙ here)

pub ends_all : (paths list : List Path) (i : ℕ) → list ≡ paths → length list ≤ i → position_from (goes_on paths) i (drop i list) ≡ position_from (goes_on paths) 0 paths → all_end paths ≡ Ok tt
ends_all paths list i same le so_far =
    let none : position_from (goes_on paths) i (drop i list) ≡ None = rw (drop_all i list le) refl in
    ap (nowhere (λ j. Continues (PathAt j))) (position_from-zero (goes_on paths) paths ∙ sym so_far ∙ none)

-- a link has a bypass where its key is there
pub bypass_found : (e : LinkId) (bypasses : List Bypass) → list_any (λ k. e.0 == k.0) (links_of bypasses) ≡ is_bypassed bypasses e
bypass_found e [] = refl
bypass_found e (b ∷ bypasses) = rw (same_flip e.0 b.link.0, bypass_found e bypasses) refl

bypass_last : (bypasses : List Bypass) (bypass : Bypass) → links_of (bypasses ++ bypass ∷ []) ≡ links_of bypasses ++ bypass.link ∷ []
bypass_last [] bypass = refl
bypass_last (b ∷ bypasses) bypass = ap (λ ks. b.link ∷ ks) (bypass_last bypasses bypass)

pub bypass_added : (bypasses : List Bypass) (bypass : Bypass) (before after : List LinkId) → is_bypassed bypasses bypass.link ≡ false → before ≡ links_of bypasses
    → after ≡ insert_key (λ a b. a.0 == b.0) before bypass.link → after ≡ links_of (bypasses ++ bypass ∷ [])
bypass_added bypasses bypass before after free keys made =
    let absent : list_any (λ k. bypass.link.0 == k.0) before ≡ false = ap (list_any (λ k. bypass.link.0 == k.0)) keys ∙ bypass_found bypass.link bypasses ∙ free in
    let plain : after ≡ before ++ bypass.link ∷ [] = made ∙ rw absent refl in
    plain ∙ ap (λ ks. ks ++ bypass.link ∷ []) keys ∙ sym (bypass_last bypasses bypass)
