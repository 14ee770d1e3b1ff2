-- A plan that was written is read as it was.
use Rattle.std.proofs.Common.{◌≡◌, ℕ, ◌+◌, ◌<◌, ◌≤◌, Bool, true, false, cond, not, ◌&&◌, ◌||◌, ◌==◌, List, [], ◌∷◌, ◌++◌, map, length, slice_get, position, Option, Some, None, Result, Ok, refl, sym, ap, ◌∙◌, append_assoc, append-nil, true≢false, arith}
use Rattle.std.specs.Prelude.{nat_le, option_and_then}
use Rattle.std.specs.List.{list_any, list_all}
use Rattle.std.specs.Option.{option_map_or}
use Rattle.std.specs.Str.{IsUtf8}
use Rattle.std.proofs.lemmas.Bool.{and_parts, or_parts, or_from, eq-eqb, eqb-true, ltb-true, le-leb}
use Rattle.std.proofs.lemmas.List.Folds.{list_any-append}
use Rattle.std.proofs.lemmas.Option.{slice_get_within}
use Rattle.serde_json.specs.Data.{Data, depth}
use Rattle.serde_json.specs.Read.{read, max_depth}
use Rattle.serde_json.specs.View.{items_of}
use Rattle.wi_labels.specs.declared.label.Class.TheVariants.{Ip}
use Rattle.wi_labels.specs.declared.label.Label.{Label}
use Rattle.wi_labels.specs.Header.{same_class}
use Rattle.wi_net.specs.declared.parts.Link.{Link}
use Rattle.wi_net.specs.declared.parts.LinkId.{LinkId}
use Rattle.wi_net.specs.Net.{Net, is_link, label_known}
use Rattle.wi_net.specs.LinkSet.{has}
use Rattle.wi_net.specs.Network.{IsNetwork, leaves}
use Rattle.wi_net.specs.Finding.{find_router, find_out}
use Rattle.wi_net.specs.Builder.{◌>>=◌, found_or}
use Rattle.wi_net.proofs.EndLemmas.{has_ends}
use Rattle.wi_net.proofs.FindingLemmas.{none_any}
use Rattle.wi_net.proofs.KeptLists.{nothing_is, none_from, none_by, get_there, there_parts, same_flip}
use Rattle.wi_net.proofs.PlaceLemmas.{IsApart, before}
use Rattle.wi_netjson.specs.Written.{name_at, out_name, label_name}
use Rattle.wi_netjson.proofs.ReadLinks.{router_is_found}
use Rattle.wi_netjson.proofs.ReadTables.{label_is_found, out_is_found}
use Rattle.wi_plan.specs.declared.plan.Path.{Path}
use Rattle.wi_plan.specs.declared.plan.Bypass.{Bypass}
use Rattle.wi_plan.specs.declared.plan.Plan.{Plan}
use Rattle.wi_plan.specs.Plans.{is_joined, is_around, reaches, are_links_apart, is_path_of, first_of, last_of, sets_out, are_paths_apart, is_end, is_bypass_of, are_bypasses_apart, IsPlan}
use Rattle.wi_planjson.specs.declared.refused.Place.{Place}
use Rattle.wi_planjson.specs.declared.refused.Place.TheVariants.{Path as PathAt, PathLink, ViaLink}
use Rattle.wi_planjson.specs.declared.refused.PlanRefused.{PlanRefused}
use Rattle.wi_planjson.specs.declared.refused.PlanRefused.TheVariants.{Unknown, Continues}
use Rattle.wi_planjson.specs.Reading.{each, nowhere}
use Rattle.wi_planjson.specs.Names.{link_of, ip_of, named_at, link_at}
use Rattle.wi_planjson.specs.Routes.{first_break, repeat_from, first_repeat}
use Rattle.wi_planjson.specs.Paths.{is_free, path_rules, path_of, path_at, paths_of}
use Rattle.wi_planjson.specs.Bypasses.{is_bypassed, place_of, bypass_rules, bypass_of, bypass_at, bypasses_of}
use Rattle.wi_planjson.specs.Plan.{all_end, plan_by, plan_of, plan_in}
use Rattle.wi_planjson.specs.Written.{source_name, link_names, bypass_data, path_data, plan_data}
use Rattle.wi_planjson.proofs.ReadLemmas.{json_is}
use Rattle.wi_planjson.proofs.RouteLemmas.{break_is}
use Rattle.wi_planjson.proofs.StartLemmas.{never, untrue}
use Rattle.wi_planjson.proofs.PlanText.{plan_flat}

-- ---- links and labels by their names

link_is_found : (net : Net) (e : LinkId) → IsNetwork net → is_link net e ≡ true → link_of net (link_names net e) ≡ Some e
link_is_found net e k linked = ap (option_and_then (λ r. find_out net r (out_name net e))) router ∙ out_is_found net net.rows e there.0 k there.1
  where
    there : (l : Link) × (slice_get net.links e.0 ≡ Some l)
    there = get_there net.links e.0 (ltb-true e.0 (length net.links) linked)

    source : source_name net e ≡ name_at net.routers (there.0).from.0
    source = rw there.1 refl

    router : find_router net (source_name net e) ≡ Some (there.0).from
    router = ap (find_router net) source ∙ router_is_found net (there.0).from k.routers (has_ends net e.0 there.0 k there.1).from

links_are_named : (net : Net) (place : ℕ → Place) (links : List LinkId) (j : ℕ) → each (named_at place) tt j (items_of (map (link_names net) links)) ≡ Ok tt
links_are_named net place [] j = refl
links_are_named net place (e ∷ links) j = links_are_named net place links (j + 1)

links_are_read : (net : Net) (place : ℕ → Place) (rest so_far : List LinkId) (j : ℕ) → IsNetwork net → list_all (is_link net) rest ≡ true → each (link_at net place) so_far j (items_of (map (link_names net) rest)) ≡ Ok (so_far ++ rest)
links_are_read net place [] so_far j k all = ap Ok (sym (append-nil so_far))
links_are_read net place (e ∷ rest) so_far j k all =
    let parts = and_parts (is_link net e) (list_all (is_link net) rest) all in
    let go : Option LinkId → Result (List LinkId) PlanRefused = λ o. (found_or (Unknown (place j)) o >>= λ f. Ok (so_far ++ f ∷ [])) >>= λ next. each (link_at net place) next (j + 1) (items_of (map (link_names net) rest)) in
    ap go (link_is_found net e k parts.0) ∙ links_are_read net place rest (so_far ++ e ∷ []) (j + 1) k parts.1 ∙ ap Ok (append_assoc so_far (e ∷ []) rest)

ip_is_found : (net : Net) (ip : Label) → IsNetwork net → label_known net.classes (ip, Ip) ≡ true → ip_of net (label_name net ip) ≡ Some ip
ip_is_found net ip k known = ap (option_and_then (λ l. cond (label_known net.classes (l, Ip)) (Some l) None)) (label_is_found net net.rows ip k within) ∙ rw known refl
  where
    within : ip.0 < length net.labels
    within =
        let class = there_parts (λ c. same_class c Ip) (slice_get net.classes ip.0) known in
        let here = slice_get_within net.classes ip.0 class.0 class.1 in
        let len = k.classes in
        omega (arith, here, len)

-- ---- paths

-- where no link stands twice none is found again
no_repeat : (links so_far : List LinkId) (j : ℕ) → are_links_apart links ≡ true → ((x : LinkId) → has so_far x ≡ true → has links x ≡ false) → repeat_from so_far j links ≡ None
no_repeat [] so_far j apart other = refl
no_repeat (e ∷ links) so_far j apart other = go (has so_far e) refl (no_repeat links (so_far ++ e ∷ []) (j + 1) parts.1 (λ x h. later x (has so_far x) refl (sym (list_any-append (λ (y : LinkId). y.0 == x.0) so_far (e ∷ [])) ∙ h)))
  where
    parts : (not (has links e) ≡ true) × (are_links_apart links ≡ true)
    parts = and_parts (not (has links e)) (are_links_apart links) apart

    later : (x : LinkId) (b : Bool) → has so_far x ≡ b → (b || ((e.0 == x.0) || false)) ≡ true → has links x ≡ false
    later x true is h = (or_parts (e.0 == x.0) (has links x) (other x is)).1
    later x false is h = last (e.0 == x.0) refl h
      where
        last : (b : Bool) → (e.0 == x.0) ≡ b → (b || false) ≡ true → has links x ≡ false
        last true same g = ap (λ n. list_any (λ (y : LinkId). y.0 == n) links) (sym (eqb-true e.0 x.0 same)) ∙ untrue _ parts.0
        last false same g = cc

    go : (b : Bool) → has so_far e ≡ b → repeat_from (so_far ++ e ∷ []) (j + 1) links ≡ None → repeat_from so_far j (e ∷ links) ≡ None
    go true is rest = absurd (true≢false (sym (eq-eqb e.0 e.0 refl) ∙ (or_parts (e.0 == e.0) (has links e) (other e is)).0))
    go false is rest = rw is rest

-- a path among others that set out elsewhere is free of those before it
free_of : (pre rest : List Path) (p : Path) → are_paths_apart (pre ++ p ∷ rest) ≡ true → is_free pre p ≡ true
free_of [] rest p apart = alone (first_of p.links)
  where
    alone : (o : Option LinkId) → option_map_or (λ e. not (list_any (sets_out e p.ip) [])) o true ≡ true
    alone (Some e) = refl
    alone None = refl
free_of (q ∷ pre) rest p apart = go (first_of p.links) refl (free_of pre rest p parts.1)
  where
    parts : (option_map_or (λ e. not (list_any (sets_out e q.ip) (pre ++ p ∷ rest))) (first_of q.links) true ≡ true) × (are_paths_apart (pre ++ p ∷ rest) ≡ true)
    parts = and_parts (option_map_or (λ e. not (list_any (sets_out e q.ip) (pre ++ p ∷ rest))) (first_of q.links) true) (are_paths_apart (pre ++ p ∷ rest)) apart

    elsewhere : (f : LinkId) → first_of p.links ≡ Some f → (o : Option LinkId) → option_map_or (λ e. not (list_any (sets_out e q.ip) (pre ++ p ∷ rest))) o true ≡ true → ((p.ip.0 == q.ip.0) && option_map_or (λ g. f.0 == g.0) o false) ≡ false
    elsewhere f at None h = never (p.ip.0 == q.ip.0)
    elsewhere f at (Some g) h =
        let all : (list_any (sets_out g q.ip) pre || (sets_out g q.ip p || list_any (sets_out g q.ip) rest)) ≡ false = sym (list_any-append (sets_out g q.ip) pre (p ∷ rest)) ∙ untrue _ h in
        let here = (or_parts (sets_out g q.ip p) (list_any (sets_out g q.ip) rest) (or_parts (list_any (sets_out g q.ip) pre) _ all).1).0 in
        let turned : ((q.ip.0 == p.ip.0) && (g.0 == f.0)) ≡ false = rw at at here in
        rw (same_flip p.ip.0 q.ip.0, same_flip f.0 g.0) turned

    go : (o : Option LinkId) → first_of p.links ≡ o → is_free pre p ≡ true → is_free (q ∷ pre) p ≡ true
    go None is free = rw is refl
    go (Some f) is free =
        let others : not (list_any (sets_out f p.ip) pre) ≡ true = rw is at free in
        let none : (sets_out f p.ip q || list_any (sets_out f p.ip) pre) ≡ false = or_from (sets_out f p.ip q) (list_any (sets_out f p.ip) pre) (elsewhere f is (first_of q.links) parts.0) (untrue _ others) in
        rw (is, none) refl

-- what a path is, part by part
record PathParts (net : Net) (p : Path) : Type 0 where
  ip : label_known net.classes (p.ip, Ip) ≡ true
  known : list_all (is_link net) p.links ≡ true
  long : nat_le 3 (length p.links) ≡ true
  joined : is_joined net p.links ≡ true
  apart : are_links_apart p.links ≡ true

path_parts : (net : Net) (p : Path) → is_path_of net p ≡ true → PathParts net p
path_parts net p is =
    let ip = and_parts (label_known net.classes (p.ip, Ip)) _ is in
    let known = and_parts (list_all (is_link net) p.links) _ ip.1 in
    let long = and_parts (nat_le 3 (length p.links)) _ known.1 in
    let joined = and_parts (is_joined net p.links) (are_links_apart p.links) long.1 in
    record { ip = ip.0; known = known.0; long = long.0; joined = joined.0; apart = joined.1 }

path_is_read : (net : Net) (i : ℕ) (p : Path) → IsNetwork net → PathParts net p → path_of net i (path_data net p) ≡ Ok p
unfolding path_of
path_is_read net i p k parts = rw (links_are_named net (PathLink i) p.links 0, ip_is_found net p.ip k parts.ip, links_are_read net (PathLink i) p.links [] 0 k parts.known) refl

path_fits : (net : Net) (pre : List Path) (i : ℕ) (p : Path) → PathParts net p → is_free pre p ≡ true → path_rules net pre i p ≡ Ok tt
unfolding path_rules
path_fits net pre i p parts free =
    let whole : first_break net p.links ≡ None = nothing_is (first_break net p.links) (break_is net 0 p.links ∙ parts.joined) in
    let once : first_repeat p.links ≡ None = no_repeat p.links [] 0 parts.apart (λ x h. absurd (true≢false (sym h))) in
    rw (parts.long, whole, once, free) refl

path_is_added : (net : Net) (pre rest : List Path) (i : ℕ) (p : Path) → IsNetwork net → is_path_of net p ≡ true → are_paths_apart (pre ++ p ∷ rest) ≡ true → path_at net pre i (path_data net p) ≡ Ok (pre ++ p ∷ [])
unfolding path_at
path_is_added net pre rest i p k is apart =
    let parts = path_parts net p is in
    rw (path_is_read net i p k parts, path_fits net pre i p parts (free_of pre rest p apart)) refl

paths_are_read : (net : Net) (rest pre : List Path) (i : ℕ) → IsNetwork net → list_all (is_path_of net) rest ≡ true → are_paths_apart (pre ++ rest) ≡ true → each (path_at net) pre i (items_of (map (path_data net) rest)) ≡ Ok (pre ++ rest)
paths_are_read net [] pre i k all apart = ap Ok (sym (append-nil pre))
paths_are_read net (p ∷ rest) pre i k all apart =
    let parts = and_parts (is_path_of net p) (list_all (is_path_of net) rest) all in
    let joined : (pre ++ p ∷ []) ++ rest ≡ pre ++ p ∷ rest = append_assoc pre (p ∷ []) rest in
    rw (path_is_added net pre rest i p k parts.0 apart) (paths_are_read net rest (pre ++ p ∷ []) (i + 1) k parts.1 (ap are_paths_apart joined ∙ apart) ∙ ap Ok joined)

-- ---- bypasses

-- a bypass is of the same link
abbrev same_link : Bypass → Bypass → Bool
same_link b other = other.link.0 == b.link.0

links_apart : IsApart same_link are_bypasses_apart
links_apart = record { flip = λ x y e. same_flip x.link.0 y.link.0 ∙ e; self = λ x. eq-eqb x.link.0 x.link.0 refl; head = head }
  where
    head : (x : Bypass) (xs : List Bypass) → are_bypasses_apart (x ∷ xs) ≡ true → (position (same_link x) xs ≡ None) × (are_bypasses_apart xs ≡ true)
    head x xs all =
        let parts = and_parts (not (list_any (same_link x) xs)) (are_bypasses_apart xs) all in
        (none_from (same_link x) xs (untrue _ parts.0), parts.1)

-- what leads around a link has a link
some_way : (net : Net) (e : LinkId) (via : List LinkId) → is_around net e via ≡ true → nat_le 1 (length via) ≡ true
some_way net e [] around =
    let there = there_parts (λ (l : Link). option_map_or (λ v. leaves net l.from v) (first_of []) false && option_map_or (λ v. reaches net l.to v) (last_of []) false) (slice_get net.links e.0) around in
    absurd (true≢false (sym there.2))
some_way net e (v ∷ via) around = le-leb 1 (length (v ∷ via)) (omega arith)

record BypassParts (net : Net) (b : Bypass) : Type 0 where
  linked : is_link net b.link ≡ true
  known : list_all (is_link net) b.via ≡ true
  joined : is_joined net b.via ≡ true
  around : is_around net b.link b.via ≡ true
  other : has b.via b.link ≡ false

bypass_parts : (net : Net) (b : Bypass) → is_bypass_of net b ≡ true → BypassParts net b
bypass_parts net b is =
    let linked = and_parts (is_link net b.link) _ is in
    let known = and_parts (list_all (is_link net) b.via) _ linked.1 in
    let joined = and_parts (is_joined net b.via) _ known.1 in
    let around = and_parts (is_around net b.link b.via) (not (has b.via b.link)) joined.1 in
    record { linked = linked.0; known = known.0; joined = joined.0; around = around.0; other = untrue _ around.1 }

bypass_is_read : (net : Net) (i : ℕ) (b : Bypass) → IsNetwork net → BypassParts net b → bypass_of net i (bypass_data net b) ≡ Ok b
unfolding bypass_of
bypass_is_read net i b k parts = rw (links_are_named net (ViaLink i) b.via 0, link_is_found net b.link k parts.linked, links_are_read net (ViaLink i) b.via [] 0 k parts.known) refl

bypass_fits : (net : Net) (pre : List Bypass) (i : ℕ) (b : Bypass) → BypassParts net b → is_bypassed pre b.link ≡ false → bypass_rules net pre i b ≡ Ok tt
unfolding bypass_rules
bypass_fits net pre i b parts new =
    let away : place_of b.link b.via ≡ None = none_from (λ (v : LinkId). v.0 == b.link.0) b.via parts.other in
    rw (some_way net b.link b.via parts.around, parts.joined, parts.around, new, away) refl

bypass_is_added : (net : Net) (pre rest : List Bypass) (i : ℕ) (b : Bypass) → IsNetwork net → is_bypass_of net b ≡ true → are_bypasses_apart (pre ++ b ∷ rest) ≡ true → bypass_at net pre i (bypass_data net b) ≡ Ok (pre ++ b ∷ [])
unfolding bypass_at
bypass_is_added net pre rest i b k is apart =
    let parts = bypass_parts net b is in
    let new : is_bypassed pre b.link ≡ false = none_any (same_link b) pre (before same_link are_bypasses_apart links_apart pre rest b apart) in
    rw (bypass_is_read net i b k parts, bypass_fits net pre i b parts new) refl

bypasses_are_read : (net : Net) (rest pre : List Bypass) (i : ℕ) → IsNetwork net → list_all (is_bypass_of net) rest ≡ true → are_bypasses_apart (pre ++ rest) ≡ true
    → each (bypass_at net) pre i (items_of (map (bypass_data net) rest)) ≡ Ok (pre ++ rest)
bypasses_are_read net [] pre i k all apart = ap Ok (sym (append-nil pre))
bypasses_are_read net (b ∷ rest) pre i k all apart =
    let parts = and_parts (is_bypass_of net b) (list_all (is_bypass_of net) rest) all in
    let joined : (pre ++ b ∷ []) ++ rest ≡ pre ++ b ∷ rest = append_assoc pre (b ∷ []) rest in
    rw (bypass_is_added net pre rest i b k parts.0 apart) (bypasses_are_read net rest (pre ++ b ∷ []) (i + 1) k parts.1 (ap are_bypasses_apart joined ∙ apart) ∙ ap Ok joined)

-- ---- the whole

-- no path goes on where each ends
ends_hold : (paths : List Path) → list_all (is_end paths) paths ≡ true → all_end paths ≡ Ok tt
ends_hold paths ends = ap (nowhere (λ i. Continues (PathAt i))) (none_by (λ path. not (is_end paths path)) (is_end paths) paths (λ path e. ap not e) ends)

plan_is_read : (net : Net) (plan : Plan) (unprotected : List LinkId) → IsNetwork net → IsPlan net plan → plan_of net (plan_data net plan unprotected) ≡ Ok plan
unfolding plan_by paths_of bypasses_of
plan_is_read net plan unprotected k p =
    let empty : (length net.rows == 0) ≡ true = ap (λ rows. length rows == 0) p.no_tables in
    rw (empty, paths_are_read net plan.paths [] 0 k p.paths p.paths_apart, bypasses_are_read net plan.bypasses [] 0 k p.bypasses p.bypasses_apart, ends_hold plan.paths p.ends) refl

-- bytes that read as the value of a plan have the plan
pub plan_means : (net : Net) (plan : Plan) (unprotected : List LinkId) (d : Data) (bytes : List ℕ) → IsNetwork net → IsPlan net plan → d ≡ plan_data net plan unprotected → IsUtf8 bytes → (depth d ≤ max_depth → read bytes ≡ Some d) → plan_in net bytes ≡ Ok plan
unfolding plan_in
plan_means net plan unprotected d bytes k p is utf8 reads = rw (json_is bytes d (utf8, reads (rw is (plan_flat net plan unprotected)))) (ap (plan_of net) is ∙ plan_is_read net plan unprotected k p)
