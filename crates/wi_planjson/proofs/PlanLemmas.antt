-- What is read is a plan.
use Rattle.std.proofs.Common.{◌≡◌, ◌⊎◌, inl, inr, ℕ, ◌+◌, Bool, true, false, cond, not, ◌&&◌, ◌||◌, ◌==◌, List, [], ◌∷◌, ◌++◌, length, slice_get, position, Option, Some, None, Result, Ok, Err, refl, sym, ap, subst, ◌∙◌, arith}
use Rattle.std.specs.Prelude.{is_none, nat_le, IfOk, option_and_then, codes}
use Rattle.std.specs.List.{list_any, list_all}
use Rattle.std.specs.Option.{option_map_or}
use Rattle.std.proofs.lemmas.Bool.{and_parts, and_from, or_parts, or_from, eqb-true, eq-eqb, lt-ltb}
use Rattle.std.proofs.lemmas.List.Folds.{list_any-append}
use Rattle.std.proofs.lemmas.Option.{slice_get_within}
use Rattle.serde_json.specs.Data.{Data, Items}
use Rattle.serde_json.specs.Find.{get}
use Rattle.wi_labels.specs.declared.label.Class.TheVariants.{Ip}
use Rattle.wi_labels.specs.declared.label.Label.{Label}
use Rattle.wi_net.specs.declared.parts.LinkId.{LinkId}
use Rattle.wi_net.specs.declared.parts.RouterId.{RouterId}
use Rattle.wi_net.specs.Net.{Net, is_link, label_known}
use Rattle.wi_net.specs.LinkSet.{has}
use Rattle.wi_net.specs.Finding.{find_router, find_label, find_out}
use Rattle.wi_net.proofs.FindingLemmas.{none_any}
use Rattle.wi_net.proofs.KeptLists.{all_push, there_parts, rule_held, found_held, step_held, given_is, same_flip}
use Rattle.wi_netjson.proofs.FoundLemmas.{out_leaves}
use Rattle.wi_plan.specs.declared.plan.Path.{Path}
use Rattle.wi_plan.specs.declared.plan.Bypass.{Bypass}
use Rattle.wi_plan.specs.declared.plan.Plan.{Plan}
use Rattle.wi_plan.specs.Plans.{is_joined, is_around, are_links_apart, is_path_of, first_of, sets_out, are_paths_apart, is_end, is_bypass_of, are_bypasses_apart, IsPlan}
use Rattle.wi_planjson.specs.declared.bypasses.Form.{Form}
use Rattle.wi_planjson.specs.declared.bypasses.Form.TheVariants.{Whole, Draft}
use Rattle.wi_planjson.specs.declared.refused.Place.{Place}
use Rattle.wi_planjson.specs.declared.refused.Place.TheVariants.{Paths, Path as PathAt, PathIp, PathLinks, PathLink, Bypasses, Bypass as BypassAt, BypassLink, BypassVia, ViaLink}
use Rattle.wi_planjson.specs.declared.refused.PlanRefused.{PlanRefused}
use Rattle.wi_planjson.specs.declared.refused.PlanRefused.TheVariants.{NotEmpty, Unknown, TooShort, Broken, Repeated, Taken, Continues}
use Rattle.wi_planjson.specs.Reading.{Gives, text, list, object}
use Rattle.wi_planjson.specs.Names.{names_of, link_of, ip_of, named, are_named, link_at, links_in}
use Rattle.wi_planjson.specs.Routes.{first_break, repeat_from, first_repeat}
use Rattle.wi_planjson.specs.Paths.{is_free, path_rules, path_of, path_at, paths_of}
use Rattle.wi_planjson.specs.Bypasses.{is_bypassed, place_of, bypass_rules, bypass_of, bypass_at, bypasses_of}
use Rattle.wi_planjson.specs.Plan.{plan_by, drafted_bypasses_of}
use Rattle.wi_planjson.specs.private.Forms.{bypasses_by}
use Rattle.wi_planjson.proofs.RouteLemmas.{break_is}
use Rattle.wi_planjson.proofs.StartLemmas.{never, untrue}
use Rattle.wi_planjson.proofs.ReadLemmas.{nowhere_held, nowhere_is, rule_is, each_keeps, none_fail}

-- a link that was found is one of the network's
link_known : (net : Net) (d : Data) (e : LinkId) → link_of net d ≡ Some e → is_link net e ≡ true
link_known net d e found = by_names (names_of d) found
  where
    by_router : (o : Option RouterId) (name : List ℕ) → option_and_then (λ r. find_out net r name) o ≡ Some e → is_link net e ≡ true
    by_router (Some r) name is =
        let there = there_parts (λ l. l.from.0 == r.0) (slice_get net.links e.0) (out_leaves net r name e is) in
        lt-ltb e.0 (length net.links) (slice_get_within net.links e.0 there.0 there.1)
    by_router None name is = cc

    by_names : (o : Option (List ℕ × List ℕ)) → option_and_then (λ (n : List ℕ × List ℕ). option_and_then (λ r. find_out net r n.1) (find_router net n.0)) o ≡ Some e → is_link net e ≡ true
    by_names (Some n) is = by_router (find_router net n.0) n.1 is
    by_names None is = cc

links_known : (net : Net) (place : ℕ → Place) (items : Items) (links : List LinkId) → links_in net place items ≡ Ok links → list_all (is_link net) links ≡ true
links_known net place items links e = each_keeps (link_at net place) (λ ls. list_all (is_link net) ls ≡ true) one items [] 0 links refl e
  where
    one : (before : List LinkId) (j : ℕ) (d : Data) (next : List LinkId) → list_all (is_link net) before ≡ true → link_at net place before j d ≡ Ok next → list_all (is_link net) next ≡ true
    one before j d next here step =
        let found = found_held (Unknown (place j)) (link_of net d) _ next step in
        ap (list_all (is_link net)) (sym (given_is (before ++ found.0 ∷ []) next found.2)) ∙ all_push (is_link net) before found.0 here (link_known net d found.0 found.1)

-- an ip label that was found is one
ip_known : (net : Net) (name : List ℕ) (ip : Label) → ip_of net name ≡ Some ip → label_known net.classes (ip, Ip) ≡ true
ip_known net name ip found = by_label (find_label net name) found
  where
    by_class : (l : Label) (b : Bool) → label_known net.classes (l, Ip) ≡ b → cond b (Some l) None ≡ Some ip → label_known net.classes (ip, Ip) ≡ true
    by_class l true is e = let same : l ≡ ip = cc in ap (λ (x : Label). label_known net.classes (x, Ip)) (sym same) ∙ is
    by_class l false is e = cc

    by_label : (o : Option Label) → option_and_then (λ l. cond (label_known net.classes (l, Ip)) (Some l) None) o ≡ Some ip → label_known net.classes (ip, Ip) ≡ true
    by_label (Some l) e = by_class l (label_known net.classes (l, Ip)) refl e
    by_label None e = cc

negated : (b : Bool) → b ≡ false → not b ≡ true
negated b e = rw e refl

or_either : (a b : Bool) → (a ≡ true) ⊎ (b ≡ true) → (a || b) ≡ true
or_either true b h = refl
or_either false b (inl h) = cc
or_either false b (inr h) = h

-- where no link stands earlier, none stands twice
repeats_apart : (links before : List LinkId) (j : ℕ) → repeat_from before j links ≡ None → (are_links_apart links ≡ true) × ((x : LinkId) → has before x ≡ true → has links x ≡ false)
repeats_apart [] before j none = (refl, λ x e. refl)
repeats_apart (e ∷ links) before j none = go (has before e) refl none (repeats_apart links (before ++ e ∷ []) (j + 1))
  where
    go : (b : Bool) → has before e ≡ b → cond b (Some j) (repeat_from (before ++ e ∷ []) (j + 1) links) ≡ None
        → (repeat_from (before ++ e ∷ []) (j + 1) links ≡ None → (are_links_apart links ≡ true) × ((x : LinkId) → has (before ++ e ∷ []) x ≡ true → has links x ≡ false))
        → (are_links_apart (e ∷ links) ≡ true) × ((x : LinkId) → has before x ≡ true → has (e ∷ links) x ≡ false)
    go true is h rest = cc
    go false is h rest =
        let ih = rest h in
        let at_end : (x : LinkId) → has (before ++ e ∷ []) x ≡ (has before x || ((e.0 == x.0) || false)) = λ x. list_any-append (λ (y : LinkId). y.0 == x.0) before (e ∷ []) in
        let itself : has links e ≡ false = ih.1 e (at_end e ∙ or_either (has before e) ((e.0 == e.0) || false) (inr (rw (eq-eqb e.0 e.0 refl) refl))) in
        let later : (x : LinkId) → has before x ≡ true → has links x ≡ false = λ x h2. ih.1 x (at_end x ∙ or_either (has before x) ((e.0 == x.0) || false) (inl h2)) in
        let other : (x : LinkId) → has before x ≡ true → (e.0 == x.0) ≡ false = λ x h2. differs x h2 (e.0 == x.0) refl in
        (and_from (not (has links e)) (are_links_apart links) (negated (has links e) itself) ih.0, λ x h2. or_from (e.0 == x.0) (has links x) (other x h2) (later x h2))
      where
        differs : (x : LinkId) → has before x ≡ true → (c : Bool) → (e.0 == x.0) ≡ c → c ≡ false
        differs x h2 true at =
            let same : e.0 ≡ x.0 = eqb-true e.0 x.0 at in
            let again : has before e ≡ true = ap (λ n. list_any (λ (y : LinkId). y.0 == n) before) same ∙ h2 in
            sym again ∙ is
        differs x h2 false at = refl

-- a path that is free of a list is free of its rest, and the first of the list doesn't set out where it does
free_later : (p : Path) (paths : List Path) (path : Path) → is_free (p ∷ paths) path ≡ true → (is_free paths path ≡ true) × ((e : LinkId) → first_of p.links ≡ Some e → sets_out e p.ip path ≡ false)
free_later p paths path free = go (first_of path.links) refl free
  where
    go : (o : Option LinkId) → first_of path.links ≡ o → option_map_or (λ e. not (list_any (sets_out e path.ip) (p ∷ paths))) o true ≡ true → (is_free paths path ≡ true) × ((e : LinkId) → first_of p.links ≡ Some e → sets_out e p.ip path ≡ false)
    go None is h = (rw is refl, λ e at. rw is (never (p.ip.0 == path.ip.0)))
    go (Some f) is h =
        let parts = or_parts (sets_out f path.ip p) (list_any (sets_out f path.ip) paths) (untrue _ h) in (
          rw is (negated _ parts.1),
          λ e at.
              let turned : ((path.ip.0 == p.ip.0) && (f.0 == e.0)) ≡ false = rw at at parts.0 in
              rw (is, same_flip p.ip.0 path.ip.0, same_flip e.0 f.0) turned,
        )

-- no two paths set out alike when one more is free
paths_push : (paths : List Path) (path : Path) → are_paths_apart paths ≡ true → is_free paths path ≡ true → are_paths_apart (paths ++ path ∷ []) ≡ true
paths_push [] path apart free = alone (first_of path.links)
  where
    alone : (o : Option LinkId) → (option_map_or (λ e. not (list_any (sets_out e path.ip) [])) o true && true) ≡ true
    alone (Some e) = refl
    alone None = refl
paths_push (p ∷ paths) path apart free =
    let rest = and_parts (option_map_or (λ e. not (list_any (sets_out e p.ip) paths)) (first_of p.links) true) (are_paths_apart paths) apart in
    let later = free_later p paths path free in
    and_from (option_map_or (λ e. not (list_any (sets_out e p.ip) (paths ++ path ∷ []))) (first_of p.links) true) (are_paths_apart (paths ++ path ∷ [])) (here (first_of p.links) refl rest.0) (paths_push paths path rest.1 later.0)
  where
    here : (o : Option LinkId) → first_of p.links ≡ o → option_map_or (λ e. not (list_any (sets_out e p.ip) paths)) o true ≡ true → option_map_or (λ e. not (list_any (sets_out e p.ip) (paths ++ path ∷ []))) o true ≡ true
    here None is h = refl
    here (Some e) is h =
        negated (list_any (sets_out e p.ip) (paths ++ path ∷ [])) (list_any-append (sets_out e p.ip) paths (path ∷ [])
        ∙ or_from (list_any (sets_out e p.ip) paths) (sets_out e p.ip path || false) (untrue _ h) (or_from (sets_out e p.ip path) false ((free_later p paths path free).1 e is) refl))

bypasses_push : (bypasses : List Bypass) (bypass : Bypass) → are_bypasses_apart bypasses ≡ true → is_bypassed bypasses bypass.link ≡ false → are_bypasses_apart (bypasses ++ bypass ∷ []) ≡ true
bypasses_push [] bypass apart free = refl
bypasses_push (b ∷ bypasses) bypass apart free =
    let rest = and_parts (not (is_bypassed bypasses b.link)) (are_bypasses_apart bypasses) apart in
    let parts = or_parts (b.link.0 == bypass.link.0) (is_bypassed bypasses bypass.link) free in
    let other : (bypass.link.0 == b.link.0) ≡ false = same_flip bypass.link.0 b.link.0 ∙ parts.0 in
    let none : is_bypassed (bypasses ++ bypass ∷ []) b.link ≡ false = list_any-append (λ (x : Bypass). x.link.0 == b.link.0) bypasses (bypass ∷ []) ∙ or_from (is_bypassed bypasses b.link) ((bypass.link.0 == b.link.0) || false) (untrue _ rest.0) (or_from (bypass.link.0 == b.link.0) false other refl) in
    and_from (not (is_bypassed (bypasses ++ bypass ∷ []) b.link)) (are_bypasses_apart (bypasses ++ bypass ∷ [])) (negated _ none) (bypasses_push bypasses bypass rest.1 parts.1)

no_rows : {X : Type 0} (xs : List X) → (length xs == 0) ≡ true → xs ≡ []
no_rows [] e = refl
no_rows (x ∷ xs) e = let n = eqb-true (length (x ∷ xs)) 0 e in absurd (omega (arith, n))

-- paths so far
record ArePaths (net : Net) (paths : List Path) : Type 0 where
  all : list_all (is_path_of net) paths ≡ true
  apart : are_paths_apart paths ≡ true

abbrev path_with : Label → List LinkId → Path
path_with ip links = record { ip = ip; links = links }

-- a path for which the rules hold is one, and is free
path_follows : (net : Net) (paths : List Path) (i : ℕ) (path : Path) → label_known net.classes (path.ip, Ip) ≡ true → list_all (is_link net) path.links ≡ true → path_rules net paths i path ≡ Ok tt → (is_path_of net path ≡ true) × (is_free paths path ≡ true)
unfolding path_rules
path_follows net paths i path ip links e =
    let long = rule_held (TooShort (PathLinks i)) (nat_le 3 (length path.links)) _ tt e in
    let joined = nowhere_held (λ j. Broken (PathLink i j)) (first_break net path.links) _ tt long.1 in
    let once = nowhere_held (λ j. Repeated (PathLink i j)) (first_repeat path.links) _ tt joined.1 in
    let free = rule_is (Taken (PathAt i)) (is_free paths path) once.1 in
    let is_joined_here : is_joined net path.links ≡ true = sym (break_is net 0 path.links) ∙ ap is_none joined.0 in
    let apart = (repeats_apart path.links [] 0 once.0).0 in
    let last = and_from (is_joined net path.links) (are_links_apart path.links) is_joined_here apart in
    let more = and_from (nat_le 3 (length path.links)) (is_joined net path.links && are_links_apart path.links) long.0 last in
    let most = and_from (list_all (is_link net) path.links) (nat_le 3 (length path.links) && (is_joined net path.links && are_links_apart path.links)) links more in
    (and_from (label_known net.classes (path.ip, Ip)) _ ip most, free)

-- what is known of a path that a value names
path_known : (net : Net) (i : ℕ) (d : Data) (path : Path) → path_of net i d ≡ Ok path → (label_known net.classes (path.ip, Ip) ≡ true) × (list_all (is_link net) path.links ≡ true)
unfolding path_of
path_known net i d path e =
    let o = step_held (object (PathAt i) d) _ path e in
    let name = step_held (text (PathIp i) (get (codes "ip") o.0)) _ path o.2 in
    let items = step_held (list (PathLinks i) (get (codes "links") o.0)) _ path name.2 in
    let shapes = step_held (are_named (PathLink i) items.0) _ path items.2 in
    let ip = found_held (Unknown (PathIp i)) (ip_of net name.0) _ path shapes.2 in
    let links = step_held (links_in net (PathLink i) items.0) _ path ip.2 in
    let made = given_is (path_with ip.0 links.0) path links.2 in
    (ap (λ (p : Path). label_known net.classes (p.ip, Ip)) (sym made) ∙ ip_known net name.0 ip.0 ip.1, ap (λ (p : Path). list_all (is_link net) p.links) (sym made) ∙ links_known net (PathLink i) items.0 links.0 links.1)

path_kept : (net : Net) (paths : List Path) (i : ℕ) (d : Data) (next : List Path) → ArePaths net paths → path_at net paths i d ≡ Ok next → ArePaths net next
unfolding path_at
path_kept net paths i d next before e =
    let path = step_held (path_of net i d) _ next e in
    let rules = step_held (path_rules net paths i path.0) _ next path.2 in
    let known = path_known net i d path.0 path.1 in
    let is = path_follows net paths i path.0 known.0 known.1 rules.1 in
    subst (ArePaths net) (given_is (paths ++ path.0 ∷ []) next rules.2) (record {
      all = all_push (is_path_of net) paths path.0 before.all is.0;
      apart = paths_push paths path.0 before.apart is.1;
    })

-- bypasses so far
record AreBypasses (net : Net) (bypasses : List Bypass) : Type 0 where
  all : list_all (is_bypass_of net) bypasses ≡ true
  apart : are_bypasses_apart bypasses ≡ true

abbrev bypass_with : LinkId → List LinkId → Bypass
bypass_with link via = record { link = link; via = via }

-- a bypass for which the rules hold is one, of a link that has none
bypass_follows : (net : Net) (bypasses : List Bypass) (i : ℕ) (bypass : Bypass) → is_link net bypass.link ≡ true → list_all (is_link net) bypass.via ≡ true → bypass_rules net bypasses i bypass ≡ Ok tt → (is_bypass_of net bypass ≡ true) × (is_bypassed bypasses bypass.link ≡ false)
unfolding bypass_rules
bypass_follows net bypasses i bypass link via e =
    let some = rule_held (TooShort (BypassVia i)) (nat_le 1 (length bypass.via)) _ tt e in
    let around = rule_held (Broken (BypassVia i)) (is_joined net bypass.via && is_around net bypass.link bypass.via) _ tt some.1 in
    let new = rule_held (Repeated (BypassLink i)) (not (is_bypassed bypasses bypass.link)) _ tt around.1 in
    let other = nowhere_is (λ j. Repeated (ViaLink i j)) (place_of bypass.link bypass.via) new.1 in
    let parts = and_parts (is_joined net bypass.via) (is_around net bypass.link bypass.via) around.0 in
    let apart : not (has bypass.via bypass.link) ≡ true = negated _ (none_any (λ (v : LinkId). v.0 == bypass.link.0) bypass.via other) in
    let last = and_from (is_around net bypass.link bypass.via) (not (has bypass.via bypass.link)) parts.1 apart in
    let more = and_from (is_joined net bypass.via) (is_around net bypass.link bypass.via && not (has bypass.via bypass.link)) parts.0 last in
    let most = and_from (list_all (is_link net) bypass.via) (is_joined net bypass.via && (is_around net bypass.link bypass.via && not (has bypass.via bypass.link))) via more in
    (and_from (is_link net bypass.link) _ link most, untrue _ new.0)

-- what is known of a bypass that a value names
bypass_known : (net : Net) (i : ℕ) (d : Data) (bypass : Bypass) → bypass_of net i d ≡ Ok bypass → (is_link net bypass.link ≡ true) × (list_all (is_link net) bypass.via ≡ true)
unfolding bypass_of
bypass_known net i d bypass e =
    let o = step_held (object (BypassAt i) d) _ bypass e in
    let value = step_held (named (BypassLink i) (get (codes "link") o.0)) _ bypass o.2 in
    let items = step_held (list (BypassVia i) (get (codes "via") o.0)) _ bypass value.2 in
    let shapes = step_held (are_named (ViaLink i) items.0) _ bypass items.2 in
    let link = found_held (Unknown (BypassLink i)) (link_of net value.0) _ bypass shapes.2 in
    let via = step_held (links_in net (ViaLink i) items.0) _ bypass link.2 in
    let made = given_is (bypass_with link.0 via.0) bypass via.2 in
    (ap (λ (b : Bypass). is_link net b.link) (sym made) ∙ link_known net value.0 link.0 link.1, ap (λ (b : Bypass). list_all (is_link net) b.via) (sym made) ∙ links_known net (ViaLink i) items.0 via.0 via.1)

bypass_kept : (net : Net) (bypasses : List Bypass) (i : ℕ) (d : Data) (next : List Bypass) → AreBypasses net bypasses → bypass_at net bypasses i d ≡ Ok next → AreBypasses net next
unfolding bypass_at
bypass_kept net bypasses i d next before e =
    let bypass = step_held (bypass_of net i d) _ next e in
    let rules = step_held (bypass_rules net bypasses i bypass.0) _ next bypass.2 in
    let known = bypass_known net i d bypass.0 bypass.1 in
    let is = bypass_follows net bypasses i bypass.0 known.0 known.1 rules.1 in
    subst (AreBypasses net) (given_is (bypasses ++ bypass.0 ∷ []) next rules.2) (record {
      all = all_push (is_bypass_of net) bypasses bypass.0 before.all is.0;
      apart = bypasses_push bypasses bypass.0 before.apart is.1;
    })

bypasses_are : (net : Net) (d : Data) (bypasses : List Bypass) → bypasses_of net d ≡ Ok bypasses → AreBypasses net bypasses
unfolding bypasses_of
bypasses_are net d bypasses e =
    let items = step_held (list Bypasses (get (codes "bypasses") d)) _ bypasses e in
    each_keeps (bypass_at net) (AreBypasses net) (bypass_kept net) items.0 [] 0 bypasses (record { all = refl; apart = refl }) items.2

-- where they may be left out, none are bypasses too
drafted_are : (net : Net) (d : Data) (bypasses : List Bypass) → drafted_bypasses_of net d ≡ Ok bypasses → AreBypasses net bypasses
unfolding drafted_bypasses_of
drafted_are net d bypasses e = go (is_none (get (codes "bypasses") d)) e
  where
    go : (b : Bool) → cond b (Ok []) (bypasses_of net d) ≡ Ok bypasses → AreBypasses net bypasses
    go true given = subst (AreBypasses net) (given_is [] bypasses given) (record { all = refl; apart = refl })
    go false given = bypasses_are net d bypasses given

by_form : (form : Form) (net : Net) (d : Data) (bypasses : List Bypass) → bypasses_by form net d ≡ Ok bypasses → AreBypasses net bypasses
by_form Whole net d bypasses e = bypasses_are net d bypasses e
by_form Draft net d bypasses e = drafted_are net d bypasses e

plan_is : (form : Form) (net : Net) (d : Data) (plan : Plan) → plan_by (bypasses_by form) net d ≡ Ok plan → IsPlan net plan
unfolding plan_by paths_of
plan_is form net d plan e =
    let empty = rule_held NotEmpty (length net.rows == 0) _ plan e in
    let paths = step_held (paths_of net d) _ plan empty.1 in
    let path_items = step_held (list Paths (get (codes "paths") d)) _ paths.0 paths.1 in
    let bypasses = step_held (bypasses_by form net d) _ plan paths.2 in
    let ends = nowhere_held (λ i. Continues (PathAt i)) (position (λ path. not (is_end paths.0 path)) paths.0) _ plan bypasses.2 in
    let made = given_is (record { paths = paths.0; bypasses = bypasses.0 }) plan ends.1 in
    let are_paths = each_keeps (path_at net) (ArePaths net) (path_kept net) path_items.0 [] 0 paths.0 (record { all = refl; apart = refl }) path_items.2 in
    let are_bypasses = by_form form net d bypasses.0 bypasses.1 in
    subst (IsPlan net) made (record {
      no_tables = no_rows net.rows empty.0;
      paths = are_paths.all;
      paths_apart = are_paths.apart;
      bypasses = are_bypasses.all;
      bypasses_apart = are_bypasses.apart;
      ends = none_fail (is_end paths.0) paths.0 (none_any (λ path. not (is_end paths.0 path)) paths.0 ends.0);
    })

-- what is answered is a plan
pub gives_plan : (form : Form) (net : Net) (d : Data) (r : Result Plan PlanRefused) → Gives (λ plan. plan) r (plan_by (bypasses_by form) net d) → IfOk r (IsPlan net)
gives_plan form net d (Ok plan) e = plan_is form net d plan e
gives_plan form net d (Err refused) e = tt
