-- The packets of a plan's network go along their paths, or around a failed link.
use Rattle.std.proofs.Common.{◌≡◌, ℕ, ◌+◌, ◌≤◌, Bool, true, false, not, ◌&&◌, ◌||◌, nat_eq, nat_le, inl, inr, cond, List, [], ◌∷◌, ◌++◌, length, map, slice_get, Option, Some, None, refl, sym, ap, ◌∙◌, subst, arith, suc}
use Rattle.std.specs.List.{list_any, list_all, find}
use Rattle.std.specs.Option.{option_map_or}
use Rattle.std.proofs.lemmas.Bool.{and_parts, and_from, not-true, not_from_false, ne_eqb, eq-eqb, leb-true, le-leb, or_left, or_right, or_cases, true≢false, false_from_ne_true}
use Rattle.wi_labels.specs.declared.label.Label.{Label}
use Rattle.wi_labels.specs.declared.label.Class.TheVariants.{Smpls, Ip}
use Rattle.wi_labels.specs.declared.ops.Op.TheVariants.{Push}
use Rattle.wi_labels.specs.Header.{Entry}
use Rattle.wi_net.specs.declared.parts.LinkId.{LinkId}
use Rattle.wi_net.specs.declared.parts.Link.{Link}
use Rattle.wi_net.specs.declared.parts.TableRow.{TableRow}
use Rattle.wi_net.specs.LinkSet.{has, is_apart}
use Rattle.wi_net.specs.Net.{Net, is_link, label_known}
use Rattle.wi_net.specs.Network.{IsNetwork, leaves}
use Rattle.wi_net.specs.Tables.{groups_in}
use Rattle.wi_net.proofs.KeptLists.{all_get}
use Rattle.wi_net.proofs.SetLemmas.{same_link}
use Rattle.wi_world.specs.Moves.{Location, is_start, is_usable, follows}
use Rattle.wi_plan.specs.declared.plan.Path.{Path}
use Rattle.wi_plan.specs.declared.plan.Bypass.{Bypass}
use Rattle.wi_plan.specs.declared.plan.Plan.{Plan}
use Rattle.wi_plan.specs.Plans.{IsPlan, is_path_of, is_bypass_of, is_joined, is_around, are_links_apart, first_of, last_of, reaches, is_end, sets_out}
use Rattle.wi_protect.specs.Labels.{moved_by, path_labels, bypass_labels, paths_labels, bypasses_labels, first_path_label, first_bypass_label, moved_label, new_labels}
use Rattle.wi_protect.specs.Rows.{Round, row, label, onto, path_rows, rows_from, via_rows, paths_rows, bypasses_rows}
use Rattle.wi_protect.specs.Protected.{plan_rows, rounds, protected, header_of}
use Rattle.wi_protect.specs.OneWay.{GoesOnly, failed_of, without_last, inner, replaced, bypass_for, is_saved, rerouted}
use Rattle.wi_protect.proofs.Ways.{Goes, goes}
use Rattle.wi_protect.proofs.Walks.{Leads, Spared, Passable, Entries, route, whole_leads}
use Rattle.wi_protect.proofs.Lookups.{lacks_append, entries, via_entries, pass_over}
use Rattle.wi_protect.proofs.Placing.{path_label, bypass_label, Placed, are_above, paths_rows_lack, bypasses_rows_lack, path_label_within, bypass_label_within, path_placed, bypass_placed, placed_behind, round_found, no_path, path_found}
use Rattle.wi_protect.proofs.Classes.{first_path, ip_above, ip_known}
use Rattle.std.proofs.lemmas.List.{append_assoc, append-nil}

-- one way from where a packet may set out
pub goes_only : (net : Net) (fails : List LinkId) (e : LinkId) (header last : List Entry) (links : List LinkId) → is_start net fails e header ≡ true → Leads net fails (e, header) links last → GoesOnly net fails e header (e ∷ links) last
goes_only net fails e header last links start leads = go (goes net fails (e, header) leads.later leads.way)
  where
    go : Goes net fails (e, header) leads.later → GoesOnly net fails e header (e ∷ links) last
    go g = record {
      steps = g.steps;
      trace = and_from (is_start net fails e header) (follows net (is_usable net fails) (λ place. true) (e, header) g.steps) start g.follow;
      along = ap (λ ps. map (λ (p : Location). p.0) ps) g.along ∙ ap (λ es. e ∷ es) leads.along;
      ends = g.ends ∙ leads.ends;
      stays = λ step. rw start (g.stays step);
      begun = λ others trace. g.begun others ((and_parts (is_start net fails e header) (follows net (is_usable net fails) (λ place. true) (e, header) others) trace).1);
    }

-- where no link failed
record Way (rows : List TableRow) (rounds : LinkId → Option Round) (fails : List LinkId) (f : LinkId) (links taken : List LinkId) : Type 0 where
  passable : Passable rows rounds fails f links
  along : route rows rounds fails f links passable ≡ taken

failed_first : (fails : List LinkId) (f : LinkId) (links : List LinkId) → failed_of (f ∷ links) fails ≡ [] → (has fails f ≡ false) × (failed_of links fails ≡ [])
failed_first fails f links none = go (has fails f) refl none
  where
    go : (b : Bool) → has fails f ≡ b → cond b (f ∷ failed_of links fails) (failed_of links fails) ≡ [] → (has fails f ≡ false) × (failed_of links fails ≡ [])
    go true down h = cc
    go false up h = (up, h)

all_up : (rows : List TableRow) (rounds : LinkId → Option Round) (fails : List LinkId) (f : LinkId) (links : List LinkId) → failed_of (f ∷ links) fails ≡ [] → Way rows rounds fails f links (f ∷ links)
all_up rows rounds fails f [] none = record { passable = (failed_first fails f [] none).0; along = refl }
all_up rows rounds fails f (g ∷ links) none = go (all_up rows rounds fails g links parts.1)
  where
    parts : (has fails f ≡ false) × (failed_of (g ∷ links) fails ≡ [])
    parts = failed_first fails f (g ∷ links) none

    go : Way rows rounds fails g links (g ∷ links) → Way rows rounds fails f (g ∷ links) (f ∷ g ∷ links)
    go w = record { passable = (inl parts.0, w.passable); along = ap (λ es. f ∷ es) w.along }

-- where one failed
failed_is : (fails links : List LinkId) (b : LinkId) → failed_of links fails ≡ b ∷ [] → has fails b ≡ true
failed_is fails [] b one = cc
failed_is fails (f ∷ links) b one = go (has fails f) refl one (failed_is fails links b)
  where
    go : (t : Bool) → has fails f ≡ t → cond t (f ∷ failed_of links fails) (failed_of links fails) ≡ b ∷ [] → (failed_of links fails ≡ b ∷ [] → has fails b ≡ true) → has fails b ≡ true
    go true down h ih = let same : f ≡ b = cc in rw (← same) down
    go false up h ih = ih h

has_down : (fails links : List LinkId) (b : LinkId) → has links b ≡ true → has fails b ≡ true → failed_of links fails ≡ [] → ⊥
has_down fails [] b in_it down none = true≢false (sym in_it)
has_down fails (f ∷ links) b in_it down none =
    let parts = failed_first fails f links none in
    elim (or_cases (nat_eq f.0 b.0) (has links b) in_it) [
      | inl same ↦ true≢false (sym down ∙ rw (← same_link f b same) parts.0)
      | inr more ↦ has_down fails links b more down parts.1
    ]

within_last : (links : List LinkId) (f b : LinkId) → has (without_last (f ∷ links)) b ≡ true → has (f ∷ links) b ≡ true
within_last [] f b h = absurd (true≢false (sym h))
within_last (g ∷ links) f b h =
    elim (or_cases (nat_eq f.0 b.0) (has (without_last (g ∷ links)) b) h) [
      | inl same ↦ or_left (nat_eq f.0 b.0) (has (g ∷ links) b) same
      | inr more ↦ or_right (nat_eq f.0 b.0) (has (g ∷ links) b) (within_last links g b more)
    ]

-- a link that failed differs from one that didn't
differ : (fails : List LinkId) (f b : LinkId) → has fails f ≡ false → has fails b ≡ true → nat_eq f.0 b.0 ≡ false
differ fails f b up down = false_from_ne_true (nat_eq f.0 b.0) (λ same. true≢false (sym down ∙ rw (← same_link f b same) up))

one_down : (rows : List TableRow) (rounds : LinkId → Option Round) (fails : List LinkId) (b : LinkId) (s : Spared rows rounds fails b) (f : LinkId) (links : List LinkId)
    → has (without_last (f ∷ links)) b ≡ true → failed_of (f ∷ links) fails ≡ b ∷ [] → Way rows rounds fails f links (replaced (f ∷ links) b s.way.via)
one_down rows rounds fails b s f [] within one = absurd (true≢false (sym within))
one_down rows rounds fails b s f (g ∷ links) within one = go (has fails f) refl one (one_down rows rounds fails b s g links)
  where
    go : (t : Bool) → has fails f ≡ t → cond t (f ∷ failed_of (g ∷ links) fails) (failed_of (g ∷ links) fails) ≡ b ∷ []
        → (has (without_last (g ∷ links)) b ≡ true → failed_of (g ∷ links) fails ≡ b ∷ [] → Way rows rounds fails g links (replaced (g ∷ links) b s.way.via))
        → Way rows rounds fails f (g ∷ links) (replaced (f ∷ g ∷ links) b s.way.via)
    go true down h ih =
        let same : f ≡ b = cc in
        let none : failed_of (g ∷ links) fails ≡ [] = cc in
        let P : LinkId → Type 0 = λ x. Way rows rounds fails x (g ∷ links) (replaced (x ∷ g ∷ links) b s.way.via) in
        subst P (sym same) (around (all_up rows rounds fails g links none))
      where
        around : Way rows rounds fails g links (g ∷ links) → Way rows rounds fails b (g ∷ links) (replaced (b ∷ g ∷ links) b s.way.via)
        around w = record { passable = (inr s, w.passable); along = rw (eq-eqb b.0 b.0 refl) (ap (λ es. s.way.via ++ es) w.along) }
    go false up h ih =
        let other : nat_eq f.0 b.0 ≡ false = differ fails f b up s.down in
        let inside : has (without_last (g ∷ links)) b ≡ true = rw other at within in
        on other (ih inside h)
      where
        on : nat_eq f.0 b.0 ≡ false → Way rows rounds fails g links (replaced (g ∷ links) b s.way.via) → Way rows rounds fails f (g ∷ links) (replaced (f ∷ g ∷ links) b s.way.via)
        on other w = record { passable = (inl up, w.passable); along = rw other (ap (λ es. f ∷ es) w.along) }

-- what each path and each bypass of a plan is
pub record PathFacts (net : Net) (links : List LinkId) (ip : Label) : Type 0 where
  pub known : label_known net.classes (ip, Ip) ≡ true
  pub links_known : list_all (is_link net) links ≡ true
  pub long : 3 ≤ length links

pub path_facts : (net : Net) (path : Path) → is_path_of net path ≡ true → PathFacts net path.links path.ip
path_facts net path h =
    let p1 = and_parts (label_known net.classes (path.ip, Ip)) (list_all (is_link net) path.links && (nat_le 3 (length path.links) && (is_joined net path.links && are_links_apart path.links))) h in
    let p2 = and_parts (list_all (is_link net) path.links) (nat_le 3 (length path.links) && (is_joined net path.links && are_links_apart path.links)) p1.1 in
    let p3 = and_parts (nat_le 3 (length path.links)) (is_joined net path.links && are_links_apart path.links) p2.1 in
    record { known = p1.0; links_known = p2.0; long = leb-true 3 (length path.links) p3.0 }

pub record BypassFacts (via : List LinkId) (e : LinkId) : Type 0 where
  pub end : LinkId
  pub ends : last_of via ≡ Some end
  pub another : has via e ≡ false

pub some_of : {A : Type 0} (o : Option A) (p : A → Bool) → option_map_or p o false ≡ true → (x : A) × (o ≡ Some x) × (p x ≡ true)
some_of None p h = absurd (true≢false (sym h))
some_of (Some x) p h = (x, refl, h)

pub bypass_facts : (net : Net) (bypass : Bypass) → is_bypass_of net bypass ≡ true → BypassFacts bypass.via bypass.link
bypass_facts net bypass h =
    let p1 = and_parts (is_link net bypass.link) (list_all (is_link net) bypass.via && (is_joined net bypass.via && (is_around net bypass.link bypass.via && not (has bypass.via bypass.link)))) h in
    let p2 = and_parts (list_all (is_link net) bypass.via) (is_joined net bypass.via && (is_around net bypass.link bypass.via && not (has bypass.via bypass.link))) p1.1 in
    let p3 = and_parts (is_joined net bypass.via) (is_around net bypass.link bypass.via && not (has bypass.via bypass.link)) p2.1 in
    let p4 = and_parts (is_around net bypass.link bypass.via) (not (has bypass.via bypass.link)) p3.1 in
    let around = some_of (slice_get net.links bypass.link.0) (λ (l : Link). option_map_or (λ v. leaves net l.from v) (first_of bypass.via) false && option_map_or (λ v. reaches net l.to v) (last_of bypass.via) false) p4.0 in
    let ends = some_of (last_of bypass.via) (λ v. reaches net around.0.to v) ((and_parts (option_map_or (λ v. leaves net around.0.from v) (first_of bypass.via) false) (option_map_or (λ v. reaches net around.0.to v) (last_of bypass.via) false) around.2).1) in
    record { end = ends.0; ends = ends.1; another = not-true (has bypass.via bypass.link) p4.1 }

-- the ip labels of all paths stand behind the new labels
pub labels_above : (net : Net) (plan : Plan) (paths : List Path) → IsNetwork net → list_all (is_path_of net) paths ≡ true → are_above (new_labels plan) (first_path_label net plan + paths_labels plan.paths) paths ≡ true
labels_above net plan [] k all = refl
labels_above net plan (path ∷ paths) k all =
    let parts = and_parts (is_path_of net path) (list_all (is_path_of net) paths) all in
    let above = ip_above net plan path.ip k (path_facts net path parts.0).known in
    and_from (nat_le (first_path_label net plan + paths_labels plan.paths) (path.ip.0 + new_labels plan)) (are_above (new_labels plan) (first_path_label net plan + paths_labels plan.paths) paths)
    (le-leb (first_path_label net plan + paths_labels plan.paths) (path.ip.0 + new_labels plan) above) (labels_above net plan paths k parts.1)

-- a link with a bypass of which no link failed
spared : (net : Net) (plan : Plan) (fails : List LinkId) (x : ℕ) (bypass : Bypass) → IsNetwork net → IsPlan net plan → slice_get plan.bypasses x ≡ Some bypass → has fails bypass.link ≡ true → is_apart bypass.via fails ≡ true
    → (s : Spared (plan_rows net plan) (rounds net plan) fails bypass.link) × (s.way.via ≡ bypass.via)
spared net plan fails x bypass k is at down up = (
  record {
    down = down;
    way = record { via = bypass.via; first = l };
    is = round_found (first_bypass_label net) plan.bypasses x bypass is.bypasses_apart at;
    up = up;
    end = facts.end;
    ends = facts.ends;
    another = facts.another;
    entries = via_entries (plan_rows net plan) placed.before placed.after high l bypass.via placed.are placed.lack (omega arith);
  },
  refl,
)
  where
    l : ℕ
    l = bypass_label (first_bypass_label net) plan.bypasses x

    high : ℕ
    high = l + bypass_labels bypass

    within : (first_bypass_label net ≤ l) × (l + bypass_labels bypass ≤ first_bypass_label net + bypasses_labels plan.bypasses)
    within = bypass_label_within (first_bypass_label net) plan.bypasses x bypass at

    front : List TableRow
    front = paths_rows (rounds net plan) (moved_by (new_labels plan)) (first_path_label net plan) plan.paths

    placed : Placed (plan_rows net plan) (via_rows l bypass.via) l high
    placed = placed_behind front (bypasses_rows (first_bypass_label net) plan.bypasses) (via_rows l bypass.via) l high
        (bypass_placed (first_bypass_label net) plan.bypasses x bypass high at)
        (λ n above below. paths_rows_lack (rounds net plan) (new_labels plan) n (first_path_label net plan) (first_path_label net plan + paths_labels plan.paths) plan.paths (labels_above net plan plan.paths k is.paths)
        (omega (arith, within.1, first_path net plan)) (inl (omega (arith, within.1, first_path net plan))))

    facts : BypassFacts bypass.via bypass.link
    facts = bypass_facts net bypass (all_get (is_bypass_of net) plan.bypasses x bypass is.bypasses at)

has_last : (f : LinkId) (links : List LinkId) → (end : LinkId) × (last_of (f ∷ links) ≡ Some end)
has_last f [] = (f, refl)
has_last f (g ∷ links) = has_last g links

-- a path's packets, where each inner link is up or spared
along_path : (net : Net) (plan : Plan) (fails : List LinkId) (p : ℕ) (path : Path) (e f g : LinkId) (links ways : List LinkId) → IsNetwork net → IsPlan net plan → slice_get plan.paths p ≡ Some path → path.links ≡ e ∷ f ∷ g ∷ links → has fails e ≡ false
    → Way (plan_rows net plan) (rounds net plan) fails f (g ∷ links) ways → GoesOnly (protected net plan) fails e (header_of plan path) (e ∷ ways) (header_of plan path)
along_path net plan fails p path e f g links ways k is at are up way =
    goes_only (protected net plan) fails e (header_of plan path) (header_of plan path) ways start leads
  where
    rows : List TableRow
    rows = plan_rows net plan

    ip : Label
    ip = moved_label plan path.ip

    low : ℕ
    low = first_path_label net plan

    high : ℕ
    high = low + paths_labels plan.paths

    l : ℕ
    l = path_label low plan.paths p

    back : List TableRow
    back = bypasses_rows (first_bypass_label net) plan.bypasses

    facts : PathFacts net path.links path.ip
    facts = path_facts net path (all_get (is_path_of net) plan.paths p path is.paths at)

    above : high ≤ ip.0
    above = ip_above net plan path.ip k facts.known

    within : (low ≤ l) × (l + path_labels path ≤ low + paths_labels plan.paths)
    within = path_label_within low plan.paths p path at

    start : is_start (protected net plan) fails e (header_of plan path) ≡ true
    start =
        let known : list_all (is_link net) (e ∷ f ∷ g ∷ links) ≡ true = ap (list_all (is_link net)) (sym are) ∙ facts.links_known in
        let here : is_link net e ≡ true = (and_parts (is_link net e) (list_all (is_link net) (f ∷ g ∷ links)) known).0 in
        rw (here, up, ip_known net plan path.ip k facts.known) refl

    first : TableRow
    first = row e ip (onto (rounds net plan f) (Push (label l) Smpls) f)

    mine : List TableRow
    mine = rows_from (rounds net plan) l f (g ∷ links)

    placed : Placed rows (path_rows (rounds net plan) l ip path.links) l high
    placed = path_placed (rounds net plan) (new_labels plan) low high plan.paths back p path (labels_above net plan plan.paths k is.paths) at

    regrouped : rows ≡ (placed.before ++ first ∷ []) ++ (mine ++ placed.after)
    regrouped = placed.are ∙ ap (λ ls. placed.before ++ (path_rows (rounds net plan) l ip ls ++ placed.after)) are ∙ sym (append_assoc placed.before (first ∷ []) (mine ++ placed.after))

    known : Entries rows (rounds net plan) l f (g ∷ links)
    known = entries (rounds net plan) rows (placed.before ++ first ∷ []) placed.after high l f (g ∷ links) regrouped
        (λ n from to. lacks_append n placed.before (first ∷ []) (placed.lack n from to) (and_from (not (nat_eq n ip.0)) true (not_from_false (nat_eq n ip.0) (ne_eqb n ip.0 (λ same. omega (arith, above)))) refl))
        (let count : length (e ∷ f ∷ g ∷ links) ≡ length path.links = sym (ap (λ (ls : List LinkId). length ls) are) in omega (arith, within.1))

    set_out : groups_in rows e ip ≡ onto (rounds net plan f) (Push (label l) Smpls) f
    set_out = path_found (rounds net plan) (new_labels plan) low plan.paths back p path e f (g ∷ links) is.paths_apart at are above

    end : (z : LinkId) × (last_of (f ∷ g ∷ links) ≡ Some z)
    end = has_last f (g ∷ links)

    no_more : groups_in rows end.0 ip ≡ []
    no_more =
        let ends : is_end plan.paths path ≡ true = all_get (is_end plan.paths) plan.paths p path is.ends at in
        let last : last_of path.links ≡ Some end.0 = ap last_of are ∙ end.1 in
        let none : not (list_any (sets_out end.0 path.ip) plan.paths) ≡ true = rw last at ends in
        no_path (rounds net plan) (new_labels plan) low plan.paths back end.0 path.ip above (not-true (list_any (sets_out end.0 path.ip) plan.paths) none)
        ∙ ap (λ rs. groups_in rs end.0 ip) (sym (append-nil back))
        ∙ pass_over end.0 ip.0 back [] (bypasses_rows_lack ip.0 (first_bypass_label net) plan.bypasses (inr (omega (arith, above, first_path net plan))))

    leads : Leads (protected net plan) fails (e, header_of plan path) ways (header_of plan path)
    leads =
        let P : List LinkId → Type 0 = λ ls. Leads (protected net plan) fails (e, header_of plan path) ls (header_of plan path) in
        subst P way.along (whole_leads (protected net plan) (rounds net plan) fails ip l e f g links end.0 set_out known way.passable end.1 no_more)

-- the two cases
pub whole : (net : Net) (plan : Plan) (p : ℕ) (path : Path) (e : LinkId) (fails : List LinkId) → IsNetwork net → IsPlan net plan → slice_get plan.paths p ≡ Some path → first_of path.links ≡ Some e → failed_of path.links fails ≡ []
    → GoesOnly (protected net plan) fails e (header_of plan path) path.links (header_of plan path)
whole net plan p path e fails k is at first none = go path.links refl first none
  where
    long : 3 ≤ length path.links
    long = (path_facts net path (all_get (is_path_of net) plan.paths p path is.paths at)).long

    go : (links : List LinkId) → path.links ≡ links → first_of links ≡ Some e → failed_of links fails ≡ [] → GoesOnly (protected net plan) fails e (header_of plan path) links (header_of plan path)
    go [] are first none = cc
    go (d ∷ []) are first none = absurd (let count = ap (λ (ls : List LinkId). length ls) are in omega (arith, long))
    go (d ∷ f ∷ []) are first none = absurd (let count = ap (λ (ls : List LinkId). length ls) are in omega (arith, long))
    go (d ∷ f ∷ g ∷ links) are first none =
        let parts = failed_first fails d (f ∷ g ∷ links) none in
        let same : d ≡ e = cc in
        let P : LinkId → Type 0 = λ x. GoesOnly (protected net plan) fails x (header_of plan path) (d ∷ f ∷ g ∷ links) (header_of plan path) in
        subst P same (along_path net plan fails p path d f g links (f ∷ g ∷ links) k is at are parts.0 (all_up (plan_rows net plan) (rounds net plan) fails f (g ∷ links) parts.1))

pub around : (net : Net) (plan : Plan) (p x : ℕ) (path : Path) (bypass : Bypass) (e : LinkId) (fails : List LinkId) → IsNetwork net → IsPlan net plan → slice_get plan.paths p ≡ Some path → slice_get plan.bypasses x ≡ Some bypass → first_of path.links ≡ Some e
    → has (inner path.links) bypass.link ≡ true → failed_of path.links fails ≡ bypass.link ∷ [] → is_apart bypass.via fails ≡ true
    → GoesOnly (protected net plan) fails e (header_of plan path) (replaced path.links bypass.link bypass.via) (header_of plan path)
around net plan p x path bypass e fails k is at bypass_at first within one up = go path.links refl first within one
  where
    b : LinkId
    b = bypass.link

    long : 3 ≤ length path.links
    long = (path_facts net path (all_get (is_path_of net) plan.paths p path is.paths at)).long

    down : has fails b ≡ true
    down = failed_is fails path.links b one

    go : (links : List LinkId) → path.links ≡ links → first_of links ≡ Some e → has (inner links) b ≡ true → failed_of links fails ≡ b ∷ []
        → GoesOnly (protected net plan) fails e (header_of plan path) (replaced links b bypass.via) (header_of plan path)
    go [] are first within one = cc
    go (d ∷ []) are first within one = absurd (let count = ap (λ (ls : List LinkId). length ls) are in omega (arith, long))
    go (d ∷ f ∷ []) are first within one = absurd (let count = ap (λ (ls : List LinkId). length ls) are in omega (arith, long))
    go (d ∷ f ∷ g ∷ links) are first within one = by_first (has fails d) refl one
      where
        same : d ≡ e
        same = cc

        by_first : (t : Bool) → has fails d ≡ t → cond t (d ∷ failed_of (f ∷ g ∷ links) fails) (failed_of (f ∷ g ∷ links) fails) ≡ b ∷ []
            → GoesOnly (protected net plan) fails e (header_of plan path) (replaced (d ∷ f ∷ g ∷ links) b bypass.via) (header_of plan path)
        by_first true bad h =
            let none : failed_of (f ∷ g ∷ links) fails ≡ [] = cc in
            absurd (has_down fails (f ∷ g ∷ links) b (within_last (g ∷ links) f b within) down none)
        by_first false good h =
            let other : nat_eq d.0 b.0 ≡ false = differ fails d b good down in
            let s = spared net plan fails x bypass k is bypass_at down up in
            let w0 = one_down (plan_rows net plan) (rounds net plan) fails b s.0 f (g ∷ links) within h in
            let Q : List LinkId → Type 0 = λ via. Way (plan_rows net plan) (rounds net plan) fails f (g ∷ links) (replaced (f ∷ g ∷ links) b via) in
            let w = subst Q s.1 w0 in
            let P : LinkId → Type 0 = λ y. GoesOnly (protected net plan) fails y (header_of plan path) (d ∷ replaced (f ∷ g ∷ links) b bypass.via) (header_of plan path) in
            rw other (subst P same (along_path net plan fails p path d f g links (replaced (f ∷ g ∷ links) b bypass.via) k is at are good w))

-- several links may fail
find_at : (p : Bypass → Bool) (xs : List Bypass) (b : Bypass) → find p xs ≡ Some b → (i : ℕ) × (slice_get xs i ≡ Some b) × (p b ≡ true)
find_at p [] b h = let none : ◌≡◌ {A = Option Bypass} None (Some b) = h in cc
find_at p (x ∷ xs) b h = go (p x) refl (find_at p xs b)
  where
    go : (t : Bool) → p x ≡ t → (find p xs ≡ Some b → (i : ℕ) × (slice_get xs i ≡ Some b) × (p b ≡ true)) → (i : ℕ) × (slice_get (x ∷ xs) i ≡ Some b) × (p b ≡ true)
    go true here ih = let same : ◌≡◌ {A = Option Bypass} (Some x) (Some b) = rw here at h in let is : x ≡ b = cc in (0, same, ap p (sym is) ∙ here)
    go false here ih = let rest : find p xs ≡ Some b = rw here at h in let r = ih rest in (suc r.0, r.1, r.2)

saved_some : (bypasses : List Bypass) (fails : List LinkId) (f : LinkId) → has fails f ≡ true → is_saved bypasses fails f ≡ true → (b : Bypass) × (bypass_for bypasses f ≡ Some b) × (is_apart b.via fails ≡ true)
saved_some bypasses fails f down saved =
    let found : option_map_or (λ (b : Bypass). is_apart b.via fails) (bypass_for bypasses f) false ≡ true = sym (ap (λ t. not t || option_map_or (λ (b : Bypass). is_apart b.via fails) (bypass_for bypasses f) false) down) ∙ saved in
    some_of (bypass_for bypasses f) (λ (b : Bypass). is_apart b.via fails) found

several_down : (net : Net) (plan : Plan) (fails : List LinkId) (f : LinkId) (links : List LinkId) (z : LinkId) → IsNetwork net → IsPlan net plan → last_of (f ∷ links) ≡ Some z → has fails z ≡ false → list_all (is_saved plan.bypasses fails) (without_last (f ∷ links)) ≡ true
    → Way (plan_rows net plan) (rounds net plan) fails f links (rerouted plan.bypasses fails (f ∷ links))
several_down net plan fails f [] z k is last up saved =
    let same : f ≡ z = cc in
    let here : has fails f ≡ false = ap (has fails) same ∙ up in
    record { passable = here; along = rw here refl }
several_down net plan fails f (g ∷ links) z k is last up saved = go (has fails f) refl (several_down net plan fails g links z k is last up parts.1)
  where
    parts : (is_saved plan.bypasses fails f ≡ true) × (list_all (is_saved plan.bypasses fails) (without_last (g ∷ links)) ≡ true)
    parts = and_parts (is_saved plan.bypasses fails f) (list_all (is_saved plan.bypasses fails) (without_last (g ∷ links))) saved

    go : (t : Bool) → has fails f ≡ t → Way (plan_rows net plan) (rounds net plan) fails g links (rerouted plan.bypasses fails (g ∷ links)) → Way (plan_rows net plan) (rounds net plan) fails f (g ∷ links) (rerouted plan.bypasses fails (f ∷ g ∷ links))
    go false here w = record { passable = (inl here, w.passable); along = rw here (ap (λ es. f ∷ es) w.along) }
    go true here w = by (saved_some plan.bypasses fails f here parts.0)
      where
        fin : (b : Bypass) → bypass_for plan.bypasses f ≡ Some b → (s : Spared (plan_rows net plan) (rounds net plan) fails f) → s.way.via ≡ b.via → Way (plan_rows net plan) (rounds net plan) fails f (g ∷ links) (rerouted plan.bypasses fails (f ∷ g ∷ links))
        fin b found s via = record { passable = (inr s, w.passable); along = rw (here, found) (ap (λ es. es ++ route (plan_rows net plan) (rounds net plan) fails g links w.passable) via ∙ ap (λ es. b.via ++ es) w.along) }

        by : (b : Bypass) × (bypass_for plan.bypasses f ≡ Some b) × (is_apart b.via fails ≡ true) → Way (plan_rows net plan) (rounds net plan) fails f (g ∷ links) (rerouted plan.bypasses fails (f ∷ g ∷ links))
        by (b, found, apart) =
            let at = find_at (λ (x : Bypass). nat_eq x.link.0 f.0) plan.bypasses b found in
            let link : b.link ≡ f = same_link b.link f at.2 in
            let S : LinkId → Type 0 = λ x. (s : Spared (plan_rows net plan) (rounds net plan) fails x) × (s.way.via ≡ b.via) in
            let s : S f = subst S link (spared net plan fails at.0 b k is at.1 (ap (has fails) link ∙ here) apart) in
            fin b found s.0 s.1

pub several : (net : Net) (plan : Plan) (p : ℕ) (path : Path) (e z : LinkId) (fails : List LinkId) → IsNetwork net → IsPlan net plan → slice_get plan.paths p ≡ Some path → first_of path.links ≡ Some e → last_of path.links ≡ Some z → has fails e ≡ false → has fails z ≡ false
    → list_all (is_saved plan.bypasses fails) (inner path.links) ≡ true → GoesOnly (protected net plan) fails e (header_of plan path) (rerouted plan.bypasses fails path.links) (header_of plan path)
several net plan p path e z fails k is at first last up end_up saved = go path.links refl first last saved
  where
    long : 3 ≤ length path.links
    long = (path_facts net path (all_get (is_path_of net) plan.paths p path is.paths at)).long

    go : (links : List LinkId) → path.links ≡ links → first_of links ≡ Some e → last_of links ≡ Some z → list_all (is_saved plan.bypasses fails) (inner links) ≡ true → GoesOnly (protected net plan) fails e (header_of plan path) (rerouted plan.bypasses fails links) (header_of plan path)
    go [] are first last saved = cc
    go (d ∷ []) are first last saved = absurd (let count = ap (λ (ls : List LinkId). length ls) are in omega (arith, long))
    go (d ∷ f ∷ []) are first last saved = absurd (let count = ap (λ (ls : List LinkId). length ls) are in omega (arith, long))
    go (d ∷ f ∷ g ∷ links) are first last saved =
        let same : d ≡ e = cc in
        let here : has fails d ≡ false = ap (has fails) same ∙ up in
        let w = several_down net plan fails f (g ∷ links) z k is last end_up saved in
        let P : LinkId → Type 0 = λ y. GoesOnly (protected net plan) fails y (header_of plan path) (d ∷ rerouted plan.bypasses fails (f ∷ g ∷ links)) (header_of plan path) in
        rw here (subst P same (along_path net plan fails p path d f g links (rerouted plan.bypasses fails (f ∷ g ∷ links)) k is at are here w))
