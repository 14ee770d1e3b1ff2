-- The rows of a plan break no rule.
use Rattle.std.proofs.Common.{◌≡◌, ℕ, zero, suc, ◌+◌, ◌-◌, ◌*◌, ◌<◌, ◌≤◌, Bool, true, false, cond, not, ◌&&◌, nat_eq, nat_le, inl, inr, List, [], ◌∷◌, ◌++◌, length, slice_get, Option, Some, None, refl, sym, ap, ◌∙◌, subst, arith, true≢false}
use Rattle.std.specs.List.{list_all, list_any}
use Rattle.std.specs.Option.{option_map_or}
use Rattle.std.proofs.lemmas.Bool.{and_parts, and_from, and_left, leb-true, ltb-true, or_from, or_parts, or_left, or_right, or_cases, not-true, not_from_false, ne_eqb, eq-eqb, eqb-true, false_from_ne_true}
use Rattle.std.proofs.lemmas.List.{append_assoc, length-append, length-map}
use Rattle.std.proofs.lemmas.Option.{slice_get_within}
use Rattle.std.proofs.lemmas.List.Folds.{list_any-append}
use Rattle.wi_labels.specs.declared.label.Label.{Label}
use Rattle.wi_labels.specs.declared.label.Class.{Class}
use Rattle.wi_labels.specs.declared.label.Class.TheVariants.{Mpls, Smpls, Ip}
use Rattle.wi_labels.specs.Header.{same_class}
use Rattle.wi_labels.specs.declared.ops.Op.TheVariants.{Swap, Push, Pop}
use Rattle.wi_net.specs.declared.parts.LinkId.{LinkId}
use Rattle.wi_net.specs.declared.parts.Link.{Link}
use Rattle.wi_net.specs.declared.parts.RouterId.{RouterId}
use Rattle.wi_net.specs.declared.parts.Member.{Member}
use Rattle.wi_net.specs.declared.parts.TableRow.{TableRow}
use Rattle.wi_net.specs.LinkSet.{has}
use Rattle.wi_net.specs.Tables.{is_row, group_members}
use Rattle.wi_net.specs.Net.{Net, is_link, label_known}
use Rattle.wi_net.specs.Network.{IsNetwork, leaves, is_group_at}
use Rattle.wi_net.proofs.KeptLists.{get_there, get_before, all_get}
use Rattle.wi_net.proofs.SetLemmas.{same_link}
use Rattle.wi_plan.specs.declared.plan.Path.{Path}
use Rattle.wi_plan.specs.declared.plan.Bypass.{Bypass}
use Rattle.wi_plan.specs.declared.plan.Plan.{Plan}
use Rattle.wi_plan.specs.Plans.{IsPlan, is_path_of, is_bypass_of, is_joined, is_around, meets, reaches, first_of, last_of, sets_out, are_paths_apart, are_links_apart}
use Rattle.wi_protect.specs.Labels.{moved_by, path_labels, bypass_labels, paths_labels, bypasses_labels, first_path_label, first_bypass_label, new_labels, mpls_names, smpls_names, ip_names, classes_for, label_classes, names_of, bypasses_names, paths_names}
use Rattle.wi_protect.specs.Rows.{Round, round, label, only, row, onto, next_groups, end_rows, arrivals, rows_from, path_rows, via_rows, paths_rows, bypasses_rows}
use Rattle.wi_protect.specs.Protected.{rounds, plan_rows}
use Rattle.wi_protect.specs.Refusals.{has_too_many}
use Rattle.wi_protect.specs.private.Adding.{CanAdd}
use Rattle.wi_protect.proofs.Lookups.{lacks, lacks_append, arrivals_lack, rows_from_lack, via_rows_lack}
use Rattle.wi_protect.proofs.Placing.{path_rows_lack, paths_rows_lack, bypass_label, bypass_label_within}
use Rattle.wi_protect.proofs.Filling.{labelled_draft, few_all, count_all}
use Rattle.wi_protect.proofs.Fits.{Fits, fits_append, can_add, is_new, lacks_new, new_append, row_of, row_of_same, IsWay, onto_at, pop_at}
use Rattle.wi_protect.proofs.Protection.{BypassFacts, some_of, path_facts, bypass_facts, labels_above}
use Rattle.wi_protect.proofs.Classes.{paths_count, bypasses_count, in_last, known_at, ip_above, first_path}

-- where a way around a link ends
pub record EndOk (net : Net) (r : RouterId) (e : LinkId) (way : Round) : Type 0 where
  pub end : LinkId
  pub ends : last_of way.via ≡ Some end
  pub reach : reaches net r end ≡ true
  pub another : has way.via e ≡ false

end_alone : (via : List LinkId) (z : LinkId) (l : Label) (gs : List (List Member)) → last_of via ≡ Some z → end_rows via l gs ≡ row z l gs ∷ []
end_alone [] z l gs last = cc
end_alone (v ∷ []) z l gs last = let same : v ≡ z = cc in ap (λ x. row x l gs ∷ []) same
end_alone (v ∷ w ∷ via) z l gs last = end_alone (w ∷ via) z l gs last

end_apart : (via : List LinkId) (z e : LinkId) → last_of via ≡ Some z → has via e ≡ false → nat_eq z.0 e.0 ≡ false
end_apart [] z e last another = cc
end_apart (v ∷ []) z e last another = let same : v ≡ z = cc in rw (← same) ((or_parts (nat_eq v.0 e.0) false another).0)
end_apart (v ∷ w ∷ via) z e last another = end_apart (w ∷ via) z e last ((or_parts (nat_eq v.0 e.0) (has (w ∷ via) e) another).1)

-- the rows where a link is reached
arrivals_fit : (net : Net) (before : List TableRow) (o : Option Round) (e : LinkId) (l : Link) (n : ℕ) (gs : List (List Member)) → slice_get net.links e.0 ≡ Some l → n < length net.labels → list_all (is_group_at net l.to) gs ≡ true → group_members gs ≤ 2 → lacks n before ≡ true
    → ((way : Round) → o ≡ Some way → EndOk net l.to e way) → Fits net before (arrivals o e (label n) gs)
arrivals_fit net before None e l n gs at few all small lack ends = (lacks_new n before e gs lack, row_of net e l n gs at few all, small, tt)
arrivals_fit net before (Some way) e l n gs at few all small lack ends =
    let is = ends way refl in
    let P : List TableRow → Type 0 = λ rs. Fits net (before ++ row e (label n) gs ∷ []) rs in
    let other : is_row is.end (label n) (row e (label n) gs) ≡ false = and_left (nat_eq is.end.0 e.0) (nat_eq n n) (end_apart way.via is.end e is.ends is.another) in
    let free : is_new (row e (label n) gs ∷ []) (row is.end (label n) gs) ≡ true = rw other refl in (
      lacks_new n before e gs lack,
      row_of net e l n gs at few all,
      small,
      subst P (sym (end_alone way.via is.end (label n) gs is.ends))
          (new_append before (row e (label n) gs ∷ []) (row is.end (label n) gs) (lacks_new n before is.end gs lack) free, row_of_same net is.end l.to n gs is.reach few all, small, tt),
    )

-- every way around that there is
abbrev pub Ways : Net → (LinkId → Option Round) → Type 0
Ways net rounds = (f : LinkId) (l : Link) (way : Round) → slice_get net.links f.0 ≡ Some l → rounds f ≡ Some way → IsWay net l.from way × EndOk net l.to f way

-- labels of a class, from one number on up to another
abbrev pub Known : Net → Class → ℕ → ℕ → Type 0
Known net class low high = (n : ℕ) → low ≤ n → n < high → (label_known net.classes (label n, class) ≡ true) × (n < length net.labels)

abbrev router : ℕ → RouterId
router n = record { 0 = n }

link_at : (net : Net) (e : LinkId) → is_link net e ≡ true → (l : Link) × (slice_get net.links e.0 ≡ Some l)
link_at net e is = get_there net.links e.0 (ltb-true e.0 (length net.links) is)

-- a way around the next link leaves the router that the one before reaches
next_way : (net : Net) (rounds : LinkId → Option Round) (r : RouterId) (f : LinkId) (way : Round) → Ways net rounds → leaves net r f ≡ true → rounds f ≡ Some way → IsWay net r way
next_way net rounds r f way ways leave is =
    let l = some_of (slice_get net.links f.0) (λ (x : Link). nat_eq x.from.0 r.0) leave in
    let same : l.0.from ≡ r = ap router (eqb-true l.0.from.0 r.0 l.2) in
    let P : RouterId → Type 0 = λ x. IsWay net x way in
    subst P same (ways f l.0 way l.1 is).0

-- the rows from a link of a path on
rows_fit : (net : Net) (rounds : LinkId → Option Round) (before : List TableRow) (low high n : ℕ) (e : LinkId) (links : List LinkId) → Ways net rounds → Known net Smpls low high → list_all (is_link net) (e ∷ links) ≡ true → is_joined net (e ∷ links) ≡ true
    → ((m : ℕ) → n ≤ m → m < high → lacks m before ≡ true) → low ≤ n → n + length links ≤ high → Fits net before (rows_from rounds n e links)
rows_fit net rounds before low high n e [] ways known are joined lack above few = tt
rows_fit net rounds before low high n e (f ∷ links) ways known are joined lack above few =
    fits_append net before mine (rows_from rounds (n + 1) f links)
    (arrivals_fit net before (rounds e) e l.0 n groups l.1 (known n above (omega arith)).1 (valid links refl).0 (valid links refl).1 (lack n (omega arith) (omega arith)) (λ way is. (ways e l.0 way l.1 is).1))
    (rows_fit net rounds (before ++ mine) low high (n + 1) f links ways known parts.1 pair.1 later (omega arith) (omega arith))
  where
    groups : List (List Member)
    groups = next_groups rounds n (f ∷ links)

    mine : List TableRow
    mine = arrivals (rounds e) e (label n) groups

    parts : (is_link net e ≡ true) × (list_all (is_link net) (f ∷ links) ≡ true)
    parts = and_parts (is_link net e) (list_all (is_link net) (f ∷ links)) are

    pair : (meets net e f ≡ true) × (is_joined net (f ∷ links) ≡ true)
    pair = and_parts (meets net e f) (is_joined net (f ∷ links)) joined

    l : (l : Link) × (slice_get net.links e.0 ≡ Some l)
    l = link_at net e parts.0

    leave : leaves net l.0.to f ≡ true
    leave = sym (ap (λ o. option_map_or (λ (x : Link). leaves net x.to f) o false) l.1) ∙ pair.0

    valid : (rest : List LinkId) → links ≡ rest → (list_all (is_group_at net l.0.to) (next_groups rounds n (f ∷ rest)) ≡ true) × (group_members (next_groups rounds n (f ∷ rest)) ≤ 2)
    valid [] same = pop_at net l.0.to f Pop leave refl
    valid (g ∷ rest) same =
        let count : length links ≡ suc (length rest) = ap (λ (xs : List LinkId). length xs) same in
        onto_at net l.0.to (rounds f) (Swap (label (n + 1)) Smpls) f leave (known (n + 1) (omega arith) (omega arith)).0 (λ way is. next_way net rounds l.0.to f way ways leave is)

    later : (m : ℕ) → n + 1 ≤ m → m < high → lacks m (before ++ mine) ≡ true
    later m from to = lacks_append m before mine (lack m (omega arith) to) (arrivals_lack m n (rounds e) e groups (λ same. omega arith))

-- the rows of a path
path_fit : (net : Net) (rounds : LinkId → Option Round) (before : List TableRow) (low high n ip : ℕ) (links : List LinkId) → Ways net rounds → Known net Smpls low high → list_all (is_link net) links ≡ true → is_joined net links ≡ true → 3 ≤ length links
    → ((m : ℕ) → n ≤ m → m < high → lacks m before ≡ true) → low ≤ n → n + (length links - 2) ≤ high → high ≤ ip → ip < length net.labels
    → ((e : LinkId) → first_of links ≡ Some e → list_any (is_row e (label ip)) before ≡ false) → Fits net before (path_rows rounds n (label ip) links)
path_fit net rounds before low high n ip [] ways known are joined long lack above few behind named new = tt
path_fit net rounds before low high n ip (e ∷ []) ways known are joined long lack above few behind named new = tt
path_fit net rounds before low high n ip (e ∷ f ∷ links) ways known are joined long lack above few behind named new = (
  not_from_false (list_any (is_row e (label ip)) before) (new e refl),
  row_of net e l.0 ip groups l.1 named valid.0,
  valid.1,
  rows_fit net rounds (before ++ first ∷ []) low high n f links ways known parts.1 pair.1 later above (omega arith),
)
  where
    groups : List (List Member)
    groups = onto (rounds f) (Push (label n) Smpls) f

    first : TableRow
    first = row e (label ip) groups

    parts : (is_link net e ≡ true) × (list_all (is_link net) (f ∷ links) ≡ true)
    parts = and_parts (is_link net e) (list_all (is_link net) (f ∷ links)) are

    pair : (meets net e f ≡ true) × (is_joined net (f ∷ links) ≡ true)
    pair = and_parts (meets net e f) (is_joined net (f ∷ links)) joined

    l : (l : Link) × (slice_get net.links e.0 ≡ Some l)
    l = link_at net e parts.0

    leave : leaves net l.0.to f ≡ true
    leave = sym (ap (λ o. option_map_or (λ (x : Link). leaves net x.to f) o false) l.1) ∙ pair.0

    valid : (list_all (is_group_at net l.0.to) groups ≡ true) × (group_members groups ≤ 2)
    valid = onto_at net l.0.to (rounds f) (Push (label n) Smpls) f leave (known n above (omega arith)).0 (λ way is. next_way net rounds l.0.to f way ways leave is)

    later : (m : ℕ) → n ≤ m → m < high → lacks m (before ++ first ∷ []) ≡ true
    later m from to = lacks_append m before (first ∷ []) (lack m from to) (and_from (not (nat_eq m ip)) true (not_from_false (nat_eq m ip) (ne_eqb m ip (λ same. omega arith))) refl)

-- the rows along a bypass
via_fit : (net : Net) (before : List TableRow) (low high n : ℕ) (via : List LinkId) → Known net Mpls low high → list_all (is_link net) via ≡ true → is_joined net via ≡ true → ((m : ℕ) → n ≤ m → m < high → lacks m before ≡ true) → low ≤ n → n + (length via - 1) ≤ high → Fits net before (via_rows n via)
via_fit net before low high n [] known are joined lack above few = tt
via_fit net before low high n (v ∷ []) known are joined lack above few = tt
via_fit net before low high n (v ∷ w ∷ []) known are joined lack above few =
    let parts = and_parts (is_link net v) (list_all (is_link net) (w ∷ [])) are in
    let l = link_at net v parts.0 in
    let pair = and_parts (meets net v w) true joined in
    let leave : leaves net l.0.to w ≡ true = sym (ap (λ o. option_map_or (λ (x : Link). leaves net x.to w) o false) l.1) ∙ pair.0 in
    let valid = pop_at net l.0.to w Pop leave refl in
    (lacks_new n before v (only w (Pop ∷ []) ∷ []) (lack n (omega arith) (omega arith)), row_of net v l.0 n (only w (Pop ∷ []) ∷ []) l.1 (known n above (omega arith)).1 valid.0, valid.1, tt)
via_fit net before low high n (v ∷ w ∷ x ∷ via) known are joined lack above few =
    let parts = and_parts (is_link net v) (list_all (is_link net) (w ∷ x ∷ via)) are in
    let l = link_at net v parts.0 in
    let pair = and_parts (meets net v w) (is_joined net (w ∷ x ∷ via)) joined in
    let leave : leaves net l.0.to w ≡ true = sym (ap (λ o. option_map_or (λ (x : Link). leaves net x.to w) o false) l.1) ∙ pair.0 in
    let valid = pop_at net l.0.to w (Swap (label (n + 1)) Mpls) leave (known (n + 1) (omega arith) (omega arith)).0 in (
      lacks_new n before v (only w (Swap (label (n + 1)) Mpls ∷ []) ∷ []) (lack n (omega arith) (omega arith)),
      row_of net v l.0 n (only w (Swap (label (n + 1)) Mpls ∷ []) ∷ []) l.1 (known n above (omega arith)).1 valid.0,
      valid.1,
      via_fit net (before ++ row v (label n) (only w (Swap (label (n + 1)) Mpls ∷ []) ∷ []) ∷ []) low high (n + 1) (w ∷ x ∷ via) known parts.1 pair.1
          (λ m from to. lacks_append m before (row v (label n) (only w (Swap (label (n + 1)) Mpls ∷ []) ∷ []) ∷ []) (lack m (omega arith) to) (and_from (not (nat_eq m n)) true (not_from_false (nat_eq m n) (ne_eqb m n (λ same. omega arith))) refl))
          (omega arith) (omega arith),
    )

-- paths that set out where no row is
abbrev pub Free : ℕ → List Path → List TableRow → Type 0
Free k paths before = (e : LinkId) (ip : Label) → list_any (sets_out e ip) paths ≡ true → list_any (is_row e (label (ip.0 + k))) before ≡ false

out_is : (e : LinkId) (path : Path) (links : List LinkId) → path.links ≡ links → first_of links ≡ Some e → sets_out e path.ip path ≡ true
out_is e path links is first =
    and_from (nat_eq path.ip.0 path.ip.0) (option_map_or (λ f. nat_eq e.0 f.0) (first_of path.links) false) (eq-eqb path.ip.0 path.ip.0 refl)
    (ap (λ o. option_map_or (λ (f : LinkId). nat_eq e.0 f.0) o false) (ap first_of is ∙ first) ∙ eq-eqb e.0 e.0 refl)

-- a path sets out at one place only
out_same : (d e : LinkId) (ip : Label) (first path : Path) → nat_eq e.0 d.0 ≡ true → first.ip.0 ≡ ip.0 → sets_out e ip path ≡ true → sets_out d first.ip path ≡ true
out_same d e ip first path links ips out =
    let p = and_parts (nat_eq ip.0 path.ip.0) (option_map_or (λ f. nat_eq e.0 f.0) (first_of path.links) false) out in
    let f = some_of (first_of path.links) (λ (f : LinkId). nat_eq e.0 f.0) p.1 in
    and_from (nat_eq first.ip.0 path.ip.0) (option_map_or (λ f. nat_eq d.0 f.0) (first_of path.links) false)
    (eq-eqb first.ip.0 path.ip.0 (ips ∙ eqb-true ip.0 path.ip.0 p.0))
    (ap (λ o. option_map_or (λ (x : LinkId). nat_eq d.0 x.0) o false) f.1 ∙ eq-eqb d.0 f.0.0 (sym (eqb-true e.0 d.0 links) ∙ eqb-true e.0 f.0.0 f.2))

any_same : (d e : LinkId) (ip : Label) (first : Path) (paths : List Path) → nat_eq e.0 d.0 ≡ true → first.ip.0 ≡ ip.0 → list_any (sets_out e ip) paths ≡ true → list_any (sets_out d first.ip) paths ≡ true
any_same d e ip first [] links ips any = absurd (true≢false (sym any))
any_same d e ip first (path ∷ paths) links ips any =
    elim (or_cases (sets_out e ip path) (list_any (sets_out e ip) paths) any) [
      | inl here ↦ or_left (sets_out d first.ip path) (list_any (sets_out d first.ip) paths) (out_same d e ip first path links ips here)
      | inr there ↦ or_right (sets_out d first.ip path) (list_any (sets_out d first.ip) paths) (any_same d e ip first paths links ips there)
    ]

-- rows without a label have no row of it
lacks_row : (e : LinkId) (n : ℕ) (rows : List TableRow) → lacks n rows ≡ true → list_any (is_row e (label n)) rows ≡ false
lacks_row e n rows h = not-true (list_any (is_row e (label n)) rows) (lacks_new n rows e [] h)

-- a path's rows leave the others' first places free
path_free : (rounds : LinkId → Option Round) (k n : ℕ) (first : Path) (paths : List Path) (links : List LinkId) → first.links ≡ links → are_paths_apart (first ∷ paths) ≡ true → n + (length links - 2) ≤ first.ip.0 + k
    → ((ip : Label) (e : LinkId) → list_any (sets_out e ip) paths ≡ true → n + (length links - 2) ≤ ip.0 + k) → Free k paths (path_rows rounds n (moved_by k first.ip) links)
path_free rounds k n first paths [] is apart behind all e ip out = refl
path_free rounds k n first paths (d ∷ []) is apart behind all e ip out = refl
path_free rounds k n first paths (d ∷ f ∷ links) is apart behind all e ip out =
    or_from (is_row e (label (ip.0 + k)) (row d (moved_by k first.ip) (onto (rounds f) (Push (label n) Smpls) f))) (list_any (is_row e (label (ip.0 + k))) (rows_from rounds n f links)) other
    (lacks_row e (ip.0 + k) (rows_from rounds n f links) (rows_from_lack rounds (ip.0 + k) n f links (inr (let least = all ip e out in omega (arith, least)))))
  where
    none : list_any (sets_out d first.ip) paths ≡ false
    none =
        let parts = and_parts (option_map_or (λ x. not (list_any (sets_out x first.ip) paths)) (first_of first.links) true) (are_paths_apart paths) apart in
        not-true (list_any (sets_out d first.ip) paths) (sym (ap (λ ls. option_map_or (λ x. not (list_any (sets_out x first.ip) paths)) (first_of ls) true) is) ∙ parts.0)

    other : (nat_eq e.0 d.0 && nat_eq (ip.0 + k) (first.ip.0 + k)) ≡ false
    other = false_from_ne_true (nat_eq e.0 d.0 && nat_eq (ip.0 + k) (first.ip.0 + k)) (λ both.
        let two = and_parts (nat_eq e.0 d.0) (nat_eq (ip.0 + k) (first.ip.0 + k)) both in
        let same = eqb-true (ip.0 + k) (first.ip.0 + k) two.1 in
        true≢false (sym (any_same d e ip first paths two.0 (omega arith) out) ∙ none))

record PathValid (net : Net) (links : List LinkId) : Type 0 where
  are : list_all (is_link net) links ≡ true
  joined : is_joined net links ≡ true
  long : 3 ≤ length links

path_valid : (net : Net) (path : Path) → is_path_of net path ≡ true → PathValid net path.links
path_valid net path h =
    let p1 = and_parts (label_known net.classes (path.ip, Ip)) (list_all (is_link net) path.links && (nat_le 3 (length path.links) && (is_joined net path.links && are_links_apart path.links))) h in
    let p2 = and_parts (list_all (is_link net) path.links) (nat_le 3 (length path.links) && (is_joined net path.links && are_links_apart path.links)) p1.1 in
    let p3 = and_parts (nat_le 3 (length path.links)) (is_joined net path.links && are_links_apart path.links) p2.1 in
    let p4 = and_parts (is_joined net path.links) (are_links_apart path.links) p3.1 in
    record { are = p2.0; joined = p4.0; long = leb-true 3 (length path.links) p3.0 }

-- ip labels of paths are at or above a number, and are labels
abbrev pub Ips : Net → ℕ → ℕ → List Path → Type 0
Ips net k high [] = Unit {0}
Ips net k high (path ∷ paths) = (high ≤ path.ip.0 + k) × (path.ip.0 + k < length net.labels) × Ips net k high paths

ips_out : (net : Net) (k high : ℕ) (paths : List Path) (e : LinkId) (ip : Label) → Ips net k high paths → list_any (sets_out e ip) paths ≡ true → high ≤ ip.0 + k
ips_out net k high [] e ip ips out = absurd (true≢false (sym out))
ips_out net k high (path ∷ paths) e ip ips out =
    elim (or_cases (sets_out e ip path) (list_any (sets_out e ip) paths) out) [
      | inl here ↦ (let p = and_parts (nat_eq ip.0 path.ip.0) (option_map_or (λ f. nat_eq e.0 f.0) (first_of path.links) false) here in let same = eqb-true ip.0 path.ip.0 p.0 in omega (arith, ips.0))
      | inr there ↦ ips_out net k high paths e ip ips.2 there
    ]

-- the rows of paths; base is the network that the plan is over, whose links are the same
paths_fit : (base net : Net) (rounds : LinkId → Option Round) (before : List TableRow) (k low high n : ℕ) (paths : List Path) → net.links ≡ base.links → Ways net rounds → Known net Smpls low high → list_all (is_path_of base) paths ≡ true → ((ls : List LinkId) → PathValid base ls → PathValid net ls)
    → are_paths_apart paths ≡ true → Ips net k high paths → ((m : ℕ) → n ≤ m → m < high → lacks m before ≡ true) → Free k paths before → low ≤ n → n + paths_labels paths ≤ high → Fits net before (paths_rows rounds (moved_by k) n paths)
paths_fit base net rounds before k low high n [] same ways known are valid apart ips lack free above few = tt
paths_fit base net rounds before k low high n (path ∷ paths) same ways known are valid apart ips lack free above few =
    fits_append net before mine (paths_rows rounds (moved_by k) (n + path_labels path) paths)
    (path_fit net rounds before low high n (path.ip.0 + k) path.links ways known is.are is.joined is.long lack above (omega arith) ips.0 ips.1
    (λ e first. free e path.ip (or_left (sets_out e path.ip path) (list_any (sets_out e path.ip) paths) (out_is e path path.links refl first))))
    (paths_fit base net rounds (before ++ mine) k low high (n + path_labels path) paths same ways known parts.1 valid rest.1 ips.2 later more (omega arith) (omega arith))
  where
    mine : List TableRow
    mine = path_rows rounds n (moved_by k path.ip) path.links

    parts : (is_path_of base path ≡ true) × (list_all (is_path_of base) paths ≡ true)
    parts = and_parts (is_path_of base path) (list_all (is_path_of base) paths) are

    is : PathValid net path.links
    is = valid path.links (path_valid base path parts.0)

    rest : (option_map_or (λ x. not (list_any (sets_out x path.ip) paths)) (first_of path.links) true ≡ true) × (are_paths_apart paths ≡ true)
    rest = and_parts (option_map_or (λ x. not (list_any (sets_out x path.ip) paths)) (first_of path.links) true) (are_paths_apart paths) apart

    later : (m : ℕ) → n + path_labels path ≤ m → m < high → lacks m (before ++ mine) ≡ true
    later m from to = lacks_append m before mine (lack m (omega arith) to) (path_rows_lack rounds m n (moved_by k path.ip) path.links (inr from) (λ eq. let least = ips.0 in omega arith))

    more : Free k paths (before ++ mine)
    more e ip out =
        list_any-append (is_row e (label (ip.0 + k))) before mine
        ∙ or_from (list_any (is_row e (label (ip.0 + k))) before) (list_any (is_row e (label (ip.0 + k))) mine)
        (free e ip (or_right (sets_out e ip path) (list_any (sets_out e ip) paths) out))
        (path_free rounds k n path paths path.links refl apart (let least = ips.0 in omega arith) (λ jp f there. let least = ips_out net k high paths f jp ips.2 there in omega (arith, least)) e ip out)

record ViaValid (net : Net) (via : List LinkId) : Type 0 where
  are : list_all (is_link net) via ≡ true
  joined : is_joined net via ≡ true

via_valid : (net : Net) (bypass : Bypass) → is_bypass_of net bypass ≡ true → ViaValid net bypass.via
via_valid net bypass h =
    let p1 = and_parts (is_link net bypass.link) (list_all (is_link net) bypass.via && (is_joined net bypass.via && (is_around net bypass.link bypass.via && not (has bypass.via bypass.link)))) h in
    let p2 = and_parts (list_all (is_link net) bypass.via) (is_joined net bypass.via && (is_around net bypass.link bypass.via && not (has bypass.via bypass.link))) p1.1 in
    let p3 = and_parts (is_joined net bypass.via) (is_around net bypass.link bypass.via && not (has bypass.via bypass.link)) p2.1 in
    record { are = p2.0; joined = p3.0 }

bypasses_fit : (base net : Net) (before : List TableRow) (low high n : ℕ) (bypasses : List Bypass) → Known net Mpls low high → list_all (is_bypass_of base) bypasses ≡ true → ((ls : List LinkId) → ViaValid base ls → ViaValid net ls)
    → ((m : ℕ) → n ≤ m → m < high → lacks m before ≡ true) → low ≤ n → n + bypasses_labels bypasses ≤ high → Fits net before (bypasses_rows n bypasses)
bypasses_fit base net before low high n [] known are valid lack above few = tt
bypasses_fit base net before low high n (x ∷ xs) known are valid lack above few =
    fits_append net before (via_rows n x.via) (bypasses_rows (n + bypass_labels x) xs)
    (via_fit net before low high n x.via known is.are is.joined lack above (omega arith))
    (bypasses_fit base net (before ++ via_rows n x.via) low high (n + bypass_labels x) xs known parts.1 valid
    (λ m from to. lacks_append m before (via_rows n x.via) (lack m (omega arith) to) (via_rows_lack m n x.via (inr from))) (omega arith) (omega arith))
  where
    parts : (is_bypass_of base x ≡ true) × (list_all (is_bypass_of base) xs ≡ true)
    parts = and_parts (is_bypass_of base x) (list_all (is_bypass_of base) xs) are

    is : ViaValid net x.via
    is = valid x.via (via_valid base x parts.0)

-- how many rows there are
rows_count : (rounds : LinkId → Option Round) (n : ℕ) (e : LinkId) (links : List LinkId) → length (rows_from rounds n e links) ≤ 2 * length links
rows_count rounds n e [] = omega arith
rows_count rounds n e (f ∷ links) =
    omega (arith, length-append (arrivals (rounds e) e (label n) (next_groups rounds n (f ∷ links))) (rows_from rounds (n + 1) f links), rows_count rounds (n + 1) f links, two (rounds e) (next_groups rounds n (f ∷ links)))
  where
    ends : (via : List LinkId) (gs : List (List Member)) → length (end_rows via (label n) gs) ≤ 1
    ends [] gs = omega arith
    ends (v ∷ []) gs = omega arith
    ends (v ∷ w ∷ via) gs = ends (w ∷ via) gs

    two : (o : Option Round) (gs : List (List Member)) → length (arrivals o e (label n) gs) ≤ 2
    two None gs = omega arith
    two (Some way) gs = omega (arith, ends way.via gs)

paths_rows_count : (base : Net) (rounds : LinkId → Option Round) (k n : ℕ) (paths : List Path) → list_all (is_path_of base) paths ≡ true → length (paths_rows rounds (moved_by k) n paths) ≤ 3 * paths_labels paths
paths_rows_count base rounds k n [] are = omega arith
paths_rows_count base rounds k n (path ∷ paths) are =
    let parts = and_parts (is_path_of base path) (list_all (is_path_of base) paths) are in
    omega (arith, length-append (path_rows rounds n (moved_by k path.ip) path.links) (paths_rows rounds (moved_by k) (n + path_labels path) paths), paths_rows_count base rounds k (n + path_labels path) paths parts.1, one path.links (path_valid base path parts.0).long)
  where
    one : (links : List LinkId) → 3 ≤ length links → length (path_rows rounds n (moved_by k path.ip) links) ≤ 3 * (length links - 2)
    one [] long = absurd (omega arith)
    one (e ∷ []) long = absurd (omega arith)
    one (e ∷ f ∷ links) long = omega (arith, rows_count rounds n f links)

via_count : (n : ℕ) (via : List LinkId) → length (via_rows n via) ≤ length via - 1
via_count n [] = omega arith
via_count n (v ∷ []) = omega arith
via_count n (v ∷ w ∷ []) = omega arith
via_count n (v ∷ w ∷ x ∷ via) = omega (arith, via_count (n + 1) (w ∷ x ∷ via))

bypasses_rows_count : (n : ℕ) (xs : List Bypass) → length (bypasses_rows n xs) ≤ bypasses_labels xs
bypasses_rows_count n [] = omega arith
bypasses_rows_count n (x ∷ xs) = omega (arith, length-append (via_rows n x.via) (bypasses_rows (n + bypass_labels x) xs), via_count n x.via, bypasses_rows_count (n + bypass_labels x) xs)

-- the new labels have their classes
class_front : (class : Class) (names : List (List ℕ)) (rest : List Class) (n : ℕ) → n < length names → slice_get (classes_for class names ++ rest) n ≡ Some class
class_front class [] rest n lt = absurd (omega arith)
class_front class (s ∷ names) rest zero lt = refl
class_front class (s ∷ names) rest (suc n) lt = class_front class names rest n (omega arith)

known_from : (net : Net) (class : Class) (n : ℕ) → slice_get net.classes n ≡ Some class → label_known net.classes (label n, class) ≡ true
known_from net class n at = rw at (same class)
  where
    same : (c : Class) → same_class c c ≡ true
    same Mpls = refl
    same Smpls = refl
    same Ip = refl

mpls_known : (net : Net) (plan : Plan) → Known (labelled_draft net plan).net Mpls (first_bypass_label net) (first_bypass_label net + bypasses_labels plan.bypasses)
mpls_known net plan n low high =
    let count : length (mpls_names net plan) ≡ first_bypass_label net + bypasses_labels plan.bypasses = omega (arith, length-append (names_of Mpls net.classes net.labels) (bypasses_names 1 plan.bypasses), bypasses_count 1 plan.bypasses) in (
      known_from (labelled_draft net plan).net Mpls n (class_front Mpls (mpls_names net plan) (classes_for Smpls (smpls_names net plan) ++ classes_for Ip (ip_names net)) n (omega arith)),
      omega (arith, length-append (mpls_names net plan) (smpls_names net plan ++ ip_names net)),
    )

smpls_known : (net : Net) (plan : Plan) → Known (labelled_draft net plan).net Smpls (first_path_label net plan) (first_path_label net plan + paths_labels plan.paths)
smpls_known net plan n low high =
    let count : length (smpls_names net plan) ≡ length (names_of Smpls net.classes net.labels) + paths_labels plan.paths = omega (arith, length-append (names_of Smpls net.classes net.labels) (paths_names 1 plan.paths), paths_count 1 plan.paths) in
    let mpls : length (classes_for Mpls (mpls_names net plan)) ≡ length (mpls_names net plan) = length-map (mpls_names net plan) (λ _. Mpls) in
    let here : slice_get (classes_for Mpls (mpls_names net plan) ++ classes_for Smpls (smpls_names net plan)) n ≡ Some Smpls = in_last Smpls (classes_for Mpls (mpls_names net plan)) (smpls_names net plan) n (omega arith) (omega arith) in
    let there : slice_get (label_classes net plan) n ≡ Some Smpls =
    ap (λ cs. slice_get cs n) (sym (append_assoc (classes_for Mpls (mpls_names net plan)) (classes_for Smpls (smpls_names net plan)) (classes_for Ip (ip_names net))))
    ∙ get_before (classes_for Mpls (mpls_names net plan) ++ classes_for Smpls (smpls_names net plan)) (classes_for Ip (ip_names net)) n Smpls here in (
      known_from (labelled_draft net plan).net Smpls n there,
      omega (arith, length-append (mpls_names net plan) (smpls_names net plan ++ ip_names net), length-append (smpls_names net plan) (ip_names net)),
    )

-- a way around is that of a bypass
record RoundFrom (l : ℕ) (bypasses : List Bypass) (f : LinkId) (way : Round) : Type 0 where
  x : ℕ
  bypass : Bypass
  at : slice_get bypasses x ≡ Some bypass
  link : bypass.link ≡ f
  via : way.via ≡ bypass.via
  first : way.first ≡ bypass_label l bypasses x

round_from : (l : ℕ) (bypasses : List Bypass) (f : LinkId) (way : Round) → round l bypasses f ≡ Some way → RoundFrom l bypasses f way
round_from l [] f way is = let none : ◌≡◌ {A = Option Round} None (Some way) = is in cc
round_from l (b ∷ bypasses) f way is = go (nat_eq (b.link).0 f.0) refl is (round_from (l + bypass_labels b) bypasses f way)
  where
    go : (t : Bool) → nat_eq (b.link).0 f.0 ≡ t → cond t (Some (record { via = b.via; first = l })) (round (l + bypass_labels b) bypasses f) ≡ Some way → (round (l + bypass_labels b) bypasses f ≡ Some way → RoundFrom (l + bypass_labels b) bypasses f way) → RoundFrom l (b ∷ bypasses) f way
    go true same some ih =
        let e : ◌≡◌ {A = Round} (record { via = b.via; first = l }) way = cc in
        record { x = 0; bypass = b; at = refl; link = same_link b.link f same; via = sym (ap (λ (r : Round). r.via) e); first = sym (ap (λ (r : Round). r.first) e) }
    go false same some ih = let r = ih some in record { x = suc r.x; bypass = r.bypass; at = r.at; link = r.link; via = r.via; first = r.first }

ways_ok : (net : Net) (plan : Plan) → IsPlan net plan → Ways (labelled_draft net plan).net (rounds net plan)
ways_ok net plan is f l way at found = go (round_from (first_bypass_label net) plan.bypasses f way found)
  where
    go : RoundFrom (first_bypass_label net) plan.bypasses f way → IsWay (labelled_draft net plan).net l.from way × EndOk (labelled_draft net plan).net l.to f way
    go r = (
      record { leave = ap (λ via. option_map_or (λ v. leaves net l.from v) (first_of via) false) r.via ∙ ends.0; known = known },
      record { end = facts.end; ends = ap last_of r.via ∙ facts.ends; reach = reach; another = ap (λ via. has via f) r.via ∙ ap (λ e. has r.bypass.via e) (sym r.link) ∙ facts.another },
    )
      where
        is_bypass : is_bypass_of net r.bypass ≡ true
        is_bypass = all_get (is_bypass_of net) plan.bypasses r.x r.bypass is.bypasses r.at

        facts : BypassFacts r.bypass.via r.bypass.link
        facts = bypass_facts net r.bypass is_bypass

        around : is_around net r.bypass.link r.bypass.via ≡ true
        around =
            let p1 = and_parts (is_link net r.bypass.link) (list_all (is_link net) r.bypass.via && (is_joined net r.bypass.via && (is_around net r.bypass.link r.bypass.via && not (has r.bypass.via r.bypass.link)))) is_bypass in
            let p2 = and_parts (list_all (is_link net) r.bypass.via) (is_joined net r.bypass.via && (is_around net r.bypass.link r.bypass.via && not (has r.bypass.via r.bypass.link))) p1.1 in
            let p3 = and_parts (is_joined net r.bypass.via) (is_around net r.bypass.link r.bypass.via && not (has r.bypass.via r.bypass.link)) p2.1 in
            (and_parts (is_around net r.bypass.link r.bypass.via) (not (has r.bypass.via r.bypass.link)) p3.1).0

        there : slice_get net.links r.bypass.link.0 ≡ Some l
        there = ap (λ (e : LinkId). slice_get net.links e.0) r.link ∙ at

        ends : (option_map_or (λ v. leaves net l.from v) (first_of r.bypass.via) false ≡ true) × (option_map_or (λ v. reaches net l.to v) (last_of r.bypass.via) false ≡ true)
        ends = and_parts (option_map_or (λ v. leaves net l.from v) (first_of r.bypass.via) false) (option_map_or (λ v. reaches net l.to v) (last_of r.bypass.via) false)
            (sym (ap (λ o. option_map_or (λ (x : Link). option_map_or (λ v. leaves net x.from v) (first_of r.bypass.via) false && option_map_or (λ v. reaches net x.to v) (last_of r.bypass.via) false) o false) there) ∙ around)

        reach : reaches net l.to facts.end ≡ true
        reach = sym (ap (λ o. option_map_or (λ v. reaches net l.to v) o false) facts.ends) ∙ ends.1

        known : 1 < length way.via → label_known (labelled_draft net plan).net.classes (label way.first, Mpls) ≡ true
        known long =
            let within = bypass_label_within (first_bypass_label net) plan.bypasses r.x r.bypass r.at in
            let count : length way.via ≡ length r.bypass.via = ap (λ (xs : List LinkId). length xs) r.via in
            (mpls_known net plan way.first (omega (arith, within.0, r.first)) (omega (arith, within.1, r.first))).0

ips_ok : (net : Net) (plan : Plan) (paths : List Path) → IsNetwork net → list_all (is_path_of net) paths ≡ true → Ips (labelled_draft net plan).net (new_labels plan) (first_path_label net plan + paths_labels plan.paths) paths
ips_ok net plan [] k are = tt
ips_ok net plan (path ∷ paths) k are =
    let parts = and_parts (is_path_of net path) (list_all (is_path_of net) paths) are in
    let known = (path_facts net path parts.0).known in
    let within = slice_get_within net.classes path.ip.0 Ip (known_at net.classes path.ip Ip known) in
    (ip_above net plan path.ip k known, omega (arith, within, k.classes, count_all net plan k), ips_ok net plan paths k parts.1)

pub can_fill : (net : Net) (plan : Plan) → IsNetwork net → IsPlan net plan → has_too_many net plan ≡ false → CanAdd (labelled_draft net plan) (plan_rows net plan)
can_fill net plan k is few = can_add (labelled_draft net plan) (plan_rows net plan) fits (omega (arith, count)) (omega (arith, count))
  where
    low : ℕ
    low = first_path_label net plan

    high : ℕ
    high = low + paths_labels plan.paths

    first : ℕ
    first = first_bypass_label net

    front : List TableRow
    front = paths_rows (rounds net plan) (moved_by (new_labels plan)) low plan.paths

    back : List TableRow
    back = bypasses_rows first plan.bypasses

    count : length (front ++ back) ≤ 60000
    count =
        let names = few_all net plan k few in
        omega (arith, length-append front back, paths_rows_count net (rounds net plan) (new_labels plan) low plan.paths is.paths, bypasses_rows_count first plan.bypasses, names, count_all net plan k)

    apart : (m : ℕ) → first ≤ m → m < first + bypasses_labels plan.bypasses → lacks m front ≡ true
    apart m from to = paths_rows_lack (rounds net plan) (new_labels plan) m low high plan.paths (labels_above net plan plan.paths k is.paths) (omega (arith, first_path net plan)) (inl (omega (arith, first_path net plan)))

    fits : Fits (labelled_draft net plan).net [] (front ++ back)
    fits = fits_append (labelled_draft net plan).net [] front back
        (paths_fit net (labelled_draft net plan).net (rounds net plan) [] (new_labels plan) low high low plan.paths refl (ways_ok net plan is) (smpls_known net plan) is.paths (λ ls v. record { are = v.are; joined = v.joined; long = v.long }) is.paths_apart (ips_ok net plan plan.paths k is.paths) (λ m from to. refl) (λ e ip out. refl) (omega arith) (omega arith))
        (bypasses_fit net (labelled_draft net plan).net front first (first + bypasses_labels plan.bypasses) first plan.bypasses (mpls_known net plan) is.bypasses (λ ls v. record { are = v.are; joined = v.joined }) apart (omega arith) (omega arith))
