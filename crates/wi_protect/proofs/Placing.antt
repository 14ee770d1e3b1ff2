-- Where the rows of each path and of each bypass stand.
use Rattle.std.proofs.Common.{◌≡◌, ℕ, ◌+◌, ◌-◌, ◌<◌, ◌≤◌, Bool, true, false, not, ◌&&◌, nat_eq, nat_le, inl, inr, List, [], ◌∷◌, ◌++◌, length, slice_get, Option, Some, refl, sym, ap, ◌∙◌, arith, zero, suc}
use Rattle.std.specs.List.{list_any, list_all}
use Rattle.std.specs.Option.{option_map_or}
use Rattle.std.proofs.lemmas.Bool.{and_parts, and_from, not-true, not_from_false, ne_eqb, eq-eqb, eqb-true, leb-true, or_parts, false_from_ne_true, true≢false}
use Rattle.std.proofs.lemmas.List.{append_assoc}
use Rattle.wi_labels.specs.declared.label.Label.{Label}
use Rattle.wi_labels.specs.declared.label.Class.TheVariants.{Smpls}
use Rattle.wi_labels.specs.declared.ops.Op.TheVariants.{Push}
use Rattle.wi_net.specs.declared.parts.LinkId.{LinkId}
use Rattle.wi_net.specs.declared.parts.TableRow.{TableRow}
use Rattle.wi_net.specs.Tables.{groups_in}
use Rattle.wi_plan.specs.declared.plan.Path.{Path}
use Rattle.wi_plan.specs.declared.plan.Bypass.{Bypass}
use Rattle.wi_plan.specs.Plans.{first_of, sets_out, are_paths_apart, are_bypasses_apart}
use Rattle.wi_protect.specs.Labels.{moved_by, path_labels, bypass_labels, paths_labels, bypasses_labels}
use Rattle.wi_protect.specs.Rows.{Round, label, round, onto, rows_from, path_rows, via_rows, paths_rows, bypasses_rows}
use Rattle.wi_protect.proofs.AddLemmas.{number_at}
use Rattle.wi_protect.proofs.Lookups.{lacks, lacks_append, pass_over, found, IsOutside, rows_from_lack, via_rows_lack}

-- the number of the first label of a path, and of a bypass
abbrev pub path_label : ℕ → List Path → ℕ → ℕ
path_label l paths p = number_at path_labels l paths p

abbrev pub bypass_label : ℕ → List Bypass → ℕ → ℕ
bypass_label l bypasses x = number_at bypass_labels l bypasses x

-- rows with some of them in the middle, and none of these rows' labels before them
pub record Placed (rows mine : List TableRow) (low high : ℕ) : Type 0 where
  pub before : List TableRow
  pub after : List TableRow
  pub are : rows ≡ before ++ (mine ++ after)
  pub lack : (n : ℕ) → low ≤ n → n < high → lacks n before ≡ true

-- labels of paths are at or above a number
abbrev pub are_above : ℕ → ℕ → List Path → Bool
are_above k high paths = list_all (λ (path : Path). nat_le high (path.ip.0 + k)) paths

pub path_rows_lack : (rounds : LinkId → Option Round) (n l : ℕ) (ip : Label) (links : List LinkId) → IsOutside n l (length links - 2) → (n ≡ ip.0 → ⊥) → lacks n (path_rows rounds l ip links) ≡ true
path_rows_lack rounds n l ip [] out other = refl
path_rows_lack rounds n l ip (e ∷ []) out other = refl
path_rows_lack rounds n l ip (e ∷ f ∷ links) out other =
    and_from (not (nat_eq n ip.0)) (lacks n (rows_from rounds l f links)) (not_from_false (nat_eq n ip.0) (ne_eqb n ip.0 other))
    (rows_from_lack rounds n l f links (elim out [ inl lt ↦ inl (omega arith) | inr ge ↦ inr (omega arith) ]))

pub paths_rows_lack : (rounds : LinkId → Option Round) (k n l high : ℕ) (paths : List Path) → are_above k high paths ≡ true → n < high → IsOutside n l (paths_labels paths) → lacks n (paths_rows rounds (moved_by k) l paths) ≡ true
paths_rows_lack rounds k n l high [] above below out = refl
paths_rows_lack rounds k n l high (path ∷ paths) above below out =
    let parts = and_parts (nat_le high (path.ip.0 + k)) (are_above k high paths) above in
    let least = leb-true high (path.ip.0 + k) parts.0 in
    lacks_append n (path_rows rounds l (moved_by k path.ip) path.links) (paths_rows rounds (moved_by k) (l + path_labels path) paths)
    (path_rows_lack rounds n l (moved_by k path.ip) path.links (elim out [ inl lt ↦ inl lt | inr ge ↦ inr (omega arith) ]) (λ same. omega arith))
    (paths_rows_lack rounds k n (l + path_labels path) high paths parts.1 below (elim out [ inl lt ↦ inl (omega arith) | inr ge ↦ inr (omega arith) ]))

pub bypasses_rows_lack : (n l : ℕ) (bypasses : List Bypass) → IsOutside n l (bypasses_labels bypasses) → lacks n (bypasses_rows l bypasses) ≡ true
bypasses_rows_lack n l [] out = refl
bypasses_rows_lack n l (bypass ∷ bypasses) out =
    lacks_append n (via_rows l bypass.via) (bypasses_rows (l + bypass_labels bypass) bypasses)
    (via_rows_lack n l bypass.via (elim out [ inl lt ↦ inl lt | inr ge ↦ inr (omega arith) ]))
    (bypasses_rows_lack n (l + bypass_labels bypass) bypasses (elim out [ inl lt ↦ inl (omega arith) | inr ge ↦ inr (omega arith) ]))

-- a path's labels are among those of all paths, and a bypass's likewise
pub path_label_within : (l : ℕ) (paths : List Path) (p : ℕ) (path : Path) → slice_get paths p ≡ Some path → (l ≤ path_label l paths p) × (path_label l paths p + path_labels path ≤ l + paths_labels paths)
path_label_within l [] p path at = cc
path_label_within l (first ∷ paths) zero path at = let same : first ≡ path = cc in rw (← same) (omega arith, omega arith)
path_label_within l (first ∷ paths) (suc p) path at = let h = path_label_within (l + path_labels first) paths p path at in (omega (arith, h.0), omega (arith, h.1))

pub bypass_label_within : (l : ℕ) (bypasses : List Bypass) (x : ℕ) (bypass : Bypass) → slice_get bypasses x ≡ Some bypass → (l ≤ bypass_label l bypasses x) × (bypass_label l bypasses x + bypass_labels bypass ≤ l + bypasses_labels bypasses)
bypass_label_within l [] x bypass at = cc
bypass_label_within l (first ∷ bypasses) zero bypass at = let same : first ≡ bypass = cc in rw (← same) (omega arith, omega arith)
bypass_label_within l (first ∷ bypasses) (suc x) bypass at = let h = bypass_label_within (l + bypass_labels first) bypasses x bypass at in (omega (arith, h.0), omega (arith, h.1))

-- the rows of a path
pub path_placed : (rounds : LinkId → Option Round) (k l high : ℕ) (paths : List Path) (rest : List TableRow) (p : ℕ) (path : Path) → are_above k high paths ≡ true → slice_get paths p ≡ Some path
    → Placed (paths_rows rounds (moved_by k) l paths ++ rest) (path_rows rounds (path_label l paths p) (moved_by k path.ip) path.links) (path_label l paths p) high
path_placed rounds k l high [] rest p path above at = cc
path_placed rounds k l high (first ∷ paths) rest zero path above at =
    let same : first ≡ path = cc in
    record { before = []; after = others ++ rest; are = append_assoc (path_rows rounds l (moved_by k first.ip) first.links) others rest ∙ ap (λ (q : Path). path_rows rounds l (moved_by k q.ip) q.links ++ (others ++ rest)) same; lack = λ n low below. refl }
  where
    others : List TableRow
    others = paths_rows rounds (moved_by k) (l + path_labels first) paths
path_placed rounds k l high (first ∷ paths) rest (suc p) path above at =
    go (path_placed rounds k (l + path_labels first) high paths rest p path parts.1 at)
  where
    parts : (nat_le high (first.ip.0 + k) ≡ true) × (are_above k high paths ≡ true)
    parts = and_parts (nat_le high (first.ip.0 + k)) (are_above k high paths) above

    mine : List TableRow
    mine = path_rows rounds l (moved_by k first.ip) first.links

    go : Placed (paths_rows rounds (moved_by k) (l + path_labels first) paths ++ rest) (path_rows rounds (path_label (l + path_labels first) paths p) (moved_by k path.ip) path.links) (path_label (l + path_labels first) paths p) high
        → Placed ((mine ++ paths_rows rounds (moved_by k) (l + path_labels first) paths) ++ rest) (path_rows rounds (path_label (l + path_labels first) paths p) (moved_by k path.ip) path.links) (path_label (l + path_labels first) paths p) high
    go q = record {
      before = mine ++ q.before;
      after = q.after;
      are = append_assoc mine (paths_rows rounds (moved_by k) (l + path_labels first) paths) rest ∙ ap (λ rs. mine ++ rs) q.are ∙ sym (append_assoc mine q.before (path_rows rounds (path_label (l + path_labels first) paths p) (moved_by k path.ip) path.links ++ q.after));
      lack = λ n low below.
          let least = leb-true high (first.ip.0 + k) parts.0 in
          let within = path_label_within (l + path_labels first) paths p path at in
          lacks_append n mine q.before (path_rows_lack rounds n l (moved_by k first.ip) first.links (inr (omega (arith, within.0))) (λ same. omega arith)) (q.lack n low below);
    }

-- the rows of a bypass
pub bypass_placed : (l : ℕ) (bypasses : List Bypass) (x : ℕ) (bypass : Bypass) (high : ℕ) → slice_get bypasses x ≡ Some bypass
    → Placed (bypasses_rows l bypasses) (via_rows (bypass_label l bypasses x) bypass.via) (bypass_label l bypasses x) high
bypass_placed l [] x bypass high at = cc
bypass_placed l (first ∷ bypasses) zero bypass high at =
    let same : first ≡ bypass = cc in
    record { before = []; after = bypasses_rows (l + bypass_labels first) bypasses; are = ap (λ (b : Bypass). via_rows l b.via ++ bypasses_rows (l + bypass_labels first) bypasses) same; lack = λ n low below. refl }
bypass_placed l (first ∷ bypasses) (suc x) bypass high at = go (bypass_placed (l + bypass_labels first) bypasses x bypass high at)
  where
    go : Placed (bypasses_rows (l + bypass_labels first) bypasses) (via_rows (bypass_label (l + bypass_labels first) bypasses x) bypass.via) (bypass_label (l + bypass_labels first) bypasses x) high
        → Placed (via_rows l first.via ++ bypasses_rows (l + bypass_labels first) bypasses) (via_rows (bypass_label (l + bypass_labels first) bypasses x) bypass.via) (bypass_label (l + bypass_labels first) bypasses x) high
    go q = record {
      before = via_rows l first.via ++ q.before;
      after = q.after;
      are = ap (λ rs. via_rows l first.via ++ rs) q.are ∙ sym (append_assoc (via_rows l first.via) q.before (via_rows (bypass_label (l + bypass_labels first) bypasses x) bypass.via ++ q.after));
      lack = λ n low below.
          let within = bypass_label_within (l + bypass_labels first) bypasses x bypass at in
          lacks_append n (via_rows l first.via) q.before (via_rows_lack n l first.via (inr (omega (arith, within.0)))) (q.lack n low below);
    }

-- more rows in front
pub placed_behind : (front rows mine : List TableRow) (low high : ℕ) → Placed rows mine low high → ((n : ℕ) → low ≤ n → n < high → lacks n front ≡ true) → Placed (front ++ rows) mine low high
placed_behind front rows mine low high q lack = record {
  before = front ++ q.before;
  after = q.after;
  are = ap (λ rs. front ++ rs) q.are ∙ sym (append_assoc front q.before (mine ++ q.after));
  lack = λ n above below. lacks_append n front q.before (lack n above below) (q.lack n above below);
}

-- what passes nowhere doesn't pass at a place
pub none_get : {X : Type 0} (p : X → Bool) (xs : List X) (i : ℕ) (x : X) → list_any p xs ≡ false → slice_get xs i ≡ Some x → p x ≡ false
none_get p [] i x none at = cc
none_get p (y ∷ ys) zero x none at = let same : y ≡ x = cc in rw (← same) ((or_parts (p y) (list_any p ys) none).0)
none_get p (y ∷ ys) (suc i) x none at = none_get p ys i x ((or_parts (p y) (list_any p ys) none).1) at

-- the way around the link of a bypass is that bypass
pub round_found : (l : ℕ) (bypasses : List Bypass) (x : ℕ) (bypass : Bypass) → are_bypasses_apart bypasses ≡ true → slice_get bypasses x ≡ Some bypass
    → round l bypasses bypass.link ≡ Some (record { via = bypass.via; first = bypass_label l bypasses x })
round_found l [] x bypass apart at = cc
round_found l (first ∷ bypasses) zero bypass apart at =
    let same : first ≡ bypass = cc in
    rw (← same) (rw (eq-eqb (first.link).0 (first.link).0 refl) refl)
round_found l (first ∷ bypasses) (suc x) bypass apart at =
    let parts = and_parts (not (list_any (λ (other : Bypass). nat_eq (other.link).0 (first.link).0) bypasses)) (are_bypasses_apart bypasses) apart in
    let free : nat_eq (bypass.link).0 (first.link).0 ≡ false = none_get (λ (other : Bypass). nat_eq (other.link).0 (first.link).0) bypasses x bypass (not-true (list_any (λ (other : Bypass). nat_eq (other.link).0 (first.link).0) bypasses) parts.0) at in
    let other : nat_eq (first.link).0 (bypass.link).0 ≡ false = false_from_ne_true (nat_eq (first.link).0 (bypass.link).0) (λ same. true≢false (sym (eq-eqb (bypass.link).0 (first.link).0 (sym (eqb-true (first.link).0 (bypass.link).0 same))) ∙ free)) in
    rw other (round_found (l + bypass_labels first) bypasses x bypass parts.1 at)

-- an ip label: where no path sets out
pub no_path : (rounds : LinkId → Option Round) (k l : ℕ) (paths : List Path) (rest : List TableRow) (e : LinkId) (ip : Label) → l + paths_labels paths ≤ ip.0 + k → list_any (sets_out e ip) paths ≡ false
    → groups_in (paths_rows rounds (moved_by k) l paths ++ rest) e (moved_by k ip) ≡ groups_in rest e (moved_by k ip)
no_path rounds k l [] rest e ip above none = refl
no_path rounds k l (path ∷ paths) rest e ip above none =
    ap (λ rs. groups_in rs e (moved_by k ip)) (append_assoc (path_rows rounds l (moved_by k path.ip) path.links) (paths_rows rounds (moved_by k) (l + path_labels path) paths) rest)
    ∙ passed path.links refl
    ∙ no_path rounds k (l + path_labels path) paths rest e ip (omega arith) parts.1
  where
    parts : (sets_out e ip path ≡ false) × (list_any (sets_out e ip) paths ≡ false)
    parts = or_parts (sets_out e ip path) (list_any (sets_out e ip) paths) none

    others : List TableRow
    others = paths_rows rounds (moved_by k) (l + path_labels path) paths ++ rest

    passed : (links : List LinkId) → path.links ≡ links → groups_in (path_rows rounds l (moved_by k path.ip) links ++ others) e (moved_by k ip) ≡ groups_in others e (moved_by k ip)
    passed [] is = refl
    passed (f ∷ []) is = refl
    passed (f ∷ g ∷ links) is =
        let same : sets_out e ip path ≡ (nat_eq ip.0 path.ip.0 && nat_eq e.0 f.0) = rw is refl in
        let count : path_labels path ≡ length links = rw is (omega arith) in
        let other : (nat_eq e.0 f.0 && nat_eq (ip.0 + k) (path.ip.0 + k)) ≡ false = apart_keys (sym same ∙ parts.0) in
        rw other (pass_over e (ip.0 + k) (rows_from rounds l g links) others (rows_from_lack rounds (ip.0 + k) l g links (inr (omega arith))))
      where
        apart_keys : (nat_eq ip.0 path.ip.0 && nat_eq e.0 f.0) ≡ false → (nat_eq e.0 f.0 && nat_eq (ip.0 + k) (path.ip.0 + k)) ≡ false
        apart_keys h = false_from_ne_true (nat_eq e.0 f.0 && nat_eq (ip.0 + k) (path.ip.0 + k)) (λ both.
            let two = and_parts (nat_eq e.0 f.0) (nat_eq (ip.0 + k) (path.ip.0 + k)) both in
            let eq = eqb-true (ip.0 + k) (path.ip.0 + k) two.1 in
            true≢false (sym (and_from (nat_eq ip.0 path.ip.0) (nat_eq e.0 f.0) (eq-eqb ip.0 path.ip.0 (omega arith)) two.0) ∙ h))

-- and where one does
pub path_found : (rounds : LinkId → Option Round) (k l : ℕ) (paths : List Path) (rest : List TableRow) (p : ℕ) (path : Path) (e f : LinkId) (links : List LinkId)
    → are_paths_apart paths ≡ true → slice_get paths p ≡ Some path → path.links ≡ e ∷ f ∷ links → l + paths_labels paths ≤ path.ip.0 + k
    → groups_in (paths_rows rounds (moved_by k) l paths ++ rest) e (moved_by k path.ip) ≡ onto (rounds f) (Push (label (path_label l paths p)) Smpls) f
path_found rounds k l [] rest p path e f links apart at is above = cc
path_found rounds k l (first ∷ paths) rest zero path e f links apart at is above =
    let same : first ≡ path = cc in
    let are : first.links ≡ e ∷ f ∷ links = ap (λ (q : Path). q.links) same ∙ is in
    let ip : first.ip ≡ path.ip = ap (λ (q : Path). q.ip) same in
    rw (are, ip) (found e (path.ip.0 + k) (onto (rounds f) (Push (label l) Smpls) f) _)
path_found rounds k l (first ∷ paths) rest (suc p) path e f links apart at is above =
    ap (λ rs. groups_in rs e (moved_by k path.ip)) (append_assoc (path_rows rounds l (moved_by k first.ip) first.links) (paths_rows rounds (moved_by k) (l + path_labels first) paths) rest)
    ∙ passed first.links refl
    ∙ path_found rounds k (l + path_labels first) paths rest p path e f links parts.1 at is (omega arith)
  where
    parts : (option_map_or (λ d. not (list_any (sets_out d first.ip) paths)) (first_of first.links) true ≡ true) × (are_paths_apart paths ≡ true)
    parts = and_parts (option_map_or (λ d. not (list_any (sets_out d first.ip) paths)) (first_of first.links) true) (are_paths_apart paths) apart

    others : List TableRow
    others = paths_rows rounds (moved_by k) (l + path_labels first) paths ++ rest

    passed : (ls : List LinkId) → first.links ≡ ls → groups_in (path_rows rounds l (moved_by k first.ip) ls ++ others) e (moved_by k path.ip) ≡ groups_in others e (moved_by k path.ip)
    passed [] same = refl
    passed (d ∷ []) same = refl
    passed (d ∷ g ∷ ls) same =
        let none : not (list_any (sets_out d first.ip) paths) ≡ true = rw same at parts.0 in
        let free : sets_out d first.ip path ≡ false = none_get (sets_out d first.ip) paths p path (not-true (list_any (sets_out d first.ip) paths) none) at in
        let plain : (nat_eq first.ip.0 path.ip.0 && nat_eq d.0 e.0) ≡ false = rw is at free in
        let count : path_labels first ≡ length ls = rw same (omega arith) in
        rw (apart_keys plain) (pass_over e (path.ip.0 + k) (rows_from rounds l g ls) others (rows_from_lack rounds (path.ip.0 + k) l g ls (inr (omega arith))))
      where
        apart_keys : (nat_eq first.ip.0 path.ip.0 && nat_eq d.0 e.0) ≡ false → (nat_eq e.0 d.0 && nat_eq (path.ip.0 + k) (first.ip.0 + k)) ≡ false
        apart_keys h = false_from_ne_true (nat_eq e.0 d.0 && nat_eq (path.ip.0 + k) (first.ip.0 + k)) (λ both.
            let two = and_parts (nat_eq e.0 d.0) (nat_eq (path.ip.0 + k) (first.ip.0 + k)) both in
            let eq = eqb-true (path.ip.0 + k) (first.ip.0 + k) two.1 in
            true≢false (sym (and_from (nat_eq first.ip.0 path.ip.0) (nat_eq d.0 e.0) (eq-eqb first.ip.0 path.ip.0 (omega arith)) (eq-eqb d.0 e.0 (sym (eqb-true e.0 d.0 two.0)))) ∙ h))
