-- What the tables of a plan say of a link and a label.
use Rattle.std.proofs.Common.{◌≡◌, ℕ, ◌+◌, ◌-◌, ◌<◌, ◌≤◌, Bool, true, false, not, nat_eq, ◌⊎◌, inl, inr, List, [], ◌∷◌, ◌++◌, length, Option, Some, None, refl, sym, ap, ◌∙◌, arith}
use Rattle.std.specs.List.{list_all}
use Rattle.std.proofs.lemmas.Bool.{and_parts, and_from, and_right, not-true, not_from_false, ne_eqb, eq-eqb, or_parts}
use Rattle.std.proofs.lemmas.List.{append_assoc}
use Rattle.wi_labels.specs.declared.label.Label.{Label}
use Rattle.wi_labels.specs.declared.label.Class.TheVariants.{Mpls}
use Rattle.wi_labels.specs.declared.ops.Op.TheVariants.{Swap, Pop}
use Rattle.wi_net.specs.declared.parts.LinkId.{LinkId}
use Rattle.wi_net.specs.declared.parts.Member.{Member}
use Rattle.wi_net.specs.declared.parts.TableRow.{TableRow}
use Rattle.wi_net.specs.LinkSet.{has}
use Rattle.wi_net.specs.Tables.{is_row, groups_in}
use Rattle.wi_plan.specs.Plans.{last_of}
use Rattle.wi_protect.specs.Rows.{Round, label, only, row, next_groups, end_rows, arrivals, rows_from, via_rows}
use Rattle.wi_protect.proofs.Walks.{ViaEntries, Arrives, Entries}

-- no row has this label
abbrev pub lacks : ℕ → List TableRow → Bool
lacks n rows = list_all (λ (r : TableRow). not (nat_eq n r.label.0)) rows

pub lacks_append : (n : ℕ) (xs ys : List TableRow) → lacks n xs ≡ true → lacks n ys ≡ true → lacks n (xs ++ ys) ≡ true
lacks_append n [] ys a b = b
lacks_append n (x ∷ xs) ys a b =
    let parts = and_parts (not (nat_eq n x.label.0)) (lacks n xs) a in
    and_from (not (nat_eq n x.label.0)) (lacks n (xs ++ ys)) parts.0 (lacks_append n xs ys parts.1 b)

-- rows without the label are passed over
pub pass_over : (e : LinkId) (n : ℕ) (xs ys : List TableRow) → lacks n xs ≡ true → groups_in (xs ++ ys) e (label n) ≡ groups_in ys e (label n)
pass_over e n [] ys a = refl
pass_over e n (x ∷ xs) ys a =
    let parts = and_parts (not (nat_eq n x.label.0)) (lacks n xs) a in
    let other : is_row e (label n) x ≡ false = and_right (nat_eq e.0 x.link.0) (nat_eq n x.label.0) (not-true (nat_eq n x.label.0) parts.0) in
    rw other (pass_over e n xs ys parts.1)

-- a row is found under its own link and label
pub found : (e : LinkId) (n : ℕ) (groups : List (List Member)) (rows : List TableRow) → groups_in (row e (label n) groups ∷ rows) e (label n) ≡ groups
found e n groups rows = rw (and_from (nat_eq e.0 e.0) (nat_eq n n) (eq-eqb e.0 e.0 refl) (eq-eqb n n refl)) refl

-- a row of another link is passed over
pub other_link : (e f : LinkId) (n : ℕ) (l : Label) (groups : List (List Member)) (rows : List TableRow) → nat_eq f.0 e.0 ≡ false → groups_in (row e l groups ∷ rows) f (label n) ≡ groups_in rows f (label n)
other_link e f n l groups rows other = rw other refl

-- a label in a range is none below, and none above
lacks_one : (n m : ℕ) (e : LinkId) (groups : List (List Member)) (rows : List TableRow) → (n ≡ m → ⊥) → lacks n rows ≡ true → lacks n (row e (label m) groups ∷ rows) ≡ true
lacks_one n m e groups rows other rest = and_from (not (nat_eq n m)) (lacks n rows) (not_from_false (nat_eq n m) (ne_eqb n m other)) rest

pub end_rows_lack : (n m : ℕ) (via : List LinkId) (groups : List (List Member)) → (n ≡ m → ⊥) → lacks n (end_rows via (label m) groups) ≡ true
end_rows_lack n m [] groups other = refl
end_rows_lack n m (v ∷ []) groups other = lacks_one n m v groups [] other refl
end_rows_lack n m (v ∷ w ∷ via) groups other = end_rows_lack n m (w ∷ via) groups other

pub arrivals_lack : (n m : ℕ) (o : Option Round) (e : LinkId) (groups : List (List Member)) → (n ≡ m → ⊥) → lacks n (arrivals o e (label m) groups) ≡ true
arrivals_lack n m None e groups other = lacks_one n m e groups [] other refl
arrivals_lack n m (Some r) e groups other = lacks_one n m e groups (end_rows r.via (label m) groups) other (end_rows_lack n m r.via groups other)

-- the number isn't one of so many from one on
abbrev pub IsOutside : ℕ → ℕ → ℕ → Type 0
IsOutside n low count = (n < low) ⊎ (low + count ≤ n)

pub rows_from_lack : (rounds : LinkId → Option Round) (n l : ℕ) (e : LinkId) (links : List LinkId) → IsOutside n l (length links) → lacks n (rows_from rounds l e links) ≡ true
rows_from_lack rounds n l e [] out = refl
rows_from_lack rounds n l e (f ∷ links) out =
    lacks_append n (arrivals (rounds e) e (label l) (next_groups rounds l (f ∷ links))) (rows_from rounds (l + 1) f links)
    (arrivals_lack n l (rounds e) e (next_groups rounds l (f ∷ links)) (λ same. elim out [ inl lt ↦ omega arith | inr ge ↦ omega arith ]))
    (rows_from_lack rounds n (l + 1) f links (elim out [ inl lt ↦ inl (omega arith) | inr ge ↦ inr (omega arith) ]))

pub via_rows_lack : (n l : ℕ) (via : List LinkId) → IsOutside n l (length via - 1) → lacks n (via_rows l via) ≡ true
via_rows_lack n l [] out = refl
via_rows_lack n l (v ∷ []) out = refl
via_rows_lack n l (v ∷ w ∷ []) out = lacks_one n l v (only w (Pop ∷ []) ∷ []) [] (λ same. elim out [ inl lt ↦ omega arith | inr ge ↦ omega arith ]) refl
via_rows_lack n l (v ∷ w ∷ x ∷ via) out =
    lacks_one n l v (only w (Swap (label (l + 1)) Mpls ∷ []) ∷ []) (via_rows (l + 1) (w ∷ x ∷ via)) (λ same. elim out [ inl lt ↦ omega arith | inr ge ↦ omega arith ])
    (via_rows_lack n (l + 1) (w ∷ x ∷ via) (elim out [ inl lt ↦ inl (omega arith) | inr ge ↦ inr (omega arith) ]))

-- the entries along a path, where its rows stand behind others without its labels
pub entries : (rounds : LinkId → Option Round) (rows before after : List TableRow) (high l : ℕ) (e : LinkId) (links : List LinkId)
    → rows ≡ before ++ (rows_from rounds l e links ++ after) → ((n : ℕ) → l ≤ n → n < high → lacks n before ≡ true) → l + length links ≤ high → Entries rows rounds l e links
entries rounds rows before after high l e [] are lack fits = tt
entries rounds rows before after high l e (f ∷ links) are lack fits = (arrives, entries rounds rows (before ++ mine) after high (l + 1) f links regrouped later (omega arith))
  where
    groups : List (List Member)
    groups = next_groups rounds l (f ∷ links)

    mine : List TableRow
    mine = arrivals (rounds e) e (label l) groups

    rest : List TableRow
    rest = rows_from rounds (l + 1) f links ++ after

    regrouped : rows ≡ (before ++ mine) ++ rest
    regrouped = are ∙ ap (λ x. before ++ x) (append_assoc mine (rows_from rounds (l + 1) f links) after) ∙ sym (append_assoc before mine rest)

    later : (n : ℕ) → l + 1 ≤ n → n < high → lacks n (before ++ mine) ≡ true
    later n above below = lacks_append n before mine (lack n (omega arith) below) (arrivals_lack n l (rounds e) e groups (λ same. omega arith))

    past : (z : LinkId) → groups_in rows z (label l) ≡ groups_in (mine ++ rest) z (label l)
    past z = ap (λ rs. groups_in rs z (label l)) (regrouped ∙ append_assoc before mine rest) ∙ pass_over z l before (mine ++ rest) (lack l (omega arith) (omega arith))

    arrives : Arrives rows (rounds e) e l groups
    arrives = record { here = past e ∙ own (rounds e); there = λ way z is last another. past z ∙ (rw is (around_it way z last another)) }
      where
        own : (o : Option Round) → groups_in (arrivals o e (label l) groups ++ rest) e (label l) ≡ groups
        own None = found e l groups rest
        own (Some r) = found e l groups (end_rows r.via (label l) groups ++ rest)

        at_end : (via : List LinkId) (z : LinkId) → last_of via ≡ Some z → groups_in (end_rows via (label l) groups ++ rest) z (label l) ≡ groups
        at_end [] z last = cc
        at_end (v ∷ []) z last = let same : v ≡ z = cc in rw (← same) (found v l groups rest)
        at_end (v ∷ w ∷ via) z last = at_end (w ∷ via) z last

        apart : (via : List LinkId) (z : LinkId) → last_of via ≡ Some z → has via e ≡ false → nat_eq z.0 e.0 ≡ false
        apart [] z last another = cc
        apart (v ∷ []) z last another = let same : v ≡ z = cc in rw (← same) ((or_parts (nat_eq v.0 e.0) false another).0)
        apart (v ∷ w ∷ via) z last another = apart (w ∷ via) z last ((or_parts (nat_eq v.0 e.0) (has (w ∷ via) e) another).1)

        around_it : (way : Round) (z : LinkId) → last_of way.via ≡ Some z → has way.via e ≡ false → groups_in (arrivals (Some way) e (label l) groups ++ rest) z (label l) ≡ groups
        around_it way z last another = other_link e z l (label l) groups (end_rows way.via (label l) groups ++ rest) (apart way.via z last another) ∙ at_end way.via z last

-- the entries along a way around
pub via_entries : (rows before after : List TableRow) (high l : ℕ) (via : List LinkId)
    → rows ≡ before ++ (via_rows l via ++ after) → ((n : ℕ) → l ≤ n → n < high → lacks n before ≡ true) → l + (length via - 1) ≤ high → ViaEntries rows l via
via_entries rows before after high l [] are lack fits = tt
via_entries rows before after high l (v ∷ []) are lack fits = tt
via_entries rows before after high l (v ∷ w ∷ []) are lack fits =
    ap (λ rs. groups_in rs v (label l)) are ∙ pass_over v l before (via_rows l (v ∷ w ∷ []) ++ after) (lack l (omega arith) (omega arith)) ∙ found v l (only w (Pop ∷ []) ∷ []) after
via_entries rows before after high l (v ∷ w ∷ x ∷ via) are lack fits = (
  ap (λ rs. groups_in rs v (label l)) are ∙ pass_over v l before (via_rows l (v ∷ w ∷ x ∷ via) ++ after) (lack l (omega arith) (omega arith)) ∙ found v l (only w (Swap (label (l + 1)) Mpls ∷ []) ∷ []) (via_rows (l + 1) (w ∷ x ∷ via) ++ after),
  via_entries rows (before ++ first ∷ []) after high (l + 1) (w ∷ x ∷ via) (are ∙ sym (append_assoc before (first ∷ []) (via_rows (l + 1) (w ∷ x ∷ via) ++ after)))
      (λ n above below. lacks_append n before (first ∷ []) (lack n (omega arith) below) (lacks_one n l v (only w (Swap (label (l + 1)) Mpls ∷ []) ∷ []) [] (λ same. omega arith) refl)) (omega arith),
)
  where
    first : TableRow
    first = row v (label l) (only w (Swap (label (l + 1)) Mpls ∷ []) ∷ [])
