-- Values that are written one by one.
use Rattle.std.proofs.Common.{◌≡◌, ℕ, zero, suc, ◌+◌, ◌<◌, ◌≤◌, Bool, true, false, cond, ◌||◌, ◌==◌, List, [], ◌∷◌, ◌++◌, map, take, drop, set, length, slice_get, get_or, position, Option, Some, None, ◌⊎◌, inl, inr, refl, sym, ap, ◌∙◌, append-nil, arith}
use Rattle.std.specs.Prelude.{is_none, codes, option_map}
use Rattle.std.specs.List.{list_any}
use Rattle.std.specs.Global.{Vec}
use Rattle.std.proofs.lemmas.Bool.{and_parts, and_from, cases_lt, cases_eq, eq-eqb, ne_eqb}
use Rattle.std.proofs.lemmas.List.{map_push, take_all, length-take, drop-append-le, get_or-set_same, get_or-set_other}
use Rattle.std.proofs.Math.ListN.{drop_of_length-le}
use Rattle.std.proofs.lemmas.List.Folds.{list_any-append}
use Rattle.std.proofs.lemmas.Option.{slice_get_within, get_or_from_slice_get}
use Rattle.serde_json.specs.Data.{Data, string, object, member, no_members}
use Rattle.serde_json.specs.View.{view}
use Rattle.serde_json.specs.declared.value.Value.{Value, Array}
use Rattle.serde_json.proofs.Views.{view-Array}
use Rattle.wi_labels.specs.declared.label.Class.{Class}
use Rattle.wi_labels.specs.declared.label.Label.{Label}
use Rattle.wi_labels.specs.Header.{same_class}
use Rattle.wi_net.specs.declared.parts.Link.{Link}
use Rattle.wi_net.specs.declared.parts.LinkId.{LinkId}
use Rattle.wi_net.specs.declared.parts.Member.{Member}
use Rattle.wi_net.specs.declared.parts.TableRow.{TableRow}
use Rattle.wi_net.specs.Tables.{is_row, are_rows_apart, groups_in}
use Rattle.wi_net.specs.Net.{Net, entry}
use Rattle.wi_net.specs.Network.{IsNetwork, is_row_of}
use Rattle.wi_net.proofs.KeptLists.{nothing_is, same_flip, all_get, get_there}
use Rattle.wi_net.proofs.PlaceLemmas.{longer, none_at}
use Rattle.wi_netjson.specs.Written.{name_at, list_of, labels_in, op_data, way_data, group_data, row_data}

-- one more
pub made_more : {X : Type 0} (f : X → Data) (xs : List X) (vs after : List Value) (v : Value) (x : X) (i : ℕ) → map view vs ≡ map f (take i xs) → after ≡ vs ++ v ∷ [] → slice_get xs i ≡ Some x → view v ≡ f x → map view after ≡ map f (take (i + 1) xs)
made_more f xs vs after v x i so_far pushed at is =
    ap (map view) pushed ∙ map_push view vs v ∙ ap (λ d. map view vs ++ d ∷ []) is ∙ ap (λ ds. ds ++ f x ∷ []) so_far ∙ sym (map_push f (take i xs) x) ∙ ap (map f) (sym (longer xs i x at))

pub made_all : {X : Type 0} (f : X → Data) (xs : List X) (values : Vec Value) (i : ℕ) → length xs ≤ i → map view values.items ≡ map f (take i xs) → view (Array values) ≡ list_of f xs
made_all f xs values i le so_far = rw (view-Array values, so_far, take_all i xs le) refl

-- a link names a risk group
abbrev pub names : ℕ → Link → Bool
names r l = l.risk.0 == r

-- a link more, for a risk group
one_link : (links : List Link) (e r : ℕ) (l : Link) → slice_get links e ≡ Some l → r < e → list_any (names r) (drop (r + 1) (take (e + 1) links)) ≡ (list_any (names r) (drop (r + 1) (take e links)) || (names r l || false))
one_link links e r l at lt =
    let within = slice_get_within links e l at in
    let len : r + 1 ≤ length (take e links) = rw length-take (omega arith) in
    ap (λ xs. list_any (names r) (drop (r + 1) xs)) (longer links e l at) ∙ ap (list_any (names r)) (drop-append-le (r + 1) (take e links) (l ∷ []) len) ∙ list_any-append (names r) (drop (r + 1) (take e links)) (l ∷ [])

-- none is later than all
none_yet : (links : List Link) (e r : ℕ) → e ≤ r + 1 → list_any (names r) (drop (r + 1) (take e links)) ≡ false
none_yet links e r le =
    let len : length (take e links) ≤ r + 1 = rw length-take (omega arith) in
    ap (list_any (names r)) (drop_of_length-le (take e links) len)

or_last : (x : Bool) → (x || true) ≡ true
or_last true = refl
or_last false = refl

or_none : (x : Bool) → (x || false) ≡ x
or_none true = refl
or_none false = refl

-- a link more that a risk group isn't named by
other_link : (links : List Link) (e r : ℕ) (l : Link) → slice_get links e ≡ Some l → (r < e → names r l ≡ false) → list_any (names r) (drop (r + 1) (take (e + 1) links)) ≡ list_any (names r) (drop (r + 1) (take e links))
other_link links e r l at other = go (cases_lt r e)
  where
    go : (r < e) ⊎ (e ≤ r) → list_any (names r) (drop (r + 1) (take (e + 1) links)) ≡ list_any (names r) (drop (r + 1) (take e links))
    go (inl lt) = one_link links e r l at lt ∙ ap (λ b. list_any (names r) (drop (r + 1) (take e links)) || (b || false)) (other lt) ∙ or_none (list_any (names r) (drop (r + 1) (take e links)))
    go (inr le) = none_yet links (e + 1) r (omega arith) ∙ sym (none_yet links e r (omega arith))

-- a link names a risk group before it
pub marked : (links : List Link) (e : ℕ) (l : Link) (old new : List Bool) → slice_get links e ≡ Some l → length old ≡ length links → l.risk.0 < e → new ≡ set old l.risk.0 true
    → ((r : ℕ) → get_or old r false ≡ list_any (names r) (drop (r + 1) (take e links))) → (r : ℕ) → get_or new r false ≡ list_any (names r) (drop (r + 1) (take (e + 1) links))
marked links e l old new at len lt made so_far r = ap (λ xs. get_or xs r false) made ∙ go (cases_eq r l.risk.0)
  where
    within : l.risk.0 < length old
    within = let e_in = slice_get_within links e l at in omega arith

    go : (r ≡ l.risk.0) ⊎ (r ≡ l.risk.0 → ⊥) → get_or (set old l.risk.0 true) r false ≡ list_any (names r) (drop (r + 1) (take (e + 1) links))
    go (inl is) =
        let here : get_or (set old l.risk.0 true) r false ≡ true = rw is (get_or-set_same old l.risk.0 true false within) in
        let named : names r l ≡ true = eq-eqb l.risk.0 r (sym is) in
        here ∙ sym (one_link links e r l at (omega arith) ∙ ap (λ b. list_any (names r) (drop (r + 1) (take e links)) || (b || false)) named ∙ or_last (list_any (names r) (drop (r + 1) (take e links))))
    go (inr other) =
        let apart : names r l ≡ false = ne_eqb l.risk.0 r (λ h. other (sym h)) in
        get_or-set_other old l.risk.0 r true false other ∙ so_far r ∙ sym (other_link links e r l at (λ _. apart))

-- a link names none before it
pub unmarked : (links : List Link) (e : ℕ) (l : Link) (larger : List Bool) → slice_get links e ≡ Some l → e ≤ l.risk.0
    → ((r : ℕ) → get_or larger r false ≡ list_any (names r) (drop (r + 1) (take e links))) → (r : ℕ) → get_or larger r false ≡ list_any (names r) (drop (r + 1) (take (e + 1) links))
unmarked links e l larger at le so_far r = so_far r ∙ sym (other_link links e r l at (λ lt. ne_eqb l.risk.0 r (λ h. absurd (omega arith))))

-- the labels of a class, with a label more
pub labels_push : (class c : Class) (cs : List Class) (ns : List (List ℕ)) (n : List ℕ) → length cs ≡ length ns → labels_in class (cs ++ c ∷ []) (ns ++ n ∷ []) ≡ labels_in class cs ns ++ labels_in class (c ∷ []) (n ∷ [])
labels_push class c [] [] n len = refl
labels_push class c [] (m ∷ ns) n len = absurd (omega (arith, len))
labels_push class c (x ∷ cs) [] n len = absurd (omega (arith, len))
labels_push class c (x ∷ cs) (m ∷ ns) n len = go (same_class x class) refl (labels_push class c cs ns n (omega (arith, len)))
  where
    go : (b : Bool) → same_class x class ≡ b → labels_in class (cs ++ c ∷ []) (ns ++ n ∷ []) ≡ labels_in class cs ns ++ labels_in class (c ∷ []) (n ∷ [])
        → labels_in class (x ∷ cs ++ c ∷ []) (m ∷ ns ++ n ∷ []) ≡ labels_in class (x ∷ cs) (m ∷ ns) ++ labels_in class (c ∷ []) (n ∷ [])
    go true e ih = rw e (ap (λ xs. m ∷ xs) ih)
    go false e ih = rw e ih

-- a test of the elements so far, with one more
any_more : {X : Type 0} (p : X → Bool) (xs : List X) (i : ℕ) (x : X) → slice_get xs i ≡ Some x → list_any p (take (i + 1) xs) ≡ (list_any p (take i xs) || (p x || false))
any_more p xs i x at = ap (list_any p) (longer xs i x at) ∙ list_any-append p (take i xs) (x ∷ [])

pub none_more : {X : Type 0} (p : X → Bool) (xs : List X) (i : ℕ) (x : X) → slice_get xs i ≡ Some x → list_any p (take i xs) ≡ false → p x ≡ false → list_any p (take (i + 1) xs) ≡ false
none_more p xs i x at none other = any_more p xs i x at ∙ rw (none, other) refl

pub any_here : {X : Type 0} (p : X → Bool) (xs : List X) (i : ℕ) (x : X) → slice_get xs i ≡ Some x → p x ≡ true → list_any p xs ≡ true
any_here p [] i x at here = cc
any_here p (y ∷ xs) zero x at here = let same : y ≡ x = cc in rw (same, here) refl
any_here p (y ∷ xs) (suc i) x at here = rw (any_here p xs i x at here) (or_last (p y))

-- one label more
one_label : (class c : Class) (classes : List Class) (labels : List (List ℕ)) (i : ℕ) (n : List ℕ) → slice_get classes i ≡ Some c → slice_get labels i ≡ Some n
    → labels_in class (take (i + 1) classes) (take (i + 1) labels) ≡ labels_in class (take i classes) (take i labels) ++ cond (same_class c class) (n ∷ []) []
one_label class c classes labels i n at_c at_n =
    let c_in = slice_get_within classes i c at_c in
    let n_in = slice_get_within labels i n at_n in
    let len : length (take i classes) ≡ length (take i labels) = rw (length-take i classes, length-take i labels) (omega arith) in
    ap (λ cs. labels_in class cs (take (i + 1) labels)) (longer classes i c at_c) ∙ ap (labels_in class (take i classes ++ c ∷ [])) (longer labels i n at_n) ∙ labels_push class c (take i classes) (take i labels) n len

-- the labels of a class so far, with one more
pub class_push : (class c : Class) (classes : List Class) (labels : List (List ℕ)) (i : ℕ) (n : List ℕ) (vs after : List Value) (v : Value) → slice_get classes i ≡ Some c → slice_get labels i ≡ Some n → same_class c class ≡ true
    → map view vs ≡ map string (labels_in class (take i classes) (take i labels)) → after ≡ vs ++ v ∷ [] → view v ≡ string n → map view after ≡ map string (labels_in class (take (i + 1) classes) (take (i + 1) labels))
class_push class c classes labels i n vs after v at_c at_n same so_far pushed is =
    ap (map view) pushed ∙ map_push view vs v ∙ ap (λ d. map view vs ++ d ∷ []) is ∙ ap (λ ds. ds ++ string n ∷ []) so_far ∙ sym (map_push string (labels_in class (take i classes) (take i labels)) n)
    ∙ ap (map string) (sym (one_label class c classes labels i n at_c at_n ∙ ap (λ b. labels_in class (take i classes) (take i labels) ++ cond b (n ∷ []) []) same))

pub class_skip : (class c : Class) (classes : List Class) (labels : List (List ℕ)) (i : ℕ) (vs : List Value) → slice_get classes i ≡ Some c → length classes ≡ length labels → same_class c class ≡ false
    → map view vs ≡ map string (labels_in class (take i classes) (take i labels)) → map view vs ≡ map string (labels_in class (take (i + 1) classes) (take (i + 1) labels))
class_skip class c classes labels i vs at_c len other so_far =
    let within = slice_get_within classes i c at_c in
    let n = get_there labels i (omega (arith, len, within)) in
    so_far ∙ ap (map string) (sym (one_label class c classes labels i n.0 at_c n.1 ∙ ap (λ b. labels_in class (take i classes) (take i labels) ++ cond b (n.0 ∷ []) []) other ∙ append-nil (labels_in class (take i classes) (take i labels))))

named : (names : List (List ℕ)) (i : ℕ) (s : List ℕ) → slice_get names i ≡ Some s → name_at names i ≡ s
named names i s at = get_or_from_slice_get names i s [] at

-- a member of names that are there
pub way_written : (net : Net) (m : Member) (l : Link) (out : List ℕ) (ops v : Data) → slice_get net.links m.link.0 ≡ Some l → slice_get net.interfaces l.out_if.0 ≡ Some out → ops ≡ list_of (op_data net) m.ops
    → v ≡ object (member (codes "ops") ops (member (codes "out") (string out) no_members)) → v ≡ way_data net m
way_written net m l out ops v at at_out is made = made ∙ rw (is, at, named net.interfaces l.out_if.0 out at_out) refl

pub row_written : (net : Net) (row : TableRow) (l : Link) (to into name : List ℕ) (groups v : Data) → slice_get net.links row.link.0 ≡ Some l → slice_get net.routers l.to.0 ≡ Some to → slice_get net.interfaces l.in_if.0 ≡ Some into → slice_get net.labels row.label.0 ≡ Some name
    → groups ≡ list_of (group_data net) row.groups → v ≡ object (member (codes "at") (string to) (member (codes "groups") groups (member (codes "in") (string into) (member (codes "label") (string name) no_members)))) → v ≡ row_data net row
row_written net row l to into name groups v at at_to at_in at_name is made = made ∙ rw (is, at, named net.routers l.to.0 to at_to, named net.interfaces l.in_if.0 into at_in, named net.labels row.label.0 name at_name) refl

-- the groups of a row are what the rows say of its link and label
groups_of_row : (rows : List TableRow) (i : ℕ) (row : TableRow) → are_rows_apart rows ≡ true → slice_get rows i ≡ Some row → groups_in rows row.link row.label ≡ row.groups
groups_of_row [] i row apart at = cc
groups_of_row (x ∷ rows) zero row apart at =
    let same : x ≡ row = cc in
    let here : is_row row.link row.label x ≡ true = rw same (and_from (row.link.0 == row.link.0) (row.label.0 == row.label.0) (eq-eqb row.link.0 row.link.0 refl) (eq-eqb row.label.0 row.label.0 refl)) in
    rw here (ap (λ (r : TableRow). r.groups) same)
groups_of_row (x ∷ rows) (suc i) row apart at =
    let parts = and_parts (is_none (position (is_row x.link x.label) rows)) (are_rows_apart rows) apart in
    let other : is_row x.link x.label row ≡ false = none_at (is_row x.link x.label) rows i row (nothing_is (position (is_row x.link x.label) rows) parts.0) at in
    let flipped : is_row row.link row.label x ≡ false = rw (same_flip row.link.0 x.link.0, same_flip row.label.0 x.label.0) other in
    rw flipped (groups_of_row rows i row parts.1 at)

abbrev pub row_of : LinkId → Label → List (List Member) → TableRow
row_of link label groups = record { link = link; label = label; groups = groups }

-- the row at a place, by its link and label
pub row_found : (net : Net) (i : ℕ) (link : LinkId) (label : Label) (groups : List (List Member)) → IsNetwork net → option_map {U = LinkId × Label} (λ (r : TableRow). (r.link, r.label)) (slice_get net.rows i) ≡ Some (link, label) → groups ≡ entry net link label → slice_get net.rows i ≡ Some (row_of link label groups)
row_found net i link label groups k found is = go (slice_get net.rows i) refl
  where
    go : (o : Option TableRow) → slice_get net.rows i ≡ o → slice_get net.rows i ≡ Some (row_of link label groups)
    go (Some row) at =
        let given : (let o : Option (LinkId × Label) = Some (row.link, row.label) in o ≡ Some (link, label)) = rw at at found in
        let pair : (let p : LinkId × Label = (row.link, row.label) in p ≡ (link, label)) = cc in
        let link_is : row.link ≡ link = ap (λ (p : LinkId × Label). p.0) pair in
        let label_is : row.label ≡ label = ap (λ (p : LinkId × Label). p.1) pair in
        let groups_are : row.groups ≡ groups = sym (groups_of_row net.rows i row k.rows_apart at) ∙ ap (λ e. groups_in net.rows e row.label) link_is ∙ ap (λ l. groups_in net.rows link l) label_is ∙ sym is in
        at ∙ ap (λ e. Some (row_of e row.label row.groups)) link_is ∙ ap (λ l. Some (row_of link l row.groups)) label_is ∙ ap (λ gs. Some (row_of link label gs)) groups_are
    go None at = let none : (let o : Option (LinkId × Label) = None in o ≡ Some (link, label)) = rw at at found in cc

pub row_in : (net : Net) (i : ℕ) (row : TableRow) → IsNetwork net → slice_get net.rows i ≡ Some row → is_row_of net row ≡ true
row_in net i row k at = all_get (is_row_of net) net.rows i row k.rows at

pub class_all : (class : Class) (classes : List Class) (labels : List (List ℕ)) (values : Vec Value) (i : ℕ) → length classes ≡ length labels → length labels ≤ i
    → map view values.items ≡ map string (labels_in class (take i classes) (take i labels)) → view (Array values) ≡ list_of string (labels_in class classes labels)
class_all class classes labels values i len le so_far =
    let past : length classes ≤ i = omega (arith, len, le) in
    rw (view-Array values, so_far, take_all i classes past, take_all i labels le) refl
