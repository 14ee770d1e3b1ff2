-- The entries of a header, label by label.
use Rattle.std.proofs.Common.{◌≡◌, ℕ, ◌+◌, List, [], ◌∷◌, ◌++◌, drop, slice_get, true, Option, Some, None, Result, Ok, Err, refl, sym, ap, subst, ◌∙◌, append_assoc, suc, ◌<◌, false, ◌&&◌, nat_lt, length, ◌≤◌, append-nil, arith}
use Rattle.std.specs.Prelude.{◌==◌, option_and_then}
use Rattle.std.specs.List.{list_all}
use Rattle.std.specs.Str.Parse.{digits_value}
use Rattle.std.proofs.lemmas.Bool.{and_from, and_parts, lt-ltb}
use Rattle.std.proofs.lemmas.List.{drop_all}
use Rattle.std.proofs.lemmas.Option.{same_Some}
use Rattle.wi_base.proofs.Cases.{by_test}
use Rattle.wi_text.specs.Characters.{is_number}
use Rattle.std.specs.Result.{result_map_both, IfErr, IsErrAnd}
use Rattle.wi_labels.specs.declared.label.Label.{Label}
use Rattle.wi_labels.specs.declared.label.Class.{Class}
use Rattle.wi_labels.specs.declared.label.Class.TheVariants.{Mpls, Smpls, Ip}
use Rattle.wi_labels.specs.Header.{Entry as Labelled}
use Rattle.wi_labels.proofs.HeaderLemmas.{drop_at}
use Rattle.wi_net.specs.Net.{Net, label_known, labels_known}
use Rattle.wi_net.proofs.KeptLists.{all_get}
use Rattle.wi_wire.specs.declared.entry.Entry.{Entry}
use Rattle.wi_wire.specs.declared.refused.NoValue.{NoValue}
use Rattle.wi_wire.specs.declared.refused.NoValue.TheVariants as no_value
use Rattle.wi_wire.specs.Stacks.{is_free, is_entry}
use Rattle.wi_wire.specs.Values.{value_in, value_of, entries_of, HasNoValue}
use Rattle.wi_wire.specs.private.Labelled.{value_at, entry_with, entry_at}

-- the entries of those below it under the entry of a label, if it has a value
abbrev with_value : ℕ → Label → Option ℕ → Result (List Entry) Label → Result (List Entry) Label
with_value ttl l (Some v) below = result_map_both (λ (es : List Entry). record { label = v; exp = 0; ttl = ttl } ∷ es) (λ (x : Label). x) below
with_value ttl l None below = Err l

-- entries by their definition, for the classes that have values
entries_step : (net : Net) (ttl : ℕ) (l : Label) (c : Class) (below : List Labelled) → (c ≡ Ip → ⊥) → entries_of net ttl ((l, c) ∷ below) ≡ with_value ttl l (value_at net (l, c)) (entries_of net ttl below)
entries_step net ttl l Ip below other = absurd (other refl)
entries_step net ttl l Mpls below other = go (value_at net (l, Mpls)) refl
  where
    go : (o : Option ℕ) → value_at net (l, Mpls) ≡ o → entries_of net ttl ((l, Mpls) ∷ below) ≡ with_value ttl l o (entries_of net ttl below)
    go (Some v) e = rw (e, entries_of) refl
    go None e = rw (e, entries_of) refl
entries_step net ttl l Smpls below other = go (value_at net (l, Smpls)) refl
  where
    go : (o : Option ℕ) → value_at net (l, Smpls) ≡ o → entries_of net ttl ((l, Smpls) ∷ below) ≡ with_value ttl l o (entries_of net ttl below)
    go (Some v) e = rw (e, entries_of) refl
    go None e = rw (e, entries_of) refl

-- the entries of a label and those below it
pub record HasEntry (net : Net) (ttl : ℕ) (l : Labelled) (below : List Labelled) (entries : List Entry) : Type 0 where
  pub entry : Entry
  pub others : List Entry
  pub value : value_at net l ≡ Some entry.label
  pub exp_is : entry.exp ≡ 0
  pub ttl_is : entry.ttl ≡ ttl
  pub others_are : entries_of net ttl below ≡ Ok others
  pub entries_are : entries ≡ entry ∷ others

pub has_entry : (net : Net) (ttl : ℕ) (l : Label) (c : Class) (below : List Labelled) (entries : List Entry) → (c ≡ Ip → ⊥) → entries_of net ttl ((l, c) ∷ below) ≡ Ok entries → HasEntry net ttl (l, c) below entries
has_entry net ttl l c below entries other e = go (value_at net (l, c)) (entries_of net ttl below) refl refl (sym (entries_step net ttl l c below other) ∙ e)
  where
    go : (o : Option ℕ) (r : Result (List Entry) Label) → value_at net (l, c) ≡ o → entries_of net ttl below ≡ r → with_value ttl l (value_at net (l, c)) (entries_of net ttl below) ≡ Ok entries → HasEntry net ttl (l, c) below entries
    go None r value rest h = let stop : Err l ≡ Ok entries = rw value at h in cc
    go (Some v) (Err x) value rest h = let stop : Err x ≡ Ok entries = rw (value, rest) at h in cc
    go (Some v) (Ok es) value rest h =
        let first : Entry = record { label = v; exp = 0; ttl = ttl } in
        let all : Ok (first ∷ es) ≡ Ok entries = rw (value, rest) at h in
        record { entry = first; others = es; value = value; exp_is = refl; ttl_is = refl; others_are = rest; entries_are = cc }

-- entries that were made, over those of what is left
abbrev pub after : List Entry → Result (List Entry) Label → Result (List Entry) Label
after made left = result_map_both (λ (es : List Entry). made ++ es) (λ (x : Label). x) left

after_more : (made : List Entry) (e : Entry) (r : Result (List Entry) Label) → after made (result_map_both (λ (es : List Entry). e ∷ es) (λ (x : Label). x) r) ≡ after (made ++ e ∷ []) r
after_more made e (Ok es) = ap Ok (sym (append_assoc made (e ∷ []) es))
after_more made e (Err x) = refl

-- labels above the bottom aren't ip labels
not_ip_mpls : Mpls ≡ Ip → ⊥
not_ip_mpls h = cc

not_ip_smpls : Smpls ≡ Ip → ⊥
not_ip_smpls h = cc

-- what is left, with its first label apart
walk_step : (net : Net) (ttl : ℕ) (header : List Labelled) (i : ℕ) (l : Label) (c : Class) (made : List Entry) → (c ≡ Ip → ⊥) → slice_get header i ≡ Some (l, c)
    → entries_of net ttl header ≡ after made (entries_of net ttl (drop i header)) → entries_of net ttl header ≡ after made (with_value ttl l (value_at net (l, c)) (entries_of net ttl (drop (i + 1) header)))
walk_step net ttl header i l c made other here walk = walk ∙ ap (λ (h : List Labelled). after made (entries_of net ttl h)) (drop_at header i (l, c) here) ∙ ap (after made) (entries_step net ttl l c (drop (i + 1) header) other)

-- a label with a value
value_goes_on : (net : Net) (ttl : ℕ) (l : Label) (o : Option ℕ) (whole below : Result (List Entry) Label) (made more : List Entry) (e : Entry) → entry_with ttl l o ≡ Ok (Some e) → more ≡ made ++ e ∷ [] → whole ≡ after made (with_value ttl l o below) → whole ≡ after more below
value_goes_on net ttl l None whole below made more e gives push walk = cc
value_goes_on net ttl l (Some v) whole below made more e gives push walk =
    let first : Entry = record { label = v; exp = 0; ttl = ttl } in
    let is : first ≡ e = cc in
    walk ∙ after_more made first below ∙ ap (λ (es : List Entry). after es below) (ap (λ (x : Entry). made ++ x ∷ []) is ∙ sym push)

pub walk_entry : (net : Net) (ttl : ℕ) (header : List Labelled) (i : ℕ) (l : Label) (c : Class) (made more : List Entry) (e : Entry) → slice_get header i ≡ Some (l, c) → entry_at net ttl (l, c) ≡ Ok (Some e) → more ≡ made ++ e ∷ []
    → entries_of net ttl header ≡ after made (entries_of net ttl (drop i header)) → entries_of net ttl header ≡ after more (entries_of net ttl (drop (i + 1) header))
walk_entry net ttl header i l Ip made more e here gives push walk = cc
walk_entry net ttl header i l Mpls made more e here gives push walk = value_goes_on net ttl l (value_at net (l, Mpls)) _ _ made more e gives push (walk_step net ttl header i l Mpls made not_ip_mpls here walk)
walk_entry net ttl header i l Smpls made more e here gives push walk = value_goes_on net ttl l (value_at net (l, Smpls)) _ _ made more e gives push (walk_step net ttl header i l Smpls made not_ip_smpls here walk)

-- a label of those classes isn't passed over
value_is_some : (ttl : ℕ) (l : Label) (o : Option ℕ) → entry_with ttl l o ≡ Ok None → ⊥
value_is_some ttl l None gives = cc
value_is_some ttl l (Some v) gives = cc

pub walk_ip : (net : Net) (ttl : ℕ) (header : List Labelled) (i : ℕ) (l : Label) (c : Class) (made more : List Entry) → slice_get header i ≡ Some (l, c) → entry_at net ttl (l, c) ≡ Ok None → more ≡ made
    → entries_of net ttl header ≡ after made (entries_of net ttl (drop i header)) → entries_of net ttl header ≡ after more (entries_of net ttl (drop (i + 1) header))
walk_ip net ttl header i l Ip made more here gives same walk = walk ∙ ap (λ (h : List Labelled). after made (entries_of net ttl h)) (drop_at header i (l, Ip) here) ∙ ap (λ (es : List Entry). after es (entries_of net ttl (drop (i + 1) header))) (sym same)
walk_ip net ttl header i l Mpls made more here gives same walk = absurd (value_is_some ttl l (value_at net (l, Mpls)) gives)
walk_ip net ttl header i l Smpls made more here gives same walk = absurd (value_is_some ttl l (value_at net (l, Smpls)) gives)

-- a label without a value
value_stops : (ttl : ℕ) (l wrong : Label) (o : Option ℕ) (whole below : Result (List Entry) Label) (made : List Entry) → entry_with ttl l o ≡ Err (no_value.Label wrong) → whole ≡ after made (with_value ttl l o below) → whole ≡ Err wrong
value_stops ttl l wrong (Some v) whole below made gives walk = cc
value_stops ttl l wrong None whole below made gives walk = let is : l ≡ wrong = cc in walk ∙ ap Err is

pub walk_stop : (net : Net) (ttl : ℕ) (header : List Labelled) (i : ℕ) (l : Label) (c : Class) (made : List Entry) (refused : NoValue) → slice_get header i ≡ Some (l, c) → entry_at net ttl (l, c) ≡ Err refused
    → entries_of net ttl header ≡ after made (entries_of net ttl (drop i header)) → HasNoValue net ttl header refused
walk_stop net ttl header i l c made no_value.Memory here gives walk = tt
walk_stop net ttl header i l Ip made (no_value.Label wrong) here gives walk = cc
walk_stop net ttl header i l Mpls made (no_value.Label wrong) here gives walk = value_stops ttl l wrong (value_at net (l, Mpls)) _ _ made gives (walk_step net ttl header i l Mpls made not_ip_mpls here walk)
walk_stop net ttl header i l Smpls made (no_value.Label wrong) here gives walk = value_stops ttl l wrong (value_at net (l, Smpls)) _ _ made gives (walk_step net ttl header i l Smpls made not_ip_smpls here walk)

-- a label of a header is the network's where all are
pub known_at : (net : Net) (header : List Labelled) (i : ℕ) (l : Labelled) (found : Option Labelled) → labels_known net header ≡ true → found ≡ slice_get header i → found ≡ Some l → label_known net.classes l ≡ true
known_at net header i l found known at is = all_get (λ (x : Labelled). label_known net.classes x) header i l known (sym at ∙ is)

-- a refusal that comes through a `?`
pub err_is : {T E : Type 0} (P : E → Type 0) (r : Result T E) (e : E) → IsErrAnd r (λ x. x ≡ e) → P e → IfErr r P
err_is P (Ok x) e is holds = tt
err_is P (Err x) e is holds = subst P (sym is) holds

-- ---- what entries are, and what has none

value_free : (s : List ℕ) (v : ℕ) → value_in s ≡ Some v → is_free v ≡ true
value_free s v e = by_test (is_number s && is_free (digits_value 10 s)) there missing
  where
    there : (is_number s && is_free (digits_value 10 s)) ≡ true → is_free v ≡ true
    there test =
        let same : Some (digits_value 10 s) ≡ Some v = rw test at e in
        let free = (and_parts (is_number s) (is_free (digits_value 10 s)) test).1 in
        subst (λ (n : ℕ). is_free n ≡ true) (same_Some (digits_value 10 s) v same) free

    missing : (is_number s && is_free (digits_value 10 s)) ≡ false → is_free v ≡ true
    missing test = let none : None ≡ Some v = rw test at e in cc

named_free : (c : Class) (name : List ℕ) (v : ℕ) → value_of c name ≡ Some v → is_free v ≡ true
named_free Mpls name v e = value_free name v e
named_free Smpls [] v e = cc
named_free Smpls (b ∷ name) v e = by_test (b == 115) there missing
  where
    there : (b == 115) ≡ true → is_free v ≡ true
    there test = let value : value_in name ≡ Some v = rw test at e in value_free name v value

    missing : (b == 115) ≡ false → is_free v ≡ true
    missing test = let none : None ≡ Some v = rw test at e in cc
named_free Ip name v e = cc

label_free : (net : Net) (l : Label) (c : Class) (v : ℕ) → value_at net (l, c) ≡ Some v → is_free v ≡ true
label_free net l c v e = go (slice_get net.labels l.0) e
  where
    go : (o : Option (List ℕ)) → option_and_then (value_of c) o ≡ Some v → is_free v ≡ true
    go None h = cc
    go (Some name) h = named_free c name v h

one_fits : (net : Net) (ttl : ℕ) (l : Label) (c : Class) (below : List Labelled) (entries : List Entry) → ttl < 256 → (c ≡ Ip → ⊥) → entries_of net ttl ((l, c) ∷ below) ≡ Ok entries
    → ((others : List Entry) → entries_of net ttl below ≡ Ok others → list_all is_entry others ≡ true) → list_all is_entry entries ≡ true
one_fits net ttl l c below entries low other e rest =
    let h = has_entry net ttl l c below entries other e in
    let small : nat_lt h.entry.exp 8 && nat_lt h.entry.ttl 256 ≡ true = and_from (nat_lt h.entry.exp 8) _ (lt-ltb h.entry.exp 8 (omega (arith, h.exp_is))) (lt-ltb h.entry.ttl 256 (omega (arith, h.ttl_is, low))) in
    let one : is_entry h.entry ≡ true = and_from (is_free h.entry.label) _ (label_free net l c h.entry.label h.value) small in
    ap (list_all is_entry) h.entries_are ∙ and_from (is_entry h.entry) _ one (rest h.others h.others_are)

-- the entries of a header fit in their bits
entries_fit : (net : Net) (ttl : ℕ) (header : List Labelled) (entries : List Entry) → ttl < 256 → entries_of net ttl header ≡ Ok entries → list_all is_entry entries ≡ true
entries_fit net ttl [] entries low e = let none : entries ≡ [] = cc in rw none refl
entries_fit net ttl ((l, Ip) ∷ below) entries low e = entries_fit net ttl below entries low e
entries_fit net ttl ((l, Mpls) ∷ below) entries low e = one_fits net ttl l Mpls below entries low not_ip_mpls e (λ others rest. entries_fit net ttl below others low rest)
entries_fit net ttl ((l, Smpls) ∷ below) entries low e = one_fits net ttl l Smpls below entries low not_ip_smpls e (λ others rest. entries_fit net ttl below others low rest)

-- and so do those that were made of all its labels
pub walked_fit : (net : Net) (ttl : ℕ) (header : List Labelled) (i : ℕ) (made : List Entry) → ttl < 256 → length header ≤ i → entries_of net ttl header ≡ after made (entries_of net ttl (drop i header)) → list_all is_entry made ≡ true
walked_fit net ttl header i made low past walk =
    entries_fit net ttl header made low (walk ∙ ap (λ (h : List Labelled). after made (entries_of net ttl h)) (drop_all i header past) ∙ ap Ok (append-nil made))

-- where a label is that has no value
pub record StandsThere (header : List Labelled) (l : Label) : Type 0 where
  pub i : ℕ
  pub class : Class
  pub at : slice_get header i ≡ Some (l, class)

one_stands : (net : Net) (ttl : ℕ) (m l : Label) (c : Class) (below : List Labelled) → (c ≡ Ip → ⊥) → entries_of net ttl ((m, c) ∷ below) ≡ Err l → (entries_of net ttl below ≡ Err l → StandsThere below l) → StandsThere ((m, c) ∷ below) l
one_stands net ttl m l c below other e rest = go (value_at net (m, c)) (entries_of net ttl below) refl refl (sym (entries_step net ttl m c below other) ∙ e)
  where
    go : (o : Option ℕ) (r : Result (List Entry) Label) → value_at net (m, c) ≡ o → entries_of net ttl below ≡ r → with_value ttl m (value_at net (m, c)) (entries_of net ttl below) ≡ Err l → StandsThere ((m, c) ∷ below) l
    go None r value left h =
        let stop : Err m ≡ Err l = rw value at h in
        let same : m ≡ l = cc in
        record { i = 0; class = c; at = ap (λ (x : Label). Some (x, c)) same }
    go (Some v) (Err x) value left h =
        let stop : Err x ≡ Err l = rw (value, left) at h in
        let there = rest (left ∙ stop) in
        record { i = suc there.i; class = there.class; at = there.at }
    go (Some v) (Ok es) value left h =
        let first : Entry = record { label = v; exp = 0; ttl = ttl } in
        let all : Ok (first ∷ es) ≡ Err l = rw (value, left) at h in
        cc

pub stands_there : (net : Net) (ttl : ℕ) (header : List Labelled) (l : Label) → entries_of net ttl header ≡ Err l → StandsThere header l
stands_there net ttl [] l e = cc
stands_there net ttl ((m, Ip) ∷ below) l e = let there = stands_there net ttl below l e in record { i = suc there.i; class = there.class; at = there.at }
stands_there net ttl ((m, Mpls) ∷ below) l e = one_stands net ttl m l Mpls below not_ip_mpls e (λ rest. stands_there net ttl below l rest)
stands_there net ttl ((m, Smpls) ∷ below) l e = one_stands net ttl m l Smpls below not_ip_smpls e (λ rest. stands_there net ttl below l rest)
