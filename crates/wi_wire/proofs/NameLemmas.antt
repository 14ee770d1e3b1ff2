-- The labels of a header's entries are the header's.
use Rattle.std.proofs.Common.{◌≡◌, ℕ, zero, suc, ◌+◌, ◌<◌, Bool, true, false, ◌&&◌, ◌==◌, nat_eq, nat_lt, codes, cond, List, [], ◌∷◌, ◌++◌, length, slice_get, position, option_map, option_and_then, drop, append_assoc, Option, Some, None, Ok, refl, sym, ap, ◌∙◌, ◌-◌, arith, length-drop, get_or}
use Rattle.std.specs.List.{position_or_len}
use Rattle.std.specs.Str.{bytes_eq}
use Rattle.std.specs.Fmt.{decimal}
use Rattle.std.specs.Prelude.{is_none}
use Rattle.std.proofs.lemmas.Bool.{and_parts, ltb-true, lt-ltb, eq-eqb, ne_eqb, false_from_ne_true}
use Rattle.std.proofs.lemmas.Bool.Decides.{nat_tests}
use Rattle.std.proofs.lemmas.Option.{slice_get_within, slice_get-get_or}
use Rattle.std.proofs.lemmas.Slice.Eq.{bytes_eq-Decides}
use Rattle.wi_base.proofs.Cases.{by_test}
use Rattle.wi_labels.specs.declared.label.Label.{Label}
use Rattle.wi_labels.specs.declared.label.Class.{Class}
use Rattle.wi_labels.specs.declared.label.Class.TheVariants.{Mpls, Smpls, Ip}
use Rattle.wi_labels.specs.Header.{Entry as Labelled, is_tunnel, is_valid_header}
use Rattle.wi_labels.proofs.HeaderLemmas.{drop_at}
use Rattle.wi_net.specs.Names.{is_name, are_names, place}
use Rattle.wi_net.specs.Net.{Net, label_known, labels_known}
use Rattle.wi_net.specs.Finding.{find_label}
use Rattle.wi_net.specs.Network.{IsNetwork}
use Rattle.wi_net.proofs.KeptLists.{nothing_is}
use Rattle.wi_wire.specs.declared.entry.Entry.{Entry}
use Rattle.wi_wire.specs.Values.{value_in, value_of, entries_of, name_of, of_class, label_of, labels_of, header_of}
use Rattle.wi_wire.specs.private.Labelled.{value_at, class_of}
use Rattle.wi_wire.proofs.NumberLemmas.{value_decimal}
use Rattle.wi_wire.proofs.ValueLemmas.{HasEntry, has_entry}

-- the place of what stands behind a thing that doesn't pass
place_next : {X : Type 0} (p : X → Bool) (x : X) (xs : List X) (i : ℕ) → p x ≡ false → position p xs ≡ Some i → position p (x ∷ xs) ≡ Some (suc i)
place_next p x xs i fails e = go (nat_lt (position_or_len p xs) (length xs)) (position_or_len p xs) refl refl e
  where
    go : (b : Bool) (k : ℕ) → position_or_len p xs ≡ k → nat_lt k (length xs) ≡ b → cond b (Some k) None ≡ Some i → position p (x ∷ xs) ≡ Some (suc i)
    go true k is lt h =
        let same : k ≡ i = cc in
        let less : k < length xs = ltb-true k (length xs) lt in
        let within : nat_lt (1 + k) (suc (length xs)) ≡ true = lt-ltb (1 + k) (suc (length xs)) (omega arith) in
        rw (fails, is, within) (ap Some (omega arith))
    go false k is lt h = cc

-- names tell their places
place_of : (names : List (List ℕ)) (i : ℕ) (s : List ℕ) → are_names names ≡ true → slice_get names i ≡ Some s → place names s ≡ Some i
place_of [] i s all e = cc
place_of (t ∷ names) zero s all e =
    let same : s ≡ t = cc in
    let here : bytes_eq s t ≡ true = (bytes_eq-Decides s t).1 same in
    rw (here, lt-ltb 0 (suc (length names)) (omega arith)) refl
place_of (t ∷ names) (suc i) s all e =
    let parts = and_parts (is_name t) (is_none (place names t) && are_names names) all in
    let more = and_parts (is_none (place names t)) (are_names names) parts.1 in
    let later : place names s ≡ Some i = place_of names i s more.1 e in
    let alone : place names t ≡ None = nothing_is (place names t) more.0 in
    let other : bytes_eq s t ≡ false = false_from_ne_true (bytes_eq s t) (λ h. let same : s ≡ t = (bytes_eq-Decides s t).0 h in differ (ap (λ x. place names x) (sym same) ∙ later) alone) in
    place_next (bytes_eq s) t names i other later
  where
    differ : place names t ≡ Some i → place names t ≡ None → ⊥
    differ there none = cc

-- a value's name is the label's
value_name : (c : Class) (name : List ℕ) (v : ℕ) → value_of c name ≡ Some v → name_of c v ≡ name
value_name Mpls name v e = value_decimal name v e
value_name Smpls [] v e = cc
value_name Smpls (b ∷ name) v e = by_test (b == 115) there missing
  where
    there : (b == 115) ≡ true → codes "s" ++ decimal v ≡ b ∷ name
    there test =
        let letter : b ≡ 115 = grind (arith, nat_tests) in
        let value : value_in name ≡ Some v = rw test at e in
        let digits : decimal v ≡ name = value_decimal name v value in
        rw (letter, digits) refl

    missing : (b == 115) ≡ false → codes "s" ++ decimal v ≡ b ∷ name
    missing test = let none : None ≡ Some v = rw test at e in cc
value_name Ip name v e = cc

-- a label of the network is found by its name
label_found : (net : Net) (l : Label) (name : List ℕ) → are_names net.labels ≡ true → slice_get net.labels l.0 ≡ Some name → find_label net name ≡ Some l
label_found net l name all e = rw (place_of net.labels l.0 name all e) refl

of_class_known : (net : Net) (c : Class) (l : Label) → label_known net.classes (l, c) ≡ true → of_class net c l ≡ Some (l, c)
of_class_known net c l known = rw known refl

-- the label of a value that a label has is that label
label_again : (net : Net) (l : Label) (c : Class) (v : ℕ) → IsNetwork net → label_known net.classes (l, c) ≡ true → value_at net (l, c) ≡ Some v → label_of net c v ≡ Some (l, c)
label_again net l c v is known e = go (slice_get net.labels l.0) refl e
  where
    go : (o : Option (List ℕ)) → slice_get net.labels l.0 ≡ o → option_and_then (value_of c) o ≡ Some v → label_of net c v ≡ Some (l, c)
    go None at h = cc
    go (Some name) at h =
        let found : find_label net (name_of c v) ≡ Some l = ap (find_label net) (value_name c name v h) ∙ label_found net l name is.labels at in
        rw found (of_class_known net c l known)

-- the labels of a tunnel's entries
record IsTold (net : Net) (above : List Labelled) (entries : List Entry) : Type 0 where
  labels : labels_of net entries ≡ Some above
  some : 0 < length entries

told_one : (net : Net) (ttl : ℕ) (l : Label) (below : List Labelled) (entries : List Entry) → IsNetwork net → label_known net.classes (l, Smpls) ≡ true → entries_of net ttl below ≡ Ok [] → HasEntry net ttl (l, Smpls) below entries → IsTold net ((l, Smpls) ∷ []) entries
told_one net ttl l below entries is known none h =
    let rest : h.others ≡ [] = (let e = h.others_are in cc) in
    let all : entries ≡ h.entry ∷ [] = h.entries_are ∙ ap (λ es. h.entry ∷ es) rest in
    let found : label_of net Smpls h.entry.label ≡ Some (l, Smpls) = label_again net l Smpls h.entry.label is known h.value in
    record { labels = rw (all, found) refl; some = omega (arith, ap length all) }

told_more : (net : Net) (ttl : ℕ) (l : Label) (above below : List Labelled) (entries : List Entry) → IsNetwork net → label_known net.classes (l, Mpls) ≡ true → (h : HasEntry net ttl (l, Mpls) below entries) → IsTold net above h.others → IsTold net ((l, Mpls) ∷ above) entries
told_more net ttl l above below entries is known h told = go h.others refl told.labels told.some
  where
    found : label_of net Mpls h.entry.label ≡ Some (l, Mpls)
    found = label_again net l Mpls h.entry.label is known h.value

    go : (es : List Entry) → h.others ≡ es → labels_of net es ≡ Some above → 0 < length es → IsTold net ((l, Mpls) ∷ above) entries
    go [] at labels some = absurd (omega (arith, some))
    go (e ∷ es) at labels some =
        let all : entries ≡ h.entry ∷ e ∷ es = h.entries_are ∙ ap (λ (xs : List Entry). h.entry ∷ xs) at in
        record { labels = rw (all, found, labels) refl; some = omega (arith, ap length all) }

tunnel_told : (net : Net) (ttl : ℕ) (above : List Labelled) (ip : Label) (entries : List Entry) → IsNetwork net → is_tunnel (above ++ (ip, Ip) ∷ []) ≡ true → labels_known net (above ++ (ip, Ip) ∷ []) ≡ true → entries_of net ttl (above ++ (ip, Ip) ∷ []) ≡ Ok entries → IsTold net above entries
tunnel_told net ttl [] ip entries is tunnel known e = cc
tunnel_told net ttl ((l, Ip) ∷ above) ip entries is tunnel known e = cc
tunnel_told net ttl ((l, Smpls) ∷ []) ip entries is tunnel known e =
    let here = and_parts (label_known net.classes (l, Smpls)) (labels_known net ((ip, Ip) ∷ [])) known in
    told_one net ttl l ((ip, Ip) ∷ []) entries is here.0 refl (has_entry net ttl l Smpls ((ip, Ip) ∷ []) entries (λ h. let i : Smpls ≡ Ip = h in cc) e)
tunnel_told net ttl ((l, Smpls) ∷ (m, Mpls) ∷ above) ip entries is tunnel known e = cc
tunnel_told net ttl ((l, Smpls) ∷ (m, Smpls) ∷ above) ip entries is tunnel known e = cc
tunnel_told net ttl ((l, Smpls) ∷ (m, Ip) ∷ []) ip entries is tunnel known e = cc
tunnel_told net ttl ((l, Smpls) ∷ (m, Ip) ∷ x ∷ above) ip entries is tunnel known e = cc
tunnel_told net ttl ((l, Mpls) ∷ above) ip entries is tunnel known e =
    let here = and_parts (label_known net.classes (l, Mpls)) (labels_known net (above ++ (ip, Ip) ∷ [])) known in
    let h = has_entry net ttl l Mpls (above ++ (ip, Ip) ∷ []) entries (λ h. let i : Mpls ≡ Ip = h in cc) e in
    told_more net ttl l above (above ++ (ip, Ip) ∷ []) entries is here.0 h (tunnel_told net ttl above ip h.others is tunnel here.1 h.others_are)

bottom_known : (net : Net) (above : List Labelled) (ip : Label) → labels_known net (above ++ (ip, Ip) ∷ []) ≡ true → label_known net.classes (ip, Ip) ≡ true
bottom_known net [] ip known = (and_parts (label_known net.classes (ip, Ip)) true known).0
bottom_known net (x ∷ above) ip known = bottom_known net above ip ((and_parts (label_known net.classes x) (labels_known net (above ++ (ip, Ip) ∷ [])) known).1)

over_bottom : (net : Net) (above : List Labelled) (ip : Label) (entries : List Entry) → label_known net.classes (ip, Ip) ≡ true → labels_of net entries ≡ Some above → header_of net entries ip ≡ Some (above ++ (ip, Ip) ∷ [])
over_bottom net above ip entries known labels = rw (labels, of_class_known net Ip ip known) refl

pub header_again : (net : Net) (ttl : ℕ) (above : List Labelled) (ip : Label) (entries : List Entry) → IsNetwork net → is_valid_header (above ++ (ip, Ip) ∷ []) ≡ true → labels_known net (above ++ (ip, Ip) ∷ []) ≡ true → entries_of net ttl (above ++ (ip, Ip) ∷ []) ≡ Ok entries → header_of net entries ip ≡ Some (above ++ (ip, Ip) ∷ [])
header_again net ttl [] ip entries is valid known e =
    let none : entries ≡ [] = cc in
    over_bottom net [] ip entries (bottom_known net [] ip known) (ap (labels_of net) none)
header_again net ttl ((l, Ip) ∷ []) ip entries is valid known e = cc
header_again net ttl ((l, Ip) ∷ x ∷ above) ip entries is valid known e = cc
header_again net ttl ((l, Mpls) ∷ above) ip entries is valid known e =
    over_bottom net ((l, Mpls) ∷ above) ip entries (bottom_known net ((l, Mpls) ∷ above) ip known) (tunnel_told net ttl ((l, Mpls) ∷ above) ip entries is valid known e).labels
header_again net ttl ((l, Smpls) ∷ above) ip entries is valid known e =
    over_bottom net ((l, Smpls) ∷ above) ip entries (bottom_known net ((l, Smpls) ∷ above) ip known) (tunnel_told net ttl ((l, Smpls) ∷ above) ip entries is valid known e).labels

-- labels that were found, over those of what is left
abbrev pub over : List Labelled → Option (List Labelled) → Option (List Labelled)
over found left = option_map (λ (ls : List Labelled). found ++ ls) left

-- the label of an entry goes over those of the entries below it, whichever it is
labels_step : (net : Net) (es : List Entry) (i : ℕ) (e : Entry) (is_bottom : Bool) → slice_get es i ≡ Some e → is_bottom ≡ nat_eq (i + 1) (length es)
    → labels_of net (drop i es) ≡ option_and_then (λ (l : Labelled). option_map (λ (ls : List Labelled). l ∷ ls) (labels_of net (drop (i + 1) es))) (label_of net (class_of is_bottom) e.label)
labels_step net es i e is_bottom here bottom = ap (labels_of net) (drop_at es i e here) ∙ go (drop (i + 1) es) refl
  where
    within : i < length es
    within = slice_get_within es i e here

    alone : (o : Option Labelled) → option_map (λ (l : Labelled). l ∷ []) o ≡ option_and_then (λ (l : Labelled). option_map (λ (ls : List Labelled). l ∷ ls) (Some [])) o
    alone None = refl
    alone (Some l) = refl

    go : (rest : List Entry) → drop (i + 1) es ≡ rest → labels_of net (e ∷ rest) ≡ option_and_then (λ (l : Labelled). option_map (λ (ls : List Labelled). l ∷ ls) (labels_of net rest)) (label_of net (class_of is_bottom) e.label)
    go [] left =
        let count : length es - (i + 1) ≡ 0 = sym (length-drop (i + 1) es) ∙ ap length left in
        let last : is_bottom ≡ true = bottom ∙ eq-eqb (i + 1) (length es) (omega (arith, within, count)) in
        rw last (alone (label_of net Smpls e.label))
    go (f ∷ rest) left =
        let count : length es - (i + 1) ≡ suc (length rest) = sym (length-drop (i + 1) es) ∙ ap length left in
        let upper : is_bottom ≡ false = bottom ∙ ne_eqb (i + 1) (length es) (λ same. absurd (omega (arith, count, same))) in
        rw upper refl

over_more : (found : List Labelled) (l : Labelled) (left : Option (List Labelled)) → over found (option_map (λ (ls : List Labelled). l ∷ ls) left) ≡ over (found ++ l ∷ []) left
over_more found l None = refl
over_more found l (Some ls) = ap Some (sym (append_assoc found (l ∷ []) ls))

-- an entry with its label, or without one
labels_after : (net : Net) (es : List Entry) (i : ℕ) (d : Entry) (class : Class) (found : List Labelled) (o : Option Labelled) → i < length es → class ≡ class_of (nat_eq (i + 1) (length es)) → o ≡ label_of net class (get_or es i d).label
    → labels_of net es ≡ over found (labels_of net (drop i es)) → labels_of net es ≡ over found (option_and_then (λ (l : Labelled). option_map (λ (ls : List Labelled). l ∷ ls) (labels_of net (drop (i + 1) es))) o)
labels_after net es i d class found o within bottom is walk =
    walk ∙ ap (over found) (labels_step net es i (get_or es i d) (nat_eq (i + 1) (length es)) (slice_get-get_or es i d within) refl)
    ∙ ap (λ (x : Option Labelled). over found (option_and_then (λ (l : Labelled). option_map (λ (ls : List Labelled). l ∷ ls) (labels_of net (drop (i + 1) es))) x)) (ap (λ (c : Class). label_of net c (get_or es i d).label) (sym bottom) ∙ sym is)

pub labels_next : (net : Net) (es : List Entry) (i : ℕ) (d : Entry) (class : Class) (found more : List Labelled) (o : Option Labelled) (l : Labelled) → i < length es → class ≡ class_of (nat_eq (i + 1) (length es)) → o ≡ label_of net class (get_or es i d).label → o ≡ Some l → more ≡ found ++ l ∷ []
    → labels_of net es ≡ over found (labels_of net (drop i es)) → labels_of net es ≡ over more (labels_of net (drop (i + 1) es))
labels_next net es i d class found more o l within bottom is some push walk =
    labels_after net es i d class found (Some l) within bottom (sym some ∙ is) walk ∙ over_more found l (labels_of net (drop (i + 1) es)) ∙ ap (λ (ls : List Labelled). over ls (labels_of net (drop (i + 1) es))) (sym push)

pub labels_stop : (net : Net) (es : List Entry) (i : ℕ) (d : Entry) (class : Class) (found : List Labelled) (o : Option Labelled) → i < length es → class ≡ class_of (nat_eq (i + 1) (length es)) → o ≡ label_of net class (get_or es i d).label → o ≡ None
    → labels_of net es ≡ over found (labels_of net (drop i es)) → None ≡ labels_of net es
labels_stop net es i d class found o within bottom is none walk = sym (labels_after net es i d class found None within bottom (sym none ∙ is) walk)
