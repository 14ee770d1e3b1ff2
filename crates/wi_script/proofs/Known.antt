-- What a script names is the network's.
use Rattle.std.proofs.Common.{◌≡◌, ℕ, ◌==◌, Bool, true, false, List, [], ◌∷◌, map, slice_get, Option, Some, None, refl, subst, option_map, option_and_then, if◌then◌else◌}
use Rattle.std.specs.List.{list_all, position}
use Rattle.std.proofs.lemmas.Bool.{and_from}
use Rattle.std.proofs.lemmas.Bool.Decides.{nat_tests}
use Rattle.std.proofs.Common.{arith}
use Rattle.wi_labels.specs.declared.label.Label.{Label}
use Rattle.wi_labels.specs.declared.label.Class.{Class}
use Rattle.wi_labels.specs.declared.label.Class.TheVariants.{Mpls, Smpls, Ip}
use Rattle.wi_labels.specs.Header.{Entry, same_class, is_valid_header}
use Rattle.wi_net.specs.declared.parts.LinkId.{LinkId}
use Rattle.wi_net.specs.declared.parts.RouterId.{RouterId}
use Rattle.wi_net.specs.Net.{Net, is_link, label_known, labels_known}
use Rattle.wi_net.specs.Names.{place}
use Rattle.wi_net.specs.Ends.{is_out}
use Rattle.wi_net.specs.Finding.{find_label, find_router, find_out, find_in}
use Rattle.wi_net.proofs.MemberLemmas.{position_found}
use Rattle.wi_world.specs.declared.world.Event.{Event}
use Rattle.wi_world.specs.declared.world.Event.TheVariants as event
use Rattle.wi_script.specs.Lines.{Name, Joint, Line, At, Fail, Repair, Hop}
use Rattle.wi_script.specs.Scripts.{link_of, label_of, number_of, event_of, Begins, AllHappen}
use Rattle.wi_script.specs.private.Meaning.{AreEvents}
use Rattle.wi_script.specs.Known.{is_known_event, IsScriptOf}

-- a link that leaves a router is the network's
out_known : (net : Net) (r : RouterId) (name : List ℕ) (e : LinkId) → find_out net r name ≡ Some e → is_link net e ≡ true
out_known net r name e is = by_name (place net.interfaces name) is
  where
    by_place : (n : ℕ) (o : Option ℕ) → position (is_out r (record { 0 = n })) net.links ≡ o → option_map {U = LinkId} (λ m. record { 0 = m }) o ≡ Some e → is_link net e ≡ true
    by_place n None at is1 = cc
    by_place n (Some m) at is1 =
        let found = position_found (is_out r (record { 0 = n })) net.links m at in
        let same : ◌≡◌ {A = LinkId} (record { 0 = m }) e = cc in
        subst (λ (x : LinkId). is_link net x ≡ true) same (grind (arith, nat_tests, found.1))

    by_name : (o : Option ℕ) → option_map {U = LinkId} (λ m. record { 0 = m }) (option_and_then (λ n. position (is_out r (record { 0 = n })) net.links) o) ≡ Some e → is_link net e ≡ true
    by_name None is1 = cc
    by_name (Some n) is1 = by_place n (position (is_out r (record { 0 = n })) net.links) refl is1

link_known : (net : Net) (j : Joint) (e : LinkId) → link_of net j ≡ Some e → is_link net e ≡ true
link_known net j e is = by_router (find_router net j.from.text) is
  where
    into : Option LinkId
    into = option_and_then (λ (r : RouterId). find_in net r j.into.text) (find_router net j.to.text)

    joined : LinkId → Option LinkId
    joined out = option_and_then (λ (i : LinkId). if out.0 == i.0 then Some out else None) into

    of_same : (out : LinkId) (b : Bool) → (if b then Some out else None) ≡ Some e → out ≡ e
    of_same out true s = cc
    of_same out false s = cc

    of_joined : (out : LinkId) (o : Option LinkId) → option_and_then (λ (i : LinkId). if out.0 == i.0 then Some out else None) o ≡ Some e → out ≡ e
    of_joined out None s = cc
    of_joined out (Some i) s = of_same out (out.0 == i.0) s

    by_out : (r : RouterId) (o : Option LinkId) → find_out net r j.out.text ≡ o → option_and_then joined o ≡ Some e → is_link net e ≡ true
    by_out r None at s = cc
    by_out r (Some out) at s = subst (λ (x : LinkId). is_link net x ≡ true) (of_joined out into s) (out_known net r j.out.text out at)

    by_router : (o : Option RouterId) → option_and_then joined (option_and_then (λ (r : RouterId). find_out net r j.out.text) o) ≡ Some e → is_link net e ≡ true
    by_router None s = cc
    by_router (Some r) s = by_out r (find_out net r j.out.text) refl s

same_self : (c : Class) → same_class c c ≡ true
same_self Mpls = refl
same_self Smpls = refl
same_self Ip = refl

label_of_known : (net : Net) (n : Name) (l : Entry) → label_of net n ≡ Some l → label_known net.classes l ≡ true
label_of_known net n l is = by_label (find_label net n.text) is
  where
    by_class : (label : Label) (o : Option Class) → slice_get net.classes label.0 ≡ o → option_map {U = Entry} (λ c. (label, c)) o ≡ Some l → label_known net.classes l ≡ true
    by_class label None at s = cc
    by_class label (Some c) at s =
        let same : ◌≡◌ {A = Entry} (label, c) l = cc in
        subst (λ (x : Entry). label_known net.classes x ≡ true) same (rw at (same_self c))

    by_label : (o : Option Label) → option_and_then (λ (x : Label). option_map {U = Entry} (λ c. (x, c)) (slice_get net.classes x.0)) o ≡ Some l → label_known net.classes l ≡ true
    by_label None s = cc
    by_label (Some label) s = by_class label (slice_get net.classes label.0) refl s

labels_of_known : (net : Net) (names : List Name) (h : List Entry) → map (label_of net) names ≡ map Some h → labels_known net h ≡ true
labels_of_known net names [] e = refl
labels_of_known net [] (l ∷ h) e = cc
labels_of_known net (n ∷ names) (l ∷ h) e =
    let here : label_of net n ≡ Some l = cc in
    let below : map (label_of net) names ≡ map Some h = cc in
    and_from (label_known net.classes l) (labels_known net h) (label_of_known net n l here) (labels_of_known net names h below)

event_known : (net : Net) (line : Line) (this : Event) → event_of net line ≡ Some this → is_known_event net this ≡ true
event_known net (At j labels) this is = cc
event_known net (Fail j) this is = go (link_of net j) refl is
  where
    go : (o : Option LinkId) → link_of net j ≡ o → option_map event.Fail o ≡ Some this → is_known_event net this ≡ true
    go None at s = cc
    go (Some e) at s = let same : event.Fail e ≡ this = cc in subst (λ x. is_known_event net x ≡ true) same (link_known net j e at)
event_known net (Repair j) this is = go (link_of net j) refl is
  where
    go : (o : Option LinkId) → link_of net j ≡ o → option_map event.Repair o ≡ Some this → is_known_event net this ≡ true
    go None at s = cc
    go (Some e) at s = let same : event.Repair e ≡ this = cc in subst (λ x. is_known_event net x ≡ true) same (link_known net j e at)
event_known net (Hop group member) this is = let same : event.Hop (record { group = number_of group; member = number_of member }) ≡ this = cc in subst (λ x. is_known_event net x ≡ true) same refl

all_known : (net : Net) (texts : List (List ℕ)) (events : List Event) → AllHappen net texts events → list_all (is_known_event net) events ≡ true
all_known net texts [] h = refl
all_known net [] (event ∷ events) h = elim h [ ]
all_known net (text ∷ texts) (event ∷ events) h = and_from (is_known_event net event) (list_all (is_known_event net) events) (event_known net h.0.line event h.0.means) (all_known net texts events h.1)

-- the parts that were read make a script of the network
pub read_known : (net : Net) (first : LinkId × List Entry) (line rest : List ℕ) (events : List Event) → Begins net line first.0 first.1 × (is_valid_header first.1 ≡ true) → AreEvents net rest events [] → IsScriptOf net (record { first = first.0; header = first.1; events = events })
read_known net first line rest events begins happen = record {
  link = link_known net begins.0.joint first.0 begins.0.link;
  valid = begins.1;
  labels = labels_of_known net begins.0.labels first.1 begins.0.header;
  events = all_known net happen.before events happen.happen;
}
