-- Headers that are put together label by label.
use Rattle.std.proofs.Common.{◌≡◌, ℕ, ◌+◌, Result, OnOk, subst, ap, ◌∙◌, List, [], ◌∷◌, ◌++◌, length, drop, slice_get, ◌≤◌, Some, None, refl, sym, true, append_assoc}
use Rattle.std.specs.Prelude.{codes}
use Rattle.wi_labels.specs.Header.{Entry}
use Rattle.std.specs.List.{list_all}
use Rattle.wi_net.specs.Net.{Net, is_link}
use Rattle.wi_net.proofs.KeptLists.{all_get}
use Rattle.wi_net.specs.declared.parts.LinkId.{LinkId}
use Rattle.wi_faults.specs.Shown.{label_shown, header_shown, link_shown, links_shown, more_links, source_shown, sources_shown}
use Rattle.std.proofs.lemmas.Option.{slice_get_past}
use Rattle.wi_labels.proofs.HeaderLemmas.{drop_at}

-- a label of a header is shown, and those below it are left
pub labels_left : (net : Net) (h : List Entry) (i : ℕ) (l : Entry) (text whole mid new : List ℕ) → slice_get h i ≡ Some l → text ++ header_shown net (drop i h) ≡ whole
    → mid ≡ text ++ codes " " → new ≡ mid ++ label_shown net l.0 → new ++ header_shown net (drop (i + 1) h) ≡ whole
labels_left net h i l text whole mid new is all space put =
    let below : List ℕ = header_shown net (drop (i + 1) h) in
    let here : text ++ header_shown net (l ∷ drop (i + 1) h) ≡ whole = rw (drop_at h i l is) at all in
    rw (put, space, append_assoc text (codes " ") (label_shown net l.0), append_assoc text (codes " " ++ label_shown net l.0) below) here

-- a link of a set is shown, and those after it are left
pub links_left : (net : Net) (s : List LinkId) (i : ℕ) (e : LinkId) (text whole mid new : List ℕ) → slice_get s i ≡ Some e → text ++ more_links net (drop i s) ≡ whole
    → mid ≡ text ++ codes " " → new ≡ mid ++ link_shown net e → new ++ more_links net (drop (i + 1) s) ≡ whole
links_left net s i e text whole mid new is all space put =
    let later : List ℕ = more_links net (drop (i + 1) s) in
    let here : text ++ more_links net (e ∷ drop (i + 1) s) ≡ whole = rw (drop_at s i e is) at all in
    rw (put, space, append_assoc text (codes " ") (link_shown net e), append_assoc text (codes " " ++ link_shown net e) later) here

-- the interface that a link leaves by is shown, and those after it are left
pub sources_left : (net : Net) (s : List LinkId) (i : ℕ) (e : LinkId) (text whole mid new : List ℕ) → slice_get s i ≡ Some e → text ++ sources_shown net (drop i s) ≡ whole
    → mid ≡ text ++ source_shown net e → new ≡ mid ++ codes " " → new ++ sources_shown net (drop (i + 1) s) ≡ whole
sources_left net s i e text whole mid new is all put space =
    let later : List ℕ = sources_shown net (drop (i + 1) s) in
    let here : text ++ sources_shown net (e ∷ drop (i + 1) s) ≡ whole = rw (drop_at s i e is) at all in
    rw (space, put, append_assoc text (source_shown net e) (codes " "), append_assoc text (source_shown net e ++ codes " ") later) here

-- the first link of a set is shown, and the others behind it
pub first_shown : {E : Type 0} (r : Result (Unit {0}) E) (net : Net) (s : List LinkId) (e : LinkId) (text mid new : List ℕ) → slice_get s 0 ≡ Some e → mid ≡ text ++ link_shown net e → OnOk r (new ≡ mid ++ more_links net (drop 1 s)) → OnOk r (new ≡ text ++ links_shown net s)
first_shown r net [] e text mid new is put more = cc
first_shown r net (x ∷ s) e text mid new is put more =
    let same : x ≡ e = cc in
    subst (λ t. OnOk r (new ≡ t)) (rw (put, same, append_assoc text (link_shown net e) (more_links net s)) refl) more

pub none_shown : (net : Net) (s : List LinkId) → slice_get s 0 ≡ None → links_shown net s ≡ codes "none"
none_shown net [] is = refl
none_shown net (x ∷ s) is = cc

-- pieces that are put one after the other
pub two_pieces : {E : Type 0} (r : Result (Unit {0}) E) (a b c one two : List ℕ) → one ≡ a ++ b → OnOk r (two ≡ one ++ c) → OnOk r (two ≡ a ++ (b ++ c))
two_pieces r a b c one two f h = subst (λ x. OnOk r (two ≡ x)) (ap (λ x. x ++ c) f ∙ append_assoc a b c) h

pub three_pieces : {E : Type 0} (r : Result (Unit {0}) E) (a b c d one two three : List ℕ) → one ≡ a ++ b → two ≡ one ++ c → OnOk r (three ≡ two ++ d) → OnOk r (three ≡ a ++ ((b ++ c) ++ d))
three_pieces r a b c d one two three f g h = two_pieces r a (b ++ c) d two three (g ∙ ap (λ x. x ++ c) f ∙ append_assoc a b c) h

pub five_pieces : {E : Type 0} (r : Result (Unit {0}) E) (a b c d e f one two three four five : List ℕ) → one ≡ a ++ b → two ≡ one ++ c → three ≡ two ++ d → four ≡ three ++ e → OnOk r (five ≡ four ++ f)
    → OnOk r (five ≡ a ++ ((((b ++ c) ++ d) ++ e) ++ f))
five_pieces r a b c d e f one two three four five g h i j k =
    let pair : two ≡ a ++ (b ++ c) = h ∙ ap (λ x. x ++ c) g ∙ append_assoc a b c in
    three_pieces r a ((b ++ c) ++ d) e f three four five (i ∙ ap (λ x. x ++ d) pair ∙ append_assoc a (b ++ c) d) j k

-- links of the network are known one by one
pub link_at : (net : Net) (s : List LinkId) (i : ℕ) (e : LinkId) → list_all (is_link net) s ≡ true → Some e ≡ slice_get s i → is_link net e ≡ true
link_at net s i e all is = all_get (is_link net) s i e all (sym is)

-- a link that isn't there has no text
pub unknown_link : (net : Net) (e : LinkId) → length net.links ≤ e.0 → link_shown net e ≡ []
unknown_link net e past = rw (slice_get_past net.links e.0 past) refl
