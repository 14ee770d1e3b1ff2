-- What lines mean is what the program finds of them.
use Rattle.std.proofs.Common.{◌≡◌, ℕ, ◌+◌, ◌<◌, ◌≤◌, true, false, drop, get_or, List, [], ◌∷◌, ◌++◌, Option, Some, None, length, refl, sym, ap, ◌∙◌, add-one, drop-cons}
use Rattle.std.specs.Prelude.{option_map}
use Rattle.std.proofs.lemmas.List.{append_assoc, append-nil}
use Rattle.std.proofs.Math.ListN.{drop_of_length-le}
use Rattle.wi_labels.specs.Header.{Entry}
use Rattle.wi_net.specs.Net.{Net}
use Rattle.wi_script.specs.Lines.{is_line}
use Rattle.wi_script.specs.Scripts.{label_of}
use Rattle.wi_script.specs.declared.line.WrittenName.{WrittenName}
use Rattle.wi_script.specs.declared.line.WrittenEvent.{WrittenEvent}
use Rattle.wi_script.specs.private.Reading.{name_of, names_of, line_of, event_in}
use Rattle.wi_script.specs.private.Meaning.{header_of}
use Rattle.wi_script.proofs.Forms.{event_some}

-- ---- labels

-- the labels so far and those of what is left are those of all
abbrev pub Found : Net → List WrittenName → ℕ → List Entry → Type 0
Found net names i before = option_map (λ h. before ++ h) (header_of net (names_of (drop i names))) ≡ header_of net (names_of names)

pub found_first : (net : Net) (names : List WrittenName) → Found net names 0 []
found_first net names = by (header_of net (names_of names))
  where
    by : (o : Option (List Entry)) → option_map (λ h. [] ++ h) o ≡ o
    by None = refl
    by (Some h) = refl

behind : (before : List Entry) (l : Entry) (o : Option (List Entry)) → option_map (λ h. before ++ h) (option_map (λ h. l ∷ h) o) ≡ option_map (λ h. (before ++ l ∷ []) ++ h) o
behind before l None = refl
behind before l (Some h) = ap Some (sym (append_assoc before (l ∷ []) h))

one : (net : Net) (n : WrittenName) (names : List WrittenName) (l : Entry) → label_of net (name_of n) ≡ Some l → header_of net (names_of (n ∷ names)) ≡ option_map (λ h. l ∷ h) (header_of net (names_of names))
unfolding header_of
one net n names l e = rw e refl

none : (net : Net) (n : WrittenName) (names : List WrittenName) → label_of net (name_of n) ≡ None → header_of net (names_of (n ∷ names)) ≡ None
unfolding header_of
none net n names e = rw e refl

at : (names : List WrittenName) (i : ℕ) (d : WrittenName) → i < length names → drop i names ≡ get_or names i d ∷ drop (i + 1) names
at names i d within = rw add-one (drop-cons names i d within)

pub found_more : (net : Net) (names : List WrittenName) (i : ℕ) (before pushed : List Entry) (d : WrittenName) (l : Entry) → Found net names i before → i < length names → pushed ≡ before ++ l ∷ [] → Some l ≡ label_of net (name_of (get_or names i d)) → Found net names (i + 1) pushed
found_more net names i before pushed d l found within is e =
    ap (λ x. option_map (λ h. x ++ h) (header_of net (names_of (drop (i + 1) names)))) is
    ∙ sym (behind before l (header_of net (names_of (drop (i + 1) names))))
    ∙ ap (option_map (λ h. before ++ h)) (sym (one net (get_or names i d) (drop (i + 1) names) l (sym e)) ∙ ap (λ x. header_of net (names_of x)) (sym (at names i d within)))
    ∙ found

pub found_none : (net : Net) (names : List WrittenName) (i : ℕ) (before : List Entry) (d : WrittenName) → Found net names i before → i < length names → ◌≡◌ {A = Option Entry} None (label_of net (name_of (get_or names i d))) → ◌≡◌ {A = Option (List Entry)} None (header_of net (names_of names))
found_none net names i before d found within e =
    ap (option_map (λ h. before ++ h)) (sym (none net (get_or names i d) (drop (i + 1) names) (sym e)) ∙ ap (λ x. header_of net (names_of x)) (sym (at names i d within)))
    ∙ found

pub found_all : (net : Net) (names : List WrittenName) (i : ℕ) (before : List Entry) → Found net names i before → length names ≤ i → Some before ≡ header_of net (names_of names)
unfolding header_of
found_all net names i before found within = ap Some (sym (append-nil before)) ∙ ap (λ x. option_map (λ h. before ++ h) (header_of net (names_of x))) (sym (drop_of_length-le names within)) ∙ found

-- ---- events

pub is_event : (text : List ℕ) (line : WrittenEvent) → Some (line_of line) ≡ event_in text → is_line false (line_of line) ≡ true
is_event text line e = (event_some text (line_of line) (sym e)).form
