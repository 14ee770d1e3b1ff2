-- A weights text is read to its end, and its terms are noted.
use Rattle.std.proofs.Common.{◌≡◌, ℕ, ◌+◌, true, List, [], ◌∷◌, ◌++◌, Option, Some, None, length, map, refl, arith, ap, sym, ◌∙◌, append_assoc, append-nil, subst}
use mathlib.Core.Path.{ap₂}
use Rattle.std.proofs.lemmas.Bool.{and_parts}
use Rattle.std.specs.List.{list_all}
use Rattle.wi_text.specs.Characters.{is_space}
use Rattle.wi_text.specs.private.Machines.{at_end}
use Rattle.wi_text.specs.Spelling.{Spells}
use Rattle.wi_quantity.specs.declared.written.Class.TheVariants as class
use Rattle.wi_quantity.specs.declared.written.Stage.{Stage}
use Rattle.wi_quantity.specs.declared.written.Stage.TheVariants.{Start, AfterNumber, AfterStar, InWord, AfterWord}
use Rattle.wi_quantity.specs.Written.{Token, Word, spelling, IsToken, WrittenPart, WrittenTerm, Written, number_tokens, part_tokens, more_parts, more_terms, Reads, parts_of, terms_of}
use Rattle.wi_quantity.specs.private.Syntax.{next_stage, may_end, stop}
use Rattle.wi_quantity.specs.private.Noting.{Noted, nothing, part_of, end_part, end_term, note_all}
use Rattle.wi_quantity.proofs.Leads.{Leads, Ends, ends_along, leads_first, spaces_lead, spaced_mark, word_leads, number_leads, given_some}
use Rattle.wi_quantity.proofs.Classes.{space_class}

ends_same : (p : Stage) (d : Noted) (at : ℕ) (text : List ℕ) (s t : List (List WrittenPart)) → s ≡ t → Ends p d at text s → Ends p d at text t
ends_same p d at text s t e ends = record { stops = ends.stops; notes = ends.notes ∙ e }

ends_text : (p : Stage) (d : Noted) (at : ℕ) (text other : List ℕ) (s : List (List WrittenPart)) → text ≡ other → Ends p d at other s → Ends p d at text s
ends_text p d at text other s e ends = let P : List ℕ → Type 0 = λ t. Ends p d at t s in subst P (sym e) ends

-- a piece leads to where a text may end
ends_here : (p q : Stage) (d : Noted) (at : ℕ) (s : List ℕ) → may_end q ≡ true → Leads p d at s q d → Ends p d at s (end_term d).terms
ends_here p q d at s may leads =
    let whole : s ++ [] ≡ s = append-nil s in
    let none : at_end (may_end q) (at + length s) ≡ None = ap (λ b. at_end b (at + length s)) may in
    record {
      stops = ap (stop p at) (sym whole) ∙ leads.stops [] ∙ none;
      notes = ap (λ t. (end_term (note_all d at t)).terms) (sym whole) ∙ ap (λ n. (end_term n).terms) (leads.notes []);
    }

spaces_end : (d : Noted) (at : ℕ) (s : List ℕ) → list_all is_space s ≡ true → Ends InWord d at s (end_term d).terms
spaces_end d at [] all = record { stops = refl; notes = refl }
spaces_end d at (b ∷ s) all =
    let parts = and_parts (is_space b) (list_all is_space s) all in
    ends_here InWord AfterWord d at (b ∷ s) refl
    (leads_first InWord AfterWord AfterWord d d d at b class.Space s (space_class b parts.0) refl refl (spaces_lead AfterWord d (at + 1) s refl parts.1))

-- a word, and what follows
word_reads : (p : Stage) (d : Noted) (at n : ℕ) (s : List ℕ) (ts : List Token) (text : List ℕ) (terms : List (List WrittenPart)) → next_stage p class.Space ≡ Some p → next_stage p class.Letter ≡ Some InWord → d.word ≡ (0, [])
    → Spells spelling IsToken at (Word n s ∷ ts) text
    → ((at' : ℕ) (text' : List ℕ) → Spells spelling IsToken at' ts text' → Ends InWord (record d { word = (n, s) }) at' text' terms) → Ends p d at text terms
word_reads p d at n s ts text terms stays goes none (space, rest, all, is, (here, some, letters, apart), more) then =
    ends_text p d at text (space ++ (s ++ rest)) terms is
    (ends_along p p d d at space (s ++ rest) terms (spaces_lead p d at space stays all)
    (ends_along p InWord d (record d { word = (n, s) }) (at + length space) s rest terms
    (let word : Leads p d (at + length space) s InWord (record d { word = (at + length space, s) }) = word_leads p d (at + length space) s goes none some letters in
    let P : ℕ → Type 0 = λ k. Leads p d (at + length space) s InWord (record d { word = (k, s) }) in subst P (sym here) word)
    (then (at + length space + length s) rest more)))

-- what is noted of a part
record Noting (d e : Noted) (part : WrittenPart) : Type 0 where
  pub terms : e.terms ≡ d.terms
  pub parts : e.parts ≡ d.parts
  pub shows : part_of e.number e.word ≡ part

-- a part, and what follows
part_reads : (number : Option (ℕ × List ℕ)) (word : ℕ × List ℕ) (d : Noted) (at : ℕ) (ts : List Token) (text : List ℕ) (terms : List (List WrittenPart)) → d.number ≡ (0, []) → d.word ≡ (0, [])
    → Spells spelling IsToken at (number_tokens number (Word word.0 word.1 ∷ ts)) text
    → ((e : Noted) → Noting d e (record { number = number; word = word }) → (at' : ℕ) (text' : List ℕ) → Spells spelling IsToken at' ts text' → Ends InWord e at' text' terms) → Ends Start d at text terms
part_reads None word d at ts text terms no_number no_word spelled then =
    word_reads Start d at word.0 word.1 ts text terms refl refl no_word spelled
    (then (record d { word = word }) (record { terms = refl; parts = refl; shows = rw no_number refl }))
part_reads (Some number) word d at ts text terms no_number no_word (space, rest, all, is, (here, digits, apart), (space', rest', all', is', mark, more)) then =
    let led = number_leads d (at + length space) number.1 no_number digits in
    let e : Noted = record d { number = number } in
    let P : ℕ → Type 0 = λ k. Leads Start d (at + length space) number.1 led.0 (record d { number = (k, number.1) }) in
    let noted : Leads Start d (at + length space) number.1 led.0 e = subst P (sym here) led.2 in
    let there : ℕ = at + length space + length number.1 in
    ends_text Start d at text (space ++ (number.1 ++ rest)) terms is
    (ends_along Start Start d d at space (number.1 ++ rest) terms (spaces_lead Start d at space refl all)
    (ends_along Start led.0 d e (at + length space) number.1 rest terms noted
    (ends_text led.0 e there rest ((space' ++ 42 ∷ []) ++ rest') terms (is' ∙ sym (append_assoc space' (42 ∷ []) rest'))
    (ends_along led.0 AfterStar e e there (space' ++ 42 ∷ []) rest' terms (spaced_mark led.0 AfterNumber AfterStar e e there 42 class.Star space' led.1.0 refl led.1.1 refl all' refl refl)
    (word_reads AfterStar e (there + length (space' ++ 42 ∷ [])) word.0 word.1 ts rest' terms refl refl no_word
    (let Q : ℕ → Type 0 = λ k. Spells spelling IsToken k (Word word.0 word.1 ∷ ts) rest' in subst Q (place there space') more)
    (then (record e { word = word }) (record { terms = refl; parts = refl; shows = rw (given_some number.1 number.0 digits) refl })))))))
  where
    place : (there : ℕ) (s : List ℕ) → there + length s + 1 ≡ there + length (s ++ 42 ∷ [])
    place there s = rw (longer s) (omega arith)
      where
        longer : (s : List ℕ) → length (s ++ 42 ∷ []) ≡ length s + 1
        longer [] = refl
        longer (x ∷ s) = let ih = longer s in omega (arith, ih)

-- from the end of a part on, where no part of its term follows
abbrev ReadsTerms : List WrittenTerm → Type 0
ReadsTerms terms = (d : Noted) (at : ℕ) (text : List ℕ) → Spells spelling IsToken at (more_terms terms) text → Ends InWord d at text (d.terms ++ (d.parts ++ part_of d.number d.word ∷ []) ∷ map parts_of terms)

-- a mark, and a part after it
mark_reads : (b : ℕ) (part : WrittenPart) (d e : Noted) (at : ℕ) (ts : List Token) (text space rest : List ℕ) (terms : List (List WrittenPart)) → e.number ≡ (0, []) → e.word ≡ (0, [])
    → list_all is_space space ≡ true → text ≡ space ++ (b ∷ rest) → Leads InWord d at (space ++ b ∷ []) Start e
    → Spells spelling IsToken (at + length space + 1) (part_tokens part ts) rest
    → ((f : Noted) → Noting e f part → (at' : ℕ) (text' : List ℕ) → Spells spelling IsToken at' ts text' → Ends InWord f at' text' terms) → Ends InWord d at text terms
mark_reads b part d e at ts text space rest terms no_number no_word all is leads more then =
    ends_text InWord d at text ((space ++ b ∷ []) ++ rest) terms (is ∙ sym (append_assoc space (b ∷ []) rest))
    (ends_along InWord Start d e at (space ++ b ∷ []) rest terms leads
    (part_reads part.number part.word e (at + length (space ++ b ∷ [])) ts rest terms no_number no_word
    (let Q : ℕ → Type 0 = λ k. Spells spelling IsToken k (part_tokens part ts) rest in subst Q (place space) more) then))
  where
    place : (s : List ℕ) → at + length s + 1 ≡ at + length (s ++ b ∷ [])
    place [] = omega arith
    place (x ∷ s) = let ih = place s in omega (arith, ih)

parts_read : (terms : List WrittenTerm) → ReadsTerms terms → (ps : List WrittenPart) (d : Noted) (at : ℕ) (text : List ℕ) → Spells spelling IsToken at (more_parts ps (more_terms terms)) text
    → Ends InWord d at text (d.terms ++ (d.parts ++ part_of d.number d.word ∷ ps) ∷ map parts_of terms)
parts_read terms last [] d at text spelled = last d at text spelled
parts_read terms last (p ∷ ps) d at text (space, rest, all, is, mark, more) =
    mark_reads 43 p d (end_part d) at (more_parts ps (more_terms terms)) text space rest (d.terms ++ (d.parts ++ part_of d.number d.word ∷ (p ∷ ps)) ∷ map parts_of terms) refl refl all is
    (spaced_mark InWord AfterWord Start d (end_part d) at 43 class.Plus space refl refl refl refl all refl refl) more
    (λ e noting at' text' spelled. ends_same InWord e at' text' _ _ (same e noting) (parts_read terms last ps e at' text' spelled))
  where
    same : (e : Noted) → Noting (end_part d) e p → e.terms ++ (e.parts ++ part_of e.number e.word ∷ ps) ∷ map parts_of terms ≡ d.terms ++ (d.parts ++ part_of d.number d.word ∷ (p ∷ ps)) ∷ map parts_of terms
    same e noting = rw (noting.terms, noting.parts, noting.shows) (ap (λ t. d.terms ++ t ∷ map parts_of terms) (append_assoc d.parts (part_of d.number d.word ∷ []) (p ∷ ps)))

terms_read : (terms : List WrittenTerm) → ReadsTerms terms
terms_read [] d at text spelled = spaces_end d at text spelled
terms_read (t ∷ terms) d at text (space, rest, all, is, mark, more) =
    mark_reads 44 t.first d (end_term d) at (more_parts t.more (more_terms terms)) text space rest (d.terms ++ (d.parts ++ part_of d.number d.word ∷ []) ∷ map parts_of (t ∷ terms)) refl refl all is
    (spaced_mark InWord AfterWord Start d (end_term d) at 44 class.Comma space refl refl refl refl all refl refl) more
    (λ e noting at' text' spelled. ends_same InWord e at' text' _ _ (same e noting) (parts_read terms (terms_read terms) t.more e at' text' spelled))
  where
    same : (e : Noted) → Noting (end_term d) e t.first → e.terms ++ (e.parts ++ part_of e.number e.word ∷ t.more) ∷ map parts_of terms ≡ d.terms ++ (d.parts ++ part_of d.number d.word ∷ []) ∷ map parts_of (t ∷ terms)
    same e noting = rw (noting.terms, noting.parts, noting.shows) (append_assoc d.terms ((d.parts ++ part_of d.number d.word ∷ []) ∷ []) ((t.first ∷ t.more) ∷ map parts_of terms))

pub text_reads : (text : List ℕ) (w : Written) → Reads text w → Ends Start nothing 0 text (map parts_of (terms_of w))
text_reads text w reads =
    part_reads w.first.first.number w.first.first.word nothing 0 (more_parts w.first.more (more_terms w.more)) text (map parts_of (terms_of w)) refl refl reads
    (λ e noting at' text' spelled. ends_same InWord e at' text' _ _ (same e noting) (parts_read w.more (terms_read w.more) w.first.more e at' text' spelled))
  where
    same : (e : Noted) → Noting nothing e w.first.first → e.terms ++ (e.parts ++ part_of e.number e.word ∷ w.first.more) ∷ map parts_of w.more ≡ map parts_of (terms_of w)
    same e noting = rw (noting.terms, noting.parts, noting.shows) refl

-- the terms of a text say how it is written
terms_same : (v w : List WrittenTerm) → map parts_of v ≡ map parts_of w → v ≡ w
terms_same [] [] e = refl
terms_same [] (t ∷ w) e = cc
terms_same (s ∷ v) [] e = cc
terms_same (s ∷ v) (t ∷ w) e =
    let first : s.first ≡ t.first = cc in
    let more : s.more ≡ t.more = cc in
    let rest : map parts_of v ≡ map parts_of w = cc in
    let term : s ≡ t = same first more in
    rw (term, terms_same v w rest) refl
  where
    same : s.first ≡ t.first → s.more ≡ t.more → s ≡ t
    same f m = ap₂ (λ p ps. record { first = p; more = ps }) f m

pub one_way : (text : List ℕ) (v w : Written) → Reads text v → Reads text w → v ≡ w
one_way text v w rv rw' =
    let a = (text_reads text v rv).notes in
    let b = (text_reads text w rw').notes in
    let all = terms_same (terms_of v) (terms_of w) (sym a ∙ b) in
    let first : v.first ≡ w.first = cc in
    let more : v.more ≡ w.more = cc in
    ap₂ (λ t ts. record { first = t; more = ts }) first more
