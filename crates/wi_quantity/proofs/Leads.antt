-- What is spelled is read to its end, and noted as it is written.
use Rattle.std.proofs.Common.{◌≡◌, ◌≢◌, ℕ, suc, ◌+◌, Bool, true, false, ◌&&◌, ◌||◌, not, nat_eq, nat_lt, List, [], ◌∷◌, ◌++◌, Some, None, length, refl, arith, ap, ◌∙◌, ◌⊎◌, inl, inr, append_assoc, append-nil, add-zero}
use Rattle.std.proofs.lemmas.Bool.{and_parts, eqb-true}
use Rattle.std.proofs.lemmas.Bool.Decides.{nat_tests}
use Rattle.std.specs.List.{list_all}
use Rattle.wi_text.specs.Characters.{is_space, is_digit, is_letter, is_number}
use Rattle.wi_text.specs.private.Machines.{goes_on}
use Rattle.wi_quantity.specs.declared.written.Class.{Class}
use Rattle.wi_quantity.specs.declared.written.Class.TheVariants.{Space, Zero, Nonzero, Letter, Star}
use Rattle.wi_quantity.specs.declared.written.Stage.{Stage}
use Rattle.wi_quantity.specs.declared.written.Stage.TheVariants.{Start, AfterZero, InNumber, AfterNumber, AfterStar, InWord}
use Rattle.wi_quantity.specs.Written.{WrittenPart}
use Rattle.wi_quantity.specs.private.Syntax.{class_of, next_stage, stop}
use Rattle.wi_quantity.specs.private.Noting.{Noted, given, end_term, noted_as, note_all}
use Rattle.wi_quantity.proofs.Classes.{space_class, letter_class, digit_class, is_of}

-- from a stage, with what is noted, a piece of text leads to another stage and notes
pub record Leads (p : Stage) (d : Noted) (at : ℕ) (s : List ℕ) (q : Stage) (e : Noted) : Type 0 where
  pub stops : (rest : List ℕ) → stop p at (s ++ rest) ≡ stop q (at + length s) rest
  pub notes : (rest : List ℕ) → note_all d at (s ++ rest) ≡ note_all e (at + length s) rest

-- a text is read to its end, and these terms are noted
pub record Ends (p : Stage) (d : Noted) (at : ℕ) (text : List ℕ) (terms : List (List WrittenPart)) : Type 0 where
  pub stops : stop p at text ≡ None
  pub notes : (end_term (note_all d at text)).terms ≡ terms

leads_nothing : (p : Stage) (d : Noted) (at : ℕ) → Leads p d at [] p d
leads_nothing p d at = record { stops = (λ rest. rw add-zero refl); notes = (λ rest. rw add-zero refl) }

pub leads_byte : (p q : Stage) (d e : Noted) (at b : ℕ) (c : Class) → class_of b ≡ c → next_stage p c ≡ Some q → noted_as c d at b ≡ e → Leads p d at (b ∷ []) q e
leads_byte p q d e at b c ec en ed = record {
  stops = (λ rest. ap (λ o. goes_on o at (λ t. stop t (at + 1) rest)) (ap (next_stage p) ec ∙ en));
  notes = (λ rest. ap (λ n. note_all n (at + 1) rest) (ap (λ k. noted_as k d at b) ec ∙ ed));
}

leads_on : (p q r : Stage) (d e f : Noted) (at : ℕ) (s t : List ℕ) → Leads p d at s q e → Leads q e (at + length s) t r f → Leads p d at (s ++ t) r f
leads_on p q r d e f at s t first second = record {
  stops = (λ rest. rw (append_assoc, first.stops, second.stops, place) refl);
  notes = (λ rest. rw (append_assoc, first.notes, second.notes, place) refl);
}
  where
    place : at + length s + length t ≡ at + length (s ++ t)
    place = sum s
      where
        sum : (s : List ℕ) → at + length s + length t ≡ at + length (s ++ t)
        sum [] = omega arith
        sum (x ∷ s) = let ih = sum s in omega (arith, ih)

-- a byte, and then more
pub leads_first : (p q r : Stage) (d e f : Noted) (at b : ℕ) (c : Class) (t : List ℕ) → class_of b ≡ c → next_stage p c ≡ Some q → noted_as c d at b ≡ e → Leads q e (at + 1) t r f → Leads p d at (b ∷ t) r f
leads_first p q r d e f at b c t ec en ed second = leads_on p q r d e f at (b ∷ []) t (leads_byte p q d e at b c ec en ed) second

pub ends_along : (p q : Stage) (d e : Noted) (at : ℕ) (s rest : List ℕ) (terms : List (List WrittenPart)) → Leads p d at s q e → Ends q e (at + length s) rest terms → Ends p d at (s ++ rest) terms
ends_along p q d e at s rest terms first second = record {
  stops = first.stops rest ∙ second.stops;
  notes = ap (λ n. (end_term n).terms) (first.notes rest) ∙ second.notes;
}

-- white space, at a stage where it leads to that stage
pub spaces_lead : (p : Stage) (d : Noted) (at : ℕ) (s : List ℕ) → next_stage p Space ≡ Some p → list_all is_space s ≡ true → Leads p d at s p d
spaces_lead p d at [] stays all = leads_nothing p d at
spaces_lead p d at (b ∷ s) stays all =
    let parts = and_parts (is_space b) (list_all is_space s) all in
    leads_first p p p d d d at b Space s (space_class b parts.0) stays refl (spaces_lead p d (at + 1) s stays parts.1)

-- white space and then a mark, at a stage where white space leads to another
pub spaced_mark : (p q r : Stage) (d e : Noted) (at b : ℕ) (c : Class) (s : List ℕ) → next_stage p Space ≡ Some q → next_stage q Space ≡ Some q → next_stage p c ≡ Some r → next_stage q c ≡ Some r
    → list_all is_space s ≡ true → class_of b ≡ c → noted_as c d (at + length s) b ≡ e → Leads p d at (s ++ b ∷ []) r e
spaced_mark p q r d e at b c [] ps qs pc qc all ec ed = leads_byte p r d e at b c ec pc (let same : at + 0 ≡ at = omega arith in rw same at ed)
spaced_mark p q r d e at b c (x ∷ s) ps qs pc qc all ec ed =
    let parts = and_parts (is_space x) (list_all is_space s) all in
    let place : at + suc (length s) ≡ at + 1 + length s = omega arith in
    leads_first p q r d d e at x Space (s ++ b ∷ []) (space_class x parts.0) ps refl
    (leads_on q q r d d e (at + 1) s (b ∷ []) (spaces_lead q d (at + 1) s qs parts.1) (leads_byte q r d e (at + 1 + length s) b c ec qc (rw place at ed)))

-- letters, and digits, after the first
letters_lead : (d : Noted) (start c : ℕ) (s : List ℕ) (at : ℕ) (more : List ℕ) → list_all is_letter more ≡ true
    → Leads InWord (record d { word = (start, c ∷ s) }) at more InWord (record d { word = (start, c ∷ (s ++ more)) })
letters_lead d start c s at [] all = rw (append-nil s) (leads_nothing InWord (record d { word = (start, c ∷ s) }) at)
letters_lead d start c s at (b ∷ more) all =
    let parts = and_parts (is_letter b) (list_all is_letter more) all in
    let rest = letters_lead d start c (s ++ b ∷ []) (at + 1) more parts.1 in
    leads_first InWord InWord InWord (record d { word = (start, c ∷ s) }) (record d { word = (start, c ∷ (s ++ b ∷ [])) }) (record d { word = (start, c ∷ (s ++ b ∷ more)) }) at b Letter more
    (letter_class b parts.0) refl refl (rw append_assoc at rest)

pub word_leads : (p : Stage) (d : Noted) (at : ℕ) (s : List ℕ) → next_stage p Letter ≡ Some InWord → d.word ≡ (0, []) → s ≢ [] → list_all is_letter s ≡ true → Leads p d at s InWord (record d { word = (at, s) })
word_leads p d at [] goes none some all = absurd (some refl)
word_leads p d at (b ∷ s) goes none some all =
    let parts = and_parts (is_letter b) (list_all is_letter s) all in
    leads_first p InWord InWord d (record d { word = (at, b ∷ []) }) (record d { word = (at, b ∷ s) }) at b Letter s
    (letter_class b parts.0) goes (rw none refl) (letters_lead d at b [] (at + 1) s parts.1)

digits_lead : (d : Noted) (start c : ℕ) (s : List ℕ) (at : ℕ) (more : List ℕ) → list_all is_digit more ≡ true
    → Leads InNumber (record d { number = (start, c ∷ s) }) at more InNumber (record d { number = (start, c ∷ (s ++ more)) })
digits_lead d start c s at [] all = rw (append-nil s) (leads_nothing InNumber (record d { number = (start, c ∷ s) }) at)
digits_lead d start c s at (b ∷ more) all =
    let parts = and_parts (is_digit b) (list_all is_digit more) all in
    let rest = rw append_assoc at (digits_lead d start c (s ++ b ∷ []) (at + 1) more parts.1) in
    elim (digit_class b parts.0) [
      | inl e ↦ leads_first InNumber InNumber InNumber (record d { number = (start, c ∷ s) }) (record d { number = (start, c ∷ (s ++ b ∷ [])) }) (record d { number = (start, c ∷ (s ++ b ∷ more)) }) at b Zero more e refl refl rest
      | inr e ↦ leads_first InNumber InNumber InNumber (record d { number = (start, c ∷ s) }) (record d { number = (start, c ∷ (s ++ b ∷ [])) }) (record d { number = (start, c ∷ (s ++ b ∷ more)) }) at b Nonzero more e refl refl rest
    ]

-- where a number leads: white space and a star may come
abbrev pub IsBeforeStar : Stage → Type 0
IsBeforeStar p = (next_stage p Space ≡ Some AfterNumber) × (next_stage p Star ≡ Some AfterStar)

pub number_leads : (d : Noted) (at : ℕ) (s : List ℕ) → d.number ≡ (0, []) → is_number s ≡ true → (q : Stage) × IsBeforeStar q × Leads Start d at s q (record d { number = (at, s) })
number_leads d at [] none is = absurd (no is)
  where
    no : false ≡ true → ⊥
    no h = cc
number_leads d at (b ∷ s) none is = go (nat_eq b 48) refl
  where
    outer : (is_digit b ≡ true) × ((list_all is_digit s && (not (nat_eq b 48) || nat_lt (length s) 1)) ≡ true)
    outer = and_parts (is_digit b) (list_all is_digit s && (not (nat_eq b 48) || nat_lt (length s) 1)) is

    inner : (list_all is_digit s ≡ true) × ((not (nat_eq b 48) || nat_lt (length s) 1) ≡ true)
    inner = and_parts (list_all is_digit s) (not (nat_eq b 48) || nat_lt (length s) 1) outer.1

    zero_alone : nat_eq b 48 ≡ true → (t : List ℕ) → nat_lt (length t) 1 ≡ true → t ≡ []
    zero_alone e [] h = refl
    zero_alone e (x ∷ t) h = absurd (grind (arith, nat_tests))

    go : (t : Bool) → nat_eq b 48 ≡ t → (q : Stage) × IsBeforeStar q × Leads Start d at (b ∷ s) q (record d { number = (at, b ∷ s) })
    go true e =
        let alone : s ≡ [] = zero_alone e s (rw e at inner.1) in
        let zero_is : class_of b ≡ Zero = rw (eqb-true b 48 e) refl in
        (AfterZero, (refl, refl), rw alone (leads_byte Start AfterZero d (record d { number = (at, b ∷ []) }) at b Zero zero_is refl (rw none refl)))
    go false e = (
      InNumber,
      (refl, refl),
      leads_first Start InNumber InNumber d (record d { number = (at, b ∷ []) }) (record d { number = (at, b ∷ s) }) at b Nonzero s
          (other (digit_class b outer.0)) refl (rw none refl) (digits_lead d at b [] (at + 1) s inner.0),
    )
      where
        other : (class_of b ≡ Zero) ⊎ (class_of b ≡ Nonzero) → class_of b ≡ Nonzero
        other (inr h) = h
        other (inl h) = absurd (not_zero ((is_of b).zero h))
          where
            not_zero : b ≡ 48 → ⊥
            not_zero h = grind (arith, nat_tests)

pub given_some : (s : List ℕ) (at : ℕ) → is_number s ≡ true → given s at ≡ Some (at, s)
given_some [] at is = cc
given_some (c ∷ s) at is = refl
