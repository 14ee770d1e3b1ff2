-- What is read to its end is spelled.
use Rattle.std.proofs.Common.{◌≡◌, ℕ, ◌+◌, ◌≤◌, true, false, nat_eq, inl, inr, List, [], ◌∷◌, ◌++◌, Option, Some, None, length, refl, arith, ap, sym, subst}
use Rattle.std.proofs.lemmas.Bool.Decides.{nat_tests}
use Rattle.std.specs.List.{list_all}
use Rattle.wi_text.specs.Characters.{is_space, is_digit, is_letter, is_number, begins_with}
use Rattle.wi_text.specs.private.Machines.{at_end, goes_on}
use Rattle.wi_text.specs.Spelling.{Spells}
use Rattle.wi_quantity.specs.declared.written.Class.{Class}
use Rattle.wi_quantity.specs.declared.written.Class.TheVariants as class
use Rattle.wi_quantity.specs.declared.written.Stage.{Stage}
use Rattle.wi_quantity.specs.declared.written.Stage.TheVariants.{Start, AfterZero, InNumber, AfterNumber, AfterStar, InWord, AfterWord}
use Rattle.wi_quantity.specs.Written.{Token, Word, Number, Star, Plus, Comma, spelling, IsToken, WrittenPart, WrittenTerm, part_tokens, more_parts, more_terms, IsWeightsText}
use Rattle.wi_quantity.specs.private.Syntax.{class_of, next_stage, may_end, stop}
use Rattle.wi_quantity.proofs.Classes.{is_of, not_digit, not_letter, nonzero_digit}

abbrev Spelled : ℕ → List Token → List ℕ → Type 0
Spelled at ts text = Spells spelling IsToken at ts text

-- white space may stand before what is spelled
spaced : (b at : ℕ) (ts : List Token) (text : List ℕ) → is_space b ≡ true → Spelled (at + 1) ts text → Spelled at ts (b ∷ text)
spaced b at [] text e all = rw e all
spaced b at (t ∷ ts) text e (space, rest, all, is, token, more) =
    let place : at + 1 + length space ≡ at + length (b ∷ space) = omega arith in
    let P : ℕ → Type 0 = λ k. IsToken k t rest in
    let Q : ℕ → Type 0 = λ k. Spelled (k + length (spelling t)) ts rest in
    (b ∷ space, rest, rw e all, ap (λ s. b ∷ s) is, subst P place token, subst Q place more)

-- a token stands at the front
front : (at : ℕ) (t : Token) (ts : List Token) (rest : List ℕ) → IsToken at t rest → Spelled (at + length (spelling t)) ts rest → Spelled at (t ∷ ts) (spelling t ++ rest)
front at t ts rest token more =
    let place : at ≡ at + 0 = omega arith in
    let P : ℕ → Type 0 = λ k. IsToken k t rest in
    let Q : ℕ → Type 0 = λ k. Spelled (k + length (spelling t)) ts rest in
    ([], rest, refl, refl, subst P place token, subst Q place more)

-- what may come after each place
abbrev Rest : ℕ → List ℕ → Type 0
Rest at text = (ps : List WrittenPart) × (ts : List WrittenTerm) × Spelled at (more_parts ps (more_terms ts)) text

abbrev Name : ℕ → List ℕ → Type 0
Name at text = (n : ℕ) × (s : List ℕ) × (ps : List WrittenPart) × (ts : List WrittenTerm) × Spelled at (Word n s ∷ more_parts ps (more_terms ts)) text

abbrev Factor : ℕ → List ℕ → Type 0
Factor at text = (n : ℕ) × (s : List ℕ) × (ps : List WrittenPart) × (ts : List WrittenTerm) × Spelled at (Star ∷ Word n s ∷ more_parts ps (more_terms ts)) text

abbrev Letters : ℕ → List ℕ → Type 0
Letters at text = (s : List ℕ) × (rest : List ℕ) × (list_all is_letter s ≡ true) × (text ≡ s ++ rest) × (begins_with is_letter rest ≡ false) × Rest (at + length s) rest

abbrev Digits : ℕ → List ℕ → Type 0
Digits at text = (s : List ℕ) × (rest : List ℕ) × (list_all is_digit s ≡ true) × (text ≡ s ++ rest) × (begins_with is_digit rest ≡ false) × Factor (at + length s) rest

abbrev After : Stage → ℕ → List ℕ → Type 0
After Start at text = (part : WrittenPart) × (ps : List WrittenPart) × (ts : List WrittenTerm) × Spelled at (part_tokens part (more_parts ps (more_terms ts))) text
After AfterZero at text = (begins_with is_digit text ≡ false) × Factor at text
After InNumber at text = Digits at text
After AfterNumber at text = Factor at text
After AfterStar at text = Name at text
After InWord at text = Letters at text
After AfterWord at text = Rest at text

rest_spaced : (b at : ℕ) (text : List ℕ) → is_space b ≡ true → Rest (at + 1) text → Rest at (b ∷ text)
rest_spaced b at text e (ps, ts, spelled) = (ps, ts, spaced b at (more_parts ps (more_terms ts)) text e spelled)

factor_spaced : (b at : ℕ) (text : List ℕ) → is_space b ≡ true → Factor (at + 1) text → Factor at (b ∷ text)
factor_spaced b at text e (n, s, ps, ts, spelled) = (n, s, ps, ts, spaced b at (Star ∷ Word n s ∷ more_parts ps (more_terms ts)) text e spelled)

name_spaced : (b at : ℕ) (text : List ℕ) → is_space b ≡ true → Name (at + 1) text → Name at (b ∷ text)
name_spaced b at text e (n, s, ps, ts, spelled) = (n, s, ps, ts, spaced b at (Word n s ∷ more_parts ps (more_terms ts)) text e spelled)

-- a star before a name
factor_star : (b at : ℕ) (text : List ℕ) → b ≡ 42 → Name (at + 1) text → Factor at (b ∷ text)
factor_star b at text e (n, s, ps, ts, spelled) =
    let P : ℕ → Type 0 = λ x. Factor at (x ∷ text) in
    subst P (sym e) (n, s, ps, ts, front at Star (Word n s ∷ more_parts ps (more_terms ts)) text tt spelled)

-- a mark before a part
rest_plus : (b at : ℕ) (text : List ℕ) → b ≡ 43 → After Start (at + 1) text → Rest at (b ∷ text)
rest_plus b at text e (part, ps, ts, spelled) =
    let P : ℕ → Type 0 = λ x. Rest at (x ∷ text) in
    subst P (sym e) (part ∷ ps, ts, front at Plus (part_tokens part (more_parts ps (more_terms ts))) text tt spelled)

rest_comma : (b at : ℕ) (text : List ℕ) → b ≡ 44 → After Start (at + 1) text → Rest at (b ∷ text)
rest_comma b at text e (part, ps, ts, spelled) =
    let P : ℕ → Type 0 = λ x. Rest at (x ∷ text) in
    subst P (sym e) ([], record { first = part; more = ps } ∷ ts, front at Comma (part_tokens part (more_parts ps (more_terms ts))) text tt spelled)

-- a letter before letters
name_letters : (b at : ℕ) (text : List ℕ) → is_letter b ≡ true → Letters (at + 1) text → Name at (b ∷ text)
name_letters b at text e (s, rest, all, is, apart, (ps, ts, spelled)) =
    let P : List ℕ → Type 0 = λ t. Name at (b ∷ t) in
    let place : at + 1 + length s ≡ at + length (b ∷ s) = omega arith in
    let Q : ℕ → Type 0 = λ k. Spelled k (more_parts ps (more_terms ts)) rest in
    subst P (sym is) (at, b ∷ s, ps, ts, front at (Word at (b ∷ s)) (more_parts ps (more_terms ts)) rest (refl, (λ h. cc), rw e all, apart) (subst Q place spelled))

start_name : (at : ℕ) (text : List ℕ) → Name at text → After Start at text
start_name at text (n, s, ps, ts, spelled) = (record { number = None; word = (n, s) }, ps, ts, spelled)

-- a number before a star and a name
number_start : (at : ℕ) (s rest : List ℕ) → is_number s ≡ true → begins_with is_digit rest ≡ false → Factor (at + length s) rest → After Start at (s ++ rest)
number_start at s rest is apart (n, w, ps, ts, spelled) =
    (record { number = Some (at, s); word = (n, w) }, ps, ts, front at (Number at s) (Star ∷ Word n w ∷ more_parts ps (more_terms ts)) rest (refl, is, apart) spelled)

zero_start : (b at : ℕ) (text : List ℕ) → b ≡ 48 → After AfterZero (at + 1) text → After Start at (b ∷ text)
zero_start b at text e (apart, factor) =
    let P : ℕ → Type 0 = λ x. After Start at (x ∷ text) in
    subst P (sym e) (number_start at (48 ∷ []) text refl apart factor)

digits_start : (b at : ℕ) (text : List ℕ) → 49 ≤ b → b ≤ 57 → Digits (at + 1) text → After Start at (b ∷ text)
digits_start b at text low high (s, rest, all, is, apart, factor) =
    let P : List ℕ → Type 0 = λ t. After Start at (b ∷ t) in
    let place : at + 1 + length s ≡ at + length (b ∷ s) = omega arith in
    let Q : ℕ → Type 0 = λ k. Factor k rest in
    let digit : is_digit b ≡ true = nonzero_digit b (omega arith) high in
    let other : nat_eq b 48 ≡ false = grind (arith, nat_tests) in
    subst P (sym is) (number_start at (b ∷ s) rest (rw (digit, all, other) refl) apart (subst Q place factor))

more_digits : (b at : ℕ) (text : List ℕ) → is_digit b ≡ true → Digits (at + 1) text → Digits at (b ∷ text)
more_digits b at text e (s, rest, all, is, apart, factor) =
    let place : at + 1 + length s ≡ at + length (b ∷ s) = omega arith in
    let Q : ℕ → Type 0 = λ k. Factor k rest in
    (b ∷ s, rest, rw e all, ap (λ t. b ∷ t) is, apart, subst Q place factor)

more_letters : (b at : ℕ) (text : List ℕ) → is_letter b ≡ true → Letters (at + 1) text → Letters at (b ∷ text)
more_letters b at text e (s, rest, all, is, apart, more) =
    let place : at + 1 + length s ≡ at + length (b ∷ s) = omega arith in
    let Q : ℕ → Type 0 = λ k. Rest k rest in
    (b ∷ s, rest, rw e all, ap (λ t. b ∷ t) is, apart, subst Q place more)

no_digits : (at : ℕ) (text : List ℕ) → begins_with is_digit text ≡ false → Factor at text → Digits at text
no_digits at text apart factor =
    let place : at ≡ at + 0 = omega arith in
    let Q : ℕ → Type 0 = λ k. Factor k text in ([], text, refl, refl, apart, subst Q place factor)

no_letters : (at : ℕ) (text : List ℕ) → begins_with is_letter text ≡ false → Rest at text → Letters at text
no_letters at text apart more =
    let place : at ≡ at + 0 = omega arith in
    let Q : ℕ → Type 0 = λ k. Rest k text in ([], text, refl, refl, apart, subst Q place more)

abbrev Next : Option Stage → ℕ → List ℕ → Type 0
Next None at text = ⊥
Next (Some p) at text = After p at text

-- a byte before what may come after it
comes : (p : Stage) (c : Class) (b at : ℕ) (text : List ℕ) → class_of b ≡ c → Next (next_stage p c) (at + 1) text → After p at (b ∷ text)
comes Start class.Space b at text e (part, ps, ts, spelled) = (part, ps, ts, spaced b at (part_tokens part (more_parts ps (more_terms ts))) text ((is_of b).space e) spelled)
comes Start class.Zero b at text e h = zero_start b at text ((is_of b).zero e) h
comes Start class.Nonzero b at text e h = digits_start b at text ((is_of b).nonzero e).0 ((is_of b).nonzero e).1 h
comes Start class.Letter b at text e h = start_name at (b ∷ text) (name_letters b at text ((is_of b).letter e) h)
comes Start class.Star b at text e h = absurd h
comes Start class.Plus b at text e h = absurd h
comes Start class.Comma b at text e h = absurd h
comes Start class.Other b at text e h = absurd h
comes AfterZero class.Space b at text e h = (not_digit b (inl e), factor_spaced b at text ((is_of b).space e) h)
comes AfterZero class.Star b at text e h = (not_digit b (inr e), factor_star b at text ((is_of b).star e) h)
comes AfterZero class.Zero b at text e h = absurd h
comes AfterZero class.Nonzero b at text e h = absurd h
comes AfterZero class.Letter b at text e h = absurd h
comes AfterZero class.Plus b at text e h = absurd h
comes AfterZero class.Comma b at text e h = absurd h
comes AfterZero class.Other b at text e h = absurd h
comes InNumber class.Zero b at text e h = more_digits b at text (let is = (is_of b).zero e in rw is refl) h
comes InNumber class.Nonzero b at text e h = more_digits b at text (let low = ((is_of b).nonzero e).0 in nonzero_digit b (omega (arith, low)) ((is_of b).nonzero e).1) h
comes InNumber class.Space b at text e h = no_digits at (b ∷ text) (not_digit b (inl e)) (factor_spaced b at text ((is_of b).space e) h)
comes InNumber class.Star b at text e h = no_digits at (b ∷ text) (not_digit b (inr e)) (factor_star b at text ((is_of b).star e) h)
comes InNumber class.Letter b at text e h = absurd h
comes InNumber class.Plus b at text e h = absurd h
comes InNumber class.Comma b at text e h = absurd h
comes InNumber class.Other b at text e h = absurd h
comes AfterNumber class.Space b at text e h = factor_spaced b at text ((is_of b).space e) h
comes AfterNumber class.Star b at text e h = factor_star b at text ((is_of b).star e) h
comes AfterNumber class.Zero b at text e h = absurd h
comes AfterNumber class.Nonzero b at text e h = absurd h
comes AfterNumber class.Letter b at text e h = absurd h
comes AfterNumber class.Plus b at text e h = absurd h
comes AfterNumber class.Comma b at text e h = absurd h
comes AfterNumber class.Other b at text e h = absurd h
comes AfterStar class.Space b at text e h = name_spaced b at text ((is_of b).space e) h
comes AfterStar class.Letter b at text e h = name_letters b at text ((is_of b).letter e) h
comes AfterStar class.Zero b at text e h = absurd h
comes AfterStar class.Nonzero b at text e h = absurd h
comes AfterStar class.Star b at text e h = absurd h
comes AfterStar class.Plus b at text e h = absurd h
comes AfterStar class.Comma b at text e h = absurd h
comes AfterStar class.Other b at text e h = absurd h
comes InWord class.Letter b at text e h = more_letters b at text ((is_of b).letter e) h
comes InWord class.Space b at text e h = no_letters at (b ∷ text) (not_letter b ((is_of b).space e)) (rest_spaced b at text ((is_of b).space e) h)
comes InWord class.Plus b at text e h = no_letters at (b ∷ text) (let is = (is_of b).plus e in rw is refl) (rest_plus b at text ((is_of b).plus e) h)
comes InWord class.Comma b at text e h = no_letters at (b ∷ text) (let is = (is_of b).comma e in rw is refl) (rest_comma b at text ((is_of b).comma e) h)
comes InWord class.Zero b at text e h = absurd h
comes InWord class.Nonzero b at text e h = absurd h
comes InWord class.Star b at text e h = absurd h
comes InWord class.Other b at text e h = absurd h
comes AfterWord class.Space b at text e h = rest_spaced b at text ((is_of b).space e) h
comes AfterWord class.Plus b at text e h = rest_plus b at text ((is_of b).plus e) h
comes AfterWord class.Comma b at text e h = rest_comma b at text ((is_of b).comma e) h
comes AfterWord class.Letter b at text e h = absurd h
comes AfterWord class.Zero b at text e h = absurd h
comes AfterWord class.Nonzero b at text e h = absurd h
comes AfterWord class.Star b at text e h = absurd h
comes AfterWord class.Other b at text e h = absurd h

ended : (p : Stage) (at : ℕ) → at_end (may_end p) at ≡ None → After p at []
ended InWord at h = no_letters at [] refl ([], [], refl)
ended AfterWord at h = ([], [], refl)
ended Start at h = cc
ended AfterZero at h = cc
ended InNumber at h = cc
ended AfterNumber at h = cc
ended AfterStar at h = cc

on : (o : Option Stage) (at : ℕ) (text : List ℕ) → ((p : Stage) → stop p (at + 1) text ≡ None → After p (at + 1) text) → goes_on o at (λ p. stop p (at + 1) text) ≡ None → Next o (at + 1) text
on None at text rest h = cc
on (Some p) at text rest h = rest p h

pub spelled_all : (p : Stage) (at : ℕ) (text : List ℕ) → stop p at text ≡ None → After p at text
spelled_all p at [] h = ended p at h
spelled_all p at (b ∷ text) h = comes p (class_of b) b at text refl (on (next_stage p (class_of b)) at text (λ q g. spelled_all q (at + 1) text g) h)

pub text_spelled : (text : List ℕ) → stop Start 0 text ≡ None → IsWeightsText text
text_spelled text h = from (spelled_all Start 0 text h)
  where
    from : After Start 0 text → IsWeightsText text
    from (part, ps, ts, spelled) = (record { first = record { first = part; more = ps }; more = ts }, spelled)
