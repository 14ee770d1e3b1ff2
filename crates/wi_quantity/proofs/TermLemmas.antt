-- From the terms that were read to the text.
use Rattle.std.proofs.Common.{◌≡◌, ℕ, Bool, true, false, cond, nat_lt, List, [], ◌∷◌, ◌++◌, Option, Some, None, Result, Ok, Err, IfOk, IfErr, length, map, filter_map, refl, arith, ap, sym, ◌∙◌, is_none}
use Rattle.std.proofs.lemmas.Bool.{and_from}
use Rattle.std.specs.List.{find, flat_map, list_all}
use Rattle.std.specs.Option.{option_map, option_map_or}
use Rattle.wi_text.specs.Characters.{is_number}
use Rattle.wi_text.specs.Spelling.{Spells}
use Rattle.wi_quantity.specs.declared.vector.Part.{Part}
use Rattle.wi_quantity.specs.declared.fault.WeightFault.{WeightFault}
use Rattle.wi_quantity.specs.declared.fault.WeightFault.TheVariants.{Syntax, UnknownQuantity, TooManyTerms, Coefficient, Memory}
use Rattle.wi_quantity.specs.Written.{Token, Word, Number, Star, Plus, Comma, spelling, IsToken, WrittenPart, WrittenTerm, Written, number_tokens, part_tokens, more_parts, more_terms, parts_of, terms_of}
use Rattle.wi_quantity.specs.Faults.{Means, IsFault, unknown_word, too_many, too_large, part_meant, quantity_named}
use Rattle.wi_quantity.specs.private.Meaning.{has_number, have_numbers, unknown_among, many_among, is_large, large_among, AreMeant, IsFaultOf}
use Rattle.wi_quantity.specs.declared.written.Stage.TheVariants.{Start}
use Rattle.wi_quantity.specs.private.Syntax.{stop}
use Rattle.wi_quantity.specs.private.Noting.{nothing, end_term, note_all}
use Rattle.wi_quantity.proofs.Stopping.{IsNoted, noted_is}

flat_map_map : {X Y Z : Type 0} (f : X → Y) (g : Y → List Z) (xs : List X) → flat_map g (map f xs) ≡ flat_map (λ x. g (f x)) xs
flat_map_map f g [] = refl
flat_map_map f g (x ∷ xs) = ap (λ t. g (f x) ++ t) (flat_map_map f g xs)

map_map : {X Y Z : Type 0} (f : X → Y) (g : Y → Z) (xs : List X) → map g (map f xs) ≡ map (λ x. g (f x)) xs
map_map f g [] = refl
map_map f g (x ∷ xs) = ap (λ t. g (f x) ∷ t) (map_map f g xs)

length_map : {X Y : Type 0} (f : X → Y) (xs : List X) → length (map f xs) ≡ length xs
length_map f [] = refl
length_map f (x ∷ xs) = let ih = length_map f xs in omega (arith, ih)

find_map : {X Y : Type 0} (f : X → Y) (p : Y → Bool) (xs : List X) → find p (map f xs) ≡ option_map f (find (λ x. p (f x)) xs)
find_map f p [] = refl
find_map f p (x ∷ xs) = by (p (f x)) refl (find_map f p xs)
  where
    by : (b : Bool) → p (f x) ≡ b → find p (map f xs) ≡ option_map f (find (λ x. p (f x)) xs) → cond b (Some (f x)) (find p (map f xs)) ≡ option_map f (cond b (Some x) (find (λ x. p (f x)) xs))
    by true e ih = refl
    by false e ih = ih

option_map_map : {X Y Z : Type 0} (f : X → Y) (g : Y → Z) (o : Option X) → option_map g (option_map f o) ≡ option_map (λ x. g (f x)) o
option_map_map f g None = refl
option_map_map f g (Some x) = refl

unknown_same : (w : Written) → unknown_among (map parts_of (terms_of w)) ≡ unknown_word w
unknown_same w = ap (find (λ (word : ℕ × List ℕ). is_none (quantity_named word.1))) (flat_map_map parts_of (λ parts. map (λ (part : WrittenPart). part.word) parts) (terms_of w))

large_same : (w : Written) → large_among (map parts_of (terms_of w)) ≡ too_large w
large_same w = ap (λ t. option_map (λ (n : ℕ × List ℕ). n.0) (find is_large t)) (flat_map_map parts_of (λ parts. filter_map (λ (part : WrittenPart). part.number) parts) (terms_of w))

many_same : (w : Written) → many_among (map parts_of (terms_of w)) ≡ too_many w
many_same w =
    rw (
      length_map parts_of (terms_of w),
      find_map parts_of (λ parts. nat_lt 5 (length parts)) (terms_of w),
      option_map_map parts_of (λ (parts : List WrittenPart). length parts) (find (λ term. nat_lt 5 (length (parts_of term))) (terms_of w)),
    ) refl

pub means_from : (text : List ℕ) (terms : List (List WrittenPart)) (vector : List (List Part)) → IsNoted text terms → AreMeant terms vector → Means text vector
means_from text terms vector noted meant = record {
  written = noted.written;
  reads = noted.reads;
  known = sym (unknown_same noted.written) ∙ ap unknown_among (sym noted.terms_are) ∙ meant.known;
  few = sym (many_same noted.written) ∙ ap many_among (sym noted.terms_are) ∙ meant.few;
  small = sym (large_same noted.written) ∙ ap large_among (sym noted.terms_are) ∙ meant.small;
  terms = sym (map_map parts_of (map part_meant) (terms_of noted.written)) ∙ ap (map (map part_meant)) (sym noted.terms_are) ∙ meant.meant;
}

pub fault_from : (text : List ℕ) (terms : List (List WrittenPart)) (fault : WeightFault) → IsNoted text terms → IsFaultOf terms fault → IsFault text fault
fault_from text terms (Syntax k) noted is = absurd is
fault_from text terms (UnknownQuantity at word) noted is = (noted.written, noted.reads, sym (unknown_same noted.written) ∙ ap unknown_among (sym noted.terms_are) ∙ is)
fault_from text terms (TooManyTerms n) noted is = (
  noted.written,
  record { reads = noted.reads; known = sym (unknown_same noted.written) ∙ ap unknown_among (sym noted.terms_are) ∙ is.0 },
  sym (many_same noted.written) ∙ ap many_among (sym noted.terms_are) ∙ is.1,
)
fault_from text terms (Coefficient at) noted is = (
  noted.written,
  record { reads = noted.reads; known = sym (unknown_same noted.written) ∙ ap unknown_among (sym noted.terms_are) ∙ is.0 },
  sym (many_same noted.written) ∙ ap many_among (sym noted.terms_are) ∙ is.1,
  sym (large_same noted.written) ∙ ap large_among (sym noted.terms_are) ∙ is.2,
)
fault_from text terms Memory noted is = tt

-- numbers that are spelled are numbers
abbrev Spelled : ℕ → List Token → List ℕ → Type 0
Spelled at ts text = Spells spelling IsToken at ts text

-- some tokens are spelled somewhere
record Somewhere (ts : List Token) : Type 0 where
  pub at : ℕ
  pub text : List ℕ
  pub spelled : Spelled at ts text

past : (t : Token) (ts : List Token) → Somewhere (t ∷ ts) → Somewhere ts
past t ts s = record { at = _; text = _; spelled = s.spelled.5 }

past_number : (n : Option (ℕ × List ℕ)) (ts : List Token) → Somewhere (number_tokens n ts) → (option_map_or (λ m. is_number m.1) n true ≡ true) × Somewhere ts
past_number None ts s = (refl, s)
past_number (Some m) ts s = (s.spelled.4.1, past Star ts (past (Number m.0 m.1) (Star ∷ ts) s))

past_part : (part : WrittenPart) (ts : List Token) → Somewhere (part_tokens part ts) → (has_number part ≡ true) × Somewhere ts
past_part part ts s =
    let n = past_number part.number (Word part.word.0 part.word.1 ∷ ts) s in
    (n.0, past (Word part.word.0 part.word.1) ts n.1)

past_parts : (ps : List WrittenPart) (ts : List Token) → Somewhere (more_parts ps ts) → (list_all has_number ps ≡ true) × Somewhere ts
past_parts [] ts s = (refl, s)
past_parts (p ∷ ps) ts s =
    let first = past_part p (more_parts ps ts) (past Plus (part_tokens p (more_parts ps ts)) s) in
    let rest = past_parts ps ts first.1 in
    (and_from (has_number p) (list_all has_number ps) first.0 rest.0, rest.1)

past_term : (t : WrittenTerm) (ts : List Token) → Somewhere (part_tokens t.first (more_parts t.more ts)) → (list_all has_number (parts_of t) ≡ true) × Somewhere ts
past_term t ts s =
    let first = past_part t.first (more_parts t.more ts) s in
    let rest = past_parts t.more ts first.1 in
    (and_from (has_number t.first) (list_all has_number t.more) first.0 rest.0, rest.1)

past_terms : (terms : List WrittenTerm) → Somewhere (more_terms terms) → have_numbers (map parts_of terms) ≡ true
past_terms [] s = refl
past_terms (t ∷ terms) s =
    let first = past_term t (more_terms terms) (past Comma (part_tokens t.first (more_parts t.more (more_terms terms))) s) in
    and_from (list_all has_number (parts_of t)) (have_numbers (map parts_of terms)) first.0 (past_terms terms first.1)

pub numbers_from : (text : List ℕ) (terms : List (List WrittenPart)) → IsNoted text terms → have_numbers terms ≡ true
numbers_from text terms noted =
    let first = past_term noted.written.first (more_terms noted.written.more) (record { at = 0; text = text; spelled = noted.reads }) in
    rw noted.terms_are (and_from (list_all has_number (parts_of noted.written.first)) (have_numbers (map parts_of noted.written.more)) first.0 (past_terms noted.written.more first.1))

pub means_if : {E : Type 0} (text : List ℕ) (terms : List (List WrittenPart)) (r : Result (List (List Part)) E) → IsNoted text terms → IfOk r (λ vector. AreMeant terms vector) → IfOk r (λ vector. Means text vector)
means_if text terms (Ok vector) noted h = means_from text terms vector noted h
means_if text terms (Err e) noted h = tt

pub fault_if : {V : Type 0} (text : List ℕ) (terms : List (List WrittenPart)) (r : Result V WeightFault) → IsNoted text terms → IfErr r (λ fault. IsFaultOf terms fault) → IfErr r (λ fault. IsFault text fault)
fault_if text terms (Ok v) noted h = tt
fault_if text terms (Err fault) noted h = fault_from text terms fault noted h

-- what was read of a text
pub noted_from : (text bytes bytes' : List ℕ) (items terms : List (List WrittenPart)) → bytes ≡ text → bytes' ≡ text → None ≡ stop Start 0 bytes → items ≡ (end_term (note_all nothing 0 bytes')).terms → terms ≡ items → IsNoted text terms
noted_from text bytes bytes' items terms eb eb' none noted is =
    noted_is text terms (ap (stop Start 0) (sym eb) ∙ sym none) (is ∙ noted ∙ ap (λ t. (end_term (note_all nothing 0 t)).terms) eb')
