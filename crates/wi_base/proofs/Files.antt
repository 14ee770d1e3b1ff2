-- Files by name in a list: where a look-up finds one, and what putting one leaves.
use Rattle.std.specs.Prelude.{◌≡◌, ◌≢◌, ℕ, zero, suc, ◌<◌, Bool, true, false, List, [], ◌∷◌, ◌++◌, Some, None, length, refl, nat_lt, string_bytes}
use Rattle.std.specs.List.{position, position_or_len}
use Rattle.std.specs.Str.{bytes_eq}
use Rattle.std.proofs.Common.{sym, ap, ◌∙◌, arith, get_or, set}
use Rattle.std.proofs.lemmas.Bool.Decides.{nat_tests}
use Rattle.std.proofs.lemmas.List.Quantifiers.{position-Some}
use Rattle.std.proofs.lemmas.List.Sums.{fails_before_first}
use Rattle.std.proofs.lemmas.Slice.Eq.{bytes_eq-Decides}
use Rattle.wi_base.proofs.Cases.{by_test, nothing}
use Rattle.wi_base.specs.declared.memory_shelf.NamedFile.{NamedFile}
use Rattle.wi_base.specs.MemoryShelf.{file_in, with_file}
use Rattle.wi_base.specs.private.MemoryShelf.{file_of, files_of}

-- the file has that name
abbrev pub is_named : List ℕ → NamedFile → Bool
is_named name file = bytes_eq name (string_bytes file.name)

-- the first file of that name is in this place
record IsFirst (name : List ℕ) (files : List NamedFile) (i : ℕ) (d : NamedFile) : Type 0 where
  within : i < length files
  here : is_named name (get_or files i d) ≡ true
  before : (k : ℕ) → k < i → is_named name (get_or files k d) ≡ false

first_place : (name : List ℕ) (files : List NamedFile) (i : ℕ) (d : NamedFile) → position (is_named name) files ≡ Some i → IsFirst name files i d
first_place name files i d h =
    let facts = position-Some (is_named name) files i d h in
    record { within = facts.0; here = facts.1; before = facts.2 }

later : (name : List ℕ) (file : NamedFile) (files : List NamedFile) (i : ℕ) (d : NamedFile) → IsFirst name (file ∷ files) (suc i) d → IsFirst name files i d
later name file files i d h = record { within = omega (arith, h.within); here = h.here; before = λ k lt. h.before (suc k) (omega arith) }

not_first : (name : List ℕ) (file : NamedFile) (files : List NamedFile) (i : ℕ) (d : NamedFile) → IsFirst name (file ∷ files) (suc i) d → is_named name file ≡ false
not_first name file files i d h = h.before zero (omega arith)

-- the bytes under a name are those of its first file
file_in_first : (name : List ℕ) (files : List NamedFile) (i : ℕ) (d : NamedFile) → IsFirst name files i d → file_in (files_of files) name ≡ Some ((get_or files i d).bytes.items)
file_in_first name [] i d h = absurd (omega (arith, h.within))
file_in_first name (file ∷ files) zero d h = let e : is_named name file ≡ true = h.here in rw e refl
file_in_first name (file ∷ files) (suc i) d h =
    let e : is_named name file ≡ false = not_first name file files i d h in
    rw e (file_in_first name files i d (later name file files i d h))

pub file_in_place : (name : List ℕ) (files : List NamedFile) (i : ℕ) (d : NamedFile) → position (is_named name) files ≡ Some i → file_in (files_of files) name ≡ Some ((get_or files i d).bytes.items)
file_in_place name files i d h = file_in_first name files i d (first_place name files i d h)

-- other bytes in the place of the first file are that file put
with_file_first : (name bytes : List ℕ) (files : List NamedFile) (i : ℕ) (d next : NamedFile) → IsFirst name files i d → file_of next ≡ (string_bytes (get_or files i d).name, bytes) → files_of (set files i next) ≡ with_file (files_of files) name bytes
with_file_first name bytes [] i d next h is = absurd (omega (arith, h.within))
with_file_first name bytes (file ∷ files) zero d next h is =
    let e : is_named name file ≡ true = h.here in
    rw e (ap (λ x. x ∷ files_of files) is)
with_file_first name bytes (file ∷ files) (suc i) d next h is =
    let e : is_named name file ≡ false = not_first name file files i d h in
    rw e (ap (λ xs. file_of file ∷ xs) (with_file_first name bytes files i d next (later name file files i d h) is))

pub with_file_place : (name bytes : List ℕ) (files : List NamedFile) (i : ℕ) (d next : NamedFile) → position (is_named name) files ≡ Some i → file_of next ≡ (string_bytes (get_or files i d).name, bytes) → files_of (set files i next) ≡ with_file (files_of files) name bytes
with_file_place name bytes files i d next h is = with_file_first name bytes files i d next (first_place name files i d h) is

-- no file has that name
record NoneNamed (name : List ℕ) (files : List NamedFile) : Type 0 where
  none : (k : ℕ) (d : NamedFile) → k < length files → is_named name (get_or files k d) ≡ false

no_place : (name : List ℕ) (files : List NamedFile) → position (is_named name) files ≡ None → NoneNamed name files
no_place name files h = by_test (nat_lt (position_or_len (is_named name) files) (length files))
    (λ (e : nat_lt (position_or_len (is_named name) files) (length files) ≡ true). nothing (position_or_len (is_named name) files) (sym (rw e at h)))
    (λ (e : nat_lt (position_or_len (is_named name) files) (length files) ≡ false). record { none = λ k d lt. fails_before_first (is_named name) files k d (grind (arith, nat_tests)) })

fewer_none : (name : List ℕ) (file : NamedFile) (files : List NamedFile) → NoneNamed name (file ∷ files) → NoneNamed name files
fewer_none name file files h = record { none = λ k d lt. h.none (suc k) d (omega arith) }

file_in_none : (name : List ℕ) (files : List NamedFile) → NoneNamed name files → file_in (files_of files) name ≡ None
file_in_none name [] h = refl
file_in_none name (file ∷ files) h =
    let e : is_named name file ≡ false = h.none zero file (omega arith) in
    rw e (file_in_none name files (fewer_none name file files h))

pub file_in_no_place : (name : List ℕ) (files : List NamedFile) → position (is_named name) files ≡ None → file_in (files_of files) name ≡ None
file_in_no_place name files h = file_in_none name files (no_place name files h)

-- a file after all others, where none has its name, is that file put
with_file_none : (name bytes : List ℕ) (files : List NamedFile) (next : NamedFile) → NoneNamed name files → file_of next ≡ (name, bytes) → files_of (files ++ next ∷ []) ≡ with_file (files_of files) name bytes
with_file_none name bytes [] next h is = ap (λ x. x ∷ []) is
with_file_none name bytes (file ∷ files) next h is =
    let e : is_named name file ≡ false = h.none zero file (omega arith) in
    rw e (ap (λ xs. file_of file ∷ xs) (with_file_none name bytes files next (fewer_none name file files h) is))

pub with_file_pushed : (name bytes : List ℕ) (files after : List NamedFile) (next : NamedFile) → after ≡ files ++ next ∷ [] → position (is_named name) files ≡ None → file_of next ≡ (name, bytes) → files_of after ≡ with_file (files_of files) name bytes
with_file_pushed name bytes files after next pushed h is = ap files_of pushed ∙ with_file_none name bytes files next (no_place name files h) is

-- a file that was put is there
pub file_in-with_file : (files : List (List ℕ × List ℕ)) (name bytes : List ℕ) → file_in (with_file files name bytes) name ≡ Some bytes
file_in-with_file [] name bytes = let e : bytes_eq name name ≡ true = (bytes_eq-Decides name name).1 refl in rw e refl
file_in-with_file (file ∷ files) name bytes = by_test (bytes_eq name file.0)
    (λ (e : bytes_eq name file.0 ≡ true). rw (e, e) refl)
    (λ (e : bytes_eq name file.0 ≡ false). rw (e, e) (file_in-with_file files name bytes))

-- files of other names stand
pub file_in-with_file_other : (files : List (List ℕ × List ℕ)) (name bytes other : List ℕ) → other ≢ name → file_in (with_file files name bytes) other ≡ file_in files other
file_in-with_file_other [] name bytes other h = by_test (bytes_eq other name)
    (λ (e : bytes_eq other name ≡ true). absurd (h ((bytes_eq-Decides other name).0 e)))
    (λ (e : bytes_eq other name ≡ false). rw e refl)
file_in-with_file_other (file ∷ files) name bytes other h = by_test (bytes_eq name file.0)
    (λ (e : bytes_eq name file.0 ≡ true).
    let same : name ≡ file.0 = (bytes_eq-Decides name file.0).0 e in
    by_test (bytes_eq other file.0)
    (λ (o : bytes_eq other file.0 ≡ true). absurd (h ((bytes_eq-Decides other file.0).0 o ∙ sym same)))
    (λ (o : bytes_eq other file.0 ≡ false). rw (e, o) refl))
    (λ (e : bytes_eq name file.0 ≡ false). by_test (bytes_eq other file.0)
    (λ (o : bytes_eq other file.0 ≡ true). rw (e, o) refl)
    (λ (o : bytes_eq other file.0 ≡ false). rw (e, o) (file_in-with_file_other files name bytes other h)))

pub ruleset puts = (file_in-with_file, file_in-with_file_other)

pub ruleset places = (file_in_place, file_in_no_place)
