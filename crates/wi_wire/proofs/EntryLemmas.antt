-- An entry's four bytes tell it.
use Rattle.std.proofs.Common.{◌≡◌, ℕ, ◌^◌, ◌<◌, ◌≤◌, ◌&&◌, true, nat_le, nat_lt, List, [], ◌∷◌, ◌++◌, refl, sym, ap, ◌∙◌, arith}
use Rattle.std.specs.Int.{w32, from_be_bytes}
use Rattle.std.proofs.lemmas.Bool.{and_parts, leb-true, ltb-true}
use Rattle.std.proofs.lemmas.Nat.{from_be_bytes-to_be_bytes_4}
use Rattle.wi_wire.specs.declared.entry.Entry.{Entry}
use Rattle.wi_wire.specs.Stacks.{is_free, is_entry, bytes_of, entry_bytes}
use Rattle.wi_wire.specs.private.Entries.{word_of, FitsBits}

-- four bytes tell the number that they are
same_word : (m n : ℕ) → m < 2 ^ 32 → n < 2 ^ 32 → bytes_of m ≡ bytes_of n → m ≡ n
same_word m n low small e = sym (from_be_bytes-to_be_bytes_4 m low) ∙ ap (from_be_bytes w32) e ∙ from_be_bytes-to_be_bytes_4 n small

word_small : (s : ℕ) (e : Entry) → s < 2 → FitsBits e → word_of s e < 2 ^ 32
word_small s e bit fits = omega (arith, fits.label, fits.exp, fits.ttl)

entry_is : (label exp ttl : ℕ) (e : Entry) → label ≡ e.label → exp ≡ e.exp → ttl ≡ e.ttl → record { label = label; exp = exp; ttl = ttl } ≡ e
entry_is label exp ttl e p q r = rw (p, q, r) refl

-- a number tells its parts
same_parts : (s t : ℕ) (e f : Entry) → s < 2 → t < 2 → FitsBits e → FitsBits f → word_of s e ≡ word_of t f → (s ≡ t) × (e ≡ f)
same_parts s t e f bit also fits good same = (
  omega (arith, fits.label, fits.exp, fits.ttl, good.label, good.exp, good.ttl),
  entry_is e.label e.exp e.ttl f
      (omega (arith, fits.label, fits.exp, fits.ttl, good.label, good.exp, good.ttl))
      (omega (arith, fits.label, fits.exp, fits.ttl, good.label, good.exp, good.ttl))
      (omega (arith, fits.label, fits.exp, fits.ttl, good.label, good.exp, good.ttl)),
)

four : (a b c d h i j k : ℕ) (p q : List ℕ) → a ∷ b ∷ c ∷ d ∷ p ≡ h ∷ i ∷ j ∷ k ∷ q → (a ∷ b ∷ c ∷ d ∷ [] ≡ h ∷ i ∷ j ∷ k ∷ []) × (p ≡ q)
four a b c d h i j k p q e = (cc, cc)

-- bytes begin with one entry, and the same rest follows it
pub same_first : (s t : ℕ) (e f : Entry) (p q : List ℕ) → s < 2 → t < 2 → FitsBits e → FitsBits f → entry_bytes s e ++ p ≡ entry_bytes t f ++ q → (s ≡ t) × (e ≡ f) × (p ≡ q)
same_first s t e f p q bit also fits good same =
    let both = four _ _ _ _ _ _ _ _ p q same in
    let parts = same_parts s t e f bit also fits good (same_word (word_of s e) (word_of t f) (word_small s e bit fits) (word_small t f also good) both.0) in
    (parts.0, parts.1, both.1)

pub fits_of : (e : Entry) → is_entry e ≡ true → FitsBits e
fits_of e is =
    let parts = and_parts (is_free e.label) (nat_lt e.exp 8 && nat_lt e.ttl 256) is in
    let free = and_parts (nat_le 16 e.label) (nat_le e.label 1048575) parts.0 in
    let small = and_parts (nat_lt e.exp 8) (nat_lt e.ttl 256) parts.1 in
    record { label = omega (arith, leb-true e.label 1048575 free.1); exp = ltb-true e.exp 8 small.0; ttl = ltb-true e.ttl 256 small.1 }

pub free_least : (label : ℕ) → is_free label ≡ true → 16 ≤ label
free_least label is = leb-true 16 label ((and_parts (nat_le 16 label) (nat_le label 1048575) is).0)

pub free_of : (e : Entry) → is_entry e ≡ true → is_free e.label ≡ true
free_of e is = (and_parts (is_free e.label) (nat_lt e.exp 8 && nat_lt e.ttl 256) is).0
