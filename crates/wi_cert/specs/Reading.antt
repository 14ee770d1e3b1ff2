-- Reading a text byte by byte: whatever is asked line by line, one way of reading serves it.
use Rattle.std.specs.Prelude.{◌≡◌, ℕ, ◌+◌, ◌==◌, if◌then◌else◌, List, [], ◌∷◌, ◌++◌, length, Option, Some, Result, Ok, Err, option_and_then}
use Rattle.std.specs.Option.{option_map_or}
use Rattle.wi_cert.specs.declared.decode_refused.DecodeRefused.{DecodeRefused}
use Rattle.wi_cert.specs.declared.decode_refused.DecodeRefused.TheVariants.{BadLine, Memory}

-- A form of texts. S is what the lines so far leave, and C what a whole text spells.
pub record Form (S C : Type 0) : Type 0 where
  -- before the first line
  pub blank : S
  -- after a line of the form asked; None: the line isn't of that form
  pub asked : S → List ℕ → Option S
  -- what was read, where no line is to come
  pub made : S → Option C

-- the whole lines so far, the bytes of the line that has begun, and what the lines leave
pub record Reading (S : Type 0) : Type 0 where
  pub lines : ℕ
  pub held : List ℕ
  pub sheet : S

-- a reading, or the number of the first bad line, for good
abbrev pub Fed : Type 0 → Type 0
Fed S = Result (Reading S) ℕ

-- before the first byte
abbrev pub unread : {S C : Type 0} → Form S C → Fed S
unread form = Ok (record { lines = 0; held = []; sheet = form.blank })

-- goes on where there is a value
abbrev pub and_then : {A B : Type 0} → (A → Result B ℕ) → Result A ℕ → Result B ℕ
and_then f (Ok x) = f x
and_then f (Err n) = Err n

-- after one more byte: a line that ends here and isn't of the form asked is the first bad one
abbrev pub with_byte : {S C : Type 0} → Form S C → Reading S → ℕ → Fed S
with_byte form r b =
    if b == 10 then option_map_or (λ s. Ok (record { lines = r.lines + 1; held = []; sheet = s })) (form.asked r.sheet r.held) (Err (r.lines + 1))
    else Ok (record r { held = r.held ++ b ∷ [] })

-- after more bytes
abbrev pub fed : {S C : Type 0} → Form S C → Fed S → List ℕ → Fed S
fed form r [] = r
fed form r (b ∷ bs) = fed form (and_then (λ reading. with_byte form reading b) r) bs

-- what was read, where the text ends here; else a line is missing or lacks its end
abbrev pub finished : {S C : Type 0} → Form S C → Fed S → Result C ℕ
finished form r = and_then (λ reading. option_map_or (λ c. if length reading.held == 0 then Ok c else Err (reading.lines + 1)) (form.made reading.sheet) (Err (reading.lines + 1))) r

-- What the bytes spell, or the number of the first bad line.
abbrev pub decoded : {S C : Type 0} → Form S C → List ℕ → Result C ℕ
decoded form bytes = finished form (fed form (unread form) bytes)

-- what lines leave that are each of the form asked in its place
abbrev pub filled : {S C : Type 0} → Form S C → S → List (List ℕ) → Option S
filled form s [] = Some s
filled form s (line ∷ lines) = option_and_then (λ next. filled form next lines) (form.asked s line)

-- What feeding a piece leaves, and what it answers. After a bad line the same is answered from then on; where memory runs out
-- all stands as before the piece.
abbrev pub Feeds : {S C : Type 0} → Form S C → Fed S → List ℕ → Fed S → Result (Unit {0}) DecodeRefused → Type 0
Feeds {S = S} form old piece new (Ok done) = (new ≡ fed form old piece) × ((reading : Reading S) × (new ≡ Ok reading))
Feeds form old piece new (Err (BadLine n)) = (new ≡ fed form old piece) × (new ≡ Err n)
Feeds form old piece new (Err Memory) = new ≡ old

-- what is answered where the text ends here; it takes no memory
abbrev pub Finishes : {S C : Type 0} → Form S C → Fed S → Result C DecodeRefused → Type 0
Finishes form r (Ok c) = finished form r ≡ Ok c
Finishes form r (Err (BadLine n)) = finished form r ≡ Err n
Finishes form r (Err Memory) = ⊥
