-- Entries as the code that writes and reads them speaks of them.
use Rattle.std.specs.Prelude.{◌≡◌, ℕ, ◌+◌, ◌*◌, ◌^◌, ◌<◌, Bool, List, ◌++◌}
use Rattle.wi_wire.specs.declared.entry.Entry.{Entry}
use Rattle.wi_wire.specs.Stacks.{entry_bytes, s_of}

-- an entry's 32 bits, whose S is given
abbrev pub word_of : ℕ → Entry → ℕ
word_of s e = e.label * 2 ^ 12 + e.exp * 2 ^ 9 + s * 2 ^ 8 + e.ttl

-- the parts fit in their bits, and the label may be reserved
pub record FitsBits (e : Entry) : Type 0 where
  pub label : e.label < 2 ^ 20
  pub exp : e.exp < 8
  pub ttl : e.ttl < 256

-- the 32 bits are this entry, with its S
pub record IsWord (word : ℕ) (e : Entry) (is_bottom : Bool) : Type 0 where
  pub fits : FitsBits e
  pub word_is : word ≡ word_of (s_of is_bottom) e

-- the bytes begin with this entry, with its S, and the rest follows it
pub record IsFirst (bytes : List ℕ) (e : Entry) (is_bottom : Bool) (rest : List ℕ) : Type 0 where
  pub fits : FitsBits e
  pub bytes_are : bytes ≡ entry_bytes (s_of is_bottom) e ++ rest
