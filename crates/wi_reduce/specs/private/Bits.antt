-- Pairs of numbers as bits, in words of 64.
use Rattle.std.specs.Prelude.{ℕ, Bool, ◌==◌}
use Rattle.std.specs.Int.{bit_at}
use Rattle.std.specs.Option.{unwrap_or}
use Rattle.std.specs.HashMap.{HashMap, get}
use Rattle.wi_reduce.specs.private.Worklists.{eq_by_parts}

module _ {A B : Type 0} (e : A → A → Bool) (f : B → B → Bool) where
  -- the word at a place; where there is none, no bit is set
  abbrev pub word_at : {S : Type 0} → HashMap (A × B) ℕ S → A × B → ℕ
  word_at words place = unwrap_or (get (eq_by_parts e f) words place) 0

  -- whether the bit of a pair is set
  abbrev pub has_bit : (B → B) → (B → ℕ) → {S : Type 0} → HashMap (A × B) ℕ S → A × B → Bool
  has_bit part rest words pair = bit_at (word_at words (pair.0, part pair.1)) (rest pair.1) == 1
