-- Bytes that are given in hexadecimal, and the label stack with which they begin.
use Rattle.std.specs.Prelude.{◌≡◌, ◌⊎◌, List, ℕ, length}
use Rattle.hex.specs.Hex.{IsBytes, encode_lower}
use Rattle.wi_wire.specs.declared.entry.Entry.{Entry}
use Rattle.wi_wire.specs.declared.refused.StackRefused.{StackRefused}
use Rattle.wi_wire.specs.declared.refused.StackRefused.TheVariants as stack
use Rattle.wi_wire.specs.Stacks.{IsStack, IsNoStack}
use Rattle.wi_report.specs.Stacks.{stack_shown}
use Rattle.wi_outcome.specs.declared.refusal.Refusal.{Refusal}
use Rattle.wi_outcome.specs.declared.refusal.Refusal.TheVariants.{BadStack, Memory, NotHex}

-- the text is these bytes in hexadecimal, in lower case
pub record IsHex (hex bytes : List ℕ) : Type 0 where
  pub are_bytes : IsBytes bytes
  pub hex_is : hex ≡ encode_lower bytes

-- the text is no bytes
abbrev pub IsNoHex : List ℕ → Type 0
IsNoHex hex = (bytes : List ℕ) → IsHex hex bytes → ⊥

-- what is printed of bytes: the stack with which they begin, and how many bytes follow it
pub record IsShownStack (bytes text : List ℕ) : Type 0 where
  pub entries : List Entry
  pub rest : List ℕ
  pub stack : IsStack bytes entries rest
  pub text_is : text ≡ stack_shown entries (length rest)

-- and of the bytes that a text is
abbrev pub IsShownHex : List ℕ → List ℕ → Type 0
IsShownHex hex text = (bytes : List ℕ) × IsHex hex bytes × IsShownStack bytes text

-- bytes begin with no stack, and this is why
pub record IsRefusedStack (bytes : List ℕ) (refused : StackRefused) : Type 0 where
  pub due : refused ≡ stack.Memory → ⊥
  pub none : IsNoStack bytes refused

-- the text is the cause: it is no bytes, or these begin with no stack
abbrev pub FromHex : List ℕ → Refusal → Type 0
FromHex hex NotHex = IsNoHex hex
FromHex hex (BadStack refused) = (bytes : List ℕ) × IsHex hex bytes × IsRefusedStack bytes refused
FromHex hex Memory = Unit {0}
FromHex hex refusal = ⊥

-- one of both is so
abbrev pub ShowsNoStack : List ℕ → Type 0
ShowsNoStack hex = IsNoHex hex ⊎ ((refused : StackRefused) × (bytes : List ℕ) × IsHex hex bytes × IsRefusedStack bytes refused)
