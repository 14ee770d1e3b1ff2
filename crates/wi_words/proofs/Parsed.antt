-- What a parse of the program says of its words.
use Rattle.std.proofs.Common.{◌≡◌, ◌⊎◌, ◌∙◌, ap, sym, refl, true, false, List, [], ◌∷◌, Option, None, option_and_then, inl, inr}
use Rattle.clap.specs.Words.{App, IsAmong, Row, Text, fault_of, is_simple, is_simple_and_free, subcommand_of}
use Rattle.clap.specs.declared.error.ErrorKind.{ErrorKind}
use Rattle.clap.specs.declared.error.ErrorKind.TheVariants.{OutOfMemory}
use Rattle.wi_words.specs.Commands.{Command, are_taken, command_named, command_of, is_empty, program}

-- the program is one of those whose parse is exact
program_is_simple : is_simple program ≡ true
program_is_simple = refl

program_is_simple_and_free : is_simple_and_free program ≡ true
program_is_simple_and_free = refl

when_taken : (words : List Text) → fault_of program words ≡ [] → option_and_then command_named (subcommand_of program words) ≡ command_of words
when_taken words none =
    let taken : are_taken words ≡ true = ap is_empty none in
    rw taken refl

-- the parse has an `Ok`
pub taken : (a : App) (words : List Text) (R : Type 0) (met : Option (Text × List Row)) (command : Option Command) → a ≡ program
    → (is_simple_and_free a ≡ true → fault_of a words ≡ []) → (is_simple a ≡ true → R × (met ≡ subcommand_of a words))
    → command ≡ option_and_then command_named met → command ≡ command_of words
taken a words R met command is faults matches read =
    let none : fault_of program words ≡ [] = sym (ap (λ b. fault_of b words) is) ∙ faults (ap is_simple_and_free is ∙ program_is_simple_and_free) in
    let same : met ≡ subcommand_of program words = (matches (ap is_simple is ∙ program_is_simple)).1 ∙ ap (λ b. subcommand_of b words) is in
    read ∙ (ap (option_and_then command_named) same ∙ when_taken words none)

has_some : (kind : ErrorKind) (kinds : List ErrorKind) → IsAmong kind kinds → is_empty kinds ≡ false
has_some kind [] among = absurd among
has_some kind (first ∷ rest) among = refl

-- the parse has an `Err` that isn't want of memory
pub refused : (a : App) (words : List Text) (kind : ErrorKind) → a ≡ program
    → (is_simple_and_free a ≡ true → (kind ≡ OutOfMemory) ⊎ IsAmong kind (fault_of a words))
    → (kind ≡ OutOfMemory → ⊥) → None ≡ command_of words
refused a words kind is faults other = elim (faults (ap is_simple_and_free is ∙ program_is_simple_and_free)) [
  | inl memory ↦ absurd (other memory)
  | inr among ↦
      let lost : are_taken words ≡ false = ap (λ b. is_empty (fault_of b words)) (sym is) ∙ has_some kind (fault_of a words) among in
      rw lost refl
]
