-- Names that are not those of commands.
use Rattle.std.proofs.Common.{◌≡◌, false, List, None, codes, refl}
use Rattle.std.specs.Str.{bytes_eq}
use Rattle.std.proofs.lemmas.Bool.{false_from_ne_true}
use Rattle.std.proofs.lemmas.Slice.Eq.{bytes_eq-Decides}
use Rattle.clap.specs.Walk.{Row, Text}
use Rattle.wi_words.specs.Commands.{asked_of, command_named, wanted_named}

differs : (name word : Text) → (name ≡ word → ⊥) → bytes_eq name word ≡ false
differs name word other = false_from_ne_true (bytes_eq name word) (λ same. other ((bytes_eq-Decides name word).0 same))

-- the name is none of the seven that ask something of a network
pub not_wanted : (name : Text) (rows : List Row) → (name ≡ codes "verify" → ⊥) → (name ≡ codes "check" → ⊥) → (name ≡ codes "exact" → ⊥) → (name ≡ codes "check-exact" → ⊥) → (name ≡ codes "tolerate" → ⊥) → (name ≡ codes "packets" → ⊥) → (name ≡ codes "draw" → ⊥)
    → None ≡ wanted_named name rows
not_wanted name rows verify check exact check_exact tolerate packets draw =
    rw (differs name _ verify, differs name _ check, differs name _ exact, differs name _ check_exact, differs name _ tolerate, differs name _ packets, differs name _ draw) refl

-- the name is none of those that may ask nothing
pub asks : (name : Text) (rows : List Row) → (name ≡ codes "play" → ⊥) → (name ≡ codes "gen" → ⊥) → (name ≡ codes "protect" → ⊥) → (name ≡ codes "stack" → ⊥) → (name ≡ codes "audit" → ⊥) → (name ≡ codes "outages" → ⊥) → (name ≡ codes "bypass" → ⊥) → (name ≡ codes "draw" → ⊥) → asked_of name rows ≡ command_named (name, rows)
asks name rows play gen protect stack audit outages bypass draw =
    rw (differs name _ play, differs name _ gen, differs name _ protect, differs name _ stack, differs name _ audit, differs name _ outages, differs name _ bypass, differs name _ draw) refl
