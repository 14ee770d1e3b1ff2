-- What terms mean, or their first fault, where they are lists of parts.
use Rattle.std.specs.Prelude.{◌≡◌, ℕ, Bool, true, false, nat_lt, if◌then◌else◌, List, length, map, filter_map, string_bytes, is_none, Option, Some, None}
use Rattle.std.specs.List.{find, flat_map, list_all}
use Rattle.std.specs.Option.{option_map, option_map_or}
use Rattle.std.specs.Str.Parse.{digits_value}
use Rattle.wi_text.specs.Characters.{is_number}
use Rattle.wi_quantity.specs.declared.vector.Part.{Part}
use Rattle.wi_quantity.specs.declared.fault.WeightFault.{WeightFault}
use Rattle.wi_quantity.specs.declared.fault.WeightFault.TheVariants.{Syntax, UnknownQuantity, TooManyTerms, Coefficient, Memory}
use Rattle.wi_quantity.specs.Written.{WrittenPart}
use Rattle.wi_quantity.specs.Faults.{quantity_named, part_meant}

-- the number is one, if there is one
abbrev pub has_number : WrittenPart → Bool
has_number part = option_map_or (λ n. is_number n.1) part.number true

abbrev pub have_numbers : List (List WrittenPart) → Bool
have_numbers terms = list_all (list_all has_number) terms

-- the first word that is no quantity
abbrev pub unknown_in : List WrittenPart → Option (ℕ × List ℕ)
unknown_in parts = find (λ word. is_none (quantity_named word.1)) (map (λ part. part.word) parts)

abbrev pub unknown_among : List (List WrittenPart) → Option (ℕ × List ℕ)
unknown_among terms = find (λ word. is_none (quantity_named word.1)) (flat_map (λ parts. map (λ part. part.word) parts) terms)

-- how many terms or parts there are, if more than five
abbrev pub many_among : List (List WrittenPart) → Option ℕ
many_among terms =
    if nat_lt 5 (length terms) then Some (length terms)
    else option_map (λ parts. length parts) (find (λ parts. nat_lt 5 (length parts)) terms)

-- where the first number starts that is over 65,535
abbrev pub is_large : ℕ × List ℕ → Bool
is_large n = nat_lt 65535 (digits_value 10 n.1)

abbrev pub large_in : List WrittenPart → Option ℕ
large_in parts = option_map (λ n. n.0) (find is_large (filter_map (λ part. part.number) parts))

abbrev pub large_among : List (List WrittenPart) → Option ℕ
large_among terms = option_map (λ n. n.0) (find is_large (flat_map (λ parts. filter_map (λ part. part.number) parts) terms))

-- the terms have no fault, and mean these
pub record AreMeant (terms : List (List WrittenPart)) (vector : List (List Part)) : Type 0 where
  pub known : unknown_among terms ≡ None
  pub few : many_among terms ≡ None
  pub small : large_among terms ≡ None
  pub meant : map (map part_meant) terms ≡ map (map Some) vector

-- this is the first fault of the terms
abbrev pub IsFaultOf : List (List WrittenPart) → WeightFault → Type 0
IsFaultOf terms (Syntax k) = ⊥
IsFaultOf terms (UnknownQuantity at word) = unknown_among terms ≡ Some (at, string_bytes word)
IsFaultOf terms (TooManyTerms n) = (unknown_among terms ≡ None) × (many_among terms ≡ Some n)
IsFaultOf terms (Coefficient at) = (unknown_among terms ≡ None) × (many_among terms ≡ None) × (large_among terms ≡ Some at)
IsFaultOf terms Memory = Unit {0}

-- the fault of an unknown word
abbrev pub IsUnknown : ℕ × List ℕ → WeightFault → Type 0
IsUnknown word (UnknownQuantity at text) = word ≡ (at, string_bytes text)
IsUnknown word Memory = Unit {0}
IsUnknown word _ = ⊥

-- what a part means whose number, if there is one, isn't over 65,535
abbrev pub small_meant : WrittenPart → Option Part
small_meant part = if option_map_or is_large part.number false then None else part_meant part
