-- What a weights text means, or its first fault.
use Rattle.std.specs.Prelude.{◌≡◌, ℕ, nat_lt, codes, if◌then◌else◌, List, length, map, filter_map, string_bytes, is_none, Option, Some, None}
use Rattle.std.specs.List.{find, flat_map}
use Rattle.std.specs.Option.{option_map, option_map_or}
use Rattle.std.specs.Str.{bytes_eq}
use Rattle.std.specs.Str.Parse.{digits_value}
use Rattle.wi_world.specs.declared.run.Quantity.{Quantity}
use Rattle.wi_world.specs.declared.run.Quantity.TheVariants.{Links, Hops, Distance, Failures, Tunnels}
use Rattle.wi_text.specs.Prefixes.{IsFaultAt}
use Rattle.wi_quantity.specs.declared.vector.Part.{Part}
use Rattle.wi_quantity.specs.declared.fault.WeightFault.{WeightFault}
use Rattle.wi_quantity.specs.declared.fault.WeightFault.TheVariants.{Syntax, UnknownQuantity, TooManyTerms, Coefficient, Memory}
use Rattle.wi_quantity.specs.Written.{Written, WrittenPart, Reads, IsWeightsText, parts_of, terms_of}

-- the quantity of a name
abbrev pub quantity_named : List ℕ → Option Quantity
quantity_named s =
    if bytes_eq s (codes "Links") then Some Links else
    if bytes_eq s (codes "Hops") then Some Hops else
    if bytes_eq s (codes "Distance") then Some Distance else
    if bytes_eq s (codes "Failures") then Some Failures else
    if bytes_eq s (codes "Tunnels") then Some Tunnels else None

-- the words of a text, and its numbers, in order, each with the byte where it starts
abbrev pub words_of : Written → List (ℕ × List ℕ)
words_of w = flat_map (λ term. map (λ part. part.word) (parts_of term)) (terms_of w)

abbrev pub numbers_of : Written → List (ℕ × List ℕ)
numbers_of w = flat_map (λ term. filter_map (λ part. part.number) (parts_of term)) (terms_of w)

-- the first word that is no quantity
abbrev pub unknown_word : Written → Option (ℕ × List ℕ)
unknown_word w = find (λ word. is_none (quantity_named word.1)) (words_of w)

-- how many terms there are, if more than five; or else how many parts the first term has that has more than five
abbrev pub too_many : Written → Option ℕ
too_many w =
    if nat_lt 5 (length (terms_of w)) then Some (length (terms_of w))
    else option_map (λ term. length (parts_of term)) (find (λ term. nat_lt 5 (length (parts_of term))) (terms_of w))

-- where the first number starts that is over 65,535
abbrev pub too_large : Written → Option ℕ
too_large w = option_map (λ n. n.0) (find (λ n. nat_lt 65535 (digits_value 10 n.1)) (numbers_of w))

-- what a part means: without a number it counts once
abbrev pub part_meant : WrittenPart → Option Part
part_meant part = option_map (λ q. record { coefficient = option_map_or (λ n. digits_value 10 n.1) part.number 1; quantity = q }) (quantity_named part.word.1)

-- the text is written so, and means these terms
pub record Means (text : List ℕ) (vector : List (List Part)) : Type 0 where
  pub written : Written
  pub reads : Reads text written
  pub known : unknown_word written ≡ None
  pub few : too_many written ≡ None
  pub small : too_large written ≡ None
  pub terms : map (λ term. map part_meant (parts_of term)) (terms_of written) ≡ map (λ term. map Some term) vector

-- the text is written so, and its words are known
pub record IsKnown (text : List ℕ) (w : Written) : Type 0 where
  pub reads : Reads text w
  pub known : unknown_word w ≡ None

-- this is the first fault of the text: its syntax, then its words, then how much there is of it, then its numbers
abbrev pub IsFault : List ℕ → WeightFault → Type 0
IsFault text (Syntax k) = IsFaultAt IsWeightsText text k
IsFault text (UnknownQuantity at word) = (w : Written) × Reads text w × (unknown_word w ≡ Some (at, string_bytes word))
IsFault text (TooManyTerms n) = (w : Written) × IsKnown text w × (too_many w ≡ Some n)
IsFault text (Coefficient at) = (w : Written) × IsKnown text w × (too_many w ≡ None) × (too_large w ≡ Some at)
IsFault text Memory = Unit {0}
