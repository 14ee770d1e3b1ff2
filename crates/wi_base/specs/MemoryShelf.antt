-- A shelf in memory, as its entries in order.
use Rattle.std.specs.Prelude.{ℕ, Bool, ◌==◌, if◌then◌else◌, List, [], ◌∷◌, Option, Some, None}
use Rattle.std.specs.List.{list_any}
use Rattle.std.specs.Str.{bytes_eq}
use Rattle.wi_base.specs.declared.shelf.CallKind.{CallKind}

-- files with their names, the failed calls, the numbers of the calls that are to fail, and how many calls there were
pub record Contents : Type 0 where
  pub files : List (List ℕ × List ℕ)
  pub failed : List (CallKind × List ℕ)
  pub failing : List ℕ
  pub calls : ℕ

-- the bytes under a name
abbrev pub file_in : List (List ℕ × List ℕ) → List ℕ → Option (List ℕ)
file_in [] name = None
file_in (file ∷ files) name = if bytes_eq name file.0 then Some file.1 else file_in files name

-- the files with these bytes under a name: in the place of those that are there, or else last
abbrev pub with_file : List (List ℕ × List ℕ) → List ℕ → List ℕ → List (List ℕ × List ℕ)
with_file [] name bytes = (name, bytes) ∷ []
with_file (file ∷ files) name bytes = if bytes_eq name file.0 then (file.0, bytes) ∷ files else file ∷ with_file files name bytes

-- the next call is to fail
abbrev pub is_to_fail : List ℕ → ℕ → Bool
is_to_fail failing call = list_any (λ n. n == call) failing
