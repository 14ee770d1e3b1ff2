-- What is seen of a shelf, what a call on it notes, when a file is too long, and what a part of one is.
use Rattle.std.specs.Prelude.{◌≡◌, ◌⊎◌, ℕ, ◌<◌, ◌≤◌, Bool, List, [], ◌∷◌, ◌++◌, drop, length, take, Option, Some, None, Result, Err}
use Rattle.wi_base.specs.declared.shelf.CallKind.{CallKind}
use Rattle.wi_base.specs.declared.shelf.CallKind.TheVariants.{Fetch, Store}
use Rattle.wi_base.specs.declared.shelf.FetchRefused.{FetchRefused}
use Rattle.wi_base.specs.declared.shelf.FetchRefused.TheVariants as fetch_refused
use Rattle.wi_base.specs.declared.shelf.StoreRefused.{StoreRefused}
use Rattle.wi_base.specs.declared.shelf.StoreRefused.TheVariants as store_refused

-- a shelf at a moment: whether it tells what it holds; the bytes under each name, where there are any, which count only where
-- it tells them; and the failed calls in their order, each by its kind and its name
pub record ShelfSeen : Type 0 where
  pub told : Bool
  pub file : List ℕ → Option (List ℕ)
  pub failed : List (CallKind × List ℕ)

-- the failed calls after a fetch: this one too, if it failed
abbrev pub after_fetch : {A : Type 0} → Result A FetchRefused → List ℕ → List (CallKind × List ℕ) → List (CallKind × List ℕ)
after_fetch (Err fetch_refused.Failed) name calls = calls ++ (Fetch, name) ∷ []
after_fetch _ name calls = calls

-- the failed calls after a store
abbrev pub after_store : {A : Type 0} → Result A StoreRefused → List ℕ → List (CallKind × List ℕ) → List (CallKind × List ℕ)
after_store (Err store_refused.Failed) name calls = calls ++ (Store, name) ∷ []
after_store _ name calls = calls

-- there is a file, of more bytes than the limit
abbrev pub IsLonger : Option (List ℕ) → ℕ → Type 0
IsLonger None limit = ⊥
IsLonger (Some bytes) limit = limit < length bytes

-- bytes begin what a file has from a place on. There are none only where it ends there, or none were asked for
pub record BeginsAt (file : List ℕ) (at most : ℕ) (bytes : List ℕ) : Type 0 where
  pub begins : bytes ≡ take (length bytes) (drop at file)
  pub ends : bytes ≡ [] → (length file ≤ at) ⊎ (most ≡ 0)

-- bytes are a part of the file, if there is one
abbrev pub IsPart : Option (List ℕ) → ℕ → ℕ → List ℕ → Type 0
IsPart None at most bytes = ⊥
IsPart (Some file) at most bytes = BeginsAt file at most bytes
