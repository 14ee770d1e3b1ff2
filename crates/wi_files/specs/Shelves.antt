-- What becomes of a shelf. Old and new are the shelf before and after; what it tells of a file is said where it tells.
use Rattle.std.specs.Prelude.{◌≡◌, ◌⊎◌, ℕ, List, [], ◌∷◌, ◌++◌, codes, Option, Some, option_map}
use Rattle.wi_base.specs.declared.shelf.CallKind.TheVariants.{Fetch, Store}
use Rattle.wi_base.specs.Shelf.{ShelfSeen}
use Rattle.wi_outcome.specs.Texts.{cannot_read_text, cannot_write_text}
use Rattle.wi_outcome.specs.declared.refusal.Refusal.{Refusal}
use Rattle.wi_outcome.specs.declared.refusal.Refusal.TheVariants.{CannotRead, CannotWrite, CannotWriteBelow, Memory, NoMemoryBelow}

-- every file stands, but for those of such names
abbrev pub StandBut : (List ℕ → Type 0) → ShelfSeen → ShelfSeen → Type 0
StandBut P old new = (name : List ℕ) → (P name → ⊥) → new.file name ≡ old.file name

-- every file stands, but for that of this name if there is one
abbrev pub OthersStand : Option (List ℕ) → ShelfSeen → ShelfSeen → Type 0
OthersStand file old new = StandBut (λ name. file ≡ Some name) old new

-- every file stands
abbrev pub AllStand : ShelfSeen → ShelfSeen → Type 0
AllStand old new = (name : List ℕ) → new.file name ≡ old.file name

-- where a command stores two files, the name of the second
abbrev pub below_name : List ℕ → List ℕ
below_name name = name ++ codes ".below"

-- a name is that of one of the two
abbrev pub IsOfTwo : Option (List ℕ) → List ℕ → Type 0
IsOfTwo file name = (file ≡ Some name) ⊎ (option_map below_name file ≡ Some name)

-- no call on the shelf failed
abbrev pub IsCalm : ShelfSeen → ShelfSeen → Type 0
IsCalm old new = new.failed ≡ old.failed

-- the call that was to fetch this file failed, and no other, and this is said of it
abbrev pub FetchFailed : List ℕ → List ℕ → ShelfSeen → ShelfSeen → Type 0
FetchFailed said name old new = (said ≡ cannot_read_text name) × (new.failed ≡ old.failed ++ (Fetch, name) ∷ [])

-- the call that was to fetch this file failed, or found no memory
abbrev pub IsUnread : ShelfSeen → ShelfSeen → List ℕ → Refusal → Type 0
IsUnread old new name (CannotRead said) = FetchFailed said name old new
IsUnread old new name Memory = IsCalm old new
IsUnread old new name refusal = ⊥

-- the call that was to store under this name failed, and no other, and this is said of it
abbrev pub StoreFailed : List ℕ → List ℕ → ShelfSeen → ShelfSeen → Type 0
StoreFailed said name old new = (said ≡ cannot_write_text name) × (new.failed ≡ old.failed ++ (Store, name) ∷ [])

-- what a refusal leaves of files: all, but for the one that couldn't be stored, of which nothing is known, and for the first of two where
-- the second couldn't be
abbrev pub IsLeft : Refusal → ShelfSeen → ShelfSeen → Type 0
IsLeft (CannotWrite name said) old new = OthersStand (Some name.now) old new
IsLeft (CannotWriteBelow name said) old new = StandBut (IsOfTwo (Some name.now)) old new
IsLeft (NoMemoryBelow name) old new = OthersStand (Some name.now) old new
IsLeft refusal old new = AllStand old new
