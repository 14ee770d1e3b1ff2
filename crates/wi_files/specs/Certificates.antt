-- Certificates and trees, as they are stored and as they are read.
use Rattle.std.specs.Prelude.{◌≡◌, ◌⊎◌, ℕ, ◌<◌, ◌≤◌, true, List, length, Option, Some, None}
use Rattle.wi_base.specs.Shelf.{ShelfSeen, IsLonger}
use Rattle.wi_cert.specs.declared.certificate.Certificate.{Certificate}
use Rattle.wi_cert.specs.declared.tree.TreeCertificate.{TreeCertificate}
use Rattle.wi_cert.specs.Text.{IsText, closed_text}
use Rattle.wi_cert.specs.Trees.{IsTreeText, tree_text}
use Rattle.wi_outcome.specs.declared.refusal.Refusal.{Refusal}
use Rattle.wi_outcome.specs.declared.refusal.Refusal.TheVariants.{BadLine, CannotRead, CannotWrite, CannotWriteBelow, LargeCertificate, Memory, NoMemoryBelow, NotWritten, TreeNotWritten}
use Rattle.wi_files.specs.declared.certificate_file.TheConstants.{READ_LIMIT, WRITTEN_LIMIT}
use Rattle.wi_files.specs.Shelves.{FetchFailed, IsCalm, StoreFailed, below_name}

-- ---- stored
-- there is a name to store under
abbrev pub IsNamed : Option (List ℕ) → Type 0
IsNamed file = (name : List ℕ) × (file ≡ Some name)

-- the certificate isn't too long to be written, and its text stands under the name, if there is one
abbrev pub IsKept : Option (List ℕ) → ShelfSeen → Certificate → Type 0
IsKept None shelf c = Unit {0}
IsKept (Some name) shelf c = (bytes : List ℕ) × IsText c bytes × (length (closed_text c) ≤ WRITTEN_LIMIT) × (shelf.told ≡ true → shelf.file name ≡ Some bytes)

-- it is too long, or isn't and the call that was to store it failed
abbrev pub FromKeeping : ShelfSeen → ShelfSeen → Option (List ℕ) → Certificate → Refusal → Type 0
FromKeeping old new file c NotWritten = IsCalm old new × IsNamed file × (WRITTEN_LIMIT < length (closed_text c))
FromKeeping old new file c (CannotWrite named said) = (file ≡ Some named.now) × (length (closed_text c) ≤ WRITTEN_LIMIT) × StoreFailed said named.now old new
FromKeeping old new file c Memory = IsCalm old new
FromKeeping old new file c refusal = ⊥

-- ---- a tree stored
-- the tree's text stands under the name, if there is one
abbrev pub IsTreeStored : Option (List ℕ) → ShelfSeen → TreeCertificate → Type 0
IsTreeStored None shelf tree = Unit {0}
IsTreeStored (Some name) shelf tree = (bytes : List ℕ) × IsTreeText tree bytes × (length bytes ≤ READ_LIMIT) × (shelf.told ≡ true → shelf.file name ≡ Some bytes)

-- a tree is too large to be written
abbrev pub IsLarge : TreeCertificate → Type 0
IsLarge tree = READ_LIMIT < length (tree_text tree)

-- the tree is too large, or isn't and the call that was to store it failed
abbrev pub FromKeepingTree : ShelfSeen → ShelfSeen → Option (List ℕ) → TreeCertificate → Refusal → Type 0
FromKeepingTree old new file t TreeNotWritten = IsCalm old new × IsNamed file × IsLarge t
FromKeepingTree old new file t (CannotWrite named said) = (file ≡ Some named.now) × (IsLarge t → ⊥) × StoreFailed said named.now old new
FromKeepingTree old new file t Memory = IsCalm old new
FromKeepingTree old new file t refusal = ⊥

-- ---- two trees stored
-- the text of the second tree stands under the second name, if there are names; where there is no second tree, what stood there
abbrev pub IsSecondStored : Option (List ℕ) → ShelfSeen → ShelfSeen → Option TreeCertificate → Type 0
IsSecondStored None old new second = Unit {0}
IsSecondStored (Some name) old new None = new.file (below_name name) ≡ old.file (below_name name)
IsSecondStored (Some name) old new (Some tree) = IsTreeStored (Some (below_name name)) new tree

-- both texts stand
abbrev pub AreTreesStored : Option (List ℕ) → ShelfSeen → ShelfSeen → TreeCertificate → Option TreeCertificate → Type 0
AreTreesStored file old new first second = IsTreeStored file new first × IsSecondStored file old new second

-- one of the trees is too large to be written
abbrev pub IsOneLarge : TreeCertificate → Option TreeCertificate → Type 0
IsOneLarge first None = IsLarge first
IsOneLarge first (Some second) = IsLarge first ⊎ IsLarge second

-- the trees are to be stored under the name, if there is one, and can't be: neither is where one is too large, and where neither is
-- too large and the second can't be, the first is
abbrev pub FromKeepingTrees : ShelfSeen → ShelfSeen → Option (List ℕ) → TreeCertificate → Option TreeCertificate → Refusal → Type 0
FromKeepingTrees old new file first second TreeNotWritten = IsCalm old new × IsNamed file × IsOneLarge first second
FromKeepingTrees old new file first second (CannotWrite named said) = (file ≡ Some named.now) × (IsOneLarge first second → ⊥) × StoreFailed said named.now old new
FromKeepingTrees old new file first second (CannotWriteBelow named said) =
    (file ≡ Some named.now) × (IsOneLarge first second → ⊥) × IsTreeStored file new first × StoreFailed said (below_name named.now) old new
FromKeepingTrees old new file first second (NoMemoryBelow named) = (file ≡ Some named.now) × (IsOneLarge first second → ⊥) × IsTreeStored file new first × IsCalm old new
FromKeepingTrees old new file first second Memory = IsCalm old new
FromKeepingTrees old new file first second refusal = ⊥

-- ---- read
-- bytes are the file's, if the shelf tells it, and they aren't too many
pub record IsCertificateFile (shelf : ShelfSeen) (name bytes : List ℕ) : Type 0 where
  pub held : shelf.told ≡ true → shelf.file name ≡ Some bytes
  pub short : length bytes ≤ READ_LIMIT

-- a file is the cause: it can't be read, is too large, or has a bad line
abbrev pub FromLines : (List ℕ → ℕ → Type 0) → ShelfSeen → ShelfSeen → List ℕ → Refusal → Type 0
FromLines IsBad old new name (CannotRead said) = FetchFailed said name old new
FromLines IsBad old new name LargeCertificate = IsCalm old new × (old.told ≡ true → IsLonger (old.file name) READ_LIMIT)
FromLines IsBad old new name (BadLine n) = IsCalm old new × ((bytes : List ℕ) × IsCertificateFile old name bytes × IsBad bytes n)
FromLines IsBad old new name Memory = IsCalm old new
FromLines IsBad old new name refusal = ⊥
