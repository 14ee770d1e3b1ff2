-- The causes and the outcomes of the steps within a reading or a storing.
use Rattle.std.specs.Prelude.{◌≡◌, ℕ, ◌≤◌, true, List, length, Some}
use Rattle.wi_base.specs.Shelf.{ShelfSeen, IsLonger}
use Rattle.wi_net.specs.declared.bounds.Bounds.{Bounds}
use Rattle.wi_net.specs.Net.{Net}
use Rattle.wi_cert.specs.declared.tree.TreeCertificate.{TreeCertificate}
use Rattle.wi_cert.specs.Trees.{IsTreeText}
use Rattle.wi_outcome.specs.declared.refusal.Refusal.{Refusal}
use Rattle.wi_outcome.specs.declared.refusal.Refusal.TheVariants.{CannotRead, CannotWrite, CannotWriteBelow, LargeCertificate, Memory, NoMemoryBelow, Policies as BadPolicies, TreeNotWritten}
use Rattle.wi_files.specs.declared.certificate_file.TheConstants.{READ_LIMIT}
use Rattle.wi_files.specs.Certificates.{IsLarge}
use Rattle.wi_files.specs.Policies.{HavePoliciesFault}
use Rattle.wi_files.specs.Shelves.{FetchFailed, IsCalm, StoreFailed, below_name}

-- ---- policies
-- bytes are the cause, which have no policies
abbrev pub FromPolicyBytes : Net → Bounds → List ℕ → Refusal → Type 0
FromPolicyBytes net given bytes (BadPolicies said) = HavePoliciesFault net given bytes said
FromPolicyBytes net given bytes Memory = Unit {0}
FromPolicyBytes net given bytes refusal = ⊥

-- ---- storing
-- the call that was to store under a name failed, or found no memory
abbrev pub FromStoring : ShelfSeen → ShelfSeen → List ℕ → Refusal → Type 0
FromStoring old new name (CannotWrite named said) = (Some name ≡ Some named.now) × StoreFailed said named.now old new
FromStoring old new name Memory = IsCalm old new
FromStoring old new name refusal = ⊥

-- the same of two names, of which the first then has these bytes where the second fails
abbrev pub FromStoringBoth : ShelfSeen → ShelfSeen → List ℕ → List ℕ → Refusal → Type 0
FromStoringBoth old new name bytes (CannotWriteBelow named said) =
    (Some name ≡ Some named.now) × (new.told ≡ true → new.file name ≡ Some bytes) × StoreFailed said (below_name named.now) old new
FromStoringBoth old new name bytes (NoMemoryBelow named) = (Some name ≡ Some named.now) × (new.told ≡ true → new.file name ≡ Some bytes) × IsCalm old new
FromStoringBoth old new name bytes refusal = FromStoring old new name refusal

-- bytes are the text of a tree that isn't too large to be written
abbrev pub IsTreeToStore : TreeCertificate → List ℕ → Type 0
IsTreeToStore t bytes = IsTreeText t bytes × (length bytes ≤ READ_LIMIT)

-- it is too large
abbrev pub FromMaking : TreeCertificate → Refusal → Type 0
FromMaking t TreeNotWritten = IsLarge t
FromMaking t Memory = Unit {0}
FromMaking t refusal = ⊥

-- ---- reading in parts
-- a part couldn't be fetched, or there are too many bytes
abbrev pub FromParts : ShelfSeen → ShelfSeen → List ℕ → Refusal → Type 0
FromParts old new name (CannotRead said) = FetchFailed said name old new
FromParts old new name LargeCertificate = IsCalm old new × (old.told ≡ true → IsLonger (old.file name) READ_LIMIT)
FromParts old new name Memory = IsCalm old new
FromParts old new name refusal = ⊥
