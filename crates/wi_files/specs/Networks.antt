-- What is read of a network's file. Old and new are the shelf before and after; what it tells of a file is said where it tells.
use Rattle.std.specs.Prelude.{◌≡◌, List, ℕ, true, Option, Some, None, Ok}
use Rattle.wi_base.specs.Shelf.{ShelfSeen}
use Rattle.wi_net.specs.Net.{Net}
use Rattle.wi_netjson.specs.File.{network_of}
use Rattle.wi_netjson.specs.Reading.{Fails}
use Rattle.wi_netjson.specs.declared.fault.NetFault.{NetFault}
use Rattle.wi_outcome.specs.declared.refusal.Refusal.{Refusal}
use Rattle.wi_outcome.specs.declared.refusal.Refusal.TheVariants.{CannotRead, Memory, Network}
use Rattle.wi_files.specs.Shelves.{FetchFailed, IsCalm}

-- the file that is held is the network's
abbrev pub HoldsNetwork : Option (List ℕ) → Net → Type 0
HoldsNetwork None net = ⊥
HoldsNetwork (Some bytes) net = network_of bytes ≡ Ok net

-- the file that is held has this fault
abbrev pub FileHasFault : Option (List ℕ) → NetFault → Type 0
FileHasFault None fault = ⊥
FileHasFault (Some bytes) fault = Fails fault (network_of bytes)

-- the network file is the cause
abbrev pub FromNetwork : ShelfSeen → ShelfSeen → List ℕ → Refusal → Type 0
FromNetwork old new name (CannotRead said) = FetchFailed said name old new
FromNetwork old new name (Network fault) = IsCalm old new × (old.told ≡ true → FileHasFault (old.file name) fault)
FromNetwork old new name Memory = IsCalm old new
FromNetwork old new name refusal = ⊥
