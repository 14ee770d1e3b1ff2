-- The packets of a run as they are on the wire: the label stack of each header, and the label under it.
use Rattle.std.specs.Prelude.{ℕ, ◌+◌, ◌-◌, List, [], ◌∷◌, ◌++◌, length, slice_get, codes, Option, Some, None, Ok, Err}
use Rattle.std.specs.Option.{option_map_or}
use Rattle.std.specs.Fmt.{decimal}
use Rattle.hex.specs.Hex.{encode_lower}
use Rattle.wi_labels.specs.Header.{Entry as Labelled}
use Rattle.wi_net.specs.Net.{Net}
use Rattle.wi_world.specs.declared.run.Run.{Run}
use Rattle.wi_world.specs.declared.run.Step.{Step}
use Rattle.wi_world.specs.Moves.{Location, moved}
use Rattle.wi_wire.specs.declared.entry.Entry.{Entry}
use Rattle.wi_wire.specs.Stacks.{each_entry, entry_bytes}
use Rattle.wi_wire.specs.Values.{entries_of}
use Rattle.wi_faults.specs.Shown.{label_shown}

-- an entry, whose S is given, as eight hexadecimal digits, and a space
abbrev pub entry_shown : ℕ → Entry → List ℕ
entry_shown s e = encode_lower (entry_bytes s e) ++ codes " "

-- the name of the last label of a header
abbrev pub last_shown : Net → List Labelled → List ℕ
last_shown net header = option_map_or (λ l. label_shown net l.0) (slice_get header (length header - 1)) []

-- a header on the wire, where each entry has the TTL 64: its entries, top first, and the label under them; or its first label that
-- has no value
abbrev pub packet_shown : Net → List Labelled → List ℕ
packet_shown net header = elim (entries_of net 64 header) [
  | Ok entries ↦ each_entry entry_shown entries ++ last_shown net header
  | Err l ↦ codes "label " ++ label_shown net l ++ codes " has no value"
]

-- the line of a packet with its number
abbrev pub packet_line : Net → ℕ → List Labelled → List ℕ
packet_line net n header = codes "packet " ++ decimal n ++ codes ": " ++ packet_shown net header ++ codes "\n"

-- the lines of the packets that steps make, the first of which has this number
abbrev pub later_packets : Net → ℕ → Location → List Step → List ℕ
later_packets net n at [] = []
later_packets net n at (step ∷ steps) = option_map_or (λ next. packet_line net n next.1 ++ later_packets net (n + 1) next steps) (moved net at step) []

-- a line for each header of a run, from 1
abbrev pub packets_shown : Net → Run → List ℕ
packets_shown net run = packet_line net 1 run.header ++ later_packets net 2 (run.first, run.header) run.steps

-- those of the run that is there, if one is
abbrev pub packets_of : Net → Option Run → List ℕ
packets_of net None = []
packets_of net (Some run) = packets_shown net run
