-- Packets that are put one after the other.
use Rattle.std.proofs.Common.{◌≡◌, ℕ, ◌+◌, ◌<◌, List, ◌++◌, length, drop, get_or, Some, Result, Ok, Err, OnOk, true, refl, append_assoc, arith}
use Rattle.std.proofs.lemmas.List.{drop_more}
use Rattle.wi_labels.specs.Header.{Entry as Labelled}
use Rattle.wi_net.specs.Net.{Net, labels_known}
use Rattle.wi_net.specs.Network.{IsNetwork}
use Rattle.wi_world.specs.declared.run.Step.{Step}
use Rattle.wi_world.specs.Moves.{Location, moved}
use Rattle.wi_world.proofs.Known.{known_label}
use Rattle.wi_wire.specs.declared.entry.Entry.{Entry}
use Rattle.wi_wire.specs.Stacks.{each_entry}
use Rattle.wi_wire.specs.declared.refused.NoValue.{NoValue}
use Rattle.wi_wire.specs.declared.refused.NoValue.TheVariants as no_value
use Rattle.wi_wire.specs.Values.{HasNoValue, entries_of}
use Rattle.wi_wire.proofs.ValueLemmas.{stands_there}
use Rattle.wi_report.specs.Packets.{entry_shown, last_shown, later_packets, packet_line, packet_shown}
use Rattle.wi_report.specs.private.NoValues.{IsLabelOf, no_value_shown}

-- a packet is shown, and those after it are left
pub packets_left : (net : Net) (at next : Location) (steps : List Step) (i : ℕ) (d : Step) (text whole new : List ℕ) → i < length steps → moved net at (get_or steps i d) ≡ Some next
    → text ++ later_packets net (i + 2) at (drop i steps) ≡ whole → new ≡ text ++ packet_line net (i + 2) next.1 → new ++ later_packets net (i + 1 + 2) next (drop (i + 1) steps) ≡ whole
packets_left net at next steps i d text whole new within to all put =
    let line : List ℕ = packet_line net (i + 2) next.1 in
    let after : List ℕ = later_packets net (i + 2 + 1) next (drop (i + 1) steps) in
    let number : i + 1 + 2 ≡ i + 2 + 1 = omega arith in
    let here : later_packets net (i + 2) at (drop i steps) ≡ line ++ after = rw (drop_more steps i d within, to) refl in
    rw (number, put, append_assoc text line after, ← here) all

-- a header whose labels have values is its entries and its last label
pub stack_shown : {E : Type 0} (r : Result (Unit {0}) E) (net : Net) (header : List Labelled) (entries : List Entry) (text new : List ℕ) → entries_of net 64 header ≡ Ok entries
    → OnOk r (new ≡ text ++ (each_entry entry_shown entries ++ last_shown net header)) → OnOk r (new ≡ text ++ packet_shown net header)
stack_shown r net header entries text new is put = rw (packet_shown, is) put

-- or its first label that has none
pub refused_shown : {E : Type 0} (r : Result (Unit {0}) E) (net : Net) (header : List Labelled) (refused : NoValue) (text new : List ℕ) → (refused ≡ no_value.Memory → OnOk r ⊥) → HasNoValue net 64 header refused
    → OnOk r (new ≡ text ++ no_value_shown net refused) → OnOk r (new ≡ text ++ packet_shown net header)
refused_shown r net header (no_value.Label l) text new wants none put = rw (packet_shown, none) put
refused_shown (Ok x) net header no_value.Memory text new wants none put = absurd (wants refl)
refused_shown (Err e) net header no_value.Memory text new wants none put = tt

-- which is the network's
pub refused_known : (net : Net) (header : List Labelled) (refused : NoValue) → IsNetwork net → labels_known net header ≡ true → HasNoValue net 64 header refused → IsLabelOf net refused
refused_known net header (no_value.Label l) is known none = let there = stands_there net 64 header l none in known_label net header there.i (l, there.class) is known there.at
refused_known net header no_value.Memory is known none = tt
