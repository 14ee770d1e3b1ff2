-- Label stacks that were read off bytes.
use Rattle.std.specs.Prelude.{ℕ, List, ◌++◌, codes}
use Rattle.std.specs.Fmt.{decimal}
use Rattle.wi_wire.specs.declared.entry.Entry.{Entry}
use Rattle.wi_wire.specs.Stacks.{each_entry}

-- a part of an entry behind its name
unfoldable pub part_shown : List ℕ → ℕ → List ℕ
part_shown name part = name ++ decimal part

-- the line of an entry, whose S is given
abbrev pub entry_line : ℕ → Entry → List ℕ
entry_line s e = part_shown (codes "label ") e.label ++ part_shown (codes " exp ") e.exp ++ part_shown (codes " s ") s ++ part_shown (codes " ttl ") e.ttl ++ codes "\n"

-- a line for each entry of a stack, top first, and how many bytes follow it
abbrev pub stack_shown : List Entry → ℕ → List ℕ
stack_shown entries rest = each_entry entry_line entries ++ (codes "rest: " ++ decimal rest ++ codes " bytes\n")
