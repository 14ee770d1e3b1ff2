-- Why bytes begin with no label stack.
use Rattle.std.specs.Prelude.{ℕ, ◌+◌, List, ◌++◌, codes}
use Rattle.std.specs.Fmt.{decimal}
use Rattle.wi_wire.specs.declared.refused.StackRefused.{StackRefused}
use Rattle.wi_wire.specs.declared.refused.StackRefused.TheVariants.{Memory, Cut, Reserved}

-- which entry is meant, counted from 1
unfoldable pub place_of : ℕ → List ℕ
place_of i = codes "wire: entry " ++ decimal (i + 1)

-- why bytes begin with no stack
abbrev pub stack_refused_text : StackRefused → List ℕ
stack_refused_text (Cut i) = place_of i ++ codes " cut\n"
stack_refused_text (Reserved i label) = place_of i ++ (codes " reserved label " ++ decimal label ++ codes "\n")
stack_refused_text Memory = codes "whatif: out of memory\n"
