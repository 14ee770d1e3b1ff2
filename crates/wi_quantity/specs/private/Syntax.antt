-- How a weights text is read byte by byte.
use Rattle.std.specs.Prelude.{ℕ, Bool, true, false, ◌&&◌, ◌==◌, nat_le, if◌then◌else◌, List, Option, Some, None}
use Rattle.wi_text.specs.Characters.{is_space, is_letter}
use Rattle.wi_text.specs.private.Machines.{first_stop}
use Rattle.wi_quantity.specs.declared.written.Class.{Class}
use Rattle.wi_quantity.specs.declared.written.Class.TheVariants.{Space, Zero, Nonzero, Letter, Star, Plus, Comma, Other}
use Rattle.wi_quantity.specs.declared.written.Stage.{Stage}
use Rattle.wi_quantity.specs.declared.written.Stage.TheVariants.{Start, AfterZero, InNumber, AfterNumber, AfterStar, InWord, AfterWord}

-- a byte's kind
abbrev pub class_of : ℕ → Class
class_of b =
    if is_space b then Space
    else (if b == 48 then Zero
    else (if nat_le 49 b && nat_le b 57 then Nonzero
    else (if is_letter b then Letter
    else (if b == 42 then Star
    else (if b == 43 then Plus
    else (if b == 44 then Comma else Other))))))

-- where a byte of a kind leads
abbrev pub next_stage : Stage → Class → Option Stage
next_stage Start Space = Some Start
next_stage Start Zero = Some AfterZero
next_stage Start Nonzero = Some InNumber
next_stage Start Letter = Some InWord
next_stage Start _ = None
next_stage AfterZero Space = Some AfterNumber
next_stage AfterZero Star = Some AfterStar
next_stage AfterZero _ = None
next_stage InNumber Zero = Some InNumber
next_stage InNumber Nonzero = Some InNumber
next_stage InNumber Space = Some AfterNumber
next_stage InNumber Star = Some AfterStar
next_stage InNumber _ = None
next_stage AfterNumber Space = Some AfterNumber
next_stage AfterNumber Star = Some AfterStar
next_stage AfterNumber _ = None
next_stage AfterStar Space = Some AfterStar
next_stage AfterStar Letter = Some InWord
next_stage AfterStar _ = None
next_stage InWord Letter = Some InWord
next_stage InWord Space = Some AfterWord
next_stage InWord Plus = Some Start
next_stage InWord Comma = Some Start
next_stage InWord _ = None
next_stage AfterWord Space = Some AfterWord
next_stage AfterWord Plus = Some Start
next_stage AfterWord Comma = Some Start
next_stage AfterWord _ = None

-- whether the text may end there
abbrev pub may_end : Stage → Bool
may_end InWord = true
may_end AfterWord = true
may_end Start = false
may_end AfterZero = false
may_end InNumber = false
may_end AfterNumber = false
may_end AfterStar = false

abbrev pub next_after : Stage → ℕ → Option Stage
next_after stage b = next_stage stage (class_of b)

-- where the reading of a text stops
abbrev pub stop : Stage → ℕ → List ℕ → Option ℕ
stop stage i text = first_stop next_after may_end stage i text
