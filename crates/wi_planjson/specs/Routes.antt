-- First places in a list of links.
use Rattle.std.specs.Prelude.{ℕ, ◌+◌, List, [], ◌∷◌, ◌++◌, Option, Some, None, if◌then◌else◌}
use Rattle.wi_net.specs.declared.parts.LinkId.{LinkId}
use Rattle.wi_net.specs.Net.{Net}
use Rattle.wi_net.specs.LinkSet.{has}
use Rattle.wi_plan.specs.Plans.{meets}

-- the first place, past one, of a link that doesn't leave the router that the link before reaches
abbrev pub break_from : Net → ℕ → List LinkId → Option ℕ
break_from net j [] = None
break_from net j (e ∷ []) = None
break_from net j (e ∷ f ∷ links) = if meets net e f then break_from net (j + 1) (f ∷ links) else Some (j + 1)

abbrev pub first_break : Net → List LinkId → Option ℕ
first_break net links = break_from net 0 links

-- the first place of a link that stands earlier
abbrev pub repeat_from : List LinkId → ℕ → List LinkId → Option ℕ
repeat_from before j [] = None
repeat_from before j (e ∷ links) = if has before e then Some j else repeat_from (before ++ e ∷ []) (j + 1) links

abbrev pub first_repeat : List LinkId → Option ℕ
first_repeat links = repeat_from [] 0 links
