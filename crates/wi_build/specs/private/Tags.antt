-- The origins that a tag has room for.
use Rattle.std.specs.Prelude.{◌<◌}
use Rattle.wi_world.specs.declared.run.End.TheVariants.{Arrives, Inactive, Undefined}
use Rattle.wi_rules.specs.declared.spot.Origin.{Origin}
use Rattle.wi_rules.specs.declared.spot.Origin.TheVariants.{Pushed, SetOut, Hop, Operation, Ending, Nothing}

-- the numbers have room in a tag
abbrev pub IsWithin : Origin → Type 0
IsWithin Nothing = Unit {0}
IsWithin (Pushed l) = l.0 < 1073741824
IsWithin (SetOut e) = e.0 < 1073741824
IsWithin (Hop step) = (step.group < 1073741824) × (step.member < 1073741824)
IsWithin (Operation m i) = (m < 1073741824) × (i < 1073741824)
IsWithin (Ending Arrives) = Unit {0}
IsWithin (Ending Inactive) = Unit {0}
IsWithin (Ending (Undefined step)) = (step.group < 1073741824) × (step.member < 1073741824)
