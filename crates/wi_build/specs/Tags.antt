-- What a rule's tag says of what the rule stands for: a kind, and up to two numbers below 2^30.
use Rattle.std.specs.Prelude.{ℕ, zero, suc, ◌+◌, ◌*◌, ◌/◌, ◌%◌}
use Rattle.wi_world.specs.declared.run.End.TheVariants.{Arrives, Inactive, Undefined}
use Rattle.wi_rules.specs.declared.spot.Origin.{Origin}
use Rattle.wi_rules.specs.declared.spot.Origin.TheVariants.{Pushed, SetOut, Hop, Operation, Ending, Nothing}

abbrev pub tagged : ℕ → ℕ → ℕ → ℕ
tagged kind a b = kind + 8 * (b + 1073741824 * a)

abbrev pub tag_of : Origin → ℕ
tag_of Nothing = 0
tag_of (Pushed l) = tagged 1 l.0 0
tag_of (SetOut e) = tagged 2 e.0 0
tag_of (Hop step) = tagged 3 step.group step.member
tag_of (Operation m i) = tagged 4 m i
tag_of (Ending Arrives) = tagged 5 0 0
tag_of (Ending Inactive) = tagged 6 0 0
tag_of (Ending (Undefined step)) = tagged 7 step.group step.member

-- what a kind and two numbers say
abbrev pub origin_by : ℕ → ℕ → ℕ → Origin
origin_by (suc zero) a b = Pushed (record { 0 = a })
origin_by (suc (suc zero)) a b = SetOut (record { 0 = a })
origin_by (suc (suc (suc zero))) a b = Hop (record { group = a; member = b })
origin_by (suc (suc (suc (suc zero)))) a b = Operation a b
origin_by (suc (suc (suc (suc (suc zero))))) a b = Ending Arrives
origin_by (suc (suc (suc (suc (suc (suc zero)))))) a b = Ending Inactive
origin_by (suc (suc (suc (suc (suc (suc (suc zero))))))) a b = Ending (Undefined (record { group = a; member = b }))
origin_by _ a b = Nothing

abbrev pub origin_of : ℕ → Origin
origin_of tag = origin_by (tag % 8) (tag / 8 / 1073741824) (tag / 8 % 1073741824)
