-- The rules of a list, head by head.
use Rattle.std.specs.Prelude.{◌≡◌, ℕ, List, ◌==◌, ◌&&◌}
use Rattle.std.specs.List.{filter}
use Rattle.wi_pds.specs.declared.rule.Rule.{Rule}

-- the rules of the head (p, g), in the order of the list
abbrev pub rules_at : {W : Type 0} → List (Rule W) → ℕ → ℕ → List (Rule W)
rules_at rules p g = filter (λ rule. (rule.from == p) && (rule.top == g)) rules

-- the rule names the head (p, g)
abbrev pub IsOf : {W : Type 0} → ℕ → ℕ → Rule W → Type 0
IsOf p g rule = (rule.from ≡ p) × (rule.top ≡ g)
