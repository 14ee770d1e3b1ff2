-- What is known while a file is read line by line.
use Rattle.std.specs.Prelude.{◌≡◌, ◌⊎◌, ℕ, ◌+◌, List, [], ◌∷◌, ◌++◌, length, Result, Ok, Err, Option, Some, None}
use Rattle.wi_text.specs.Lines.{AreLines, lines_bytes}
use Rattle.wi_net.specs.declared.bounds.Bounds.{Bounds}
use Rattle.wi_net.specs.Net.{Net}
use Rattle.wi_policy.specs.declared.policy.Policy.{Policy}
use Rattle.wi_policy.specs.declared.policy.PoliciesRefused.{PoliciesRefused}
use Rattle.wi_policy.specs.declared.policy.PoliciesRefused.TheVariants.{AtLine, NoPolicy, Memory}
use Rattle.wi_policy.specs.Policies.{IsPolicy, SaysNothing, ArePolicies, IsLineFault}

-- the line of a number has a fault, or memory was wanting
abbrev pub IsRefusedLine : Net → Bounds → ℕ → List ℕ → PoliciesRefused → Type 0
IsRefusedLine net given n line (AtLine m fault) = (m ≡ n) × IsLineFault net given line fault
IsRefusedLine net given n line NoPolicy = ⊥
IsRefusedLine net given n line Memory = Unit {0}

-- what was answered of a line that says something
abbrev pub IsPolicyOrFault : Net → Bounds → ℕ → List ℕ → Result Policy PoliciesRefused → Type 0
IsPolicyOrFault net given n line (Ok policy) = IsPolicy net given n line policy
IsPolicyOrFault net given n line (Err refused) = IsRefusedLine net given n line refused

-- what was answered of a line
abbrev pub IsLineRead : Net → Bounds → ℕ → List ℕ → Result (Option Policy) PoliciesRefused → Type 0
IsLineRead net given n line (Ok None) = SaysNothing line
IsLineRead net given n line (Ok (Some policy)) = IsPolicy net given n line policy
IsLineRead net given n line (Err refused) = IsRefusedLine net given n line refused

-- a line adds its policy to a list, if it is one
abbrev pub Adds : Net → Bounds → ℕ → List ℕ → List Policy → List Policy → Type 0
Adds net given n line old new = (SaysNothing line × (new ≡ old)) ⊎ ((policy : Policy) × IsPolicy net given n line policy × (new ≡ old ++ policy ∷ []))

-- the lines before a number have these policies, and what is left begins behind them
pub record Walked (net : Net) (given : Bounds) (bytes : List ℕ) (policies : List Policy) (left : List ℕ) (n : ℕ) : Type 0 where
  pub before : List (List ℕ)
  pub each : AreLines before
  pub cut : bytes ≡ lines_bytes before ++ left
  pub says : ArePolicies net given 1 before policies
  pub number : n ≡ length before + 1
