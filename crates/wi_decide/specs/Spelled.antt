-- The run that the rules of a goal run spell: the labels of its first header from the bottom, its first link, its
-- steps, its end.
use Rattle.std.specs.Prelude.{◌≡◌, ℕ, List}
use Rattle.wi_weight.specs.declared.kinds.Pair.{Pair}
use Rattle.wi_weight.specs.declared.kinds.Terms.{Terms}
use Rattle.wi_weight.specs.declared.kinds.Effort.{Effort}
use Rattle.wi_net.specs.Net.{Net}
use Rattle.wi_pds.specs.declared.rule.Rule.{Rule}
use Rattle.wi_rules.specs.declared.spot.Origin.{Origin}
use Rattle.wi_rules.specs.Numbers.{Layout, layout_of}
use Rattle.wi_build.specs.Tags.{origin_of}
use Rattle.wi_build.specs.Problems.{Problem, IsProblem}
use Rattle.wi_build.specs.Encodings.{encoding_of}
use Rattle.wi_build.specs.Systems.{rules_by}

-- what a rule stands for
abbrev pub origin : Rule (Pair Terms Effort) → Origin
origin rule = origin_of rule.tag

-- a system's rules are those of a network and a query, and a layout numbers their spots
pub record AreRulesFor (problem : Problem) (net : Net) (layout : Layout) (rules : ℕ → ℕ → List (Rule (Pair Terms Effort))) : Type 0 where
  pub is_problem : IsProblem problem
  pub net_is : problem.net ≡ net
  pub layout_is : layout ≡ layout_of (encoding_of problem)
  pub rules_are : rules ≡ rules_by (encoding_of problem)
