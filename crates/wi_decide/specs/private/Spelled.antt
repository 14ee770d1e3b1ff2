-- How the rules of a goal run tell a run, rule by rule.
use Rattle.std.specs.Prelude.{◌≡◌, ℕ, Bool, true, false, nat_lt, List, [], ◌∷◌, ◌++◌, length, reverse, slice_get, unwrap_or, Option, Some, None}
use Rattle.std.specs.Option.{option_map_or}
use Rattle.wi_labels.specs.declared.label.Label.{Label}
use Rattle.wi_labels.specs.declared.label.Class.TheVariants.{Ip}
use Rattle.wi_labels.specs.Header.{Entry}
use Rattle.wi_weight.specs.declared.kinds.Pair.{Pair}
use Rattle.wi_weight.specs.declared.kinds.Terms.{Terms}
use Rattle.wi_weight.specs.declared.kinds.Effort.{Effort}
use Rattle.wi_net.specs.declared.parts.LinkId.{LinkId}
use Rattle.wi_net.specs.Net.{Net}
use Rattle.wi_world.specs.declared.run.Step.{Step}
use Rattle.wi_world.specs.declared.run.Run.{Run}
use Rattle.wi_world.specs.declared.run.End.{End}
use Rattle.wi_world.specs.declared.run.End.TheVariants.{Arrives}
use Rattle.wi_pds.specs.declared.rule.Rule.{Rule}
use Rattle.wi_pds.specs.declared.rule.RuleId.{RuleId}
use Rattle.wi_rules.specs.declared.spot.Origin.{Origin}
use Rattle.wi_rules.specs.declared.spot.Origin.TheVariants.{Pushed, SetOut, Hop, Ending}
use Rattle.wi_decide.specs.Spelled.{origin}

-- a run as far as rules have told of it: the labels of its first header from the bottom, its first link, its steps, its end
pub record Spelled : Type 0 where
  pub from_bottom : List Entry
  pub first : Option LinkId
  pub steps : List Step
  pub end : End

abbrev pub unspelled : Spelled
unspelled = record { from_bottom = []; first = None; steps = []; end = Arrives }

-- a label with its class in the network
abbrev pub classed : Net → Label → Entry
classed net l = (l, unwrap_or (slice_get net.classes l.0) Ip)

-- what is told once a rule was read that stands for this
abbrev pub with_origin : Net → Spelled → Origin → Spelled
with_origin net s (Pushed l) = record s { from_bottom = s.from_bottom ++ classed net l ∷ [] }
with_origin net s (SetOut e) = record s { first = Some e }
with_origin net s (Hop step) = record s { steps = s.steps ++ step ∷ [] }
with_origin net s (Ending end) = record s { end = end }
with_origin net s o = s

-- the rule that an id names
abbrev pub named : (ℕ → ℕ → List (Rule (Pair Terms Effort))) → RuleId → Option (Rule (Pair Terms Effort))
named rules id = slice_get (rules id.p id.g) id.at

-- what is told once the rules were read that ids name
abbrev pub with_rules : Net → (ℕ → ℕ → List (Rule (Pair Terms Effort))) → Spelled → List RuleId → Spelled
with_rules net rules s [] = s
with_rules net rules s (id ∷ ids) = with_rules net rules (option_map_or (λ rule. with_origin net s (origin rule)) (named rules id) s) ids

-- a label that is pushed is the network's
abbrev pub is_origin_of : Net → Origin → Bool
is_origin_of net (Pushed l) = nat_lt l.0 (length net.labels)
is_origin_of net o = true

-- an id names a rule, which stands for something of the network
abbrev pub is_named : Net → (ℕ → ℕ → List (Rule (Pair Terms Effort))) → RuleId → Bool
is_named net rules id = option_map_or (λ rule. is_origin_of net (origin rule)) (named rules id) false

-- the whole run that was told
pub record IsSpelledRun (s : Spelled) (run : Run) : Type 0 where
  pub first : s.first ≡ Some run.first
  pub header : run.header ≡ reverse s.from_bottom
  pub steps : run.steps ≡ s.steps
  pub end : run.end ≡ s.end
