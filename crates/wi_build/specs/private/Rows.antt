-- The rules of a head as code makes them.
use Rattle.std.specs.Prelude.{ℕ, nat_lt, if◌then◌else◌, List, ◌++◌, ◌∷◌, [], length, map, replicate}
use Rattle.wi_weight.specs.declared.kinds.Pair.{Pair}
use Rattle.wi_weight.specs.declared.kinds.Terms.{Terms}
use Rattle.wi_weight.specs.declared.kinds.Effort.{Effort}
use Rattle.wi_net.specs.declared.parts.Member.{Member}
use Rattle.wi_net.specs.Net.{entry}
use Rattle.wi_world.specs.declared.run.Step.{Step}
use Rattle.wi_pds.specs.declared.rule.Rule.{Rule}
use Rattle.wi_pds.specs.declared.rule.Word2.{Word2}
use Rattle.wi_rules.specs.declared.spot.Spot.{Spot}
use Rattle.wi_rules.specs.declared.spot.Spot.TheVariants as spot
use Rattle.wi_rules.specs.declared.spot.Origin.TheVariants.{Nothing}
use Rattle.wi_rules.specs.Rules.{Encoding, SpotRule, each_at, each_member, hop_rules, undefined_rules, rules_of}
use Rattle.wi_rules.specs.Numbers.{layout_of, number, numbered}
use Rattle.wi_build.specs.declared.head.Head.{Head}
use Rattle.wi_build.specs.declared.head.Made.{Made}
use Rattle.wi_build.specs.declared.head.Arrival.{Arrival}
use Rattle.wi_build.specs.declared.head.Fate.{Fate}
use Rattle.wi_build.specs.declared.head.Fate.TheVariants.{Travels, Lost}
use Rattle.wi_build.specs.declared.head.Way.{Way}
use Rattle.wi_build.specs.declared.head.Way.TheVariants as way
use Rattle.wi_build.specs.Tags.{tag_of}
use Rattle.wi_build.specs.Problems.{Problem}
use Rattle.wi_build.specs.Encodings.{encoding_of}
use Rattle.wi_build.specs.Systems.{weight, rule_at}

-- a rule of a head, as the definition has it
abbrev pub rule_of : Encoding → Head → SpotRule → Rule (Pair Terms Effort)
rule_of s head r = rule_at head.spot head.symbol (numbered s r)

abbrev pub rules_for : Encoding → Head → List SpotRule → List (Rule (Pair Terms Effort))
rules_for s head rs = map (rule_of s head) rs

-- and as code makes it
abbrev pub rule_made : Encoding → Head → Spot → Made → Rule (Pair Terms Effort)
rule_made s head to made = record {
  from = head.spot;
  top = head.symbol;
  to = number (layout_of s) to;
  word = made.word;
  weight = made.weight;
  tag = tag_of made.origin;
}

-- the rules of a head, by its spot
abbrev pub head_rules : Problem → Head → Spot → List (Rule (Pair Terms Effort))
head_rules problem head to = rules_for (encoding_of problem) head (rules_of (encoding_of problem) to head.symbol)

-- what a rule is made of that adds to no term and stands for nothing
abbrev pub plain_made : Word2 → Made
plain_made word = record { word = word; weight = weight (replicate 5 0 ++ 1 ∷ []); origin = Nothing }

-- where rules lead that differ in a state alone
abbrev pub spot_on : Way → ℕ → Spot
spot_on way.Build q = spot.Build q
spot_on way.Close q = spot.Close q
spot_on (way.OnLink e) q = spot.OnLink e q
spot_on (way.Amid m i) q = spot.Mid m i q

-- where the first operations of a member lead
abbrev pub way_through : Member → ℕ → ℕ → Way
way_through member m i = if nat_lt i (length member.ops) then way.Amid m i else way.OnLink member.link

-- the rules for one member of an entry, by what becomes of a packet that takes it
abbrev pub member_rules : Encoding → Arrival → Fate → Step → Member → List SpotRule
member_rules s at Travels = hop_rules s at.link at.state at.top
member_rules s at Lost = undefined_rules s at.link at.top

-- those for the members of one group
abbrev pub group_rules : Encoding → Arrival → Fate → ℕ → List Member → List SpotRule
group_rules s at fate j group = each_at (λ i member. member_rules s at fate (record { group = j; member = i }) member) 0 group

-- those for the members of all groups
abbrev pub fate_rules : Encoding → Arrival → Fate → List SpotRule
fate_rules s at fate = each_member (member_rules s at fate) (entry s.net at.link at.top)
