-- The rules of a network and a query as those of a pushdown system (Schwoon 2002), and their list.
use Rattle.std.specs.Prelude.{ℕ, suc, ◌+◌, ◌*◌, if◌then◌else◌, List, length, map, slice_index}
use Rattle.std.specs.List.{flat_map, range_with_len}
use Rattle.wi_weight.specs.Weights.{Scale}
use Rattle.wi_weight.specs.Kinds.{pair_scale, terms_scale, effort_scale}
use Rattle.wi_weight.specs.declared.kinds.Pair.{Pair}
use Rattle.wi_weight.specs.declared.kinds.Terms.{Terms}
use Rattle.wi_weight.specs.declared.kinds.Effort.{Effort}
use Rattle.wi_pds.specs.declared.rule.Rule.{Rule}
use Rattle.wi_rules.specs.Rules.{Encoding}
use Rattle.wi_rules.specs.Numbers.{Layout, NumberedRule, layout_of, rules_at_number}
use Rattle.wi_build.specs.Problems.{Problem}
use Rattle.wi_build.specs.Encodings.{encoding_of}
use Rattle.wi_build.specs.Tags.{tag_of}

-- how weights compare: by five terms, and then by the effort
abbrev pub scale : Scale
scale = pair_scale terms_scale effort_scale

-- the weight of six components
abbrev pub weight : List ℕ → Pair Terms Effort
weight xs = record {
  first = record {
    first = slice_index xs 0;
    second = slice_index xs 1;
    third = slice_index xs 2;
    fourth = slice_index xs 3;
    fifth = slice_index xs 4;
  };
  second = record { count = slice_index xs 5 };
}

-- the rule of a head, both its parts numbers
abbrev pub rule_at : ℕ → ℕ → NumberedRule → Rule (Pair Terms Effort)
rule_at n g r = record { from = n; top = g; to = r.to; word = r.word; weight = weight r.weight; tag = tag_of r.origin }

-- the rules of a head, in order
abbrev pub rules_by : Encoding → ℕ → ℕ → List (Rule (Pair Terms Effort))
rules_by s n g = map (λ r. rule_at n g r) (rules_at_number s n g)

-- the rules of a problem, head by head
abbrev pub rules : Problem → ℕ → ℕ → List (Rule (Pair Terms Effort))
rules problem = rules_by (encoding_of problem)

-- how many numbers of spots there are
abbrev pub spot_count : Layout → ℕ
spot_count y = suc (suc (y.first + (y.last + (y.links * y.path + (y.members * 7 * y.path + (if y.drops then y.members * 7 else 0))))))

-- the rules of all heads: by rising spot, then by rising symbol
abbrev pub spot_rules : Encoding → ℕ → List (Rule (Pair Terms Effort))
spot_rules s n = flat_map (rules_by s n) (range_with_len 0 (suc (length s.net.classes)))

abbrev pub all_rules : Encoding → List (Rule (Pair Terms Effort))
all_rules s = flat_map (spot_rules s) (range_with_len 0 (spot_count (layout_of s)))
