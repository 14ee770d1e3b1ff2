-- Rules of listed heads, and how they are kept.
use Rattle.std.specs.Prelude.{ℕ, ◌<◌, false, List, length, slice_index_or}
use Rattle.wi_pds.specs.declared.rule.Word2.TheVariants.{Empty}
use Rattle.wi_saturate.specs.declared.rules.Ruled.{Ruled}
use Rattle.wi_saturate.specs.declared.sides.Side.{Side}
use Rattle.wi_saturate.specs.private.Sides.{SidesView, whole_word}

-- the heads, and rules of them
pub record RulesView (W : Type 0) : Type 0 where
  pub heads : List (ℕ × ℕ)
  pub items : List (Ruled W)

-- the rule of the head at a place with a right-hand side
abbrev pub rule_by : {W : Type 0} → ℕ → ℕ × ℕ → Side W → Ruled W
rule_by place head side = record {
  head = place;
  at = side.at;
  rule = record {
    weight = side.weight;
    from = head.0;
    to = side.to;
    tag = side.tag;
    top = head.1;
    word = whole_word head.1 side.word side.keeps_top;
  };
}

-- what stands in definitions for the side of a number that names none
abbrev pub no_side : {W : Type 0} → W → Side W
no_side unit = record { weight = unit; to = 0; tag = 0; at = 0; word = Empty; keeps_top = false }

-- the rule that a head's place and a side's number stand for
abbrev pub rule_of : {W : Type 0} → List (ℕ × ℕ) → SidesView W → ℕ × ℕ → Ruled W
rule_of heads sides link = rule_by link.0 (slice_index_or heads link.0 (0, 0)) (slice_index_or sides.items link.1 (no_side sides.unit))

-- they are a head's place and a side's number
abbrev pub IsLink : {W : Type 0} → List (ℕ × ℕ) → SidesView W → ℕ × ℕ → Type 0
IsLink heads sides link = (link.0 < length heads) × (link.1 < length sides.items)
