-- How right-hand sides are kept.
use Rattle.std.specs.Prelude.{◌<◌, List, length, slice_index_or}
use Rattle.wi_saturate.specs.declared.sides.Side.{Side}
use Rattle.wi_saturate.specs.declared.sides.SmallSide.{SmallSide}

-- the side that is kept so, with its weight
abbrev pub side_of : {W : Type 0} → List W → W → SmallSide → Side W
side_of weights unit small = record {
  weight = slice_index_or weights small.weight unit;
  to = small.to;
  tag = small.tag;
  at = small.at;
  word = small.word;
  keeps_top = small.keeps_top;
}

-- its weight is one of the weights
abbrev pub IsWithin : {W : Type 0} → List W → SmallSide → Type 0
IsWithin weights small = small.weight < length weights
