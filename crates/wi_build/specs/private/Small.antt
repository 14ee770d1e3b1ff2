-- Sizes of layouts.
use Rattle.std.specs.Prelude.{◌<◌}
use Rattle.wi_rules.specs.Numbers.{Layout}

-- the parts of a layout are as few as a network and a query allow
pub record IsSmall (y : Layout) : Type 0 where
  pub first : y.first < 1024
  pub last : y.last < 1024
  pub path : y.path < 1024
  pub links : y.links < 32768
  pub members : y.members < 524288
