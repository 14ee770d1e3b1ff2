-- Least summaries of the ways around a link.
use Rattle.std.specs.Prelude.{ℕ, List, [], ◌∷◌, None, option_map}
use Rattle.wi_weight.specs.Weights.{Scale}
use Rattle.wi_weight.specs.Kinds.{pair_scale, effort_scale}
use Rattle.wi_weight.specs.declared.kinds.Pair.{Pair}
use Rattle.wi_weight.specs.declared.kinds.Effort.{Effort}
use Rattle.wi_saturate.specs.Rows.{TableView}
use Rattle.wi_saturate.specs.LeastTables.{IsLeastTable}
use Rattle.wi_detour.specs.private.Around.{Around, rules_around}

-- how lengths compare: by the distance, and then by the number of links
abbrev pub scale : Scale
scale = pair_scale effort_scale effort_scale

abbrev pub components : Pair Effort Effort → List ℕ
components w = w.first.count ∷ w.second.count ∷ []

-- from the start with the symbol alone to the end, over some heads
pub record HasTable (a : Around) (table : TableView (Pair Effort Effort)) : Type 0 where
  pub heads : List (ℕ × ℕ)
  pub least : IsLeastTable scale components (rules_around a) heads (0, 0, 1) None table.rows (option_map components table.best)
