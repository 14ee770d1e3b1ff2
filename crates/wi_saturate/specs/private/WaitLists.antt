-- Lists of what waits.
use Rattle.std.specs.Prelude.{ℕ, List}
use Rattle.wi_saturate.specs.declared.waits.Wait.{Wait}

pub record WaitsView : Type 0 where
  pub items : List Wait

-- a rule and a row, by their numbers
abbrev pub wait_of : ℕ × ℕ → Wait
wait_of p = record { rule = p.0; row = p.1 }
