-- Questions: the rules of listed heads, a goal and a cut.
use Rattle.std.specs.Prelude.{ℕ, List}
use Rattle.wi_pds.specs.declared.rule.Rule.{Rule}
use Rattle.wi_pds.specs.Closed.{AreClosed}
use Rattle.wi_saturate.specs.declared.saturation.Question.{Question}
use Rattle.wi_saturate.specs.LeastTables.{AreReady}
use Rattle.wi_saturate.specs.private.Indexes.{IsIndex}

-- the rules are indexed, few enough and fit, and the listed heads are closed from the goal's head on
pub record IsAsked {W : Type 0} (c : W → List ℕ) (rules : ℕ → ℕ → List (Rule W)) (asked : Question W) : Type 0 where
  pub index : IsIndex c rules asked.index.now
  pub ready : AreReady c rules asked.index.now.rules.heads
  pub pairs : List (ℕ × ℕ)
  pub closed : AreClosed rules (asked.goal.0, asked.goal.1) asked.index.now.rules.heads pairs
