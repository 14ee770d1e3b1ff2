-- The rules of each head are few, and fit.
use Rattle.std.proofs.Common.{◌≡◌, ℕ, true, List}
use Rattle.wi_quantity.specs.Vectors.{is_vector}
use Rattle.wi_quantity.specs.Weighing.{components}
use Rattle.wi_saturate.specs.LeastTables.{AreReady}
use Rattle.wi_build.specs.Problems.{Problem, IsProblem}
use Rattle.wi_build.specs.Encodings.{encoding_of}
use Rattle.wi_build.specs.Systems.{rules_by}
use Rattle.wi_build.proofs.FitLemmas.{few, fit}

pub ready : (problem : Problem) (heads : List (ℕ × ℕ)) → IsProblem problem → is_vector problem.vector ≡ true
    → AreReady components (rules_by (encoding_of problem)) heads
ready problem heads k v = record { count = λ p g h. few problem k p g; small = λ p g r h there. fit problem k v p g r there }
