-- The rules of the systems that the tests ask about, in order.
use Rattle.std.specs.Prelude.{List, [], ◌∷◌}
use Rattle.wi_pds.specs.declared.rule.Rule.{Rule}
use Rattle.wi_pds.specs.declared.rule.Word2.TheVariants.{Empty, One, Two}

abbrev pub two_ways_list : {W : Type 0} → W → W → W → List (Rule W)
two_ways_list one two five =
    record { from = 0; top = 0; to = 2; word = Two 1 0; weight = one; tag = 0 }
    ∷ record { from = 2; top = 1; to = 2; word = Empty; weight = five; tag = 1 }
    ∷ record { from = 2; top = 1; to = 3; word = Empty; weight = two; tag = 2 }
    ∷ record { from = 2; top = 0; to = 1; word = Empty; weight = one; tag = 3 }
    ∷ record { from = 3; top = 0; to = 1; word = Empty; weight = one; tag = 4 }
    ∷ []

abbrev pub doubling_list : {W : Type 0} → W → W → List (Rule W)
doubling_list one base =
    record { from = 0; top = 0; to = 0; word = Empty; weight = base; tag = 0 }
    ∷ record { from = 0; top = 1; to = 0; word = Two 0 0; weight = one; tag = 0 }
    ∷ record { from = 0; top = 2; to = 0; word = Two 1 1; weight = one; tag = 0 }
    ∷ record { from = 0; top = 3; to = 0; word = One 2; weight = one; tag = 0 }
    ∷ []
