-- Right-hand sides of rules.
use Rattle.std.specs.Prelude.{ℕ, Bool, true, false, List}
use Rattle.wi_pds.specs.declared.rule.Word2.{Word2}
use Rattle.wi_pds.specs.declared.rule.Word2.TheVariants.{Empty, One, Two}
use Rattle.wi_saturate.specs.declared.sides.Side.{Side}

-- sides, and the weight that no rule need have
pub record SidesView (W : Type 0) : Type 0 where
  pub items : List (Side W)
  pub unit : W

-- the word that a rule over the top writes: with the top below all else, if it keeps it
abbrev pub whole_word : ℕ → Word2 → Bool → Word2
whole_word top Empty true = One top
whole_word top (One u) true = Two u top
whole_word top (Two u v) true = Two u v
whole_word top word false = word
