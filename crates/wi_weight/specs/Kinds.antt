-- The kinds of weight of this crate.
use Rattle.std.specs.Prelude.{ℕ, ◌+◌, take, drop}
use Rattle.std.specs.Cmp.Lexicographic.{slice_cmp}
use Rattle.std.specs.Ordering.{nat_cmp, ordering_then}
use Rattle.wi_weight.specs.Weights.{Scale}

-- n numbers in dictionary order: the first that differs decides
abbrev pub lex_scale : ℕ → Scale
lex_scale n = record { arity = n; order = slice_cmp nat_cmp }

-- no number: there is one weight
abbrev pub reach_scale : Scale
reach_scale = lex_scale 0

-- one number
abbrev pub effort_scale : Scale
effort_scale = lex_scale 1

-- five numbers, the first decides first
abbrev pub terms_scale : Scale
terms_scale = lex_scale 5

-- the components of the first part, then those of the second; the first part decides first
abbrev pub pair_scale : Scale → Scale → Scale
pair_scale m n = record {
  arity = m.arity + n.arity;
  order = λ a b. ordering_then (m.order (take m.arity a) (take m.arity b)) (n.order (drop m.arity a) (drop m.arity b));
}
