-- What a search is after one thing that was found was followed.
use Rattle.std.specs.Prelude.{ℕ, Bool, List, [], ◌∷◌, map, nat_eq, if◌then◌else◌, ◌==◌}
use Rattle.wi_pds.specs.declared.rule.Rule.{Rule}
use Rattle.wi_pds.specs.declared.rule.Word2.{Word2}
use Rattle.wi_pds.specs.declared.rule.Word2.TheVariants.{Empty, One, Two}
use Rattle.wi_reduce.specs.declared.search.Search.{Search}
use Rattle.wi_reduce.specs.private.Worklists.{added, added_all, eq_by_parts, seconds}

-- whether two heads, or two pairs, are the same
abbrev pub pair_eq : ℕ × ℕ → ℕ × ℕ → Bool
pair_eq = eq_by_parts nat_eq nat_eq

-- u in the place of g; a symbol hands nothing on to itself
abbrev pub swap_noted : Search → ℕ → ℕ → Search
swap_noted s g u = if g == u then s else record s { swaps = added pair_eq s.swaps (g, u) }

-- a rule over g that goes to a state and writes a word
abbrev pub noted : Search → ℕ → ℕ → Word2 → Search
noted s g to Empty = record s { pops = added pair_eq s.pops (g, to) }
noted s g to (One u) = swap_noted (record s { heads = added pair_eq s.heads (to, u) }) g u
noted s g to (Two u v) = swap_noted (record s { heads = added pair_eq s.heads (to, u); pairs = added pair_eq s.pairs (u, v) }) g v

-- each of some rules over g
abbrev pub noted_all : {W : Type 0} → Search → ℕ → List (Rule W) → Search
noted_all s g [] = s
noted_all s g (r ∷ rs) = noted_all (noted s g r.to r.word) g rs

-- the pair of g and x
abbrev pub pair_followed : Search → ℕ → ℕ → Search
pair_followed s g x = record s {
  heads = added_all pair_eq s.heads (map (λ to. (to, x)) (seconds g s.pops.0));
  pairs = added_all pair_eq s.pairs (map (λ v. (v, x)) (seconds g s.swaps.0));
}

-- a pop of g to a state
abbrev pub pop_followed : Search → ℕ → ℕ → Search
pop_followed s g to = record s { heads = added_all pair_eq s.heads (map (λ x. (to, x)) (seconds g s.pairs.0)) }

-- v in the place of g
abbrev pub swap_followed : Search → ℕ → ℕ → Search
swap_followed s g v = record s { pairs = added_all pair_eq s.pairs (map (λ x. (v, x)) (seconds g s.pairs.0)) }
