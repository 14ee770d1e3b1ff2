-- A text means one vector.
use Rattle.std.proofs.Common.{◌≡◌, ℕ, List, [], ◌∷◌, Option, Some, map, refl, sym, ap, ◌∙◌}
use Rattle.wi_quantity.specs.declared.vector.Part.{Part}
use Rattle.wi_quantity.specs.Written.{Written, parts_of, terms_of}
use Rattle.wi_quantity.specs.Faults.{Means, part_meant}
use Rattle.wi_quantity.proofs.Readings.{one_way}

same_parts : (x y : List Part) → map Some x ≡ map Some y → x ≡ y
same_parts [] [] e = refl
same_parts [] (b ∷ y) e = cc
same_parts (a ∷ x) [] e = cc
same_parts (a ∷ x) (b ∷ y) e = let rest = same_parts x y cc in cc

same_terms : (v u : List (List Part)) → map (λ term. map Some term) v ≡ map (λ term. map Some term) u → v ≡ u
same_terms [] [] e = refl
same_terms [] (y ∷ u) e = cc
same_terms (x ∷ v) [] e = cc
same_terms (x ∷ v) (y ∷ u) e = let parts = same_parts x y cc in let rest = same_terms v u cc in cc

-- the terms that are meant, where their quantities are known
abbrev meant_by : Written → List (List (Option Part))
meant_by w = map (λ term. map part_meant (parts_of term)) (terms_of w)

pub one_vector : (text : List ℕ) (v u : List (List Part)) → Means text v → Means text u → v ≡ u
one_vector text v u m n = same_terms v u (sym m.terms ∙ (ap meant_by (one_way text m.written n.written m.reads n.reads) ∙ n.terms))
