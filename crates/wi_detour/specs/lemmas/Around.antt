-- The rules of a head name it.
use Rattle.std.specs.Prelude.{ℕ, zero, suc, Bool, true, false, ◌==◌, if◌then◌else◌, refl, [], ◌∷◌, map}
use Rattle.std.specs.List.{All}
use Rattle.std.proofs.lemmas.List.Elements.{All-nil, All-cons, All-append, All-map, All-from_get_or}
use Rattle.wi_pds.specs.Rules.{IsOf}
use Rattle.wi_detour.specs.private.Around.{Around, state_of, links_on, along, ending, endings, rules_around}

endings_name_head : (p : ℕ) (b : Bool) → All (IsOf p 0) (if b then ending p ∷ [] else [])
endings_name_head p true = All-cons (IsOf p 0) (ending p) [] (refl, refl) (All-nil (IsOf p 0))
endings_name_head p false = All-nil (IsOf p 0)

pub rules_name_heads : (a : Around) (p g : ℕ) → All (IsOf p g) (rules_around a p g)
rules_name_heads a p zero =
    All-append (IsOf p 0) (map (along a.net p) (links_on a p)) (endings a p)
    (All-map (IsOf p 0) (along a.net p) (links_on a p) (All-from_get_or (λ f. IsOf p 0 (along a.net p f)) (links_on a p) (record { 0 = 0 }) (λ i low. (refl, refl))))
    (endings_name_head p (p == state_of a.ends.to.0))
rules_name_heads a p (suc g) = All-nil (IsOf p (suc g))
