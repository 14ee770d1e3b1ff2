-- Rules that are made name their heads.
use Rattle.std.specs.Prelude.{refl, ℕ, []}
use Rattle.std.specs.List.{All}
use Rattle.std.proofs.lemmas.List.Elements.{All-map, All-from_get_or}
use Rattle.wi_pds.specs.declared.rule.Word2.TheVariants.{Empty}
use Rattle.wi_pds.specs.Rules.{IsOf}
use Rattle.wi_rules.specs.declared.spot.Origin.TheVariants.{Nothing}
use Rattle.wi_rules.specs.Rules.{Encoding}
use Rattle.wi_rules.specs.Numbers.{rules_at_number}
use Rattle.wi_build.specs.Systems.{rule_at, rules_by}

-- each rule of a head names it
pub rules_name_heads : (s : Encoding) (n g : ℕ) → All (IsOf n g) (rules_by s n g)
rules_name_heads s n g =
    All-map (IsOf n g) (λ r. rule_at n g r) (rules_at_number s n g)
    (All-from_get_or (λ r. IsOf n g (rule_at n g r)) (rules_at_number s n g) (record { to = 0; word = Empty; weight = []; origin = Nothing }) (λ i low. (refl, refl)))
