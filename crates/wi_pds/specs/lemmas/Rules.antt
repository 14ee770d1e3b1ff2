-- Rules that are listed name their heads.
use Rattle.std.specs.Prelude.{◌≡◌, ℕ, true, List, ◌==◌, ◌&&◌}
use Rattle.std.specs.List.{All}
use Rattle.std.proofs.lemmas.Bool.{and_parts, eqb-true}
use Rattle.std.proofs.lemmas.List.Elements.{All-weaker, filter_passes}
use Rattle.wi_pds.specs.declared.rule.Rule.{Rule}
use Rattle.wi_pds.specs.Rules.{rules_at, IsOf}

-- each rule that a list has for a head names it
pub listed_name_heads : {W : Type 0} (rules : List (Rule W)) (p g : ℕ) → All (IsOf p g) (rules_at rules p g)
listed_name_heads {W} rules p g =
    let test = λ (rule : Rule W). (rule.from == p) && (rule.top == g) in
    All-weaker (λ rule. test rule ≡ true) (IsOf p g)
    (λ rule passes. let parts = and_parts (rule.from == p) (rule.top == g) passes in (eqb-true rule.from p parts.0, eqb-true rule.top g parts.1))
    (rules_at rules p g) (filter_passes test rules)
