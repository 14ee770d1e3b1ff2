use Rattle.std.proofs.Common.{◌≡◌, ap, sym, subst}
use Rattle.std.specs.List.{Contains}
use Rattle.std.specs.Prelude.{ℕ, Option, MatchOption, Some, slice_get}
use Rattle.wi_saturate.proofs.Lookups.{place_found}
use Rattle.wi_saturate.proofs.rules.Rules.place_of.Goals as goal

pub returns : goal.returns
returns g c =
    let heads = c.args.self.now.heads in
    let same : c.self.inside.heads.now ≡ heads = ap (λ v. v.heads) c.self.view_is in
    subst (λ (o : Option ℕ). MatchOption o (Contains heads (c.args.p, c.args.g) → ⊥) (λ i. slice_get heads i ≡ Some (c.args.p, c.args.g))) (sym c.ok.ensures.value)
    (place_found heads c.self.inside.heads.now (c.args.p, c.args.g) c.binary_search.result same c.requires c.binary_search.ensures.bound c.binary_search.ensures.position)
