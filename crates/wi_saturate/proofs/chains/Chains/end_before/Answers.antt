use Rattle.std.proofs.Common.{◌≡◌, ◌∙◌, ◌<◌, refl, ap, sym, subst, length, map, Some, slice_get, option_map, List, ℕ}
use Rattle.std.proofs.lemmas.List.{length-map}
use Rattle.std.proofs.lemmas.Option.{slice_get_read, slice_get-map}
use Rattle.wi_saturate.specs.private.Chains.{IsEnd}
use Rattle.wi_saturate.proofs.chains.Chains.end_before.Goals as goal

pub returns : goal.returns
returns c place at =
    let links = c.self.inside.links.items in
    let same : map (λ l. l.0) links ≡ c.args.self.now.places = ap (λ v. v.places) c.self.view_is in
    let within : c.args.item < length links = subst (λ (n : ℕ). c.args.item < n) (ap length (sym same) ∙ length-map links (λ l. l.0)) c.requires in
    subst (λ (z : List ℕ). IsEnd z place c.args.item c.get.result.1) same
    (c.self.invariant.1 c.args.item place c.get.result.1 (subst (λ (z : List ℕ). slice_get z c.args.item ≡ Some place) (sym same) at)
    (slice_get-map (λ l. l.1) links c.args.item ∙ ap (option_map (λ l. l.1)) (slice_get_read _ _ _ _ refl within c.get.ensures)))
