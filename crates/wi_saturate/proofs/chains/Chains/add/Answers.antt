use Rattle.std.proofs.Common.{◌≡◌, ◌∙◌, ◌+◌, ◌<◌, ◌++◌, ◌∷◌, [], refl, ap, arith, sym, subst, length, length-append, map}
use Rattle.std.proofs.lemmas.List.{map-append, length-map}
use Rattle.std.proofs.lemmas.Option.{slice_get_read}
use Rattle.wi_saturate.proofs.Walks.{added}
use Rattle.wi_saturate.proofs.chains.Chains.add.Goals as goal

pub invariant_of-self-2 : goal.invariant_of-self-2
invariant_of-self-2 c =
    let within : c.args.place < length c.self.inside.ends.items = subst (λ n. c.args.place < n) (sym (ap (λ v. v.count) c.self.view_is)) c.requires in
    let more : c.len.result ≡ length (map (λ l. l.0) c.self.inside.links.items) + 1 = omega (arith, c.len.ensures, ap (λ v. length v.items) c.in_ok-push.ensures.ok, length-append c.self.inside.links.items ((c.args.place, c.index-end.result.now) ∷ []), length-map c.self.inside.links.items (λ l. l.0)) in
    added _ _ _ _ _ _ c.args.place c.index-end.result.now c.len.result
    (ap (map (λ l. l.0)) (ap (λ v. v.items) c.in_ok-push.ensures.ok) ∙ map-append _ _ _ ∙ ap (λ n. map (λ l. l.0) c.self.inside.links.items ++ n ∷ []) refl)
    (ap (map (λ l. l.1)) (ap (λ v. v.items) c.in_ok-push.ensures.ok) ∙ map-append _ _ _)
    refl more
    (length-map _ _ ∙ sym (length-map _ _))
    (slice_get_read _ _ _ _ refl within c.index-end.ensures)
    c.self.invariant.0 c.self.invariant.1
