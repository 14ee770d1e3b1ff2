use Rattle.std.proofs.Common.{◌≡◌, ◌∙◌, IfOk, subst, ap, rules}
use Rattle.wi_bypass.specs.private.Marks.{unmarked, marked_outside}
use Rattle.wi_bypass.proofs.JudgedLemmas.{fresh_length, all_within, left_unprotected}
use Rattle.wi_bypass.proofs.missing.without_detour.Goals as goal

pub mark_outside-requires : goal.mark_outside-requires
mark_outside-requires c = all_within c.args.net.now _ _ (fresh_length _ c.counts.result.links _ c.in_ok-marks.ensures c.counts.ensures.links) (search rules)

pub mark_outside-requires-2 : goal.mark_outside-requires-2
mark_outside-requires-2 c =
    all_within c.args.net.now _ _
    (c.mark_outside.ensures.count ∙ fresh_length _ c.counts.result.links _ c.in_ok-marks.ensures c.counts.ensures.links)
    (search rules)

pub returns : goal.returns
returns c =
    subst (λ y. IfOk c.unmarked.result (λ left. left.items ≡ y))
    (ap (λ m. unmarked m c.args.links.now)
    (c.deref.ensures.value ∙ c.mark_outside-2.ensures.marks ∙ ap (λ m. marked_outside c.args.net.now m c.args.found.now) (c.mark_outside.ensures.marks ∙ ap (λ m. marked_outside c.args.net.now m c.args.own.now) c.in_ok-marks.ensures))
    ∙ left_unprotected c.args.net.now c.counts.result.links c.args.own.now c.args.found.now c.args.links.now c.counts.ensures.links c.requires.own c.requires.found)
    c.unmarked.ensures
