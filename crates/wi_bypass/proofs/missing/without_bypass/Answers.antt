use Rattle.std.proofs.Common.{◌≡◌, ◌∙◌, IfOk, subst, ap}
use Rattle.wi_bypass.specs.private.Marks.{unmarked, marked_each}
use Rattle.wi_bypass.proofs.JudgedLemmas.{fresh_length, all_within, left_without}
use Rattle.wi_bypass.proofs.missing.without_bypass.Goals as goal

pub mark_each-requires : goal.mark_each-requires
mark_each-requires c = all_within c.args.net.now _ c.args.bypasses.now (fresh_length _ c.counts.result.links _ c.in_ok-marks.ensures c.counts.ensures.links) c.requires

pub returns : goal.returns
returns c =
    subst (λ y. IfOk c.unmarked.result (λ left. left.items ≡ y))
    (ap (λ m. unmarked m c.args.links.now) (c.deref.ensures.value ∙ c.mark_each.ensures ∙ ap (λ m. marked_each m c.args.bypasses.now) c.in_ok-marks.ensures)
    ∙ left_without c.counts.result.links c.args.bypasses.now c.args.links.now (all_within c.args.net.now c.counts.result.links c.args.bypasses.now c.counts.ensures.links c.requires))
    c.unmarked.ensures
