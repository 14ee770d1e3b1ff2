use Rattle.std.proofs.Common.{◌∙◌, ◌++◌, ap, sym, append-nil}
use Rattle.std.specs.Option.{option_to_list}
use Rattle.wi_bypass.proofs.FoundLemmas.{added_more, added_all}
use Rattle.wi_bypass.proofs.missing.add_detours.Goals as goal
use Rattle.wi_bypass.proofs.missing.add_detours.Goals.{in-Some+in_ok-push, in_default}

pub loop-link-preserved : goal.loop-link-preserved
loop-link-preserved c =
    added_more c.args.net.now c.args.links.now c.loop-link.link-index _ c.args.found.now.items c.loop-link.found.items c.match-branch-2.found.items c.in_ok-bypass.field-0 c.loop-link-test.true c.in_ok-bypass.ensures
    (elim c.match-branch-2.branch [
      | in-Some+in_ok-push w ↦
          ap (λ v. v.items) w.found-is ∙ w.in_ok-push.ensures.items ∙ ap (λ o. c.loop-link.found.items ++ option_to_list o) (sym w.in-Some.is)
      | in_default w ↦
          ap (λ v. v.items) w.found-is ∙ sym (append-nil c.loop-link.found.items) ∙ ap (λ o. c.loop-link.found.items ++ option_to_list o) (sym w.in_default.is)
    ])
    c.loop-link.invariant

pub returns : goal.returns
returns c = added_all c.args.net.now c.args.links.now c.loop-link.link-index c.args.found.now.items c.loop-link.found.items c.loop-link-test.false c.loop-link.invariant
