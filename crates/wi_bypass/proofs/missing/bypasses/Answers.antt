use Rattle.std.proofs.Common.{◌∙◌, ap, subst, IfOk}
use Rattle.std.specs.List.{filter, list_all}
use Rattle.std.proofs.lemmas.Result.{IfOk-weaker}
use Rattle.wi_net.specs.Net.{is_link}
use Rattle.wi_plan.specs.Plans.{IsPlan}
use Rattle.wi_bypass.specs.declared.missing.Found.{Found}
use Rattle.wi_bypass.specs.Bypasses.{inner_links, is_without, wanting, AreFound, with_found}
use Rattle.wi_bypass.proofs.InnerLemmas.{inner_known}
use Rattle.wi_bypass.proofs.FoundLemmas.{stays_plan}
use Rattle.wi_bypass.proofs.missing.bypasses.Goals as goal

pub found_for-requires-clause-links : goal.found_for-requires-clause-links
found_for-requires-clause-links c =
    ap (λ ls. list_all (is_link c.args.net.now) ls) (c.deref.ensures.value ∙ c.in_ok-inner.ensures ∙ ap inner_links c.as_slice.ensures)
    ∙ inner_known c.args.net.now c.args.plan.now.paths c.requires.paths

pub returns-clause-plan : goal.returns-clause-plan
returns-clause-plan c =
    IfOk-weaker c.found_for.result (λ (f : Found). AreFound c.args.net.now (wanting c.args.plan.now) f.bypasses) (λ (f : Found). IsPlan c.args.net.now (with_found c.args.plan.now f.bypasses))
    (λ f are. stays_plan c.args.net.now c.args.plan.now f.bypasses c.requires are)
    (subst (λ ls. IfOk c.found_for.result (λ (f : Found). AreFound c.args.net.now ls f.bypasses))
    (ap (λ bs. filter (is_without bs) c.deref.result.now) c.as_slice-2.ensures
    ∙ ap (λ ls. filter (is_without c.args.plan.now.bypasses) ls) (c.deref.ensures.value ∙ c.in_ok-inner.ensures ∙ ap inner_links c.as_slice.ensures))
    c.found_for.ensures.found)
