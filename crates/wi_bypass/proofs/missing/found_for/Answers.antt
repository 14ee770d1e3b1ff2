use Rattle.std.proofs.Common.{◌∙◌, ap}
use Rattle.std.specs.List.{list_all}
use Rattle.wi_net.specs.Net.{is_link}
use Rattle.wi_plan.specs.Plans.{is_bypass_of}
use Rattle.wi_bypass.specs.Bypasses.{is_without}
use Rattle.wi_bypass.proofs.FoundLemmas.{all_filter, found_bypasses}
use Rattle.wi_bypass.proofs.missing.found_for.Goals as goal

pub detours-requires : goal.detours-requires
detours-requires c =
    ap (λ ls. list_all (is_link c.args.net.now) ls) (c.deref.ensures.value ∙ c.in_ok-wanting.ensures)
    ∙ all_filter (is_link c.args.net.now) (is_without c.args.own.now) c.args.links.now c.requires.links

pub without_detour-requires-clause-found : goal.without_detour-requires-clause-found
without_detour-requires-clause-found c =
    ap (λ bs. list_all (is_bypass_of c.args.net.now) bs) c.deref-2.ensures.value
    ∙ found_bypasses c.args.net.now c.deref.result.now c.in_ok-bypasses.bypasses.items c.in_ok-bypasses.ensures
