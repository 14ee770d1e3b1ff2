use Rattle.std.proofs.Common.{◌≡◌, ◌∙◌, ap, false, List}
use Rattle.wi_plan.specs.declared.plan.Bypass.{Bypass}
use Rattle.wi_planjson.specs.Bypasses.{is_bypassed}
use Rattle.wi_planjson.proofs.StartLemmas.{bypass_added}
use Rattle.wi_planjson.proofs.bypasses.Bypasses.push.Goals as goal

pub invariant_of-self-2 : goal.invariant_of-self-2
invariant_of-self-2 c =
    let free : is_bypassed c.self.inside.list.items c.args.bypass.link ≡ false = ap (λ (bypasses : List Bypass). is_bypassed bypasses c.args.bypass.link) c.self.view_is ∙ c.requires in
    rw (c.push_reserved.ensures.items, c.in_ok-reserve.ensures.items) (bypass_added c.self.inside.list.items c.args.bypass c.self.inside.links.keys _ free c.self.invariant c.in_ok-insert.ensures.keys)
