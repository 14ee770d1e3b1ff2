use Rattle.std.proofs.Common.{◌∙◌, ap, List}
use Rattle.std.specs.Prelude.{◌==◌}
use Rattle.std.specs.List.{list_any}
use Rattle.wi_net.specs.declared.parts.LinkId.{LinkId}
use Rattle.wi_plan.specs.declared.plan.Bypass.{Bypass}
use Rattle.wi_planjson.specs.Bypasses.{is_bypassed}
use Rattle.wi_planjson.proofs.StartLemmas.{bypass_found}
use Rattle.wi_planjson.proofs.bypasses.Bypasses.has.Goals as goal

pub returns : goal.returns
returns c =
    c.contains.ensures ∙ ap (λ (keys : List LinkId). list_any (λ k. c.args.link.0 == k.0) keys) c.self.invariant
    ∙ bypass_found c.args.link c.self.inside.list.items ∙ ap (λ (bypasses : List Bypass). is_bypassed bypasses c.args.link) c.self.view_is
