use Rattle.std.proofs.Common.{◌∙◌, ap, ℕ, List}
use Rattle.std.specs.Prelude.{◌&&◌, ◌==◌}
use Rattle.std.specs.List.{list_any}
use Rattle.wi_plan.specs.Plans.{sets_out}
use Rattle.wi_planjson.proofs.StartLemmas.{start_found}
use Rattle.wi_planjson.proofs.paths.Paths.has_start.Goals as goal

pub returns : goal.returns
returns c =
    c.contains.ensures ∙ ap (λ (keys : List (ℕ × ℕ)). list_any (λ k. (c.args.link.0 == k.0) && (c.args.ip.0 == k.1)) keys) c.self.invariant
    ∙ start_found c.args.link c.args.ip c.self.inside.list.items ∙ ap (list_any (sets_out c.args.link c.args.ip)) c.self.view_is
