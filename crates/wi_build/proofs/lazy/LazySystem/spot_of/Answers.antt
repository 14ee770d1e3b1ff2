use Rattle.std.proofs.Common.{ap, ◌∙◌}
use Rattle.wi_rules.specs.Numbers.{layout_of, spot_of}
use Rattle.wi_build.specs.Problems.{Problem}
use Rattle.wi_build.specs.Encodings.{encoding_of}
use Rattle.wi_build.proofs.HeadLemmas.{some_fits}
use Rattle.wi_build.proofs.lazy.LazySystem.spot_of.Goals as goal

pub returns-clause-fits : goal.returns-clause-fits
returns-clause-fits c =
    some_fits (encoding_of c.args.self.now) c.args.number c.spot_of.result
    (c.spot_of.ensures ∙ ap (λ y. spot_of y c.args.number) (c.self.invariant.0 ∙ ap (λ (g : Problem). layout_of (encoding_of g)) c.self.view_is))
