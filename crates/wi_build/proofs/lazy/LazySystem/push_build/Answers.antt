use Rattle.wi_rules.specs.Rules.{build_rules}
use Rattle.wi_build.specs.Encodings.{encoding_of}
use Rattle.wi_build.proofs.RowLemmas.{more_made}
use Rattle.wi_build.proofs.lazy.LazySystem.push_build.Goals as goal

pub loop-label-preserved : goal.loop-label-preserved
loop-label-preserved c =
    more_made (encoding_of c.args.self.now) c.args.head (build_rules (encoding_of c.args.self.now) c.args.state c.args.head.symbol) _ _ _ c.loop-label.label c.loop-label.invariant c.in_ok-push_label.ensures
