use Rattle.std.proofs.Common.{arith}
use Rattle.wi_net.specs.Net.{entry}
use Rattle.wi_build.proofs.Fit.{end_few}
use Rattle.wi_build.proofs.lazy.LazySystem.push_end.Goals as goal

pub end_weight-requires : goal.end_weight-requires
end_weight-requires c =
    let few = end_few c.args.self.now.net (entry c.args.self.now.net c.args.at.link c.args.at.top) c.args.end c.keeps.ensures.problem.network in
    omega (arith, few, c.requires.failures)
