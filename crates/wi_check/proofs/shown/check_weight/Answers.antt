use Rattle.std.proofs.Common.{◌<◌, length, arith, rules, subst, sym}
use Rattle.wi_world.specs.declared.run.Run.{Run}
use Rattle.wi_check.proofs.StartLemmas.{begins}
use Rattle.wi_check.proofs.shown.check_weight.Goals as goal

pub weighed-requires : goal.weighed-requires
weighed-requires c =
    rw c.net.ensures
    (subst (λ (run : Run). run.first.0 < length c.args.problem.now.net.links) (sym c.requires.run)
    (begins c.args.problem.now c.args.shown.now 4 (omega arith) c.requires.before c.requires.shows))

pub returns-then-eq-clause-passed : goal.returns-then-eq-clause-passed
returns-then-eq-clause-passed c = search rules
