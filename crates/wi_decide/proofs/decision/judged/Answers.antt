use Rattle.wi_decide.proofs.FoundLemmas.{answer_holds}
use Rattle.wi_decide.proofs.decision.judged.Goals as goal

pub returns-clause-decided : goal.returns-clause-decided
returns-clause-decided c =
    rw c.word_for.ensures (answer_holds c.args.problem.now _ _ _ c.keeps.ensures.problem.network c.keeps.ensures.problem.bounds_of c.requires.0 (rw (c.net.ensures, c.bounds.ensures) at c.in_ok-verdict.ensures))
