use Rattle.wi_build.specs.Encodings.{encoding_of}
use Rattle.wi_build.proofs.FirstLemmas.{goes_on}
use Rattle.wi_build.proofs.first.may_set_out.Goals as goal

pub returns : goal.returns
returns c =
    goes_on (encoding_of c.args.problem.now) c.args.link _ _ _ _ _ (rw c.bounds.ensures at c.contains.ensures) c.if-contains.false
    (rw c.query.ensures at c.after-states.ensures) c.next.ensures.steps c.is_some.ensures
