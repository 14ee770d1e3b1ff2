-- What is written behind the front, and what it gives.
use Rattle.std.proofs.lemmas.Result.{IfOk-weaker, IfErr-weaker}
use Rattle.wi_syntax.proofs.Fronts.{behind_front}
use Rattle.wi_query.specs.Given.{IsGiven, IsGivenFault}
use Rattle.wi_query.specs.private.Giving.{AreGiven, IsWrongGiven}
use Rattle.wi_query.proofs.Giving.{given_is, given_fault}
use Rattle.wi_query.proofs.given.read_given.Goals as goal

pub given_of-requires : goal.given_of-requires
given_of-requires c = behind_front c.args.text.now c.in_ok-written.written c.in_ok-written.ensures.written.reads

pub returns-clause-read : goal.returns-clause-read
returns-clause-read c =
    IfOk-weaker c.given_of.result (AreGiven c.args.net.now c.in_ok-written.written) (IsGiven c.args.net.now c.args.text.now)
    (λ bounds. given_is c.args.net.now c.args.text.now c.in_ok-written.written bounds c.in_ok-written.ensures.written) c.given_of.ensures.made

pub returns-clause-refused : goal.returns-clause-refused
returns-clause-refused c =
    IfErr-weaker c.given_of.result (IsWrongGiven c.args.net.now c.in_ok-written.written) (IsGivenFault c.args.net.now c.args.text.now)
    (λ fault. given_fault c.args.net.now c.args.text.now c.in_ok-written.written fault c.in_ok-written.ensures.written) c.given_of.ensures.refused
