use Rattle.wi_outcome.proofs.Saying.{said_made, said_words}
use Rattle.wi_outcome.proofs.refusal.say.Goals as goal

pub returns-in-Usage-clause-said : goal.returns-in-Usage-clause-said
returns-in-Usage-clause-said g c =
    said_words _ _ _ (g.E.Sink.seen c.args.err.now) (g.E.Sink.seen c.put.new.err) _ c.in-Usage.is c.status_of-status.ensures c.put.ensures.said

pub returns-in-Overflow-clause-said : goal.returns-in-Overflow-clause-said
returns-in-Overflow-clause-said g c =
    said_made _ _ _ (g.E.Sink.seen c.args.err.now) (g.E.Sink.seen c.put_made-in-Overflow.new.err) _ c.in-Overflow.is c.status_of-status.ensures tt (c.put_made-in-Overflow.ensures.said _ c.overflow_text.ensures)

pub returns-in-TooLong-clause-said : goal.returns-in-TooLong-clause-said
returns-in-TooLong-clause-said g c =
    said_made _ _ _ (g.E.Sink.seen c.args.err.now) (g.E.Sink.seen c.put_made-in-TooLong.new.err) _ c.in-TooLong.is c.status_of-status.ensures tt (c.put_made-in-TooLong.ensures.said _ c.too_long_text.ensures)

pub returns-in-LongScript-clause-said : goal.returns-in-LongScript-clause-said
returns-in-LongScript-clause-said g c =
    said_words _ _ _ (g.E.Sink.seen c.args.err.now) (g.E.Sink.seen c.put-in-LongScript.new.err) _ c.in-LongScript.is c.status_of-status.ensures c.put-in-LongScript.ensures.said

pub returns-in-CannotPrint-clause-said : goal.returns-in-CannotPrint-clause-said
returns-in-CannotPrint-clause-said g c =
    said_words _ _ _ (g.E.Sink.seen c.args.err.now) (g.E.Sink.seen c.put-in-CannotPrint.new.err) _ c.in-CannotPrint.is c.status_of-status.ensures c.put-in-CannotPrint.ensures.said

pub returns-in-LargeCertificate-clause-said : goal.returns-in-LargeCertificate-clause-said
returns-in-LargeCertificate-clause-said g c =
    said_words _ _ _ (g.E.Sink.seen c.args.err.now) (g.E.Sink.seen c.put-in-LargeCertificate.new.err) _ c.in-LargeCertificate.is c.status_of-status.ensures c.put-in-LargeCertificate.ensures.said

pub returns-in-BadLine-clause-said : goal.returns-in-BadLine-clause-said
returns-in-BadLine-clause-said g c =
    said_made _ _ _ (g.E.Sink.seen c.args.err.now) (g.E.Sink.seen c.put_made-in-BadLine.new.err) _ c.in-BadLine.is c.status_of-status.ensures tt (c.put_made-in-BadLine.ensures.said _ c.bad_line_text.ensures)

pub returns-in-NotAccepted-clause-said : goal.returns-in-NotAccepted-clause-said
returns-in-NotAccepted-clause-said g c =
    said_made _ _ _ (g.E.Sink.seen c.args.err.now) (g.E.Sink.seen c.put_made-in-NotAccepted.new.err) _ c.in-NotAccepted.is c.status_of-status.ensures tt (c.put_made-in-NotAccepted.ensures.said _ c.certificate_fault_text.ensures)

pub returns-in-NotWritten-clause-said : goal.returns-in-NotWritten-clause-said
returns-in-NotWritten-clause-said g c =
    said_words _ _ _ (g.E.Sink.seen c.args.err.now) (g.E.Sink.seen c.put-in-NotWritten.new.err) _ c.in-NotWritten.is c.status_of-status.ensures c.put-in-NotWritten.ensures.said

pub returns-in-NotHex-clause-said : goal.returns-in-NotHex-clause-said
returns-in-NotHex-clause-said g c =
    said_words _ _ _ (g.E.Sink.seen c.args.err.now) (g.E.Sink.seen c.put-in-NotHex.new.err) _ c.in-NotHex.is c.status_of-status.ensures c.put-in-NotHex.ensures.said

pub returns-in-BadStack-clause-said : goal.returns-in-BadStack-clause-said
returns-in-BadStack-clause-said g c =
    said_made _ _ _ (g.E.Sink.seen c.args.err.now) (g.E.Sink.seen c.put_made-in-BadStack.new.err) _ c.in-BadStack.is c.status_of-status.ensures tt (c.put_made-in-BadStack.ensures.said _ c.stack_refused_text.ensures)

pub returns-in-ManyNodes-clause-said : goal.returns-in-ManyNodes-clause-said
returns-in-ManyNodes-clause-said g c =
    said_made _ _ _ (g.E.Sink.seen c.args.err.now) (g.E.Sink.seen c.put_made-in-ManyNodes.new.err) _ c.in-ManyNodes.is c.status_of-status.ensures tt (c.put_made-in-ManyNodes.ensures.said _ c.nodes_over_limit_text.ensures)

pub returns-in-TreeNotWritten-clause-said : goal.returns-in-TreeNotWritten-clause-said
returns-in-TreeNotWritten-clause-said g c =
    said_words _ _ _ (g.E.Sink.seen c.args.err.now) (g.E.Sink.seen c.put-in-TreeNotWritten.new.err) _ c.in-TreeNotWritten.is c.status_of-status.ensures c.put-in-TreeNotWritten.ensures.said

pub returns-in-Plan-clause-said : goal.returns-in-Plan-clause-said
returns-in-Plan-clause-said g c =
    said_made _ _ _ (g.E.Sink.seen c.args.err.now) (g.E.Sink.seen c.put_made-in-Plan.new.err) _ c.in-Plan.is c.status_of-status.ensures tt (c.put_made-in-Plan.ensures.said _ c.plan_fault_text.ensures)

pub returns-in-Unprotected-clause-said : goal.returns-in-Unprotected-clause-said
returns-in-Unprotected-clause-said g c =
    said_made _ _ _ (g.E.Sink.seen c.args.err.now) (g.E.Sink.seen c.put_made-in-Unprotected.new.err) _ c.in-Unprotected.is c.status_of-status.ensures tt (c.put_made-in-Unprotected.ensures.said _ c.protect_fault_text.ensures)

pub returns-in-LargeNetwork-clause-said : goal.returns-in-LargeNetwork-clause-said
returns-in-LargeNetwork-clause-said g c =
    said_words _ _ _ (g.E.Sink.seen c.args.err.now) (g.E.Sink.seen c.put-in-LargeNetwork.new.err) _ c.in-LargeNetwork.is c.status_of-status.ensures c.put-in-LargeNetwork.ensures.said

pub returns-in-LongPolicies-clause-said : goal.returns-in-LongPolicies-clause-said
returns-in-LongPolicies-clause-said g c =
    said_words _ _ _ (g.E.Sink.seen c.args.err.now) (g.E.Sink.seen c.put-in-LongPolicies.new.err) _ c.in-LongPolicies.is c.status_of-status.ensures c.put-in-LongPolicies.ensures.said
