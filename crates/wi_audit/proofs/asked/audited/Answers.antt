use Rattle.wi_audit.proofs.Telling.{told_audited}
use Rattle.wi_audit.proofs.asked.audited.Goals as goal

pub returns : goal.returns
returns c =
    told_audited c.audited_by-audited.result c.args.net.now c.args.given.now c.args.number c.args.policy.now c.in_ok-query.query c.of.result c.in_ok-query.ensures.asked (rw c.new-vector.ensures at c.of.ensures) c.audited_by-audited.ensures
