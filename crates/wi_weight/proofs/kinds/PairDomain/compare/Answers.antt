use Rattle.std.proofs.Common.{◌∙◌}
use Rattle.wi_weight.proofs.PairLemmas.{order_tied, order_decided}
use Rattle.wi_weight.proofs.kinds.PairDomain.compare.Goals as goal

pub returns-in-Equal : goal.returns-in-Equal
returns-in-Equal g c =
    let a_is = g.met.A.Domain.admitted c.args.self.now.first in
    let c_is = g.met.A.Domain.admitted c.args.other.now.first in
    c.compare-in-Equal.ensures ∙ order_tied g.A.Domain.scale g.B.Domain.scale _ _ _ _ a_is c_is c.in-Equal.ensures

pub returns-in_default : goal.returns-in_default
returns-in_default g c =
    let a_is = g.met.A.Domain.admitted c.args.self.now.first in
    let c_is = g.met.A.Domain.admitted c.args.other.now.first in
    c.compare.ensures ∙ order_decided g.A.Domain.scale g.B.Domain.scale _ _ _ _ a_is c_is (λ tie. c.in_default.not-Equal (c.compare.ensures ∙ tie))
