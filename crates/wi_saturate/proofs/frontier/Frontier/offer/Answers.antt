use Rattle.std.specs.Prelude.{refl}
use Rattle.wi_saturate.proofs.Elements.{on_ok}
use Rattle.wi_saturate.proofs.Pushes.{offered_before, offered_now}
use Rattle.wi_saturate.proofs.frontier.Frontier.offer.Goals as goal

pub returns-clause-offered : goal.returns-clause-offered
returns-clause-offered g c = on_ok c.push.result (λ moved.
    offered_now g.W.Domain.scale g.W.Domain.components c.args.head c.args.candidate c.args.self.now (record { heap = c.push.new.self; offered = c.lower.new.self }) c.in_ok-lower.field-0 c.in_ok-lower.ensures moved) c.push.ensures.more

pub returns-then-not-branch-clause-offered : goal.returns-then-not-branch-clause-offered
returns-then-not-branch-clause-offered g c =
    offered_before g.W.Domain.scale g.W.Domain.components c.args.head c.args.candidate c.args.self.now (record { heap = c.args.self.now.heap; offered = c.lower.new.self }) c.in_ok-lower.field-0 c.in_ok-lower.ensures refl c.if-not-branch.true
