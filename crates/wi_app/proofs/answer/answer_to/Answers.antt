use Rattle.wi_make.specs.OnWire.{IsShownHex}
use Rattle.wi_make.specs.Protection.{IsProtected}
use Rattle.wi_make.specs.Scripts.{IsPlayed}
use Rattle.wi_make.specs.Drawn.{IsDrawn}
use Rattle.wi_ask.specs.Generated.{IsSummary}
use Rattle.wi_app.proofs.Outcomes.{with_status_0}
use Rattle.wi_app.proofs.answer.answer_to.Goals as goal

pub returns-in-Ask-clause-answered : goal.returns-in-Ask-clause-answered
returns-in-Ask-clause-answered g c = rw c.in-Ask.is c.ask.ensures.answered

pub returns-in-Ask-clause-refused : goal.returns-in-Ask-clause-refused
returns-in-Ask-clause-refused g c = rw c.in-Ask.is c.ask.ensures.refused

pub returns-in-Play-clause-answered : goal.returns-in-Play-clause-answered
returns-in-Play-clause-answered g c =
    rw c.in-Play.is (with_status_0 c.play.result (IsPlayed (g.S.Shelf.seen c.args.shelf.now) c.in-Play.network.now c.in-Play.script.now c.in-Play.k) c.play.ensures.status c.play.ensures.played)

pub returns-in-Play-clause-refused : goal.returns-in-Play-clause-refused
returns-in-Play-clause-refused g c = rw c.in-Play.is c.play.ensures.refused

pub returns-in-Gen-clause-answered : goal.returns-in-Gen-clause-answered
returns-in-Gen-clause-answered g c =
    rw c.in-Gen.is (with_status_0 c.summary_of_ring.result (IsSummary c.in-Gen.seed c.in-Gen.size) c.summary_of_ring.ensures.status c.summary_of_ring.ensures.summary)

pub returns-in-Protect-clause-answered : goal.returns-in-Protect-clause-answered
returns-in-Protect-clause-answered g c =
    rw c.in-Protect.is (with_status_0 c.protect.result (IsProtected (g.S.Shelf.seen c.args.shelf.now) c.in-Protect.plan.now) c.protect.ensures.status c.protect.ensures.protected)

pub returns-in-Protect-clause-refused : goal.returns-in-Protect-clause-refused
returns-in-Protect-clause-refused g c = rw c.in-Protect.is c.protect.ensures.refused

pub returns-in-Bypass-clause-answered : goal.returns-in-Bypass-clause-answered
returns-in-Bypass-clause-answered g c = rw c.in-Bypass.is c.bypass.ensures.bypassed

pub returns-in-Bypass-clause-refused : goal.returns-in-Bypass-clause-refused
returns-in-Bypass-clause-refused g c = rw c.in-Bypass.is c.bypass.ensures.refused

pub returns-in-Stack-clause-answered : goal.returns-in-Stack-clause-answered
returns-in-Stack-clause-answered g c =
    rw c.in-Stack.is (with_status_0 c.stack.result (IsShownHex c.in-Stack.hex.now) c.stack.ensures.status c.stack.ensures.shown)

pub returns-in-Draw-clause-answered : goal.returns-in-Draw-clause-answered
returns-in-Draw-clause-answered g c =
    rw c.in-Draw.is (with_status_0 c.draw.result (IsDrawn (g.S.Shelf.seen c.args.shelf.now) c.in-Draw.network.now) c.draw.ensures.status c.draw.ensures.drawn)

pub returns-in-Draw-clause-refused : goal.returns-in-Draw-clause-refused
returns-in-Draw-clause-refused g c = rw c.in-Draw.is c.draw.ensures.refused
