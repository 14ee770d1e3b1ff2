use Rattle.wi_planjson.proofs.RouteLemmas.{around_so, around_not}
use Rattle.wi_planjson.proofs.bypasses.leads_around.Goals as goal

pub returns-then-is_none : goal.returns-then-is_none
returns-then-is_none c = around_so c.args.net.now c.args.link c.args.via.now c.first_break.result c.is_none.result c.is_around.result c.first_break.ensures c.is_none.ensures c.if-is_none.true c.is_around.ensures

pub returns-else-is_none : goal.returns-else-is_none
returns-else-is_none c = around_not c.args.net.now c.args.link c.args.via.now c.first_break.result c.is_none.result c.first_break.ensures c.is_none.ensures c.if-is_none.false
