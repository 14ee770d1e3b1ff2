use Rattle.std.proofs.Common.{◌∙◌, sym}
use Rattle.wi_planjson.proofs.RouteLemmas.{repeat_here, repeat_past}
use Rattle.wi_planjson.proofs.routes.repeat_in.Goals as goal

pub returns-then-not-branch : goal.returns-then-not-branch
returns-then-not-branch c = repeat_here c.loop-j.before.keys c.args.links.now c.loop-j.j _ _ c.loop-j-test.true (sym c.if-not-branch.true ∙ c.in_ok-insert.ensures.added) c.loop-j.invariant

pub loop-j-preserved : goal.loop-j-preserved
loop-j-preserved c = repeat_past c.loop-j.before.keys _ c.args.links.now c.loop-j.j _ _ c.loop-j-test.true (sym c.if-not-branch.false ∙ c.in_ok-insert.ensures.added) c.in_ok-insert.ensures.keys c.loop-j.invariant
