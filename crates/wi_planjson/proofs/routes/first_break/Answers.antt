use Rattle.std.proofs.Common.{◌≤◌, ◌-◌, ◌∙◌, sym, drop, length, length-drop, arith, rules}
use Rattle.wi_planjson.proofs.RouteLemmas.{break_done}
use Rattle.wi_planjson.proofs.routes.first_break.Goals as goal

pub returns : goal.returns
returns c =
    let left : length (drop (c.loop-j.j - 1) c.args.links.now) ≤ 1 = simp length-drop (omega (arith, c.loop-j.invariant.past, c.loop-j-test.false)) in
    sym (break_done c.args.net.now (c.loop-j.j - 1) (drop (c.loop-j.j - 1) c.args.links.now) left) ∙ c.loop-j.invariant.walk

pub loop-j-init : goal.loop-j-init
loop-j-init c = search rules
