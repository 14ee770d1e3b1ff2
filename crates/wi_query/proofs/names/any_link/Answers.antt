-- A link that has both ends, or none that has.
use Rattle.std.proofs.Common.{sym, ◌∙◌, ◌<◌, ◌≤◌, length, arith}
use Rattle.wi_query.proofs.Linkless.{some_between, none_between}
use Rattle.wi_query.proofs.names.any_link.Goals as goal

pub returns-then-is_between : goal.returns-then-is_between
returns-then-is_between c =
    let low : c.loop-x.x < length c.args.net.now.links = omega (arith, c.counts-x-end.ensures.links) in
    sym (some_between c.args.net.now c.args.ends c.loop-x.x low (sym c.is_between.ensures ∙ c.if-is_between.true))

pub returns : goal.returns
returns c =
    let all : length c.args.net.now.links ≤ c.loop-x.x = omega (arith, c.counts-x-end.ensures.links) in
    sym (none_between c.args.net.now c.args.ends (λ k low. c.loop-x.invariant k (omega arith)))
