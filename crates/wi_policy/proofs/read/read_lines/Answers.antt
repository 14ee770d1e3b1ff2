use Rattle.std.proofs.Common.{arith}
use Rattle.std.proofs.lemmas.Result.{IfErr-weaker, on_ok_weaker}
use Rattle.wi_policy.specs.Policies.{HasNoPolicies}
use Rattle.wi_policy.specs.private.Walking.{IsRefusedLine}
use Rattle.wi_policy.proofs.Walks.{no_cut, number_within, refused_as, walk_on, walk_ends, walk_fails, walk_stops}
use Rattle.wi_policy.proofs.read.read_lines.Goals as goal

pub returns-in_err-add_line-clause-refused : goal.returns-in_err-add_line-clause-refused
returns-in_err-add_line-clause-refused c =
    refused_as c.from_residual.result c.in_err-add_line.field-0.0 (HasNoPolicies c.args.net.now c.args.given.now c.args.bytes.now) c.from_residual.ensures.1
    (walk_stops c.args.net.now c.args.given.now c.args.bytes.now c.loop-line.policies.items c.loop-line.left.now c.in-Some.line.now c.in-Some.rest.now c.loop-line.number _ c.loop-line.invariant c.in-Some.ensures c.in_err-add_line.ensures.refused)

pub overflow_add-number : goal.overflow_add-number
overflow_add-number c = omega (arith, number_within _ _ _ _ _ _ _ _ c.loop-line.invariant c.in-Some.ensures)

pub loop-line-preserved : goal.loop-line-preserved
loop-line-preserved c =
    walk_on c.args.net.now c.args.given.now c.args.bytes.now c.loop-line.policies.items c.add_line.new.policies.items c.loop-line.left.now c.in-Some.line.now c.in-Some.rest.now c.loop-line.number c.loop-line.invariant c.in-Some.ensures c.in_ok-add_line.ensures.added

pub returns-clause-read : goal.returns-clause-read
returns-clause-read c =
    on_ok_weaker c.add_line-2.result
    (walk_ends c.args.net.now c.args.given.now c.args.bytes.now c.loop-line.policies.items c.add_line-2.new.policies.items c.loop-line.left.now c.loop-line.number c.loop-line.invariant (no_cut c.loop-line.left.now c.next_line.result c.next_line.ensures c.in_default.not-Some)) c.add_line-2.ensures.added

pub returns-clause-refused : goal.returns-clause-refused
returns-clause-refused c =
    IfErr-weaker c.add_line-2.result (IsRefusedLine c.args.net.now c.args.given.now c.loop-line.number c.loop-line.left.now) (HasNoPolicies c.args.net.now c.args.given.now c.args.bytes.now)
    (λ refused. walk_fails c.args.net.now c.args.given.now c.args.bytes.now c.loop-line.policies.items c.loop-line.left.now c.loop-line.number refused c.loop-line.invariant (no_cut c.loop-line.left.now c.next_line.result c.next_line.ensures c.in_default.not-Some)) c.add_line-2.ensures.refused
