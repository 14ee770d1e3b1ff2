use Rattle.std.proofs.Common.{◌≤◌, length, ◌∙◌, ap, sym, arith}
use Rattle.std.proofs.lemmas.Result.{err_from_is_err_and}
use Rattle.wi_net.specs.LinkSet.{with_link}
use Rattle.wi_trace.proofs.SetLemmas.{added_next, added_all}
use Rattle.wi_trace.proofs.sets.insert_all.Goals as goal

pub loop-i-preserved : goal.loop-i-preserved
loop-i-preserved c = c.in_ok-insert.ensures.ok ∙ ap (λ s. with_link s c.nth.result) c.loop-i.invariant ∙ sym (added_next c.args.set.now c.args.more.now c.loop-i.i c.nth.result c.nth.ensures)

pub returns-in_err-insert-clause-err : goal.returns-in_err-insert-clause-err
returns-in_err-insert-clause-err c =
    let p = err_from_is_err_and c.from_residual.result c.from_residual.ensures.1 in
    rw p.1 (c.loop-i.i, c.in_err-insert.ensures.err ∙ c.loop-i.invariant)

pub returns-clause-ok : goal.returns-clause-ok
returns-clause-ok c =
    let all : length c.args.more.now ≤ c.loop-i.i = omega (arith, c.loop-i-test.false, c.len-i-end.ensures) in
    c.loop-i.invariant ∙ added_all c.args.set.now c.args.more.now c.loop-i.i all
