use Rattle.std.proofs.Common.{◌≡◌, ◌+◌, take, [], arith, refl}
use Rattle.wi_quantity.specs.private.Shares.{risks_of}
use Rattle.wi_quantity.proofs.RiskLemmas.{risks_few, risks_step}
use Rattle.wi_quantity.proofs.share.new_risks.Goals as goal
use Rattle.wi_quantity.proofs.share.new_risks.Goals.{then-is_new, else-is_new}

pub overflow_add-count : goal.overflow_add-count
overflow_add-count c =
    let next : risks_of c.args.net.now c.args.earlier.now [] + (c.loop-i.count + 1) ≡ risks_of c.args.net.now c.args.earlier.now (take (c.loop-i.i + 1) c.args.members.now) =
    rw c.if-is_new.true at (risks_step c.args.net.now c.args.earlier.now c.args.members.now _ _ c.loop-i.i c.loop-i.count _ c.keeps.ensures c.loop-i-test.true c.index-members-i.is refl c.is_new.ensures c.loop-i.invariant) in
    let few = risks_few c.args.net.now c.args.earlier.now (take (c.loop-i.i + 1) c.args.members.now) c.keeps.ensures in
    omega (arith, next, few)

pub loop-i-preserved : goal.loop-i-preserved
loop-i-preserved c =
    let next = risks_step c.args.net.now c.args.earlier.now c.args.members.now _ _ c.loop-i.i c.loop-i.count _ c.keeps.ensures c.loop-i-test.true c.index-members-i.is refl c.is_new.ensures c.loop-i.invariant in
    elim c.if-is_new.branch [
      | then-is_new w ↦ rw w.count-is (rw w.if-is_new.true at next)
      | else-is_new w ↦ rw w.count-is (let n = rw w.if-is_new.false at next in omega (arith, n))
    ]

pub returns-clause-few : goal.returns-clause-few
returns-clause-few c = risks_few c.args.net.now c.args.earlier.now c.args.members.now c.keeps.ensures
