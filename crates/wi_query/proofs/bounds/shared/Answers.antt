-- The first link of down that is in up.
use Rattle.std.proofs.Common.{sym}
use Rattle.wi_query.proofs.Lists.{found_at, passed_at, passed_past}
use Rattle.wi_query.proofs.bounds.shared.Goals as goal
use Rattle.wi_query.proofs.bounds.shared.Goals.{in-Some+else-contains, in_default}
use Rattle.wi_net.specs.LinkSet.{has}

pub returns-then-contains : goal.returns-then-contains
returns-then-contains c = found_at (λ e. has c.args.up.now e) c.args.down.now c.loop-i.i c.in-Some.link _ c.loop-i.invariant (sym c.in-Some.ensures.value) (sym c.if-contains.ensures)

pub loop-i-preserved : goal.loop-i-preserved
loop-i-preserved c =
    elim c.match-at.branch [
      | in-Some+else-contains w ↦ passed_at (λ e. has c.args.up.now e) c.args.down.now c.loop-i.i w.in-Some.link _ c.loop-i.invariant (sym w.in-Some.ensures.value) (sym w.if-contains.ensures)
      | in_default w ↦ passed_past (λ e. has c.args.up.now e) c.args.down.now c.loop-i.i _ c.loop-i.invariant (sym w.in_default.ensures.value)
    ]
