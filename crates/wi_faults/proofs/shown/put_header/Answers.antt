use Rattle.std.proofs.Common.{sym, rules}
use Rattle.wi_world.proofs.Known.{known_label}
use Rattle.wi_faults.proofs.ShownLemmas.{labels_left}
use Rattle.wi_faults.proofs.shown.put_header.Goals as goal

pub put_label-requires : goal.put_label-requires
put_label-requires c = known_label _ _ _ _ c.keeps.ensures c.requires (sym c.in-Some.ensures)

pub loop-i-preserved : goal.loop-i-preserved
loop-i-preserved c = labels_left c.args.net.now c.args.header.now c.loop-i.i _ _ _ _ _ (sym c.in-Some.ensures) c.loop-i.invariant c.in_ok-put.ensures c.in_ok-put_label.ensures

pub loop-i-init : goal.loop-i-init
loop-i-init c = search rules
