-- One link more.
use Rattle.std.proofs.Common.{sym, refl, ◌∙◌}
use Rattle.std.specs.List.{list_any}
use Rattle.wi_query.specs.private.Names.{is_between}
use Rattle.wi_query.proofs.LinkSets.{link_pushed, link_left_out}
use Rattle.wi_query.proofs.bounds.links_between.Goals as goal
use Rattle.wi_query.proofs.bounds.links_between.Goals.{then-any_between+in_ok-insert, else-any_between}

pub loop-x-preserved : goal.loop-x-preserved
loop-x-preserved c =
    elim c.if-any_between.branch [
      | then-any_between+in_ok-insert w ↦ link_pushed (λ e. list_any (λ ends. is_between c.args.net.now ends e.0) c.args.pairs.now) c.loop-x.x _ _ _ c.loop-x.invariant refl (sym w.if-any_between.ensures) (w.set-is ∙ w.in_ok-insert.ensures.ok)
      | else-any_between w ↦ link_left_out (λ e. list_any (λ ends. is_between c.args.net.now ends e.0) c.args.pairs.now) c.loop-x.x _ _ (record { 0 = c.loop-x.x }) c.loop-x.invariant refl (sym w.if-any_between.ensures) w.set-is
    ]
