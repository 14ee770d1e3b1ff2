-- A pair that doesn't mean the link.
use Rattle.std.proofs.Common.{sym, ◌∙◌}
use Rattle.wi_query.specs.private.Names.{is_between}
use Rattle.wi_query.proofs.Lists.{at_read, none_passes_at}
use Rattle.wi_query.proofs.names.any_between.Goals as goal

pub loop-ends-preserved : goal.loop-ends-preserved
loop-ends-preserved c =
    none_passes_at (λ ends. is_between c.args.net.now ends c.args.link.0) c.args.pairs.now c.loop-ends.ends-index _ _ c.loop-ends.invariant
    (at_read c.args.pairs.now c.loop-ends.ends-index _ c.loop-ends-test.true) (sym c.is_between.ensures ∙ c.if-is_between.false)
