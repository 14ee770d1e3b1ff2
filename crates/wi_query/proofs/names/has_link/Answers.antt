-- The one link tells it.
use Rattle.std.proofs.Common.{subst, sym, ◌∙◌}
use Rattle.wi_query.specs.private.Lookups.{IsThere}
use Rattle.wi_query.proofs.Linkless.{one_tells}
use Rattle.wi_query.proofs.names.has_link.Goals as goal

pub returns-in-Some : goal.returns-in-Some
returns-in-Some c =
    one_tells c.args.net.now c.args.ends c.in-Some.link _ _ c.one_between.ensures c.in-Some.is
    (subst (IsThere c.args.net.now) (sym c.one_between.ensures ∙ c.in-Some.is) c.requires) c.is_between.ensures
