-- The links so far that some pair stands for.
use Rattle.std.proofs.Common.{◌≡◌}
use Rattle.std.specs.List.{filter, list_any}
use Rattle.wi_net.specs.LinkSet.{links_from}
use Rattle.wi_query.specs.private.Names.{is_between}
use Rattle.wi_query.proofs.bounds.links_between.Given as goal

abbrev pub invariant-loop-x : goal.invariant-loop-x
invariant-loop-x l = l.set ≡ filter (λ e. list_any (λ ends. is_between l.net ends e.0) l.pairs) (links_from 0 l.x)
