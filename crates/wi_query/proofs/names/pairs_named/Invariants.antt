-- Each pair so far is looked up.
use Rattle.std.proofs.Common.{take}
use Rattle.wi_query.specs.private.Names.{AreMeant, ends_meant}
use Rattle.wi_query.proofs.names.pairs_named.Given as goal

abbrev pub invariant-loop-pair : goal.invariant-loop-pair
invariant-loop-pair l = AreMeant (ends_meant l.net) (take l.pair-index l.pairs) l.found.items
