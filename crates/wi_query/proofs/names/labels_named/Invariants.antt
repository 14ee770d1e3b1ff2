-- Each name so far is looked up.
use Rattle.std.proofs.Common.{take}
use Rattle.wi_query.specs.private.Names.{AreMeant, label_meant}
use Rattle.wi_query.proofs.names.labels_named.Given as goal

abbrev pub invariant-loop-name : goal.invariant-loop-name
invariant-loop-name l = AreMeant (label_meant l.net) (take l.name-index l.names) l.found.items
