-- A mark for each label so far.
use Rattle.std.proofs.Common.{◌≡◌}
use Rattle.std.specs.List.{list_any}
use Rattle.wi_query.specs.private.Names.{is_meant, marks_of, chosen}
use Rattle.wi_query.proofs.atoms.labels_among.Given as goal

abbrev pub invariant-loop-x : goal.invariant-loop-x
invariant-loop-x l = l.marks.items ≡ marks_of l.x (λ x. chosen l.except (list_any (λ name. is_meant l.net name x) l.names))
