-- A mark for each link so far.
use Rattle.std.proofs.Common.{◌≡◌}
use Rattle.std.specs.List.{list_any}
use Rattle.wi_query.specs.private.Names.{is_between, marks_of, chosen}
use Rattle.wi_query.proofs.atoms.links_among.Given as goal

abbrev pub invariant-loop-x : goal.invariant-loop-x
invariant-loop-x l = l.marks.items ≡ marks_of l.x (λ x. chosen l.except (list_any (λ ends. is_between l.net ends x) l.pairs))
