-- Those that are left tell what all tell.
use Rattle.std.proofs.Common.{◌≡◌, drop}
use Rattle.std.specs.List.{list_any}
use Rattle.wi_query.specs.private.Names.{is_meant}
use Rattle.wi_query.proofs.names.any_meant.Given as goal

abbrev pub invariant-loop-name : goal.invariant-loop-name
invariant-loop-name l = list_any (λ name. is_meant l.net name l.label.0) (drop l.name-index l.names) ≡ list_any (λ name. is_meant l.net name l.label.0) l.names
