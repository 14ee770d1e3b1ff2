use Rattle.std.proofs.Common.{◌≡◌}
use Rattle.wi_build.specs.Encodings.{encoding_of}
use Rattle.wi_build.specs.Systems.{spot_rules}
use Rattle.wi_build.proofs.RowLemmas.{up_to}
use Rattle.wi_build.proofs.listed.list_of.Given as goal

abbrev pub invariant-loop-spot : goal.invariant-loop-spot
invariant-loop-spot l = l.rules.items ≡ up_to (spot_rules (encoding_of l.system)) l.spot
