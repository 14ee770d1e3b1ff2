-- What the signs that are left make of the frames is what all of them make, and no name so far is unknown.
use Rattle.std.proofs.Common.{◌≡◌, drop}
use Rattle.std.specs.List.{flat_map}
use Rattle.wi_query.specs.Unknown.{unknown_in_sign}
use Rattle.wi_query.specs.Sets.{SymbolMarks}
use Rattle.wi_query.specs.private.Frames.{TreeReading, set_signs, after_signs, at_start, IsReading}
use Rattle.wi_query.proofs.expression.regex_of.Given as goal

abbrev pub invariant-loop-sign : goal.invariant-loop-sign
invariant-loop-sign g l = record {
  read : (t : TreeReading SymbolMarks) × IsReading t l.reading × (after_signs t (set_signs (g.A.Meant.marks l.net) (drop l.sign-index l.signs)) ≡ after_signs at_start (set_signs (g.A.Meant.marks l.net) l.signs));
  known : flat_map (unknown_in_sign (g.A.Meant.unknown l.net)) (drop l.sign-index l.signs) ≡ flat_map (unknown_in_sign (g.A.Meant.unknown l.net)) l.signs;
}
