use Rattle.wi_regex.specs.Matching.{Matches}
use Rattle.wi_regex.proofs.MatchingLemmas.{repeated_split}
use Rattle.wi_regex.proofs.laws.star_splits_off.Goals as goal

pub returns : goal.returns
returns g c = λ r w. repeated_split (Matches g.A.Atom.set r) w
