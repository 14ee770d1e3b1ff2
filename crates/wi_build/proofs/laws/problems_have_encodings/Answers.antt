use Rattle.wi_build.proofs.Sound.{sound}
use Rattle.wi_build.proofs.laws.problems_have_encodings.Goals as goal

pub returns : goal.returns
returns c = sound
