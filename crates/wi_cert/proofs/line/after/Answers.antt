use Rattle.std.proofs.lemmas.Slice.Eq.{strip_prefix_is}
use Rattle.std.proofs.lemmas.Bool.Decides.{Decides-eqb}
use Rattle.wi_cert.proofs.LineLemmas.{after_is}
use Rattle.wi_cert.proofs.line.after.Goals as goal

pub returns : goal.returns
returns c = after_is c.args.front.now c.args.line.now c.strip_prefix.result (strip_prefix_is Decides-eqb c.args.line.now c.args.front.now c.strip_prefix.result c.strip_prefix.ensures.cases)
