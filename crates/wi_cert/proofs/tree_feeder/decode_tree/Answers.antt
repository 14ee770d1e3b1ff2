use Rattle.wi_cert.specs.Trees.{IsTreeText, trees}
use Rattle.wi_cert.proofs.DecodeLemmas.{whole_fed, found_text, told_bad}
use Rattle.wi_cert.proofs.TreeSoundLemmas.{decoded_is_tree}
use Rattle.wi_cert.proofs.tree_feeder.decode_tree.Goals as goal

pub returns-in-Ok-clause-found : goal.returns-in-Ok-clause-found
returns-in-Ok-clause-found c = found_text trees IsTreeText decoded_is_tree c.args.bytes.now c.in-Ok.feeder c.finish.result (whole_fed trees c.new.result c.in-Ok.feeder c.args.bytes.now c.new.ensures c.in-Ok.ensures) c.finish.ensures

pub returns-in-Ok-clause-bad : goal.returns-in-Ok-clause-bad
returns-in-Ok-clause-bad c = λ n k. told_bad trees c.args.bytes.now c.in-Ok.feeder c.finish.result n (whole_fed trees c.new.result c.in-Ok.feeder c.args.bytes.now c.new.ensures c.in-Ok.ensures) c.finish.ensures k
