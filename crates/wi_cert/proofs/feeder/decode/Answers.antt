use Rattle.std.proofs.Common.{refl}
use Rattle.wi_cert.specs.Sheets.{certificates}
use Rattle.wi_cert.specs.Text.{IsText}
use Rattle.wi_cert.proofs.SoundLemmas.{decoded_is_text}
use Rattle.wi_cert.proofs.DecodeLemmas.{whole_fed, found_text, told_bad, fed_bad}
use Rattle.wi_cert.proofs.feeder.decode.Goals as goal

pub returns-in-Ok-clause-found : goal.returns-in-Ok-clause-found
returns-in-Ok-clause-found c = found_text certificates IsText decoded_is_text c.args.bytes.now c.feed.new.self c.finish.result (whole_fed certificates c.new-feeder.result c.feed.new.self c.args.bytes.now c.new-feeder.ensures c.in-Ok.ensures.0) c.finish.ensures

pub returns-in-Ok-clause-bad : goal.returns-in-Ok-clause-bad
returns-in-Ok-clause-bad c = λ n k. told_bad certificates c.args.bytes.now c.feed.new.self c.finish.result n (whole_fed certificates c.new-feeder.result c.feed.new.self c.args.bytes.now c.new-feeder.ensures c.in-Ok.ensures.0) c.finish.ensures k

pub returns-in-Err-clause-bad : goal.returns-in-Err-clause-bad
returns-in-Err-clause-bad c = λ n k. fed_bad certificates c.args.bytes.now c.new-feeder.result c.feed.new.self c.in-Err.refused n _ c.new-feeder.ensures c.in-Err.ensures refl k
