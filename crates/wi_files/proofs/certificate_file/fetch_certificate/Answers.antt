use Rattle.std.proofs.Common.{Err, subst}
use Rattle.wi_cert.specs.Reading.{Finishes}
use Rattle.wi_cert.specs.Sheets.{certificates}
use Rattle.wi_files.proofs.Parts.{fed_badly, fed_text}
use Rattle.wi_files.proofs.certificate_file.fetch_certificate.Goals as goal

pub returns-in-Ok-finish-clause-read : goal.returns-in-Ok-finish-clause-read
returns-in-Ok-finish-clause-read g c = fed_text c.in-Ok-finish.certificate (g.S.Shelf.seen c.args.shelf.now) c.args.name.now c.feed_parts.new.feeder c.in-Ok.ensures.read c.in-Ok-finish.ensures

pub returns-in-Err-BadLine-clause-refused : goal.returns-in-Err-BadLine-clause-refused
returns-in-Err-BadLine-clause-refused g c =
    fed_badly certificates (g.S.Shelf.seen c.args.shelf.now) (g.S.Shelf.seen c.feed_parts.new.shelf) c.args.name.now c.in-Err-BadLine.line c.feed_parts.new.feeder c.in-Ok.ensures.calm c.in-Ok.ensures.read
    (subst (λ why. Finishes certificates c.feed_parts.new.feeder (Err why)) c.in-Err-BadLine.field-0-is c.in-Err-BadLine.ensures)
