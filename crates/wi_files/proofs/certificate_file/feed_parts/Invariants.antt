use Rattle.std.proofs.Common.{◌-◌}
use Rattle.wi_cert.specs.Sheets.{certificates}
use Rattle.wi_files.proofs.Parts.{IsReading}
use Rattle.wi_files.proofs.certificate_file.feed_parts.Given as goal

abbrev pub invariant-loop-part : goal.invariant-loop-part
invariant-loop-part g l = IsReading certificates (g.S.Shelf.seen l.initial.shelf) (g.S.Shelf.seen l.shelf) l.name l.at l.feeder

abbrev pub decreases-loop-part : goal.decreases-loop-part
decreases-loop-part g l = 268435457 - l.at
