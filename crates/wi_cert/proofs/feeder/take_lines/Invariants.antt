use Rattle.std.proofs.Common.{◌≡◌, [], Ok, length}
use Rattle.wi_cert.specs.Reading.{fed}
use Rattle.wi_cert.specs.private.Marks.{reading}
use Rattle.wi_cert.proofs.feeder.take_lines.Given as goal

abbrev pub invariant-lines : goal.invariant-lines
invariant-lines g l = record {
  on : fed g.D.TakeLines.form (Ok (reading g.D.TakeLines.count [] l.draft)) l.rest ≡ fed g.D.TakeLines.form (Ok (reading g.D.TakeLines.count [] l.initial.draft)) l.piece;
  follows : (mark : g.row.D.Denot) → g.D.TakeLines.Follows mark l.initial.draft → g.D.TakeLines.Follows mark l.draft;
}

abbrev pub decreases-lines : goal.decreases-lines
decreases-lines g l = length l.rest
