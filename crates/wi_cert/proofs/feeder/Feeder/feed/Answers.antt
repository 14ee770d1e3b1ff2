use Rattle.std.proofs.Common.{rules, ◌≡◌, length}
use Rattle.wi_cert.specs.Sheets.{certificates}
use Rattle.wi_cert.specs.private.Marks.{line_count}
use Rattle.wi_cert.proofs.ReadingLemmas.{stays_bad, takes_in}
use Rattle.wi_cert.proofs.MarkLemmas.{follows_same, undone}
use Rattle.wi_cert.proofs.feeder.Feeder.feed.Goals as goal

pub returns-in-Some : goal.returns-in-Some
returns-in-Some c = stays_bad certificates line_count c.self.inside.bad c.self.inside.held.items c.self.inside.draft c.args.self.now c.in-Some.line c.args.piece.now c.self.view_is c.in-Some.is

pub returns-in-Ok-true : goal.returns-in-Ok-true
returns-in-Ok-true c = takes_in certificates line_count c.self.inside.bad c.self.inside.held.items c.take_piece.new.held.items c.self.inside.draft c.take_piece.new.draft c.args.self.now c.args.piece.now c.in-Ok-true.field-0 c.self.view_is c.in_default.is c.in-Ok-true.field-0-test c.in-Ok-true.ensures.ok

pub returns-in-Ok-false : goal.returns-in-Ok-false
returns-in-Ok-false c = search rules

pub returns-in-Err-Memory : goal.returns-in-Err-Memory
returns-in-Err-Memory c =
    let long : c.len-held.result ≡ length c.self.inside.held.items = search rules in
    undone c.self.inside.bad c.self.inside.held.items c.take_piece.new.held.items c.truncate.new.self.items c.self.inside.draft c.take_piece.new.draft c.go_back.new.self c.mark-mark.result c.len-held.result c.args.self.now
    c.self.view_is c.mark-mark.ensures.mark (c.in-Err-Memory.ensures.draft c.self.inside.draft (follows_same c.self.inside.draft)) c.go_back.ensures long c.in-Err-Memory.ensures.held c.truncate.ensures.items
