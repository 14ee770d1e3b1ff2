use Rattle.std.proofs.Common.{sym, ◌∙◌}
use Rattle.wi_cert.specs.Trees.{trees}
use Rattle.wi_cert.specs.private.TreeMarks.{tree_line_count}
use Rattle.wi_cert.proofs.ReadingLemmas.{stays_told}
use Rattle.wi_cert.proofs.tree_feeder.TreeFeeder.take.Goals as goal

pub returns-then-is_some : goal.returns-then-is_some
returns-then-is_some c = stays_told trees tree_line_count c.self.inside.bad c.self.inside.held.items c.self.inside.draft c.args.self.now c.args.piece.now c.self.view_is (sym c.is_some.ensures ∙ c.if-is_some.true)
