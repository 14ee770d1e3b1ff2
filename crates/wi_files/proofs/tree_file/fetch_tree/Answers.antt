use Rattle.std.proofs.Common.{Err, subst}
use Rattle.wi_cert.specs.Reading.{Finishes}
use Rattle.wi_cert.specs.Trees.{trees}
use Rattle.wi_files.proofs.Parts.{fed_badly, fed_tree}
use Rattle.wi_files.proofs.tree_file.fetch_tree.Goals as goal

pub returns-in-Ok-clause-read : goal.returns-in-Ok-clause-read
returns-in-Ok-clause-read g c = fed_tree c.in-Ok.tree (g.S.Shelf.seen c.args.shelf.now) c.args.name.now c.in_ok-feeder.feeder c.in_ok-feeder.ensures.read c.in-Ok.ensures

pub returns-in-Err-BadLine-clause-refused : goal.returns-in-Err-BadLine-clause-refused
returns-in-Err-BadLine-clause-refused g c =
    fed_badly trees (g.S.Shelf.seen c.args.shelf.now) (g.S.Shelf.seen c.feed_parts.new.shelf) c.args.name.now c.in-Err-BadLine.line c.in_ok-feeder.feeder c.in_ok-feeder.ensures.calm c.in_ok-feeder.ensures.read
    (subst (λ why. Finishes trees c.in_ok-feeder.feeder (Err why)) c.in-Err-BadLine.field-0-is c.in-Err-BadLine.ensures)
