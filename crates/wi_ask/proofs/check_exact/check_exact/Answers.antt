use Rattle.wi_cert.specs.Text.{IsBadLine}
use Rattle.wi_cert.specs.Trees.{trees}
use Rattle.wi_files.proofs.Causes.{err_as}
use Rattle.wi_ask.specs.Exact.{FromTree, IsRefusedTree}
use Rattle.wi_ask.proofs.Exactly.{tree_file_believed, tree_file_not_believed}
use Rattle.wi_ask.proofs.Checking.{lines_refused}
use Rattle.wi_ask.proofs.check_exact.check_exact.Goals as goal

pub returns-in_err-tree-clause-refused : goal.returns-in_err-tree-clause-refused
returns-in_err-tree-clause-refused g c =
    let problem = c.args.problem.now in
    let old = g.S.Shelf.seen c.args.shelf.now in
    err_as (FromTree old (g.S.Shelf.seen c.fetch_tree.new.shelf) problem c.args.file.now) _ _ c.from_residual.ensures.1 (lines_refused (IsBadLine trees) (IsRefusedTree old problem c.args.file.now) old (g.S.Shelf.seen c.fetch_tree.new.shelf) problem c.args.file.now _ c.in_err-tree.ensures.refused)

pub returns-clause-believed : goal.returns-clause-believed
returns-clause-believed g c =
    tree_file_believed c.believed-printed.result (g.S.Shelf.seen c.args.shelf.now) c.args.problem.now c.args.file.now c.in_ok-tree.ensures.read.0 c.in_ok-tree.tree c.in_ok-tree.ensures.read.1 c.in_ok-tree.ensures.read.2 c.believed-printed.ensures.believed c.believed-printed.ensures.status c.believed-printed.ensures.text

pub returns-clause-refused : goal.returns-clause-refused
returns-clause-refused g c =
    tree_file_not_believed c.believed-printed.result (g.S.Shelf.seen c.args.shelf.now) (g.S.Shelf.seen c.fetch_tree.new.shelf) c.args.problem.now c.args.file.now c.in_ok-tree.ensures.read.0 c.in_ok-tree.tree
    c.keeps.ensures.problem c.in_ok-tree.ensures.calm c.in_ok-tree.ensures.read.1 c.in_ok-tree.ensures.read.2 c.believed-printed.ensures.refused
