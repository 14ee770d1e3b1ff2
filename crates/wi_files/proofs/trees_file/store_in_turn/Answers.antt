use Rattle.std.proofs.Common.{rules}
use Rattle.wi_files.proofs.Causes.{is_err}
use Rattle.wi_files.proofs.ShelfLemmas.{only_first}
use Rattle.wi_files.proofs.trees_file.store_in_turn.Goals as goal

pub returns-in-Err-Memory-clause-left : goal.returns-in-Err-Memory-clause-left
returns-in-Err-Memory-clause-left g c =
    only_first (g.S.Shelf.seen c.args.shelf.now) (g.S.Shelf.seen c.store.new.shelf) (g.S.Shelf.seen c.store-2.new.self) c.args.name.now c.args.below.now c.store.ensures.others c.store-2.ensures.others
    (c.store-2.ensures.memory (is_err c.store-2.result _ _ c.in-Err-Memory.is c.in-Err-Memory.field-0-is))

pub returns-in-Err-Failed-clause-left : goal.returns-in-Err-Failed-clause-left
returns-in-Err-Failed-clause-left g c = search rules
