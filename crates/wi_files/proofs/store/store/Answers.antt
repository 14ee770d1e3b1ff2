use Rattle.std.proofs.Common.{rules}
use Rattle.wi_files.proofs.Causes.{is_err}
use Rattle.wi_files.proofs.ShelfLemmas.{all_stand}
use Rattle.wi_files.proofs.store.store.Goals as goal

pub returns-in-Err-Memory-clause-left : goal.returns-in-Err-Memory-clause-left
returns-in-Err-Memory-clause-left g c =
    all_stand (g.S.Shelf.seen c.args.shelf.now) (g.S.Shelf.seen c.store.new.self) c.args.name.now c.store.ensures.others (c.store.ensures.memory (is_err c.store.result _ _ c.in-Err-Memory.is c.in-Err-Memory.field-0-is))

pub returns-in-Err-Failed-clause-left : goal.returns-in-Err-Failed-clause-left
returns-in-Err-Failed-clause-left g c = search rules
