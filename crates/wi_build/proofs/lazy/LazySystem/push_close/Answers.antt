use Rattle.std.proofs.Common.{refl}
use Rattle.wi_build.specs.Encodings.{encoding_of}
use Rattle.wi_build.proofs.RowLemmas.{on_ok, close_row}
use Rattle.wi_build.proofs.lazy.LazySystem.push_close.Goals as goal

pub returns : goal.returns
returns c =
    on_ok c.push_each.result _ _
    (close_row (encoding_of c.args.self.now) c.args.head c.args.state c.args.top.0 _ _ _ _ c.plain.ensures refl c.requires.symbol c.requires.label c.last_after-states.ensures)
    c.push_each.ensures
