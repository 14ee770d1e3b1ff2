use Rattle.wi_build.specs.Encodings.{encoding_of}
use Rattle.wi_build.proofs.RowLemmas.{on_ok, first_link_row}
use Rattle.wi_build.proofs.lazy.LazySystem.push_first_link.Goals as goal

pub returns : goal.returns
returns c =
    on_ok c.push_each.result _ _
    (first_link_row (encoding_of c.args.self.now) c.args.head c.args.top.0 c.args.link _ _ _ _ c.requires.symbol c.first_weight.ensures c.path_after-states.ensures)
    c.push_each.ensures
