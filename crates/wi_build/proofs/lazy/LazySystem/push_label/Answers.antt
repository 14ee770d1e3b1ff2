use Rattle.std.proofs.Common.{sym, ◌∙◌}
use Rattle.wi_build.specs.Encodings.{encoding_of}
use Rattle.wi_build.proofs.RowLemmas.{on_ok, label_row}
use Rattle.wi_build.proofs.lazy.LazySystem.push_label.Goals as goal

pub returns : goal.returns
returns c =
    on_ok c.push_each.result _ _
    (label_row (encoding_of c.args.self.now) c.args.head c.args.state c.args.label _ _ _ _ (sym c.may_build.ensures ∙ c.if-not-may_build.false) c.effort.ensures c.first_before-states.ensures)
    c.push_each.ensures
