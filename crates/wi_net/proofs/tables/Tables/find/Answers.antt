use Rattle.std.proofs.Common.{◌∙◌}
use Rattle.wi_net.specs.private.Tables.{row_key}
use Rattle.wi_net.proofs.FindingLemmas.{pair_found}
use Rattle.wi_net.proofs.tables.Tables.find.Goals as goal

pub returns-clause-value : goal.returns-clause-value
returns-clause-value c = rw (← c.self.view_is) (c.get_index_of.ensures.index ∙ pair_found row_key c.self.inside.keys.keys c.self.inside.rows.items c.args.link.0 c.args.label.0 c.self.invariant.keys_are)
