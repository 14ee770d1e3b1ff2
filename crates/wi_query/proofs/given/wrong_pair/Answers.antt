-- The pair begins behind the front.
use Rattle.std.proofs.Common.{sym, ◌∙◌}
use Rattle.wi_query.proofs.Giving.{far_pair, pair_told, shared_same}
use Rattle.wi_query.proofs.given.wrong_pair.Goals as goal

pub overflow_sub-result : goal.overflow_sub-result
overflow_sub-result c = far_pair c.args.net.now c.args.written.now c.in_ok-at.at c.requires.written (sym c.in_ok-at.was ∙ c.first_linkless.ensures)

pub returns-clause-wrong : goal.returns-clause-wrong
returns-clause-wrong c = (
  sym (shared_same c.args.net.now c.args.written.now _ _ c.requires.down c.requires.up) ∙ sym c.shared.ensures ∙ c.in_default.is,
  pair_told c.args.net.now c.args.written.now c.in_ok-at.at c.requires.written (sym c.in_ok-at.was ∙ c.first_linkless.ensures),
)
