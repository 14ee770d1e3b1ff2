use Rattle.std.proofs.Common.{◌∙◌}
use Rattle.wi_files.proofs.Causes.{err_as}
use Rattle.wi_ask.proofs.Deciding.{ring_is_read, ring_refused, ring_summed}
use Rattle.wi_ask.proofs.ring.summary_of_generated.Goals as goal

pub returns-in_err-asked-clause-refused : goal.returns-in_err-asked-clause-refused
returns-in_err-asked-clause-refused c =
    err_as _ _ _ c.from_residual.ensures.1
    (ring_is_read c.args.ring.0 c.args.ring.1 _ _ _ _ c.requires.network (c.deref.ensures ∙ c.requires.query) (c.deref-2.ensures ∙ c.requires.weights)
    (c.the_texts_have_no_fault.ensures.query c.args.ring.0 c.args.ring.1 c.requires.least c.requires.most) c.the_texts_have_no_fault.ensures.weights c.in_err-asked.ensures.refused)

pub returns-clause-summary : goal.returns-clause-summary
returns-clause-summary c =
    ring_summed c.summary_of_asked-printed.result c.args.ring.0 c.args.ring.1 _ _ _ _ _ c.requires.network (c.deref.ensures ∙ c.requires.query) (c.deref-2.ensures ∙ c.requires.weights) c.in_ok-asked.ensures.read c.in_ok-asked.ensures.automata (rw c.of-problem.ensures at c.summary_of_asked-printed.ensures.summed)

pub returns-clause-refused : goal.returns-clause-refused
returns-clause-refused c =
    ring_refused c.summary_of_asked-printed.result c.args.ring.0 c.args.ring.1 _ _ _ _ _ c.requires.network (c.deref.ensures ∙ c.requires.query) (c.deref-2.ensures ∙ c.requires.weights) c.in_ok-asked.ensures.read c.in_ok-asked.ensures.automata (rw c.of-problem.ensures at c.summary_of_asked-printed.ensures.refused)
