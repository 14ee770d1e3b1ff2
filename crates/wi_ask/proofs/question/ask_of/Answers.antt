use Rattle.std.proofs.Common.{inl, refl}
use Rattle.wi_files.proofs.Causes.{err_as}
use Rattle.wi_words.specs.Shown.{wanted_shown}
use Rattle.wi_ask.specs.Wanted.{FromWanted, IsGiven}
use Rattle.wi_ask.proofs.Asking.{asked_refused, asked_told}
use Rattle.wi_ask.proofs.question.ask_of.Goals as goal

pub returns-in_err-asked-clause-refused : goal.returns-in_err-asked-clause-refused
returns-in_err-asked-clause-refused g c = err_as _ _ _ c.from_residual.ensures.1 (inl (c.in_err-asked.ensures.refused, refl))

pub returns-clause-answered : goal.returns-clause-answered
returns-clause-answered g c =
    asked_told c.give-printed.result (IsGiven (wanted_shown c.args.wanted) (g.S.Shelf.seen c.args.shelf.now) (g.S.Shelf.seen c.give-printed.new.shelf)) _ _ _ _ _ c.in_ok-asked.ensures.read c.in_ok-asked.ensures.automata (rw c.of-problem.ensures at c.give-printed.ensures.given)

pub returns-clause-refused : goal.returns-clause-refused
returns-clause-refused g c =
    asked_refused c.give-printed.result (FromWanted (wanted_shown c.args.wanted) (g.S.Shelf.seen c.args.shelf.now) (g.S.Shelf.seen c.give-printed.new.shelf)) (g.S.Shelf.seen c.args.shelf.now) (g.S.Shelf.seen c.give-printed.new.shelf) _ _ _ _ _
    c.in_ok-asked.ensures.read c.in_ok-asked.ensures.automata (rw c.of-problem.ensures at c.give-printed.ensures.refused)
