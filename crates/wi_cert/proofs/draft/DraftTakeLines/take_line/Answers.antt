use Rattle.wi_cert.proofs.MarkLemmas.{place_goes, follows_trans}
use Rattle.wi_cert.proofs.draft.DraftTakeLines.take_line.Goals as goal

pub invariant_of-self-2 : goal.invariant_of-self-2
invariant_of-self-2 c = (place_goes c.self.inside.place (record { shown = c.self.inside.shown; closed = c.self.inside.closed }) (record { shown = c.next_place.new.shown; closed = c.next_place.new.closed }) c.args.line.now c.in_ok-next.field-0 c.in-Some.next c.in_ok-next.ensures.ok c.in-Some.is).unread c.self.invariant

pub returns-clause-taken : goal.returns-clause-taken
returns-clause-taken c = rw (← c.self.view_is)
    (λ t. (place_goes c.self.inside.place (record { shown = c.self.inside.shown; closed = c.self.inside.closed }) (record { shown = c.next_place.new.shown; closed = c.next_place.new.closed }) c.args.line.now c.in_ok-next.field-0 c.in-Some.next c.in_ok-next.ensures.ok c.in-Some.is).count)

pub returns-clause-follows : goal.returns-clause-follows
returns-clause-follows c = rw (← c.self.view_is)
    (λ mark before. follows_trans mark _ _ before
    ((place_goes c.self.inside.place (record { shown = c.self.inside.shown; closed = c.self.inside.closed }) (record { shown = c.next_place.new.shown; closed = c.next_place.new.closed }) c.args.line.now c.in_ok-next.field-0 c.in-Some.next c.in_ok-next.ensures.ok c.in-Some.is).follows c.self.invariant))
