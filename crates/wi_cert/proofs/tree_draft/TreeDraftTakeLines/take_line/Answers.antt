use Rattle.wi_cert.proofs.TreeMarkLemmas.{tree_place_goes}
use Rattle.wi_cert.proofs.tree_draft.TreeDraftTakeLines.take_line.Goals as goal

pub invariant_of-self-2 : goal.invariant_of-self-2
invariant_of-self-2 c =
    let g = tree_place_goes c.self.inside.place (record { shown = c.self.inside.shown; nodes = c.self.inside.nodes.items }) (record { shown = c.next_place.new.shown; nodes = c.next_place.new.nodes.items }) c.self.inside.leaf c.next_place.new.leaf c.args.line.now c.in_ok-next.field-0 c.in-Some.next c.in_ok-next.ensures.ok c.in-Some.is in
    (g.room c.self.invariant.0, g.decided c.self.invariant.1)

pub returns-clause-taken : goal.returns-clause-taken
returns-clause-taken c = rw (← c.self.view_is)
    (λ t. (tree_place_goes c.self.inside.place (record { shown = c.self.inside.shown; nodes = c.self.inside.nodes.items }) (record { shown = c.next_place.new.shown; nodes = c.next_place.new.nodes.items }) c.self.inside.leaf c.next_place.new.leaf c.args.line.now c.in_ok-next.field-0 c.in-Some.next c.in_ok-next.ensures.ok c.in-Some.is).count)
