use Rattle.std.proofs.Common.{length, ◌∙◌, refl}
use Rattle.wi_nfa.proofs.Reading.{states_below, row_read, among_lists}
use Rattle.wi_nfa.proofs.nfa.Nfa.next.Goals as goal

pub returns : goal.returns
returns g c =
    among_lists g.A.Atom.set c.self.inside.after.items c.self.inside.ahead.items c.self.inside.accepting.items c.self.inside.atoms.items c.args.self.now c.args.q c.args.symbol.0
    c.self.view_is c.self.invariant c.as_slice.result.now c.as_slice-row.result.now _
    (c.as_slice-row.ensures.value ∙ row_read c.self.inside.after.items (length c.self.inside.after.items) c.args.q c.index.result.now refl (states_below _ _ c.args.q c.self.view_is c.requires) c.index.ensures)
    c.as_slice.ensures.value c.among.ensures
