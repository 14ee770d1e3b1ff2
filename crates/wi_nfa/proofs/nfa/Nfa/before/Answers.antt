use Rattle.std.proofs.Common.{◌<◌, length, ◌∙◌, refl, arith}
use Rattle.wi_nfa.proofs.Reading.{states_below, row_read, all_lists}
use Rattle.wi_nfa.proofs.nfa.Nfa.before.Goals as goal

pub returns-then-enters : goal.returns-then-enters
returns-then-enters g c =
    all_lists g.A.Atom.set c.self.inside.after.items c.self.inside.ahead.items c.self.inside.accepting.items c.self.inside.atoms.items c.args.self.now c.args.q c.args.symbol.0
    c.self.view_is c.self.invariant c.as_slice-atoms.result.now c.as_slice-row.result.now _ c.enters.result c.enters.ensures c.if-enters.true
    (c.as_slice-row.ensures.value ∙ row_read c.self.inside.ahead.items (length c.self.inside.ahead.items) c.args.q c.index.result.now refl (let lt : c.args.q < length c.self.inside.after.items = states_below _ _ c.args.q c.self.view_is c.requires in let same = c.self.invariant.same_count in omega arith) c.index.ensures)
    c.as_slice-atoms.ensures.value c.all.ensures
