use Rattle.std.proofs.Common.{drop, ◌+◌}
use Rattle.wi_nfa.specs.Automata.{AcceptsFrom}
use Rattle.wi_nfa.specs.Rows.{automaton_of}
use Rattle.wi_nfa.specs.Sets.{symbols}
use Rattle.wi_nfa.proofs.Words.{word_on, word_ends, steps_inside, drop_symbols}
use Rattle.wi_nfa.proofs.nfa.Nfa.accepts_word.Goals as goal

pub loop-symbol-preserved : goal.loop-symbol-preserved
loop-symbol-preserved g c = record {
  same = word_on (automaton_of g.A.Atom.set c.args.self.now) c.loop-symbol.marks.items c.as_slice.result.now c.in_ok-marks-2.marks.items _ _
      (symbols (drop (c.loop-symbol.symbol-index + 1) c.args.word.now)) _ c.as_slice.ensures.value (drop_symbols c.args.word.now c.loop-symbol.symbol-index (record { 0 = 0 }) c.loop-symbol-test.true) c.in_ok-marks-2.ensures.led
      (steps_inside g.A.Atom.set c.self.inside.after.items c.self.inside.ahead.items c.self.inside.accepting.items c.self.inside.atoms.items c.args.self.now c.self.view_is c.self.invariant)
      c.loop-symbol.invariant.same;
}

pub returns : goal.returns
returns g c =
    word_ends (automaton_of g.A.Atom.set c.args.self.now) c.loop-symbol.marks.items c.as_slice-2.result.now c.args.word.now c.loop-symbol.symbol-index c.any_accepts.result
    (AcceptsFrom (automaton_of g.A.Atom.set c.args.self.now) 0 (symbols c.args.word.now)) c.as_slice-2.ensures.value c.loop-symbol-test.false c.any_accepts.ensures c.loop-symbol.invariant.same
