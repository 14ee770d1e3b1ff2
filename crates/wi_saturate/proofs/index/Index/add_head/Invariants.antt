use Rattle.std.proofs.Common.{◌≡◌, ◌++◌, drop}
use Rattle.wi_saturate.specs.private.Indexes.{ruled_from, AreBegins}
use Rattle.wi_saturate.proofs.index.Index.add_head.Given as goal

abbrev pub invariant-loop-at : goal.invariant-loop-at
invariant-loop-at g l = record {
  heads : l.self.rules.heads ≡ l.initial.self.rules.heads;
  begins : AreBegins l.self.rules.heads l.self.rules.items l.self.begins;
  rules : l.self.rules.items ++ ruled_from l.head l.at (drop l.at l.rules) ≡ l.initial.self.rules.items ++ ruled_from l.head 0 l.rules;
}
