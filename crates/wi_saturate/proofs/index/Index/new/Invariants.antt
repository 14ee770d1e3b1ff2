use Rattle.std.proofs.Common.{◌≡◌, ◌++◌, drop}
use Rattle.wi_saturate.specs.private.Indexes.{ruled, AreBegins}
use Rattle.wi_saturate.proofs.index.Index.new.Given as goal

abbrev pub invariant-loop-head : goal.invariant-loop-head
invariant-loop-head g l = record {
  heads : l.index.rules.heads ≡ l.heads.heads;
  begins : AreBegins l.index.rules.heads l.index.rules.items l.index.begins;
  rules : l.index.rules.items ++ ruled (g.S.System.rules l.sys) l.head (drop l.head l.listed) ≡ ruled (g.S.System.rules l.sys) 0 l.listed;
}
