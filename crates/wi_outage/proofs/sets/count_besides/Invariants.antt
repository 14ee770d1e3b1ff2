use Rattle.std.proofs.Common.{◌≡◌, ◌+◌, ◌≤◌, drop}
use Rattle.wi_outage.proofs.Counting.{besides}
use Rattle.wi_outage.proofs.sets.count_besides.Given as goal

abbrev pub invariant-loop-i : goal.invariant-loop-i
invariant-loop-i l = record {
  counted : l.count + besides l.net l.one l.other (drop l.i l.set) ≡ besides l.net l.one l.other l.set;
  few : l.count ≤ l.i;
}
