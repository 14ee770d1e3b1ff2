use Rattle.std.proofs.Common.{◌≡◌, ◌++◌}
use Rattle.wi_bypass.proofs.whole.push_all.Given as goal

abbrev pub invariant-loop-bypass : goal.invariant-loop-bypass
invariant-loop-bypass l = l.bypasses.items ++ l.bypass-iterator.rest.items ≡ l.fn.bypasses.items ++ l.fn.found.items
