use Rattle.std.proofs.Common.{◌≡◌, ◌+◌, [], take}
use Rattle.wi_quantity.specs.private.Shares.{risks_of}
use Rattle.wi_quantity.proofs.share.new_risks.Given as goal

abbrev pub invariant-loop-i : goal.invariant-loop-i
invariant-loop-i l = risks_of l.net l.earlier [] + l.count ≡ risks_of l.net l.earlier (take l.i l.members)
