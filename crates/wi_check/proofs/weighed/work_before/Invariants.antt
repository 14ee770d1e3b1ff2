use Rattle.std.proofs.Common.{◌≡◌, ◌+◌, drop}
use Rattle.wi_world.specs.Runs.{work_before}
use Rattle.wi_check.proofs.weighed.work_before.Given as goal

abbrev pub invariant-loop-done : goal.invariant-loop-done
invariant-loop-done l = l.done + work_before (drop l.done l.ops) l.header ≡ work_before l.fn.member.ops l.fn.header
