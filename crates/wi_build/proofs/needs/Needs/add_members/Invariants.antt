use Rattle.std.proofs.Common.{◌≡◌, drop}
use Rattle.wi_build.specs.private.Needs.{with_members}
use Rattle.wi_build.proofs.needs.Needs.add_members.Given as goal

abbrev pub invariant-loop-member : goal.invariant-loop-member
invariant-loop-member l = with_members l.net l.bounds l.self (drop l.member-index l.members) ≡ with_members l.net l.bounds l.initial.self l.members
