use Rattle.std.proofs.Common.{arith}
use Rattle.wi_build.proofs.HopLemmas.{group_room, member_of_group}
use Rattle.wi_build.proofs.lazy.LazySystem.push_group.Goals as goal

pub overflow_cast-step : goal.overflow_cast-step
overflow_cast-step c = let room = group_room _ _ _ _ _ c.keeps.ensures.problem.network c.requires.group in omega arith

pub overflow_cast-i : goal.overflow_cast-i
overflow_cast-i c = let room = group_room _ _ _ _ _ c.keeps.ensures.problem.network c.requires.group in omega arith

pub overflow_add-first : goal.overflow_add-first
overflow_add-first c = let room = group_room _ _ _ _ _ c.keeps.ensures.problem.network c.requires.group in omega arith

pub push_member-requires-clause-member : goal.push_member-requires-clause-member
push_member-requires-clause-member c = member_of_group _ _ _ _ _ _ _ c.requires.group c.loop-i-test.true c.index-members-i.is
