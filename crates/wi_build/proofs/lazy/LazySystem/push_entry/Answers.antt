use Rattle.std.proofs.Common.{◌≡◌, arith}
use Rattle.wi_build.specs.private.Needs.{may_be_down}
use Rattle.wi_build.proofs.HopLemmas.{entry_read, group_room, next_first, next_needs, next_rules, stop_there}
use Rattle.wi_build.proofs.lazy.LazySystem.push_entry.Goals as goal

pub returns-then-not-may_be_down : goal.returns-then-not-may_be_down
returns-then-not-may_be_down c =
    let same : c.may_be_down.result ≡ may_be_down c.args.self.now.bounds c.loop-j.needs = cc in
    stop_there c.args.self.now c.args.at c.args.fate c.loop-j.j c.loop-j.needs c.may_be_down.result c.args.head _ _ c.keeps.ensures.problem c.loop-j.invariant.needs same c.if-not-may_be_down.true c.loop-j.invariant.list

pub overflow_cast-j : goal.overflow_cast-j
overflow_cast-j c =
    let there = entry_read c.args.self.now c.args.at _ _ _ _ _ c.entry-group-items.ensures c.network-net.ensures c.loop-j-test.true c.group-item.is c.as_slice-members.ensures in
    let room = group_room c.args.self.now c.args.at _ _ _ c.keeps.ensures.problem.network (record { group = there; first_is = c.loop-j.invariant.first }) in
    omega arith

pub push_group-requires-clause-group : goal.push_group-requires-clause-group
push_group-requires-clause-group c = record {
  group = entry_read c.args.self.now c.args.at _ _ _ _ _ c.entry-group-items.ensures c.network-net.ensures c.loop-j-test.true c.group-item.is c.as_slice-members.ensures;
  first_is = c.loop-j.invariant.first;
}

pub overflow_cast-first : goal.overflow_cast-first
overflow_cast-first c =
    let there = entry_read c.args.self.now c.args.at _ _ _ _ _ c.entry-group-items.ensures c.network-net.ensures c.loop-j-test.true c.group-item.is c.as_slice-members.ensures in
    let room = group_room c.args.self.now c.args.at _ _ _ c.keeps.ensures.problem.network (record { group = there; first_is = c.loop-j.invariant.first }) in
    omega arith

pub overflow_add-first : goal.overflow_add-first
overflow_add-first c =
    let there = entry_read c.args.self.now c.args.at _ _ _ _ _ c.entry-group-items.ensures c.network-net.ensures c.loop-j-test.true c.group-item.is c.as_slice-members.ensures in
    let room = group_room c.args.self.now c.args.at _ _ _ c.keeps.ensures.problem.network (record { group = there; first_is = c.loop-j.invariant.first }) in
    omega arith

pub loop-j-preserved : goal.loop-j-preserved
loop-j-preserved c =
    let there = entry_read c.args.self.now c.args.at _ _ _ _ _ c.entry-group-items.ensures c.network-net.ensures c.loop-j-test.true c.group-item.is c.as_slice-members.ensures in
    record {
      list = next_rules c.args.self.now c.args.at c.loop-j.j c.as_slice-members.result.now there c.args.fate c.args.head _ _ _ c.loop-j.invariant.list c.in_ok-push_group.ensures;
      first = next_first c.args.self.now c.args.at c.loop-j.j c.as_slice-members.result.now there c.loop-j.first c.loop-j.invariant.first;
      needs = next_needs c.args.self.now c.args.at c.loop-j.j c.as_slice-members.result.now there _ _ _ _ c.network-net.ensures c.limits-bounds.ensures c.loop-j.invariant.needs c.in_ok-add_members.ensures;
    }
