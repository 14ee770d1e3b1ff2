use Rattle.std.proofs.Common.{◌≡◌, ◌∙◌, ◌-◌, ◌+◌, sym, length, arith}
use Rattle.wi_net.proofs.MemberLemmas.{get_read, member_here, member_later, members_left}
use Rattle.wi_net.proofs.tables.member_in.Goals as goal

pub returns-then-left-members : goal.returns-then-left-members
returns-then-left-members c =
    sym c.loop-group.invariant.same
    ∙ member_here c.args.groups.now c.loop-group.group-index c.loop-group.left c.group-item.result c.as_slice-members.result.now c.index-members-left.result c.loop-group-test.true c.group-item.is c.as_slice-members.ensures c.if-left-members.true
    (get_read c.as_slice-members.result.now c.loop-group.left c.index-members-left.result c.if-left-members.true c.index-members-left.is)

pub loop-group-preserved : goal.loop-group-preserved
loop-group-preserved c =
    let count : length c.as_slice-members.result.now + (c.loop-group.left - length c.as_slice-members.result.now) ≡ c.loop-group.left = omega (arith, c.if-left-members.false) in
    let left = members_left c.args.groups.now c.loop-group.group-index c.group-item.result c.as_slice-members.result.now c.loop-group-test.true c.group-item.is c.as_slice-members.ensures in
    record {
      within = omega (arith, left, count, c.loop-group.invariant.within);
      same = sym (member_later c.args.groups.now c.loop-group.group-index c.loop-group.left (c.loop-group.left - length c.as_slice-members.result.now) c.group-item.result c.as_slice-members.result.now c.loop-group-test.true c.group-item.is c.as_slice-members.ensures count) ∙ c.loop-group.invariant.same;
    }
