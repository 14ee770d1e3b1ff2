use Rattle.std.proofs.Common.{◌≡◌, Some}
use Rattle.wi_rules.specs.Rules.{lost_by}
use Rattle.wi_build.proofs.RowLemmas.{on_ok}
use Rattle.wi_build.proofs.HopLemmas.{member_known, lost_row, needs_few}
use Rattle.wi_build.proofs.lazy.LazySystem.push_lost.Goals as goal

pub lost_by-requires-clause-ops : goal.lost_by-requires-clause-ops
lost_by-requires-clause-ops c = (member_known _ _ _ _ _ c.keeps.ensures.problem.network c.requires.member).ops

pub end_weight-requires : goal.end_weight-requires
end_weight-requires c =
    rw c.len.ensures (needs_few c.args.self.now c.args.at c.args.needs.now c.args.step c.args.number c.args.member.now c.keeps.ensures.problem c.requires.needs c.requires.member)

pub push-requires : goal.push-requires
push-requires c = let known = member_known _ _ _ _ _ c.keeps.ensures.problem.network c.requires.member in (known.group, known.place)

pub returns : goal.returns
returns c =
    let way : lost_by c.args.self.now.net c.args.member.now.ops c.args.number 0 c.args.at.top.0 ≡ Some (c.in-Some.to, c.in-Some.word) = cc in
    on_ok c.push.result _ _
    (lost_row c.args.self.now c.args.at c.args.needs.now c.args.step c.args.number c.args.member.now c.keeps.ensures.problem c.requires.needs c.requires.member
    c.args.head c.in-Some.to c.in-Some.word c.end_weight.result c.len.result _ _ c.requires.taken way c.len.ensures c.end_weight.ensures)
    c.push.ensures
