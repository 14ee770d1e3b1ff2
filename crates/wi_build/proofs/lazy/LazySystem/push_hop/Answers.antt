use Rattle.std.proofs.Common.{◌≡◌, Some}
use Rattle.wi_rules.specs.Rules.{first_word_over}
use Rattle.wi_build.proofs.RowLemmas.{on_ok}
use Rattle.wi_build.proofs.HopLemmas.{member_known, hop_row, needs_few}
use Rattle.wi_build.proofs.lazy.LazySystem.push_hop.Goals as goal

pub first_word_over-requires-clause-ops : goal.first_word_over-requires-clause-ops
first_word_over-requires-clause-ops c = rw c.as_slice.ensures (member_known _ _ _ _ _ c.keeps.ensures.problem.network c.requires.member).ops

pub hop_weight-requires-clause-member : goal.hop_weight-requires-clause-member
hop_weight-requires-clause-member c = (member_known _ _ _ _ _ c.keeps.ensures.problem.network c.requires.member).way

pub hop_weight-requires-clause-failures : goal.hop_weight-requires-clause-failures
hop_weight-requires-clause-failures c =
    rw c.len.ensures (needs_few c.args.self.now c.args.at c.args.needs.now c.args.step c.args.number c.args.member.now c.keeps.ensures.problem c.requires.needs c.requires.member)

pub push_each-requires : goal.push_each-requires
push_each-requires c = let known = member_known _ _ _ _ _ c.keeps.ensures.problem.network c.requires.member in (known.group, known.place)

pub returns : goal.returns
returns c =
    let written : first_word_over c.args.self.now.net c.args.member.now.ops c.args.at.top.0 ≡ Some c.in-Some.word = cc in
    on_ok c.push_each.result _ _
    (hop_row c.args.self.now c.args.at c.args.needs.now c.args.step c.args.number c.args.member.now c.keeps.ensures.problem c.requires.needs c.requires.member
    c.args.head c.in-Some.word c.hop_weight.result c.len.result c.through.result _ _ _ c.requires.taken written c.len.ensures c.hop_weight.ensures c.path_after-states.ensures c.through.ensures)
    c.push_each.ensures
