use Rattle.std.proofs.Common.{◌≡◌}
use Rattle.wi_build.specs.private.Needs.{may_be_up}
use Rattle.wi_build.specs.Encodings.{encoding_of}
use Rattle.wi_build.proofs.RowLemmas.{none_made}
use Rattle.wi_build.proofs.HopLemmas.{no_member, taken}
use Rattle.wi_build.proofs.lazy.LazySystem.push_member.Goals as goal

pub returns-then-not-may_be_up : goal.returns-then-not-may_be_up
returns-then-not-may_be_up c =
    let up : c.may_be_up.result ≡ may_be_up c.args.self.now.net c.args.self.now.bounds c.args.needs.now c.args.member.now.link = cc in
    none_made (encoding_of c.args.self.now) c.args.head _ _
    (no_member c.args.self.now c.args.at c.args.needs.now c.args.step c.args.number c.args.member.now c.keeps.ensures.problem c.requires.needs c.requires.member c.args.fate c.may_be_up.result up c.if-not-may_be_up.true)

pub push_hop-requires-clause-taken : goal.push_hop-requires-clause-taken
push_hop-requires-clause-taken c =
    let up : c.may_be_up.result ≡ may_be_up c.args.self.now.net c.args.self.now.bounds c.args.needs.now c.args.member.now.link = cc in
    taken c.args.self.now c.args.at c.args.needs.now c.args.step c.args.number c.args.member.now c.keeps.ensures.problem c.requires.needs c.requires.member c.may_be_up.result up c.if-not-may_be_up.false

pub push_lost-requires-clause-taken : goal.push_lost-requires-clause-taken
push_lost-requires-clause-taken c =
    let up : c.may_be_up.result ≡ may_be_up c.args.self.now.net c.args.self.now.bounds c.args.needs.now c.args.member.now.link = cc in
    taken c.args.self.now c.args.at c.args.needs.now c.args.step c.args.number c.args.member.now c.keeps.ensures.problem c.requires.needs c.requires.member c.may_be_up.result up c.if-not-may_be_up.false
