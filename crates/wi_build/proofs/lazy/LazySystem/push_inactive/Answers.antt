use Rattle.std.proofs.Common.{◌≡◌, ◌∙◌}
use Rattle.wi_build.specs.private.Needs.{may_be_down}
use Rattle.wi_build.proofs.HopLemmas.{all_count, inactive_row, no_inactive}
use Rattle.wi_build.proofs.lazy.LazySystem.push_inactive.Goals as goal

pub push_end-requires-clause-failures : goal.push_end-requires-clause-failures
push_end-requires-clause-failures c = c.len.ensures ∙ all_count c.args.self.now c.args.at c.in_ok-needs.needs c.keeps.ensures.problem c.in_ok-needs.ensures

pub returns-then-not-may_be_down : goal.returns-then-not-may_be_down
returns-then-not-may_be_down c =
    let down : c.may_be_down.result ≡ may_be_down c.args.self.now.bounds c.in_ok-needs.needs = cc in
    no_inactive c.args.self.now c.args.at c.in_ok-needs.needs c.keeps.ensures.problem c.in_ok-needs.ensures c.args.head c.may_be_down.result _ down c.if-not-may_be_down.true

pub returns : goal.returns
returns c =
    let down : c.may_be_down.result ≡ may_be_down c.args.self.now.bounds c.in_ok-needs.needs = cc in
    inactive_row c.args.self.now c.args.at c.in_ok-needs.needs c.keeps.ensures.problem c.in_ok-needs.ensures c.args.head c.may_be_down.result _ _ _ down c.if-not-may_be_down.false c.push_end.ensures
