use Rattle.std.proofs.Common.{◌+◌, refl}
use Rattle.wi_check.proofs.TreeLemmas.{stands, taken_part, next_checked, next_refused}
use Rattle.wi_check.proofs.tree.check_next.Goals as goal

pub check_node-checked-requires-clause-branch : goal.check_node-checked-requires-clause-branch
check_node-checked-requires-clause-branch c =
    let at = stands c.args.tree.now.nodes c.as_slice.result.now c.args.place c.index-as_slice-place.result c.as_slice.ensures c.requires.within c.index-as_slice-place.is in
    (taken_part c.args.problem.now c.args.tree.now c.args.place c.index-as_slice-place.result c.in-Some.branch c.args.left.now.items c.pop.new.self.items c.keeps.ensures.problem at c.in-Some.ensures.items c.requires.before).bounds

pub returns-in-Some-clause-checked : goal.returns-in-Some-clause-checked
returns-in-Some-clause-checked c =
    let at = stands c.args.tree.now.nodes c.as_slice.result.now c.args.place c.index-as_slice-place.result c.as_slice.ensures c.requires.within c.index-as_slice-place.is in
    next_checked c.args.problem.now c.args.tree.now c.args.place c.index-as_slice-place.result c.in-Some.branch c.args.left.now.items c.pop.new.self.items c.keeps.ensures.problem at c.in-Some.ensures.items c.requires.before
    c.check_node-checked.result c.check_node-checked.new.left.items c.check_node-checked.ensures.checked

pub returns-in-Some-clause-refused : goal.returns-in-Some-clause-refused
returns-in-Some-clause-refused c =
    let at = stands c.args.tree.now.nodes c.as_slice.result.now c.args.place c.index-as_slice-place.result c.as_slice.ensures c.requires.within c.index-as_slice-place.is in
    next_refused c.args.problem.now c.args.tree.now c.args.place c.index-as_slice-place.result c.in-Some.branch c.args.left.now.items c.pop.new.self.items c.keeps.ensures.problem at c.in-Some.ensures.items c.requires.before
    (c.args.place + 1) c.check_node-checked.result refl c.check_node-checked.ensures.refused
