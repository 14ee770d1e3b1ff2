use Rattle.std.proofs.Common.{◌∙◌, sym}
use Rattle.wi_planjson.proofs.StartLemmas.{ends_here, ends_all}
use Rattle.wi_planjson.proofs.paths.all_end.Goals as goal

pub returns-then-not-is_end : goal.returns-then-not-is_end
returns-then-not-is_end c = ends_here c.args.paths.now c.as_slice-list.result.now c.loop-i.i c.index-list-i.result c.as_slice-list.ensures c.loop-i-test.true c.index-list-i.is (sym c.is_end.ensures ∙ c.if-not-is_end.true) c.loop-i.invariant

pub returns : goal.returns
returns c = ends_all c.args.paths.now c.as_slice-list.result.now c.loop-i.i c.as_slice-list.ensures c.loop-i-test.false c.loop-i.invariant
