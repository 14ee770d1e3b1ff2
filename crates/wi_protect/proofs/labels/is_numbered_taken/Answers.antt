use Rattle.wi_protect.proofs.NameLemmas.{numbered_taken, numbered_free, all_free}
use Rattle.wi_protect.proofs.labels.is_numbered_taken.Goals as goal

pub returns-then-is_some : goal.returns-then-is_some
returns-then-is_some c = numbered_taken c.args.net.now _ _ _ _ _ _ _ c.loop-i-test.true c.in_ok-name.ensures c.as_str.ensures.value c.find_label.ensures.value c.if-is_some.ensures

pub loop-i-preserved : goal.loop-i-preserved
loop-i-preserved c = numbered_free c.args.net.now _ _ _ _ _ _ _ c.loop-i-test.true c.in_ok-name.ensures c.as_str.ensures.value c.find_label.ensures.value c.if-is_some.ensures c.loop-i.invariant

pub returns : goal.returns
returns c = all_free c.args.net.now _ _ _ _ c.loop-i-test.false c.loop-i.invariant
