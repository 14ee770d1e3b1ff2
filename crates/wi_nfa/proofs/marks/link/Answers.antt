use Rattle.std.proofs.Common.{◌<◌, length, get_or, arith}
use Rattle.wi_nfa.proofs.Marking.{square_more, link_more, all_linked}
use Rattle.wi_nfa.proofs.marks.link.Goals as goal

pub loop-p-preserved : goal.loop-p-preserved
loop-p-preserved c =
    let room = c.requires.ends c.loop-p.p-index 0 c.loop-p-test.true in
    let same = c.loop-p.invariant.len in
    let ok = c.loop-p.rows.ok in
    let inside : get_or c.args.ends.now c.loop-p.p-index 0 < length c.loop-p.rows.items = omega arith in
    record {
      len = c.loop-p.invariant.len;
      square = square_more c.args.rows.now.items c.loop-p.rows.items _ c.args.ends.now c.args.begins.now c.loop-p.p-index c.index_mut.result.now c.mark.new.row
          c.loop-p-test.true inside c.index_mut.ensures.value c.mark.ensures.marks c.mark.ensures.len c.loop-p.invariant.square;
      marks = link_more c.args.rows.now.items c.loop-p.rows.items 0 c.args.ends.now c.args.begins.now c.loop-p.p-index c.index_mut.result.now c.mark.new.row
          c.loop-p-test.true inside c.index_mut.ensures.value c.mark.ensures.marks c.loop-p.invariant.marks;
    }

pub returns-clause-marks : goal.returns-clause-marks
returns-clause-marks c = all_linked _ _ _ _ c.loop-p.p-index (let over = c.loop-p-test.false in omega arith) c.loop-p.invariant.marks
