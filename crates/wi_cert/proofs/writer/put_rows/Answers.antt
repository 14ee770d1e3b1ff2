use Rattle.std.proofs.Common.{◌++◌, ap, ◌∙◌, subst, map}
use Rattle.std.specs.List.{flat_map}
use Rattle.std.proofs.lemmas.List.Elements.{All-more}
use Rattle.wi_cert.specs.Closed.{row_line, HasRowRanges}
use Rattle.wi_cert.specs.Text.{ended}
use Rattle.wi_cert.proofs.WritingLemmas.{line_more, all_gone}
use Rattle.wi_cert.proofs.writer.put_rows.Goals as goal

pub loop-row-preserved : goal.loop-row-preserved
loop-row-preserved c = record {
  text = line_more row_line c.args.rows.now c.loop-row.row-index c.row-item.result c.loop-row.out.items c.put_row.new.out.items (c.args.out.now.items ++ flat_map ended (map row_line c.args.rows.now)) c.loop-row-test.true
      (c.in_ok-put_row.ensures.text ∙ ap (λ r. c.loop-row.out.items ++ ended (row_line r)) c.row-item.is) c.loop-row.invariant.text;
  ranges = All-more HasRowRanges c.args.rows.now c.loop-row.row-index c.row-item.result c.loop-row-test.true c.loop-row.invariant.ranges (subst HasRowRanges c.row-item.is c.in_ok-put_row.ensures.ranges);
}

pub returns-clause-ranges : goal.returns-clause-ranges
returns-clause-ranges c = all_gone HasRowRanges c.args.rows.now c.loop-row.row-index c.loop-row-test.false c.loop-row.invariant.ranges
