use Rattle.std.proofs.Common.{ℕ, ◌^◌, ◌<◌, ◌++◌, map}
use Rattle.std.specs.List.{flat_map}
use Rattle.std.proofs.lemmas.List.Elements.{All-more}
use Rattle.wi_cert.specs.Shown.{pair_line}
use Rattle.wi_cert.specs.Text.{ended}
use Rattle.wi_cert.proofs.WritingLemmas.{line_more, all_gone}
use Rattle.wi_cert.proofs.writer.put_heads.Goals as goal

pub loop-head-preserved : goal.loop-head-preserved
loop-head-preserved c = record {
  text = line_more pair_line c.args.heads.now c.loop-head.head-index (0, 0) c.loop-head.out.items c.put_head.new.out.items (c.args.out.now.items ++ flat_map ended (map pair_line c.args.heads.now)) c.loop-head-test.true c.in_ok-put_head.ensures.text c.loop-head.invariant.text;
  ranges = All-more (λ (x : ℕ × ℕ). (x.0 < 2 ^ 64) × (x.1 < 2 ^ 32)) c.args.heads.now c.loop-head.head-index (0, 0) c.loop-head-test.true c.loop-head.invariant.ranges c.in_ok-put_head.ensures.ranges;
}

pub returns-clause-ranges : goal.returns-clause-ranges
returns-clause-ranges c = all_gone (λ (x : ℕ × ℕ). (x.0 < 2 ^ 64) × (x.1 < 2 ^ 32)) c.args.heads.now c.loop-head.head-index c.loop-head-test.false c.loop-head.invariant.ranges
