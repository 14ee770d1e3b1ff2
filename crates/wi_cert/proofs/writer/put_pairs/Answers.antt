use Rattle.std.proofs.Common.{ℕ, ◌^◌, ◌<◌, ◌++◌, map}
use Rattle.std.specs.List.{flat_map}
use Rattle.std.proofs.lemmas.List.Elements.{All-more}
use Rattle.wi_cert.specs.Shown.{pair_line}
use Rattle.wi_cert.specs.Text.{ended}
use Rattle.wi_cert.proofs.WritingLemmas.{line_more, all_gone}
use Rattle.wi_cert.proofs.writer.put_pairs.Goals as goal

pub loop-pair-preserved : goal.loop-pair-preserved
loop-pair-preserved c = record {
  text = line_more pair_line c.args.pairs.now c.loop-pair.pair-index (0, 0) c.loop-pair.out.items c.put_pair.new.out.items (c.args.out.now.items ++ flat_map ended (map pair_line c.args.pairs.now)) c.loop-pair-test.true c.in_ok-put_pair.ensures.text c.loop-pair.invariant.text;
  ranges = All-more (λ (x : ℕ × ℕ). (x.0 < 2 ^ 32) × (x.1 < 2 ^ 32)) c.args.pairs.now c.loop-pair.pair-index (0, 0) c.loop-pair-test.true c.loop-pair.invariant.ranges c.in_ok-put_pair.ensures.ranges;
}

pub returns-clause-ranges : goal.returns-clause-ranges
returns-clause-ranges c = all_gone (λ (x : ℕ × ℕ). (x.0 < 2 ^ 32) × (x.1 < 2 ^ 32)) c.args.pairs.now c.loop-pair.pair-index c.loop-pair-test.false c.loop-pair.invariant.ranges
