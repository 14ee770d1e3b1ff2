use Rattle.std.proofs.Common.{◌≡◌, ◌++◌, ◌^◌, ◌<◌, drop, take, map}
use Rattle.std.specs.List.{All, flat_map}
use Rattle.wi_cert.specs.Shown.{pair_line}
use Rattle.wi_cert.specs.Text.{ended}
use Rattle.wi_cert.proofs.writer.put_pairs.Given as goal

abbrev pub invariant-loop-pair : goal.invariant-loop-pair
invariant-loop-pair l = record {
  text : l.out.items ++ flat_map ended (map pair_line (drop l.pair-index l.pairs)) ≡ l.initial.out.items ++ flat_map ended (map pair_line l.pairs);
  ranges : All (λ x. (x.0 < 2 ^ 32) × (x.1 < 2 ^ 32)) (take l.pair-index l.pairs);
}
