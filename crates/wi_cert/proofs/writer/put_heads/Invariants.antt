use Rattle.std.proofs.Common.{◌≡◌, ◌++◌, ◌^◌, ◌<◌, drop, take, map}
use Rattle.std.specs.List.{All, flat_map}
use Rattle.wi_cert.specs.Shown.{pair_line}
use Rattle.wi_cert.specs.Text.{ended}
use Rattle.wi_cert.proofs.writer.put_heads.Given as goal

abbrev pub invariant-loop-head : goal.invariant-loop-head
invariant-loop-head l = record {
  text : l.out.items ++ flat_map ended (map pair_line (drop l.head-index l.heads)) ≡ l.initial.out.items ++ flat_map ended (map pair_line l.heads);
  ranges : All (λ x. (x.0 < 2 ^ 64) × (x.1 < 2 ^ 32)) (take l.head-index l.heads);
}
