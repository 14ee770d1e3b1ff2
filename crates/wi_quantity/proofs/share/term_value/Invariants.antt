use Rattle.std.proofs.Common.{◌≡◌, ◌+◌, ◌*◌, ◌^◌, ◌≤◌, map, drop}
use Rattle.std.specs.List.{fold}
use Rattle.wi_quantity.specs.Weighing.{term_value}
use Rattle.wi_quantity.specs.private.Shares.{share_of}
use Rattle.wi_quantity.proofs.share.term_value.Given as goal

abbrev pub invariant-loop-part : goal.invariant-loop-part
invariant-loop-part l = record {
  value : fold (λ a x. a + x) l.value (map (λ part. part.coefficient * share_of l.shares part.quantity) (drop l.part-index l.term)) ≡ term_value (share_of l.shares) l.term;
  small : l.value ≤ l.part-index * (65535 * 2 ^ 32);
}
