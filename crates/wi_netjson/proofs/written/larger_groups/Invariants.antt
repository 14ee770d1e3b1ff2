use Rattle.std.proofs.Common.{◌≡◌, ℕ, ◌+◌, false, take, drop, length, get_or}
use Rattle.std.specs.List.{list_any}
use Rattle.wi_netjson.proofs.WrittenLemmas.{names}
use Rattle.wi_netjson.proofs.written.larger_groups.Given as goal

abbrev pub invariant-loop-e : goal.invariant-loop-e
invariant-loop-e l = record {
  len : length l.larger.items ≡ length l.network.links;
  so_far : (r : ℕ) → get_or l.larger.items r false ≡ list_any (names r) (drop (r + 1) (take l.e l.network.links));
}
