use Rattle.wi_saturate.specs.private.Tries.{all_ways}
use Rattle.std.proofs.Common.{◌≡◌, [], ◌+◌, ◌-◌, length, ◌^◌, vec_len, option_map, ◌≤◌}
use Rattle.wi_saturate.specs.Rows.{EachAfter, Settled}
use Rattle.wi_saturate.specs.LeastTables.{IsSettled}
use Rattle.wi_saturate.specs.private.Searches.{IsSearch}
use Rattle.wi_saturate.proofs.saturation.settle.Given as goal

abbrev pub invariant-turns : goal.invariant-turns
invariant-turns g l =
    let m = g.W.Domain.scale in
    let c = g.W.Domain.components in
    record {
      settled : EachAfter (IsSettled m c (g.S.System.rules l.sys) l.asked.index.now.rules.heads (option_map c l.asked.cut)) l.rows.items;
      open_goal : Settled l.rows.items l.asked.goal.0 l.asked.goal.1 l.asked.goal.2 → ⊥;
      counted : l.steps ≡ l.initial.steps + length l.rows.items;
      tried : length l.rows.items + length l.search.frontier.heap + l.initial.tries ≤ l.tries + length l.initial.search.frontier.heap;
      tries : l.tries + all_ways {W = g.row.W.Denot} l.asked.index.now.rules.items [] ≤ l.initial.tries + all_ways l.asked.index.now.rules.items l.rows.items;
      search : IsSearch m c l.asked.index.now.rules.heads l.asked.index.now.rules.items l.rows.items l.rows.items l.search;
    }

abbrev pub decreases-turns : goal.decreases-turns
decreases-turns g l = 2 ^ 64 - vec_len l.rows
