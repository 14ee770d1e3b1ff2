use Rattle.std.proofs.Common.{◌≡◌, ◌≤◌, ◌-◌, drop}
use Rattle.wi_planjson.specs.Routes.{break_from}
use Rattle.wi_planjson.proofs.routes.first_break.Given as goal

abbrev pub invariant-loop-j : goal.invariant-loop-j
invariant-loop-j l = record {
  walk : break_from l.net (l.j - 1) (drop (l.j - 1) l.links) ≡ break_from l.net 0 l.links;
  past : 1 ≤ l.j;
}
