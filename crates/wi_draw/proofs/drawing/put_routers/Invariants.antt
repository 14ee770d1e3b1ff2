use Rattle.std.proofs.Common.{◌≡◌, ◌++◌}
use Rattle.wi_draw.specs.Drawings.{each_below, router_drawn}
use Rattle.wi_draw.proofs.drawing.put_routers.Given as goal

abbrev pub invariant-loop-n : goal.invariant-loop-n
invariant-loop-n l = l.text ≡ l.initial.text ++ each_below l.n (λ n. router_drawn l.net l.dropped (record { 0 = n }))
