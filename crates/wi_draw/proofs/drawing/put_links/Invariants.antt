use Rattle.std.proofs.Common.{◌≡◌, ◌++◌}
use Rattle.wi_draw.specs.Drawings.{Picture, each_below, link_drawn}
use Rattle.wi_draw.specs.private.Marks.{AreMarks}
use Rattle.wi_draw.proofs.drawing.put_links.Given as goal

abbrev pub invariant-loop-n : goal.invariant-loop-n
invariant-loop-n l = (p : Picture) → AreMarks l.net l.marks p → l.text ≡ l.initial.text ++ each_below l.n (λ n. link_drawn l.net p (record { 0 = n }))
