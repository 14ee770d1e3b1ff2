use Rattle.std.proofs.Common.{◌≡◌, drop}
use Rattle.wi_planjson.specs.Routes.{repeat_from}
use Rattle.wi_planjson.proofs.routes.repeat_in.Given as goal

abbrev pub invariant-loop-j : goal.invariant-loop-j
invariant-loop-j l = repeat_from l.before.keys l.j (drop l.j l.links) ≡ repeat_from l.fn.before.keys 0 l.links
