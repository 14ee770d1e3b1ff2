use Rattle.std.proofs.Common.{◌≡◌, drop}
use Rattle.wi_decide.specs.private.Spelled.{unspelled, with_rules}
use Rattle.wi_decide.proofs.spelling.spell.Given as goal

-- what the ids that are left tell after what was told is what all tell
abbrev pub invariant-loop-id : goal.invariant-loop-id
invariant-loop-id g l = with_rules l.net (g.S.System.rules l.sys) l.spelling (drop l.id-index l.ids) ≡ with_rules l.net (g.S.System.rules l.sys) unspelled l.ids
