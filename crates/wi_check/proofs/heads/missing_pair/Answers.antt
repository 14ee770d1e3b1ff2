use Rattle.std.proofs.Common.{sym, ◌∙◌}
use Rattle.wi_check.proofs.Followed.{own_followers, seen_followers}
use Rattle.wi_check.proofs.heads.missing_pair.Goals as goal
use Rattle.wi_check.proofs.heads.missing_pair.Goals.{then-upper-g, else-upper-g}

pub returns-then-contains-clause-found : goal.returns-then-contains-clause-found
returns-then-contains-clause-found c = elim c.if-upper-g.branch [
  | then-upper-g w ↦ own_followers _ _ _ c.args.listed.heads.now _ c.requires.below w.if-upper-g.true
  | else-upper-g w ↦ seen_followers _ _ _ c.args.listed.heads.now _ c.requires.below _ _ w.contains.ensures (sym w.value-is ∙ c.if-contains.true) c.requires.whole
]
