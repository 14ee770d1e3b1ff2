use Rattle.std.proofs.Common.{None, Some}
use Rattle.wi_check.proofs.Absent.{rises_kept}
use Rattle.wi_check.proofs.Followed.{followed_pairs, new_whole, put_whole}
use Rattle.wi_check.proofs.heads.unseen_missing_pair.Goals as goal

pub first_absent-requires-clause-wanted : goal.first_absent-requires-clause-wanted
first_absent-requires-clause-wanted c = rises_kept _ _ _ c.requires.below c.requires.pairs

pub first_absent-requires-clause-listed : goal.first_absent-requires-clause-listed
first_absent-requires-clause-listed c = rises_kept _ _ _ c.pairs_of.ensures c.requires.pairs

pub returns-in-Some-clause-found : goal.returns-in-Some-clause-found
returns-in-Some-clause-found c = followed_pairs c.args.listed.heads.now _ _ _ _ (Some c.in-Some.lower) c.pairs_of.ensures c.in-Some.ensures

pub returns-in_ok-insert-in-None-clause-found : goal.returns-in_ok-insert-in-None-clause-found
returns-in_ok-insert-in-None-clause-found c = followed_pairs c.args.listed.heads.now _ _ _ _ None c.pairs_of.ensures c.in-None.ensures

pub returns-in_ok-insert-in-None-clause-whole : goal.returns-in_ok-insert-in-None-clause-whole
returns-in_ok-insert-in-None-clause-whole c = put_whole _ _ _ _ _ _ (new_whole c.args.listed.pairs.now c.args.g c.args.upper _ _ c.requires.below c.pairs_of.ensures c.in-None.ensures) c.in_ok-insert-in-None.ensures.keys c.requires.whole
