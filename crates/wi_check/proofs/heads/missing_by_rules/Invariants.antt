use Rattle.std.proofs.Common.{◌≡◌, drop}
use Rattle.std.specs.Prelude.{find}
use Rattle.wi_accept.specs.Followers.{is_missing, followers_at}
use Rattle.wi_check.specs.private.Lists.{AreWhole}
use Rattle.wi_check.proofs.heads.missing_by_rules.Given as goal

abbrev pub invariant-loop-rule : goal.invariant-loop-rule
invariant-loop-rule l = record {
  found : find (is_missing l.listed.heads.now l.listed.pairs.now) (followers_at l.listed.pairs.now l.g (drop l.rule-index l.rules)) ≡ find (is_missing l.listed.heads.now l.listed.pairs.now) (followers_at l.listed.pairs.now l.g l.rules);
  whole : AreWhole l.listed.pairs.now l.whole.keys;
}
