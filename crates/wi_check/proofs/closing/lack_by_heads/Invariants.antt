use Rattle.std.proofs.Common.{◌≡◌, drop}
use Rattle.std.specs.Prelude.{find, option_map}
use Rattle.std.specs.Option.{option_or}
use Rattle.wi_quantity.specs.Weighing.{components}
use Rattle.wi_build.specs.Systems.{rules}
use Rattle.wi_accept.specs.Followers.{is_missing, followers_of}
use Rattle.wi_accept.specs.Demands.{demands_of}
use Rattle.wi_check.specs.private.Lists.{AreWhole}
use Rattle.wi_check.specs.private.Rows.{summaries, demanded}
use Rattle.wi_check.proofs.RowLemmas.{is_open_in}
use Rattle.wi_check.proofs.closing.lack_by_heads.Given as goal

abbrev pub invariant-loop-head : goal.invariant-loop-head
invariant-loop-head l = record {
  follower : find (is_missing l.listed.heads.now l.listed.pairs.now) (followers_of (rules l.system) l.listed.pairs.now (drop l.head-index l.heads)) ≡ find (is_missing l.listed.heads.now l.listed.pairs.now) (followers_of (rules l.system) l.listed.pairs.now l.heads);
  demand : option_or (option_map demanded l.demand) (find (is_open_in l.rows l.bound) (demands_of components (rules l.system) (summaries l.rows) (drop l.head-index l.heads)))
      ≡ find (is_open_in l.rows l.bound) (demands_of components (rules l.system) (summaries l.rows) l.heads);
  whole : AreWhole l.listed.pairs.now l.whole.keys;
}
