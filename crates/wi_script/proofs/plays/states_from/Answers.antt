use Rattle.std.proofs.Common.{◌+◌, arith}
use Rattle.std.proofs.lemmas.Grind.{common_steps}
use Rattle.wi_script.specs.private.Moments.{seen}
use Rattle.wi_script.proofs.PlayLemmas.{states_more, noted_on, refused_on}
use Rattle.wi_script.proofs.plays.states_from.Goals as goal

pub loop-i-preserved : goal.loop-i-preserved
loop-i-preserved c =
    let kept = c.loop-i.invariant in
    let happened = rw c.in_default.is at c.in_ok-cause.ensures in
    record {
      now = happened.2;
      before = rw c.in_ok-note.ensures (states_more c.args.net.now c.loop-i.states.items (seen c.loop-i.now) kept.before kept.now);
      states = noted_on c.args.net.now c.args.k c.loop-i.states.items _ (seen c.loop-i.now) (seen c.happen.new.now) c.args.events.now c.loop-i.i _ _ c.loop-i-test.true happened.1 c.in_ok-note.ensures kept.states;
      refused = refused_on c.args.net.now c.args.k (c.loop-i.i + 2) (c.loop-i.i + 1 + 2) (seen c.loop-i.now) (seen c.happen.new.now) c.args.events.now c.loop-i.i _ _ (omega arith) c.loop-i-test.true happened.0 happened.1 kept.refused;
    }

pub returns-in-Some-clause-refused : goal.returns-in-Some-clause-refused
returns-in-Some-clause-refused c = grind (arith, common_steps)
