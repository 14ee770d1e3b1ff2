use Rattle.std.proofs.Common.{◌≡◌, ◌++◌, ◌∷◌, [], length, rules, ap, ◌∙◌, arith}
use Rattle.serde_json.specs.View.{view}
use Rattle.wi_netjson.specs.Tables.{group_at}
use Rattle.wi_netjson.proofs.Walk.{goes_on, group_step, counted_more}
use Rattle.wi_netjson.proofs.tables.groups.Goals as goal

pub loop-j-preserved : goal.loop-j-preserved
loop-j-preserved c =
    let pushed : c.push.new.list.items ≡ c.loop-j.groups.items ++ c.in_ok-group.group.items ∷ [] = c.in_ok-push.ensures ∙ ap (λ g. c.loop-j.groups.items ++ g ∷ []) c.of.ensures in
    let len : c.len-count.result ≡ length c.in_ok-group.group.items = search rules in
    rw pushed (record {
      walk = goes_on (group_at c.args.builder.now.net c.args.router c.args.so_far c.args.i) c.loop-j.groups.items (c.loop-j.groups.items ++ c.in_ok-group.group.items ∷ []) c.loop-j.j c.args.values.now c.index-values-j.result _ c.loop-j-test.true c.index-values-j.is
          (group_step c.args.builder.now.net c.args.router c.args.so_far c.args.i c.loop-j.j c.loop-j.members c.loop-j.groups.items (view c.index-values-j.result) c.in_ok-group.group.items c.loop-j.invariant.counted c.in_ok-group.ensures.answer) c.loop-j.invariant.walk;
      counted = counted_more c.args.so_far c.loop-j.members c.len-count.result c.loop-j.groups.items c.in_ok-group.group.items c.loop-j.invariant.counted len;
      few = omega (arith, len, c.in_ok-group.ensures.few);
    })
