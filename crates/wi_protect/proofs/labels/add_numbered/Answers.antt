use Rattle.std.proofs.Common.{arith}
use Rattle.wi_net.specs.Builder.{with_label}
use Rattle.wi_protect.specs.Labels.{numbered_to}
use Rattle.wi_protect.specs.private.Adding.{MayLabel}
use Rattle.wi_protect.proofs.AddLemmas.{can_at, now_at}
use Rattle.wi_protect.proofs.NameLemmas.{name_at, numbered_all}
use Rattle.wi_protect.proofs.labels.add_numbered.Goals as goal

pub add_label-requires : goal.add_label-requires
add_label-requires c =
    can_at (MayLabel c.args.class) (λ e name. with_label e c.args.class name) c.args.builder.now c.loop-i.builder (numbered_to c.args.letter.now c.args.owner c.args.count) c.loop-i.i c.as_str.result.now c.requires c.loop-i.invariant
    (name_at _ _ _ _ _ _ _ c.loop-i-test.true c.in_ok-text.ensures (omega arith) c.as_str.ensures.value)

pub loop-i-preserved : goal.loop-i-preserved
loop-i-preserved c =
    now_at (λ e name. with_label e c.args.class name) c.args.builder.now c.loop-i.builder c.add_label.new.builder (numbered_to c.args.letter.now c.args.owner c.args.count) c.loop-i.i c.as_str.result.now c.loop-i.invariant
    (name_at _ _ _ _ _ _ _ c.loop-i-test.true c.in_ok-text.ensures (omega arith) c.as_str.ensures.value) c.in_ok-add_label.ensures

pub returns : goal.returns
returns c = numbered_all c.args.class c.args.builder.now _ _ _ _ _ c.loop-i.invariant c.loop-i-test.false
