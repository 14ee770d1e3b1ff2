use Rattle.std.proofs.Common.{◌≡◌, ◌≤◌, true, false, length, rules, arith}
use Rattle.wi_labels.specs.Header.{same_class}
use Rattle.wi_netjson.proofs.WrittenLemmas.{class_push, class_skip, class_all}
use Rattle.wi_netjson.proofs.written.class_value.Goals as goal
use Rattle.wi_netjson.proofs.written.class_value.Goals.{then-eq+in_ok-try_from_str+in_ok-push, else-eq}

pub loop-l-preserved : goal.loop-l-preserved
loop-l-preserved c = elim c.if-eq.branch [
  | then-eq+in_ok-try_from_str+in_ok-push w ↦
      let same : same_class c.class.result c.args.class ≡ true = search rules in
      rw w.values-is (class_push c.args.class c.class.result c.args.network.now.classes c.args.network.now.labels c.loop-l.l w.label_name.result.now c.loop-l.values.items w.push.new.self.items w.in_ok-try_from_str.field-0 c.class.ensures w.label_name.ensures same c.loop-l.invariant w.in_ok-push.ensures.items w.in_ok-try_from_str.ensures)
  | else-eq w ↦
      let other : same_class c.class.result c.args.class ≡ false = search rules in
      rw w.values-is (class_skip c.args.class c.class.result c.args.network.now.classes c.args.network.now.labels c.loop-l.l c.loop-l.values.items c.class.ensures c.keeps.ensures.classes other c.loop-l.invariant)
]

pub returns : goal.returns
returns c =
    let done : length c.args.network.now.labels ≤ c.loop-l.l = omega arith in
    class_all c.args.class c.args.network.now.classes c.args.network.now.labels c.loop-l.values c.loop-l.l c.keeps.ensures.classes done c.loop-l.invariant
