use Rattle.wi_protect.proofs.Stages.{can1, can2_of, can3, can4_of, can5, is1, to2, to3, to4, finished, count_at, numbers_are}
use Rattle.wi_protect.proofs.labels.add_labels.Goals as goal

pub add_class-requires : goal.add_class-requires
add_class-requires c = can1 c.args.net.now c.args.plan.now c.args.builder.now c.requires.names c.requires.few c.requires.alone

pub add_bypass_labels-requires : goal.add_bypass_labels-requires
add_bypass_labels-requires c = can2_of c.args.net.now c.args.plan.now c.add_class.new.builder _ c.requires.names c.requires.few (is1 c.args.net.now c.args.builder.now c.add_class.new.builder c.requires.alone c.in_ok-add_class.ensures) c.as_slice.ensures

pub add_class-requires-2 : goal.add_class-requires-2
add_class-requires-2 c = can3 c.args.net.now c.args.plan.now c.add_bypass_labels.new.builder c.requires.names c.requires.few (to2 c.args.net.now c.args.plan.now c.args.builder.now c.add_class.new.builder c.add_bypass_labels.new.builder _ c.requires.alone c.in_ok-add_class.ensures c.as_slice.ensures c.in_ok-add_bypass_labels.ensures)

pub add_path_labels-requires : goal.add_path_labels-requires
add_path_labels-requires c = can4_of c.args.net.now c.args.plan.now c.add_class-2.new.builder _ c.requires.names c.requires.few (to3 c.args.net.now c.args.plan.now c.args.builder.now c.add_class.new.builder c.add_bypass_labels.new.builder c.add_class-2.new.builder _ c.requires.alone c.in_ok-add_class.ensures c.as_slice.ensures c.in_ok-add_bypass_labels.ensures c.in_ok-add_class-2.ensures) c.as_slice-2.ensures

pub add_class-requires-3 : goal.add_class-requires-3
add_class-requires-3 c = can5 c.args.net.now c.args.plan.now c.add_path_labels.new.builder c.requires.names c.requires.few (to4 c.args.net.now c.args.plan.now c.args.builder.now c.add_class.new.builder c.add_bypass_labels.new.builder c.add_class-2.new.builder c.add_path_labels.new.builder _ _ c.requires.alone c.in_ok-add_class.ensures c.as_slice.ensures c.in_ok-add_bypass_labels.ensures c.in_ok-add_class-2.ensures c.as_slice-2.ensures c.in_ok-add_path_labels.ensures)

pub overflow_sub-result : goal.overflow_sub-result
overflow_sub-result c =
    (numbers_are c.args.net.now c.args.plan.now _ _ _ _ _ _ _ _ _ _ _ c.requires.alone c.in_ok-add_class.ensures c.as_slice.ensures c.in_ok-add_bypass_labels.ensures c.in_ok-add_class-2.ensures c.as_slice-2.ensures c.in_ok-add_path_labels.ensures
    c.label_count-bypass.ensures.count c.label_count-bypass_end.ensures.count c.label_count-path.ensures.count c.label_count-path_end.ensures.count).0

pub overflow_sub-result-2 : goal.overflow_sub-result-2
overflow_sub-result-2 c =
    (numbers_are c.args.net.now c.args.plan.now _ _ _ _ _ _ _ _ _ _ _ c.requires.alone c.in_ok-add_class.ensures c.as_slice.ensures c.in_ok-add_bypass_labels.ensures c.in_ok-add_class-2.ensures c.as_slice-2.ensures c.in_ok-add_path_labels.ensures
    c.label_count-bypass.ensures.count c.label_count-bypass_end.ensures.count c.label_count-path.ensures.count c.label_count-path_end.ensures.count).1

pub returns-clause-labels : goal.returns-clause-labels
returns-clause-labels c = finished c.args.net.now c.args.plan.now c.args.builder.now c.add_path_labels.new.builder c.add_class-3.new.builder c.requires.alone (to4 c.args.net.now c.args.plan.now c.args.builder.now c.add_class.new.builder c.add_bypass_labels.new.builder c.add_class-2.new.builder c.add_path_labels.new.builder _ _ c.requires.alone c.in_ok-add_class.ensures c.as_slice.ensures c.in_ok-add_bypass_labels.ensures c.in_ok-add_class-2.ensures c.as_slice-2.ensures c.in_ok-add_path_labels.ensures) c.in_ok-add_class-3.ensures

pub returns-clause-bypass : goal.returns-clause-bypass
returns-clause-bypass c = count_at c.args.net.now _ _ c.add_class.new.builder _ (is1 c.args.net.now c.args.builder.now c.add_class.new.builder c.requires.alone c.in_ok-add_class.ensures) c.label_count-bypass.ensures.count

pub returns-clause-path : goal.returns-clause-path
returns-clause-path c =
    (numbers_are c.args.net.now c.args.plan.now _ _ _ _ _ _ _ _ _ _ _ c.requires.alone c.in_ok-add_class.ensures c.as_slice.ensures c.in_ok-add_bypass_labels.ensures c.in_ok-add_class-2.ensures c.as_slice-2.ensures c.in_ok-add_path_labels.ensures
    c.label_count-bypass.ensures.count c.label_count-bypass_end.ensures.count c.label_count-path.ensures.count c.label_count-path_end.ensures.count).2

pub returns-clause-new : goal.returns-clause-new
returns-clause-new c =
    (numbers_are c.args.net.now c.args.plan.now _ _ _ _ _ _ _ _ _ _ _ c.requires.alone c.in_ok-add_class.ensures c.as_slice.ensures c.in_ok-add_bypass_labels.ensures c.in_ok-add_class-2.ensures c.as_slice-2.ensures c.in_ok-add_path_labels.ensures
    c.label_count-bypass.ensures.count c.label_count-bypass_end.ensures.count c.label_count-path.ensures.count c.label_count-path_end.ensures.count).3
