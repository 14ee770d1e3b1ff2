use Rattle.std.proofs.Common.{arith, ap, ◌∙◌, length, List}
use Rattle.wi_plan.specs.declared.plan.Path.{Path}
use Rattle.wi_plan.specs.declared.plan.Bypass.{Bypass}
use Rattle.wi_protect.specs.private.Detours.{round_by}
use Rattle.wi_protect.proofs.DetourLemmas.{rounds_are}
use Rattle.wi_protect.proofs.Fresh.{all_named}
use Rattle.wi_protect.proofs.Filling.{bypasses_within, few_all, bypass_end, path_end, ips_are_low, front_rows, back_rows, filled, labelled_is}
use Rattle.wi_protect.proofs.Fitting.{can_fill}
use Rattle.wi_protect.proofs.network.fill.Goals as goal

pub add_labels-requires-clause-names : goal.add_labels-requires-clause-names
add_labels-requires-clause-names c =
    let paths = ap (λ (xs : List Path). length xs) c.as_slice-paths.ensures in
    let bypasses = ap (λ (xs : List Bypass). length xs) c.as_slice-bypasses.ensures in
    all_named c.args.net.now c.args.plan.now c.requires.network c.requires.free c.requires.few
    (omega (arith, paths, c.path_count-path_count.ensures, c.path_count-path_count.type_inv)) (omega (arith, bypasses, c.bypass_count-bypass_count.ensures, c.bypass_count-bypass_count.type_inv))

pub add_labels-requires-clause-few : goal.add_labels-requires-clause-few
add_labels-requires-clause-few c = few_all c.args.net.now c.args.plan.now c.requires.network c.requires.few

pub detours_of-requires-clause-within : goal.detours_of-requires-clause-within
detours_of-requires-clause-within c = bypasses_within c.args.net.now _ c.as_slice-bypasses.result.now c.args.plan.now.bypasses c.requires.plan.bypasses c.as_slice-bypasses.ensures c.counts-link_count.ensures.links

pub detours_of-requires-clause-labels : goal.detours_of-requires-clause-labels
detours_of-requires-clause-labels c =
    let most = bypass_end c.args.net.now c.args.plan.now c.in_ok-numbers.numbers.bypass c.as_slice-bypasses.result.now c.requires.network c.requires.few c.in_ok-numbers.ensures.bypass c.as_slice-bypasses.ensures in
    omega (arith, most)

pub add_paths-requires-clause-room : goal.add_paths-requires-clause-room
add_paths-requires-clause-room c = path_end c.args.net.now c.args.plan.now c.in_ok-numbers.numbers.path c.as_slice-paths.result.now c.requires.network c.requires.few c.in_ok-numbers.ensures.path c.as_slice-paths.ensures

pub add_paths-requires-clause-ips : goal.add_paths-requires-clause-ips
add_paths-requires-clause-ips c = ips_are_low c.args.net.now c.args.plan.now c.in_ok-numbers.numbers.new c.as_slice-paths.result.now c.requires.network c.requires.plan c.requires.few c.in_ok-numbers.ensures.new c.as_slice-paths.ensures

pub add_paths-requires-clause-rules : goal.add_paths-requires-clause-rules
add_paths-requires-clause-rules c = front_rows c.args.net.now c.args.plan.now (can_fill c.args.net.now c.args.plan.now c.requires.network c.requires.plan c.requires.few) c.add_labels.new.builder c.in_ok-numbers.numbers.bypass c.in_ok-numbers.numbers.path c.in_ok-numbers.numbers.new c.as_slice-bypasses.result.now c.as_slice-paths.result.now (round_by c.as_slice-bypasses.result.now c.as_slice.result.now) (labelled_is c.args.net.now c.args.plan.now c.args.builder.now c.add_labels.new.builder c.requires.alone c.in_ok-numbers.ensures.labels) c.in_ok-numbers.ensures.bypass c.in_ok-numbers.ensures.path c.in_ok-numbers.ensures.new c.as_slice-bypasses.ensures c.as_slice-paths.ensures (ap (round_by c.as_slice-bypasses.result.now) c.as_slice.ensures.value ∙ rounds_are _ _ _ c.in_ok-detours.ensures)

pub add_bypasses-requires-clause-room : goal.add_bypasses-requires-clause-room
add_bypasses-requires-clause-room c = bypass_end c.args.net.now c.args.plan.now c.in_ok-numbers.numbers.bypass c.as_slice-bypasses.result.now c.requires.network c.requires.few c.in_ok-numbers.ensures.bypass c.as_slice-bypasses.ensures

pub add_bypasses-requires-clause-rules : goal.add_bypasses-requires-clause-rules
add_bypasses-requires-clause-rules c = back_rows c.args.net.now c.args.plan.now (can_fill c.args.net.now c.args.plan.now c.requires.network c.requires.plan c.requires.few) c.add_labels.new.builder c.add_paths.new.builder c.in_ok-numbers.numbers.bypass c.in_ok-numbers.numbers.path c.in_ok-numbers.numbers.new c.as_slice-bypasses.result.now c.as_slice-paths.result.now (round_by c.as_slice-bypasses.result.now c.as_slice.result.now) (labelled_is c.args.net.now c.args.plan.now c.args.builder.now c.add_labels.new.builder c.requires.alone c.in_ok-numbers.ensures.labels) c.in_ok-numbers.ensures.bypass c.in_ok-numbers.ensures.path c.in_ok-numbers.ensures.new c.as_slice-bypasses.ensures c.as_slice-paths.ensures (ap (round_by c.as_slice-bypasses.result.now) c.as_slice.ensures.value ∙ rounds_are _ _ _ c.in_ok-detours.ensures) c.in_ok-add_paths.ensures

pub returns : goal.returns
returns c = filled c.args.net.now c.args.plan.now c.add_labels.new.builder c.add_paths.new.builder c.add_bypasses.new.builder c.in_ok-numbers.numbers.bypass c.in_ok-numbers.numbers.path c.in_ok-numbers.numbers.new c.as_slice-bypasses.result.now c.as_slice-paths.result.now (round_by c.as_slice-bypasses.result.now c.as_slice.result.now) (labelled_is c.args.net.now c.args.plan.now c.args.builder.now c.add_labels.new.builder c.requires.alone c.in_ok-numbers.ensures.labels) c.in_ok-numbers.ensures.bypass c.in_ok-numbers.ensures.path c.in_ok-numbers.ensures.new c.as_slice-bypasses.ensures c.as_slice-paths.ensures (ap (round_by c.as_slice-bypasses.result.now) c.as_slice.ensures.value ∙ rounds_are _ _ _ c.in_ok-detours.ensures) c.in_ok-add_paths.ensures c.in_ok-add_bypasses.ensures
