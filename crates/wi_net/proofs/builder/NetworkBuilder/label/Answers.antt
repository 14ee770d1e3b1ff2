use Rattle.std.proofs.Common.{◌≡◌, ◌∙◌, ◌<◌, ◌++◌, ◌∷◌, [], List, length, sym, ap, true, arith}
use Rattle.std.specs.List.{list_all}
use Rattle.wi_labels.specs.declared.label.Class.{Class}
use Rattle.wi_net.specs.Builder.{Draft}
use Rattle.wi_net.specs.Network.{is_no_later}
use Rattle.wi_net.proofs.DraftLemmas.{none_there, label_done}
use Rattle.wi_net.proofs.builder.NetworkBuilder.label.Goals as goal

pub invariant_of-self-2 : goal.invariant_of-self-2
invariant_of-self-2 c =
    let few : length c.self.inside.labels.0 < 20000 = omega arith in
    let order : list_all (λ d. is_no_later d c.args.class) c.self.inside.classes.items ≡ true = ap (λ (draft : Draft). list_all (λ d. is_no_later d c.args.class) draft.net.classes) c.self.view_is ∙ c.requires in
    let classes = c.push_reserved.ensures.items ∙ ap (λ (cs : List Class). cs ++ c.args.class ∷ []) c.reserve.ensures.items in
    label_done _ c.args.class c.args.name.now c.add.new.self.0 c.push_reserved.new.self.items c.self.invariant order few c.if-not-is_name.ensures (sym c.find.ensures.value ∙ none_there c.find.result c.if-is_some.ensures) c.in_ok-add.ensures.ok classes
