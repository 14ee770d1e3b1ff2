use Rattle.std.proofs.Common.{◌≡◌, ◌∙◌, ap, [], List, IfOk, subst, take}
use Rattle.wi_net.specs.declared.parts.LinkId.{LinkId}
use Rattle.wi_net.specs.declared.parts.Member.{Member}
use Rattle.wi_net.specs.private.RiskGroups.{with_group_risks}
use Rattle.wi_net.proofs.IndexLemmas.{union_is}
use Rattle.wi_net.proofs.WidenLemmas.{before_is}
use Rattle.wi_net.proofs.risk_groups.union_before.Goals as goal

pub returns : goal.returns
returns c =
    let links = c.args.links.now in
    let groups = take c.args.j c.args.entry.now in
    let risks : c.as_slice.result.now ≡ with_group_risks links [] groups = c.as_slice.ensures.value ∙ c.in_ok-risks.ensures ∙ ap (λ (gs : List (List Member)). with_group_risks links [] gs) c.first_groups.ensures in
    let P : List LinkId → Type 0 = λ t. IfOk c.union_named.result (λ s. s ≡ t) in
    subst P (union_is links c.args.groups.now c.as_slice.result.now (with_group_risks links [] groups) c.requires.index c.requires.within risks ∙ before_is links groups) c.union_named.ensures
