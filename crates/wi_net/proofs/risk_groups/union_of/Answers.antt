use Rattle.std.proofs.Common.{◌≡◌, ◌∙◌, ap, [], List, IfOk, subst}
use Rattle.wi_net.specs.declared.parts.LinkId.{LinkId}
use Rattle.wi_net.specs.private.RiskGroups.{with_risks}
use Rattle.wi_net.proofs.IndexLemmas.{union_is}
use Rattle.wi_net.proofs.WidenLemmas.{widened_is}
use Rattle.wi_net.proofs.risk_groups.union_of.Goals as goal

pub returns : goal.returns
returns c =
    let links = c.args.links.now in
    let risks : c.as_slice.result.now ≡ with_risks links [] c.args.fails.now = c.as_slice.ensures.value ∙ c.in_ok-add_risks.ensures ∙ ap (λ (s : List LinkId). with_risks links s c.args.fails.now) c.new-risks.ensures in
    let P : List LinkId → Type 0 = λ t. IfOk c.union_named.result (λ s. s ≡ t) in
    subst P (union_is links c.args.groups.now c.as_slice.result.now (with_risks links [] c.args.fails.now) c.requires.index c.requires.within risks ∙ widened_is links c.args.fails.now) c.union_named.ensures
