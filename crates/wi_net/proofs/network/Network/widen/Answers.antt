use Rattle.std.proofs.Common.{◌≡◌, ◌∙◌, ap, sym, subst, true, nat_lt, length, List, IfOk}
use Rattle.std.specs.List.{list_all, list_any}
use Rattle.wi_net.specs.declared.parts.Link.{Link}
use Rattle.wi_net.specs.declared.parts.LinkId.{LinkId}
use Rattle.wi_net.specs.LinkSet.{numbers_where, same_risk_in}
use Rattle.wi_net.specs.Net.{Net, widened}
use Rattle.wi_net.proofs.KeptLemmas.{risks_within}
use Rattle.wi_net.proofs.network.Network.widen.Goals as goal

pub union_of-requires-clause-within : goal.union_of-requires-clause-within
union_of-requires-clause-within c =
    let P : List Link → Type 0 = λ links. list_all (λ (l : Link). nat_lt l.risk.0 (length links)) links ≡ true in
    subst P (sym c.as_slice.ensures) (risks_within _ c.self.invariant.network)

pub returns : goal.returns
returns c =
    let union = λ (links : List Link) (fails : List LinkId). numbers_where links (λ e. list_any (λ (d : LinkId). same_risk_in links d e) fails) in
    let P : List LinkId → Type 0 = λ t. IfOk c.union_of.result (λ s. s ≡ t) in
    let links : union c.as_slice.result.now c.as_slice-2.result.now ≡ union c.self.inside.links.0 c.as_slice-2.result.now = ap (λ (ls : List Link). union ls c.as_slice-2.result.now) c.as_slice.ensures in
    let fails : union c.self.inside.links.0 c.as_slice-2.result.now ≡ union c.self.inside.links.0 c.args.fails.now = ap (λ (fs : List LinkId). union c.self.inside.links.0 fs) c.as_slice-2.ensures.value in
    subst P (links ∙ fails ∙ ap (λ (net : Net). widened net c.args.fails.now) c.self.view_is) c.union_of.ensures
