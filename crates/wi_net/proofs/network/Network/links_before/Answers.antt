use Rattle.std.proofs.Common.{◌≡◌, ◌∙◌, ap, sym, subst, true, nat_lt, length, take, List, IfOk}
use Rattle.std.specs.List.{list_all, list_any}
use Rattle.wi_net.specs.declared.parts.Link.{Link}
use Rattle.wi_net.specs.declared.parts.LinkId.{LinkId}
use Rattle.wi_net.specs.declared.parts.Member.{Member}
use Rattle.wi_net.specs.LinkSet.{numbers_where, same_risk_in}
use Rattle.wi_net.specs.Net.{Net, before}
use Rattle.wi_net.proofs.KeptLemmas.{risks_within}
use Rattle.wi_net.proofs.network.Network.links_before.Goals as goal

pub union_before-requires-clause-within : goal.union_before-requires-clause-within
union_before-requires-clause-within c =
    let P : List Link → Type 0 = λ links. list_all (λ (l : Link). nat_lt l.risk.0 (length links)) links ≡ true in
    subst P (sym c.as_slice.ensures) (risks_within _ c.self.invariant.network)

pub returns : goal.returns
returns c =
    let union = λ (links : List Link). numbers_where links (λ e. list_any (λ g. list_any (λ (m : Member). same_risk_in links m.link e) g) (take c.args.j c.args.groups.now)) in
    let P : List LinkId → Type 0 = λ t. IfOk c.union_before.result (λ s. s ≡ t) in
    subst P (ap union c.as_slice.ensures ∙ ap (λ (net : Net). before net c.args.groups.now c.args.j) c.self.view_is) c.union_before.ensures
