use Rattle.std.proofs.Common.{◌≡◌, ◌∙◌, IfOk, subst}
use Rattle.wi_bypass.proofs.InnerLemmas.{all_marks, inner_links_are}
use Rattle.wi_bypass.proofs.inner.inner_links.Goals as goal

pub once-requires : goal.once-requires
once-requires c = all_marks c.args.net.now c.counts.result.links c.args.paths.now c.deref.result.now c.counts.ensures.links (c.deref.ensures.value ∙ c.in_ok-all.ensures) c.requires

pub returns : goal.returns
returns c =
    subst (λ y. IfOk c.once.result (λ links. links.items ≡ y))
    (inner_links_are c.args.net.now c.counts.result.links c.args.paths.now c.deref.result.now c.counts.ensures.links (c.deref.ensures.value ∙ c.in_ok-all.ensures) c.requires)
    c.once.ensures
