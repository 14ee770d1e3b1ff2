use Rattle.std.proofs.Common.{◌∙◌, ◌++◌, ap, sym, append-nil, arith}
use Rattle.wi_bypass.proofs.InnerLemmas.{inner_is, none_inner}
use Rattle.wi_bypass.proofs.inner.push_inner.Goals as goal

pub returns-in_ok-extend_from_slice : goal.returns-in_ok-extend_from_slice
returns-in_ok-extend_from_slice c =
    c.in_ok-extend_from_slice.ensures.items ∙ ap (λ t. c.args.all.now.items ++ t) (inner_is c.args.links.now _ c.if-links-gt2.true (omega (arith, c.if-links-gt2.true)))

pub returns-else-links-gt2 : goal.returns-else-links-gt2
returns-else-links-gt2 c = sym (ap (λ t. c.args.all.now.items ++ t) (none_inner c.args.links.now c.if-links-gt2.false) ∙ append-nil c.args.all.now.items)
