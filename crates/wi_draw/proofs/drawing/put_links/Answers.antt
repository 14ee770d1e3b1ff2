use Rattle.std.proofs.Common.{◌≡◌, ◌++◌, ◌∙◌, ap, arith, length, subst}
use Rattle.wi_net.specs.LinkSet.{has}
use Rattle.wi_draw.specs.Drawings.{each_below, link_drawn}
use Rattle.wi_draw.specs.private.Marks.{label_at}
use Rattle.wi_draw.proofs.DrawingLemmas.{id, link_as_marked, one_more}
use Rattle.wi_draw.proofs.drawing.put_links.Goals as goal

pub loop-n-preserved : goal.loop-n-preserved
loop-n-preserved c = λ p are.
    let label = c.label_at-label.ensures ∙ ap (λ labels. label_at labels c.loop-n.n) c.as_slice.ensures.value ∙ are.labels c.loop-n.n in
    let failed = c.contains.ensures ∙ ap (λ links. has links (id c.loop-n.n)) are.failed in
    let line = link_as_marked c.args.net.now p (id c.loop-n.n) _ _ label failed in
    one_more (λ n. link_drawn c.args.net.now p (id n)) c.loop-n.n _ _ _ (c.loop-n.invariant p are) (c.in_ok-put_link.ensures ∙ ap (λ l. c.loop-n.text ++ l) line)

pub returns : goal.returns
returns c = λ p are.
    let all : c.loop-n.n ≡ length c.args.net.now.links = omega (arith, c.loop-n-test.false, c.loop-n.auto.n-end, c.counts-n-end.ensures.links) in
    subst (λ n. c.loop-n.text ≡ c.args.text.now ++ each_below n (λ n. link_drawn c.args.net.now p (id n))) all (c.loop-n.invariant p are)
