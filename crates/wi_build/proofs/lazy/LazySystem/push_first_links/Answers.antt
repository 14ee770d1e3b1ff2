use Rattle.std.proofs.Common.{ap, ◌∙◌, arith}
use Rattle.wi_build.specs.Problems.{Problem}
use Rattle.wi_build.specs.Encodings.{encoding_of}
use Rattle.wi_build.specs.private.First.{first_links}
use Rattle.wi_build.proofs.FirstLemmas.{first_at, first_known, set_out_done, set_out_more}
use Rattle.wi_build.proofs.lazy.LazySystem.push_first_links.Goals as goal

pub push_first_link-requires-clause-link : goal.push_first_link-requires-clause-link
push_first_link-requires-clause-link c =
    let are = c.deref-link-items.ensures.value ∙ c.self.invariant.1 ∙ ap (λ (g : Problem). first_links (encoding_of g)) c.self.view_is in
    first_known (encoding_of c.args.self.now) c.loop-link.link-index _ (first_at (encoding_of c.args.self.now) _ _ _ are c.loop-link-test.true)

pub loop-link-preserved : goal.loop-link-preserved
loop-link-preserved c =
    let are = c.deref-link-items.ensures.value ∙ c.self.invariant.1 ∙ ap (λ (g : Problem). first_links (encoding_of g)) c.self.view_is in
    set_out_more (encoding_of c.args.self.now) c.args.head c.args.top.0 _ _ _ c.loop-link.link-index _ (first_at (encoding_of c.args.self.now) _ _ _ are c.loop-link-test.true) c.loop-link.invariant c.in_ok-push_first_link.ensures

pub returns : goal.returns
returns c =
    let are = c.deref-link-items.ensures.value ∙ c.self.invariant.1 ∙ ap (λ (g : Problem). first_links (encoding_of g)) c.self.view_is in
    set_out_done (encoding_of c.args.self.now) c.args.head c.args.top.0 _ _ c.loop-link.link-index _ are (omega arith) c.loop-link.invariant
