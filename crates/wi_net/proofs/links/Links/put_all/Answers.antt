use Rattle.std.proofs.Common.{◌∙◌}
use Rattle.wi_net.proofs.OverLemmas.{out_next, in_next}
use Rattle.wi_net.proofs.links.Links.put_all.Goals as goal

pub put-requires-clause-free_out : goal.put-requires-clause-free_out
put-requires-clause-free_out c = out_next c.args.links.now c.reserve.new.self.0 c.loop-link.link-index _ c.requires.apart c.loop-link-test.true (c.reserve.ensures.same ∙ c.loop-link.invariant)

pub put-requires-clause-free_in : goal.put-requires-clause-free_in
put-requires-clause-free_in c = in_next c.args.links.now c.reserve.new.self.0 c.loop-link.link-index _ c.requires.apart c.loop-link-test.true (c.reserve.ensures.same ∙ c.loop-link.invariant)
