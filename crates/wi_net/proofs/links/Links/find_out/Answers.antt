use Rattle.std.proofs.Common.{◌∙◌, ap, List, ℕ}
use Rattle.wi_net.specs.declared.parts.Link.{Link}
use Rattle.wi_net.specs.private.Ends.{out_key}
use Rattle.wi_net.proofs.FindingLemmas.{pair_found}
use Rattle.wi_net.proofs.links.Links.find_out.Goals as goal

pub returns-clause-value : goal.returns-clause-value
returns-clause-value c = rw (← ap (λ (p : List Link × ℕ). p.0) c.self.view_is) (c.get_index_of.ensures.index ∙ pair_found out_key c.self.inside.outs.keys c.self.inside.links.items c.args.router.0 c.args.name.0 c.self.invariant.outs_are)
