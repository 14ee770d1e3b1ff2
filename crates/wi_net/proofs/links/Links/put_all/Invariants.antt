use Rattle.std.proofs.Common.{◌≡◌, take}
use Rattle.wi_net.proofs.links.Links.put_all.Given as goal

abbrev pub invariant-loop-link : goal.invariant-loop-link
invariant-loop-link l = l.self.0 ≡ take l.link-index l.links
