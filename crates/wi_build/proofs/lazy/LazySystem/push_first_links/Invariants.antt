use Rattle.std.proofs.Common.{◌≡◌}
use Rattle.wi_build.specs.Encodings.{encoding_of}
use Rattle.wi_build.proofs.FirstLemmas.{set_out_left}
use Rattle.wi_build.proofs.lazy.LazySystem.push_first_links.Given as goal

abbrev pub invariant-loop-link : goal.invariant-loop-link
invariant-loop-link l = set_out_left (encoding_of l.self) l.head l.top.0 l.rules.items l.link-index ≡ set_out_left (encoding_of l.self) l.head l.top.0 l.fn.rules.items 0
