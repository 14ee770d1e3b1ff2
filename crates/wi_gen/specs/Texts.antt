-- What is asked of a ring, as texts.
use Rattle.std.specs.Prelude.{ℕ, codes, List, ◌++◌}
use Rattle.std.specs.Fmt.{decimal}
use Rattle.wi_gen.specs.Ring.{Ring}

-- a packet goes from s to t, and on its way back from r1 to r0; two links may fail
abbrev pub query_text : Ring → List ℕ
query_text ring = codes "<ip0> [s#r0] .* [r1#r0] .* [r" ++ decimal ring.path ++ codes "#t] <ip0> 2"

-- few failures first, then few hops
abbrev pub weights_text : List ℕ
weights_text = codes "Failures, Hops"
