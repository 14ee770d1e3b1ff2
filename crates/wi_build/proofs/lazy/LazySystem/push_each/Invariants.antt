use Rattle.std.proofs.Common.{◌≡◌, ◌++◌, map}
use Rattle.wi_nfa.specs.Left.{states_left}
use Rattle.wi_query.specs.Sets.{holds}
use Rattle.wi_build.specs.Encodings.{encoding_of}
use Rattle.wi_build.specs.private.Rows.{rule_made, spot_on}
use Rattle.wi_build.proofs.lazy.LazySystem.push_each.Given as goal

abbrev pub invariant-loop-state : goal.invariant-loop-state
invariant-loop-state l =
    l.rules.items ++ map (λ q. rule_made (encoding_of l.self) l.head (spot_on l.way q) l.made) (states_left holds l.state-iterator)
    ≡ l.initial.rules.items ++ map (λ q. rule_made (encoding_of l.self) l.head (spot_on l.way q) l.made) (states_left holds l.fn.states)
