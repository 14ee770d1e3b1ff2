-- The lines of states.
use Rattle.std.specs.Prelude.{List, [], ◌∷◌, ◌++◌, ℕ, codes}
use Rattle.wi_net.specs.Net.{Net}
use Rattle.wi_world.specs.declared.world.State.{State}
use Rattle.wi_faults.specs.Shown.{links_shown, place_shown}

-- a state: the link and the header of the packet, and the failed links
abbrev pub state_shown : Net → State → List ℕ
state_shown net now = place_shown net (now.link, now.header) ++ codes " | failed " ++ links_shown net now.fails ++ codes "\n"

abbrev pub states_shown : Net → List State → List ℕ
states_shown net [] = []
states_shown net (now ∷ later) = state_shown net now ++ states_shown net later
