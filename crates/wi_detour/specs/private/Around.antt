-- The ways around a link as the runs of a pushdown system with one symbol: at the start it has the links that leave the link's source, at
-- each router those that leave it, and at the link's target the end besides. Links of the link's risk group are left out.
use Rattle.std.specs.Prelude.{◌≡◌, ℕ, zero, suc, Bool, not, ◌==◌, if◌then◌else◌, List, [], ◌∷◌, ◌++◌, map, Some, slice_get}
use Rattle.std.specs.List.{filter}
use Rattle.std.specs.Option.{option_map_or, option_to_list}
use Rattle.wi_net.specs.declared.parts.LinkId.{LinkId}
use Rattle.wi_net.specs.declared.parts.Link.{Link}
use Rattle.wi_net.specs.Net.{Net, same_risk}
use Rattle.wi_net.specs.Network.{IsNetwork}
use Rattle.wi_weight.specs.declared.kinds.Pair.{Pair}
use Rattle.wi_weight.specs.declared.kinds.Effort.{Effort}
use Rattle.wi_pds.specs.declared.rule.Word2.TheVariants.{Empty, One}
use Rattle.wi_pds.specs.declared.rule.Rule.{Rule}
use Rattle.wi_pds.specs.declared.rule.RuleId.{RuleId}
use Rattle.wi_detour.specs.Detours.{distance_of}
use Rattle.wi_detour.specs.Graphs.{exits_of}
use Rattle.wi_detour.specs.private.Exits.{exits_in}

-- what is gone around: a link of a network, with its ends
pub record Around : Type 0 where
  pub net : Net
  pub link : LinkId
  pub ends : Link

pub record IsAround (a : Around) : Type 0 where
  pub network : IsNetwork a.net
  pub is : slice_get a.net.links a.link.0 ≡ Some a.ends

-- a router as a state; the start is 0, and the end 1
abbrev pub state_of : ℕ → ℕ
state_of r = suc (suc r)

-- the router that a link reaches
abbrev pub target_of : Net → LinkId → ℕ
target_of net f = option_map_or (λ l. l.to.0) (slice_get net.links f.0) 0

-- a link isn't in the risk group of the link that is gone around
abbrev pub is_outside : Around → LinkId → Bool
is_outside a f = not (same_risk a.net a.link f)

-- the links that leave the router of a state
abbrev pub exits_at : Around → ℕ → List LinkId
exits_at a zero = exits_in (exits_of a.net) a.ends.from.0
exits_at a (suc zero) = []
exits_at a (suc (suc r)) = exits_in (exits_of a.net) r

-- the links that lead on from a state
abbrev pub links_on : Around → ℕ → List LinkId
links_on a p = filter (is_outside a) (exits_at a p)

-- the rule that goes along a link from a state: it weighs the link's distance, and one link
abbrev pub along : Net → ℕ → LinkId → Rule (Pair Effort Effort)
along net p f = record {
  weight = record { first = record { count = distance_of net f }; second = record { count = 1 } };
  from = p;
  to = state_of (target_of net f);
  tag = f.0;
  top = 0;
  word = One 0;
}

-- the rule that goes to the end from a state: it weighs nothing
abbrev pub ending : ℕ → Rule (Pair Effort Effort)
ending p = record {
  weight = record { first = record { count = 0 }; second = record { count = 0 } };
  from = p;
  to = 1;
  tag = 0;
  top = 0;
  word = Empty;
}

abbrev pub endings : Around → ℕ → List (Rule (Pair Effort Effort))
endings a p = if p == state_of a.ends.to.0 then ending p ∷ [] else []

-- the rules of a head
abbrev pub rules_around : Around → ℕ → ℕ → List (Rule (Pair Effort Effort))
rules_around a p zero = map (along a.net p) (links_on a p) ++ endings a p
rules_around a p (suc g) = []

-- the links that ids of rules stand for: an ending stands for none
abbrev pub spelled : Around → List RuleId → List LinkId
spelled a [] = []
spelled a (id ∷ ids) = option_to_list (slice_get (links_on a id.p) id.at) ++ spelled a ids
