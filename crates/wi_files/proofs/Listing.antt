-- Policies that are read, step after step. The fetch of the network left the shelf as it was.
use Rattle.std.proofs.Common.{◌≡◌, true, List, ℕ, inr, subst}
use Rattle.wi_base.specs.Shelf.{ShelfSeen}
use Rattle.wi_net.specs.declared.bounds.Bounds.{Bounds}
use Rattle.wi_net.specs.Net.{Net}
use Rattle.wi_query.specs.Given.{IsGiven}
use Rattle.wi_policy.specs.declared.policy.Policy.{Policy}
use Rattle.wi_outcome.specs.declared.refusal.Refusal.{Refusal}
use Rattle.wi_files.specs.Networks.{HoldsNetwork}
use Rattle.wi_files.specs.Policies.{ArePolicies, FromPolicies, FromPoliciesOver, HoldsPolicies}

pub policies_read : (old later : ShelfSeen) (network text name : List ℕ) (net : Net) (given : Bounds) (policies : List Policy) → later ≡ old → (old.told ≡ true → HoldsNetwork (old.file network) net) → IsGiven net text given
    → HoldsPolicies later name net given policies → ArePolicies old network text name net given policies
policies_read old later network text name net given policies same holds is held =
    record { network_is = holds; given_is = is; policies_are = subst (λ s. HoldsPolicies s name net given policies) same held }

pub policies_refused : (old later new : ShelfSeen) (network text name : List ℕ) (net : Net) (refusal : Refusal) → later ≡ old → (old.told ≡ true → HoldsNetwork (old.file network) net)
    → FromPoliciesOver later new net text name refusal → FromPolicies old new network text name refusal
policies_refused old later new network text name net refusal same holds cause = inr (net, holds, subst (λ s. FromPoliciesOver s new net text name refusal) same cause)
