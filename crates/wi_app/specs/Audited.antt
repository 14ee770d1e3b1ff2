-- What is told of policies that are asked of a network. Old is the shelf before.
use Rattle.std.specs.Prelude.{◌⊎◌, ◌≡◌, ℕ, true, false, List}
use Rattle.wi_base.specs.Shelf.{ShelfSeen}
use Rattle.wi_base.specs.Sink.{SinkSeen}
use Rattle.wi_base.specs.declared.sink.PutRefused.{PutRefused}
use Rattle.wi_net.specs.declared.bounds.Bounds.{Bounds}
use Rattle.wi_net.specs.Net.{Net}
use Rattle.wi_policy.specs.declared.policy.Policy.{Policy}
use Rattle.wi_audit.specs.Audits.{AreOutagesBrokenOff, AreOutagesTested, IsAudit, IsAuditBrokenOff}
use Rattle.wi_words.specs.declared.Tested.{Tested}
use Rattle.wi_words.specs.declared.Tested.TheVariants.{Policies, RiskGroups, Routers}
use Rattle.wi_words.specs.Commands.{Auditing}
use Rattle.wi_files.specs.Policies.{ArePolicies}

-- all is tested: each policy, or each outage of a risk group or of a router
abbrev pub AreTested : Tested → Net → Bounds → List Policy → List ℕ → ℕ → Type 0
AreTested Policies net given policies text status = IsAudit net given policies text status
AreTested RiskGroups net given policies text status = AreOutagesTested net given policies false text status
AreTested Routers net given policies text status = AreOutagesTested net given policies true text status

-- or that is broken off. Here old and new are the sink before and after
abbrev pub IsBrokenOff : Tested → Net → Bounds → List Policy → PutRefused → SinkSeen → SinkSeen → Type 0
IsBrokenOff Policies net given policies refused old new = IsAuditBrokenOff net given policies refused old new
IsBrokenOff RiskGroups net given policies refused old new = AreOutagesBrokenOff net given policies false refused old new
IsBrokenOff Routers net given policies refused old new = AreOutagesBrokenOff net given policies true refused old new

-- files hold a network and policies over it, a text gives links, and this is so of them
abbrev pub ForPolicies : ShelfSeen → Auditing → (Net → Bounds → List Policy → Type 0) → Type 0
ForPolicies shelf auditing P =
    (net : Net) × (given : Bounds) × (policies : List Policy) × ArePolicies shelf auditing.network auditing.given auditing.policies net given policies × P net given policies

-- what is told where all are asked, with its status
abbrev pub AreTold : ShelfSeen → Auditing → ℕ → List ℕ → Type 0
AreTold old auditing status text = ForPolicies old auditing (λ net given policies. AreTested auditing.tested net given policies text status)

-- the statuses with which that ends
abbrev pub EndsAudited : ℕ → Type 0
EndsAudited status = (status ≡ 0) ⊎ (status ≡ 1) ⊎ (status ≡ 2)
