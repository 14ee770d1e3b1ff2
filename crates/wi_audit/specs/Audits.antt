-- What is put of policies: a test of each by itself, or one of each outage.
use Rattle.std.specs.Prelude.{◌≡◌, ℕ, Bool, if◌then◌else◌, List, slice_get, Some, string_bytes}
use Rattle.wi_base.specs.Sink.{SinkSeen}
use Rattle.wi_base.specs.declared.sink.PutRefused.{PutRefused}
use Rattle.wi_net.specs.declared.bounds.Bounds.{Bounds}
use Rattle.wi_net.specs.Net.{Net}
use Rattle.wi_query.specs.declared.query.Query.{Query}
use Rattle.wi_policy.specs.declared.policy.Policy.{Policy}
use Rattle.wi_policy.specs.Policies.{IsAskable}
use Rattle.wi_outage.specs.declared.outage.Outage.{Outage}
use Rattle.wi_outage.specs.Outages.{group_outages, router_outages}
use Rattle.wi_audit.specs.Series.{IsBrokenOff, IsSeries}
use Rattle.wi_audit.specs.Texts.{IsAudited}
use Rattle.wi_audit.specs.Outages.{IsOutageTested}

-- each policy can be asked
abbrev pub AreAskable : Net → Bounds → List Policy → Type 0
AreAskable net given policies = (i : ℕ) (policy : Policy) → slice_get policies i ≡ Some policy → (query : Query) × IsAskable net given (string_bytes policy.query) query

-- each policy is tested, with this text and status; or that is broken off
abbrev pub IsAudit : Net → Bounds → List Policy → List ℕ → ℕ → Type 0
IsAudit net given policies text status = IsSeries (IsAudited net given) policies text status

abbrev pub IsAuditBrokenOff : Net → Bounds → List Policy → PutRefused → SinkSeen → SinkSeen → Type 0
IsAuditBrokenOff net given policies refused old new = IsBrokenOff (IsAudited net given) policies refused old new

-- the outages that are tried: of routers, or of risk groups
abbrev pub tried_outages : Net → Bounds → Bool → List Outage
tried_outages net given routers = if routers then router_outages net given else group_outages net given

-- each outage is tested; or that is broken off
abbrev pub AreOutagesTested : Net → Bounds → List Policy → Bool → List ℕ → ℕ → Type 0
AreOutagesTested net given policies routers text status = IsSeries (IsOutageTested net given policies) (tried_outages net given routers) text status

abbrev pub AreOutagesBrokenOff : Net → Bounds → List Policy → Bool → PutRefused → SinkSeen → SinkSeen → Type 0
AreOutagesBrokenOff net given policies routers refused old new = IsBrokenOff (IsOutageTested net given policies) (tried_outages net given routers) refused old new
