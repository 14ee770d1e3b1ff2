-- What is read of a file of policies, and of the text of what is given. Old and new are the shelf before and after; what it tells of a file
-- is said where it tells.
use Rattle.std.specs.Prelude.{◌≡◌, ◌⊎◌, ℕ, ◌<◌, ◌≤◌, true, List, length, Some}
use Rattle.wi_base.specs.Shelf.{ShelfSeen, IsLonger}
use Rattle.wi_net.specs.declared.bounds.Bounds.{Bounds}
use Rattle.wi_net.specs.Net.{Net}
use Rattle.wi_query.specs.declared.fault.QueryFault.TheVariants as query
use Rattle.wi_query.specs.declared.strict.StrictFault.{StrictFault}
use Rattle.wi_query.specs.declared.strict.StrictFault.TheVariants.{InQuery}
use Rattle.wi_query.specs.Given.{IsGiven, IsGivenFault}
use Rattle.wi_policy.specs.declared.policy.Policy.{Policy}
use Rattle.wi_policy.specs.declared.policy.PoliciesRefused.{PoliciesRefused}
use Rattle.wi_policy.specs.declared.policy.PoliciesRefused.TheVariants as policies
use Rattle.wi_policy.specs.Policies.{HasNoPolicies, HasPolicies}
use Rattle.wi_faults.specs.PolicyFaults.{policies_fault_text}
use Rattle.wi_faults.specs.QueryFaults.{given_fault_text}
use Rattle.wi_files.specs.declared.fetch.TheConstants.{LINES_LIMIT}
use Rattle.wi_outcome.specs.declared.refusal.Refusal.{Refusal}
use Rattle.wi_outcome.specs.declared.refusal.Refusal.TheVariants.{CannotRead, Given as BadGiven, LongPolicies, Memory, Policies as BadPolicies}
use Rattle.wi_files.specs.Networks.{FromNetwork, HoldsNetwork}
use Rattle.wi_files.specs.Shelves.{FetchFailed, IsCalm}

-- a file has these policies over a network, within what is given, and at least one
pub record HoldsPolicies (shelf : ShelfSeen) (name : List ℕ) (net : Net) (given : Bounds) (policies : List Policy) : Type 0 where
  pub bytes : List ℕ
  pub held : shelf.told ≡ true → shelf.file name ≡ Some bytes
  pub short : length bytes ≤ LINES_LIMIT
  pub has : HasPolicies net given bytes policies
  pub some : 0 < length policies

-- files hold a network and policies over it, where a text gives these links
pub record ArePolicies (shelf : ShelfSeen) (network text name : List ℕ) (net : Net) (given : Bounds) (policies : List Policy) : Type 0 where
  pub network_is : shelf.told ≡ true → HoldsNetwork (shelf.file network) net
  pub given_is : IsGiven net text given
  pub policies_are : HoldsPolicies shelf name net given policies

-- ---- faults
-- the text of what is given has this first fault, and this is said of it
pub record GivenHasFault (net : Net) (text said : List ℕ) : Type 0 where
  pub fault : StrictFault
  pub first : IsGivenFault net text fault
  pub due : fault ≡ InQuery query.Memory → ⊥
  pub said_is : said ≡ given_fault_text net fault

-- it is the cause
abbrev pub IsBadGiven : Net → List ℕ → Refusal → Type 0
IsBadGiven net text (BadGiven said) = GivenHasFault net text said
IsBadGiven net text Memory = Unit {0}
IsBadGiven net text refusal = ⊥

-- bytes have this first fault as a file of policies, or there is none on them, and this is said of it
pub record HavePoliciesFault (net : Net) (given : Bounds) (bytes said : List ℕ) : Type 0 where
  pub refused : PoliciesRefused
  pub first : HasNoPolicies net given bytes refused
  pub due : refused ≡ policies.Memory → ⊥
  pub said_is : said ≡ policies_fault_text net refused

-- the file of policies is the cause: over the limit it is told so, whatever its lines are
abbrev pub FromPoliciesFile : ShelfSeen → ShelfSeen → Net → Bounds → List ℕ → Refusal → Type 0
FromPoliciesFile old new net given name (CannotRead said) = FetchFailed said name old new
FromPoliciesFile old new net given name LongPolicies = IsCalm old new × (old.told ≡ true → IsLonger (old.file name) LINES_LIMIT)
FromPoliciesFile old new net given name (BadPolicies said) =
    IsCalm old new × ((bytes : List ℕ) × (old.told ≡ true → old.file name ≡ Some bytes) × (length bytes ≤ LINES_LIMIT) × HavePoliciesFault net given bytes said)
FromPoliciesFile old new net given name Memory = IsCalm old new
FromPoliciesFile old new net given name refusal = ⊥

-- over a network the text of what is given is the cause; or, that giving links, the file of policies
abbrev pub FromPoliciesOver : ShelfSeen → ShelfSeen → Net → List ℕ → List ℕ → Refusal → Type 0
FromPoliciesOver old new net text name refusal =
    (IsBadGiven net text refusal × IsCalm old new) ⊎ ((given : Bounds) × IsGiven net text given × FromPoliciesFile old new net given name refusal)

-- the network file is the cause; or, that being a network's, one of those
abbrev pub FromPolicies : ShelfSeen → ShelfSeen → List ℕ → List ℕ → List ℕ → Refusal → Type 0
FromPolicies old new network text name refusal =
    FromNetwork old new network refusal
    ⊎ ((net : Net) × (old.told ≡ true → HoldsNetwork (old.file network) net) × FromPoliciesOver old new net text name refusal)
