-- What is made of a file with a plan: the text of the network that the plan asks for, or why there is none.
use Rattle.std.specs.Prelude.{◌≡◌, ◌⊎◌, ◌<◌, ◌≤◌, ℕ, true, List, ◌++◌, length, codes, Some, None, Ok, Err}
use Rattle.wi_base.specs.Shelf.{ShelfSeen}
use Rattle.wi_net.specs.Net.{Net}
use Rattle.wi_net.specs.Network.{IsNetwork}
use Rattle.wi_netjson.specs.declared.file.TheConstants.{NETWORK_LIMIT}
use Rattle.wi_netjson.specs.File.{network_of}
use Rattle.wi_netjson.specs.Written.{text_of}
use Rattle.wi_plan.specs.declared.plan.Plan.{Plan}
use Rattle.wi_plan.specs.Plans.{IsPlan}
use Rattle.wi_planjson.specs.Plan.{plan_in}
use Rattle.wi_planjson.specs.declared.refused.PlanRefused.TheVariants as plan
use Rattle.wi_protect.specs.Protected.{protected}
use Rattle.wi_protect.specs.Naming.{AreNamed}
use Rattle.wi_protect.specs.Protection.{AreProtected}
use Rattle.wi_protect.specs.Refusals.{fault_of}
use Rattle.wi_protect.specs.declared.refused.ProtectRefused.TheVariants as protect
use Rattle.wi_outcome.specs.declared.refusal.Refusal.{Refusal}
use Rattle.wi_outcome.specs.declared.refusal.Refusal.TheVariants.{LargeNetwork, Memory, Plan as BadPlan, Unprotected}
use Rattle.wi_files.specs.Networks.{FromNetwork}
use Rattle.wi_files.specs.Shelves.{IsCalm}

-- a file is a network's, and has this plan over it
pub record IsPlanned (bytes : List ℕ) (net : Net) (plan : Plan) : Type 0 where
  pub means : network_of bytes ≡ Ok net
  pub network : IsNetwork net
  pub reads : plan_in net bytes ≡ Ok plan
  pub is : IsPlan net plan

-- what is printed: the text of the network that the plan asks for, which is within the limits, and a line feed; as a file it is that
-- network's. In that network the plan's paths are protected, and labels have their names
pub record IsProtecting (bytes text : List ℕ) : Type 0 where
  pub net : Net
  pub plan : Plan
  pub planned : IsPlanned bytes net plan
  pub faultless : fault_of net plan ≡ None
  pub paths : AreProtected net plan
  pub names : AreNamed net plan
  pub short : length (text_of (protected net plan)) ≤ NETWORK_LIMIT
  pub text_is : text ≡ text_of (protected net plan) ++ codes "\n"
  pub again : length text ≤ NETWORK_LIMIT → network_of text ≡ Ok (protected net plan)

-- the same of the file that the shelf holds under a name
abbrev pub IsProtected : ShelfSeen → List ℕ → List ℕ → Type 0
IsProtected shelf name text = (bytes : List ℕ) × (shelf.told ≡ true → shelf.file name ≡ Some bytes) × IsProtecting bytes text

-- the plan is the cause: there is none, or its network can't be made, or is too long as a file
abbrev pub FromPlan : List ℕ → Refusal → Type 0
FromPlan bytes (BadPlan refused) = (net : Net) × (network_of bytes ≡ Ok net) × (refused ≡ plan.Memory → ⊥) × (plan_in net bytes ≡ Err refused)
FromPlan bytes (Unprotected refused) = (net : Net) × (p : Plan) × IsPlanned bytes net p × (refused ≡ protect.Memory → ⊥) × (fault_of net p ≡ Some refused)
FromPlan bytes LargeNetwork = (net : Net) × (p : Plan) × IsPlanned bytes net p × (fault_of net p ≡ None) × (NETWORK_LIMIT < length (text_of (protected net p)))
FromPlan bytes Memory = Unit {0}
FromPlan bytes refusal = ⊥

-- the network file is the cause, or its plan
abbrev pub FromProtecting : ShelfSeen → ShelfSeen → List ℕ → Refusal → Type 0
FromProtecting old new name refusal =
    FromNetwork old new name refusal
    ⊎ ((bytes : List ℕ) × (old.told ≡ true → old.file name ≡ Some bytes) × FromPlan bytes refusal × IsCalm old new)

-- the plan is the cause, in one of the three ways
abbrev pub HasNoProtection : List ℕ → Type 0
HasNoProtection bytes = (refusal : Refusal) × (refusal ≡ Memory → ⊥) × FromPlan bytes refusal
