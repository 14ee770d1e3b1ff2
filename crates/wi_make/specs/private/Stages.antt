-- The causes and the outcomes of the steps within a command.
use Rattle.std.specs.Prelude.{◌≡◌, ℕ, ◌<◌, ◌≤◌, List, ◌++◌, length, codes, Ok}
use Rattle.wi_net.specs.declared.parts.LinkId.{LinkId}
use Rattle.wi_net.specs.Net.{Net}
use Rattle.wi_netjson.specs.declared.file.TheConstants.{NETWORK_LIMIT}
use Rattle.wi_netjson.specs.File.{network_of}
use Rattle.wi_netjson.specs.Reading.{Fails}
use Rattle.wi_netjson.specs.Written.{text_of}
use Rattle.wi_plan.specs.declared.plan.Bypass.{Bypass}
use Rattle.wi_plan.specs.declared.plan.Plan.{Plan}
use Rattle.wi_plan.specs.Plans.{IsPlan}
use Rattle.wi_bypass.specs.Bypasses.{AreFound, wanting, with_found}
use Rattle.wi_outcome.specs.declared.refusal.Refusal.{Refusal}
use Rattle.wi_outcome.specs.declared.refusal.Refusal.TheVariants.{BadStack, LargeNetwork, Memory, Network, Script as BadScript}
use Rattle.wi_make.specs.Bypassing.{FromDraft, left_unprotected, plan_status, printed_plan}
use Rattle.wi_make.specs.OnWire.{IsRefusedStack}
use Rattle.wi_make.specs.Protection.{FromPlan, IsPlanned}
use Rattle.wi_make.specs.Scripts.{IsBadScript}

-- ---- play
-- the bytes of the script are the cause
abbrev pub FromBytes : Net → ℕ → List ℕ → Refusal → Type 0
FromBytes net k bytes (BadScript refused) = IsBadScript net k bytes refused
FromBytes net k bytes Memory = Unit {0}
FromBytes net k bytes refusal = ⊥

-- ---- protect
-- bytes are no network's, or their plan is the cause
abbrev pub FromPlanFile : List ℕ → Refusal → Type 0
FromPlanFile bytes (Network fault) = Fails fault (network_of bytes)
FromPlanFile bytes refusal = FromPlan bytes refusal

-- the text of a network as a file, and a line feed, with which it is the network's still
pub record IsWritten (net : Net) (text : List ℕ) : Type 0 where
  pub short : length (text_of net) ≤ NETWORK_LIMIT
  pub text_is : text ≡ text_of net ++ codes "\n"
  pub again : length text ≤ NETWORK_LIMIT → network_of text ≡ Ok net

-- it is too long
abbrev pub FromWriting : Net → Refusal → Type 0
FromWriting net LargeNetwork = NETWORK_LIMIT < length (text_of net)
FromWriting net Memory = Unit {0}
FromWriting net refusal = ⊥

-- ---- bypass
-- bytes are no network's, or their plan is the cause
abbrev pub FromDraftFile : List ℕ → Refusal → Type 0
FromDraftFile bytes (Network fault) = Fails fault (network_of bytes)
FromDraftFile bytes refusal = FromDraft bytes refusal

-- a plan with what was found for it, and the inner links that have no detour then
pub record IsFoundFor (net : Net) (plan whole : Plan) (lacking : List LinkId) : Type 0 where
  pub found : List Bypass
  pub are : AreFound net (wanting plan) found
  pub whole_is : whole ≡ with_found plan found
  pub plan_is : IsPlan net whole
  pub lacking_is : lacking ≡ left_unprotected net whole

-- a plan is printed, and with what status; as a file it is that plan
pub record IsPlanWritten (net : Net) (plan : Plan) (text : List ℕ) (status : ℕ) : Type 0 where
  pub text_is : text ≡ printed_plan net plan
  pub short : length text ≤ NETWORK_LIMIT
  pub again : IsPlanned text net plan
  pub status_is : status ≡ plan_status (left_unprotected net plan)

-- it is too long
abbrev pub FromPlanWriting : Net → Plan → Refusal → Type 0
FromPlanWriting net plan LargeNetwork = NETWORK_LIMIT < length (printed_plan net plan)
FromPlanWriting net plan Memory = Unit {0}
FromPlanWriting net plan refusal = ⊥

-- ---- stack
-- bytes are the cause, which begin with no stack
abbrev pub FromStack : List ℕ → Refusal → Type 0
FromStack bytes (BadStack refused) = IsRefusedStack bytes refused
FromStack bytes Memory = Unit {0}
FromStack bytes refusal = ⊥
