-- What is made of a file with the paths of a plan: the plan's text with the bypasses that were found for it, or why there is none.
use Rattle.std.specs.Prelude.{◌≡◌, ◌⊎◌, ◌<◌, ◌≤◌, ℕ, true, List, [], ◌∷◌, ◌++◌, length, codes, Some, Ok, Err}
use Rattle.wi_base.specs.Shelf.{ShelfSeen}
use Rattle.wi_net.specs.declared.parts.LinkId.{LinkId}
use Rattle.wi_net.specs.Net.{Net}
use Rattle.wi_net.specs.Network.{IsNetwork}
use Rattle.wi_netjson.specs.declared.file.TheConstants.{NETWORK_LIMIT}
use Rattle.wi_netjson.specs.File.{network_of}
use Rattle.wi_plan.specs.declared.plan.Bypass.{Bypass}
use Rattle.wi_plan.specs.declared.plan.Plan.{Plan}
use Rattle.wi_plan.specs.Plans.{IsPlan}
use Rattle.wi_planjson.specs.Plan.{draft_in}
use Rattle.wi_planjson.specs.Written.{plan_text_of}
use Rattle.wi_planjson.specs.declared.refused.PlanRefused.TheVariants as plan
use Rattle.wi_bypass.specs.Bypasses.{AreFound, SurvivesEachGroup, unprotected, wanting, with_found}
use Rattle.wi_outcome.specs.declared.refusal.Refusal.{Refusal}
use Rattle.wi_outcome.specs.declared.refusal.Refusal.TheVariants.{LargeNetwork, Memory, Plan as BadPlan}
use Rattle.wi_files.specs.Networks.{FromNetwork}
use Rattle.wi_make.specs.Protection.{IsPlanned}
use Rattle.wi_files.specs.Shelves.{IsCalm}

-- a file is a network's, and has this plan over it, whose bypasses may be left out
pub record IsDrafted (bytes : List ℕ) (net : Net) (plan : Plan) : Type 0 where
  pub means : network_of bytes ≡ Ok net
  pub network : IsNetwork net
  pub reads : draft_in net bytes ≡ Ok plan
  pub is : IsPlan net plan

-- the inner links of a plan's paths that have no detour among its bypasses
abbrev pub left_unprotected : Net → Plan → List LinkId
left_unprotected net plan = unprotected net plan.paths plan.bypasses

-- what is printed of a plan: its text and a line feed; with status 0 where each inner link of its paths has a detour, and else 1
abbrev pub printed_plan : Net → Plan → List ℕ
printed_plan net plan = plan_text_of net plan (left_unprotected net plan) ++ codes "\n"

abbrev pub plan_status : List LinkId → ℕ
plan_status [] = 0
plan_status (e ∷ links) = 1

-- the plan of a file is printed with least detours as the bypasses that it lacks, within the limit. Read again the text is that plan; and
-- with status 0 the plan's paths survive each risk group that has neither their first nor their last link
pub record IsBypassing (bytes text : List ℕ) (status : ℕ) : Type 0 where
  pub net : Net
  pub plan : Plan
  pub found : List Bypass
  pub drafted : IsDrafted bytes net plan
  pub found_is : AreFound net (wanting plan) found
  pub text_is : text ≡ printed_plan net (with_found plan found)
  pub short : length text ≤ NETWORK_LIMIT
  pub again : IsPlanned text net (with_found plan found)
  pub status_is : status ≡ plan_status (left_unprotected net (with_found plan found))
  pub survives : status ≡ 0 → SurvivesEachGroup net (with_found plan found)

-- the same of the file that the shelf holds under a name
abbrev pub IsBypassed : ShelfSeen → List ℕ → List ℕ → ℕ → Type 0
IsBypassed shelf name text status = (bytes : List ℕ) × (shelf.told ≡ true → shelf.file name ≡ Some bytes) × IsBypassing bytes text status

-- the plan is the cause: there is none, or what would be printed of it is too long
abbrev pub FromDraft : List ℕ → Refusal → Type 0
FromDraft bytes (BadPlan refused) = (net : Net) × (network_of bytes ≡ Ok net) × (refused ≡ plan.Memory → ⊥) × (draft_in net bytes ≡ Err refused)
FromDraft bytes LargeNetwork =
    (net : Net) × (p : Plan) × (found : List Bypass) × IsDrafted bytes net p × AreFound net (wanting p) found × (NETWORK_LIMIT < length (printed_plan net (with_found p found)))
FromDraft bytes Memory = Unit {0}
FromDraft bytes refusal = ⊥

-- the network file is the cause, or its plan
abbrev pub FromBypassing : ShelfSeen → ShelfSeen → List ℕ → Refusal → Type 0
FromBypassing old new name refusal =
    FromNetwork old new name refusal
    ⊎ ((bytes : List ℕ) × (old.told ≡ true → old.file name ≡ Some bytes) × FromDraft bytes refusal × IsCalm old new)

-- the plan is the cause, in one of the two ways
abbrev pub HasNoDraft : List ℕ → Type 0
HasNoDraft bytes = (refusal : Refusal) × (refusal ≡ Memory → ⊥) × FromDraft bytes refusal
