-- The status with which a file ends whose plan is at fault.
use Rattle.std.proofs.Common.{◌≡◌, ℕ, ◌⊎◌, inl, inr, List, refl}
use Rattle.wi_planjson.specs.declared.refused.PlanRefused.{PlanRefused}
use Rattle.wi_planjson.specs.declared.refused.PlanRefused.TheVariants as plan
use Rattle.wi_protect.specs.declared.refused.ProtectRefused.{ProtectRefused}
use Rattle.wi_protect.specs.declared.refused.ProtectRefused.TheVariants as protect
use Rattle.wi_outcome.specs.Texts.{status_of}
use Rattle.wi_outcome.specs.declared.refusal.Refusal.{Refusal}
use Rattle.wi_outcome.specs.declared.refusal.Refusal.TheVariants.{LargeNetwork, Memory, Plan as BadPlan, Unprotected}
use Rattle.wi_make.specs.Bypassing.{FromDraft, HasNoDraft}
use Rattle.wi_make.specs.Protection.{FromPlan, HasNoProtection}

-- the status of a plan's refusal
plan_status : (refused : PlanRefused) → (refused ≡ plan.Memory → ⊥) → status_of (BadPlan refused) ≡ 15
plan_status plan.Memory due = absurd (due refl)
plan_status plan.NotEmpty due = refl
plan_status (plan.WrongShape p) due = refl
plan_status (plan.Unknown p) due = refl
plan_status (plan.TooShort p) due = refl
plan_status (plan.Broken p) due = refl
plan_status (plan.Repeated p) due = refl
plan_status (plan.Taken p) due = refl
plan_status (plan.Continues p) due = refl

protect_status : (refused : ProtectRefused) → (refused ≡ protect.Memory → ⊥) → status_of (Unprotected refused) ≡ 15
protect_status protect.Memory due = absurd (due refl)
protect_status protect.TakenLabel due = refl
protect_status protect.TooManyLabels due = refl

-- memory ran out, or the plan is at fault
pub plan_due : (bytes : List ℕ) (refusal : Refusal) → FromPlan bytes refusal → (status_of refusal ≡ 11) ⊎ ((status_of refusal ≡ 15) × HasNoProtection bytes)
plan_due bytes (BadPlan refused) cause = inr (plan_status refused cause.2, (BadPlan refused, λ same. cc, cause))
plan_due bytes (Unprotected refused) cause = inr (protect_status refused cause.3, (Unprotected refused, λ same. cc, cause))
plan_due bytes LargeNetwork cause = inr (refl, (LargeNetwork, λ same. cc, cause))
plan_due bytes Memory cause = inl refl
plan_due bytes refusal cause = elim cause [ ]

pub draft_due : (bytes : List ℕ) (refusal : Refusal) → FromDraft bytes refusal → (status_of refusal ≡ 11) ⊎ ((status_of refusal ≡ 15) × HasNoDraft bytes)
draft_due bytes (BadPlan refused) cause = inr (plan_status refused cause.2, (BadPlan refused, λ same. cc, cause))
draft_due bytes LargeNetwork cause = inr (refl, (LargeNetwork, λ same. cc, cause))
draft_due bytes Memory cause = inl refl
draft_due bytes refusal cause = elim cause [ ]
