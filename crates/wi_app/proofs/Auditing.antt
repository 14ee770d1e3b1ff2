-- Policies that are asked one after the other.
use Rattle.std.proofs.Common.{◌≡◌, ℕ, ◌<◌, true, List, length, Some, inl, inr, refl, sym, subst, ◌∙◌, arith}
use Rattle.wi_base.specs.declared.shelf.CallKind.TheVariants.{Fetch}
use Rattle.wi_base.specs.Shelf.{ShelfSeen, IsLonger}
use Rattle.wi_base.specs.Sink.{SinkSeen}
use Rattle.wi_base.specs.declared.sink.PutRefused.{PutRefused}
use Rattle.wi_base.specs.declared.sink.PutRefused.TheVariants.{Failed}
use Rattle.wi_net.specs.declared.bounds.Bounds.{Bounds}
use Rattle.wi_net.specs.Net.{Net}
use Rattle.wi_query.specs.Given.{IsGiven}
use Rattle.wi_policy.specs.declared.policy.Policy.{Policy}
use Rattle.wi_policy.specs.Policies.{HasNoPolicies}
use Rattle.wi_policy.proofs.Askable.{each_asked}
use Rattle.wi_policy.proofs.Fine.{only_memory}
use Rattle.wi_audit.specs.declared.outcome.Fulfilment.{Fulfilment}
use Rattle.wi_audit.specs.declared.outcome.Fulfilment.TheVariants.{AsExpected, Unexpected, Undecided}
use Rattle.wi_audit.specs.declared.series.Test.{Test}
use Rattle.wi_audit.specs.Audits.{AreAskable}
use Rattle.wi_audit.specs.Series.{IsBrokenOff as IsSeriesBrokenOff, IsSeries, exit_status}
use Rattle.wi_words.specs.declared.Tested.{Tested}
use Rattle.wi_words.specs.declared.Tested.TheVariants.{Policies as TestPolicies, RiskGroups, Routers}
use Rattle.wi_words.specs.Commands.{Auditing, Audit}
use Rattle.wi_outcome.specs.Edges.{PutAll, SaysWhy, unprinted}
use Rattle.wi_outcome.specs.Texts.{status_of}
use Rattle.wi_outcome.specs.declared.refusal.Refusal.{Refusal}
use Rattle.wi_outcome.specs.declared.refusal.Refusal.TheVariants.{CannotRead, Given, LongPolicies, Memory, Policies}
use Rattle.wi_files.specs.Policies.{ArePolicies, FromPoliciesFile, FromPoliciesOver, HoldsPolicies, IsBadGiven}
use Rattle.wi_files.specs.Shelves.{IsCalm}
use Rattle.wi_files.proofs.Causes.{longer, one_held}
use Rattle.wi_files.proofs.Giving.{given_fine, one_given}
use Rattle.wi_app.specs.Audited.{AreTested, EndsAudited, IsBrokenOff}
use Rattle.wi_app.specs.Run.{DoesBy}
use Rattle.wi_app.specs.private.Stages.{IsTelling}

-- ---- before it
-- each policy of a file can be asked
pub askable : (shelf : ShelfSeen) (network text name : List ℕ) (net : Net) (given : Bounds) (policies : List Policy) → ArePolicies shelf network text name net given policies → AreAskable net given policies
askable shelf network text name net given policies are = λ i policy is. each_asked net given are.policies_are.bytes policies i policy are.policies_are.has is

-- ---- the status of what is told
series_ends : {X : Type 0} (IsTest : ℕ → X → Test → Type 0) (things : List X) (text : List ℕ) (status : ℕ) → IsSeries IsTest things text status → EndsAudited status
series_ends IsTest things text status series = subst EndsAudited (sym series.status_is) (by_worst _)
  where
    by_worst : (f : Fulfilment) → EndsAudited (exit_status f)
    by_worst AsExpected = inl refl
    by_worst Unexpected = inr (inl refl)
    by_worst Undecided = inr (inr refl)

pub tests_end : (tested : Tested) (net : Net) (given : Bounds) (policies : List Policy) (text : List ℕ) (status : ℕ) → AreTested tested net given policies text status → EndsAudited status
tests_end TestPolicies net given policies text status are = series_ends _ _ text status are
tests_end RiskGroups net given policies text status are = series_ends _ _ text status are
tests_end Routers net given policies text status are = series_ends _ _ text status are

-- ---- where tests are broken off by a put, that failed
series_fails : {X : Type 0} (IsTest : ℕ → X → Test → Type 0) (things : List X) (old new : SinkSeen) → IsSeriesBrokenOff IsTest things Failed old new → old.faults < new.faults
series_fails IsTest things old new (inl part) = part.fault
series_fails IsTest things old new (inr behind) = behind.fault

pub tests_fail : (tested : Tested) (net : Net) (given : Bounds) (policies : List Policy) (old new : SinkSeen) → IsBrokenOff tested net given policies Failed old new → old.faults < new.faults
tests_fail TestPolicies net given policies old new broken = series_fails _ _ old new broken
tests_fail RiskGroups net given policies old new broken = series_fails _ _ old new broken
tests_fail Routers net given policies old new broken = series_fails _ _ old new broken

-- ---- policies that can be asked are no cause but of want of memory
given_wants : (net : Net) (text : List ℕ) (given : Bounds) (refusal : Refusal) → IsGiven net text given → IsBadGiven net text refusal → status_of refusal ≡ 11
given_wants net text given (Given said) is cause = absurd (cause.due (given_fine net text given cause.fault is cause.first))
given_wants net text given Memory is cause = refl
given_wants net text given refusal is cause = elim cause [ ]

file_wants : (old new : ShelfSeen) (net : Net) (given : Bounds) (name : List ℕ) (policies : List Policy) (refusal : Refusal) → old.told ≡ true → HoldsPolicies old name net given policies → IsCalm old new
    → FromPoliciesFile old new net given name refusal → status_of refusal ≡ 11
file_wants old new net given name policies (CannotRead said) t held calm cause = absurd (longer old.failed (Fetch, name) (sym cause.1 ∙ calm))
file_wants old new net given name policies LongPolicies t held calm cause =
    let long : 1048576 < length held.bytes = subst (λ f. IsLonger f 1048576) (held.held t) (cause.1 t) in
    let short = held.short in
    absurd (omega (arith, long, short))
file_wants old new net given name policies (Policies said) t held calm cause =
    let fault = cause.1.3 in
    let same = one_held (old.file name) cause.1.0 held.bytes (cause.1.1 t) (held.held t) in
    absurd (fault.due (only_memory net given held.bytes policies fault.refused held.has held.some (subst (λ b. HasNoPolicies net given b fault.refused) same fault.first)))
file_wants old new net given name policies Memory t held calm cause = refl
file_wants old new net given name policies refusal t held calm cause = elim cause [ ]

pub policies_want : (old new : ShelfSeen) (net : Net) (given : Bounds) (text name : List ℕ) (policies : List Policy) (refusal : Refusal) → old.told ≡ true → IsGiven net text given → HoldsPolicies old name net given policies
    → IsCalm old new → FromPoliciesOver old new net text name refusal → status_of refusal ≡ 11
policies_want old new net given text name policies refusal t is held calm (inl bad) = given_wants net text given refusal is bad.0
policies_want old new net given text name policies refusal t is held calm (inr cause) =
    file_wants old new net given name policies refusal t held calm (subst (λ g. FromPoliciesFile old new net g name refusal) (one_given net text cause.0 given cause.1 is) cause.2)

-- ---- what the command does
-- all is tested of a list of policies, or not all
pub all_tested : (tested : Tested) (net : Net) (given : Bounds) (listed : List Policy) (out_old out_new err : SinkSeen) (status : ℕ) → (text : List ℕ) × AreTested tested net given listed text status × PutAll text out_old out_new
    → IsTelling tested net given listed out_old out_new err err status
all_tested tested net given listed out_old out_new err status told = inl (told.0, told.1, told.2, record { bytes = refl; calm = refl })

pub not_tested : (tested : Tested) (net : Net) (given : Bounds) (listed : List Policy) (refused : PutRefused) (out_old out_new err_old err_new : SinkSeen) (result : ℕ) → IsBrokenOff tested net given listed refused out_old out_new
    → SaysWhy (unprinted refused) err_old err_new result → IsTelling tested net given listed out_old out_new err_old err_new result
not_tested tested net given listed refused out_old out_new err_old err_new result broken why = inr (refused, broken, why)

pub telling_does : (auditing : Auditing) (shelf_old shelf_new : ShelfSeen) (out_old out_new err_old err_new : SinkSeen) (result : ℕ) (net : Net) (given : Bounds) (policies : List Policy)
    → ArePolicies shelf_old auditing.network auditing.given auditing.policies net given policies → IsCalm shelf_old shelf_new → IsTelling auditing.tested net given policies out_old out_new err_old err_new result
    → DoesBy (Some (Audit auditing)) shelf_old shelf_new out_old out_new err_old err_new result
telling_does auditing shelf_old shelf_new out_old out_new err_old err_new result net given policies are calm (inl told) =
    inl (record { status = result; text = told.0; answered = (net, given, policies, are, told.1); calm = calm; printed = inl (told.2, told.3, refl) })
telling_does auditing shelf_old shelf_new out_old out_new err_old err_new result net given policies are calm (inr broken) =
    inr (inr (record { auditing = auditing; asks = refl; calm = calm; refused = broken.0; broken = (net, given, policies, are, broken.1); said = broken.2 }))
