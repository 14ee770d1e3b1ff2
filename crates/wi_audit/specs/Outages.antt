-- What becomes of policies while an outage's links are down, and what is printed of that.
use Rattle.std.specs.Prelude.{◌≡◌, ℕ, true, false, if◌then◌else◌, codes, List, [], ◌∷◌, ◌++◌, map, Option, Some, None, is_some, string_bytes}
use Rattle.std.specs.List.{AllZip, list_any}
use Rattle.std.specs.Fmt.{decimal}
use Rattle.wi_net.specs.declared.parts.LinkId.{LinkId}
use Rattle.wi_net.specs.declared.bounds.Bounds.{Bounds}
use Rattle.wi_net.specs.LinkSet.{is_apart}
use Rattle.wi_net.specs.Net.{Net}
use Rattle.wi_world.specs.declared.answer.Word.{Word}
use Rattle.wi_world.specs.declared.answer.Word.TheVariants as words
use Rattle.wi_query.specs.declared.query.Query.{Query}
use Rattle.wi_build.specs.Problems.{Problem, IsProblem, problem_of}
use Rattle.wi_policy.specs.declared.policy.Policy.{Policy}
use Rattle.wi_policy.specs.Policies.{IsAsked}
use Rattle.wi_outage.specs.declared.outage.Outage.{Outage}
use Rattle.wi_settle.specs.declared.found.Found.{Found}
use Rattle.wi_settle.specs.declared.found.Found.TheVariants.{Yes, No, Open}
use Rattle.wi_settle.specs.Findings.{IsFound, during}
use Rattle.wi_report.specs.Reports.{word_shown}
use Rattle.wi_faults.specs.Shown.{router_shown, sources_shown}
use Rattle.wi_audit.specs.declared.outcome.Fulfilment.{Fulfilment}
use Rattle.wi_audit.specs.declared.outcome.Fulfilment.TheVariants.{AsExpected, Unexpected, Undecided}
use Rattle.wi_audit.specs.declared.series.Test.{Test}
use Rattle.wi_audit.specs.Outcomes.{worst}
use Rattle.wi_audit.specs.Texts.{safe_byte, test_line}

-- ---- what is found
-- what is found of a problem during an outage. It isn't asked where its bounds know a link of the outage to be up
abbrev pub IsFoundDuring : Problem → List LinkId → Option Found → Type 0
IsFoundDuring problem links None = is_apart links problem.bounds.up ≡ false
IsFoundDuring problem links (Some found) = (is_apart links problem.bounds.up ≡ true) × IsFound (during problem links) found

-- what is found of a policy, within its bounds and the given ones
pub record IsTried (net : Net) (given : Bounds) (links : List LinkId) (policy : Policy) (tried : Option Found) : Type 0 where
  pub query : Query
  pub asked : IsAsked net given (string_bytes policy.query) query
  pub problem_is : IsProblem (problem_of net query [])
  pub found : IsFoundDuring (problem_of net query []) links tried

-- and of each of them
abbrev pub AreTried : Net → Bounds → List LinkId → List Policy → List (Option Found) → Type 0
AreTried net given links policies tried = AllZip (IsTried net given links) policies tried

-- ---- whether that is as expected
-- whether what is found is what is expected with a word
abbrev pub fulfilment_by : Word → Found → Fulfilment
fulfilment_by word Open = Undecided
fulfilment_by words.Yes Yes = AsExpected
fulfilment_by words.No No = AsExpected
fulfilment_by word found = Unexpected

-- what isn't asked breaks nothing
abbrev pub fulfilment_in : Word → Option Found → Fulfilment
fulfilment_in word None = AsExpected
fulfilment_in word (Some found) = fulfilment_by word found

abbrev pub fulfilments : List Policy → List (Option Found) → List Fulfilment
fulfilments (policy ∷ policies) (tried ∷ more) = fulfilment_in policy.word tried ∷ fulfilments policies more
fulfilments _ _ = []

-- ---- what is printed
abbrev pub found_shown : Found → List ℕ
found_shown Yes = codes "yes"
found_shown No = codes "no"
found_shown Open = codes "open"

-- a policy's name in brackets, unless it is empty
abbrev pub bracketed : List ℕ → List ℕ
bracketed [] = []
bracketed (b ∷ name) = codes " (" ++ map safe_byte (b ∷ name) ++ codes ")"

-- the line of a policy that isn't as expected: what is found, and what is expected
abbrev pub complaint : Policy → Found → List ℕ
complaint policy found =
    codes "# line " ++ decimal policy.line ++ bracketed (string_bytes policy.name) ++ codes ": " ++ found_shown found ++ codes ", " ++ word_shown policy.word ++ codes " is expected\n"

-- nothing is said of one that is as expected
abbrev pub complaint_by : Fulfilment → Policy → Found → List ℕ
complaint_by AsExpected policy found = []
complaint_by _ policy found = complaint policy found

-- nor of one that isn't asked
abbrev pub complaint_of : Policy → Option Found → List ℕ
complaint_of policy None = []
complaint_of policy (Some found) = complaint_by (fulfilment_by policy.word found) policy found

abbrev pub complaints : List Policy → List (Option Found) → List ℕ
complaints (policy ∷ policies) (tried ∷ more) = complaint_of policy tried ++ complaints policies more
complaints _ _ = []

-- what is down, with a space behind each name: a router, or the links of a risk group by the interfaces that they leave by
abbrev pub outage_shown : Net → Outage → List ℕ
outage_shown net outage = elim outage.router [ None ↦ sources_shown net outage.links | Some router ↦ router_shown net router ++ codes " " ]

-- where no policy is asked, the test is passed over
abbrev pub skip_mark : List (Option Found) → List ℕ
skip_mark tried = if list_any is_some tried then [] else codes " # SKIP not asked"

abbrev pub description_of : Net → Outage → List (Option Found) → List ℕ
description_of net outage tried = map safe_byte (outage_shown net outage) ++ codes "down" ++ skip_mark tried

-- the lines of an outage with its number, by whether all that is asked is as expected. Where some isn't, some is asked
abbrev pub outage_lines : Fulfilment → Net → ℕ → Outage → List Policy → List (Option Found) → List ℕ
outage_lines AsExpected net number outage policies tried = test_line (codes "ok ") number (description_of net outage tried)
outage_lines _ net number outage policies tried = test_line (codes "not ok ") number (description_of net outage tried) ++ complaints policies tried

abbrev pub outage_text : Net → ℕ → Outage → List Policy → List (Option Found) → List ℕ
outage_text net number outage policies tried = outage_lines (worst (fulfilments policies tried)) net number outage policies tried

-- policies were tried during an outage, and this is its test
pub record IsOutageTested (net : Net) (given : Bounds) (policies : List Policy) (number : ℕ) (outage : Outage) (test : Test) : Type 0 where
  pub tried : List (Option Found)
  pub are : AreTried net given outage.links policies tried
  pub text_is : test.text ≡ outage_text net number outage policies tried
  pub fulfilment_is : test.fulfilment ≡ worst (fulfilments policies tried)
