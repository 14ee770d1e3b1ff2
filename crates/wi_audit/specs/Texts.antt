-- What is printed of policies: lines of the Test Anything Protocol, version 12 (plan, test lines, diagnostics).
use Rattle.std.specs.Prelude.{◌≡◌, ℕ, Bool, true, ◌||◌, ◌==◌, codes, if◌then◌else◌, List, [], ◌∷◌, ◌++◌, map, length, string_bytes}
use Rattle.std.specs.Fmt.{decimal}
use Rattle.wi_build.specs.Problems.{Problem}
use Rattle.wi_net.specs.declared.bounds.Bounds.{Bounds}
use Rattle.wi_net.specs.Net.{Net}
use Rattle.wi_cert.specs.declared.tree.TheConstants.{NODE_LIMIT}
use Rattle.wi_branch.specs.declared.refused.AnswerRefused.{AnswerRefused}
use Rattle.wi_branch.specs.declared.refused.AnswerRefused.TheVariants as refused
use Rattle.wi_faults.specs.RefusedDecisions.{nodes_over_limit_text, overflow_text, too_long_text}
use Rattle.wi_report.specs.Reports.{exact_report_of, word_shown}
use Rattle.wi_policy.specs.declared.policy.Policy.{Policy}
use Rattle.wi_audit.specs.declared.series.Test.{Test}
use Rattle.wi_audit.specs.declared.outcome.Outcome.{Outcome}
use Rattle.wi_audit.specs.declared.outcome.Outcome.TheVariants.{Answered, Open}
use Rattle.wi_audit.specs.declared.outcome.Fulfilment.{Fulfilment}
use Rattle.wi_audit.specs.declared.outcome.Fulfilment.TheVariants as fulfilment
use Rattle.wi_audit.specs.Outcomes.{IsAskedFor, fulfilment_of}

-- how many tests there are
abbrev pub plan_text : ℕ → List ℕ
plan_text n = codes "1.." ++ decimal n ++ codes "\n"

-- a test line: whether the test is ok, its number, from 1, and what it is of
abbrev pub test_line : List ℕ → ℕ → List ℕ → List ℕ
test_line word number description = word ++ decimal number ++ codes " - " ++ description ++ codes "\n"

-- readers differ on escapes, and words behind `#` would change what a line means
abbrev pub safe_byte : ℕ → ℕ
safe_byte b = if (b == 35) || (b == 92) then 95 else b

-- what a policy is called, or where it stands
abbrev pub called : ℕ → List ℕ → List ℕ
called line [] = codes "line " ++ decimal line
called line (b ∷ name) = map safe_byte (b ∷ name)

-- lines, each behind `# `; whether one begins here
abbrev pub commented : Bool → List ℕ → List ℕ
commented begins [] = []
commented begins (b ∷ text) = (if begins then codes "# " else []) ++ b ∷ commented (b == 10) text

-- why there is no exact answer: of a weight the effort alone is asked
abbrev pub cause_text : AnswerRefused → List ℕ
cause_text (refused.Overflow o) = overflow_text 0 o.weight
cause_text (refused.TooLong effort) = too_long_text effort
cause_text refused.NodeLimit = nodes_over_limit_text NODE_LIMIT
cause_text refused.Memory = []

-- the report on an outcome
abbrev pub outcome_text : Problem → Outcome → List ℕ
outcome_text problem (Answered answer nodes) = exact_report_of problem.net problem.bounds (length problem.vector) answer nodes
outcome_text problem (Open cause) = cause_text cause

-- the lines behind a test that isn't ok: what is expected, and what became of it
abbrev pub diagnostics : Problem → Policy → Outcome → List ℕ
diagnostics problem policy outcome =
    codes "# line " ++ decimal policy.line ++ codes ": " ++ word_shown policy.word ++ codes " is expected\n" ++ commented true (outcome_text problem outcome)

-- a policy's own test line
abbrev pub policy_line : List ℕ → ℕ → Policy → List ℕ
policy_line word number policy = test_line word number (called policy.line (string_bytes policy.name))

-- the lines of a policy with its number, by whether it is as expected
abbrev pub lines_by : Fulfilment → Problem → ℕ → Policy → Outcome → List ℕ
lines_by fulfilment.AsExpected problem number policy outcome = policy_line (codes "ok ") number policy
lines_by _ problem number policy outcome = policy_line (codes "not ok ") number policy ++ diagnostics problem policy outcome

abbrev pub policy_text : Problem → ℕ → Policy → Outcome → List ℕ
policy_text problem number policy outcome = lines_by (fulfilment_of policy.word outcome) problem number policy outcome

-- a policy was asked, and this is its test
pub record IsAudited (net : Net) (given : Bounds) (number : ℕ) (policy : Policy) (test : Test) : Type 0 where
  pub problem : Problem
  pub outcome : Outcome
  pub asked : IsAskedFor net given policy problem outcome
  pub text_is : test.text ≡ policy_text problem number policy outcome
  pub fulfilment_is : test.fulfilment ≡ fulfilment_of policy.word outcome
