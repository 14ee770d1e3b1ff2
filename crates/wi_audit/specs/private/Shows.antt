-- Outcomes that can be shown, and what is told of one.
use Rattle.std.specs.Prelude.{◌≡◌, ℕ, Bool, List, [], codes, if◌then◌else◌, IfSome}
use Rattle.wi_net.specs.Net.{Net}
use Rattle.wi_build.specs.Problems.{Problem, IsProblem}
use Rattle.wi_report.specs.Reports.{IsKnownRun}
use Rattle.wi_policy.specs.declared.policy.Policy.{Policy}
use Rattle.wi_audit.specs.declared.outcome.Outcome.{Outcome}
use Rattle.wi_audit.specs.declared.outcome.Outcome.TheVariants.{Answered, Open}
use Rattle.wi_audit.specs.declared.series.Test.{Test}
use Rattle.wi_audit.specs.Outcomes.{IsOutcome, fulfilment_of}
use Rattle.wi_audit.specs.Texts.{policy_text}

-- where a run is shown, it sets out on a link and with labels of the network
abbrev pub IsShowable : Net → Outcome → Type 0
IsShowable net (Answered answer nodes) = IfSome answer.run (IsKnownRun net)
IsShowable net (Open cause) = Unit {0}

-- what stands before a byte of a comment, by whether a line begins there
abbrev pub mark : Bool → List ℕ
mark begins = if begins then codes "# " else []

-- a problem has an outcome, and these are the lines of a policy with it
pub record IsToldOf (problem : Problem) (number : ℕ) (policy : Policy) (test : Test) : Type 0 where
  pub problem_is : IsProblem problem
  pub outcome : Outcome
  pub holds : IsOutcome problem outcome
  pub text_is : test.text ≡ policy_text problem number policy outcome
  pub fulfilment_is : test.fulfilment ≡ fulfilment_of policy.word outcome
