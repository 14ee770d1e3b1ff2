-- From a policy's lines to what they are lines of.
use Rattle.std.proofs.Common.{◌≡◌, ℕ, [], Result, Ok, Err}
use Rattle.std.specs.Prelude.{string_bytes, IfOk}
use Rattle.wi_base.specs.declared.no_memory.NoMemory.{NoMemory}
use Rattle.wi_net.specs.declared.bounds.Bounds.{Bounds}
use Rattle.wi_net.specs.Net.{Net}
use Rattle.wi_query.specs.declared.query.Query.{Query}
use Rattle.wi_build.specs.Problems.{Problem, problem_of}
use Rattle.wi_policy.specs.declared.policy.Policy.{Policy}
use Rattle.wi_policy.specs.Policies.{IsAsked}
use Rattle.wi_audit.specs.declared.series.Test.{Test}
use Rattle.wi_audit.specs.Texts.{IsAudited}
use Rattle.wi_audit.specs.private.Shows.{IsToldOf}

-- what is told of the problem that a policy asks is told of the policy
pub told_audited : (r : Result Test NoMemory) (net : Net) (given : Bounds) (number : ℕ) (policy : Policy) (query : Query) (problem : Problem) → IsAsked net given (string_bytes policy.query) query → problem ≡ problem_of net query []
    → IfOk r (IsToldOf problem number policy) → IfOk r (IsAudited net given number policy)
told_audited (Err e) net given number policy query problem asked is told = tt
told_audited (Ok a) net given number policy query problem asked is told = record {
  problem = problem;
  outcome = told.outcome;
  asked = record { query = query; asked = asked; is = is; problem_is = told.problem_is; holds = told.holds };
  text_is = told.text_is;
  fulfilment_is = told.fulfilment_is;
}
