-- What is known of policies that are asked for many outages, and what can be taken out.
use Rattle.std.specs.Prelude.{◌≡◌, Bool, true, List, [], string_bytes}
use Rattle.wi_net.specs.declared.parts.LinkId.{LinkId}
use Rattle.wi_net.specs.declared.bounds.Bounds.{Bounds}
use Rattle.wi_net.specs.Net.{Net, widened}
use Rattle.wi_query.specs.declared.query.Query.{Query}
use Rattle.wi_build.specs.Problems.{Problem, IsProblem, problem_of}
use Rattle.wi_policy.specs.declared.policy.Policy.{Policy}
use Rattle.wi_policy.specs.Policies.{IsAsked}
use Rattle.wi_outage.specs.Outages.{IsGroup}
use Rattle.wi_settle.specs.Findings.{IsSettled}
use Rattle.wi_audit.specs.declared.question.Question.{Question}

-- a question's bounds, and what is known of it
pub record IsKnown (problem : Problem) (question : Question) : Type 0 where
  pub problem_is : IsProblem problem
  pub bounds_is : question.bounds ≡ problem.bounds
  pub settled : IsSettled problem question.settled

-- the question of a policy
pub record IsQuestion (net : Net) (given : Bounds) (policy : Policy) (question : Question) : Type 0 where
  pub query : Query
  pub asked : IsAsked net given (string_bytes policy.query) query
  pub known : IsKnown (problem_of net query []) question

-- what is taken out at once: whole risk groups, a single one where that is said
pub record IsTaken (net : Net) (single : Bool) (links : List LinkId) : Type 0 where
  pub union : widened net links ≡ links
  pub group : single ≡ true → IsGroup net links
