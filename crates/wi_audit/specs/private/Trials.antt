-- Outages that can be tried, and what a search finds of a policy in one.
use Rattle.std.specs.Prelude.{◌≡◌, ◌<◌, Bool, true, List, [], length, string_bytes}
use Rattle.std.specs.List.{AllZip, list_all}
use Rattle.std.specs.Option.{IfSome}
use Rattle.wi_net.specs.declared.parts.LinkId.{LinkId}
use Rattle.wi_net.specs.declared.bounds.Bounds.{Bounds}
use Rattle.wi_net.specs.Net.{Net, is_link}
use Rattle.wi_query.specs.declared.query.Query.{Query}
use Rattle.wi_build.specs.Problems.{Problem, IsProblem, problem_of}
use Rattle.wi_policy.specs.declared.policy.Policy.{Policy}
use Rattle.wi_policy.specs.Policies.{IsAsked}
use Rattle.wi_outage.specs.declared.outage.Outage.{Outage}
use Rattle.wi_settle.specs.declared.found.Found.{Found}
use Rattle.wi_settle.specs.Findings.{AskAlike, IsFound, IsSettled, Settling, during}
use Rattle.wi_audit.specs.declared.question.Question.{Question}
use Rattle.wi_audit.specs.Questions.{IsQuestion, IsTaken}

-- what is down is the network's
pub record IsShown (net : Net) (outage : Outage) : Type 0 where
  pub links : list_all (is_link net) outage.links ≡ true
  pub router : IfSome outage.router (λ r. r.0 < length net.routers)

-- an outage that can be tried and told of; it is a single risk group where that is said
pub record IsTrial (net : Net) (single : Bool) (outage : Outage) : Type 0 where
  pub taken : IsTaken net single outage.links
  pub shown : IsShown net outage

-- what is found of a policy's query, as it was read, and taken in to what is known of another reading of it
pub record IsFoundIn (net : Net) (given : Bounds) (links : List LinkId) (policy : Policy) (old new : Settling) (found : Found) : Type 0 where
  pub query : Query
  pub asked : IsAsked net given (string_bytes policy.query) query
  pub problem_is : IsProblem (problem_of net query [])
  pub is : IsFound (during (problem_of net query []) links) found
  pub known : (problem : Problem) → AskAlike problem (problem_of net query []) → IsSettled problem old → IsSettled problem new

-- each policy has its question
abbrev pub AreQuestions : Net → Bounds → List Policy → List Question → Type 0
AreQuestions net given policies questions = AllZip (IsQuestion net given) policies questions
