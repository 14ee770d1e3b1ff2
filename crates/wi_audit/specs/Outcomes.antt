-- What becomes of a policy that is asked, and whether that is what it expects.
use Rattle.std.specs.Prelude.{◌≡◌, Bool, true, false, if◌then◌else◌, List, [], string_bytes}
use Rattle.std.specs.List.{list_any}
use Rattle.wi_net.specs.declared.bounds.Bounds.{Bounds}
use Rattle.wi_net.specs.Net.{Net}
use Rattle.wi_world.specs.declared.answer.Word.{Word}
use Rattle.wi_world.specs.declared.answer.Word.TheVariants.{Yes, No, Inconclusive}
use Rattle.wi_query.specs.declared.query.Query.{Query}
use Rattle.wi_build.specs.Problems.{Problem, IsProblem, problem_of}
use Rattle.wi_cert.specs.declared.tree.TheConstants.{NODE_LIMIT}
use Rattle.wi_branch.specs.declared.refused.AnswerRefused.TheVariants as refused
use Rattle.wi_branch.specs.Exactly.{IsAnswerRefused, IsAnsweredExactly}
use Rattle.wi_policy.specs.declared.policy.Policy.{Policy}
use Rattle.wi_policy.specs.Policies.{IsAsked}
use Rattle.wi_audit.specs.declared.outcome.Outcome.{Outcome}
use Rattle.wi_audit.specs.declared.outcome.Outcome.TheVariants.{Answered, Open}
use Rattle.wi_audit.specs.declared.outcome.Fulfilment.{Fulfilment}
use Rattle.wi_audit.specs.declared.outcome.Fulfilment.TheVariants as fulfilment

-- the exact answer to a problem, by a tree of so many nodes, at most 10,000; or why there is none
abbrev pub IsOutcome : Problem → Outcome → Type 0
IsOutcome problem (Answered answer nodes) = IsAnsweredExactly problem NODE_LIMIT answer nodes
IsOutcome problem (Open cause) = (cause ≡ refused.Memory → ⊥) × IsAnswerRefused problem NODE_LIMIT cause

-- two words are one
abbrev pub same_word : Word → Word → Bool
same_word Yes Yes = true
same_word No No = true
same_word Inconclusive Inconclusive = true
same_word a b = false

-- whether an outcome is what a policy with this word expects
abbrev pub fulfilment_of : Word → Outcome → Fulfilment
fulfilment_of word (Open cause) = fulfilment.Undecided
fulfilment_of word (Answered answer nodes) = if same_word answer.word word then fulfilment.AsExpected else fulfilment.Unexpected

-- the problem that a policy asks of a network within its bounds and the given ones, and its outcome
pub record IsAskedFor (net : Net) (given : Bounds) (policy : Policy) (problem : Problem) (outcome : Outcome) : Type 0 where
  pub query : Query
  pub asked : IsAsked net given (string_bytes policy.query) query
  pub is : problem ≡ problem_of net query []
  pub problem_is : IsProblem problem
  pub holds : IsOutcome problem outcome

-- the answer isn't what is expected; or there is none
abbrev pub is_unexpected : Fulfilment → Bool
is_unexpected fulfilment.Unexpected = true
is_unexpected f = false

abbrev pub is_undecided : Fulfilment → Bool
is_undecided fulfilment.Undecided = true
is_undecided f = false

-- the worst of some: an answer that isn't what is expected, else one that is missing
abbrev pub worst : List Fulfilment → Fulfilment
worst fulfilments =
    if list_any is_unexpected fulfilments then fulfilment.Unexpected
    else if list_any is_undecided fulfilments then fulfilment.Undecided
    else fulfilment.AsExpected
