-- What the program holds of a line, and what it finds out of its query.
use Rattle.std.specs.Prelude.{◌≡◌, Bool, true, false, ℕ, List, ◌++◌, replicate, Option, Some, None}
use Rattle.wi_net.specs.declared.bounds.Bounds.{Bounds}
use Rattle.wi_net.specs.Net.{Net}
use Rattle.wi_query.specs.declared.query.Query.{Query}
use Rattle.wi_query.specs.declared.fault.QueryFault.TheVariants as query
use Rattle.wi_query.specs.declared.strict.StrictFault.{StrictFault}
use Rattle.wi_query.specs.declared.strict.StrictFault.TheVariants as strict
use Rattle.wi_query.specs.Linked.{IsStrictQuery, IsStrictFault}
use Rattle.wi_policy.specs.declared.line.Said.{Said}
use Rattle.wi_policy.specs.declared.policy.LineFault.{LineFault}
use Rattle.wi_policy.specs.declared.policy.LineFault.TheVariants.{NotAPolicy, InQuery, DownAndUp}
use Rattle.wi_policy.specs.Line.{Statement}
use Rattle.wi_policy.specs.Policies.{joined, torn, IsAskable}

-- what is said, with its query moved behind spaces to where it stands
abbrev pub statement_said : Said → Statement
statement_said s = record { word = s.word; name = s.name.now; query = replicate s.before 32 ++ s.query.now }

-- a query within its bounds and the given ones
abbrev pub within_given : Bounds → Query → Query
within_given given q = record q { bounds = joined q.bounds given }

-- memory was wanting
abbrev pub is_want : StrictFault → Bool
is_want (strict.InQuery query.Memory) = true
is_want fault = false

-- what is wrong with the text of a query, if something is
abbrev pub IsWrong : Net → Bounds → List ℕ → Option LineFault → Type 0
IsWrong net given text None = (query : Query) × IsAskable net given text query
IsWrong net given text (Some NotAPolicy) = ⊥
IsWrong net given text (Some (InQuery fault)) = (is_want fault ≡ false) × IsStrictFault net text fault
IsWrong net given text (Some (DownAndUp e)) = (query : Query) × IsStrictQuery net text query × (torn (joined query.bounds given) ≡ Some e)
