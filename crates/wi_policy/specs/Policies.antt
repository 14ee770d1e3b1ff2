-- The policies that a file has over a network, where some links are given as down or up; or the first line that has a fault.
use Rattle.std.specs.Prelude.{◌≡◌, ◌⊎◌, ℕ, ◌+◌, true, false, List, [], ◌∷◌, ◌++◌, length, string_bytes, Option, Some, None}
use Rattle.std.specs.List.{find}
use Rattle.std.specs.Str.{IsUtf8}
use Rattle.wi_text.specs.Lines.{AreLines, lines_bytes}
use Rattle.wi_net.specs.declared.parts.LinkId.{LinkId}
use Rattle.wi_net.specs.declared.bounds.Bounds.{Bounds}
use Rattle.wi_net.specs.LinkSet.{has}
use Rattle.wi_net.specs.Net.{Net}
use Rattle.wi_net.specs.RiskGroups.{union}
use Rattle.wi_query.specs.declared.query.Query.{Query}
use Rattle.wi_query.specs.declared.fault.QueryFault.TheVariants as query
use Rattle.wi_query.specs.declared.strict.StrictFault.TheVariants as strict
use Rattle.wi_query.specs.Linked.{IsStrictQuery, IsStrictFault}
use Rattle.wi_policy.specs.declared.policy.Policy.{Policy}
use Rattle.wi_policy.specs.declared.policy.LineFault.{LineFault}
use Rattle.wi_policy.specs.declared.policy.LineFault.TheVariants.{NotAPolicy, InQuery, DownAndUp}
use Rattle.wi_policy.specs.declared.policy.PoliciesRefused.{PoliciesRefused}
use Rattle.wi_policy.specs.declared.policy.PoliciesRefused.TheVariants.{AtLine, NoPolicy, Memory}
use Rattle.wi_policy.specs.Line.{Statement, says_nothing, statement_in}

-- bounds with the links that are given as down and up besides
abbrev pub joined : Bounds → Bounds → Bounds
joined bounds given = record { k = bounds.k; down = union bounds.down given.down; up = union bounds.up given.up }

-- the least link that is both down and up then
abbrev pub torn : Bounds → Option LinkId
torn bounds = find (λ e. has bounds.up e) bounds.down

-- a line says something, which is this
pub record Says (line : List ℕ) (s : Statement) : Type 0 where
  pub utf8 : IsUtf8 line
  pub says : says_nothing line ≡ false
  pub form : statement_in line ≡ Some s

-- a text is a query whose pairs mean links, and no link is both down and up within its bounds and the given ones
pub record IsAskable (net : Net) (given : Bounds) (text : List ℕ) (query : Query) : Type 0 where
  pub reads : IsStrictQuery net text query
  pub whole : torn (joined query.bounds given) ≡ None

-- a policy is what the line of a number says
pub record IsPolicy (net : Net) (given : Bounds) (n : ℕ) (line : List ℕ) (policy : Policy) : Type 0 where
  pub statement : Statement
  pub says : Says line statement
  pub number : policy.line ≡ n
  pub word : policy.word ≡ statement.word
  pub name : string_bytes policy.name ≡ statement.name
  pub text : string_bytes policy.query ≡ statement.query
  pub query : Query
  pub askable : IsAskable net given statement.query query

-- a line says nothing
abbrev pub SaysNothing : List ℕ → Type 0
SaysNothing line = IsUtf8 line × (says_nothing line ≡ true)

-- the policies of lines, the first of which has this number
abbrev pub ArePolicies : Net → Bounds → ℕ → List (List ℕ) → List Policy → Type 0
ArePolicies net given n [] [] = Unit {0}
ArePolicies net given n [] (policy ∷ policies) = ⊥
ArePolicies net given n (line ∷ lines) [] = SaysNothing line × ArePolicies net given (n + 1) lines []
ArePolicies net given n (line ∷ lines) (policy ∷ policies) =
    (SaysNothing line × ArePolicies net given (n + 1) lines (policy ∷ policies)) ⊎ (IsPolicy net given n line policy × ArePolicies net given (n + 1) lines policies)

-- the lines of a file. Its last one may lack its line feed, so one is set behind it: an empty line says nothing
pub record HasLines (bytes : List ℕ) (lines : List (List ℕ)) : Type 0 where
  pub each : AreLines lines
  pub whole : bytes ++ 10 ∷ [] ≡ lines_bytes lines

-- a file has these policies
pub record HasPolicies (net : Net) (given : Bounds) (bytes : List ℕ) (policies : List Policy) : Type 0 where
  pub lines : List (List ℕ)
  pub cut : HasLines bytes lines
  pub says : ArePolicies net given 1 lines policies

-- a line has this fault
abbrev pub IsLineFault : Net → Bounds → List ℕ → LineFault → Type 0
IsLineFault net given line NotAPolicy = (IsUtf8 line → ⊥) ⊎ ((says_nothing line ≡ false) × (statement_in line ≡ None))
IsLineFault net given line (InQuery fault) = (s : Statement) × Says line s × (fault ≡ strict.InQuery query.Memory → ⊥) × IsStrictFault net s.query fault
IsLineFault net given line (DownAndUp e) = (s : Statement) × Says line s × ((query : Query) × IsStrictQuery net s.query query × (torn (joined query.bounds given) ≡ Some e))

-- the line of a number is the first that has a fault, which is this
pub record IsAtLine (net : Net) (given : Bounds) (bytes : List ℕ) (n : ℕ) (fault : LineFault) : Type 0 where
  pub before : List (List ℕ)
  pub line : List ℕ
  pub after : List (List ℕ)
  pub cut : HasLines bytes (before ++ line ∷ after)
  pub policies : List Policy
  pub fine : ArePolicies net given 1 before policies
  pub number : n ≡ length before + 1
  pub has : IsLineFault net given line fault

-- why a file has no policies
abbrev pub HasNoPolicies : Net → Bounds → List ℕ → PoliciesRefused → Type 0
HasNoPolicies net given bytes (AtLine n fault) = IsAtLine net given bytes n fault
HasNoPolicies net given bytes NoPolicy = HasPolicies net given bytes []
HasNoPolicies net given bytes Memory = Unit {0}

-- a query that is asked of the network: that of a text, within its bounds and the given ones
pub record IsAsked (net : Net) (given : Bounds) (text : List ℕ) (asked : Query) : Type 0 where
  pub query : Query
  pub askable : IsAskable net given text query
  pub is : asked ≡ record query { bounds = joined query.bounds given }
