-- Each policy of a file can be asked.
use Rattle.std.proofs.Common.{◌≡◌, ℕ, zero, suc, ◌+◌, List, [], ◌∷◌, Some, inl, inr, slice_get, subst}
use Rattle.std.specs.Prelude.{string_bytes}
use Rattle.wi_net.specs.declared.bounds.Bounds.{Bounds}
use Rattle.wi_net.specs.Net.{Net}
use Rattle.wi_query.specs.declared.query.Query.{Query}
use Rattle.wi_policy.specs.declared.policy.Policy.{Policy}
use Rattle.wi_policy.specs.Policies.{ArePolicies, HasPolicies, IsAskable, IsPolicy}

-- its query is one of the network, within its bounds and the given ones
abbrev pub CanBeAsked : Net → Bounds → Policy → Type 0
CanBeAsked net given policy = (query : Query) × IsAskable net given (string_bytes policy.query) query

line_asked : (net : Net) (given : Bounds) (n : ℕ) (line : List ℕ) (policy : Policy) → IsPolicy net given n line policy → CanBeAsked net given policy
line_asked net given n line policy is = (is.query, rw is.text is.askable)

each_of : (net : Net) (given : Bounds) (n : ℕ) (lines : List (List ℕ)) (policies : List Policy) (i : ℕ) (policy : Policy) → ArePolicies net given n lines policies → slice_get policies i ≡ Some policy → CanBeAsked net given policy
each_of net given n [] [] i policy are is = cc
each_of net given n [] (first ∷ more) i policy are is = absurd are
each_of net given n (line ∷ lines) [] i policy are is = cc
each_of net given n (line ∷ lines) (first ∷ more) zero policy are is = elim are [
  | inl nothing ↦ each_of net given (n + 1) lines (first ∷ more) zero policy nothing.1 is
  | inr says ↦ (let same : first ≡ policy = cc in subst (CanBeAsked net given) same (line_asked net given n line first says.0))
]
each_of net given n (line ∷ lines) (first ∷ more) (suc i) policy are is = elim are [
  | inl nothing ↦ each_of net given (n + 1) lines (first ∷ more) (suc i) policy nothing.1 is
  | inr says ↦ each_of net given (n + 1) lines more i policy says.1 is
]

pub each_asked : (net : Net) (given : Bounds) (bytes : List ℕ) (policies : List Policy) (i : ℕ) (policy : Policy) → HasPolicies net given bytes policies → slice_get policies i ≡ Some policy → CanBeAsked net given policy
each_asked net given bytes policies i policy has is = each_of net given 1 has.lines policies i policy has.says is
