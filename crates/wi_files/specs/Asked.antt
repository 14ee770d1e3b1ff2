-- What texts ask of a network, and what is wrong with texts.
use Rattle.std.specs.Prelude.{◌≡◌, ◌⊎◌, ℕ, List, [], Option, Some, None}
use Rattle.wi_net.specs.Net.{Net}
use Rattle.wi_net.specs.Network.{IsNetwork}
use Rattle.wi_query.specs.declared.query.Query.{Query}
use Rattle.wi_query.specs.declared.fault.QueryFault.{QueryFault}
use Rattle.wi_query.specs.declared.fault.QueryFault.TheVariants as query_fault
use Rattle.wi_query.specs.Meaning.{IsQuery}
use Rattle.wi_query.specs.Faults.{IsFault as IsQueryFault}
use Rattle.wi_quantity.specs.declared.vector.Part.{Part}
use Rattle.wi_quantity.specs.declared.fault.WeightFault.TheVariants as weight_fault
use Rattle.wi_quantity.specs.Faults.{Means, IsFault as IsWeightsFault}
use Rattle.wi_faults.specs.QueryFaults.{query_fault_text}
use Rattle.wi_outcome.specs.declared.refusal.Refusal.{Refusal}
use Rattle.wi_outcome.specs.declared.refusal.Refusal.TheVariants.{Memory, Query as BadQuery, Weights as BadWeights}

-- what runs are weighed by: what the weights mean, or the effort alone where there are none
abbrev pub WeighsBy : Option (List ℕ) → List (List Part) → Type 0
WeighsBy None vector = vector ≡ []
WeighsBy (Some text) vector = Means text vector

-- texts are this query of the network, and these weights
pub record IsAsked (net : Net) (text : List ℕ) (weights : Option (List ℕ)) (query : Query) (vector : List (List Part)) : Type 0 where
  pub network : IsNetwork net
  pub reads : IsQuery net text query
  pub weighs : WeighsBy weights vector

-- ---- faults
-- the text has this first fault as a query, and this is said of it
pub record QueryHasFault (net : Net) (text said : List ℕ) : Type 0 where
  pub fault : QueryFault
  pub first : IsQueryFault net text fault
  pub due : fault ≡ query_fault.Memory → ⊥
  pub said_is : said ≡ query_fault_text net fault

-- the text of the query is the cause
abbrev pub IsBadQuery : Net → List ℕ → Refusal → Type 0
IsBadQuery net text (BadQuery said) = QueryHasFault net text said
IsBadQuery net text Memory = Unit {0}
IsBadQuery net text refusal = ⊥

-- the text of the weights is the cause
abbrev pub IsBadWeights : Option (List ℕ) → Refusal → Type 0
IsBadWeights weights (BadWeights fault) = (text : List ℕ) × (weights ≡ Some text) × (fault ≡ weight_fault.Memory → ⊥) × IsWeightsFault text fault
IsBadWeights weights Memory = Unit {0}
IsBadWeights weights refusal = ⊥

-- the text of the query is the cause; or, that being a query, the text of the weights
abbrev pub AreBadTexts : Net → List ℕ → Option (List ℕ) → Refusal → Type 0
AreBadTexts net text weights refusal = IsBadQuery net text refusal ⊎ ((query : Query) × IsQuery net text query × IsBadWeights weights refusal)
