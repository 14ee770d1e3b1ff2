-- Frontiers: candidates on a heap, and the lightest weight that was offered for each summary.
use Rattle.std.specs.Prelude.{◌≡◌, ℕ, ◌⊎◌, List, Some}
use Rattle.std.specs.List.{Contains}
use Rattle.wi_weight.specs.Weights.{Scale}
use Rattle.wi_saturate.specs.declared.heap.Candidate.{Candidate}
use Rattle.wi_saturate.specs.declared.frontier.Frontier.{Frontier}
use Rattle.wi_saturate.specs.private.Lightest.{weight_at, Covers, Lightens}

-- A candidate of a head was offered: it is on the heap now, or one that is as light was offered before.
pub record Offers {W : Type 0} (m : Scale) (c : W → List ℕ) (head : ℕ) (t : Candidate W) (old new : Frontier W) : Type 0 where
  pub covers : Covers m c new.offered head t.q (c t.weight)
  pub keeps : (x : Candidate W) → Contains old.heap x → Contains new.heap x
  pub only : (x : Candidate W) → Contains new.heap x → Contains old.heap x ⊎ (t ≡ x)
  pub lightens : Lightens m c old.offered new.offered
  -- a weight that is new is the candidate's, which is on the heap
  pub held : (place q : ℕ) (x : W) → weight_at new.offered place q ≡ Some x → (weight_at old.offered place q ≡ Some x) ⊎ ((place ≡ head) × (q ≡ t.q) × (x ≡ t.weight) × Contains new.heap t)
