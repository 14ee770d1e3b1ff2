-- The rules of all heads in one list, and where each begins.
use Rattle.std.specs.Prelude.{◌≡◌, ℕ, suc, ◌+◌, ◌^◌, ◌⊎◌, List, [], ◌∷◌, ◌++◌, length, Some, slice_get}
use Rattle.std.specs.List.{Contains}
use Rattle.std.specs.List.Sorted.{IsStrictlySortedBy}
use Rattle.wi_weight.specs.Weights.{EachBelow}
use Rattle.wi_pds.specs.Pairs.{pair_cmp}
use Rattle.wi_pds.specs.declared.rule.Word2.{Word2}
use Rattle.wi_pds.specs.declared.rule.Word2.TheVariants.{Empty, One, Two}
use Rattle.wi_pds.specs.declared.rule.Rule.{Rule}
use Rattle.wi_saturate.specs.declared.rules.Ruled.{Ruled}
use Rattle.wi_saturate.specs.declared.index.Index.{Index}
use Rattle.wi_saturate.specs.private.Chains.{ChainsView}

-- the rules of the head at a place, the first of them at place at among its rules
abbrev pub ruled_from : {W : Type 0} → ℕ → ℕ → List (Rule W) → List (Ruled W)
ruled_from head at [] = []
ruled_from head at (r ∷ rs) = record { head = head; at = at; rule = r } ∷ ruled_from head (suc at) rs

-- the rules of the heads, the first of which is at a place
abbrev pub ruled : {W : Type 0} → (ℕ → ℕ → List (Rule W)) → ℕ → List (ℕ × ℕ) → List (Ruled W)
ruled rules head [] = []
ruled rules head (h ∷ hs) = ruled_from head 0 (rules h.0 h.1) ++ ruled rules (suc head) hs

-- the place of the head behind so many others, or the last place of all where it isn't listed
abbrev pub IsPlace : List (ℕ × ℕ) → ℕ → ℕ → ℕ → ℕ → Type 0
IsPlace heads before p g place =
    ((at : ℕ) × (slice_get heads at ≡ Some (p, g)) × (place ≡ at + before)) ⊎ ((place ≡ length heads + length heads) × (Contains heads (p, g) → ⊥))

-- the place of a rule that goes to a state and writes a word: by the head that it leads to, and by how many symbols it writes
abbrev pub BeginsAt : List (ℕ × ℕ) → ℕ → Word2 → ℕ → Type 0
BeginsAt heads to Empty place = place ≡ length heads + length heads
BeginsAt heads to (One u) place = IsPlace heads 0 to u place
BeginsAt heads to (Two u v) place = IsPlace heads (length heads) to u place

-- the places are those of the rules
pub record AreBegins {W : Type 0} (heads : List (ℕ × ℕ)) (flat : List (Ruled W)) (begins : ChainsView) : Type 0 where
  pub room : begins.count ≡ length heads + length heads + 1
  pub count : length begins.places ≡ length flat
  pub each : (k place : ℕ) (f : Ruled W) → slice_get flat k ≡ Some f → slice_get begins.places k ≡ Some place → BeginsAt heads f.rule.to f.rule.word place

-- where each rule begins, and that its weight fits; the heads rise
pub record IsIndexed {W : Type 0} (c : W → List ℕ) (index : Index W) : Type 0 where
  pub begins : AreBegins index.rules.heads index.rules.items index.begins
  pub rise : IsStrictlySortedBy pair_cmp index.rules.heads
  pub small : (k : ℕ) (f : Ruled W) → slice_get index.rules.items k ≡ Some f → EachBelow (2 ^ 64) (c f.rule.weight)

-- the rules of all heads, indexed
pub record IsIndex {W : Type 0} (c : W → List ℕ) (rules : ℕ → ℕ → List (Rule W)) (index : Index W) : Type 0 where
  pub listed : index.rules.items ≡ ruled rules 0 index.rules.heads
  pub indexed : IsIndexed c index
