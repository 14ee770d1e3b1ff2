-- Where a search stands: what its candidates are, and that none is missing.
use Rattle.std.specs.Prelude.{◌≡◌, ℕ, ◌≤◌, ◌⊎◌, List, ◌++◌, ◌∷◌, [], length, Some, slice_get}
use Rattle.std.specs.List.{Contains, sum_by}
use Rattle.wi_saturate.specs.private.Tries.{of_head, all_begun}
use Rattle.wi_weight.specs.Weights.{Scale, plus}
use Rattle.wi_pds.specs.declared.rule.Word2.{Word2}
use Rattle.wi_pds.specs.declared.rule.Word2.TheVariants.{Empty, One, Two}
use Rattle.wi_saturate.specs.declared.row.Row.{Row}
use Rattle.wi_saturate.specs.declared.heap.Candidate.{Candidate}
use Rattle.wi_saturate.specs.declared.rules.Ruled.{Ruled}
use Rattle.wi_saturate.specs.declared.waits.Wait.{Wait}
use Rattle.wi_saturate.specs.declared.waits.Waits.{Waits}
use Rattle.wi_saturate.specs.declared.search.Search.{Search}
use Rattle.wi_saturate.specs.private.Chains.{ChainsView}
use Rattle.wi_saturate.specs.Rows.{Settled}
use Rattle.wi_saturate.specs.private.Candidates.{IsRowBy}
use Rattle.wi_saturate.specs.private.Lightest.{Noted, weight_at, Covers, Lightens}
use Rattle.wi_saturate.specs.declared.frontier.Frontier.{Frontier}

-- the rows are for the symbols u and v that a rule writes which goes to a state
abbrev pub ArePair : {W : Type 0} → ℕ → ℕ → ℕ → Row W → Row W → Type 0
ArePair to u v r s = (r.p ≡ to) × (r.g ≡ u) × (s.p ≡ r.q) × (s.g ≡ v)

-- q is where the rows at the places end, which are for the symbols that a rule writes, and w the sum of its weight and theirs
abbrev pub IsSum : {W : Type 0} → (W → List ℕ) → List (Row W) → ℕ → List ℕ → Word2 → ℕ → ℕ → ℕ → List ℕ → Type 0
IsSum c rows to x Empty i j q w = (q ≡ to) × (w ≡ x)
IsSum {W} c rows to x (One u) i j q w = (r : Row W) × (slice_get rows i ≡ Some r) × (r.p ≡ to) × (r.g ≡ u) × (q ≡ r.q) × (w ≡ plus x (c r.weight))
IsSum {W} c rows to x (Two u v) i j q w =
    (r s : Row W) × (slice_get rows i ≡ Some r) × (slice_get rows j ≡ Some s) × ArePair to u v r s × (q ≡ s.q) × (w ≡ plus (plus x (c r.weight)) (c s.weight))

-- the candidate is of a rule and of rows for what it writes
abbrev pub IsSound : {W : Type 0} → (W → List ℕ) → List (Ruled W) → List (Row W) → Candidate W → Type 0
IsSound {W} c flat rows t = (f : Ruled W) × (slice_get flat t.rule ≡ Some f) × IsSum c rows f.rule.to (c f.rule.weight) f.rule.word t.left t.right t.q (c t.weight)

-- a candidate of this weight for a summary is on the heap
abbrev pub IsHeld : {W : Type 0} → List (Ruled W) → List (Candidate W) → ℕ → ℕ → W → Type 0
IsHeld {W} flat heap head q x = (t : Candidate W) × (f : Ruled W) × Contains heap t × (slice_get flat t.rule ≡ Some f) × (f.head ≡ head) × (t.q ≡ q) × (t.weight ≡ x)

-- Sound candidates were offered.
pub record Adds {W : Type 0} (m : Scale) (c : W → List ℕ) (flat : List (Ruled W)) (rows : List (Row W)) (old new : Frontier W) : Type 0 where
  pub keeps : (t : Candidate W) → Contains old.heap t → Contains new.heap t
  pub sound : (t : Candidate W) → Contains new.heap t → Contains old.heap t ⊎ IsSound c flat rows t
  pub lightens : Lightens m c old.offered new.offered
  -- a weight that is new is that of a candidate on the heap
  pub held : (head q : ℕ) (x : W) → weight_at new.offered head q ≡ Some x → (weight_at old.offered head q ≡ Some x) ⊎ IsHeld flat new.heap head q x

-- the rule at the place writes one symbol, and the row at place i is for it
abbrev pub IsOne : {W : Type 0} → List (Ruled W) → List (Row W) → ℕ → ℕ → Type 0
IsOne {W} flat rows k i =
    (f : Ruled W) × (r : Row W) × (u : ℕ) × (slice_get flat k ≡ Some f) × (f.rule.word ≡ One u) × (slice_get rows i ≡ Some r) × (r.p ≡ f.rule.to) × (r.g ≡ u)

-- the rule at the place writes two symbols, and the rows at places i and j are for them
abbrev pub IsTwo : {W : Type 0} → List (Ruled W) → List (Row W) → ℕ → ℕ → ℕ → Type 0
IsTwo {W} flat rows k i j =
    (f : Ruled W) × (r s : Row W) × (u v : ℕ) × (slice_get flat k ≡ Some f) × (f.rule.word ≡ Two u v) × (slice_get rows i ≡ Some r) × (slice_get rows j ≡ Some s)
    × ArePair f.rule.to u v r s

-- if the rule writes one symbol and the row is for it, the summary that they make was offered as light
abbrev pub HasOne : {W : Type 0} → Scale → (W → List ℕ) → List (Ruled W) → List (Row W) → Frontier W → ℕ → ℕ → Type 0
HasOne {W} m c flat rows frontier k i =
    (u : ℕ) (f : Ruled W) (r : Row W) → slice_get flat k ≡ Some f → f.rule.word ≡ One u → slice_get rows i ≡ Some r → r.p ≡ f.rule.to → r.g ≡ u
    → Covers m c frontier.offered f.head r.q (plus (c f.rule.weight) (c r.weight))

-- if the rule writes two symbols and the rows are for them, the summary that they make was offered as light
abbrev pub HasTwo : {W : Type 0} → Scale → (W → List ℕ) → List (Ruled W) → List (Row W) → Frontier W → ℕ → ℕ → ℕ → Type 0
HasTwo {W} m c flat rows frontier k i j =
    (u v : ℕ) (f : Ruled W) (r s : Row W) → slice_get flat k ≡ Some f → f.rule.word ≡ Two u v → slice_get rows i ≡ Some r → slice_get rows j ≡ Some s
    → ArePair f.rule.to u v r s → Covers m c frontier.offered f.head s.q (plus (plus (c f.rule.weight) (c r.weight)) (c s.weight))

-- each summary that a rule of a head makes of the rows was offered as light
abbrev pub IsCovered : {W : Type 0} → Scale → (W → List ℕ) → List (Row W) → Frontier W → ℕ → ℕ → List ℕ → Word2 → Type 0
IsCovered m c rows frontier head to x Empty = Covers m c frontier.offered head to x
IsCovered {W} m c rows frontier head to x (One u) =
    (i : ℕ) (r : Row W) → slice_get rows i ≡ Some r → r.p ≡ to → r.g ≡ u → Covers m c frontier.offered head r.q (plus x (c r.weight))
IsCovered {W} m c rows frontier head to x (Two u v) =
    (i j : ℕ) (r s : Row W) → slice_get rows i ≡ Some r → slice_get rows j ≡ Some s → ArePair to u v r s
    → Covers m c frontier.offered head s.q (plus (plus x (c r.weight)) (c s.weight))

-- a summary for which a weight was offered is settled, or a candidate of this weight is on the heap
abbrev pub AreHeld : {W : Type 0} → List (ℕ × ℕ) → List (Ruled W) → List (Row W) → Frontier W → Type 0
AreHeld {W} heads flat settled frontier =
    (head p g q : ℕ) (x : W) → weight_at frontier.offered head q ≡ Some x → slice_get heads head ≡ Some (p, g) → Settled settled p g q ⊎ IsHeld flat frontier.heap head q x

-- each row stands at the place of its head
pub record AreRowPlaces {W : Type 0} (heads : List (ℕ × ℕ)) (rows : List (Row W)) (places : ChainsView) : Type 0 where
  pub room : places.count ≡ length heads
  pub count : length places.places ≡ length rows
  pub each : (i place : ℕ) (r : Row W) → slice_get rows i ≡ Some r → slice_get places.places i ≡ Some place → slice_get heads place ≡ Some (r.p, r.g)

-- a row at the place ends in q
abbrev pub EndsThere : {W : Type 0} → List (Row W) → List ℕ → ℕ → ℕ → Type 0
EndsThere {W} rows places place q = (i : ℕ) × (r : Row W) × (slice_get rows i ≡ Some r) × (slice_get places i ≡ Some place) × (r.q ≡ q)

-- a rule of two symbols with a row for the first waits for rows of the head at the place
abbrev pub IsWait : {W : Type 0} → List (ℕ × ℕ) → List (Ruled W) → List (Row W) → Wait → ℕ → Type 0
IsWait {W} heads flat rows w place =
    (f : Ruled W) × (r : Row W) × (u v : ℕ) × (slice_get flat w.rule ≡ Some f) × (f.rule.word ≡ Two u v) × (slice_get rows w.row ≡ Some r)
    × (r.p ≡ f.rule.to) × (r.g ≡ u) × (slice_get heads place ≡ Some (r.q, v))

-- each of them waits, at its place
pub record AreWaits {W : Type 0} (heads : List (ℕ × ℕ)) (flat : List (Ruled W)) (rows : List (Row W)) (waits : Waits) : Type 0 where
  pub room : waits.places.count ≡ length heads
  pub count : length waits.places.places ≡ length waits.items.items
  pub each : (n place : ℕ) (w : Wait) → slice_get waits.items.items n ≡ Some w → slice_get waits.places.places n ≡ Some place → IsWait heads flat rows w place

-- the row is for the first symbol that a rule writes which goes to a state
abbrev pub IsFirst : {W : Type 0} → ℕ → Word2 → Row W → Type 0
IsFirst to Empty r = Unit {0}
IsFirst to (One u) r = (r.p ≡ to) × (r.g ≡ u)
IsFirst to (Two u v) r = (r.p ≡ to) × (r.g ≡ u)

-- a rule of a head and a row for its first symbol that wait at the place weigh x together
abbrev pub IsHalf : {W : Type 0} → (W → List ℕ) → List (Ruled W) → List (Row W) → Waits → ℕ → ℕ → W → Type 0
IsHalf {W} c flat rows waits head place x =
    (n : ℕ) × (w : Wait) × (f : Ruled W) × (r : Row W) × (slice_get waits.items.items n ≡ Some w) × (slice_get waits.places.places n ≡ Some place)
    × (slice_get flat w.rule ≡ Some f) × (f.head ≡ head) × (slice_get rows w.row ≡ Some r) × (c x ≡ plus (c f.rule.weight) (c r.weight))

-- each weight that is noted at a place is that of what waits there
abbrev pub AreHalves : {W : Type 0} → (W → List ℕ) → List (Ruled W) → List (Row W) → Waits → Noted W → Type 0
AreHalves {W} c flat rows waits halves = (head place : ℕ) (x : W) → weight_at halves head place ≡ Some x → IsHalf c flat rows waits head place x

-- if the rule at place k writes two symbols, and the row at place i is for the first, something as light waits for the second
abbrev pub HasWait : {W : Type 0} → Scale → (W → List ℕ) → List (ℕ × ℕ) → List (Ruled W) → List (Row W) → Noted W → ℕ → ℕ → Type 0
HasWait {W} m c heads flat rows halves k i =
    (u v place : ℕ) (f : Ruled W) (r : Row W) → slice_get flat k ≡ Some f → f.rule.word ≡ Two u v → slice_get rows i ≡ Some r → r.p ≡ f.rule.to → r.g ≡ u
    → slice_get heads place ≡ Some (r.q, v) → Covers m c halves f.head place (plus (c f.rule.weight) (c r.weight))

-- A search over the rows: each candidate is sound, and each summary that isn't settled has a lightest one there.
pub record IsSearch {W : Type 0} (m : Scale) (c : W → List ℕ) (heads : List (ℕ × ℕ)) (flat : List (Ruled W)) (rows settled : List (Row W)) (search : Search W) : Type 0 where
  pub sound : (t : Candidate W) → Contains search.frontier.heap t → IsSound c flat rows t
  pub covered : (k : ℕ) (f : Ruled W) → slice_get flat k ≡ Some f → IsCovered m c rows search.frontier f.head f.rule.to (c f.rule.weight) f.rule.word
  pub held : AreHeld heads flat settled search.frontier
  pub places : AreRowPlaces heads rows search.rows
  pub waits : AreWaits heads flat rows search.waits
  pub halves : AreHalves c flat rows search.waits search.halves
  pub waiting : (k i : ℕ) → HasWait m c heads flat rows search.halves k i
  pub counted : (F : ℕ → ℕ → ℕ) → sum_by (of_head F heads) search.waits.places.places ≤ sum_by (λ f. all_begun F rows f.rule.to f.rule.word) flat

-- b is the row that the candidate makes
pub record IsRowOf {W : Type 0} (m : Scale) (c : W → List ℕ) (heads : List (ℕ × ℕ)) (flat : List (Ruled W)) (rows : List (Row W)) (t : Candidate W) (b : Row W) : Type 0 where
  pub weight : b.weight ≡ t.weight
  pub end : b.q ≡ t.q
  pub by : (f : Ruled W) → slice_get flat t.rule ≡ Some f → (slice_get heads f.head ≡ Some (b.p, b.g)) × IsRowBy m c rows b.p b.g f.at f.rule b

-- if the rule at place k takes its symbol off, what it makes was offered as light
abbrev pub HasPops : {W : Type 0} → Scale → (W → List ℕ) → List (Ruled W) → Frontier W → ℕ → Type 0
HasPops {W} m c flat frontier k = (f : Ruled W) → slice_get flat k ≡ Some f → f.rule.word ≡ Empty → Covers m c frontier.offered f.head f.rule.to (c f.rule.weight)

-- a frontier before any row: what was offered is sound and on the heap
pub record Begins {W : Type 0} (m : Scale) (c : W → List ℕ) (flat : List (Ruled W)) (frontier : Frontier W) : Type 0 where
  pub sound : (t : Candidate W) → Contains frontier.heap t → IsSound c flat [] t
  pub held : (head q : ℕ) (x : W) → weight_at frontier.offered head q ≡ Some x → IsHeld flat frontier.heap head q x

-- a search over the rows before the last one
pub record IsBehind {W : Type 0} (m : Scale) (c : W → List ℕ) (heads : List (ℕ × ℕ)) (flat : List (Ruled W)) (rows : List (Row W)) (last : ℕ) (search : Search W) : Type 0 where
  pub earlier : List (Row W)
  pub row : Row W
  pub pushed : rows ≡ earlier ++ row ∷ []
  pub place : last ≡ length earlier
  pub stands : IsSearch m c heads flat earlier rows search
