-- The steps of a series of tests. Old and now are the sink before and after.
use Rattle.std.specs.Prelude.{◌≡◌, ℕ, List, [], drop, length, map, Result, Ok}
use Rattle.wi_base.specs.declared.no_memory.NoMemory.{NoMemory}
use Rattle.wi_base.specs.Sink.{SinkSeen}
use Rattle.wi_base.specs.declared.sink.PutRefused.{PutRefused}
use Rattle.wi_base.specs.declared.sink.PutRefused.TheVariants.{Failed, Memory}
use Rattle.wi_outcome.specs.Edges.{PutAll, PutNothing, PutPart}
use Rattle.wi_audit.specs.declared.outcome.Fulfilment.{Fulfilment}
use Rattle.wi_audit.specs.declared.series.Test.{Test}
use Rattle.wi_audit.specs.Outcomes.{worst}
use Rattle.wi_audit.specs.Series.{AreTested, FailsBehind, StopsBehind, lines_of, status_of}

-- a text isn't put
abbrev pub IsUnput : List ℕ → PutRefused → SinkSeen → SinkSeen → Type 0
IsUnput text Failed old new = PutPart text old new
IsUnput text Memory old new = PutNothing old new

-- a test that was made is put
pub record IsPut (told : Result Test NoMemory) (fulfilment : Fulfilment) (old new : SinkSeen) : Type 0 where
  pub test : Test
  pub made : told ≡ Ok test
  pub fulfilment_is : fulfilment ≡ test.fulfilment
  pub put : PutAll test.text old new

-- or it isn't, or wasn't made
abbrev pub IsNotPut : Result Test NoMemory → PutRefused → SinkSeen → SinkSeen → Type 0
IsNotPut told Failed old new = (test : Test) × (told ≡ Ok test) × PutPart test.text old new
IsNotPut told Memory old new = PutNothing old new

-- behind the plan the first i things are tested, and the others are left; this is the worst of them
pub record IsUnderWay {X : Type 0} (IsTest : ℕ → X → Test → Type 0) (things : List X) (i : ℕ) (fulfilment : Fulfilment) (old now : SinkSeen) : Type 0 where
  pub tests : List Test
  pub count : length tests ≡ i
  pub tested : AreTested IsTest 1 things tests (drop i things)
  pub worst_is : fulfilment ≡ worst (map (λ test. test.fulfilment) tests)
  pub told : now.told ≡ old.told
  pub put : PutAll (lines_of tests) old now

-- behind the plan all things are tested
pub record AreAllPut {X : Type 0} (IsTest : ℕ → X → Test → Type 0) (things : List X) (status : ℕ) (old new : SinkSeen) : Type 0 where
  pub tests : List Test
  pub tested : AreTested IsTest 1 things tests []
  pub status_is : status ≡ status_of tests
  pub put : PutAll (lines_of tests) old new

-- or some are
abbrev pub AreSomePut : {X : Type 0} → (ℕ → X → Test → Type 0) → List X → PutRefused → SinkSeen → SinkSeen → Type 0
AreSomePut IsTest things Failed old new = FailsBehind IsTest things [] old new
AreSomePut IsTest things Memory old new = StopsBehind IsTest things [] old new
