-- Things that are tested one after the other: what is put of them, and with what status that ends; or how far it went, where it is broken
-- off. Old and new are the sink before and after.
use Rattle.std.specs.Prelude.{◌≡◌, ◌⊎◌, ℕ, ◌+◌, ◌<◌, true, List, [], ◌∷◌, ◌++◌, length, map, take}
use Rattle.std.specs.List.{flat_map}
use Rattle.wi_base.specs.Sink.{SinkSeen}
use Rattle.wi_base.specs.declared.sink.PutRefused.{PutRefused}
use Rattle.wi_base.specs.declared.sink.PutRefused.TheVariants.{Failed, Memory}
use Rattle.wi_outcome.specs.Edges.{PutAll, PutNothing, PutPart}
use Rattle.wi_audit.specs.declared.outcome.Fulfilment.{Fulfilment}
use Rattle.wi_audit.specs.declared.outcome.Fulfilment.TheVariants.{AsExpected, Unexpected, Undecided}
use Rattle.wi_audit.specs.declared.series.Test.{Test}
use Rattle.wi_audit.specs.Outcomes.{worst}
use Rattle.wi_audit.specs.Texts.{plan_text}

-- things are tested in order, the first with this number; of those that are tested these are the tests, and the others are left
abbrev pub AreTested : {X : Type 0} → (ℕ → X → Test → Type 0) → ℕ → List X → List Test → List X → Type 0
AreTested IsTest n things [] left = things ≡ left
AreTested IsTest n [] (test ∷ more) left = ⊥
AreTested IsTest n (thing ∷ things) (test ∷ more) left = IsTest n thing test × AreTested IsTest (n + 1) things more left

-- what is put: the lines of each, behind how many tests there are
abbrev pub lines_of : List Test → List ℕ
lines_of tests = flat_map (λ test. test.text) tests

abbrev pub text_of : ℕ → List Test → List ℕ
text_of count tests = plan_text count ++ lines_of tests

-- the exit status: 1 where some answer isn't what is expected, else 2 where some is missing
abbrev pub exit_status : Fulfilment → ℕ
exit_status AsExpected = 0
exit_status Unexpected = 1
exit_status Undecided = 2

abbrev pub status_of : List Test → ℕ
status_of tests = exit_status (worst (map (λ test. test.fulfilment) tests))

-- all things are tested
pub record IsSeries {X : Type 0} (IsTest : ℕ → X → Test → Type 0) (things : List X) (text : List ℕ) (status : ℕ) : Type 0 where
  pub tests : List Test
  pub tested : AreTested IsTest 1 things tests []
  pub text_is : text ≡ text_of (length things) tests
  pub status_is : status ≡ status_of tests

-- behind what stands in front, the put of a test's lines failed: those before it stand, and of these a part
pub record FailsBehind {X : Type 0} (IsTest : ℕ → X → Test → Type 0) (things : List X) (front : List ℕ) (old new : SinkSeen) : Type 0 where
  pub before : List Test
  pub next : Test
  pub left : List X
  pub tested : AreTested IsTest 1 things (before ++ next ∷ []) left
  pub bytes : old.told ≡ true → (n : ℕ) × (new.written ≡ old.written ++ (front ++ lines_of before ++ take n next.text))
  pub fault : old.faults < new.faults

-- memory ran out behind some tests, whose lines stand
pub record StopsBehind {X : Type 0} (IsTest : ℕ → X → Test → Type 0) (things : List X) (front : List ℕ) (old new : SinkSeen) : Type 0 where
  pub tests : List Test
  pub left : List X
  pub tested : AreTested IsTest 1 things tests left
  pub put : PutAll (front ++ lines_of tests) old new

-- not all is put: the call failed that was to put the plan, or some lines; or memory ran out
abbrev pub IsBrokenOff : {X : Type 0} → (ℕ → X → Test → Type 0) → List X → PutRefused → SinkSeen → SinkSeen → Type 0
IsBrokenOff IsTest things Failed old new = PutPart (plan_text (length things)) old new ⊎ FailsBehind IsTest things (plan_text (length things)) old new
IsBrokenOff IsTest things Memory old new = PutNothing old new ⊎ StopsBehind IsTest things (plan_text (length things)) old new
