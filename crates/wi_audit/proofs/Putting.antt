-- What stands on a sink, test after test.
use Rattle.std.proofs.Common.{◌≡◌, ◌∙◌, ℕ, ◌+◌, ◌<◌, ◌≤◌, Bool, true, false, ◌||◌, if◌then◌else◌, List, [], ◌∷◌, ◌++◌, length, length-append, append_assoc, map, take, drop, slice_get, Some, Result, Ok, Err, inr, refl, ap, sym, subst, arith}
use Rattle.std.specs.Prelude.{IfErr, IfOk, OnOk}
use Rattle.std.specs.Result.{IsErrAnd}
use Rattle.std.specs.List.{list_any}
use Rattle.std.proofs.lemmas.Grind.{flat_map-append}
use Rattle.std.proofs.lemmas.List.{drop_all, map-append}
use Rattle.std.proofs.lemmas.List.Folds.{list_any-append}
use Rattle.wi_labels.proofs.HeaderLemmas.{drop_at}
use Rattle.wi_base.specs.declared.no_memory.NoMemory.{NoMemory}
use Rattle.wi_base.specs.Sink.{SinkSeen}
use Rattle.wi_base.specs.declared.sink.PutRefused.{PutRefused}
use Rattle.wi_base.specs.declared.sink.PutRefused.TheVariants.{Failed, Memory}
use Rattle.wi_outcome.specs.Edges.{PutAll}
use Rattle.wi_audit.specs.declared.outcome.Fulfilment.{Fulfilment}
use Rattle.wi_audit.specs.declared.outcome.Fulfilment.TheVariants.{AsExpected, Unexpected, Undecided}
use Rattle.wi_audit.specs.declared.series.Test.{Test}
use Rattle.wi_audit.specs.Outcomes.{is_undecided, is_unexpected, worst}
use Rattle.wi_audit.specs.Texts.{plan_text}
use Rattle.wi_audit.specs.Series.{AreTested, IsBrokenOff, IsSeries, exit_status, lines_of, text_of}
use Rattle.wi_audit.specs.private.Puts.{AreAllPut, AreSomePut, IsNotPut, IsPut, IsUnderWay}

-- ---- texts that are put one after the other
both_put : (a b : List ℕ) (old mid new : SinkSeen) → mid.told ≡ old.told → PutAll a old mid → PutAll b mid new → PutAll (a ++ b) old new
both_put a b old mid new told first next = record {
  bytes = λ tells. next.bytes (told ∙ tells) ∙ ap (λ w. w ++ b) (first.bytes tells) ∙ append_assoc old.written a b;
  calm = next.calm ∙ first.calm;
}

-- ---- the worst of some
-- with one more it is the worse of both
pub worst_more : (fs : List Fulfilment) (f : Fulfilment) → worst (worst fs ∷ f ∷ []) ≡ worst (fs ++ f ∷ [])
worst_more fs f = rw (list_any-append is_unexpected fs (f ∷ []), list_any-append is_undecided fs (f ∷ [])) (by_cases (list_any is_unexpected fs) (list_any is_undecided fs) f)
  where
    worst_by : Bool → Bool → Fulfilment
    worst_by u v = if u then Unexpected else if v then Undecided else AsExpected

    by_cases : (u v : Bool) (f : Fulfilment) → worst (worst_by u v ∷ f ∷ []) ≡ worst_by (u || (is_unexpected f || false)) (v || (is_undecided f || false))
    by_cases true v AsExpected = refl
    by_cases true v Unexpected = refl
    by_cases true v Undecided = refl
    by_cases false true AsExpected = refl
    by_cases false true Unexpected = refl
    by_cases false true Undecided = refl
    by_cases false false AsExpected = refl
    by_cases false false Unexpected = refl
    by_cases false false Undecided = refl

-- ---- tests, one after the other
-- what was promised of a test, if it was made
pub made_is : (made : Result Test NoMemory) (P : Test → Type 0) → IfOk made P → (test : Test) → made ≡ Ok test → P test
made_is (Ok made) P promised test is = let same : made ≡ test = cc in subst P same promised
made_is (Err error) P promised test is = cc

numbered : {X : Type 0} (IsTest : ℕ → X → Test → Type 0) (thing : X) (test : Test) (n m : ℕ) → n ≡ m → IsTest n thing test → IsTest m thing test
numbered IsTest thing test n m is = subst (λ (i : ℕ). IsTest i thing test) is

one_more : {X : Type 0} (IsTest : ℕ → X → Test → Type 0) (n : ℕ) (things : List X) (tests : List Test) (thing : X) (left : List X) (next : Test) → AreTested IsTest n things tests (thing ∷ left)
    → IsTest (n + length tests) thing next → AreTested IsTest n things (tests ++ next ∷ []) left
one_more {X} IsTest n things [] thing left next tested is =
    subst (λ (all : List X). AreTested IsTest n all (next ∷ []) left) (sym tested) (numbered IsTest thing next (n + 0) n (omega arith) is, refl)
one_more IsTest n [] (first ∷ tests) thing left next tested is = absurd tested
one_more IsTest n (t ∷ things) (first ∷ tests) thing left next tested is = (
  tested.0,
  one_more IsTest (n + 1) things tests thing left next tested.1 (numbered IsTest thing next (n + length (first ∷ tests)) (n + 1 + length tests) (omega arith) is),
)

-- what was promised where it was made
pub made_on : (made : Result Test NoMemory) (P : Type 0) (test : Test) → OnOk made P → made ≡ Ok test → P
made_on (Ok made) P test promised is = promised
made_on (Err error) P test promised is = cc

nothing_more : (t : List ℕ) → t ≡ t ++ []
nothing_more [] = refl
nothing_more (b ∷ t) = ap (λ r. b ∷ r) (nothing_more t)

lines_more : (tests : List Test) (next : Test) → lines_of tests ++ next.text ≡ lines_of (tests ++ next ∷ [])
lines_more tests next = sym (flat_map-append (λ (test : Test). test.text) tests (next ∷ []) ∙ ap (λ t. lines_of tests ++ t) (sym (nothing_more next.text)))

-- once the plan is put nothing is tested yet
pub under_way : {X : Type 0} (IsTest : ℕ → X → Test → Type 0) (things : List X) (now : SinkSeen) → IsUnderWay IsTest things 0 AsExpected now now
under_way IsTest things now = record {
  tests = [];
  count = refl;
  tested = refl;
  worst_is = refl;
  told = refl;
  put = record { bytes = λ tells. nothing_more now.written; calm = refl };
}

-- the next thing is tested
tested_more : {X : Type 0} (IsTest : ℕ → X → Test → Type 0) (things : List X) (thing : X) (i : ℕ) (fulfilment : Fulfilment) (old now : SinkSeen) (test : Test) → slice_get things i ≡ Some thing → (way : IsUnderWay IsTest things i fulfilment old now)
    → IsTest (i + 1) thing test → AreTested IsTest 1 things (way.tests ++ test ∷ []) (drop (i + 1) things)
tested_more {X} IsTest things thing i fulfilment old now test is way tested =
    let count = way.count in
    one_more IsTest 1 things way.tests thing (drop (i + 1) things) test (subst (λ (left : List X). AreTested IsTest 1 things way.tests left) (drop_at things i thing is) way.tested)
    (numbered IsTest thing test (i + 1) (1 + length way.tests) (omega (arith, count)) tested)

-- and its lines are put
pub goes_on : {X : Type 0} (IsTest : ℕ → X → Test → Type 0) (things : List X) (thing : X) (i : ℕ) (worst_now next : Fulfilment) (made : Result Test NoMemory) (old now new : SinkSeen) → slice_get things i ≡ Some thing → IsUnderWay IsTest things i worst_now old now
    → new.told ≡ now.told → ((test : Test) → made ≡ Ok test → IsTest (i + 1) thing test) → IsPut made next now new → IsUnderWay IsTest things (i + 1) (worst (worst_now ∷ next ∷ [])) old new
goes_on IsTest things thing i worst_now next made old now new is way told tested put = record {
  tests = way.tests ++ put.test ∷ [];
  count = length-append way.tests (put.test ∷ []) ∙ ap (λ n. n + 1) way.count;
  tested = tested_more IsTest things thing i worst_now old now put.test is way (tested put.test put.made);
  worst_is = ap (λ f. worst (f ∷ next ∷ [])) way.worst_is ∙ ap (λ f. worst (worst (map (λ (test : Test). test.fulfilment) way.tests) ∷ f ∷ [])) put.fulfilment_is ∙ worst_more (map (λ (test : Test). test.fulfilment) way.tests) put.test.fulfilment
      ∙ ap worst (sym (map-append (λ (test : Test). test.fulfilment) way.tests (put.test ∷ [])));
  told = told ∙ way.told;
  put = subst (λ t. PutAll t old new) (lines_more way.tests put.test) (both_put (lines_of way.tests) put.test.text old now new way.told way.put put.put);
}

-- all are put
pub all_put : {X : Type 0} (IsTest : ℕ → X → Test → Type 0) (things : List X) (i status : ℕ) (fulfilment : Fulfilment) (old now : SinkSeen) → length things ≤ i → status ≡ exit_status fulfilment → IsUnderWay IsTest things i fulfilment old now → AreAllPut IsTest things status old now
all_put {X} IsTest things i status fulfilment old now past is way = record {
  tests = way.tests;
  tested = subst (λ (left : List X). AreTested IsTest 1 things way.tests left) (drop_all i things past) way.tested;
  status_is = is ∙ ap exit_status way.worst_is;
  put = way.put;
}

-- the lines of the next test aren't
pub some_put : {X : Type 0} (IsTest : ℕ → X → Test → Type 0) (things : List X) (thing : X) (i : ℕ) (fulfilment : Fulfilment) (made : Result Test NoMemory) (refused : PutRefused) (old now new : SinkSeen) → slice_get things i ≡ Some thing → IsUnderWay IsTest things i fulfilment old now
    → ((test : Test) → made ≡ Ok test → IsTest (i + 1) thing test) → IsNotPut made refused now new → AreSomePut IsTest things refused old new
some_put IsTest things thing i fulfilment made Failed old now new is way tested part =
    let test : Test = part.0 in
    record {
      before = way.tests;
      next = test;
      left = drop (i + 1) things;
      tested = tested_more IsTest things thing i fulfilment old now test is way (tested test part.1);
      bytes = λ tells. (let cut = part.2.bytes (way.told ∙ tells) in (cut.0, cut.1 ∙ ap (λ w. w ++ take cut.0 test.text) (way.put.bytes tells) ∙ append_assoc old.written (lines_of way.tests) (take cut.0 test.text)));
      fault = subst (λ n. n < new.faults) way.put.calm part.2.fault;
    }
some_put IsTest things thing i fulfilment made Memory old now new is way tested nothing = record {
  tests = way.tests;
  left = drop i things;
  tested = way.tested;
  put = record { bytes = λ tells. nothing.bytes (way.told ∙ tells) ∙ way.put.bytes tells; calm = nothing.calm ∙ way.put.calm };
}

-- ---- behind the plan
pub with_plan : {X : Type 0} (IsTest : ℕ → X → Test → Type 0) (things : List X) (status : ℕ) (old begun new : SinkSeen) → begun.told ≡ old.told → PutAll (plan_text (length things)) old begun → AreAllPut IsTest things status begun new
    → (text : List ℕ) × IsSeries IsTest things text status × PutAll text old new
with_plan IsTest things status old begun new told plan all = (
  text_of (length things) all.tests,
  record { tests = all.tests; tested = all.tested; text_is = refl; status_is = all.status_is },
  both_put (plan_text (length things)) (lines_of all.tests) old begun new told plan all.put,
)

pub cut_behind_plan : {X : Type 0} (IsTest : ℕ → X → Test → Type 0) (things : List X) (refused : PutRefused) (old begun new : SinkSeen) → begun.told ≡ old.told → PutAll (plan_text (length things)) old begun → AreSomePut IsTest things refused begun new
    → IsBrokenOff IsTest things refused old new
cut_behind_plan IsTest things Failed old begun new told plan some =
    let front : List ℕ = plan_text (length things) in
    inr (record {
      before = some.before;
      next = some.next;
      left = some.left;
      tested = some.tested;
      bytes = λ tells. (let cut = some.bytes (told ∙ tells) in (
        cut.0,
        cut.1 ∙ ap (λ w. w ++ (lines_of some.before ++ take cut.0 some.next.text)) (plan.bytes tells) ∙ append_assoc old.written front (lines_of some.before ++ take cut.0 some.next.text)
            ∙ ap (λ t. old.written ++ t) (sym (append_assoc front (lines_of some.before) (take cut.0 some.next.text))),
      ));
      fault = subst (λ n. n < new.faults) plan.calm some.fault;
    })
cut_behind_plan IsTest things Memory old begun new told plan some = inr (record {
  tests = some.tests;
  left = some.left;
  tested = some.tested;
  put = both_put (plan_text (length things)) (lines_of some.tests) old begun new told plan some.put;
})

-- what is so of tests is so behind the plan
pub all_behind_plan : {X : Type 0} (IsTest : ℕ → X → Test → Type 0) (things : List X) (r : Result ℕ PutRefused) (old begun new : SinkSeen) → begun.told ≡ old.told → PutAll (plan_text (length things)) old begun → IfOk r (λ status. AreAllPut IsTest things status begun new)
    → IfOk r (λ status. (text : List ℕ) × IsSeries IsTest things text status × PutAll text old new)
all_behind_plan IsTest things (Err e) old begun new told plan all = tt
all_behind_plan IsTest things (Ok status) old begun new told plan all = with_plan IsTest things status old begun new told plan all

pub some_behind_plan : {X : Type 0} (IsTest : ℕ → X → Test → Type 0) (things : List X) (r : Result ℕ PutRefused) (old begun new : SinkSeen) → begun.told ≡ old.told → PutAll (plan_text (length things)) old begun
    → IfErr r (λ refused. AreSomePut IsTest things refused begun new) → IfErr r (λ refused. IsBrokenOff IsTest things refused old new)
some_behind_plan IsTest things (Ok status) old begun new told plan some = tt
some_behind_plan IsTest things (Err refused) old begun new told plan some = cut_behind_plan IsTest things refused old begun new told plan some

-- a refusal is what it was
pub refused_as : {T : Type 0} (r : Result T PutRefused) (refused : PutRefused) (P : PutRefused → Type 0) → IsErrAnd r (λ e. e ≡ refused) → P refused → IfErr r P
refused_as (Ok x) refused P is holds = tt
refused_as (Err e) refused P is holds = subst P (sym is) holds
