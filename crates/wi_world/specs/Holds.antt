-- What it is for an answer to hold. A question has the form of P-Rex, CoNEXT 2018: the first header, the links, the last
-- header, and how much may fail.
use Rattle.std.specs.Prelude.{◌≡◌, ℕ, ◌<◌, Bool, true, false, List, map, Option, Some, None}
use Rattle.wi_net.specs.declared.parts.LinkId.{LinkId}
use Rattle.wi_net.specs.Net.{Net}
use Rattle.wi_net.specs.declared.bounds.Bounds.{Bounds}
use Rattle.wi_world.specs.declared.run.Run.{Run}
use Rattle.wi_world.specs.declared.run.End.{End}
use Rattle.wi_world.specs.declared.run.End.TheVariants.{Arrives}
use Rattle.wi_world.specs.declared.answer.Word.{Word}
use Rattle.wi_world.specs.declared.answer.Word.TheVariants.{Yes, No, Inconclusive}
use Rattle.wi_world.specs.declared.answer.Verdict.{Verdict}
use Rattle.wi_world.specs.declared.answer.Verdict.TheVariants.{Fits, Exceeds, UsesFailed}
use Rattle.wi_world.specs.Moves.{is_trace, IsAllowed}
use Rattle.wi_world.specs.Moving.{IsMovingRun}
use Rattle.wi_world.specs.Runs.{links_of, last_header, verdict_of, is_less}

-- a set of words, a word being a list of numbers of labels or of links
abbrev pub Language : Type 1
Language = List ℕ → Type 0

-- what is asked: the languages of the first header, of the links and of the last header, whether the packet is to be dropped, and what
-- may fail
pub record Question : Type 1 where
  pub first : Language
  pub path : Language
  pub last : Language
  pub drops : Bool
  pub bounds : Bounds

-- whether a packet is dropped
abbrev pub is_dropped : End → Bool
is_dropped Arrives = false
is_dropped end = true

-- a run has the form that is asked for
pub record Matches (net : Net) (question : Question) (run : Run) : Type 0 where
  pub first : question.first (map (λ l. l.0.0) run.header)
  pub path : question.path (map (λ e. e.0) (links_of net run))
  pub last : question.last (map (λ l. l.0.0) (last_header net (run.first, run.header) run.steps))
  pub end : is_dropped run.end ≡ question.drops

-- what a run weighs; smaller is better
abbrev pub Weighing : Type 0
Weighing = Run → List ℕ

-- no run that moves weighs less
abbrev pub NoneMovingLess : Net → Question → Weighing → List ℕ → Type 0
NoneMovingLess net question weigh w =
    (run : Run) → IsMovingRun net question.bounds run → Matches net question run → is_less (weigh run) w ≡ false

-- no trace under allowed failures weighs less
abbrev pub NoTraceLess : Net → Question → Weighing → List ℕ → Type 0
NoTraceLess net question weigh w =
    (fails : List LinkId) (run : Run) → IsAllowed net question.bounds fails → is_trace net fails run ≡ true
    → Matches net question run → is_less (weigh run) w ≡ false

-- a yes shows a matching trace under allowed failures, which are its needs, and no matching trace or moving run weighs less
pub record IsYes (net : Net) (question : Question) (weigh : Weighing) (w : List ℕ) (run : Run) (fails : List LinkId) : Type 0 where
  pub matches : Matches net question run
  pub allowed : IsAllowed net question.bounds fails
  pub trace : is_trace net fails run ≡ true
  pub verdict : verdict_of net question.bounds run ≡ Fits fails
  pub weight : weigh run ≡ w
  pub least_trace : NoTraceLess net question weigh w
  pub least_moving : NoneMovingLess net question weigh w

-- no run that moves matches
abbrev pub NoneMoving : Net → Question → Type 0
NoneMoving net question = (run : Run) → IsMovingRun net question.bounds run → Matches net question run → ⊥

-- no trace under allowed failures matches
abbrev pub NoTrace : Net → Question → Type 0
NoTrace net question =
    (fails : List LinkId) (run : Run) → IsAllowed net question.bounds fails → is_trace net fails run ≡ true → Matches net question run → ⊥

-- a no says that nothing matches
pub record IsNo (net : Net) (question : Question) : Type 0 where
  pub moving : NoneMoving net question
  pub traces : NoTrace net question

-- an inconclusive shows a least matching moving run, which doesn't fit
pub record IsInconclusive (net : Net) (question : Question) (weigh : Weighing) (w : List ℕ) (run : Run) (found : Verdict) : Type 0 where
  pub may_fail : 0 < question.bounds.k
  pub matches : Matches net question run
  pub moving : IsMovingRun net question.bounds run
  pub weight : weigh run ≡ w
  pub least_moving : NoneMovingLess net question weigh w
  pub verdict : verdict_of net question.bounds run ≡ found

-- an answer holds, by its word: a no comes with nothing else, and the others with a weight, a run and its verdict
abbrev pub Holds : Net → Question → Weighing → Word → Option (List ℕ) → Option Run → Option Verdict → Type 0
Holds net question weigh Yes (Some w) (Some run) (Some (Fits fails)) = IsYes net question weigh w run fails
Holds net question weigh No None None None = IsNo net question
Holds net question weigh Inconclusive (Some w) (Some run) (Some (Exceeds n)) = IsInconclusive net question weigh w run (Exceeds n)
Holds net question weigh Inconclusive (Some w) (Some run) (Some (UsesFailed e)) = IsInconclusive net question weigh w run (UsesFailed e)
Holds net question weigh _ _ _ _ = ⊥
