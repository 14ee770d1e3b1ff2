-- An answer as a certificate shows it, in plain numbers.
use Rattle.std.specs.Prelude.{ℕ, ◌+◌, ◌^◌, ◌<◌, Bool, true, false, List, [], ◌∷◌, ◌++◌, length, map, take, Option, Some, None}
use Rattle.std.specs.List.{All}
use Rattle.std.specs.Option.{option_map_or}
use Rattle.wi_labels.specs.Header.{Entry}
use Rattle.wi_weight.specs.declared.kinds.Pair.{Pair}
use Rattle.wi_weight.specs.declared.kinds.Terms.{Terms}
use Rattle.wi_weight.specs.declared.kinds.Effort.{Effort}
use Rattle.wi_net.specs.declared.parts.LinkId.{LinkId}
use Rattle.wi_world.specs.declared.answer.Word.{Word}
use Rattle.wi_world.specs.declared.answer.Word.TheVariants as words
use Rattle.wi_world.specs.declared.run.Step.{Step}
use Rattle.wi_world.specs.declared.run.Run.{Run}
use Rattle.wi_world.specs.declared.run.End.{End}
use Rattle.wi_world.specs.declared.run.End.TheVariants as ends
use Rattle.wi_quantity.specs.Weighing.{components}
use Rattle.wi_trace.specs.declared.answer.Answer.{Answer}
use Rattle.wi_build.specs.Problems.{Problem, asks}
use Rattle.wi_cert.specs.declared.shown.Claim.{Claim}
use Rattle.wi_cert.specs.declared.shown.Claim.TheVariants.{Yes, No, Inconclusive}
use Rattle.wi_cert.specs.declared.shown.Dropped.{Dropped}
use Rattle.wi_cert.specs.declared.shown.Dropped.TheVariants.{Nowhere, Inactive, Undefined}
use Rattle.wi_cert.specs.declared.shown.Shown.{Shown}

-- a weight of five terms and the effort
abbrev pub Weight : Type 0
Weight = Pair Terms Effort

abbrev pub claim_for : Word → Claim
claim_for words.Yes = Yes
claim_for words.No = No
claim_for words.Inconclusive = Inconclusive

-- the first terms of a weight, and its effort
abbrev pub shown_weight : ℕ → Weight → List ℕ
shown_weight terms w = take terms (components w) ++ w.second.count ∷ []

-- a first link's number, and those of the labels there, top first
abbrev pub first_numbers : LinkId → List Entry → List ℕ
first_numbers e header = e.0 ∷ map (λ l. l.0.0) header

-- groups and members, counted from 1
abbrev pub step_numbers : List Step → List (ℕ × ℕ)
step_numbers steps = map (λ s. (s.group + 1, s.member + 1)) steps

-- how a packet is dropped, its member counted from 1
abbrev pub dropped_at : End → Dropped
dropped_at ends.Arrives = Nowhere
dropped_at ends.Inactive = Inactive
dropped_at (ends.Undefined step) = Undefined (step.group + 1) (step.member + 1)

-- nothing is said of that where it isn't asked for
abbrev pub dropped_by : Bool → Option Run → Option Dropped
dropped_by false run = None
dropped_by true run = Some (option_map_or (λ r. dropped_at r.end) run Nowhere)

-- group and member stay in the range of their type when they count from 1
abbrev pub IsSmallStep : Step → Type 0
IsSmallStep s = (s.group + 1 < 2 ^ 32) × (s.member + 1 < 2 ^ 32)

abbrev pub IsSmallEnd : End → Type 0
IsSmallEnd (ends.Undefined step) = IsSmallStep step
IsSmallEnd end = Unit {0}

abbrev pub IsSmallRun : Run → Type 0
IsSmallRun r = All IsSmallStep r.steps × IsSmallEnd r.end

-- the answer to a problem as a certificate shows it
abbrev pub shown_by : Problem → Answer → Shown
shown_by problem a = record {
  terms = length problem.vector;
  claim = claim_for a.word;
  weight = option_map_or (λ w. shown_weight (length problem.vector) w) a.weight [];
  first = option_map_or (λ r. first_numbers r.first r.header) a.run [];
  steps = option_map_or (λ r. step_numbers r.steps) a.run [];
  dropped = dropped_by (asks problem).drops a.run;
}
