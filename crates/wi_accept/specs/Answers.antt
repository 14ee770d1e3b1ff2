-- The answer that a certificate shows, and what it is for an answer to hold.
use Rattle.std.specs.Prelude.{ℕ, ◌-◌, if◌then◌else◌, List, ◌++◌, map, take, drop, replicate, slice_get, slice_index, unwrap_or, option_map, Option, Some, None}
use Rattle.wi_labels.specs.declared.label.Class.TheVariants.{Ip}
use Rattle.wi_labels.specs.Header.{Entry}
use Rattle.wi_net.specs.Net.{Net}
use Rattle.wi_world.specs.declared.answer.Word.{Word}
use Rattle.wi_world.specs.declared.answer.Word.TheVariants as words
use Rattle.wi_world.specs.declared.run.Run.{Run}
use Rattle.wi_world.specs.declared.run.Step.{Step}
use Rattle.wi_world.specs.declared.run.End.{End}
use Rattle.wi_world.specs.declared.run.End.TheVariants as ends
use Rattle.wi_world.specs.Runs.{verdict_of}
use Rattle.wi_world.specs.Holds.{Holds}
use Rattle.wi_quantity.specs.Weighing.{components}
use Rattle.wi_trace.specs.declared.answer.Answer.{Answer}
use Rattle.wi_build.specs.Problems.{Problem, asks, weighs}
use Rattle.wi_build.specs.Systems.{weight}
use Rattle.wi_cert.specs.declared.shown.Claim.{Claim}
use Rattle.wi_cert.specs.declared.shown.Claim.TheVariants.{Yes, No, Inconclusive}
use Rattle.wi_cert.specs.declared.shown.Dropped.{Dropped}
use Rattle.wi_cert.specs.declared.shown.Dropped.TheVariants.{Inactive, Undefined}
use Rattle.wi_cert.specs.declared.shown.Shown.{Shown}
use Rattle.wi_cert.specs.Shown.{is_no}

-- an answer to a problem holds
abbrev pub IsDecided : Problem → Answer → Type 0
IsDecided problem a = Holds problem.net (asks problem) (weighs problem) a.word (option_map components a.weight) a.run a.verdict

abbrev pub word_of : Claim → Word
word_of Yes = words.Yes
word_of No = words.No
word_of Inconclusive = words.Inconclusive

-- the six components of a weight that is written with so many terms and the effort: the terms that it hasn't are 0
abbrev pub padded : ℕ → List ℕ → List ℕ
padded terms ns = take terms ns ++ (replicate (5 - terms) 0 ++ drop terms ns)

-- labels by their numbers, each with its class in the network
abbrev pub labels_of : Net → List ℕ → List Entry
labels_of net ns = map (λ n. (record { 0 = n }, unwrap_or (slice_get net.classes n) Ip)) ns

-- groups and members count from 1 in certificates
abbrev pub steps_of : List (ℕ × ℕ) → List Step
steps_of xs = map (λ x. record { group = x.0 - 1; member = x.1 - 1 }) xs

-- the packet is dropped as a text of version 2 says; in one of version 1 it arrives
abbrev pub end_of : Option Dropped → End
end_of (Some Inactive) = ends.Inactive
end_of (Some (Undefined j m)) = ends.Undefined (record { group = j - 1; member = m - 1 })
end_of dropped = ends.Arrives

-- the run that is shown: its first link and the labels there, its steps, and its end
abbrev pub run_of : Net → Shown → Run
run_of net s = record {
  first = record { 0 = slice_index s.first 0 };
  header = labels_of net (drop 1 s.first);
  steps = steps_of s.steps;
  end = end_of s.dropped;
}

-- the answer that is shown, with the verdict on its run
abbrev pub answer_of : Problem → Shown → Answer
answer_of problem s =
    if is_no s.claim then record { word = words.No; weight = None; run = None; verdict = None }
    else record {
      word = word_of s.claim;
      weight = Some (weight (padded s.terms s.weight));
      run = Some (run_of problem.net s);
      verdict = Some (verdict_of problem.net problem.bounds (run_of problem.net s));
    }
