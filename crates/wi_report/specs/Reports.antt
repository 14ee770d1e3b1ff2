-- The report on an answer, as bytes.
use Rattle.std.specs.Prelude.{◌≡◌, ℕ, ◌+◌, ◌==◌, Bool, true, false, if◌then◌else◌, List, [], ◌∷◌, ◌++◌, length, take, codes, Option, Some, Ok, Err}
use Rattle.std.specs.Option.{option_map_or}
use Rattle.std.specs.Fmt.{decimal}
use Rattle.wi_weight.specs.declared.kinds.Pair.{Pair}
use Rattle.wi_weight.specs.declared.kinds.Terms.{Terms}
use Rattle.wi_weight.specs.declared.kinds.Effort.{Effort}
use Rattle.wi_net.specs.declared.parts.LinkId.{LinkId}
use Rattle.wi_net.specs.declared.bounds.Bounds.{Bounds}
use Rattle.wi_net.specs.Net.{Net, is_link, labels_known}
use Rattle.wi_labels.specs.declared.ops.Op.{Op}
use Rattle.wi_labels.specs.Header.{Entry, outcome}
use Rattle.wi_net.specs.declared.parts.Member.{Member}
use Rattle.wi_world.specs.declared.run.Run.{Run}
use Rattle.wi_world.specs.declared.run.Step.{Step}
use Rattle.wi_world.specs.declared.answer.Word.{Word}
use Rattle.wi_world.specs.declared.answer.Word.TheVariants.{Yes, No, Inconclusive}
use Rattle.wi_world.specs.declared.answer.Verdict.{Verdict}
use Rattle.wi_world.specs.declared.answer.Verdict.TheVariants.{Fits, Exceeds, UsesFailed}
use Rattle.wi_world.specs.declared.run.End.{End}
use Rattle.wi_world.specs.declared.run.End.TheVariants.{Arrives, Inactive, Undefined}
use Rattle.wi_world.specs.Moves.{Location, groups_at, member_at, moved}
use Rattle.wi_world.specs.Runs.{needs}
use Rattle.wi_quantity.specs.Weighing.{components}
use Rattle.wi_trace.specs.declared.answer.Answer.{Answer}
use Rattle.wi_faults.specs.Numbers.{numbers_shown}
use Rattle.wi_faults.specs.Shown.{link_shown, links_shown, place_shown}

-- the values of so many terms, or `none`
abbrev pub terms_shown : ℕ → List ℕ → List ℕ
terms_shown terms values = if terms == 0 then codes " none" else numbers_shown (take terms values)

-- what a run weighs: its terms, and its effort
abbrev pub weight_shown : ℕ → Pair Terms Effort → List ℕ
weight_shown terms w = codes "weight:" ++ terms_shown terms (components w) ++ codes "\neffort: " ++ decimal w.second.count ++ codes "\n"

-- how a run fares that needs these links to fail, where k risk groups may
abbrev pub verdict_shown : Net → ℕ → List LinkId → Verdict → List ℕ
verdict_shown net k needs (Fits fails) = codes "failed: " ++ links_shown net needs ++ codes "\n"
verdict_shown net k needs (Exceeds n) =
    codes "needs: " ++ links_shown net needs ++ codes "\ncause: needs " ++ decimal n ++ codes ", allowed " ++ decimal k ++ codes "\n"
verdict_shown net k needs (UsesFailed e) = codes "needs: " ++ links_shown net needs ++ codes "\ncause: uses " ++ link_shown net e ++ codes "\n"

-- the group and the member of a step, from 1
abbrev pub member_shown : Step → List ℕ
member_shown step = codes " group " ++ decimal (step.group + 1) ++ codes " member " ++ decimal (step.member + 1)

abbrev pub step_shown : Step → List ℕ
step_shown step = codes " |" ++ member_shown step

-- which of the operations isn't defined, from 1: the one behind them where all are
abbrev pub undefined_operation : List Op → List Entry → ℕ
undefined_operation ops header = elim (outcome 0 ops header) [ Ok next ↦ length ops + 1 | Err i ↦ i + 1 ]

-- whether an entry has groups, none of which is active
abbrev pub inactive_shown : List (List Member) → List ℕ
inactive_shown [] = codes "no group"
inactive_shown (group ∷ groups) = codes "no active group"

-- the group, the member and the operation that isn't defined, from 1
abbrev pub undefined_shown : List Entry → Step → Member → List ℕ
undefined_shown header step member =
    member_shown step ++ codes " operation " ++ decimal (undefined_operation member.ops header) ++ codes " undefined"

-- the line of how a packet is dropped, if it is
abbrev pub end_shown : Net → End → Location → List ℕ
end_shown net Arrives at = []
end_shown net Inactive at = codes "dropped: " ++ inactive_shown (groups_at net at.0 at.1) ++ codes "\n"
end_shown net (Undefined step) at =
    option_map_or (λ member. codes "dropped:" ++ undefined_shown at.1 step member ++ codes "\n") (member_at net at step) []

-- a line for each step: where it leads, and its group and member; and that of the end
abbrev pub steps_shown : Net → End → Location → List Step → List ℕ
steps_shown net end at [] = end_shown net end at
steps_shown net end at (step ∷ steps) = option_map_or (λ next. place_shown net next ++ step_shown step ++ codes "\n" ++ steps_shown net end next steps) (moved net at step) []

-- a line for each link of a run, and that of its end
abbrev pub run_shown : Net → Run → List ℕ
run_shown net run = place_shown net (run.first, run.header) ++ codes "\n" ++ steps_shown net run.end (run.first, run.header) run.steps

-- how many links a run has, these, and its end
abbrev pub links_listed : Net → Run → List ℕ
links_listed net run = codes "links: " ++ decimal (length run.steps + 1) ++ codes "\n" ++ run_shown net run

-- whether a run is shown, which is one that packets can go along while links fail and are repaired
abbrev pub moving_line : Bool → List ℕ
moving_line true = codes "moving: yes\n"
moving_line false = codes "moving: no\n"

-- how many nodes the tree of an exact answer has, whether a run is shown or not
abbrev pub nodes_line : ℕ → Bool → List ℕ
nodes_line nodes found = codes "nodes: " ++ decimal nodes ++ codes "\n"

-- what a run weighs, and how it fares
abbrev pub fare_shown : Net → Bounds → ℕ → Pair Terms Effort → Run → Verdict → List ℕ
fare_shown net bounds terms w run verdict = weight_shown terms w ++ verdict_shown net bounds.k (needs net bounds run) verdict

-- a run with what it weighs and how it fares, with this line before its links; where there is none, the line alone
abbrev pub found_shown : (Bool → List ℕ) → Net → Bounds → ℕ → Option (Pair Terms Effort) → Option Run → Option Verdict → List ℕ
found_shown line net bounds terms (Some w) (Some run) (Some verdict) = fare_shown net bounds terms w run verdict ++ line true ++ links_listed net run
found_shown line net bounds terms _ _ _ = line false

-- the answer's word
abbrev pub word_shown : Word → List ℕ
word_shown Yes = codes "yes"
word_shown No = codes "no"
word_shown Inconclusive = codes "inconclusive"

-- the line of an answer's word
abbrev pub answer_line : Word → List ℕ
answer_line word = codes "answer: " ++ word_shown word ++ codes "\n"

-- what a report says of a run before the line of how the answer was found, if one is shown
abbrev pub found_fare : Net → Bounds → ℕ → Option (Pair Terms Effort) → Option Run → Option Verdict → List ℕ
found_fare net bounds terms (Some w) (Some run) (Some verdict) = fare_shown net bounds terms w run verdict
found_fare net bounds terms _ _ _ = []

-- what a report says before the line of how the answer was found
abbrev pub heading_of : Net → Bounds → ℕ → Answer → List ℕ
heading_of net bounds terms a = answer_line a.word ++ found_fare net bounds terms a.weight a.run a.verdict

-- the report on an answer with a line that depends on whether a run is shown, where runs are weighed by so many terms
abbrev pub report_with : (Bool → List ℕ) → Net → Bounds → ℕ → Answer → List ℕ
report_with line net bounds terms a = answer_line a.word ++ found_shown line net bounds terms a.weight a.run a.verdict

-- the report on an answer
abbrev pub report_of : Net → Bounds → ℕ → Answer → List ℕ
report_of = report_with moving_line

-- the report on an exact answer, whose tree has so many nodes
abbrev pub exact_report_of : Net → Bounds → ℕ → Answer → ℕ → List ℕ
exact_report_of net bounds terms a nodes = report_with (nodes_line nodes) net bounds terms a

-- what is said of a certificate that is accepted: the word of its answer
abbrev pub accepted_text : Word → List ℕ
accepted_text word = codes "accepted: " ++ word_shown word ++ codes "\n"

-- where a run begins: the link and the labels of the header are the network's
pub record IsKnownRun (net : Net) (run : Run) : Type 0 where
  pub link : is_link net run.first ≡ true
  pub header : labels_known net run.header ≡ true
