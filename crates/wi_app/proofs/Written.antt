-- What `verify` stored is a certificate that `check` accepts, and what `exact` stored a tree that `check-exact` accepts.
use Rattle.std.proofs.Common.{◌≡◌, ◌≢◌, ◌⊎◌, inl, inr, ℕ, suc, ◌+◌, ◌<◌, ◌≤◌, Bool, true, false, if◌then◌else◌, nat_eq, List, [], ◌∷◌, length, length-append, drop, Option, Some, None, refl, sym, ap, subst, ◌∙◌, arith}
use Rattle.std.specs.Prelude.{codes, max, option_and_then, option_map, IfSome, MatchBool}
use Rattle.std.specs.Option.{option_map_or}
use Rattle.std.proofs.lemmas.Bool.{and_parts}
use Rattle.std.proofs.lemmas.List.{length-map, length-drop}
use Rattle.std.proofs.lemmas.Option.{same_Some}
use Rattle.std.proofs.Math.Nat.{le-max_left}
use Rattle.wi_base.specs.Shelf.{ShelfSeen}
use Rattle.wi_base.specs.Sink.{SinkSeen}
use Rattle.wi_labels.specs.Header.{Entry}
use Rattle.wi_net.specs.declared.bounds.Bounds.{Bounds}
use Rattle.wi_net.specs.declared.parts.LinkId.{LinkId}
use Rattle.wi_net.specs.declared.parts.Member.{Member}
use Rattle.wi_net.specs.Net.{Net}
use Rattle.wi_world.specs.declared.answer.Word.{Word}
use Rattle.wi_world.specs.declared.answer.Word.TheVariants.{Yes, No, Inconclusive}
use Rattle.wi_world.specs.declared.answer.Verdict.{Verdict}
use Rattle.wi_world.specs.declared.answer.Verdict.TheVariants.{Fits, Exceeds, UsesFailed}
use Rattle.wi_world.specs.declared.run.Run.{Run}
use Rattle.wi_world.specs.declared.run.Step.{Step}
use Rattle.wi_world.specs.Holds.{Holds}
use Rattle.wi_world.specs.Moves.{Location, can_end, follows, is_possible, is_possible_run, is_start, is_trace, is_usable, may_end, member_at, moved, through}
use Rattle.wi_world.specs.Runs.{effort_of, end_work, sum_over, work}
use Rattle.wi_world.proofs.MovingLaws.{moving_possible}
use Rattle.wi_quantity.specs.Weighing.{components}
use Rattle.wi_trace.specs.declared.answer.Answer.{Answer}
use Rattle.wi_build.specs.Problems.{Problem, IsProblem, asks, problem_of, weighs}
use Rattle.wi_cert.specs.declared.certificate.Certificate.{Certificate}
use Rattle.wi_cert.specs.declared.shown.Shown.{Shown}
use Rattle.wi_cert.specs.Shown.{is_no, IsShown}
use Rattle.wi_cert.specs.Text.{IsText, closed_text}
use Rattle.wi_cert.specs.private.Fronts.{front_text}
use Rattle.wi_cert.proofs.FrontLengths.{front_length}
use Rattle.wi_cert.proofs.WritingLemmas.{text_parts}
use Rattle.wi_accept.specs.Answers.{IsDecided, answer_of, labels_of, run_of, steps_of}
use Rattle.wi_accept.proofs.AcceptedLemmas.{answer_holds}
use Rattle.wi_decide.specs.Refusals.{IsUnrefused}
use Rattle.wi_words.specs.declared.Content.{Content}
use Rattle.wi_words.specs.Commands.{Asking, Command, Ask, Verify, Check, Exact, CheckExact, command_of}
use Rattle.wi_accept.specs.Trees.{IsDecidedExactly}
use Rattle.wi_netjson.specs.declared.fault.NetFault.TheVariants as network_fault
use Rattle.wi_quantity.specs.declared.fault.WeightFault.TheVariants as weights_fault
use Rattle.wi_script.specs.declared.script.ScriptRefused.TheVariants as script_refused
use Rattle.wi_wire.specs.declared.refused.StackRefused.TheVariants as stack_refused
use Rattle.wi_planjson.specs.declared.refused.PlanRefused.TheVariants as plan_refused
use Rattle.wi_protect.specs.declared.refused.ProtectRefused.TheVariants as protect_refused
use Rattle.wi_outcome.specs.Edges.{Says, SaysWhy, kept, unprinted}
use Rattle.wi_outcome.specs.Texts.{status_of, text_of}
use Rattle.wi_outcome.specs.declared.refusal.Refusal.{Refusal}
use Rattle.wi_outcome.specs.declared.refusal.Refusal.TheVariants.{BadStack, Network, Plan, Script, Unprotected, Weights}
use Rattle.wi_files.specs.Certificates.{IsCertificateFile, IsTreeStored}
use Rattle.wi_files.specs.Networks.{HoldsNetwork}
use Rattle.wi_files.specs.Shelves.{IsCalm, OthersStand}
use Rattle.wi_ask.specs.Asked.{ForAsked}
use Rattle.wi_ask.specs.Certificates.{IsBelieved, IsBelievedFile, IsStored}
use Rattle.wi_ask.specs.Decided.{IsReported}
use Rattle.wi_ask.specs.Exact.{IsBelievedTreeFile, IsReportedExactly, IsTreeBelieved}
use Rattle.wi_app.specs.Run.{AreAnswered, CanBeAnswered, Completes, Does, IsAnswered, IsCutShort, IsRefused, IsStatus, TellsFor}

-- ---- the text isn't too long to be read
-- what is done from each place on, whatever the steps and what is left behind them
abbrev TakesSteps : Net → (Location → Step → Bool) → (Location → Bool) → (Location → ℕ) → List Step → Type 0
TakesSteps net test last left steps = (at : Location) → follows net test last at steps ≡ true → length steps ≤ sum_over net (work net) left at steps

module _ (net : Net) (test : Location → Step → Bool) (last : Location → Bool) (left : Location → ℕ) where
  through_place : (steps : List Step) (member : Member) (place : Option Location) → TakesSteps net test last left steps → option_map_or (λ next. follows net test last next steps) place false ≡ true
      → suc (length steps) ≤ option_map_or (λ next. max 1 (length member.ops) + sum_over net (work net) left next steps) place 0
  through_place steps member None takes h = cc
  through_place steps member (Some next) takes h = let rest = takes next h in let one = le-max_left 1 (length member.ops) in omega (arith, rest, one)

  through_member : (steps : List Step) (header : List Entry) (member : Option Member) → TakesSteps net test last left steps
      → option_map_or (λ next. follows net test last next steps) (option_and_then (λ m. through header m) member) false ≡ true
      → suc (length steps) ≤ option_map_or (λ next. option_map_or (λ m. max 1 (length m.ops)) member 0 + sum_over net (work net) left next steps) (option_and_then (λ m. through header m) member) 0
  through_member steps header None takes h = cc
  through_member steps header (Some member) takes h = through_place steps member (through header member) takes h

  -- each step that is taken does some work
  steps_work : (steps : List Step) → TakesSteps net test last left steps
  steps_work [] at h = omega arith
  steps_work (step ∷ steps) at h =
      through_member steps at.1 (member_at net at step) (steps_work steps) (and_parts (test at step) (option_map_or (λ next. follows net test last next steps) (moved net at step) false) h).1

-- a run that is taken has no more labels and steps than its effort
record IsShort (run : Run) : Type 0 where
  labels : length run.header ≤ 4096
  steps : length run.steps ≤ 4096

taken_short : (net : Net) (test : Location → Step → Bool) (last : Location → Bool) (run : Run) → follows net test last (run.first, run.header) run.steps ≡ true → effort_of net run ≤ 4096 → IsShort run
taken_short net test last run h short =
    let work = steps_work net test last (end_work net run.end) run.steps (run.first, run.header) h in
    record { labels = omega (arith, short); steps = omega (arith, short, work) }

trace_short : (net : Net) (fails : List LinkId) (run : Run) → is_trace net fails run ≡ true → effort_of net run ≤ 4096 → IsShort run
trace_short net fails run h =
    taken_short net (is_usable net fails) (λ at. may_end net fails at run.end) run
    (and_parts (is_start net fails run.first run.header) (follows net (is_usable net fails) (λ at. may_end net fails at run.end) (run.first, run.header) run.steps) h).1

possible_short : (net : Net) (bounds : Bounds) (run : Run) → is_possible_run net bounds run ≡ true → effort_of net run ≤ 4096 → IsShort run
possible_short net bounds run h =
    taken_short net (is_possible net bounds) (λ at. can_end net bounds at run.end) run
    (and_parts (is_start net bounds.down run.first run.header) (follows net (is_possible net bounds) (λ at. can_end net bounds at run.end) (run.first, run.header) run.steps) h).1

holding_short : (problem : Problem) (word : Word) (w : Option (List ℕ)) (run : Run) (verdict : Option Verdict) → IsProblem problem → Holds problem.net (asks problem) (weighs problem) word w (Some run) verdict → effort_of problem.net run ≤ 4096 → IsShort run
holding_short problem Yes (Some w) run (Some (Fits fails)) is h short = trace_short problem.net fails run h.trace short
holding_short problem Yes (Some w) run (Some (Exceeds n)) is h short = elim h [ ]
holding_short problem Yes (Some w) run (Some (UsesFailed e)) is h short = elim h [ ]
holding_short problem Yes (Some w) run None is h short = elim h [ ]
holding_short problem Yes None run verdict is h short = elim h [ ]
holding_short problem Inconclusive (Some w) run (Some (Exceeds n)) is h short = possible_short problem.net problem.bounds run (moving_possible problem.net problem.bounds run is.network is.bounds_of h.moving) short
holding_short problem Inconclusive (Some w) run (Some (UsesFailed e)) is h short = possible_short problem.net problem.bounds run (moving_possible problem.net problem.bounds run is.network is.bounds_of h.moving) short
holding_short problem Inconclusive (Some w) run (Some (Fits fails)) is h short = elim h [ ]
holding_short problem Inconclusive (Some w) run None is h short = elim h [ ]
holding_short problem Inconclusive None run verdict is h short = elim h [ ]
holding_short problem No (Some w) run verdict is h short = elim h [ ]
holding_short problem No None run verdict is h short = elim h [ ]

run_short : (problem : Problem) (answer : Answer) (run : Run) → IsProblem problem → IsDecided problem answer → IsUnrefused problem answer → answer.run ≡ Some run → IsShort run
run_short problem answer run is holds due shows =
    holding_short problem answer.word (option_map components answer.weight) run answer.verdict is
    (subst (λ r. Holds problem.net (asks problem) (weighs problem) answer.word (option_map components answer.weight) r answer.verdict) shows holds)
    (subst (λ r. IfSome r (λ run. effort_of problem.net run ≤ 4096)) shows due.short)

-- so the lines before `heads` are short
shown_few : (problem : Problem) (answer : Answer) (s : Shown) → IsProblem problem → IsDecided problem answer → IsUnrefused problem answer → IsShown s → answer_of problem s ≡ answer
    → (length s.first ≤ 4097) × (length s.steps ≤ 4096)
shown_few problem answer s is holds due shown shows = by_claim (is_no s.claim) refl
  where
    shown_run : is_no s.claim ≡ false → (answer_of problem s).run ≡ Some (run_of problem.net s)
    shown_run e = rw e refl

    by_claim : (no : Bool) → is_no s.claim ≡ no → (length s.first ≤ 4097) × (length s.steps ≤ 4096)
    by_claim true e =
        let none : s.first ≡ [] = subst (λ b. MatchBool b (s.first ≡ []) (1 < length s.first)) e shown.first in
        (rw none (omega arith), rw (shown.no_steps e) (omega arith))
    by_claim false e =
        let run_is : answer.run ≡ Some (run_of problem.net s) = sym (ap (λ a. a.run) shows) ∙ shown_run e in
        let short = run_short problem answer (run_of problem.net s) is holds due run_is in
        let labels : length (labels_of problem.net (drop 1 s.first)) ≡ length (drop 1 s.first) = length-map _ _ in
        let behind = length-drop 1 s.first in
        let steps : length (steps_of s.steps) ≡ length s.steps = length-map _ _ in
        (omega (arith, short.labels, labels, behind), omega (arith, short.steps, steps))

text_short : (problem : Problem) (answer : Answer) (c : Certificate) (bytes : List ℕ) → IsProblem problem → IsDecided problem answer → IsUnrefused problem answer → answer_of problem c.shown ≡ answer
    → IsText c bytes → length (closed_text c) ≤ 268000000 → length bytes ≤ 268435456
text_short problem answer c bytes is holds due shows written short =
    let few = shown_few problem answer c.shown is holds due written.writable.shown shows in
    let front = front_length c written.writable.shown written.ranges.shown in
    let lengths : length bytes ≡ length (front_text c) + length (closed_text c) = ap length (written.is ∙ text_parts c) ∙ length-append (front_text c) (closed_text c) in
    omega (arith, few.0, few.1, front, lengths, short)

-- ---- what was stored can be checked

can_check : (old new : ShelfSeen) (asking : Asking) (content : Content) (file : List ℕ) (status : ℕ) (report : List ℕ) → asking.network ≢ file → old.told ≡ true → OthersStand (Some file) old new
    → IsAnswered old new (Ask asking (Verify content (Some file))) status report → CanBeAnswered new (Ask asking (Check file))
can_check old new asking content file status report apart told stand answer = (answer.0, subst (λ f. HoldsNetwork f answer.0) (sym (stand asking.network other)) (answer.1 told), (asked.0, asked.1, asked.2, (certificate, in_file)))
  where
    asked : ForAsked answer.0 asking.query asking.weights (λ problem. IsReported content problem (Some file) new status report)
    asked = answer.2

    problem : Problem
    problem = problem_of answer.0 asked.0 asked.1

    reported : IsReported content problem (Some file) new status report
    reported = asked.4

    stored : IsStored (Some file) new problem reported.answer
    stored = reported.stored

    certificate : Certificate
    certificate = stored.1.certificate

    other : Some file ≢ Some asking.network
    other e = apart (sym (same_Some file asking.network e))

    held : IsCertificateFile new file stored.0
    held = record {
      held = stored.2;
      short = text_short problem reported.answer certificate stored.0 stored.1.is.problem_is reported.holds reported.shown stored.1.is.made.shows stored.1.text stored.1.short;
    }

    believed : IsBelieved problem certificate
    believed = record {
      problem_is = stored.1.is.problem_is;
      accepted = stored.1.is.accepted;
      holds = answer_holds problem certificate stored.1.is.problem_is stored.1.is.made.writable stored.1.is.accepted;
    }

    in_file : IsBelievedFile new problem file certificate
    in_file = record { bytes = stored.0; held = held; reads = stored.1.text; believed = believed }

-- ---- a status below 3 is an answer's

status_high : (refusal : Refusal) → 3 ≤ status_of refusal
status_high (Network network_fault.Memory) = omega arith
status_high (Network f) = omega arith
status_high (Weights weights_fault.Memory) = omega arith
status_high (Weights f) = omega arith
status_high (Script script_refused.Memory) = omega arith
status_high (Script f) = omega arith
status_high (Plan plan_refused.Memory) = omega arith
status_high (Plan f) = omega arith
status_high (Unprotected protect_refused.Memory) = omega arith
status_high (Unprotected f) = omega arith
status_high (BadStack stack_refused.Memory) = omega arith
status_high (BadStack f) = omega arith
status_high refusal = omega arith

kept_high : (status : ℕ) → 3 ≤ kept status
kept_high status = by_test (nat_eq status 10)
  where
    by_test : (b : Bool) → 3 ≤ (if b then 10 else 11)
    by_test true = omega arith
    by_test false = omega arith

says_high : (text : List ℕ) (status : ℕ) (old new : SinkSeen) (result : ℕ) → 3 ≤ status → Says text status old new result → 3 ≤ result
says_high text status old new result high s = elim s [
  | inl all ↦ subst (λ n. 3 ≤ n) (sym all.1) high
  | inr rest ↦ elim rest [
    | inl part ↦ rw part.1 (omega arith)
    | inr nothing ↦ subst (λ n. 3 ≤ n) (sym nothing.1) (kept_high status)
  ]
]

pub why_high : (refusal : Refusal) (old new : SinkSeen) (result : ℕ) → SaysWhy refusal old new result → 3 ≤ result
why_high refusal old new result s = elim s [
  | inl own ↦ says_high (text_of refusal) (status_of refusal) old new result (status_high refusal) own
  | inr want ↦ says_high (codes "whatif: out of memory\n") 11 old new result (omega arith) want.1
]

-- what isn't answered has no status of an answer
pub unanswered_high : (command : Option Command) (shelf_old shelf_new : ShelfSeen) (out_old out_new err_old err_new : SinkSeen) (result : ℕ)
    → IsRefused command shelf_old shelf_new out_old out_new err_old err_new result ⊎ IsCutShort command shelf_old shelf_new out_old out_new err_old err_new result → 3 ≤ result
unanswered_high command shelf_old shelf_new out_old out_new err_old err_new result (inl refused) = why_high refused.refusal err_old err_new result refused.said
unanswered_high command shelf_old shelf_new out_old out_new err_old err_new result (inr cut) = why_high (unprinted cut.refused) err_old err_new result cut.said

-- where one command is answered, another that can be answered then ends as it may
answered_then : (words later : List (List ℕ)) (command next : Command) (shelf between after : ShelfSeen) (out printed err said later_out later_printed later_err later_said : SinkSeen) (status result : ℕ)
    → command_of words ≡ Some command → command_of later ≡ Some next → TellsFor between next → ((status : ℕ) (text : List ℕ) → IsAnswered shelf between command status text → CanBeAnswered between next)
    → Does words shelf between out printed err said status → status < 3 → Completes later between after later_out later_printed later_err later_said result → IsCalm between after → later_printed.faults ≡ later_out.faults → later_said.faults ≡ later_err.faults
    → IsStatus between next result ⊎ (result ≡ 11)
answered_then words later command next shelf between after out printed err said later_out later_printed later_err later_said status result asks checks told can does low completes calm no_fault silent = elim does [
  | inl done ↦ (let answered = subst (λ c. AreAnswered shelf between c done.status done.text) asks done.answered in
      completes next checks told (can done.status done.text answered) calm no_fault silent)
  | inr other ↦ (let high = unanswered_high (command_of words) shelf between out printed err said status other in absurd (omega (arith, high, low)))
]

pub written_accepted : (verifying checking : List (List ℕ)) (asking : Asking) (content : Content) (file : List ℕ) (shelf between after : ShelfSeen) (out printed err said later_out later_printed later_err later_said : SinkSeen) (status result : ℕ)
    → command_of verifying ≡ Some (Ask asking (Verify content (Some file))) → command_of checking ≡ Some (Ask asking (Check file)) → asking.network ≢ file
    → shelf.told ≡ true → between.told ≡ true → OthersStand (Some file) shelf between → Does verifying shelf between out printed err said status → status < 3
    → Completes checking between after later_out later_printed later_err later_said result → IsCalm between after → later_printed.faults ≡ later_out.faults → later_said.faults ≡ later_err.faults
    → (result ≡ 0) ⊎ (result ≡ 11)
written_accepted verifying checking asking content file shelf between after out printed err said later_out later_printed later_err later_said status result verifies checks apart told still stand does low completes calm no_fault silent =
    status_0 (answered_then verifying checking (Ask asking (Verify content (Some file))) (Ask asking (Check file)) shelf between after out printed err said later_out later_printed later_err later_said status result verifies checks still
    (λ status report answer. can_check shelf between asking content file status report apart told stand answer) does low completes calm no_fault silent)
  where
    status_0 : IsStatus between (Ask asking (Check file)) result ⊎ (result ≡ 11) → (result ≡ 0) ⊎ (result ≡ 11)
    status_0 (inl is) = inl is.2.4
    status_0 (inr want) = inr want

-- ---- the same of trees

can_check_exactly : (old new : ShelfSeen) (asking : Asking) (file : List ℕ) (status : ℕ) (report : List ℕ) → asking.network ≢ file → old.told ≡ true → OthersStand (Some file) old new
    → IsAnswered old new (Ask asking (Exact (Some file))) status report → CanBeAnswered new (Ask asking (CheckExact file))
can_check_exactly old new asking file status report apart told stand answer = (answer.0, subst (λ f. HoldsNetwork f answer.0) (sym (stand asking.network other)) (answer.1 told), (asked.0, asked.1, asked.2, (reported.tree, in_file)))
  where
    asked : ForAsked answer.0 asking.query asking.weights (λ problem. IsReportedExactly problem (Some file) new status report)
    asked = answer.2

    problem : Problem
    problem = problem_of answer.0 asked.0 asked.1

    reported : IsReportedExactly problem (Some file) new status report
    reported = asked.4

    stored : IsTreeStored (Some file) new reported.tree
    stored = reported.stored

    other : Some file ≢ Some asking.network
    other e = apart (sym (same_Some file asking.network e))

    held : IsCertificateFile new file stored.0
    held = record { held = stored.3; short = stored.2 }

    believed : IsTreeBelieved problem reported.tree
    believed = record {
      problem_is = reported.is.problem_is;
      accepted = reported.is.accepted;
      holds = subst (IsDecidedExactly problem) (sym reported.is.exact.made.shows) reported.is.exact.holds;
    }

    in_file : IsBelievedTreeFile new problem file reported.tree
    in_file = record { bytes = stored.0; held = held; reads = stored.1; believed = believed }

pub tree_accepted : (answering checking : List (List ℕ)) (asking : Asking) (file : List ℕ) (shelf between after : ShelfSeen) (out printed err said later_out later_printed later_err later_said : SinkSeen) (status result : ℕ)
    → command_of answering ≡ Some (Ask asking (Exact (Some file))) → command_of checking ≡ Some (Ask asking (CheckExact file)) → asking.network ≢ file
    → shelf.told ≡ true → between.told ≡ true → OthersStand (Some file) shelf between → Does answering shelf between out printed err said status → status < 3
    → Completes checking between after later_out later_printed later_err later_said result → IsCalm between after → later_printed.faults ≡ later_out.faults → later_said.faults ≡ later_err.faults
    → (result ≡ 0) ⊎ (result ≡ 11)
tree_accepted answering checking asking file shelf between after out printed err said later_out later_printed later_err later_said status result answers checks apart told still stand does low completes calm no_fault silent =
    status_0 (answered_then answering checking (Ask asking (Exact (Some file))) (Ask asking (CheckExact file)) shelf between after out printed err said later_out later_printed later_err later_said status result answers checks still
    (λ status report answer. can_check_exactly shelf between asking file status report apart told stand answer) does low completes calm no_fault silent)
  where
    status_0 : IsStatus between (Ask asking (CheckExact file)) result ⊎ (result ≡ 11) → (result ≡ 0) ⊎ (result ≡ 11)
    status_0 (inl is) = inl is.2.4
    status_0 (inr want) = inr want
