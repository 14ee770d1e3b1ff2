-- Reports, computed. Packets come from x to a, and go from a to b, or from a by c to b; from b they go to y.
use Rattle.std.proofs.Common.{◌≡◌, ℕ, [], ◌∷◌, Some, None, refl}
use Rattle.std.specs.Prelude.{codes}
use Rattle.std.specs.Fmt.{digits}
use Rattle.wi_labels.specs.declared.label.Label.{Label}
use Rattle.wi_labels.specs.declared.label.Class.TheVariants.{Mpls, Smpls, Ip}
use Rattle.wi_labels.specs.declared.ops.Op.TheVariants.{Push, Pop}
use Rattle.wi_weight.specs.declared.kinds.Pair.{Pair}
use Rattle.wi_weight.specs.declared.kinds.Terms.{Terms}
use Rattle.wi_weight.specs.declared.kinds.Effort.{Effort}
use Rattle.wi_net.specs.declared.parts.LinkId.{LinkId}
use Rattle.wi_net.specs.declared.parts.Link.{Link}
use Rattle.wi_net.specs.declared.bounds.Bounds.{Bounds}
use Rattle.wi_net.specs.Net.{Net}
use Rattle.wi_world.specs.declared.run.Run.{Run}
use Rattle.wi_world.specs.declared.run.Step.{Step}
use Rattle.wi_world.specs.declared.run.End.{End}
use Rattle.wi_world.specs.declared.run.End.TheVariants.{Arrives, Inactive, Undefined}
use Rattle.wi_world.specs.declared.answer.Word.TheVariants.{Yes, No}
use Rattle.wi_world.specs.declared.answer.Verdict.TheVariants.{Fits}
use Rattle.wi_trace.specs.declared.answer.Answer.{Answer}
use Rattle.wi_text.specs.Names.{shown}
use Rattle.wi_faults.specs.Shown.{label_shown}
use Rattle.wi_report.specs.Reports.{run_shown, report_of, exact_report_of}
use Rattle.wi_report.specs.Tolerances.{none_up_to_text, tolerance_report_of}
use Rattle.wi_faults.specs.RefusedDecisions.{overflow_text}

abbrev label : ℕ → Label
label n = record { 0 = n }

abbrev id : ℕ → LinkId
id n = record { 0 = n }

abbrev link : ℕ → ℕ → ℕ → ℕ → ℕ → Link
link n a out b into = record { from = record { 0 = a }; out_if = record { 0 = out }; to = record { 0 = b }; in_if = record { 0 = into }; distance = 1; risk = id n }

-- the interfaces are o, x, b, a, c and y
abbrev net : Net
net = record {
  routers = codes "x" ∷ codes "a" ∷ codes "b" ∷ codes "c" ∷ codes "y" ∷ [];
  labels = codes "30" ∷ codes "s10" ∷ codes "ip1" ∷ codes "ip" ∷ codes "ip2" ∷ [];
  classes = Mpls ∷ Smpls ∷ Ip ∷ Ip ∷ Ip ∷ [];
  interfaces = codes "o" ∷ codes "x" ∷ codes "b" ∷ codes "a" ∷ codes "c" ∷ codes "y" ∷ [];
  links = link 0 0 0 1 1 ∷ link 1 1 2 2 3 ∷ link 2 1 4 3 3 ∷ link 3 3 2 2 4 ∷ link 4 2 5 4 2 ∷ [];
  rows =
      record { link = id 0; label = label 2; groups = (record { link = id 1; ops = Push (label 1) Smpls ∷ [] } ∷ []) ∷ (record { link = id 2; ops = Push (label 1) Smpls ∷ Push (label 0) Mpls ∷ [] } ∷ []) ∷ [] }
      ∷ record { link = id 0; label = label 4; groups = (record { link = id 1; ops = Push (label 1) Smpls ∷ [] } ∷ []) ∷ (record { link = id 2; ops = Push (label 1) Smpls ∷ Push (label 1) Smpls ∷ [] } ∷ []) ∷ [] }
      ∷ record { link = id 1; label = label 1; groups = (record { link = id 4; ops = Pop ∷ [] } ∷ []) ∷ [] }
      ∷ record { link = id 2; label = label 0; groups = (record { link = id 3; ops = Pop ∷ [] } ∷ []) ∷ [] }
      ∷ record { link = id 3; label = label 1; groups = (record { link = id 4; ops = Pop ∷ [] } ∷ []) ∷ [] } ∷ [];
}

abbrev step : ℕ → ℕ → Step
step j m = record { group = j; member = m }

-- by c and b to y
abbrev around : Run
around = record { first = id 0; header = (label 2, Ip) ∷ []; steps = step 1 0 ∷ step 0 0 ∷ step 0 0 ∷ []; end = Arrives }

abbrev weight : ℕ → ℕ → ℕ → Pair Terms Effort
weight a b effort = record { first = record { first = a; second = b; third = 0; fourth = 0; fifth = 0 }; second = record { count = effort } }

abbrev bounds : Bounds
bounds = record { k = 1; down = []; up = [] }

abbrev found : Answer
found = record { word = Yes; weight = Some (weight 4 12 10); run = Some around; verdict = Some (Fits (id 1 ∷ [])) }

by_two_terms : report_of net bounds 2 found ≡ codes "answer: yes\nweight: 4 12\neffort: 10\nfailed: a.b#b.a\nmoving: yes\nlinks: 4\nx.o#a.x | ip1\na.c#c.a | 30 s10 ip1 | group 2 member 1\nc.b#b.c | s10 ip1 | group 1 member 1\nb.y#y.b | ip1 | group 1 member 1\n"
unfolding digits
by_two_terms = refl

abbrev none : Answer
none = record { word = No; weight = None; run = None; verdict = None }

nothing_moves : report_of net bounds 2 none ≡ codes "answer: no\nmoving: no\n"
nothing_moves = refl

-- packets that are dropped: by no group, by no active one, or by an operation: the second group of ip2 pushes s10 on s10
abbrev set_out : ℕ → ℕ → End → Run
set_out e l end = record { first = id e; header = (label l, Ip) ∷ []; steps = []; end = end }

no_group : run_shown net (set_out 4 2 Inactive) ≡ codes "b.y#y.b | ip1\ndropped: no group\n"
no_group = refl

no_active_group : run_shown net (set_out 0 2 Inactive) ≡ codes "x.o#a.x | ip1\ndropped: no active group\n"
no_active_group = refl

second_operation : run_shown net (set_out 0 4 (Undefined (step 1 0))) ≡ codes "x.o#a.x | ip2\ndropped: group 2 member 1 operation 2 undefined\n"
unfolding digits
second_operation = refl

-- exact answers have the number of nodes in that line's place
exactly : exact_report_of net bounds 2 found 3 ≡ codes "answer: yes\nweight: 4 12\neffort: 10\nfailed: a.b#b.a\nnodes: 3\nlinks: 4\nx.o#a.x | ip1\na.c#c.a | 30 s10 ip1 | group 2 member 1\nc.b#b.c | s10 ip1 | group 1 member 1\nb.y#y.b | ip1 | group 1 member 1\n"
unfolding digits
exactly = refl

exactly_none : exact_report_of net bounds 2 none 15 ≡ codes "answer: no\nnodes: 15\n"
unfolding digits
exactly_none = refl

takes_one : tolerance_report_of net bounds 2 1 found 3 ≡ codes "least: 1\nanswer: yes\nweight: 4 12\neffort: 10\nfailed: a.b#b.a\nnodes: 3\nlinks: 4\nx.o#a.x | ip1\na.c#c.a | 30 s10 ip1 | group 2 member 1\nc.b#b.c | s10 ip1 | group 1 member 1\nb.y#y.b | ip1 | group 1 member 1\n"
unfolding digits
takes_one = refl

takes_more : none_up_to_text 12 ≡ codes "least: none up to 12\n"
unfolding digits
takes_more = refl

too_much_effort : overflow_text 0 (weight 0 0 27670116110564327421) ≡ codes "overflow: component 1 is 27670116110564327421\n"
unfolding digits
too_much_effort = refl

-- the name of a class as a label's, and a name with a space
class_word : label_shown net (label 3) ≡ codes "\"ip\""
class_word = refl

with_space : shown (codes "r 1") ≡ codes "\"r 1\""
with_space = refl
