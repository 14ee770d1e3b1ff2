-- What an exact answer tells.
use Rattle.std.proofs.Common.{◌≡◌, ℕ, List, Option, Some, None, Result, Ok, Err, refl, subst, sym}
use Rattle.std.specs.Prelude.{option_map, IfOk, OnOk}
use Rattle.wi_world.specs.declared.run.Run.{Run}
use Rattle.wi_world.specs.declared.answer.Word.{Word}
use Rattle.wi_world.specs.declared.answer.Word.TheVariants.{Yes, No, Inconclusive}
use Rattle.wi_world.specs.declared.answer.Verdict.{Verdict}
use Rattle.wi_world.specs.declared.answer.Verdict.TheVariants.{Fits, Exceeds, UsesFailed}
use Rattle.wi_quantity.specs.Weighing.{components}
use Rattle.wi_trace.specs.declared.answer.Answer.{Answer}
use Rattle.wi_trees.specs.Trees.{HoldsExactly}
use Rattle.wi_build.specs.Problems.{Problem, asks, weighs}
use Rattle.wi_accept.specs.Trees.{IsDecidedExactly}
use Rattle.wi_base.specs.declared.no_memory.NoMemory.{NoMemory}
use Rattle.wi_branch.specs.declared.refused.AnswerRefused.{AnswerRefused}
use Rattle.wi_branch.specs.declared.refused.AnswerRefused.TheVariants as refused
use Rattle.wi_branch.specs.Exactly.{IsAnswerRefused}
use Rattle.wi_settle.specs.declared.settled.Reply.{Reply}
use Rattle.wi_settle.specs.declared.settled.Reply.TheVariants as reply_as
use Rattle.wi_settle.specs.private.Asking.{IsReply, reply_by}

-- by all that it shows
reply_holds : (problem : Problem) (word : Word) (w : Option (List ℕ)) (run : Option Run) (verdict : Option Verdict) → HoldsExactly problem.net (asks problem) (weighs problem) word w run verdict → IsReply problem (reply_by problem.net run verdict)
reply_holds problem Yes (Some w) (Some run) (Some (Fits fails)) h = (
  record { fails = fails; run = run; allowed = h.allowed; trace = h.trace; matches = h.matches },
  record { run = run; union = h.allowed.union; down = h.allowed.down; up = h.allowed.up; trace = h.trace; matches = h.matches; used = refl },
)
reply_holds problem No None None None h = (λ has. h has.fails has.run has.allowed has.trace has.matches)
reply_holds problem Yes None run verdict h = elim h [ ]
reply_holds problem Yes (Some w) None verdict h = elim h [ ]
reply_holds problem Yes (Some w) (Some run) None h = elim h [ ]
reply_holds problem Yes (Some w) (Some run) (Some (Exceeds n)) h = elim h [ ]
reply_holds problem Yes (Some w) (Some run) (Some (UsesFailed e)) h = elim h [ ]
reply_holds problem No (Some w) run verdict h = elim h [ ]
reply_holds problem No None (Some run) verdict h = elim h [ ]
reply_holds problem No None None (Some verdict) h = elim h [ ]
reply_holds problem Inconclusive w run verdict h = elim h [ ]

reply_is : (problem : Problem) (answer : Answer) → IsDecidedExactly problem answer → IsReply problem (reply_by problem.net answer.run answer.verdict)
reply_is problem answer h = reply_holds problem answer.word (option_map components answer.weight) answer.run answer.verdict h

pub reply_ok : (r : Result Reply NoMemory) (problem : Problem) (answer : Answer) → IsDecidedExactly problem answer → IfOk r (λ reply. reply ≡ reply_by problem.net answer.run answer.verdict) → IfOk r (IsReply problem)
reply_ok (Ok reply) problem answer h is = subst (λ (x : Reply). IsReply problem x) (sym is) (reply_is problem answer h)
reply_ok (Err error) problem answer h is = tt

-- that there is none
pub open_reply : (r : Result Reply NoMemory) (problem : Problem) (cause : AnswerRefused) → IfOk r (λ reply. reply ≡ reply_as.Open) → OnOk r (cause ≡ refused.Memory → ⊥) → IsAnswerRefused problem 10000 cause → IfOk r (IsReply problem)
open_reply (Ok reply) problem cause is decided h = subst (λ (x : Reply). IsReply problem x) (sym is) (cause, decided, h)
open_reply (Err error) problem cause is decided h = tt
