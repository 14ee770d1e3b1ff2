-- Answers by moving runs alone.
use Rattle.std.proofs.Common.{◌≡◌, ◌≢◌, ℕ, zero, suc, ◌<◌, List, Some, refl, arith, sym, ◌∙◌}
use Rattle.wi_net.specs.declared.parts.LinkId.{LinkId}
use Rattle.wi_net.specs.Net.{Net}
use Rattle.wi_net.specs.Network.{IsNetwork}
use Rattle.wi_world.specs.declared.run.Run.{Run}
use Rattle.wi_world.specs.declared.answer.Word.TheVariants.{Yes}
use Rattle.wi_world.specs.declared.answer.Verdict.{Verdict}
use Rattle.wi_world.specs.declared.answer.Verdict.TheVariants.{Fits, Exceeds, UsesFailed}
use Rattle.wi_world.specs.Moves.{AreBounds}
use Rattle.wi_world.specs.Moving.{IsMovingRun}
use Rattle.wi_world.specs.Runs.{verdict_of}
use Rattle.wi_world.specs.Holds.{Question, Matches, Weighing, NoneMovingLess, NoTraceLess, IsYes, IsNo, Holds}
use Rattle.wi_world.specs.private.Holds.{word_for}
use Rattle.wi_world.proofs.MovingLaws.{moving_possible}
use Rattle.wi_world.proofs.RunLaws.{trace_moving, fits_trace, zero_fits}

module _ (net : Net) (question : Question) (k : IsNetwork net) (kb : AreBounds net question.bounds) where
  -- no trace matches where no moving run does
  pub no_from_moving : ((run : Run) → IsMovingRun net question.bounds run → Matches net question run → ⊥) → IsNo net question
  no_from_moving none = record { moving = none; traces = λ fails run a t m. none run (trace_moving net question.bounds fails run k kb a t) m }

  -- no trace weighs less where no moving run does
  pub least_from_moving : (weigh : Weighing) (w : List ℕ) → NoneMovingLess net question weigh w → NoTraceLess net question weigh w
  least_from_moving weigh w least = λ fails run a t m. least run (trace_moving net question.bounds fails run k kb a t) m

  -- what is shown with a yes is a moving run
  pub yes_moves : (weigh : Weighing) (w : List ℕ) (run : Run) (fails : List LinkId) → IsYes net question weigh w run fails → IsMovingRun net question.bounds run
  yes_moves weigh w run fails y = trace_moving net question.bounds fails run k kb y.allowed y.trace

  -- so yes and no never both hold
  pub yes_not_no : (weigh : Weighing) (w : List ℕ) (run : Run) (fails : List LinkId) → IsYes net question weigh w run fails → IsNo net question → ⊥
  yes_not_no weigh w run fails y n = n.moving run (yes_moves weigh w run fails y) y.matches

  some_may_fail : (run : Run) (v : Verdict) → IsMovingRun net question.bounds run → verdict_of net question.bounds run ≡ v → v ≢ Fits question.bounds.down → 0 < question.bounds.k
  some_may_fail run v m is other = go question.bounds.k refl
    where
      go : (n : ℕ) → question.bounds.k ≡ n → 0 < question.bounds.k
      go zero e = absurd (other (sym is ∙ zero_fits net question.bounds run k kb e (moving_possible net question.bounds run k kb m)))
      go (suc n) e = omega (arith, e)

  -- a least matching moving run gives the answer, by its verdict
  pub answer_by_verdict : (weigh : Weighing) (run : Run) (v : Verdict) → IsMovingRun net question.bounds run → Matches net question run → verdict_of net question.bounds run ≡ v → NoneMovingLess net question weigh (weigh run) → Holds net question weigh (word_for v) (Some (weigh run)) (Some run) (Some v)
  answer_by_verdict weigh run (Fits fails) m h is least =
      let t = fits_trace net question.bounds run fails k kb (moving_possible net question.bounds run k kb m) is in
      record { matches = h; allowed = t.1; trace = t.0; verdict = is; weight = refl; least_trace = least_from_moving weigh (weigh run) least; least_moving = least }
  answer_by_verdict weigh run (Exceeds n) m h is least =
      record { may_fail = some_may_fail run (Exceeds n) m is (λ e. cc); matches = h; moving = m; weight = refl; least_moving = least; verdict = is }
  answer_by_verdict weigh run (UsesFailed e) m h is least =
      record { may_fail = some_may_fail run (UsesFailed e) m is (λ d. cc); matches = h; moving = m; weight = refl; least_moving = least; verdict = is }

  -- yes holds with a verdict that fits, and so never beside a no
  pub yes_no : (weigh : Weighing) (w : List ℕ) (run : Run) (v : Verdict) → Holds net question weigh Yes (Some w) (Some run) (Some v) → IsNo net question → ⊥
  yes_no weigh w run (Fits fails) y n = yes_not_no weigh w run fails y n
  yes_no weigh w run (Exceeds c) y n = y
  yes_no weigh w run (UsesFailed e) y n = y
