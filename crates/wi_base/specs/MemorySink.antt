-- A sink in memory.
use Rattle.std.specs.Prelude.{ℕ, ◌==◌, List, Option}
use Rattle.std.specs.List.{find}
use Rattle.wi_base.specs.declared.memory_sink.FailingPut.{FailingPut}

-- what was written, how many calls failed, which calls are to fail, and how many calls there were
pub record Written : Type 0 where
  pub bytes : List ℕ
  pub faults : ℕ
  pub failing : List FailingPut
  pub calls : ℕ

-- how a call is to fail, if it is
abbrev pub failing_at : List FailingPut → ℕ → Option FailingPut
failing_at failing call = find (λ f. f.call == call) failing
