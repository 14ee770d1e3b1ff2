-- What was put on a sink: what is printed, and what is said.
use Rattle.std.specs.Prelude.{◌≡◌, ◌⊎◌, ℕ, ◌<◌, ◌==◌, true, if◌then◌else◌, List, ◌++◌, take, codes}
use Rattle.wi_base.specs.Sink.{SinkSeen}
use Rattle.wi_base.specs.declared.sink.PutRefused.{PutRefused}
use Rattle.wi_base.specs.declared.sink.PutRefused.TheVariants as put
use Rattle.wi_outcome.specs.Texts.{IsPutTogether, status_of, text_of}
use Rattle.wi_outcome.specs.declared.refusal.Refusal.{Refusal}
use Rattle.wi_outcome.specs.declared.refusal.Refusal.TheVariants.{CannotPrint, Memory}

-- nothing was put on it
pub record Untouched (old new : SinkSeen) : Type 0 where
  pub bytes : new.written ≡ old.written
  pub calm : new.faults ≡ old.faults

-- the whole text was put
pub record PutAll (text : List ℕ) (old new : SinkSeen) : Type 0 where
  pub bytes : old.told ≡ true → new.written ≡ old.written ++ text
  pub calm : new.faults ≡ old.faults

-- the call failed after a part of the text
pub record PutPart (text : List ℕ) (old new : SinkSeen) : Type 0 where
  pub bytes : old.told ≡ true → (n : ℕ) × (new.written ≡ old.written ++ take n text)
  pub fault : old.faults < new.faults

-- memory ran out before anything was written
pub record PutNothing (old new : SinkSeen) : Type 0 where
  pub bytes : old.told ≡ true → new.written ≡ old.written
  pub calm : new.faults ≡ old.faults

-- the status where memory runs out: 10 stays, each other becomes 11
abbrev pub kept : ℕ → ℕ
kept status = if status == 10 then 10 else 11

-- a text was said, with the status that goes with it; or couldn't be said
abbrev pub Says : List ℕ → ℕ → SinkSeen → SinkSeen → ℕ → Type 0
Says text status old new result =
    (PutAll text old new × (result ≡ status))
    ⊎ (PutPart text old new × (result ≡ 10))
    ⊎ (PutNothing old new × (result ≡ kept status))

-- it was said why; or that memory ran out, where the text is put together when it is said and there was none for it
abbrev pub SaysWhy : Refusal → SinkSeen → SinkSeen → ℕ → Type 0
SaysWhy refusal old new result =
    Says (text_of refusal) (status_of refusal) old new result
    ⊎ (IsPutTogether refusal × Says (codes "whatif: out of memory\n") 11 old new result)

-- why what was to be printed isn't
abbrev pub unprinted : PutRefused → Refusal
unprinted put.Failed = CannotPrint
unprinted put.Memory = Memory

-- a report was printed, and nothing was said; or it wasn't, and it was said why
abbrev pub Prints : ℕ → List ℕ → SinkSeen → SinkSeen → SinkSeen → SinkSeen → ℕ → Type 0
Prints status text out_old out_new err_old err_new result =
    (PutAll text out_old out_new × Untouched err_old err_new × (result ≡ status))
    ⊎ (PutPart text out_old out_new × SaysWhy CannotPrint err_old err_new result)
    ⊎ (PutNothing out_old out_new × SaysWhy Memory err_old err_new result)
