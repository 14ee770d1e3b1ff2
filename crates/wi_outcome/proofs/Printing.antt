-- What is left where what was to be printed isn't.
use Rattle.std.proofs.Common.{◌≡◌, ℕ, ◌<◌, ◌-◌, ◌^◌, ◌⊎◌, inl, inr, true, List, ◌++◌, take, Result, Ok, Err, refl, ap, ◌∙◌, arith}
use Rattle.std.specs.Result.{IsErrOf}
use Rattle.wi_base.specs.Sink.{SinkSeen, Counts}
use Rattle.wi_base.specs.declared.sink.PutRefused.{PutRefused}
use Rattle.wi_base.specs.declared.sink.PutRefused.TheVariants.{Failed, Memory}
use Rattle.wi_outcome.specs.Edges.{Prints, SaysWhy, unprinted}

rises : (old new : ℕ) → old < 2 ^ 64 - 1 → (old < new) ⊎ ((old ≡ 2 ^ 64 - 1) × (new ≡ 2 ^ 64 - 1)) → old < new
rises old new room (inl less) = less
rises old new room (inr full) = let at = full.0 in absurd (omega (arith, room, at))

pub not_printed : {A : Type 0} (r : Result A PutRefused) (refused : PutRefused) (status : ℕ) (text piece : List ℕ) (out_old out_new err_old err_new : SinkSeen) (result : ℕ) → r ≡ Err refused → piece ≡ text → out_old.faults < 2 ^ 64 - 1
    → (out_old.told ≡ true → IsErrOf r Failed → (n : ℕ) × (out_new.written ≡ out_old.written ++ take n piece)) → (out_old.told ≡ true → IsErrOf r Memory → out_new.written ≡ out_old.written)
    → Counts r out_old.faults out_new.faults → SaysWhy (unprinted refused) err_old err_new result → Prints status text out_old out_new err_old err_new result
not_printed (Ok x) refused status text piece out_old out_new err_old err_new result is same room failed memory counts says = let no : ⊥ = cc in absurd no
not_printed (Err Failed) Failed status text piece out_old out_new err_old err_new result is same room failed memory counts says =
    inr (inl (record { bytes = λ told. (let part = failed told refl in (part.0, part.1 ∙ ap (λ t. out_old.written ++ take part.0 t) same)); fault = rises out_old.faults out_new.faults room counts }, says))
not_printed (Err Memory) Memory status text piece out_old out_new err_old err_new result is same room failed memory counts says = inr (inr (record { bytes = λ told. memory told refl; calm = counts }, says))
not_printed (Err Failed) Memory status text piece out_old out_new err_old err_new result is same room failed memory counts says = let no : ⊥ = cc in absurd no
not_printed (Err Memory) Failed status text piece out_old out_new err_old err_new result is same room failed memory counts says = let no : ⊥ = cc in absurd no
