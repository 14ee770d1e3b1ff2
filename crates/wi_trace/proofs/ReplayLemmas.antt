-- What a replay answers, from whether there is a fault.
use Rattle.std.proofs.Common.{◌≡◌, ℕ, List, Some, None, Result, Ok, Err, refl, OnOk, IfOk, IfErr, true}
use Rattle.wi_net.specs.declared.parts.LinkId.{LinkId}
use Rattle.wi_net.specs.declared.bounds.Bounds.{Bounds}
use Rattle.wi_net.specs.Net.{Net}
use Rattle.wi_net.specs.Network.{IsNetwork}
use Rattle.wi_world.specs.declared.run.Run.{Run}
use Rattle.wi_world.specs.Moves.{Location, is_trace, AreBounds}
use Rattle.wi_world.specs.Moving.{IsMovingRun}
use Rattle.wi_world.specs.Runs.{trace_of}
use Rattle.wi_world.proofs.MovingLaws.{moving_possible, possible_moving}
use Rattle.wi_trace.specs.declared.cause.Cause.{Cause}
use Rattle.wi_trace.specs.declared.cause.ReplayRefused.{ReplayRefused}
use Rattle.wi_trace.specs.declared.cause.ReplayRefused.TheVariants.{Fault, Memory}
use Rattle.wi_trace.specs.Replays.{trace_fault, moving_fault, IsNoTrace, IsNoMovingRun}
use Rattle.wi_trace.proofs.FaultLemmas.{trace_fault_none, fault_no_trace, moving_fault_none, fault_not_possible}

pub is_replayed : (net : Net) (fails : List LinkId) (run : Run) (r : Result (List Location) ReplayRefused) → OnOk r (trace_fault net fails run ≡ None) → IfOk r (λ trace. trace ≡ trace_of net run) → IfOk r (λ trace. (is_trace net fails run ≡ true) × (trace ≡ trace_of net run))
is_replayed net fails run (Ok trace) none is = (trace_fault_none net fails run none, is)
is_replayed net fails run (Err e) none is = tt

pub is_refused : (net : Net) (fails : List LinkId) (run : Run) (r : Result (List Location) ReplayRefused) → ((n : ℕ) (cause : Cause) → r ≡ Err (Fault n cause) → trace_fault net fails run ≡ Some (n, cause)) → IfErr r (λ fault. IsNoTrace net fails run fault)
is_refused net fails run (Ok trace) fault = tt
is_refused net fails run (Err (Fault n cause)) fault = let is = fault n cause refl in (fault_no_trace net fails run n cause is, is)
is_refused net fails run (Err Memory) fault = tt

pub moves : (net : Net) (b : Bounds) (run : Run) (r : Result (List Location) ReplayRefused) → IsNetwork net → AreBounds net b → OnOk r (moving_fault net b run ≡ None) → IfOk r (λ trace. trace ≡ trace_of net run) → IfOk r (λ trace. IsMovingRun net b run × (trace ≡ trace_of net run))
moves net b run (Ok trace) k kb none is = (possible_moving net b run k kb (moving_fault_none net b run none), is)
moves net b run (Err e) k kb none is = tt

pub moves_not : (net : Net) (b : Bounds) (run : Run) (r : Result (List Location) ReplayRefused) → IsNetwork net → AreBounds net b → ((n : ℕ) (cause : Cause) → r ≡ Err (Fault n cause) → moving_fault net b run ≡ Some (n, cause)) → IfErr r (λ fault. IsNoMovingRun net b run fault)
moves_not net b run (Ok trace) k kb fault = tt
moves_not net b run (Err (Fault n cause)) k kb fault = let is = fault n cause refl in (λ m. fault_not_possible net b run n cause is (moving_possible net b run k kb m), is)
moves_not net b run (Err Memory) k kb fault = tt
