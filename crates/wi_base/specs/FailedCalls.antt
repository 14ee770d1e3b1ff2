-- The failed calls of a shelf, as its contract sees them.
use Rattle.std.specs.Prelude.{ℕ, List, map, string_bytes}
use Rattle.wi_base.specs.declared.shelf.CallKind.{CallKind}
use Rattle.wi_base.specs.declared.failed_call.FailedCall.{FailedCall}

-- a failed call's kind and its name
abbrev pub call_of : FailedCall → CallKind × List ℕ
call_of call = (call.kind, string_bytes call.name)

-- the kinds and the names of failed calls
abbrev pub calls_of : List FailedCall → List (CallKind × List ℕ)
calls_of calls = map call_of calls
