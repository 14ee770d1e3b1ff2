-- What a line that was read means on a network.
use Rattle.std.specs.Prelude.{◌≡◌, ◌≢◌, ◌⊎◌, ℕ, ◌+◌, true, false, List, [], ◌∷◌, ◌++◌, length, if◌then◌else◌, Option, Some, None, option_map, Result, Ok, Err}
use Rattle.std.specs.Global.{Vec}
use Rattle.wi_labels.specs.Header.{Entry, is_valid_header}
use Rattle.wi_text.specs.Lines.{AreLines, lines_bytes, is_one_line}
use Rattle.wi_net.specs.declared.parts.LinkId.{LinkId}
use Rattle.wi_net.specs.Net.{Net}
use Rattle.wi_world.specs.declared.world.Event.{Event}
use Rattle.wi_script.specs.declared.script.ScriptCause.{ScriptCause}
use Rattle.wi_script.specs.declared.script.ScriptCause.TheVariants.{NotAnEvent, UnknownName, BadHeader}
use Rattle.wi_script.specs.declared.script.ScriptRefused.{ScriptRefused}
use Rattle.wi_script.specs.declared.script.ScriptRefused.TheVariants.{BadLine, Memory}
use Rattle.wi_script.specs.Lines.{Name, Joint}
use Rattle.wi_script.specs.Scripts.{link_of, label_of, event_of, Begins, Happens, IsCause, AllHappen}
use Rattle.wi_script.specs.private.Reading.{◌>>=◌, start_in, event_in}

-- the labels of names, if each is one
unfoldable pub header_of : Net → List Name → Option (List Entry)
header_of net [] = Some []
header_of net (n ∷ names) = do
  l ← label_of net n
  option_map (λ h. l ∷ h) (header_of net names)

-- where the first line puts the packet
unfoldable pub begin_of : Net → Joint × List Name → Option (LinkId × List Entry)
begin_of net start = do
  e ← link_of net start.0
  h ← header_of net start.1
  Some (e, h)

-- a header that is valid
abbrev pub valid : LinkId × List Entry → Result (LinkId × List Entry) ScriptCause
valid begin = if is_valid_header begin.1 then Ok begin else Err BadHeader

-- what a text is as the first line
unfoldable pub start_read : Net → List ℕ → Result (LinkId × List Entry) ScriptCause
start_read net text = elim (start_in text) [ None ↦ Err NotAnEvent | Some start ↦ elim (begin_of net start) [ None ↦ Err UnknownName | Some begin ↦ valid begin ] ]

-- what a text is as another line
unfoldable pub event_read : Net → List ℕ → Result Event ScriptCause
event_read net text = elim (event_in text) [ None ↦ Err NotAnEvent | Some line ↦ elim (event_of net line) [ None ↦ Err UnknownName | Some event ↦ Ok event ] ]

-- what was answered of the first line is what it is, unless memory ran out
abbrev pub Starts : Result (LinkId × List Entry) ScriptRefused → Result (LinkId × List Entry) ScriptCause → Type 0
Starts (Ok begin) read = read ≡ Ok begin
Starts (Err (BadLine n cause)) read = (n ≡ 1) × (read ≡ Err cause)
Starts (Err Memory) read = Unit {0}

-- a line's bytes as the first line
abbrev pub IsStart : Net → List ℕ → Result (LinkId × List Entry) ScriptRefused → Type 0
IsStart net line (Ok begin) = Begins net line begin.0 begin.1 × (is_valid_header begin.1 ≡ true)
IsStart net line (Err (BadLine n cause)) = (n ≡ 1) × IsCause net true line cause
IsStart net line (Err Memory) = Unit {0}

-- a line's bytes as another line
abbrev pub IsEvent : Net → List ℕ → Result Event ScriptCause → Type 0
IsEvent net line (Ok event) = Happens net line event
IsEvent net line (Err cause) = IsCause net false line cause

-- lines that are events, and what is left behind them
pub record AreEvents (net : Net) (bytes : List ℕ) (events : List Event) (left : List ℕ) : Type 0 where
  pub before : List (List ℕ)
  pub lines : AreLines before
  pub bytes_are : bytes ≡ lines_bytes before ++ left
  pub happen : AllHappen net before events

-- what is left begins with a line that is no event, for this cause, or has no line feed
abbrev pub IsNoEvent : Net → List ℕ → ScriptCause → Type 0
IsNoEvent net left cause =
    ((text rest : List ℕ) × (left ≡ text ++ 10 ∷ rest) × (is_one_line text ≡ true) × IsCause net false text cause)
    ⊎ ((is_one_line left ≡ true) × (cause ≡ NotAnEvent) × (left ≢ []))

-- what was answered of the lines behind the first
abbrev pub IsRest : Net → List ℕ → Result (Vec Event) ScriptRefused → Type 0
IsRest net bytes (Ok events) = AreEvents net bytes events.items []
IsRest net bytes (Err (BadLine n cause)) = (events : List Event) × (left : List ℕ) × AreEvents net bytes events left × (n ≡ length events + 2) × IsNoEvent net left cause
IsRest net bytes (Err Memory) = Unit {0}
