-- What a script means on a network, or its first line that has a fault.
use Rattle.std.specs.Prelude.{◌≡◌, ◌≢◌, ℕ, ◌+◌, ◌-◌, ◌^◌, min, ◌⊎◌, Bool, true, false, ◌==◌, if◌then◌else◌, List, [], ◌∷◌, ◌++◌, length, map, slice_get, Option, Some, None}
use Rattle.std.specs.Option.{option_map, option_and_then}
use Rattle.std.specs.Str.Parse.{digits_value}
use Rattle.wi_labels.specs.Header.{Entry, is_valid_header}
use Rattle.wi_text.specs.Lines.{AreLines, lines_bytes, is_one_line}
use Rattle.wi_net.specs.declared.parts.LinkId.{LinkId}
use Rattle.wi_net.specs.Net.{Net}
use Rattle.wi_net.specs.Finding.{find_label, find_router, find_out, find_in}
use Rattle.wi_world.specs.declared.world.Event.{Event}
use Rattle.wi_world.specs.declared.world.Event.TheVariants as event
use Rattle.wi_script.specs.declared.script.Script.{Script}
use Rattle.wi_script.specs.declared.script.ScriptCause.{ScriptCause}
use Rattle.wi_script.specs.declared.script.ScriptCause.TheVariants.{NotAnEvent, UnknownName, BadHeader}
use Rattle.wi_script.specs.declared.script.ScriptRefused.{ScriptRefused}
use Rattle.wi_script.specs.declared.script.ScriptRefused.TheVariants.{BadLine, Memory}
use Rattle.wi_script.specs.Lines.{Name, Joint, Line, At, Fail, Repair, Hop, IsLine}

-- the link between two interfaces, if there is one
abbrev pub link_of : Net → Joint → Option LinkId
link_of net j =
    option_and_then (λ out. option_and_then (λ into. if out.0 == into.0 then Some out else None) (option_and_then (λ r. find_in net r j.into.text) (find_router net j.to.text)))
    (option_and_then (λ r. find_out net r j.out.text) (find_router net j.from.text))

-- a label of a name, with its class
abbrev pub label_of : Net → Name → Option Entry
label_of net n = option_and_then (λ l. option_map (λ c. (l, c)) (slice_get net.classes l.0)) (find_label net n.text)

-- a number from 1 as one from 0; those past 32 bits are the greatest, which no group or member has
abbrev pub number_of : List ℕ → ℕ
number_of s = min (digits_value 10 s - 1) (2 ^ 32 - 1)

-- the event of a line that isn't the first
abbrev pub event_of : Net → Line → Option Event
event_of net (At j labels) = None
event_of net (Fail j) = option_map event.Fail (link_of net j)
event_of net (Repair j) = option_map event.Repair (link_of net j)
event_of net (Hop group member) = Some (event.Hop (record { group = number_of group; member = number_of member }))

-- the first line says where the packet is, with a header of the network's labels; it may be no valid one
pub record Begins (net : Net) (text : List ℕ) (e : LinkId) (h : List Entry) : Type 0 where
  pub joint : Joint
  pub labels : List Name
  pub line : IsLine true text (At joint labels)
  pub link : link_of net joint ≡ Some e
  pub header : map (label_of net) labels ≡ map Some h

-- each other line is an event
pub record Happens (net : Net) (text : List ℕ) (event : Event) : Type 0 where
  pub line : Line
  pub form : IsLine false text line
  pub means : event_of net line ≡ Some event

abbrev pub AllHappen : Net → List (List ℕ) → List Event → Type 0
AllHappen net [] [] = Unit {0}
AllHappen net (text ∷ texts) (event ∷ events) = Happens net text event × AllHappen net texts events
AllHappen net _ _ = ⊥

-- the bytes are a script
pub record IsScript (net : Net) (text : List ℕ) (script : Script) : Type 0 where
  pub first : List ℕ
  pub more : List (List ℕ)
  pub lines : AreLines (first ∷ more)
  pub bytes : text ≡ lines_bytes (first ∷ more)
  pub begins : Begins net first script.first script.header
  pub valid : is_valid_header script.header ≡ true
  pub events : AllHappen net more script.events

-- why a line is refused by its form or its names
abbrev pub IsCause : Net → Bool → List ℕ → ScriptCause → Type 0
IsCause net first text NotAnEvent = (line : Line) → IsLine first text line → ⊥
IsCause net true text UnknownName = (line : Line) × IsLine true text line × ((link : LinkId) (header : List Entry) → Begins net text link header → ⊥)
IsCause net false text UnknownName = (line : Line) × IsLine false text line × (event_of net line ≡ None)
IsCause net true text BadHeader = (link : LinkId) × (header : List Entry) × Begins net text link header × (is_valid_header header ≡ false)
IsCause net _ text _ = ⊥

-- lines that have no fault
abbrev pub AreFine : Net → List (List ℕ) → Type 0
AreFine net [] = Unit {0}
AreFine net (first ∷ more) = ((link : LinkId) × (header : List Entry) × Begins net first link header × (is_valid_header header ≡ true)) × ((events : List Event) × AllHappen net more events)

-- no line is before
abbrev pub is_first : List (List ℕ) → Bool
is_first [] = true
is_first (line ∷ lines) = false

-- what is left begins with a line that has this cause, or has no line feed: then it is no event, unless nothing is left
-- behind a line
abbrev pub IsFaultLine : Net → List (List ℕ) → List ℕ → ScriptCause → Type 0
IsFaultLine net before left cause =
    ((text rest : List ℕ) × (left ≡ text ++ 10 ∷ rest) × (is_one_line text ≡ true) × IsCause net (is_first before) text cause)
    ⊎ ((is_one_line left ≡ true) × (cause ≡ NotAnEvent) × ((left ≢ []) ⊎ (before ≡ [])))

-- the lines before a number have no fault, and the one of that number has this as its first: it is there, or there is none
-- with a line feed
pub record IsBadLine (net : Net) (text : List ℕ) (n : ℕ) (cause : ScriptCause) : Type 0 where
  pub before : List (List ℕ)
  pub lines : AreLines before
  pub fine : AreFine net before
  pub number : n ≡ length before + 1
  pub left : List ℕ
  pub bytes : text ≡ lines_bytes before ++ left
  pub fault : IsFaultLine net before left cause

-- what is answered where bytes are no script
abbrev pub IsNoScript : Net → List ℕ → ScriptRefused → Type 0
IsNoScript net bytes (BadLine n cause) = IsBadLine net bytes n cause
IsNoScript net bytes Memory = Unit {0}
