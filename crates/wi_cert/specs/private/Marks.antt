-- How far the lines had come, and what going back there leaves.
use Rattle.std.specs.Prelude.{◌≡◌, ℕ, ◌+◌, List, [], ◌++◌, Option, Some, None, Result, Ok, Err, length, take}
use Rattle.wi_cert.specs.declared.certificate.Place.{Place}
use Rattle.wi_cert.specs.declared.certificate.Place.TheVariants as places
use Rattle.wi_cert.specs.declared.shown.Dropped.{Dropped}
use Rattle.wi_cert.specs.declared.shown.Shown.{Shown}
use Rattle.wi_cert.specs.declared.shown.ShownMark.{ShownMark}
use Rattle.wi_cert.specs.declared.shown.ShownPlace.{ShownPlace}
use Rattle.wi_cert.specs.declared.shown.ShownPlace.TheVariants.{Terms, Answer, Weight, First, StepCount, Step, Dropped as DroppedAt}
use Rattle.wi_cert.specs.declared.closed.Closed.{Closed}
use Rattle.wi_cert.specs.declared.closed.ClosedMark.{ClosedMark}
use Rattle.wi_cert.specs.declared.closed.ClosedPlace.{ClosedPlace}
use Rattle.wi_cert.specs.declared.closed.ClosedPlace.TheVariants.{HeadCount, Head, PairCount, Pair, RowCount, Row}
use Rattle.wi_cert.specs.declared.draft.Mark.{Mark}
use Rattle.wi_cert.specs.Shown.{dropped_lines}
use Rattle.wi_cert.specs.Sheets.{Sheet, sheet}
use Rattle.wi_cert.specs.Reading.{Reading, Fed}

-- how many lines stand before a place in version 1, but for those of the lists
abbrev pub shown_rank : ShownPlace → ℕ
shown_rank Terms = 1
shown_rank Answer = 2
shown_rank Weight = 3
shown_rank First = 4
shown_rank StepCount = 5
shown_rank (Step n) = 6
shown_rank DroppedAt = 6

abbrev pub closed_rank : ClosedPlace → ℕ
closed_rank HeadCount = 6
closed_rank (Head n) = 7
closed_rank PairCount = 7
closed_rank (Pair n) = 8
closed_rank RowCount = 8
closed_rank (Row n) = 9

-- how many lines say how the packet is dropped
abbrev pub dropped_count : Option Dropped → ℕ
dropped_count dropped = length (dropped_lines dropped)

-- the same in either version: behind the steps one line more stands before a place in version 2
abbrev pub rank : Place → Option Dropped → ℕ
rank places.Title dropped = 0
rank (places.Shown p) dropped = shown_rank p
rank (places.Closed p) dropped = closed_rank p + dropped_count dropped
rank places.End dropped = 9 + dropped_count dropped
rank places.Done dropped = 10 + dropped_count dropped

-- how many lines lead to the sheet
abbrev pub line_count : Sheet → ℕ
line_count s = rank s.place s.certificate.shown.dropped + length s.certificate.shown.steps + length s.certificate.closed.heads + length s.certificate.closed.pairs + length s.certificate.closed.rows

-- the reading with these bytes of the next line, where so many lines lead to a sheet
abbrev pub reading : {S : Type 0} → (S → ℕ) → List ℕ → S → Reading S
reading count held s = record { lines = count s; held = held; sheet = s }

abbrev pub fed_so_far : {S : Type 0} → (S → ℕ) → Option ℕ → List ℕ → S → Fed S
fed_so_far count None held s = Ok (reading count held s)
fed_so_far count (Some n) held s = Err n

-- where no line was taken, all is as before
abbrev pub Keeps : {A E V : Type 0} → Result (Option A) E → V → V → Type 0
Keeps (Ok (Some x)) old new = Unit {0}
Keeps (Ok None) old new = new ≡ old
Keeps (Err e) old new = new ≡ old

abbrev pub shown_mark : Shown → ShownMark
shown_mark s = record { terms = s.terms; claim = s.claim; weight = length s.weight; first = length s.first; steps = length s.steps; dropped = s.dropped }

abbrev pub closed_mark : Closed → ClosedMark
closed_mark c = record { heads = length c.heads; pairs = length c.pairs; rows = length c.rows }

abbrev pub mark_of : Sheet → Mark
mark_of s = record { place = s.place; shown = shown_mark s.certificate.shown; closed = closed_mark s.certificate.closed }

-- back at the mark
abbrev pub shown_back : ShownMark → Shown → Shown
shown_back m s = record { terms = m.terms; claim = m.claim; weight = take m.weight s.weight; first = take m.first s.first; steps = take m.steps s.steps; dropped = m.dropped }

abbrev pub closed_back : ClosedMark → Closed → Closed
closed_back m c = record { heads = take m.heads c.heads; pairs = take m.pairs c.pairs; rows = take m.rows c.rows }

abbrev pub back : Mark → Sheet → Sheet
back m s = sheet m.place (record { shown = shown_back m.shown s.certificate.shown; closed = closed_back m.closed s.certificate.closed })

-- the second list goes on from the first
pub record IsFront {A : Type 0} (xs ys : List A) : Type 0 where
  pub rest : List A
  pub is : ys ≡ xs ++ rest

-- the new lists go on from the old ones
pub record FollowsShown (old new : Shown) : Type 0 where
  pub weight : IsFront old.weight new.weight
  pub first : IsFront old.first new.first
  pub steps : IsFront old.steps new.steps

pub record FollowsClosed (old new : Closed) : Type 0 where
  pub heads : IsFront old.heads new.heads
  pub pairs : IsFront old.pairs new.pairs
  pub rows : IsFront old.rows new.rows

pub record Follows (old new : Sheet) : Type 0 where
  pub shown : FollowsShown old.certificate.shown new.certificate.shown
  pub closed : FollowsClosed old.certificate.closed new.certificate.closed

-- the lists of lines that are still to come are empty
abbrev pub IsUnreadShown : ShownPlace → Shown → Type 0
IsUnreadShown Terms s = (s.weight ≡ []) × (s.first ≡ [])
IsUnreadShown Answer s = (s.weight ≡ []) × (s.first ≡ [])
IsUnreadShown Weight s = (s.weight ≡ []) × (s.first ≡ [])
IsUnreadShown First s = s.first ≡ []
IsUnreadShown StepCount s = Unit {0}
IsUnreadShown (Step n) s = Unit {0}
IsUnreadShown DroppedAt s = Unit {0}

abbrev pub IsUnread : Place → Shown → Type 0
IsUnread places.Title s = (s.weight ≡ []) × (s.first ≡ [])
IsUnread (places.Shown p) s = IsUnreadShown p s
IsUnread (places.Closed p) s = Unit {0}
IsUnread places.End s = Unit {0}
IsUnread places.Done s = Unit {0}
