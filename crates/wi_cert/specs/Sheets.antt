-- A certificate line by line: what each line of the form asked in its place adds.
use Rattle.std.specs.Prelude.{ℕ, Bool, true, false, if◌then◌else◌, List, Option, Some, None, codes, option_map}
use Rattle.std.specs.Option.{option_map_or}
use Rattle.std.specs.Str.{bytes_eq}
use Rattle.wi_cert.specs.declared.certificate.Certificate.{Certificate}
use Rattle.wi_cert.specs.declared.certificate.Place.{Place}
use Rattle.wi_cert.specs.declared.certificate.Place.TheVariants as places
use Rattle.wi_cert.specs.declared.shown.ShownPlace.TheVariants.{Terms}
use Rattle.wi_cert.specs.declared.closed.ClosedPlace.TheVariants.{HeadCount}
use Rattle.wi_cert.specs.Shown.{certificate_front, titled, asked_shown, blank_shown}
use Rattle.wi_cert.specs.Closed.{asked_closed, blank_closed}
use Rattle.wi_cert.specs.Reading.{Form}

-- what the lines so far leave: the place of the next line, and the certificate so far
pub record Sheet : Type 0 where
  pub place : Place
  pub certificate : Certificate

abbrev pub sheet : Place → Certificate → Sheet
sheet place certificate = record { place = place; certificate = certificate }

-- the sheet before the first line
abbrev pub blank : Sheet
blank = sheet places.Title (record { shown = blank_shown; closed = blank_closed })

-- The sheet after a line of the form asked in its place. None: the line isn't of that form.
abbrev pub asked : Place → Certificate → List ℕ → Option Sheet
asked places.Title c line = option_map (λ dropped. sheet (places.Shown Terms) (record c { shown = record c.shown { dropped = dropped } })) (titled certificate_front line)
asked (places.Shown place) c line = option_map (λ s. sheet (option_map_or places.Shown s.0 (places.Closed HeadCount)) (record c { shown = s.1 })) (asked_shown place c.shown line)
asked (places.Closed place) c line = option_map (λ s. sheet (option_map_or places.Closed s.0 places.End) (record c { closed = s.1 })) (asked_closed c.shown place c.closed line)
asked places.End c line = if bytes_eq line (codes "end") then Some (sheet places.Done c) else None
asked places.Done c line = None

abbrev pub is_done : Place → Bool
is_done places.Done = true
is_done place = false

-- how a certificate is read
abbrev pub certificates : Form Sheet Certificate
certificates = record { blank = blank; asked = λ s line. asked s.place s.certificate line; made = λ s. if is_done s.place then Some s.certificate else None }
