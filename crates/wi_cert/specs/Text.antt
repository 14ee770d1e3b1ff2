-- The text of a certificate, and the first bad line of a text of any form.
use Rattle.std.specs.Prelude.{◌≡◌, ℕ, ◌+◌, List, [], ◌∷◌, ◌++◌, length, codes, Some, None, Contains}
use Rattle.std.specs.List.{flat_map}
use Rattle.wi_cert.specs.declared.certificate.Certificate.{Certificate}
use Rattle.wi_cert.specs.Shown.{certificate_front, title_line, shown_lines, IsShown, HasShownRanges}
use Rattle.wi_cert.specs.Closed.{closed_lines, IsClosed, HasClosedRanges}
use Rattle.wi_cert.specs.Reading.{Form, filled}

abbrev pub ended : List ℕ → List ℕ
ended line = line ++ 10 ∷ []

abbrev pub lines_of : Certificate → List (List ℕ)
lines_of c = title_line certificate_front c.shown.dropped ∷ (shown_lines c.shown ++ (closed_lines c.closed ++ codes "end" ∷ []))

-- the lines, each with its end
abbrev pub text : Certificate → List ℕ
text c = flat_map ended (lines_of c)

-- the lines from `heads` on, each with its end
abbrev pub closed_text : Certificate → List ℕ
closed_text c = flat_map ended (closed_lines c.closed ++ codes "end" ∷ [])

-- a certificate that can be written, but for the ranges of its numbers
pub record IsWritable (c : Certificate) : Type 0 where
  pub shown : IsShown c.shown
  pub closed : IsClosed c.shown c.closed

-- the ranges that a certificate's numbers have by their types
pub record HasRanges (c : Certificate) : Type 0 where
  pub shown : HasShownRanges c.shown
  pub closed : HasClosedRanges c.closed

-- The bytes are the text of the certificate.
pub record IsText (c : Certificate) (bytes : List ℕ) : Type 0 where
  pub writable : IsWritable c
  pub ranges : HasRanges c
  pub is : bytes ≡ text c

-- what follows whole lines begins with no line that is asked: its first line isn't of that form, or has no end
abbrev pub BeginsBadly : {S C : Type 0} → Form S C → S → List ℕ → Type 0
BeginsBadly form s rest = (line after : List ℕ) → rest ≡ ended line ++ after → (Contains line 10 → ⊥) → form.asked s line ≡ None

-- Line n of the bytes is the first that isn't of the form asked in its place, judged by it and the lines before it. A line that
-- is missing counts, and so does one without its end.
pub record IsBadLine {S C : Type 0} (form : Form S C) (bytes : List ℕ) (n : ℕ) : Type 0 where
  pub lines : List (List ℕ)
  pub rest : List ℕ
  pub sheet : S
  pub is : bytes ≡ flat_map ended lines ++ rest
  pub whole : (line : List ℕ) → Contains lines line → Contains line 10 → ⊥
  pub number : n ≡ length lines + 1
  pub good : filled form form.blank lines ≡ Some sheet
  pub bad : BeginsBadly form sheet rest
  pub unfinished : (c : C) → form.made sheet ≡ Some c → rest ≡ [] → ⊥
