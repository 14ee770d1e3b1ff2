-- How a line is read by its form, from the left.
use Rattle.std.specs.Prelude.{ℕ, zero, suc, ◌==◌, ◌&&◌, nat_lt, true, false, List, [], ◌∷◌, length, codes, take, drop, map, if◌then◌else◌, Option, Some, None, option_map, option_and_then}
use Rattle.std.specs.List.{list_all, prefix_len}
use Rattle.wi_text.specs.Characters.{is_name_byte, is_plain}
use Rattle.wi_script.specs.declared.line.WrittenName.{WrittenName}
use Rattle.wi_script.specs.declared.line.WrittenName.TheVariants as name
use Rattle.wi_script.specs.declared.line.WrittenJoint.{WrittenJoint}
use Rattle.wi_script.specs.declared.line.WrittenStart.{WrittenStart}
use Rattle.wi_script.specs.declared.line.WrittenEvent.{WrittenEvent}
use Rattle.wi_script.specs.declared.line.WrittenEvent.TheVariants as event
use Rattle.wi_script.specs.Lines.{Name, Joint, Line, Fail, Repair, Hop, is_count}

-- ---- what the program holds

abbrev pub name_of : WrittenName → Name
name_of (name.Plain text) = record { quoted = false; text = text.now }
name_of (name.Quoted text) = record { quoted = true; text = text.now }

abbrev pub joint_of : WrittenJoint → Joint
joint_of j = record { from = name_of j.from; out = name_of j.out; to = name_of j.to; into = name_of j.into }

abbrev pub names_of : List WrittenName → List Name
names_of names = map name_of names

abbrev pub start_of : WrittenStart → Joint × List Name
start_of s = (joint_of s.joint, names_of s.labels.items)

abbrev pub line_of : WrittenEvent → Line
line_of (event.Fail j) = Fail (joint_of j)
line_of (event.Repair j) = Repair (joint_of j)
line_of (event.Hop group member) = Hop group.now member.now

-- ---- how it is read

infixl 10 ◌>>=◌
abbrev pub ◌>>=◌ : {A B : Type 0} → Option A → (A → Option B) → Option B
o >>= f = option_and_then f o

-- what follows a front, where a text begins with it
unfoldable pub past : List ℕ → List ℕ → Option (List ℕ)
past [] text = Some text
past (w ∷ front) [] = None
past (w ∷ front) (b ∷ text) = if b == w then past front text else None

-- what stands before the first of a byte, and what stands behind it
unfoldable pub until : ℕ → List ℕ → Option (List ℕ × List ℕ)
until c [] = None
until c (b ∷ text) = if b == c then Some ([], text) else option_map (λ r. (b ∷ r.0, r.1)) (until c text)

-- the name up to a quotation mark, and what follows the mark
abbrev pub quoted : List ℕ × List ℕ → Option (Name × List ℕ)
quoted r = if nat_lt 0 (length r.0) && list_all is_name_byte r.0 then Some (record { quoted = true; text = r.0 }, r.1) else None

unfoldable pub quoted_in : List ℕ → Option (Name × List ℕ)
quoted_in text = option_and_then quoted (until 34 text)

-- the plain name that a text begins with, of as many characters as are plain, and what follows
unfoldable pub plain_in : List ℕ → Option (Name × List ℕ)
plain_in text =
    if prefix_len is_plain text == 0 then None else
    Some (record { quoted = false; text = take (prefix_len is_plain text) text }, drop (prefix_len is_plain text) text)

-- the name that a text begins with, and what follows
unfoldable pub name_in : List ℕ → Option (Name × List ℕ)
name_in text = elim (past (codes "\"") text) [ Some rest ↦ quoted_in rest | None ↦ plain_in text ]

-- the link that a text begins with, and what follows
unfoldable pub joint_in : List ℕ → Option (Joint × List ℕ)
joint_in text = do
  from ← name_in text
  dot ← past (codes ".") from.1
  out ← name_in dot
  hash ← past (codes "#") out.1
  to ← name_in hash
  point ← past (codes ".") to.1
  into ← name_in point
  Some (record { from = from.0; out = out.0; to = to.0; into = into.0 }, into.1)

-- the link that a text is
unfoldable pub whole_in : List ℕ → Option Joint
whole_in text = do
  joint ← joint_in text
  if length joint.1 == 0 then Some joint.0 else None

-- the label behind a space, and what follows
unfoldable pub label_in : List ℕ → Option (Name × List ℕ)
label_in text = do
  rest ← past (codes " ") text
  name_in rest

-- the labels that a text is, each behind a space; of no more than a number
unfoldable pub labels_in : ℕ → List ℕ → Option (List Name)
labels_in n [] = Some []
labels_in zero (b ∷ text) = None
labels_in (suc n) (b ∷ text) = do
  label ← label_in (b ∷ text)
  option_map (λ labels. label.0 ∷ labels) (labels_in n label.1)

-- the link behind the word of the first line, and what follows
unfoldable pub placed_in : List ℕ → Option (Joint × List ℕ)
placed_in text = do
  rest ← past (codes "at ") text
  joint_in rest

-- the first line that a text is
unfoldable pub start_in : List ℕ → Option (Joint × List Name)
start_in text = do
  joint ← placed_in text
  labels ← labels_in (length joint.1) joint.1
  if length labels == 0 then None else Some (joint.0, labels)

-- the two numbers of a hop
unfoldable pub hop_in : List ℕ → Option Line
hop_in text = do
  r ← until 32 text
  if is_count r.0 && is_count r.1 then Some (Hop r.0 r.1) else None

-- the other line that a text is
unfoldable pub event_in : List ℕ → Option Line
event_in text =
    elim (past (codes "fail ") text) [
      | Some rest ↦ option_map Fail (whole_in rest)
      | None ↦
          elim (past (codes "repair ") text) [
            | Some rest ↦ option_map Repair (whole_in rest)
            | None ↦
                option_and_then hop_in (past (codes "hop ") text)
          ]
    ]
