-- What a line of a script is.
--
--     at LINK LABEL ..     first, and only there; a label or more, top first
--     fail LINK
--     repair LINK
--     hop GROUP MEMBER     numbers from 1
--
-- with one space between. A link is A.i#B.j. A name stands between quotation marks, or without them where it is plain.
use Rattle.std.specs.Prelude.{◌≡◌, ℕ, Bool, true, ◌&&◌, not, nat_lt, codes, if◌then◌else◌, List, [], ◌∷◌, ◌++◌, length}
use Rattle.std.specs.List.{list_all}
use Rattle.std.specs.Str.{IsUtf8, bytes_eq}
use Rattle.wi_text.specs.Characters.{is_name_byte, is_plain_name, is_number}

-- a name as it is written: whether it stands between quotation marks, and its bytes without these
pub record Name : Type 0 where
  pub quoted : Bool
  pub text : List ℕ

-- the four names of a link
pub record Joint : Type 0 where
  pub from : Name
  pub out : Name
  pub to : Name
  pub into : Name

pub data Line : Type 0 where
  At : Joint → List Name → Line
  Fail Repair : Joint → Line
  Hop : (group member : List ℕ) → Line

-- how each is written
abbrev pub name_bytes : Name → List ℕ
name_bytes n = if n.quoted then codes "\"" ++ n.text ++ codes "\"" else n.text

abbrev pub joint_bytes : Joint → List ℕ
joint_bytes j = name_bytes j.from ++ codes "." ++ name_bytes j.out ++ codes "#" ++ name_bytes j.to ++ codes "." ++ name_bytes j.into

abbrev pub labels_bytes : List Name → List ℕ
labels_bytes [] = []
labels_bytes (n ∷ labels) = codes " " ++ name_bytes n ++ labels_bytes labels

abbrev pub line_bytes : Line → List ℕ
line_bytes (At joint labels) = codes "at " ++ joint_bytes joint ++ labels_bytes labels
line_bytes (Fail joint) = codes "fail " ++ joint_bytes joint
line_bytes (Repair joint) = codes "repair " ++ joint_bytes joint
line_bytes (Hop group member) = codes "hop " ++ group ++ codes " " ++ member

-- between quotation marks one character or more, none of them a control character or a quotation mark; or a plain name
abbrev pub is_name : Name → Bool
is_name n = if n.quoted then nat_lt 0 (length n.text) && list_all is_name_byte n.text else is_plain_name n.text

abbrev pub is_joint : Joint → Bool
is_joint j = is_name j.from && (is_name j.out && (is_name j.to && is_name j.into))

-- a number from 1
abbrev pub is_count : List ℕ → Bool
is_count s = is_number s && not (bytes_eq s (codes "0"))

-- a line of its form; whether it is the first
abbrev pub is_line : Bool → Line → Bool
is_line first (At joint labels) = first && (is_joint joint && (nat_lt 0 (length labels) && list_all is_name labels))
is_line first (Fail joint) = not first && is_joint joint
is_line first (Repair joint) = not first && is_joint joint
is_line first (Hop group member) = not first && (is_count group && is_count member)

-- the text is written so
pub record IsLine (first : Bool) (text : List ℕ) (line : Line) : Type 0 where
  pub utf8 : IsUtf8 text
  pub form : is_line first line ≡ true
  pub bytes : text ≡ line_bytes line
