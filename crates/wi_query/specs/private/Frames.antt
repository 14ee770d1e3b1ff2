-- The tree of an expression, read sign by sign: for each bracket that is open a frame, with what stands behind it.
use Rattle.std.specs.Prelude.{◌≡◌, List, [], ◌∷◌, ◌++◌, map, Option, Some, None}
use Rattle.wi_regex.specs.declared.regex.Regex.{Regex}
use Rattle.wi_syntax.specs.declared.written.Sign.{Sign}
use Rattle.wi_syntax.specs.declared.written.Sign.TheVariants as sign
use Rattle.wi_syntax.specs.Trees.{Tree, Leaf, Starred, Plussed, Optional, Grouped, Then, Or}
use Rattle.wi_query.specs.Sets.{SymbolMarks, holds}
use Rattle.wi_query.specs.Meaning.{IsRegexOf}
use Rattle.wi_query.specs.declared.tree.Frame.{Frame}
use Rattle.wi_query.specs.declared.tree.Reading.{Reading}
use Rattle.wi_query.specs.declared.tree.Joint.{Joint}
use Rattle.wi_query.specs.declared.tree.Joint.TheVariants as joint
use Rattle.wi_query.specs.declared.tree.Repeat.{Repeat}
use Rattle.wi_query.specs.declared.tree.Repeat.TheVariants as repeat

-- what stands before the last `|`; then what stands before the last item; and this item
pub record TreeFrame (A : Type 0) : Type 0 where
  pub alternatives : Option (Tree A)
  pub sequence : Option (Tree A)
  pub item : Option (Tree A)

-- the frame behind the last open bracket, and those of the brackets around it, the inner ones first
pub record TreeReading (A : Type 0) : Type 0 where
  pub current : TreeFrame A
  pub outer : List (TreeFrame A)

abbrev pub empty_frame : {A : Type 0} → TreeFrame A
empty_frame = record { alternatives = None; sequence = None; item = None }

abbrev pub joint_of : {A : Type 0} → Joint → Tree A → Tree A → Tree A
joint_of joint.Then a b = Then a b
joint_of joint.Or a b = Or a b

-- two trees as one, where there are two
abbrev pub joined : {A : Type 0} → Joint → Option (Tree A) → Option (Tree A) → Option (Tree A)
joined how None b = b
joined how (Some a) None = Some a
joined how (Some a) (Some b) = Some (joint_of how a b)

abbrev pub sequence_of : {A : Type 0} → TreeFrame A → Option (Tree A)
sequence_of f = joined joint.Then f.sequence f.item

-- all that stands in a frame
abbrev pub finished : {A : Type 0} → TreeFrame A → Option (Tree A)
finished f = joined joint.Or f.alternatives (sequence_of f)

-- one item more
abbrev pub with_item : {A : Type 0} → TreeFrame A → Option (Tree A) → TreeFrame A
with_item f t = record { alternatives = f.alternatives; sequence = sequence_of f; item = t }

-- `|`
abbrev pub with_bar : {A : Type 0} → TreeFrame A → TreeFrame A
with_bar f = record { alternatives = finished f; sequence = None; item = None }

abbrev pub repeat_of : {A : Type 0} → Repeat → Tree A → Tree A
repeat_of repeat.Star t = Starred t
repeat_of repeat.Plus t = Plussed t
repeat_of repeat.Maybe t = Optional t

abbrev pub repeated : {A : Type 0} → Repeat → Option (Tree A) → Option (Tree A)
repeated how None = None
repeated how (Some t) = Some (repeat_of how t)

-- a sign behind the item
abbrev pub with_repeat : {A : Type 0} → Repeat → TreeFrame A → TreeFrame A
with_repeat how f = record { alternatives = f.alternatives; sequence = f.sequence; item = repeated how f.item }

abbrev pub grouped : {A : Type 0} → Option (Tree A) → Option (Tree A)
grouped None = None
grouped (Some t) = Some (Grouped t)

-- `)`
abbrev pub after_bracket : {A : Type 0} → TreeFrame A → List (TreeFrame A) → TreeReading A
after_bracket f [] = record { current = f; outer = [] }
after_bracket f (g ∷ gs) = record { current = with_item g (grouped (finished f)); outer = gs }

-- what a sign makes of what was read so far
abbrev pub after_sign : {A : Type 0} → TreeReading A → Sign A → TreeReading A
after_sign r (sign.Atom a) = record { current = with_item r.current (Some (Leaf a)); outer = r.outer }
after_sign r sign.Open = record { current = empty_frame; outer = r.current ∷ r.outer }
after_sign r sign.Close = after_bracket r.current r.outer
after_sign r sign.Or = record { current = with_bar r.current; outer = r.outer }
after_sign r sign.Star = record { current = with_repeat repeat.Star r.current; outer = r.outer }
after_sign r sign.Plus = record { current = with_repeat repeat.Plus r.current; outer = r.outer }
after_sign r sign.Maybe = record { current = with_repeat repeat.Maybe r.current; outer = r.outer }

abbrev pub after_signs : {A : Type 0} → TreeReading A → List (Sign A) → TreeReading A
after_signs r [] = r
after_signs r (s ∷ signs) = after_signs (after_sign r s) signs

abbrev pub at_start : {A : Type 0} → TreeReading A
at_start = record { current = empty_frame; outer = [] }

-- trees of sets
abbrev pub SetTree : Type 0
SetTree = Tree SymbolMarks

-- the program's frames are those
abbrev pub IsOperand : Option SetTree → Option (Regex SymbolMarks) → Type 0
IsOperand None None = Unit {0}
IsOperand (Some t) (Some r) = IsRegexOf holds t r
IsOperand t r = ⊥

pub record IsFrame (f : TreeFrame SymbolMarks) (g : Frame) : Type 0 where
  pub alternatives : IsOperand f.alternatives g.alternatives
  pub sequence : IsOperand f.sequence g.sequence
  pub item : IsOperand f.item g.item

-- a stack of them, whose top is its last
abbrev pub AreFrames : List (TreeFrame SymbolMarks) → List Frame → Type 0
AreFrames [] gs = gs ≡ []
AreFrames (f ∷ fs) gs = (g : Frame) × (rest : List Frame) × (gs ≡ rest ++ g ∷ []) × IsFrame f g × AreFrames fs rest

pub record IsReading (t : TreeReading SymbolMarks) (r : Reading) : Type 0 where
  pub current : IsFrame t.current r.current
  pub outer : AreFrames t.outer r.outer.items

-- signs with the sets of their atoms
abbrev pub set_sign : {A : Type 0} → (A → SymbolMarks) → Sign A → Sign SymbolMarks
set_sign marks (sign.Atom a) = sign.Atom (marks a)
set_sign marks sign.Open = sign.Open
set_sign marks sign.Close = sign.Close
set_sign marks sign.Star = sign.Star
set_sign marks sign.Plus = sign.Plus
set_sign marks sign.Maybe = sign.Maybe
set_sign marks sign.Or = sign.Or

abbrev pub set_signs : {A : Type 0} → (A → SymbolMarks) → List (Sign A) → List (Sign SymbolMarks)
set_signs marks signs = map (set_sign marks) signs
