-- A picture as it is drawn from: what stands on each link is gathered first.
use Rattle.std.specs.Prelude.{◌≡◌, ℕ, ◌==◌, if◌then◌else◌, List, [], length, slice_index_or}
use Rattle.wi_net.specs.Net.{Net}
use Rattle.wi_world.specs.Moves.{Location}
use Rattle.wi_draw.specs.declared.marks.Marks.{Marks}
use Rattle.wi_draw.specs.Drawings.{Picture, link_label, place_label, with_line}

-- what stands on the link of a number
abbrev pub label_at : List (List ℕ) → ℕ → List ℕ
label_at labels n = slice_index_or labels n []

-- the place of this number was added on its link
pub record IsPlaced (net : Net) (number : ℕ) (at : Location) (old new : List (List ℕ)) : Type 0 where
  pub count : length new ≡ length old
  pub label : (n : ℕ) → label_at new n ≡ (if at.0.0 == n then with_line (label_at old n) (place_label net number at) else label_at old n)

-- places were added, the first of which has this number
pub record ArePlaced (net : Net) (number : ℕ) (places : List Location) (old new : List (List ℕ)) : Type 0 where
  pub count : length new ≡ length old
  pub label : (n : ℕ) → label_at new n ≡ link_label net (record { 0 = n }) number (label_at old n) places

-- these marks are a picture's
pub record AreMarks (net : Net) (marks : Marks) (p : Picture) : Type 0 where
  pub heading : marks.heading ≡ p.heading
  pub labels : (n : ℕ) → label_at marks.labels.items n ≡ link_label net (record { 0 = n }) 1 [] p.places
  pub failed : marks.failed ≡ p.failed
  pub dropped : marks.dropped ≡ p.dropped
