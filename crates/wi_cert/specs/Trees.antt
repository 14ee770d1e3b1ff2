-- The text of a tree certificate, and how it is read: what shows the answer, and the nodes of a tree in preorder.
use Rattle.std.specs.Prelude.{◌≡◌, ℕ, ◌+◌, ◌-◌, ◌%◌, ◌^◌, ◌<◌, Bool, true, false, ◌&&◌, ◌==◌, if◌then◌else◌, List, [], ◌∷◌, ◌++◌, length, codes, Option, Some, None, nat_lt, nat_le, option_map, option_and_then}
use Rattle.std.specs.List.{All, flat_map}
use Rattle.std.specs.Option.{option_map_or}
use Rattle.std.specs.Str.{bytes_eq}
use Rattle.wi_cert.specs.declared.tree.TheConstants.{NODE_LIMIT}
use Rattle.wi_cert.specs.declared.shown.Claim.{Claim}
use Rattle.wi_cert.specs.declared.shown.Claim.TheVariants.{Yes, No, Inconclusive}
use Rattle.wi_cert.specs.declared.shown.Shown.{Shown}
use Rattle.wi_cert.specs.declared.shown.ShownPlace.{ShownPlace}
use Rattle.wi_cert.specs.declared.shown.ShownPlace.TheVariants.{Terms}
use Rattle.wi_cert.specs.declared.closed.Closed.{Closed}
use Rattle.wi_cert.specs.declared.closed.ClosedPlace.{ClosedPlace}
use Rattle.wi_cert.specs.declared.closed.ClosedPlace.TheVariants.{HeadCount}
use Rattle.wi_cert.specs.declared.tree.Node.{Node}
use Rattle.wi_cert.specs.declared.tree.Node.TheVariants as kinds
use Rattle.wi_cert.specs.declared.tree.TreeCertificate.{TreeCertificate}
use Rattle.wi_cert.specs.declared.tree.TreePlace.{TreePlace}
use Rattle.wi_cert.specs.declared.tree.TreePlace.TheVariants as places
use Rattle.wi_cert.specs.Numbers.{count_after, count_line}
use Rattle.wi_cert.specs.Shown.{tree_front, title_line, shown_lines, IsShown, HasShownRanges, titled, asked_shown, blank_shown}
use Rattle.wi_cert.specs.Closed.{closed_lines, IsClosed, HasClosedRanges, asked_closed, blank_closed}
use Rattle.wi_cert.specs.Reading.{Form}
use Rattle.wi_cert.specs.Text.{ended}

abbrev pub is_inconclusive : Claim → Bool
is_inconclusive Yes = false
is_inconclusive No = false
is_inconclusive Inconclusive = true

-- so many nodes can make so many trees in a row: a tree is a leaf, or a split and two trees
abbrev pub can_make : ℕ → ℕ → Bool
can_make nodes trees = if trees == 0 then nodes == 0 else nat_le trees nodes && (nodes - trees) % 2 == 0

-- nodes in preorder make so many trees in a row: after a split one more is to come, after a leaf one less
abbrev pub makes_trees : ℕ → List Node → Bool
makes_trees trees [] = trees == 0
makes_trees trees (kinds.Split link ∷ nodes) = nat_lt 0 trees && makes_trees (trees + 1) nodes
makes_trees trees (kinds.Closed leaf ∷ nodes) = nat_lt 0 trees && makes_trees (trees - 1) nodes

abbrev pub node_lines : Node → List (List ℕ)
node_lines (kinds.Split link) = count_line (codes "split ") link ∷ []
node_lines (kinds.Closed leaf) = codes "closed" ∷ closed_lines leaf

abbrev pub tree_lines : TreeCertificate → List (List ℕ)
tree_lines t = title_line tree_front t.shown.dropped ∷ (shown_lines t.shown ++ (count_line (codes "nodes ") (length t.nodes) ∷ (flat_map node_lines t.nodes ++ codes "end" ∷ [])))

-- the lines, each with its end
abbrev pub tree_text : TreeCertificate → List ℕ
tree_text t = flat_map ended (tree_lines t)

-- a leaf's lists rise, and each of its rows weighs less than what is shown
abbrev pub IsLeafOf : Shown → Node → Type 0
IsLeafOf s (kinds.Split link) = Unit {0}
IsLeafOf s (kinds.Closed leaf) = IsClosed s leaf

-- a tree certificate that can be written, but for the ranges of its numbers: its nodes make one tree
pub record IsTreeWritable (t : TreeCertificate) : Type 0 where
  pub shown : IsShown t.shown
  pub decided : is_inconclusive t.shown.claim ≡ false
  pub few : length t.nodes < NODE_LIMIT
  pub whole : makes_trees 1 t.nodes ≡ true
  pub leaves : All (IsLeafOf t.shown) t.nodes

abbrev pub HasNodeRanges : Node → Type 0
HasNodeRanges (kinds.Split link) = link < 2 ^ 32
HasNodeRanges (kinds.Closed leaf) = HasClosedRanges leaf

-- the ranges that a tree certificate's numbers have by their types
pub record HasTreeRanges (t : TreeCertificate) : Type 0 where
  pub shown : HasShownRanges t.shown
  pub nodes : All HasNodeRanges t.nodes

-- The bytes are the text of the tree certificate.
pub record IsTreeText (t : TreeCertificate) (bytes : List ℕ) : Type 0 where
  pub writable : IsTreeWritable t
  pub ranges : HasTreeRanges t
  pub is : bytes ≡ tree_text t

-- what the lines so far leave: the place of the next line, the tree so far, and the leaf that is being read, blank between
pub record TreeSheet : Type 0 where
  pub place : TreePlace
  pub tree : TreeCertificate
  pub leaf : Closed

abbrev pub tree_sheet : TreePlace → TreeCertificate → Closed → TreeSheet
tree_sheet place tree leaf = record { place = place; tree = tree; leaf = leaf }

-- the sheet before the first line
abbrev pub blank_tree : TreeSheet
blank_tree = tree_sheet places.Title (record { shown = blank_shown; nodes = [] }) blank_closed

-- so many nodes are to come, which have to make so many trees
abbrev pub nodes_left : ℕ → ℕ → TreePlace
nodes_left left due = if left == 0 then places.End else places.Node left due

-- what a line that shows the answer leaves: the next place, and what is shown so far. A tree's answer isn't inconclusive.
abbrev pub asked_decided : ShownPlace → Shown → List ℕ → Option (TreePlace × Shown)
asked_decided place s line = option_and_then (λ t. if is_inconclusive t.1.claim then None else Some (option_map_or places.Shown t.0 places.NodeCount, t.1)) (asked_shown place s line)

-- what the line of a node leaves: the next place, and the nodes so far. Those to come have to make the trees to come.
abbrev pub asked_node : ℕ → ℕ → List Node → List ℕ → Option (TreePlace × List Node)
asked_node left due nodes line =
    if bytes_eq line (codes "closed") then if can_make (left - 1) (due - 1) then Some (places.Leaf (left - 1) (due - 1) HeadCount, nodes) else None
    else option_and_then (λ link. if nat_lt link (2 ^ 32) && can_make (left - 1) (due + 1) then Some (places.Node (left - 1) (due + 1), nodes ++ kinds.Split link ∷ []) else None) (count_after (codes "split ") line)

-- what a line of a leaf leaves: where its last line was taken, the leaf is the next of the nodes
abbrev pub leaf_left : ℕ → ℕ → TreeCertificate → Option ClosedPlace → Closed → TreeSheet
leaf_left left due t (Some place) leaf = tree_sheet (places.Leaf left due place) t leaf
leaf_left left due t None leaf = tree_sheet (nodes_left left due) (record t { nodes = t.nodes ++ kinds.Closed leaf ∷ [] }) blank_closed

-- The sheet after a line of the form asked in its place. None: the line isn't of that form.
abbrev pub asked_tree : TreePlace → TreeCertificate → Closed → List ℕ → Option TreeSheet
asked_tree places.Title t leaf line = option_map (λ dropped. tree_sheet (places.Shown Terms) (record t { shown = record t.shown { dropped = dropped } }) leaf) (titled tree_front line)
asked_tree (places.Shown place) t leaf line = option_map (λ s. tree_sheet s.0 (record t { shown = s.1 }) leaf) (asked_decided place t.shown line)
asked_tree places.NodeCount t leaf line = option_and_then (λ n. if can_make n 1 && nat_lt n NODE_LIMIT then Some (tree_sheet (places.Node n 1) t leaf) else None) (count_after (codes "nodes ") line)
asked_tree (places.Node left due) t leaf line = option_map (λ s. tree_sheet s.0 (record t { nodes = s.1 }) leaf) (asked_node left due t.nodes line)
asked_tree (places.Leaf left due place) t leaf line = option_map (λ s. leaf_left left due t s.0 s.1) (asked_closed t.shown place leaf line)
asked_tree places.End t leaf line = if bytes_eq line (codes "end") then Some (tree_sheet places.Done t leaf) else None
asked_tree places.Done t leaf line = None

abbrev pub is_whole_tree : TreePlace → Bool
is_whole_tree places.Done = true
is_whole_tree place = false

-- how a tree certificate is read
abbrev pub trees : Form TreeSheet TreeCertificate
trees = record { blank = blank_tree; asked = λ s line. asked_tree s.place s.tree s.leaf line; made = λ s. if is_whole_tree s.place then Some s.tree else None }
