-- How many lines lead to a tree's sheet, and how many nodes may still come.
use Rattle.std.specs.Prelude.{◌≡◌, ℕ, ◌+◌, ◌<◌, ◌≤◌, Bool, false, List, Option, length, codes}
use Rattle.std.specs.List.{sum_by}
use Rattle.std.specs.Str.{bytes_eq}
use Rattle.wi_cert.specs.declared.tree.TheConstants.{NODE_LIMIT}
use Rattle.wi_cert.specs.declared.shown.Dropped.{Dropped}
use Rattle.wi_cert.specs.declared.shown.ShownPlace.{ShownPlace}
use Rattle.wi_cert.specs.declared.shown.ShownPlace.TheVariants.{Answer}
use Rattle.wi_cert.specs.declared.closed.Closed.{Closed}
use Rattle.wi_cert.specs.declared.tree.Node.{Node}
use Rattle.wi_cert.specs.declared.tree.Node.TheVariants as kinds
use Rattle.wi_cert.specs.declared.tree.TreePlace.{TreePlace}
use Rattle.wi_cert.specs.declared.tree.TreePlace.TheVariants as places
use Rattle.wi_cert.specs.Trees.{TreeSheet}
use Rattle.wi_cert.specs.private.Marks.{shown_rank, closed_rank, dropped_count}

-- how many lines stand before a place, but for those of the lists and of the nodes: behind the steps one more in version 2
abbrev pub tree_rank : TreePlace → Option Dropped → ℕ
tree_rank places.Title dropped = 0
tree_rank (places.Shown p) dropped = shown_rank p
tree_rank places.NodeCount dropped = 6 + dropped_count dropped
tree_rank (places.Node left due) dropped = 7 + dropped_count dropped
tree_rank (places.Leaf left due p) dropped = closed_rank p + 2 + dropped_count dropped
tree_rank places.End dropped = 7 + dropped_count dropped
tree_rank places.Done dropped = 8 + dropped_count dropped

-- how many items a leaf's lists have
abbrev pub leaf_items : Closed → ℕ
leaf_items c = length c.heads + length c.pairs + length c.rows

abbrev pub node_line_count : Node → ℕ
node_line_count (kinds.Split link) = 1
node_line_count (kinds.Closed leaf) = 4 + leaf_items leaf

abbrev pub nodes_line_count : List Node → ℕ
nodes_line_count nodes = sum_by node_line_count nodes

-- how many lines lead to the sheet
abbrev pub tree_line_count : TreeSheet → ℕ
tree_line_count s = tree_rank s.place s.tree.shown.dropped + length s.tree.shown.steps + nodes_line_count s.tree.nodes + leaf_items s.leaf

-- at a place, with so many nodes: there is room for those to come, and they are no fewer than the trees that they make
abbrev pub HasRoom : TreePlace → ℕ → Type 0
HasRoom places.Title n = n ≡ 0
HasRoom (places.Shown p) n = n ≡ 0
HasRoom places.NodeCount n = n ≡ 0
HasRoom (places.Node left due) n = (0 < left) × (due ≤ left) × (n + left < NODE_LIMIT)
HasRoom (places.Leaf left due p) n = (due ≤ left) × (n + left + 1 < NODE_LIMIT)
HasRoom places.End n = n < NODE_LIMIT
HasRoom places.Done n = n < NODE_LIMIT

-- the one line that a certificate may have and a tree may not
abbrev pub is_undecided : ShownPlace → List ℕ → Bool
is_undecided Answer line = bytes_eq line (codes "answer inconclusive")
is_undecided place line = false
