-- Writing a tree, node by node.
use Rattle.std.specs.Prelude.{◌≡◌, ℕ, ◌+◌, ◌<◌, List, [], ◌∷◌, ◌++◌, length, codes, refl}
use Rattle.std.specs.List.{flat_map}
use Rattle.std.proofs.Common.{sym, ap, ◌∙◌, drop, get_or, append_assoc, append-nil}
use Rattle.std.proofs.lemmas.Grind.{flat_map-append}
use Rattle.wi_cert.specs.declared.tree.Node.{Node}
use Rattle.wi_cert.specs.declared.tree.TreeCertificate.{TreeCertificate}
use Rattle.wi_cert.specs.Numbers.{count_line}
use Rattle.wi_cert.specs.Shown.{tree_front, title_line, shown_lines}
use Rattle.wi_cert.specs.Text.{ended}
use Rattle.wi_cert.specs.Trees.{node_lines, tree_text}
use Rattle.wi_cert.specs.private.Fronts.{tree_front_text}
use Rattle.wi_cert.proofs.WritingLemmas.{item_first}

-- the lines of nodes, each with its end
abbrev pub nodes_text : List Node → List ℕ
nodes_text nodes = flat_map ended (flat_map node_lines nodes)

first_node : (x : Node) (xs : List Node) → nodes_text (x ∷ xs) ≡ flat_map ended (node_lines x) ++ nodes_text xs
first_node x xs = flat_map-append ended (node_lines x) (flat_map node_lines xs)

-- one node more
pub node_more : (xs : List Node) (i : ℕ) (d : Node) (out new whole : List ℕ) → i < length xs → new ≡ out ++ flat_map ended (node_lines (get_or xs i d)) → out ++ nodes_text (drop i xs) ≡ whole → new ++ nodes_text (drop (i + 1) xs) ≡ whole
node_more xs i d out new whole h e w =
    ap (λ x. x ++ nodes_text (drop (i + 1) xs)) e
    ∙ append_assoc out (flat_map ended (node_lines (get_or xs i d))) (nodes_text (drop (i + 1) xs))
    ∙ ap (λ x. out ++ x) (sym (first_node (get_or xs i d) (drop (i + 1) xs)))
    ∙ ap (λ ys. out ++ nodes_text ys) (sym (item_first xs i d h))
    ∙ w

tree_parts : (title : List ℕ) (shown : List (List ℕ)) (count : List ℕ) (nodes : List (List ℕ)) (end : List ℕ)
    → flat_map ended (title ∷ (shown ++ (count ∷ (nodes ++ end ∷ [])))) ≡ (flat_map ended (title ∷ (shown ++ count ∷ [])) ++ flat_map ended nodes) ++ ended end
tree_parts title shown count nodes end = simp (flat_map-append, append_assoc, append-nil) refl

-- how long the whole text is
pub tree_length : (t : TreeCertificate) (nodes : List Node) (start a b d : List ℕ) (n : ℕ) → nodes ≡ t.nodes → start ≡ [] → a ≡ start ++ tree_front_text t → b ≡ a ++ nodes_text nodes → d ≡ b ++ codes "end\n" → n ≡ length d → n ≡ length (tree_text t)
tree_length t nodes start a b d n e h i j k l = l ∙ ap length (whole e h i j k)
  where
    whole : nodes ≡ t.nodes → start ≡ [] → a ≡ start ++ tree_front_text t → b ≡ a ++ nodes_text nodes → d ≡ b ++ codes "end\n" → d ≡ tree_text t
    whole e h i j k = rw (k, j, e, i, h) (sym (tree_parts (title_line tree_front t.shown.dropped) (shown_lines t.shown) (count_line (codes "nodes ") (length t.nodes)) (flat_map node_lines t.nodes) (codes "end")))
