-- The lines of a tree certificate are taken, and what follows of texts and trees.
use Rattle.std.specs.Prelude.{◌≡◌, ℕ, ◌+◌, ◌-◌, ◌^◌, ◌<◌, true, false, ◌&&◌, ◌==◌, if◌then◌else◌, List, [], ◌∷◌, ◌++◌, Option, Some, None, Ok, length, refl, codes, nat_lt, option_and_then, option_map}
use Rattle.std.specs.List.{All, flat_map}
use Rattle.std.proofs.Common.{sym, ap, ◌∙◌, subst, arith, append_assoc, append-nil}
use Rattle.std.proofs.lemmas.Bool.Decides.{nat_tests}
use Rattle.std.proofs.lemmas.List.Elements.{All-head, All-tail}
use Rattle.wi_cert.specs.declared.shown.Dropped.{Dropped}
use Rattle.wi_cert.specs.declared.shown.Shown.{Shown}
use Rattle.wi_cert.specs.declared.shown.ShownPlace.{ShownPlace}
use Rattle.wi_cert.specs.declared.shown.ShownPlace.TheVariants.{Terms}
use Rattle.wi_cert.specs.declared.closed.Closed.{Closed}
use Rattle.wi_cert.specs.declared.closed.ClosedPlace.{ClosedPlace}
use Rattle.wi_cert.specs.declared.closed.ClosedPlace.TheVariants.{HeadCount}
use Rattle.wi_cert.specs.declared.tree.Node.{Node}
use Rattle.wi_cert.specs.declared.tree.Node.TheVariants as kinds
use Rattle.wi_cert.specs.declared.tree.TreeCertificate.{TreeCertificate}
use Rattle.wi_cert.specs.declared.tree.TreePlace.{TreePlace}
use Rattle.wi_cert.specs.declared.tree.TreePlace.TheVariants as places
use Rattle.wi_cert.specs.Numbers.{count_line}
use Rattle.wi_cert.specs.Shown.{tree_front, title_line, shown_lines, blank_shown}
use Rattle.wi_cert.specs.Closed.{closed_lines, blank_closed}
use Rattle.wi_cert.specs.Reading.{decoded}
use Rattle.wi_cert.specs.Trees.{is_inconclusive, can_make, makes_trees, node_lines, tree_lines, IsLeafOf, HasNodeRanges, IsTreeWritable, HasTreeRanges, IsTreeText, TreeSheet, tree_sheet, blank_tree, nodes_left, leaf_left, trees}
use Rattle.wi_cert.proofs.Cases.{both, same_ok}
use Rattle.wi_cert.proofs.TellingLemmas.{lines_read}
use Rattle.wi_cert.proofs.CompleteLemmas.{Leads, leads_none, leads_then, leads_first, free_count, count_reads, begun_shown, title_reads, free_title, shown_leads, closed_leads}
use Rattle.wi_cert.proofs.TreeMarkLemmas.{after_decided, trees_fit}
use Rattle.wi_cert.proofs.TreeLemmas.{can_when}

abbrev with_nodes : Shown → List Node → TreeCertificate
with_nodes s nodes = record { shown = s; nodes = nodes }

abbrev at_nodes : Shown → ℕ → ℕ → List Node → TreeSheet
at_nodes s left due nodes = tree_sheet (nodes_left left due) (with_nodes s nodes) blank_closed

some_left : (n due : ℕ) → 0 < n → nodes_left n due ≡ places.Node n due
some_left n due h = let e : (n == 0) ≡ false = grind (arith, nat_tests) in rw e refl

split_reads : (s : Shown) (left due link : ℕ) (nodes : List Node) → link < 2 ^ 32 → can_make left (due + 1) ≡ true → trees.asked (tree_sheet (places.Node (left + 1) due) (with_nodes s nodes) blank_closed) (count_line (codes "split ") link) ≡ Some (at_nodes s left (due + 1) (nodes ++ kinds.Split link ∷ []))
split_reads s left due link nodes range can =
    let back : left + 1 - 1 ≡ left = omega arith in
    let short : nat_lt link (2 ^ 32) ≡ true = grind (arith, nat_tests) in
    let test : (nat_lt link (2 ^ 32) && can_make (left + 1 - 1) (due + 1)) ≡ true = rw short (ap (λ n. can_make n (due + 1)) back ∙ can) in
    let fit = trees_fit left (due + 1) can in
    ap (λ o. option_map (λ (y : TreePlace × List Node). tree_sheet y.0 (with_nodes s y.1) blank_closed) (option_and_then (λ n. if nat_lt n (2 ^ 32) && can_make (left + 1 - 1) (due + 1) then Some (places.Node (left + 1 - 1) (due + 1), nodes ++ kinds.Split n ∷ []) else None) o)) (count_reads (codes "split ") link (omega arith))
    ∙ ap (λ b. option_map (λ (y : TreePlace × List Node). tree_sheet y.0 (with_nodes s y.1) blank_closed) (if b then Some (places.Node (left + 1 - 1) (due + 1), nodes ++ kinds.Split link ∷ []) else None)) test
    ∙ ap (λ n. Some (tree_sheet (places.Node n (due + 1)) (with_nodes s (nodes ++ kinds.Split link ∷ [])) blank_closed)) back
    ∙ ap (λ p. Some (tree_sheet p (with_nodes s (nodes ++ kinds.Split link ∷ [])) blank_closed)) (sym (some_left left (due + 1) (omega (arith, fit))))

leaf_opens : (s : Shown) (left due : ℕ) (nodes : List Node) → can_make left (due - 1) ≡ true → trees.asked (tree_sheet (places.Node (left + 1) due) (with_nodes s nodes) blank_closed) (codes "closed") ≡ Some (tree_sheet (places.Leaf left (due - 1) HeadCount) (with_nodes s nodes) blank_closed)
leaf_opens s left due nodes can =
    let back : left + 1 - 1 ≡ left = omega arith in
    ap (λ n. option_map (λ (y : TreePlace × List Node). tree_sheet y.0 (with_nodes s y.1) blank_closed) (if can_make n (due - 1) then Some (places.Leaf n (due - 1) HeadCount, nodes) else None)) back
    ∙ ap (λ b. option_map (λ (y : TreePlace × List Node). tree_sheet y.0 (with_nodes s y.1) blank_closed) (if b then Some (places.Leaf left (due - 1) HeadCount, nodes) else None)) can

-- at the place of a node
at_node : (s : Shown) (left due : ℕ) (nodes : List Node) (x : Node) (xs : List Node) (lines : List (List ℕ)) (t : TreeSheet) → left ≡ length xs → Leads trees (tree_sheet (places.Node (left + 1) due) (with_nodes s nodes) blank_closed) lines t → Leads trees (at_nodes s (length (x ∷ xs)) due nodes) lines t
at_node s left due nodes x xs lines t e h =
    let more : left + 1 ≡ length (x ∷ xs) = omega (arith, e) in
    subst (λ p. Leads trees (tree_sheet p (with_nodes s nodes) blank_closed) lines t) (ap (λ n. places.Node n due) more ∙ sym (some_left (length (x ∷ xs)) due (omega arith))) h

-- the nodes, one after the other
nodes_lead : (s : Shown) (before xs : List Node) (due : ℕ) → makes_trees due xs ≡ true → All (IsLeafOf s) xs → All HasNodeRanges xs → Leads trees (at_nodes s (length xs) due before) (flat_map node_lines xs) (tree_sheet places.End (with_nodes s (before ++ xs)) blank_closed)
nodes_lead s before [] due h l r = subst (λ ns. Leads trees (at_nodes s 0 due before) [] (tree_sheet places.End (with_nodes s ns) blank_closed)) (sym (append-nil before)) (leads_none trees (at_nodes s 0 due before))
nodes_lead s before (kinds.Split link ∷ xs) due h l r =
    let b = both (nat_lt 0 due) (makes_trees (due + 1) xs) h in
    let range : link < 2 ^ 32 = All-head HasNodeRanges (kinds.Split link) xs r in
    at_node s (length xs) due before (kinds.Split link) xs _ _ refl
    (leads_first trees (tree_sheet (places.Node (length xs + 1) due) (with_nodes s before) blank_closed) (count_line (codes "split ") link) (at_nodes s (length xs) (due + 1) (before ++ kinds.Split link ∷ [])) _ (flat_map node_lines xs)
    (free_count (codes "split ") link refl (omega arith)) (split_reads s (length xs) due link before range (can_when xs (due + 1) b.1))
    (subst (λ ns. Leads trees (at_nodes s (length xs) (due + 1) (before ++ kinds.Split link ∷ [])) (flat_map node_lines xs) (tree_sheet places.End (with_nodes s ns) blank_closed)) (append_assoc before (kinds.Split link ∷ []) xs)
    (nodes_lead s (before ++ kinds.Split link ∷ []) xs (due + 1) b.1 (All-tail (IsLeafOf s) (kinds.Split link) xs l) (All-tail HasNodeRanges (kinds.Split link) xs r))))
nodes_lead s before (kinds.Closed c ∷ xs) due h l r =
    let b = both (nat_lt 0 due) (makes_trees (due - 1) xs) h in
    at_node s (length xs) due before (kinds.Closed c) xs _ _ refl
    (leads_first trees (tree_sheet (places.Node (length xs + 1) due) (with_nodes s before) blank_closed) (codes "closed") (tree_sheet (places.Leaf (length xs) (due - 1) HeadCount) (with_nodes s before) blank_closed) _ _
    refl (leaf_opens s (length xs) due before (can_when xs (due - 1) b.1))
    (leads_then trees _ _ _ (closed_lines c) (flat_map node_lines xs)
    (closed_leads trees (λ next leaf. leaf_left (length xs) (due - 1) (with_nodes s before) next leaf) s
    (λ p x y line next e. ap (option_map (λ (z : Option ClosedPlace × Closed). leaf_left (length xs) (due - 1) (with_nodes s before) z.0 z.1)) e)
    c (All-head (IsLeafOf s) (kinds.Closed c) xs l) (All-head HasNodeRanges (kinds.Closed c) xs r))
    (subst (λ ns. Leads trees (at_nodes s (length xs) (due - 1) (before ++ kinds.Closed c ∷ [])) (flat_map node_lines xs) (tree_sheet places.End (with_nodes s ns) blank_closed)) (append_assoc before (kinds.Closed c ∷ []) xs)
    (nodes_lead s (before ++ kinds.Closed c ∷ []) xs (due - 1) b.1 (All-tail (IsLeafOf s) (kinds.Closed c) xs l) (All-tail HasNodeRanges (kinds.Closed c) xs r)))))

-- The lines of a tree certificate lead to it.
pub tree_leads : (t : TreeCertificate) → IsTreeWritable t → HasTreeRanges t → Leads trees blank_tree (tree_lines t) (tree_sheet places.Done t blank_closed)
tree_leads t w r =
    let few : length t.nodes < 10000 = w.few in
    let short : nat_lt (length t.nodes) 10000 ≡ true = grind (arith, nat_tests) in
    let can : can_make (length t.nodes) 1 ≡ true = can_when t.nodes 1 w.whole in
    let fit = trees_fit (length t.nodes) 1 can in
    leads_first trees blank_tree (title_line tree_front t.shown.dropped) (tree_sheet (places.Shown Terms) (with_nodes (begun_shown t.shown.dropped) []) blank_closed) _ _ (free_title tree_front t.shown.dropped refl)
    (ap (option_map (λ (dropped : Option Dropped). tree_sheet (places.Shown Terms) (with_nodes (record blank_shown { dropped = dropped }) []) blank_closed)) (title_reads tree_front t.shown.dropped))
    (leads_then trees _ _ _ (shown_lines t.shown) _
    (shown_leads trees (λ next s. tree_sheet (after_decided next) (with_nodes s []) blank_closed) (λ claim. is_inconclusive claim ≡ false)
    (λ p x y line next ok e.
    ap (λ o. option_map (λ (z : TreePlace × Shown). tree_sheet z.0 (with_nodes z.1 []) blank_closed) (option_and_then (λ (z : Option ShownPlace × Shown). if is_inconclusive z.1.claim then None else Some (after_decided z.0, z.1)) o)) e
    ∙ ap (λ b. option_map (λ (z : TreePlace × Shown). tree_sheet z.0 (with_nodes z.1 []) blank_closed) (if b then None else Some (after_decided next, y))) ok)
    refl t.shown w.shown r.shown w.decided)
    (leads_first trees (tree_sheet places.NodeCount (with_nodes t.shown []) blank_closed) (count_line (codes "nodes ") (length t.nodes)) (at_nodes t.shown (length t.nodes) 1 []) _ _
    (free_count (codes "nodes ") (length t.nodes) refl (omega arith))
    (ap (λ o. option_and_then (λ n. if can_make n 1 && nat_lt n 10000 then Some (tree_sheet (places.Node n 1) (with_nodes t.shown []) blank_closed) else None) o) (count_reads (codes "nodes ") (length t.nodes) (omega arith))
    ∙ ap (λ b. if b && nat_lt (length t.nodes) 10000 then Some (tree_sheet (places.Node (length t.nodes) 1) (with_nodes t.shown []) blank_closed) else None) can
    ∙ ap (λ b. if b then Some (tree_sheet (places.Node (length t.nodes) 1) (with_nodes t.shown []) blank_closed) else None) short
    ∙ ap (λ p. Some (tree_sheet p (with_nodes t.shown []) blank_closed)) (sym (some_left (length t.nodes) 1 (omega (arith, fit)))))
    (leads_then trees _ _ _ (flat_map node_lines t.nodes) _ (nodes_lead t.shown [] t.nodes 1 w.whole w.leaves r.nodes)
    (leads_first trees (tree_sheet places.End t blank_closed) (codes "end") (tree_sheet places.Done t blank_closed) (tree_sheet places.Done t blank_closed) [] refl refl (leads_none trees (tree_sheet places.Done t blank_closed))))))

-- The text of a tree certificate is decoded to it.
pub tree_is_decoded : (t : TreeCertificate) (bytes : List ℕ) → IsTreeText t bytes → decoded trees bytes ≡ Ok t
tree_is_decoded t bytes x =
    let leads = tree_leads t x.writable x.ranges in
    ap (decoded trees) x.is ∙ lines_read trees (tree_lines t) (tree_sheet places.Done t blank_closed) t leads.free leads.fills refl

-- No two tree certificates have one text.
pub one_tree : (t u : TreeCertificate) (bytes : List ℕ) → IsTreeText t bytes → IsTreeText u bytes → t ≡ u
one_tree t u bytes x y = same_ok (decoded trees bytes) t u (tree_is_decoded t bytes x) (tree_is_decoded u bytes y)
