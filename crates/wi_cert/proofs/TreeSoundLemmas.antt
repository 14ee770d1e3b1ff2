-- Lines that are taken are those of a tree certificate.
use Rattle.std.specs.Prelude.{◌≡◌, ℕ, ◌+◌, ◌-◌, ◌^◌, ◌<◌, true, false, ◌&&◌, ◌==◌, if◌then◌else◌, List, [], ◌∷◌, ◌++◌, Option, Some, None, Ok, refl, codes, length, nat_lt}
use Rattle.std.specs.List.{All, flat_map}
use Rattle.std.specs.Str.{bytes_eq}
use Rattle.std.proofs.Common.{sym, ap, ◌∙◌, subst, arith, append_assoc, append-nil, length-append}
use Rattle.std.proofs.lemmas.Bool.Decides.{nat_tests}
use Rattle.std.proofs.lemmas.Grind.{flat_map-append}
use Rattle.std.proofs.lemmas.List.Elements.{All-nil, All-push}
use Rattle.wi_cert.specs.declared.shown.Shown.{Shown}
use Rattle.wi_cert.specs.declared.shown.ShownPlace.{ShownPlace}
use Rattle.wi_cert.specs.declared.shown.ShownPlace.TheVariants.{Terms}
use Rattle.wi_cert.specs.declared.closed.Closed.{Closed}
use Rattle.wi_cert.specs.declared.closed.ClosedPlace.{ClosedPlace}
use Rattle.wi_cert.specs.declared.closed.ClosedPlace.TheVariants.{HeadCount}
use Rattle.wi_cert.specs.declared.tree.Node.{Node}
use Rattle.wi_cert.specs.declared.tree.Node.TheVariants as kinds
use Rattle.wi_cert.specs.declared.tree.TreeCertificate.{TreeCertificate}
use Rattle.wi_cert.specs.declared.tree.TreePlace.{TreePlace}
use Rattle.wi_cert.specs.declared.tree.TreePlace.TheVariants as places
use Rattle.wi_cert.specs.Numbers.{count_after, count_line}
use Rattle.wi_cert.specs.Shown.{tree_front, title_line, shown_lines, titled}
use Rattle.wi_cert.specs.Closed.{asked_closed}
use Rattle.wi_cert.specs.Reading.{decoded, filled}
use Rattle.wi_cert.specs.Text.{ended}
use Rattle.wi_cert.specs.Trees.{is_inconclusive, can_make, makes_trees, node_lines, tree_lines, IsLeafOf, HasNodeRanges, IsTreeText, TreeSheet, tree_sheet, blank_tree, nodes_left, asked_decided, asked_node, leaf_left, asked_tree, is_whole_tree, trees}
use Rattle.wi_cert.proofs.Cases.{by_test, both, nothing, some_same, bind_some, map_some, if_some}
use Rattle.wi_cert.proofs.FormLemmas.{same_bytes, count_spells, title_is}
use Rattle.wi_cert.proofs.ShownLemmas.{written_shown, IsGoodShown, IsWholeShown, StandsShown, shown_step}
use Rattle.wi_cert.proofs.ClosedLemmas.{written_closed, IsGoodClosed, StandsClosed, closed_step}
use Rattle.wi_cert.proofs.TellingLemmas.{whole_lines}
use Rattle.wi_cert.proofs.TreeMarkLemmas.{after_decided, decided_is, trees_fit}
use Rattle.wi_cert.proofs.TreeLemmas.{nothing_due, some_due}

abbrev title : Shown → List ℕ
title s = title_line tree_front s.dropped

abbrev IsEmpty : Closed → Type 0
IsEmpty c = (c.heads ≡ []) × (c.pairs ≡ []) × (c.rows ≡ [])

-- the lines up to the nodes so far, where so many are to come
abbrev counted : TreeCertificate → ℕ → List (List ℕ)
counted t more = title t.shown ∷ (shown_lines t.shown ++ (count_line (codes "nodes ") (length t.nodes + more) ∷ flat_map node_lines t.nodes))

record IsGoodTree (t : TreeCertificate) : Type 0 where
  shown : IsWholeShown t.shown
  decided : is_inconclusive t.shown.claim ≡ false
  leaves : All (IsLeafOf t.shown) t.nodes
  ranges : All HasNodeRanges t.nodes

-- nodes that make so many trees make the one tree whole
record IsDue (t : TreeCertificate) (left due : ℕ) : Type 0 where
  few : length t.nodes + left < 10000
  can : can_make left due ≡ true
  rest : (rest : List Node) → makes_trees 1 (t.nodes ++ rest) ≡ makes_trees due rest

-- the same behind the leaf that is being read
record IsDueBehind (t : TreeCertificate) (left due : ℕ) : Type 0 where
  few : length t.nodes + left + 1 < 10000
  can : can_make left due ≡ true
  rest : (c : Closed) (rest : List Node) → makes_trees 1 (t.nodes ++ kinds.Closed c ∷ rest) ≡ makes_trees due rest

record IsOneTree (t : TreeCertificate) : Type 0 where
  few : length t.nodes < 10000
  whole : makes_trees 1 t.nodes ≡ true

-- the lines so far, and what they say
abbrev Stands : List (List ℕ) → TreePlace → TreeCertificate → Closed → Type 0
Stands lines places.Title t leaf = (lines ≡ []) × (t.shown.steps ≡ []) × (t.nodes ≡ []) × IsEmpty leaf
Stands lines (places.Shown p) t leaf = (lines ≡ written_shown tree_front p t.shown) × IsGoodShown p t.shown × (t.nodes ≡ []) × IsEmpty leaf
Stands lines places.NodeCount t leaf = (lines ≡ title t.shown ∷ shown_lines t.shown) × IsWholeShown t.shown × (t.nodes ≡ []) × IsEmpty leaf × (is_inconclusive t.shown.claim ≡ false)
Stands lines (places.Node left due) t leaf = (lines ≡ counted t left) × IsGoodTree t × IsDue t left due × IsEmpty leaf × (0 < left)
Stands lines (places.Leaf left due p) t leaf = (lines ≡ counted t (left + 1) ++ (codes "closed" ∷ written_closed p leaf)) × IsGoodTree t × IsDueBehind t left due × IsGoodClosed t.shown p leaf
Stands lines places.End t leaf = (lines ≡ counted t 0) × IsGoodTree t × IsOneTree t
Stands lines places.Done t leaf = (lines ≡ tree_lines t) × IsGoodTree t × IsOneTree t

abbrev StandsAt : List (List ℕ) → TreeSheet → Type 0
StandsAt lines s = Stands lines s.place s.tree s.leaf

after_shown : (lines before : List (List ℕ)) (line : List ℕ) (next : Option ShownPlace) (s : Shown) (nodes : List Node) (leaf : Closed) → lines ≡ before → nodes ≡ [] → IsEmpty leaf → is_inconclusive s.claim ≡ false → StandsShown tree_front (before ++ line ∷ []) s next
    → Stands (lines ++ line ∷ []) (after_decided next) (record { shown = s; nodes = nodes }) leaf
after_shown lines before line (Some p) s nodes leaf e none empty d h = (ap (λ x. x ++ line ∷ []) e ∙ h.0, h.1, none, empty)
after_shown lines before line None s nodes leaf e none empty d h = (ap (λ x. x ++ line ∷ []) e ∙ h.0, h.1, none, empty, d)

push_lines : (nodes : List Node) (x : Node) → flat_map node_lines (nodes ++ x ∷ []) ≡ flat_map node_lines nodes ++ node_lines x
push_lines nodes x = flat_map-append node_lines nodes (x ∷ []) ∙ ap (λ ls. flat_map node_lines nodes ++ ls) (append-nil (node_lines x))

within : (first : List ℕ) (shown : List (List ℕ)) (count : List ℕ) (a b : List (List ℕ)) → (first ∷ (shown ++ (count ∷ a))) ++ b ≡ first ∷ (shown ++ (count ∷ (a ++ b)))
within first shown count a b = ap (λ ls. first ∷ ls) (append_assoc shown (count ∷ a) b)

-- the lines of one node more
counted_more : (t : TreeCertificate) (x : Node) (more : ℕ) → counted t (more + 1) ++ node_lines x ≡ counted (record t { nodes = t.nodes ++ x ∷ [] }) more
counted_more t x more =
    let count : length t.nodes + (more + 1) ≡ length (t.nodes ++ x ∷ []) + more = omega (arith, length-append t.nodes (x ∷ [])) in
    within (title t.shown) (shown_lines t.shown) (count_line (codes "nodes ") (length t.nodes + (more + 1))) (flat_map node_lines t.nodes) (node_lines x)
    ∙ ap (λ k. title t.shown ∷ (shown_lines t.shown ++ (count_line (codes "nodes ") k ∷ (flat_map node_lines t.nodes ++ node_lines x)))) count
    ∙ ap (λ ls. title t.shown ∷ (shown_lines t.shown ++ (count_line (codes "nodes ") (length (t.nodes ++ x ∷ []) + more) ∷ ls))) (sym (push_lines t.nodes x))

good_more : (t : TreeCertificate) (x : Node) → IsGoodTree t → IsLeafOf t.shown x → HasNodeRanges x → IsGoodTree (record t { nodes = t.nodes ++ x ∷ [] })
good_more t x g leaf range = record {
  shown = g.shown;
  decided = g.decided;
  leaves = All-push (IsLeafOf t.shown) t.nodes x g.leaves leaf;
  ranges = All-push HasNodeRanges t.nodes x g.ranges range;
}

-- behind the last line of a leaf
at_nodes : (lines : List (List ℕ)) (t : TreeCertificate) (left due : ℕ) (leaf : Closed) → lines ≡ counted t left → IsGoodTree t → IsDue t left due → IsEmpty leaf → Stands lines (nodes_left left due) t leaf
at_nodes lines t left due leaf e g d empty = by_test (left == 0)
    (λ (k : (left == 0) ≡ true).
    let none : left ≡ 0 = grind (arith, nat_tests, k) in
    let end : due ≡ 0 = nothing_due left due none d.can in
    let all : Stands lines places.End t leaf = (e ∙ ap (counted t) none, g, record { few = omega (arith, d.few); whole = ap (makes_trees 1) (sym (append-nil t.nodes)) ∙ d.rest [] ∙ ap (λ n. n == 0) end }) in
    rw k all)
    (λ (k : (left == 0) ≡ false).
    let some : 0 < left = grind (arith, nat_tests, k) in
    let all : Stands lines (places.Node left due) t leaf = (e, g, d, empty, some) in
    rw k all)

after_closed : (lines : List (List ℕ)) (line : List ℕ) (t : TreeCertificate) (left due : ℕ) (p : ClosedPlace) (leaf c : Closed) (next : Option ClosedPlace) → Stands lines (places.Leaf left due p) t leaf → StandsClosed t.shown (written_closed p leaf ++ line ∷ []) c next
    → StandsAt (lines ++ line ∷ []) (leaf_left left due t next c)
after_closed lines line t left due p leaf c (Some q) h k = (ap (λ x. x ++ line ∷ []) h.0 ∙ append_assoc (counted t (left + 1)) (codes "closed" ∷ written_closed p leaf) (line ∷ []) ∙ ap (λ ls. counted t (left + 1) ++ (codes "closed" ∷ ls)) k.0, h.1, h.2, k.1)
after_closed lines line t left due p leaf c None h k = at_nodes (lines ++ line ∷ []) (record t { nodes = t.nodes ++ kinds.Closed c ∷ [] }) left due _
    (ap (λ x. x ++ line ∷ []) h.0 ∙ append_assoc (counted t (left + 1)) (codes "closed" ∷ written_closed p leaf) (line ∷ []) ∙ ap (λ ls. counted t (left + 1) ++ (codes "closed" ∷ ls)) k.0 ∙ counted_more t (kinds.Closed c) left)
    (good_more t (kinds.Closed c) h.1 k.1.closed k.1.ranges)
    (record {
      few = omega (arith, h.2.few, length-append t.nodes (kinds.Closed c ∷ []));
      can = h.2.can;
      rest = λ rest. ap (makes_trees 1) (append_assoc t.nodes (kinds.Closed c ∷ []) rest) ∙ h.2.rest c rest;
    })
    (refl, refl, refl)

opens_leaf : (lines : List (List ℕ)) (line : List ℕ) (t : TreeCertificate) (left due : ℕ) (leaf : Closed) → Stands lines (places.Node left due) t leaf → line ≡ codes "closed" → can_make (left - 1) (due - 1) ≡ true → Stands (lines ++ line ∷ []) (places.Leaf (left - 1) (due - 1) HeadCount) t leaf
opens_leaf lines line t left due leaf h e can =
    let some : 0 < left = h.4 in
    let back : left ≡ left - 1 + 1 = omega arith in
    let due_some : 0 < due = some_due left due some h.2.can in
    let test : nat_lt 0 due ≡ true = grind (arith, nat_tests) in (
      ap (λ x. x ++ line ∷ []) h.0 ∙ ap (λ l. counted t left ++ l ∷ []) e ∙ ap (λ n. counted t n ++ codes "closed" ∷ []) back,
      h.1,
      record { few = omega (arith, h.2.few, some); can = can; rest = λ c rest. h.2.rest (kinds.Closed c ∷ rest) ∙ ap (λ b. b && makes_trees (due - 1) rest) test },
      h.3,
    )

splits_on : (lines : List (List ℕ)) (line : List ℕ) (t : TreeCertificate) (left due link : ℕ) (leaf : Closed) → Stands lines (places.Node left due) t leaf → line ≡ count_line (codes "split ") link → link < 2 ^ 32 → can_make (left - 1) (due + 1) ≡ true
    → Stands (lines ++ line ∷ []) (places.Node (left - 1) (due + 1)) (record t { nodes = t.nodes ++ kinds.Split link ∷ [] }) leaf
splits_on lines line t left due link leaf h e range can =
    let some : 0 < left = h.4 in
    let back : left ≡ left - 1 + 1 = omega arith in
    let due_some : 0 < due = some_due left due some h.2.can in
    let test : nat_lt 0 due ≡ true = grind (arith, nat_tests) in
    let fit = trees_fit (left - 1) (due + 1) can in (
      ap (λ x. x ++ line ∷ []) h.0 ∙ ap (λ l. counted t left ++ l ∷ []) e ∙ ap (λ n. counted t n ++ count_line (codes "split ") link ∷ []) back ∙ counted_more t (kinds.Split link) (left - 1),
      good_more t (kinds.Split link) h.1 tt range,
      record {
        few = omega (arith, h.2.few, some, length-append t.nodes (kinds.Split link ∷ []));
        can = can;
        rest = λ rest. ap (makes_trees 1) (append_assoc t.nodes (kinds.Split link ∷ []) rest) ∙ h.2.rest (kinds.Split link ∷ rest) ∙ ap (λ b. b && makes_trees (due + 1) rest) test;
      },
      h.3,
      omega (arith, fit),
    )

node_on : (lines : List (List ℕ)) (t : TreeCertificate) (left due : ℕ) (leaf : Closed) (line : List ℕ) (x : TreePlace × List Node) → Stands lines (places.Node left due) t leaf → asked_node left due t.nodes line ≡ Some x → Stands (lines ++ line ∷ []) x.0 (record t { nodes = x.1 }) leaf
node_on lines t left due leaf line x h a = by_test (bytes_eq line (codes "closed"))
    (λ (e : bytes_eq line (codes "closed") ≡ true).
    let k = if_some (can_make (left - 1) (due - 1)) (places.Leaf (left - 1) (due - 1) HeadCount, t.nodes) x (rw e at a) in
    subst (λ (y : TreePlace × List Node). Stands (lines ++ line ∷ []) y.0 (record t { nodes = y.1 }) leaf) k.1 (opens_leaf lines line t left due leaf h (same_bytes line (codes "closed") e) k.0))
    (λ (e : bytes_eq line (codes "closed") ≡ false).
    let r = bind_some (λ link. if nat_lt link (2 ^ 32) && can_make (left - 1) (due + 1) then Some (places.Node (left - 1) (due + 1), t.nodes ++ kinds.Split link ∷ []) else None) (count_after (codes "split ") line) x (rw e at a) in
    let k = if_some (nat_lt r.0 (2 ^ 32) && can_make (left - 1) (due + 1)) (places.Node (left - 1) (due + 1), t.nodes ++ kinds.Split r.0 ∷ []) x r.2 in
    let b = both (nat_lt r.0 (2 ^ 32)) (can_make (left - 1) (due + 1)) k.0 in
    let range : r.0 < 2 ^ 32 = grind (arith, nat_tests, b.0) in
    subst (λ (y : TreePlace × List Node). Stands (lines ++ line ∷ []) y.0 (record t { nodes = y.1 }) leaf) k.1 (splits_on lines line t left due r.0 leaf h (count_spells (codes "split ") line r.0 r.1).0 range b.1))

-- a line of the form asked carries on what the lines so far say
stands_on : (lines : List (List ℕ)) (p : TreePlace) (t : TreeCertificate) (leaf : Closed) (line : List ℕ) (u : TreeSheet) → Stands lines p t leaf → asked_tree p t leaf line ≡ Some u → StandsAt (lines ++ line ∷ []) u
stands_on lines places.Title t leaf line u h e =
    let r = map_some (λ dropped. tree_sheet (places.Shown Terms) (record t { shown = record t.shown { dropped = dropped } }) leaf) (titled tree_front line) u e in
    subst (StandsAt (lines ++ line ∷ [])) r.2 (ap (λ x. x ++ line ∷ []) h.0 ∙ ap (λ l. l ∷ []) (title_is tree_front line r.0 r.1), h.1, h.2, h.3)
stands_on lines (places.Shown p) t leaf line u h e =
    let r = map_some (λ (s : TreePlace × Shown). tree_sheet s.0 (record t { shown = s.1 }) leaf) (asked_decided p t.shown line) u e in
    let k = decided_is p t.shown line r.0 r.1 in
    subst (StandsAt (lines ++ line ∷ [])) r.2 (subst (λ (s : TreePlace × Shown). Stands (lines ++ line ∷ []) s.0 (record t { shown = s.1 }) leaf) k.3
    (after_shown lines (written_shown tree_front p t.shown) line k.0.0 k.0.1 t.nodes leaf h.0 h.2 h.3 k.2 (shown_step tree_front (written_shown tree_front p t.shown) t.shown line p refl h.1 k.0 k.1)))
stands_on lines places.NodeCount t leaf line u h e =
    let r = bind_some (λ n. if can_make n 1 && nat_lt n 10000 then Some (tree_sheet (places.Node n 1) t leaf) else None) (count_after (codes "nodes ") line) u e in
    let k = if_some (can_make r.0 1 && nat_lt r.0 10000) (tree_sheet (places.Node r.0 1) t leaf) u r.2 in
    let b = both (can_make r.0 1) (nat_lt r.0 10000) k.0 in
    let few : r.0 < 10000 = grind (arith, nat_tests, b.1) in
    let zero : r.0 ≡ 0 + r.0 = omega arith in
    subst (StandsAt (lines ++ line ∷ [])) k.1 (
      ap (λ x. x ++ line ∷ []) h.0 ∙ ap (λ l. title t.shown ∷ (shown_lines t.shown ++ l ∷ [])) ((count_spells (codes "nodes ") line r.0 r.1).0 ∙ ap (count_line (codes "nodes ")) zero) ∙ ap (λ (ns : List Node). title t.shown ∷ (shown_lines t.shown ++ (count_line (codes "nodes ") (length ns + r.0) ∷ flat_map node_lines ns))) (sym h.2),
      record { shown = h.1; decided = h.4; leaves = subst (All (IsLeafOf t.shown)) (sym h.2) (All-nil (IsLeafOf t.shown)); ranges = subst (All HasNodeRanges) (sym h.2) (All-nil HasNodeRanges) },
      record { few = omega (arith, few, ap length h.2); can = b.0; rest = λ rest. ap (λ (ns : List Node). makes_trees 1 (ns ++ rest)) h.2 },
      h.3,
      trees_fit r.0 1 b.0,
    )
stands_on lines (places.Node left due) t leaf line u h e =
    let r = map_some (λ (s : TreePlace × List Node). tree_sheet s.0 (record t { nodes = s.1 }) leaf) (asked_node left due t.nodes line) u e in
    subst (StandsAt (lines ++ line ∷ [])) r.2 (node_on lines t left due leaf line r.0 h r.1)
stands_on lines (places.Leaf left due p) t leaf line u h e =
    let r = map_some (λ (s : Option ClosedPlace × Closed). leaf_left left due t s.0 s.1) (asked_closed t.shown p leaf line) u e in
    subst (StandsAt (lines ++ line ∷ [])) r.2 (after_closed lines line t left due p leaf r.0.1 r.0.0 h (closed_step t.shown (written_closed p leaf) leaf line p refl h.3 r.0 r.1))
stands_on lines places.End t leaf line u h e =
    let r = if_some (bytes_eq line (codes "end")) (tree_sheet places.Done t leaf) u e in
    let zero : length t.nodes + 0 ≡ length t.nodes = omega arith in
    subst (StandsAt (lines ++ line ∷ [])) r.1 (
      ap (λ x. x ++ line ∷ []) h.0 ∙ ap (λ l. counted t 0 ++ l ∷ []) (same_bytes line (codes "end") r.0) ∙ within (title t.shown) (shown_lines t.shown) (count_line (codes "nodes ") (length t.nodes + 0)) (flat_map node_lines t.nodes) (codes "end" ∷ [])
          ∙ ap (λ k. title t.shown ∷ (shown_lines t.shown ++ (count_line (codes "nodes ") k ∷ (flat_map node_lines t.nodes ++ codes "end" ∷ [])))) zero,
      h.1,
      h.2,
    )
stands_on lines places.Done t leaf line u h e = nothing u e

stands_filled : (more before : List (List ℕ)) (s t : TreeSheet) → StandsAt before s → filled trees s more ≡ Some t → StandsAt (before ++ more) t
stands_filled [] before s t h e = subst (λ x. StandsAt x t) (sym (append-nil before)) (subst (StandsAt before) (some_same s t e) h)
stands_filled (line ∷ more) before s t h e =
    let r = bind_some (λ u. filled trees u more) (asked_tree s.place s.tree s.leaf line) t e in
    subst (λ x. StandsAt x t) (append_assoc before (line ∷ []) more) (stands_filled more (before ++ line ∷ []) r.0 t (stands_on before s.place s.tree s.leaf line r.0 h r.1) r.2)

-- what a tree certificate is made of, where no line is to come
done_stands : (lines : List (List ℕ)) (p : TreePlace) (t u : TreeCertificate) (leaf : Closed) → (if is_whole_tree p then Some t else None) ≡ Some u → Stands lines p t leaf → Stands lines places.Done u leaf
done_stands lines places.Done t u leaf h k = subst (λ x. Stands lines places.Done x leaf) (some_same t u h) k
done_stands lines places.Title t u leaf h k = nothing u h
done_stands lines (places.Shown p) t u leaf h k = nothing u h
done_stands lines places.NodeCount t u leaf h k = nothing u h
done_stands lines (places.Node left due) t u leaf h k = nothing u h
done_stands lines (places.Leaf left due p) t u leaf h k = nothing u h
done_stands lines places.End t u leaf h k = nothing u h

-- What is decoded has the bytes as its text.
pub decoded_is_tree : (t : TreeCertificate) (bytes : List ℕ) → decoded trees bytes ≡ Ok t → IsTreeText t bytes
decoded_is_tree t bytes h =
    let w = whole_lines trees bytes t h in
    let s = done_stands w.lines w.sheet.place w.sheet.tree t w.sheet.leaf w.made (stands_filled w.lines [] blank_tree w.sheet (refl, refl, refl, (refl, refl, refl)) w.good) in
    record {
      writable = record { shown = s.1.shown.shown; decided = s.1.decided; few = s.2.few; whole = s.2.whole; leaves = s.1.leaves };
      ranges = record { shown = s.1.shown.ranges; nodes = s.1.ranges };
      is = w.is ∙ ap (flat_map ended) s.0;
    }
