-- What a line of a tree that is taken leaves: there is room for the nodes to come, the answer stays decided, and there is one line more.
use Rattle.std.specs.Prelude.{◌≡◌, ℕ, ◌+◌, ◌-◌, ◌%◌, ◌^◌, ◌<◌, ◌≤◌, true, false, ◌==◌, ◌&&◌, if◌then◌else◌, List, [], ◌∷◌, ◌++◌, Option, Some, None, length, refl, codes, nat_le, nat_lt, option_and_then, option_map}
use Rattle.std.specs.Option.{option_map_or}
use Rattle.std.specs.Str.{bytes_eq}
use Rattle.std.proofs.Common.{sym, ap, ◌∙◌, subst, arith, length-append}
use Rattle.std.proofs.lemmas.Bool.Decides.{nat_tests}
use Rattle.std.proofs.lemmas.List.Sums.{sum_by_push}
use Rattle.wi_cert.specs.declared.shown.Claim.{Claim}
use Rattle.wi_cert.specs.declared.shown.Claim.TheVariants.{Yes, No}
use Rattle.wi_cert.specs.declared.shown.Dropped.{Dropped}
use Rattle.wi_cert.specs.declared.shown.Shown.{Shown}
use Rattle.wi_cert.specs.declared.shown.ShownPlace.{ShownPlace}
use Rattle.wi_cert.specs.declared.shown.ShownPlace.TheVariants.{Terms, Answer, Weight, First, StepCount, Step, Dropped as DroppedAt}
use Rattle.wi_cert.specs.declared.closed.Closed.{Closed}
use Rattle.wi_cert.specs.declared.closed.ClosedPlace.{ClosedPlace}
use Rattle.wi_cert.specs.declared.closed.ClosedPlace.TheVariants.{HeadCount}
use Rattle.wi_cert.specs.declared.tree.Node.{Node}
use Rattle.wi_cert.specs.declared.tree.Node.TheVariants as kinds
use Rattle.wi_cert.specs.declared.tree.TreeCertificate.{TreeCertificate}
use Rattle.wi_cert.specs.declared.tree.TreePlace.{TreePlace}
use Rattle.wi_cert.specs.declared.tree.TreePlace.TheVariants as places
use Rattle.wi_cert.specs.Numbers.{numbers_in, count_after}
use Rattle.wi_cert.specs.Shown.{is_no, tree_front, titled, asked_shown, steps_left, step_of, claim_of, weight_of, first_of, dropped_of}
use Rattle.wi_cert.specs.Closed.{asked_closed}
use Rattle.wi_cert.specs.Trees.{is_inconclusive, can_make, TreeSheet, tree_sheet, nodes_left, asked_decided, asked_node, leaf_left, asked_tree}
use Rattle.wi_cert.specs.private.Marks.{dropped_count, rank}
use Rattle.wi_cert.specs.private.TreeMarks.{tree_rank, node_line_count, tree_line_count, HasRoom, is_undecided}
use Rattle.wi_cert.proofs.Cases.{by_test, both, bind_some, map_some, if_some, unless_some, nothing, some_same}
use Rattle.wi_cert.proofs.MarkLemmas.{after_shown, ClosedGoes, shown_goes, closed_goes}

claim_decided : (line : List ℕ) (w : Claim) → claim_of line ≡ Some w → bytes_eq line (codes "answer inconclusive") ≡ false → is_inconclusive w ≡ false
claim_decided line w h not_last = by_test (bytes_eq line (codes "answer yes"))
    (λ (e : bytes_eq line (codes "answer yes") ≡ true). claim_same Yes w (rw e at h) refl)
    (λ (e : bytes_eq line (codes "answer yes") ≡ false). by_test (bytes_eq line (codes "answer no"))
    (λ (k : bytes_eq line (codes "answer no") ≡ true). claim_same No w (rw (e, k) at h) refl)
    (λ (k : bytes_eq line (codes "answer no") ≡ false). nothing w (rw (e, k, not_last) at h)))
  where
    claim_same : (a b : Claim) → Some a ≡ Some b → is_inconclusive a ≡ false → is_inconclusive b ≡ false
    claim_same a b h k = subst (λ x. is_inconclusive x ≡ false) (some_same a b h) k

abbrev IsDecided : Option ShownPlace × Shown → Type 0
IsDecided x = is_inconclusive x.1.claim ≡ false

-- no line but one makes an answer inconclusive
pub stays_decided : (p : ShownPlace) (s : Shown) (line : List ℕ) (x : Option ShownPlace × Shown) → asked_shown p s line ≡ Some x → is_undecided p line ≡ false → is_inconclusive s.claim ≡ false → IsDecided x
stays_decided Terms s line x h u d =
    let r = bind_some (λ n. if nat_le n 5 then Some (Some Answer, record s { terms = n }) else None) (count_after (codes "terms ") line) x h in
    subst IsDecided (if_some (nat_le r.0 5) (Some Answer, record s { terms = r.0 }) x r.2).1 d
stays_decided Answer s line x h u d =
    let r = map_some (λ claim. (Some Weight, record s { claim = claim })) (claim_of line) x h in
    subst IsDecided r.2 (claim_decided line r.0 r.1 u)
stays_decided Weight s line x h u d = subst IsDecided (map_some (λ w. (Some First, record s { weight = w })) (weight_of s.claim s.terms line) x h).2 d
stays_decided First s line x h u d = subst IsDecided (map_some (λ ns. (Some StepCount, record s { first = ns })) (first_of s.claim line) x h).2 d
stays_decided StepCount s line x h u d =
    let r = bind_some (λ n. if is_no s.claim && nat_lt 0 n then None else Some (steps_left s.dropped n, s)) (count_after (codes "steps ") line) x h in
    subst IsDecided (unless_some (is_no s.claim && nat_lt 0 r.0) (steps_left s.dropped r.0, s) x r.2).1 d
stays_decided (Step n) s line x h u d = subst IsDecided (map_some (λ y. (steps_left s.dropped (n - 1), record s { steps = s.steps ++ y ∷ [] })) (option_and_then step_of (numbers_in line)) x h).2 d
stays_decided DroppedAt s line x h u d = subst IsDecided (map_some (λ d. (None, record s { dropped = Some d })) (dropped_of s.claim line) x h).2 d

abbrev pub after_decided : Option ShownPlace → TreePlace
after_decided next = option_map_or places.Shown next places.NodeCount

-- a line that leaves the answer decided is taken as it is in a certificate
pub decided_on : (p : ShownPlace) (s t : Shown) (line : List ℕ) (next : Option (Option ShownPlace)) → option_map (λ n. (n, t)) next ≡ asked_shown p s line → is_undecided p line ≡ false → is_inconclusive s.claim ≡ false
    → option_map (λ n. (n, t)) (option_map after_decided next) ≡ asked_decided p s line
decided_on p s t line None h u d = ap (option_and_then (λ (x : Option ShownPlace × Shown). if is_inconclusive x.1.claim then None else Some (after_decided x.0, x.1))) h
decided_on p s t line (Some n) h u d =
    let still : is_inconclusive t.claim ≡ false = stays_decided p s line (n, t) (sym h) u d in
    ap (λ b. if b then None else Some (after_decided n, t)) (sym still) ∙ ap (option_and_then (λ (x : Option ShownPlace × Shown). if is_inconclusive x.1.claim then None else Some (after_decided x.0, x.1))) h

-- what a line that shows the answer leaves, and that it is decided
pub decided_is : (p : ShownPlace) (s : Shown) (line : List ℕ) (x : TreePlace × Shown) → asked_decided p s line ≡ Some x → (y : Option ShownPlace × Shown) × (asked_shown p s line ≡ Some y) × IsDecided y × ((after_decided y.0, y.1) ≡ x)
decided_is p s line x h =
    let r = bind_some (λ (y : Option ShownPlace × Shown). if is_inconclusive y.1.claim then None else Some (after_decided y.0, y.1)) (asked_shown p s line) x h in
    let k = unless_some (is_inconclusive r.0.1.claim) (after_decided r.0.0, r.0.1) x r.2 in
    (r.0, r.1, k.0, k.1)

-- trees are no more than their nodes
pub trees_fit : (nodes trees : ℕ) → can_make nodes trees ≡ true → trees ≤ nodes
trees_fit nodes trees h = by_test (trees == 0)
    (λ (e : (trees == 0) ≡ true). let none : trees ≡ 0 = grind (arith, nat_tests, e) in omega (arith, none))
    (λ (e : (trees == 0) ≡ false). let r = both (nat_le trees nodes) ((nodes - trees) % 2 == 0) (rw e at h) in grind (arith, nat_tests, r.0))

-- what a line that is taken leaves
pub record TreeGoes (p : TreePlace) (t : TreeCertificate) (leaf : Closed) (u : TreeSheet) : Type 0 where
  pub room : HasRoom p (length t.nodes) → HasRoom u.place (length u.tree.nodes)
  pub decided : is_inconclusive t.shown.claim ≡ false → is_inconclusive u.tree.shown.claim ≡ false
  pub count : tree_line_count u ≡ tree_line_count (tree_sheet p t leaf) + 1

same_rank : (next : Option ShownPlace) (dropped : Option Dropped) → tree_rank (after_decided next) dropped ≡ rank (after_shown next) dropped
same_rank (Some p) dropped = refl
same_rank None dropped = refl

shown_room : (next : Option ShownPlace) (n : ℕ) → n ≡ 0 → HasRoom (after_decided next) n
shown_room (Some p) n h = h
shown_room None n h = h

left_rank : (left due : ℕ) (dropped : Option Dropped) → tree_rank (nodes_left left due) dropped ≡ 7 + dropped_count dropped
left_rank left due dropped = by_test (left == 0) (λ (e : (left == 0) ≡ true). rw e refl) (λ (e : (left == 0) ≡ false). rw e refl)

left_room : (left due n : ℕ) → due ≤ left → n + left < 10000 → HasRoom (nodes_left left due) n
left_room left due n fit few = by_test (left == 0)
    (λ (e : (left == 0) ≡ true). let end : n < 10000 = omega arith in rw e end)
    (λ (e : (left == 0) ≡ false). let some : 0 < left = grind (arith, nat_tests, e) in let all : (0 < left) × (due ≤ left) × (n + left < 10000) = (some, fit, few) in rw e all)

one_more_node : (nodes : List Node) (x : Node) → length (nodes ++ x ∷ []) ≡ length nodes + 1
one_more_node nodes x = length-append nodes (x ∷ [])

leaf_goes : (left due : ℕ) (p : ClosedPlace) (t : TreeCertificate) (leaf c : Closed) (next : Option ClosedPlace) → ClosedGoes p leaf (next, c) → TreeGoes (places.Leaf left due p) t leaf (leaf_left left due t next c)
leaf_goes left due p t leaf c (Some q) g = record { room = λ r. r; decided = λ d. d; count = omega (arith, g.count t.shown.dropped) }
leaf_goes left due p t leaf c None g = record {
  room = λ r. left_room left due (length (t.nodes ++ kinds.Closed c ∷ [])) r.0 (omega (arith, r.1, one_more_node t.nodes (kinds.Closed c)));
  decided = λ d. d;
  count = omega (arith, g.count t.shown.dropped, left_rank left due t.shown.dropped, sum_by_push node_line_count t.nodes (kinds.Closed c));
}

node_goes : (left due : ℕ) (t : TreeCertificate) (leaf : Closed) (line : List ℕ) (x : TreePlace × List Node) → asked_node left due t.nodes line ≡ Some x → TreeGoes (places.Node left due) t leaf (tree_sheet x.0 (record t { nodes = x.1 }) leaf)
node_goes left due t leaf line x h = by_test (bytes_eq line (codes "closed"))
    (λ (e : bytes_eq line (codes "closed") ≡ true).
    let k = if_some (can_make (left - 1) (due - 1)) (places.Leaf (left - 1) (due - 1) HeadCount, t.nodes) x (rw e at h) in
    let fit = trees_fit (left - 1) (due - 1) k.0 in
    subst (λ (y : TreePlace × List Node). TreeGoes (places.Node left due) t leaf (tree_sheet y.0 (record t { nodes = y.1 }) leaf)) k.1
    (record { room = λ r. (fit, omega (arith, r.0, r.1, r.2)); decided = λ d. d; count = omega arith }))
    (λ (e : bytes_eq line (codes "closed") ≡ false).
    let r = bind_some (λ link. if nat_lt link (2 ^ 32) && can_make (left - 1) (due + 1) then Some (places.Node (left - 1) (due + 1), t.nodes ++ kinds.Split link ∷ []) else None) (count_after (codes "split ") line) x (rw e at h) in
    let k = if_some (nat_lt r.0 (2 ^ 32) && can_make (left - 1) (due + 1)) (places.Node (left - 1) (due + 1), t.nodes ++ kinds.Split r.0 ∷ []) x r.2 in
    let fit = trees_fit (left - 1) (due + 1) (both (nat_lt r.0 (2 ^ 32)) (can_make (left - 1) (due + 1)) k.0).1 in
    let more = one_more_node t.nodes (kinds.Split r.0) in
    subst (λ (y : TreePlace × List Node). TreeGoes (places.Node left due) t leaf (tree_sheet y.0 (record t { nodes = y.1 }) leaf)) k.1
    (record { room = λ h. (omega (arith, fit), fit, omega (arith, fit, h.2, more)); decided = λ d. d; count = omega (arith, sum_by_push node_line_count t.nodes (kinds.Split r.0)) }))

pub tree_goes : (p : TreePlace) (t : TreeCertificate) (leaf : Closed) (line : List ℕ) (u : TreeSheet) → asked_tree p t leaf line ≡ Some u → TreeGoes p t leaf u
tree_goes places.Title t leaf line u h =
    let r = map_some (λ dropped. tree_sheet (places.Shown Terms) (record t { shown = record t.shown { dropped = dropped } }) leaf) (titled tree_front line) u h in
    subst (TreeGoes places.Title t leaf) r.2 (record { room = λ n. n; decided = λ d. d; count = omega arith })
tree_goes (places.Shown p) t leaf line u h =
    let r = map_some (λ (s : TreePlace × Shown). tree_sheet s.0 (record t { shown = s.1 }) leaf) (asked_decided p t.shown line) u h in
    let k = decided_is p t.shown line r.0 r.1 in
    let g = shown_goes p t.shown line k.0 k.1 in
    subst (TreeGoes (places.Shown p) t leaf) r.2 (subst (λ (s : TreePlace × Shown). TreeGoes (places.Shown p) t leaf (tree_sheet s.0 (record t { shown = s.1 }) leaf)) k.3
    (record { room = λ n. shown_room k.0.0 (length t.nodes) n; decided = λ d. k.2; count = omega (arith, g.count, same_rank k.0.0 k.0.1.dropped) }))
tree_goes places.NodeCount t leaf line u h =
    let r = bind_some (λ n. if can_make n 1 && nat_lt n 10000 then Some (tree_sheet (places.Node n 1) t leaf) else None) (count_after (codes "nodes ") line) u h in
    let k = if_some (can_make r.0 1 && nat_lt r.0 10000) (tree_sheet (places.Node r.0 1) t leaf) u r.2 in
    let b = both (can_make r.0 1) (nat_lt r.0 10000) k.0 in
    let fit : 1 ≤ r.0 = trees_fit r.0 1 b.0 in
    let few : r.0 < 10000 = grind (arith, nat_tests, b.1) in
    subst (TreeGoes places.NodeCount t leaf) k.1 (record { room = λ n. (omega (arith, fit), fit, omega (arith, n, few)); decided = λ d. d; count = omega arith })
tree_goes (places.Node left due) t leaf line u h =
    let r = map_some (λ (s : TreePlace × List Node). tree_sheet s.0 (record t { nodes = s.1 }) leaf) (asked_node left due t.nodes line) u h in
    subst (TreeGoes (places.Node left due) t leaf) r.2 (node_goes left due t leaf line r.0 r.1)
tree_goes (places.Leaf left due p) t leaf line u h =
    let r = map_some (λ (s : Option ClosedPlace × Closed). leaf_left left due t s.0 s.1) (asked_closed t.shown p leaf line) u h in
    subst (TreeGoes (places.Leaf left due p) t leaf) r.2 (leaf_goes left due p t leaf r.0.1 r.0.0 (closed_goes t.shown p leaf line r.0 r.1))
tree_goes places.End t leaf line u h =
    let r = if_some (bytes_eq line (codes "end")) (tree_sheet places.Done t leaf) u h in
    subst (TreeGoes places.End t leaf) r.1 (record { room = λ n. n; decided = λ d. d; count = omega arith })
tree_goes places.Done t leaf line u h = nothing u h

-- the same, as the code finds the place of the next line
pub tree_place_goes : (p : TreePlace) (t u : TreeCertificate) (leaf c : Closed) (line : List ℕ) (found : Option TreePlace) (next : TreePlace) → option_map (λ n. tree_sheet n u c) found ≡ asked_tree p t leaf line → found ≡ Some next → TreeGoes p t leaf (tree_sheet next u c)
tree_place_goes p t u leaf c line found next h e = tree_goes p t leaf line (tree_sheet next u c) (sym h ∙ ap (option_map (λ n. tree_sheet n u c)) e)
