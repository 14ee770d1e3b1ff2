-- What the rows of a ring name is there: links, the routers that they leave and reach, and labels.
use Rattle.std.proofs.Common.{◌≡◌, Bool, ℕ, zero, suc, ◌+◌, ◌-◌, ◌*◌, ◌<◌, ◌≤◌, true, false, ◌&&◌, ◌==◌, nat_lt, nat_le, List, [], ◌∷◌, ◌++◌, length, map, replicate, slice_get, Some, refl, ap, ◌∙◌, arith}
use Rattle.std.specs.List.{list_all, range_with_len}
use Rattle.std.specs.Option.{option_map_or}
use Rattle.std.proofs.lemmas.Bool.{and_from, eq-eqb, lt-ltb, cond_both}
use Rattle.std.proofs.lemmas.List.{length-replicate}
use Rattle.std.proofs.lemmas.List.FromFn.{length-map-range_with_len}
use Rattle.wi_labels.specs.declared.label.Class.TheVariants.{Mpls, Smpls, Ip}
use Rattle.wi_labels.specs.declared.label.Label.{Label}
use Rattle.wi_labels.specs.declared.ops.Op.{Op}
use Rattle.wi_labels.specs.declared.ops.Op.TheVariants.{Pop}
use Rattle.wi_net.specs.declared.parts.LinkId.{LinkId}
use Rattle.wi_net.specs.declared.parts.Link.{Link}
use Rattle.wi_net.specs.declared.parts.Member.{Member}
use Rattle.wi_net.specs.Net.{label_known}
use Rattle.wi_net.specs.Network.{op_known, leaves, is_member_at, is_group_at, is_row_of}
use Rattle.wi_net.proofs.KeptLists.{get_before, there_from}
use Rattle.wi_gen.specs.Ring.{Ring, net_of, classes_of, labels_of, links_of, link, entry, exit, s, t, r, back, along, bypass, destination, forward, backward, forward_link, backward_link, push, swap, way, row, first_row, bypass_row}
use Rattle.wi_gen.specs.private.Ring.{IsRing}
use Rattle.wi_gen.specs.private.Rows.{first_groups, middle_groups, last_groups, bypass_op, bypass_groups, middle_row, last_row}
use Rattle.wi_gen.proofs.RangeLemmas.{get_in_range}
use Rattle.wi_gen.proofs.TurnLemmas.{turn_within, next_before, next_last, next_back}
use Rattle.wi_gen.proofs.LabelLemmas.{labels_count}

-- ---- what stands at a place
get_later : {X : Type 0} (xs ys : List X) (i k : ℕ) (x : X) → length xs + i ≡ k → slice_get ys i ≡ Some x → slice_get (xs ++ ys) k ≡ Some x
get_later [] ys i k x is e = ap (slice_get ys) (omega arith) ∙ e
get_later (y ∷ xs) ys i zero x is e = absurd (omega arith)
get_later (y ∷ xs) ys i (suc k) x is e = get_later xs ys i k x (omega arith) e

get_same : {X : Type 0} (n i : ℕ) (x : X) → i < n → slice_get (replicate n x) i ≡ Some x
get_same zero i x low = absurd (omega arith)
get_same (suc n) zero x low = refl
get_same (suc n) (suc i) x low = get_same n i x (omega arith)

-- ---- labels
bypass_known : (ring : Ring) (i : ℕ) → i < ring.path → label_known (classes_of ring) (bypass ring i) ≡ true
bypass_known ring i low =
    rw (get_before (replicate ring.path Mpls ++ replicate ring.path Smpls) (Ip ∷ []) i Mpls
    (get_before (replicate ring.path Mpls) (replicate ring.path Smpls) i Mpls (get_same ring.path i Mpls low))) refl

along_known : (ring : Ring) (i : ℕ) → 1 ≤ i → i ≤ ring.path → label_known (classes_of ring) (along ring i) ≡ true
along_known ring i first last =
    rw (get_before (replicate ring.path Mpls ++ replicate ring.path Smpls) (Ip ∷ []) (ring.path + i - 1) Smpls
    (get_later (replicate ring.path Mpls) (replicate ring.path Smpls) (i - 1) (ring.path + i - 1) Smpls
    (omega (arith, length-replicate ring.path Mpls)) (get_same ring.path (i - 1) Smpls (omega arith)))) refl

-- ---- links
abbrev outer : Ring → List Link
outer ring = link ring entry s (r 0) 0 ∷ link ring exit (r ring.path) t 1 ∷ []

abbrev forwards : Ring → List Link
forwards ring = map (forward_link ring) (range_with_len 0 ring.size)

abbrev backwards : Ring → List Link
backwards ring = map (backward_link ring) (range_with_len 0 ring.size)

forward_at : (ring : Ring) (i : ℕ) → i < ring.size → slice_get (links_of ring) (2 + i) ≡ Some (forward_link ring i)
forward_at ring i low =
    get_later (outer ring) (forwards ring ++ backwards ring) i (2 + i) (forward_link ring i) refl
    (get_before (forwards ring) (backwards ring) i (forward_link ring i) (get_in_range (forward_link ring) 0 ring.size i i low (omega arith)))

backward_at : (ring : Ring) (i : ℕ) → i < ring.size → slice_get (links_of ring) (2 + ring.size + i) ≡ Some (backward_link ring i)
backward_at ring i low =
    get_later (outer ring) (forwards ring ++ backwards ring) (ring.size + i) (2 + ring.size + i) (backward_link ring i) (omega arith)
    (get_later (forwards ring) (backwards ring) i (ring.size + i) (backward_link ring i)
    (omega (arith, length-map-range_with_len (forward_link ring) 0 ring.size))
    (get_in_range (backward_link ring) 0 ring.size i i low (omega arith)))

-- ---- operations, a group of one member, and a row
abbrev ops_known : Ring → List Op → Bool
ops_known ring ops = list_all (op_known (net_of ring)) ops

one_known : (ring : Ring) (op : Op) → op_known (net_of ring) op ≡ true → ops_known ring (op ∷ []) ≡ true
one_known ring op known = and_from (op_known (net_of ring) op) true known refl

both_known : (ring : Ring) (a b : Op) → op_known (net_of ring) a ≡ true → op_known (net_of ring) b ≡ true → ops_known ring (a ∷ b ∷ []) ≡ true
both_known ring a b known other = and_from (op_known (net_of ring) a) (ops_known ring (b ∷ [])) known (one_known ring b other)

-- a group that a router of a number may have
abbrev may_have : Ring → ℕ → List Member → Bool
may_have ring router group = is_group_at (net_of ring) (record { 0 = router }) group

way_known : (ring : Ring) (e : LinkId) (ops : List Op) (l : Link) (router : ℕ) → slice_get (links_of ring) e.0 ≡ Some l → l.from.0 ≡ router
    → nat_le (length ops) 8 ≡ true → ops_known ring ops ≡ true → may_have ring router (way e ops) ≡ true
way_known ring e ops l router there from short known =
    and_from (is_member_at (net_of ring) (record { 0 = router }) (record { link = e; ops = ops })) true
    (and_from (leaves (net_of ring) (record { 0 = router }) e) (nat_le (length ops) 8 && ops_known ring ops)
    (there_from (λ (k : Link). k.from.0 == router) (slice_get (links_of ring) e.0) l there (eq-eqb l.from.0 router from))
    (and_from (nat_le (length ops) 8) (ops_known ring ops) short known))
    refl

two_known : (ring : Ring) (router : ℕ) (a b : List Member) → may_have ring router a ≡ true → may_have ring router b ≡ true
    → list_all (may_have ring router) (a ∷ b ∷ []) ≡ true
two_known ring router a b one other =
    and_from (may_have ring router a) (may_have ring router b && true) one (and_from (may_have ring router b) true other refl)

row_known : (ring : Ring) (label : Label) (groups : List (List Member)) (e : LinkId) (l : Link) (router : ℕ) → label.0 ≤ 2 * ring.path
    → slice_get (links_of ring) e.0 ≡ Some l → l.to.0 ≡ router → list_all (may_have ring router) groups ≡ true
    → is_row_of (net_of ring) (row label groups e) ≡ true
row_known ring label groups e l router low there to known =
    and_from (nat_lt label.0 (length (labels_of ring))) (option_map_or reached (slice_get (links_of ring) e.0) false)
    (lt-ltb label.0 (length (labels_of ring)) (omega (arith, labels_count ring)))
    (there_from reached (slice_get (links_of ring) e.0) l there (ap (λ n. list_all (may_have ring n) groups) to ∙ known))
  where
    reached : Link → Bool
    reached = λ k. list_all (is_group_at (net_of ring) k.to) groups

-- ---- the rows of a ring
pub first_known : (ring : Ring) → IsRing ring → is_row_of (net_of ring) (first_row ring) ≡ true
first_known ring bounds =
    row_known ring (destination ring) (first_groups ring) entry (link ring entry s (r 0) 0) 2 (omega arith) refl refl
    (two_known ring 2 (way (forward ring 0) (onto ∷ [])) (way (backward ring last) (onto ∷ aside ∷ []))
    (way_known ring (forward ring 0) (onto ∷ []) (forward_link ring 0) 2 (forward_at ring 0 (omega (arith, bounds.within))) refl refl
    (one_known ring onto onto_known))
    (way_known ring (backward ring last) (onto ∷ aside ∷ []) (backward_link ring last) 2 (backward_at ring last (omega (arith, bounds.within)))
    (ap (λ n. 2 + n) (next_last ring.size (omega (arith, bounds.within)))) refl
    (both_known ring onto aside onto_known (bypass_known ring 0 (omega (arith, bounds.some))))))
  where
    last : ℕ
    last = ring.size - 1

    onto : Op
    onto = push (along ring 1)

    aside : Op
    aside = push (bypass ring 0)

    onto_known : op_known (net_of ring) (push (along ring 1)) ≡ true
    onto_known = along_known ring 1 (omega arith) (omega (arith, bounds.some))

middle_groups_known : (ring : Ring) (i : ℕ) → IsRing ring → 1 ≤ i → i < ring.path
    → list_all (may_have ring (2 + i)) (middle_groups ring i) ≡ true
middle_groups_known ring i bounds first last =
    two_known ring (2 + i) (way (forward ring i) (onto ∷ [])) (way (backward ring (i - 1)) (onto ∷ aside ∷ []))
    (way_known ring (forward ring i) (onto ∷ []) (forward_link ring i) (2 + i) (forward_at ring i (omega (arith, bounds.within))) refl refl
    (one_known ring onto onto_known))
    (way_known ring (backward ring (i - 1)) (onto ∷ aside ∷ []) (backward_link ring (i - 1)) (2 + i)
    (backward_at ring (i - 1) (omega (arith, bounds.within)))
    (ap (λ n. 2 + n) (next_before i ring.size (omega arith) (omega (arith, bounds.within)))) refl
    (both_known ring onto aside onto_known (bypass_known ring i last)))
  where
    onto : Op
    onto = swap (along ring (i + 1))

    aside : Op
    aside = push (bypass ring i)

    onto_known : op_known (net_of ring) (swap (along ring (i + 1))) ≡ true
    onto_known = along_known ring (i + 1) (omega arith) (omega arith)

last_groups_known : (ring : Ring) → list_all (may_have ring (2 + ring.path)) last_groups ≡ true
last_groups_known ring =
    and_from (may_have ring (2 + ring.path) (way exit (Pop ∷ []))) true
    (way_known ring exit (Pop ∷ []) (link ring exit (r ring.path) t 1) (2 + ring.path) refl refl refl refl) refl

-- what comes to r i along the path, and what comes as the last of a bypass
pub middle_known : (ring : Ring) (i : ℕ) → IsRing ring → 1 ≤ i → i < ring.path → is_row_of (net_of ring) (middle_row ring i (forward ring (i - 1))) ≡ true
middle_known ring i bounds first last =
    row_known ring (along ring i).0 (middle_groups ring i) (forward ring (i - 1)) (forward_link ring (i - 1)) (2 + i) (omega arith)
    (forward_at ring (i - 1) (omega (arith, bounds.within))) (ap (λ n. 2 + n) (next_before i ring.size (omega arith) (omega (arith, bounds.within))))
    (middle_groups_known ring i bounds first last)

pub middle_known_aside : (ring : Ring) (i : ℕ) → IsRing ring → 1 ≤ i → i < ring.path → is_row_of (net_of ring) (middle_row ring i (backward ring i)) ≡ true
middle_known_aside ring i bounds first last =
    row_known ring (along ring i).0 (middle_groups ring i) (backward ring i) (backward_link ring i) (2 + i) (omega arith)
    (backward_at ring i (omega (arith, bounds.within))) refl (middle_groups_known ring i bounds first last)

-- the same at the path's last router
pub last_known : (ring : Ring) → IsRing ring → is_row_of (net_of ring) (last_row ring (forward ring (ring.path - 1))) ≡ true
last_known ring bounds =
    row_known ring (along ring ring.path).0 last_groups (forward ring (ring.path - 1)) (forward_link ring (ring.path - 1)) (2 + ring.path)
    (omega (arith, bounds.some)) (forward_at ring (ring.path - 1) (omega (arith, bounds.within)))
    (ap (λ n. 2 + n) (next_before ring.path ring.size (omega (arith, bounds.some)) bounds.within)) (last_groups_known ring)

pub last_known_aside : (ring : Ring) → IsRing ring → is_row_of (net_of ring) (last_row ring (backward ring ring.path)) ≡ true
last_known_aside ring bounds =
    row_known ring (along ring ring.path).0 last_groups (backward ring ring.path) (backward_link ring ring.path) (2 + ring.path)
    (omega (arith, bounds.some)) (backward_at ring ring.path bounds.within) refl (last_groups_known ring)

-- and on a bypass
pub bypass_row_known : (ring : Ring) (i d : ℕ) → IsRing ring → i < ring.path → d + 1 < ring.size → is_row_of (net_of ring) (bypass_row ring i d) ≡ true
bypass_row_known ring i d bounds within far =
    row_known ring (bypass ring i).0 (bypass_groups ring i d) (backward ring here) (backward_link ring here) (2 + here) (omega arith)
    (backward_at ring here (turn_within (i + ring.size - d) ring.size (omega arith))) refl
    (and_from (may_have ring (2 + here) (way (backward ring next) (op ∷ []))) true
    (way_known ring (backward ring next) (op ∷ []) (backward_link ring next) (2 + here)
    (backward_at ring next (turn_within (i + ring.size - (d + 1)) ring.size (omega arith))) (ap (λ n. 2 + n) (next_back i d ring.size (omega arith))) refl
    (one_known ring op
    (cond_both (d == ring.size - 2) Pop (swap (bypass ring i)) (λ o. op_known (net_of ring) o ≡ true) (λ e. refl) (λ e. bypass_known ring i within))))
    refl)
  where
    here : ℕ
    here = back ring i d

    next : ℕ
    next = back ring i (d + 1)

    op : Op
    op = bypass_op ring i d
