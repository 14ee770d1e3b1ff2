-- The rows of a plan are added one after the other.
use Rattle.std.proofs.Common.{◌≡◌, ℕ, suc, ◌+◌, ◌-◌, ◌<◌, ◌≤◌, false, List, [], ◌∷◌, take, length, get_or, slice_get, Option, Some, None, refl, sym, ap, ◌∙◌, subst, arith}
use Rattle.std.specs.Prelude.{◌==◌}
use Rattle.wi_labels.specs.declared.label.Label.{Label}
use Rattle.wi_net.specs.declared.parts.LinkId.{LinkId}
use Rattle.wi_net.specs.declared.parts.TableRow.{TableRow}
use Rattle.wi_net.specs.Builder.{Draft, with_row}
use Rattle.wi_net.proofs.MemberLemmas.{get_read}
use Rattle.wi_net.proofs.KeptLists.{get_there}
use Rattle.wi_net.specs.declared.parts.Member.{Member}
use Rattle.wi_plan.specs.declared.plan.Path.{Path}
use Rattle.wi_plan.specs.declared.plan.Bypass.{Bypass}
use Rattle.wi_protect.specs.Labels.{moved_by, path_labels, bypass_labels, paths_labels, bypasses_labels}
use Rattle.wi_protect.specs.Rows.{Round, label, row, next_groups, end_rows, arrivals, rows_from, path_rows, via_rows, paths_rows, bypasses_rows}
use Rattle.wi_protect.specs.private.Held.{rows_at}
use Rattle.wi_protect.specs.private.Adding.{MayRow, CanAdd, with_rows}
use Rattle.wi_protect.proofs.AddLemmas.{number_at, number_next, can_each, now_each, may_front, may_back, added_append}
use Rattle.wi_protect.proofs.Placing.{path_label_within, bypass_label_within}

-- bypasses
pub bypass_room : (first m : ℕ) (xs : List Bypass) (i : ℕ) (x : Bypass) (ls : List LinkId) → m ≡ number_at bypass_labels first xs i → i < length xs → x ≡ get_or xs i x → ls ≡ x.via → first + bypasses_labels xs ≤ 20000 → m + (length ls - 1) ≤ 20000
bypass_room first m xs i x ls here lt is same few =
    let within = bypass_label_within first xs i x (get_read xs i x lt is) in
    let count : length ls ≡ length x.via = ap (λ (zs : List LinkId). length zs) same in
    omega (arith, within.1)

pub bypass_can : (first m : ℕ) (d0 d : Draft) (xs : List Bypass) (i : ℕ) (x : Bypass) (ls : List LinkId) → CanAdd d0 (bypasses_rows first xs) → d ≡ with_rows d0 (bypasses_rows first (take i xs)) → m ≡ number_at bypass_labels first xs i → i < length xs → x ≡ get_or xs i x → ls ≡ x.via → CanAdd d (via_rows m ls)
bypass_can first m d0 d xs i x ls can now here lt is same =
    let P : List LinkId → Type 0 = λ zs. CanAdd d (via_rows m zs) in
    subst P (sym same) (can_each bypass_labels (λ n (b : Bypass). via_rows n b.via) MayRow with_row d0 d first m xs i x can now (get_read xs i x lt is) here)

pub bypass_now : (first m : ℕ) (d0 d next : Draft) (xs : List Bypass) (i : ℕ) (x : Bypass) (ls : List LinkId) → d ≡ with_rows d0 (bypasses_rows first (take i xs)) → m ≡ number_at bypass_labels first xs i → i < length xs → x ≡ get_or xs i x → ls ≡ x.via → next ≡ with_rows d (via_rows m ls) → next ≡ with_rows d0 (bypasses_rows first (take (i + 1) xs))
bypass_now first m d0 d next xs i x ls now here lt is same more =
    now_each bypass_labels (λ n (b : Bypass). via_rows n b.via) with_row d0 d next first m xs i x now (get_read xs i x lt is) here (more ∙ ap (λ zs. with_rows d (via_rows m zs)) same)

pub bypass_number : (first m k : ℕ) (xs : List Bypass) (i : ℕ) (x : Bypass) → m ≡ number_at bypass_labels first xs i → i < length xs → x ≡ get_or xs i x → k ≡ bypass_labels x → m + k ≡ number_at bypass_labels first xs (i + 1)
bypass_number first m k xs i x here lt is count = omega (arith, number_next bypass_labels first xs i x (get_read xs i x lt is), here, count)

-- paths
pub path_room : (first m : ℕ) (xs : List Path) (i : ℕ) (x : Path) (ls : List LinkId) → m ≡ number_at path_labels first xs i → i < length xs → x ≡ get_or xs i x → ls ≡ x.links → first + paths_labels xs ≤ 20000 → m + (length ls - 2) ≤ 20000
path_room first m xs i x ls here lt is same few =
    let within = path_label_within first xs i x (get_read xs i x lt is) in
    let count : length ls ≡ length x.links = ap (λ (zs : List LinkId). length zs) same in
    omega (arith, within.1)

-- a path's ip label, once it has moved
moved_is : (k : ℕ) (ip at : Label) → at.0 ≡ ip.0 + k → moved_by k ip ≡ at
moved_is k ip at is = ap label (sym is)

pub path_can : (rounds : LinkId → Option Round) (k first m : ℕ) (ip : Label) (d0 d : Draft) (xs : List Path) (i : ℕ) (x : Path) (ls : List LinkId) → CanAdd d0 (paths_rows rounds (moved_by k) first xs) → d ≡ with_rows d0 (paths_rows rounds (moved_by k) first (take i xs)) → m ≡ number_at path_labels first xs i → i < length xs → x ≡ get_or xs i x → ls ≡ x.links
    → ip.0 ≡ x.ip.0 + k → CanAdd d (path_rows rounds m ip ls)
path_can rounds k first m ip d0 d xs i x ls can now here lt is same moved =
    let P : List LinkId → Type 0 = λ zs. CanAdd d (path_rows rounds m ip zs) in
    let Q : Label → Type 0 = λ l. CanAdd d (path_rows rounds m l x.links) in
    subst P (sym same) (subst Q (moved_is k x.ip ip moved) (can_each path_labels (λ n (p : Path). path_rows rounds n (moved_by k p.ip) p.links) MayRow with_row d0 d first m xs i x can now (get_read xs i x lt is) here))

pub path_now : (rounds : LinkId → Option Round) (k first m : ℕ) (ip : Label) (d0 d next : Draft) (xs : List Path) (i : ℕ) (x : Path) (ls : List LinkId) → d ≡ with_rows d0 (paths_rows rounds (moved_by k) first (take i xs)) → m ≡ number_at path_labels first xs i → i < length xs → x ≡ get_or xs i x → ls ≡ x.links
    → ip.0 ≡ x.ip.0 + k → next ≡ with_rows d (path_rows rounds m ip ls) → next ≡ with_rows d0 (paths_rows rounds (moved_by k) first (take (i + 1) xs))
path_now rounds k first m ip d0 d next xs i x ls now here lt is same moved more =
    now_each path_labels (λ n (p : Path). path_rows rounds n (moved_by k p.ip) p.links) with_row d0 d next first m xs i x now (get_read xs i x lt is) here
    (more ∙ ap (λ zs. with_rows d (path_rows rounds m ip zs)) same ∙ ap (λ l. with_rows d (path_rows rounds m l x.links)) (sym (moved_is k x.ip ip moved)))

pub path_number : (first m k : ℕ) (xs : List Path) (i : ℕ) (x : Path) → m ≡ number_at path_labels first xs i → i < length xs → x ≡ get_or xs i x → k ≡ path_labels x → m + k ≡ number_at path_labels first xs (i + 1)
path_number first m k xs i x here lt is count = omega (arith, number_next path_labels first xs i x (get_read xs i x lt is), here, count)

-- along a path
pub from_can : (rounds : LinkId → Option Round) (n : ℕ) (left rest : List LinkId) (e : LinkId) (d : Draft) → left ≡ e ∷ rest → 0 < length rest → CanAdd d (rows_at rounds n left) → CanAdd d (arrivals (rounds e) e (label n) (next_groups rounds n rest))
from_can rounds n left [] e d is some can = absurd (omega arith)
from_can rounds n left (f ∷ rest) e d is some can =
    let P : List LinkId → Type 0 = λ zs. CanAdd d (rows_at rounds n zs) in
    may_front MayRow with_row d (arrivals (rounds e) e (label n) (next_groups rounds n (f ∷ rest))) (rows_from rounds (n + 1) f rest) (subst P is can)

pub from_rest : (rounds : LinkId → Option Round) (n : ℕ) (left rest : List LinkId) (e : LinkId) (d next : Draft) → left ≡ e ∷ rest → 0 < length rest → CanAdd d (rows_at rounds n left) → next ≡ with_rows d (arrivals (rounds e) e (label n) (next_groups rounds n rest)) → CanAdd next (rows_at rounds (n + 1) rest)
from_rest rounds n left [] e d next is some can more = absurd (omega arith)
from_rest rounds n left (f ∷ rest) e d next is some can more =
    let P : List LinkId → Type 0 = λ zs. CanAdd d (rows_at rounds n zs) in
    let Q : Draft → Type 0 = λ x. CanAdd x (rows_from rounds (n + 1) f rest) in
    subst Q (sym more) (may_back MayRow with_row d (arrivals (rounds e) e (label n) (next_groups rounds n (f ∷ rest))) (rows_from rounds (n + 1) f rest) (subst P is can))

pub from_all : (rounds : LinkId → Option Round) (n : ℕ) (left rest : List LinkId) (e : LinkId) (d next all : Draft) → left ≡ e ∷ rest → 0 < length rest → with_rows d (rows_at rounds n left) ≡ all → next ≡ with_rows d (arrivals (rounds e) e (label n) (next_groups rounds n rest)) → with_rows next (rows_at rounds (n + 1) rest) ≡ all
from_all rounds n left [] e d next all is some whole more = absurd (omega arith)
from_all rounds n left (f ∷ rest) e d next all is some whole more =
    ap (λ x. with_rows x (rows_from rounds (n + 1) f rest)) more
    ∙ sym (added_append with_row d (arrivals (rounds e) e (label n) (next_groups rounds n (f ∷ rest))) (rows_from rounds (n + 1) f rest))
    ∙ ap (λ zs. with_rows d (rows_at rounds n zs)) (sym is) ∙ whole

pub some_left : (rest : List LinkId) → false ≡ (length rest == 0) → 0 < length rest
some_left [] e = cc
some_left (f ∷ rest) e = omega arith

pub from_room : (n : ℕ) (left rest : List LinkId) (e : LinkId) → left ≡ e ∷ rest → n + length left ≤ 20001 → n + 1 + length rest ≤ 20001
from_room n left rest e is room = let count : length left ≡ length (e ∷ rest) = ap (λ (zs : List LinkId). length zs) is in omega arith

-- where a way around ends
pub end_is : (via : List LinkId) (z : LinkId) (l : Label) (groups : List (List Member)) → Some z ≡ slice_get via (length via - 1) → end_rows via l groups ≡ row z l groups ∷ []
end_is [] z l groups at = cc
end_is (v ∷ []) z l groups at = let same : z ≡ v = cc in ap (λ x. row x l groups ∷ []) (sym same)
end_is (v ∷ w ∷ via) z l groups at =
    let e : length (v ∷ w ∷ via) - 1 ≡ suc (length (w ∷ via) - 1) = omega arith in
    end_is (w ∷ via) z l groups (at ∙ ap (λ i. slice_get (v ∷ w ∷ via) i) e)

pub end_none : (via : List LinkId) (l : Label) (groups : List (List Member)) → None ≡ slice_get via (length via - 1) → end_rows via l groups ≡ []
end_none [] l groups at = refl
end_none (v ∷ via) l groups at = absurd (go (get_there (v ∷ via) (length (v ∷ via) - 1) (omega arith)))
  where
    go : (x : LinkId) × (slice_get (v ∷ via) (length (v ∷ via) - 1) ≡ Some x) → ⊥
    go h = let some = h.1 in cc

pub end_can : (via : List LinkId) (z : LinkId) (n : ℕ) (groups made : List (List Member)) (d : Draft) → Some z ≡ slice_get via (length via - 1) → made ≡ groups → CanAdd d (end_rows via (label n) groups) → CanAdd d (row z (label n) made ∷ [])
end_can via z n groups made d at same can =
    let P : List TableRow → Type 0 = λ rs. CanAdd d rs in
    let Q : List (List Member) → Type 0 = λ gs. CanAdd d (row z (label n) gs ∷ []) in
    subst Q (sym same) (subst P (end_is via z (label n) groups at) can)

pub end_now : (via : List LinkId) (z : LinkId) (n : ℕ) (groups made : List (List Member)) (d next : Draft) → Some z ≡ slice_get via (length via - 1) → made ≡ groups → next ≡ with_rows d (row z (label n) made ∷ []) → next ≡ with_rows d (end_rows via (label n) groups)
end_now via z n groups made d next at same more = more ∙ ap (λ gs. with_rows d (row z (label n) gs ∷ [])) same ∙ ap (λ rs. with_rows d rs) (sym (end_is via z (label n) groups at))

pub end_kept : (via : List LinkId) (n : ℕ) (groups : List (List Member)) (d : Draft) → None ≡ slice_get via (length via - 1) → d ≡ with_rows d (end_rows via (label n) groups)
end_kept via n groups d at = ap (λ rs. with_rows d rs) (sym (end_none via (label n) groups at))
