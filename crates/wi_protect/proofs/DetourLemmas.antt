-- The index from a link to its bypass gives the way around each link.
use Rattle.std.proofs.Common.{◌≡◌, ℕ, zero, suc, ◌+◌, ◌<◌, ◌≤◌, Bool, true, false, cond, ◌==◌, nat_lt, List, [], ◌∷◌, ◌++◌, map, drop, set, length, slice_get, Option, Some, None, refl, sym, ap, ◌∙◌, append_assoc, arith, true≢false}
use Rattle.std.specs.Prelude.{is_some, option_map, option_and_then}
use Rattle.std.specs.List.{range_with_len}
use Rattle.std.proofs.lemmas.Bool.{eqb-true, eq-eqb, ltb-true}
use Rattle.std.proofs.lemmas.Option.{slice_get_within, get_or_from_slice_get}
use Rattle.std.proofs.Math.Seq.{drop-cons}
use Rattle.std.proofs.Math.ListN.{drop_of_length-le, length-set}
use Rattle.std.proofs.lemmas.List.{length-map}
use Rattle.std.proofs.lemmas.List.FromFn.{length-range_with_len}
use Rattle.std.proofs.Math.Path.{fun_ext}
use Rattle.wi_net.specs.declared.parts.LinkId.{LinkId}
use Rattle.wi_net.proofs.KeptLists.{all_get}
use Rattle.wi_net.proofs.PlaceLemmas.{get_middle}
use Rattle.wi_plan.specs.declared.plan.Bypass.{Bypass}
use Rattle.wi_protect.specs.declared.detours.Detour.{Detour}
use Rattle.wi_protect.specs.Labels.{bypass_labels, bypasses_labels}
use Rattle.wi_protect.specs.Rows.{Round, round}
use Rattle.wi_protect.specs.private.Detours.{are_within, no_detours, at_link, noted, detour_from, round_by, AreDetours}

-- the first of two that is there
abbrev pub or_else : {X : Type 0} → Option X → Option X → Option X
or_else (Some x) o = Some x
or_else None o = o

-- nothing is noted at first
pub none_yet : (index : List (Option Detour)) (n : ℕ) (e : LinkId) → index ≡ no_detours n → at_link index e ≡ None
none_yet index n e is = ap (λ xs. at_link xs e) is ∙ go (range_with_len 0 n) e.0
  where
    go : (ks : List ℕ) (i : ℕ) → option_and_then (λ (o : Option Detour). o) (slice_get (map (λ (k : ℕ). let o : Option Detour = None in o) ks) i) ≡ None
    go [] i = refl
    go (k ∷ ks) zero = refl
    go (k ∷ ks) (suc i) = go ks i

get_set_same : {X : Type 0} (xs : List X) (i : ℕ) (x : X) → i < length xs → slice_get (set xs i x) i ≡ Some x
get_set_same [] i x lt = absurd (omega (arith, lt))
get_set_same (y ∷ xs) zero x lt = refl
get_set_same (y ∷ xs) (suc i) x lt = get_set_same xs i x (omega (arith, lt))

get_set_other : {X : Type 0} (xs : List X) (i j : ℕ) (x : X) → (i ≡ j → ⊥) → slice_get (set xs i x) j ≡ slice_get xs j
get_set_other [] i j x other = refl
get_set_other (y ∷ xs) zero zero x other = absurd (other refl)
get_set_other (y ∷ xs) zero (suc j) x other = refl
get_set_other (y ∷ xs) (suc i) zero x other = refl
get_set_other (y ∷ xs) (suc i) (suc j) x other = get_set_other xs i j x (λ e. other (ap suc e))

-- what is noted for a link once something is for one
noted_at : (index : List (Option Detour)) (d e : LinkId) (x : Detour) → d.0 < length index → at_link (noted index d x) e ≡ cond (d.0 == e.0) (or_else (at_link index e) (Some x)) (at_link index e)
noted_at index d e x lt = go (d.0 == e.0) refl
  where
    own : (o : Option Detour) → at_link index d ≡ o → at_link (noted index d x) d ≡ or_else (at_link index d) (Some x)
    own (Some y) is = rw (is, is) refl
    own None is = rw is (ap (option_and_then (λ o. o)) (get_set_same index d.0 (Some x) lt))

    other : (b : Bool) → is_some (at_link index d) ≡ b → (d.0 == e.0) ≡ false → at_link (noted index d x) e ≡ at_link index e
    other true is apart = rw is refl
    other false is apart = rw is (ap (option_and_then (λ o. o)) (get_set_other index d.0 e.0 (Some x) (λ is. true≢false (sym (eq-eqb d.0 e.0 is) ∙ apart))))

    go : (b : Bool) → (d.0 == e.0) ≡ b → at_link (noted index d x) e ≡ cond (d.0 == e.0) (or_else (at_link index e) (Some x)) (at_link index e)
    go true same =
        let is : d.0 ≡ e.0 = eqb-true d.0 e.0 same in
        let here : at_link index e ≡ at_link index d = ap (λ n. option_and_then (λ o. o) (slice_get index n)) (sym is) in
        let there : at_link (noted index d x) e ≡ at_link (noted index d x) d = ap (λ n. option_and_then (λ o. o) (slice_get (noted index d x) n)) (sym is) in
        there ∙ own (at_link index d) refl ∙ sym (ap (λ o. or_else o (Some x)) here) ∙ ap (λ b. cond b (or_else (at_link index e) (Some x)) (at_link index e)) (sym same)
    go false apart = other (is_some (at_link index d)) refl apart ∙ ap (λ b. cond b (or_else (at_link index e) (Some x)) (at_link index e)) (sym apart)

-- one bypass more
pub note_step : (all : List Bypass) (index after : List (Option Detour)) (x n m : ℕ) (b : Bypass) (e : LinkId) (wanted : Option Detour) → slice_get all x ≡ Some b → b.link.0 < length index
    → or_else (at_link index e) (detour_from x n (drop x all) e) ≡ wanted → after ≡ noted index b.link (record { bypass = x; first = n }) → m ≡ n + bypass_labels b
    → or_else (at_link after e) (detour_from (x + 1) m (drop (x + 1) all) e) ≡ wanted
note_step all index after x n m b e wanted at lt so_far is next =
    ap (λ ix. or_else (at_link ix e) (detour_from (x + 1) m (drop (x + 1) all) e)) is
    ∙ ap (λ k. or_else (at_link (noted index b.link here) e) (detour_from (x + 1) k (drop (x + 1) all) e)) next
    ∙ ap (λ o. or_else o rest) (noted_at index b.link e here lt)
    ∙ go (b.link.0 == e.0) (at_link index e)
    ∙ ap (λ bs. or_else (at_link index e) (detour_from x n bs e)) (sym front) ∙ so_far
  where
    here : Detour
    here = record { bypass = x; first = n }

    rest : Option Detour
    rest = detour_from (x + 1) (n + bypass_labels b) (drop (x + 1) all) e

    front : drop x all ≡ b ∷ drop (x + 1) all
    front =
        let next_x : suc x ≡ x + 1 = omega arith in
        drop-cons all x b (slice_get_within all x b at) ∙ ap (λ y. y ∷ drop (suc x) all) (get_or_from_slice_get all x b b at) ∙ ap (λ k. b ∷ drop k all) next_x

    go : (same : Bool) (o : Option Detour) → or_else (cond same (or_else o (Some here)) o) rest ≡ or_else o (cond same (Some here) rest)
    go true (Some y) = refl
    go true None = refl
    go false o = refl

-- the index keeps its length
pub noted_length : (index after first : List (Option Detour)) (e : LinkId) (x : Detour) → after ≡ noted index e x → length index ≡ length first → length after ≡ length first
noted_length index after first e x is same = ap (λ (xs : List (Option Detour)). length xs) is ∙ go (is_some (at_link index e)) ∙ same
  where
    go : (b : Bool) → length (cond b index (set index e.0 (Some x))) ≡ length index
    go true = refl
    go false = length-set index e.0 (Some x)

-- and has a place for each link
pub all_within : (n : ℕ) (index : List (Option Detour)) (bypasses : List Bypass) → index ≡ no_detours n → are_within n bypasses ≡ true → are_within (length index) bypasses ≡ true
all_within n index bypasses is each =
    let count : length index ≡ n = rw (is, length-map, length-range_with_len) refl in
    ap (λ k. are_within k bypasses) count ∙ each

-- it names a link for which the index has a place
pub within_at : (all : List Bypass) (x : ℕ) (b : Bypass) (index first : List (Option Detour)) → are_within (length first) all ≡ true → slice_get all x ≡ Some b → length index ≡ length first → b.link.0 < length index
within_at all x b index first each at same =
    let lt = ltb-true b.link.0 (length first) (all_get (λ (c : Bypass). nat_lt c.link.0 (length first)) all x b each at) in
    omega (arith, lt)

-- how many labels are still to come
pub few_step : (all : List Bypass) (x n m total : ℕ) (b : Bypass) → slice_get all x ≡ Some b → n + bypasses_labels (drop x all) ≡ total → m ≡ n + bypass_labels b → m + bypasses_labels (drop (x + 1) all) ≡ total
few_step all x n m total b at so_far next =
    let next_x : suc x ≡ x + 1 = omega arith in
    let front : bypasses_labels (drop x all) ≡ bypass_labels b + bypasses_labels (drop (x + 1) all) =
    ap bypasses_labels (drop-cons all x b (slice_get_within all x b at) ∙ ap (λ y. y ∷ drop (suc x) all) (get_or_from_slice_get all x b b at) ∙ ap (λ k. b ∷ drop k all) next_x) in
    omega (arith, front, so_far, next)

pub note_all : (all : List Bypass) (index : List (Option Detour)) (x n : ℕ) (e : LinkId) (wanted : Option Detour) → length all ≤ x → or_else (at_link index e) (detour_from x n (drop x all) e) ≡ wanted → at_link index e ≡ wanted
note_all all index x n e wanted end so_far = go (at_link index e) ∙ ap (λ bs. or_else (at_link index e) (detour_from x n bs e)) (sym (drop_of_length-le all end)) ∙ so_far
  where
    go : (o : Option Detour) → o ≡ or_else o None
    go (Some y) = refl
    go None = refl

-- the way around a link
abbrev way_by : List Bypass → Option Detour → Option Round
way_by bypasses o = option_and_then (λ (d : Detour). option_map (λ (b : Bypass). record { via = b.via; first = d.first }) (slice_get bypasses d.bypass)) o

way_from : (pre bypasses : List Bypass) (x l : ℕ) (e : LinkId) → x ≡ length pre → way_by (pre ++ bypasses) (detour_from x l bypasses e) ≡ round l bypasses e
way_from pre [] x l e count = refl
way_from pre (b ∷ bypasses) x l e count = go (b.link.0 == e.0) (way_from (pre ++ b ∷ []) bypasses (x + 1) (l + bypass_labels b) e (omega (arith, count, longer pre)))
  where
    longer : (xs : List Bypass) → length (xs ++ b ∷ []) ≡ length xs + 1
    longer [] = refl
    longer (y ∷ xs) = omega (arith, longer xs)

    at : slice_get (pre ++ b ∷ bypasses) x ≡ Some b
    at = ap (slice_get (pre ++ b ∷ bypasses)) count ∙ get_middle pre bypasses b

    go : (same : Bool) → way_by ((pre ++ b ∷ []) ++ bypasses) (detour_from (x + 1) (l + bypass_labels b) bypasses e) ≡ round (l + bypass_labels b) bypasses e
        → way_by (pre ++ b ∷ bypasses) (cond same (Some (record { bypass = x; first = l })) (detour_from (x + 1) (l + bypass_labels b) bypasses e)) ≡ cond same (Some (record { via = b.via; first = l })) (round (l + bypass_labels b) bypasses e)
    go true later = ap (option_map (λ (c : Bypass). record { via = c.via; first = l })) at
    go false later = ap (λ bs. way_by bs (detour_from (x + 1) (l + bypass_labels b) bypasses e)) (sym (append_assoc pre (b ∷ []) bypasses)) ∙ later

pub are_detours : (bypasses : List Bypass) (l : ℕ) (index : List (Option Detour)) → ((e : LinkId) → at_link index e ≡ detour_from 0 l bypasses e) → AreDetours bypasses l index
are_detours bypasses l index is e = ap (way_by bypasses) (is e) ∙ way_from [] bypasses 0 l e refl

-- the index is as good as the bypasses themselves
pub rounds_are : (bypasses : List Bypass) (l : ℕ) (index : List (Option Detour)) → AreDetours bypasses l index → round_by bypasses index ≡ round l bypasses
rounds_are bypasses l index are = fun_ext are
