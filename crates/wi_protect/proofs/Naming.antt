-- The names of the labels of a plan's network.
use Rattle.std.proofs.Common.{◌≡◌, ℕ, zero, suc, ◌+◌, ◌-◌, ◌<◌, true, List, [], ◌∷◌, ◌++◌, length, length-append, take, slice_get, Some, refl, sym, ap, subst, ◌∙◌, arith}
use Rattle.std.specs.Prelude.{codes}
use Rattle.std.specs.List.{list_all}
use Rattle.std.proofs.lemmas.Bool.{and_parts}
use Rattle.std.proofs.lemmas.List.{append_assoc}
use Rattle.std.proofs.lemmas.List.FromFn.{get_or-map-range_with_len}
use Rattle.std.proofs.lemmas.Option.{slice_get-get_or, slice_get_within}
use Rattle.wi_labels.specs.declared.label.Class.{Class}
use Rattle.wi_labels.specs.declared.label.Class.TheVariants.{Mpls, Smpls, Ip}
use Rattle.wi_labels.specs.declared.label.Label.{Label}
use Rattle.wi_net.specs.Net.{Net, label_known}
use Rattle.wi_net.specs.Network.{IsNetwork, is_no_later, are_in_order}
use Rattle.wi_plan.specs.declared.plan.Path.{Path}
use Rattle.wi_plan.specs.declared.plan.Bypass.{Bypass}
use Rattle.wi_plan.specs.declared.plan.Plan.{Plan}
use Rattle.wi_protect.specs.Labels.{bypass_labels, bypasses_labels, bypasses_names, each_from, first_bypass_label, first_path_label, ip_names, label_names, moved_label, mpls_names, names_of, new_labels, numbered, numbered_to, path_labels, paths_labels, paths_names, smpls_names}
use Rattle.wi_protect.specs.Naming.{AreNamed}
use Rattle.wi_protect.proofs.Classes.{all_ip, bypasses_count, ip_behind, known_at, numbered_count, paths_count}

-- ---- places in lists

get_front : {X : Type 0} (xs ys : List X) (i : ℕ) → i < length xs → slice_get (xs ++ ys) i ≡ slice_get xs i
get_front [] ys i low = absurd (omega (arith, low))
get_front (x ∷ xs) ys zero low = refl
get_front (x ∷ xs) ys (suc i) low = get_front xs ys i (omega (arith, low))

get_behind : {X : Type 0} (xs ys : List X) (n i : ℕ) → n ≡ length xs + i → slice_get (xs ++ ys) n ≡ slice_get ys i
get_behind [] ys n i place = ap (λ m. slice_get ys m) (omega (arith, place))
get_behind (x ∷ xs) ys zero i place = absurd (omega (arith, place))
get_behind (x ∷ xs) ys (suc n) i place = get_behind xs ys n i (omega (arith, place))

-- what stands between two lists
get_middle : {X : Type 0} (xs ys zs : List X) (n i : ℕ) (y : X) → n ≡ length xs + i → slice_get ys i ≡ Some y → slice_get ((xs ++ ys) ++ zs) n ≡ Some y
get_middle xs ys zs n i y place at =
    ap (λ all. slice_get all n) (append_assoc xs ys zs) ∙ get_behind xs (ys ++ zs) n i place ∙ get_front ys zs i (slice_get_within ys i y at) ∙ at

-- ---- names

get_numbered : (letter : List ℕ) (a n i : ℕ) → i < n → slice_get (numbered_to letter a n) i ≡ Some (numbered letter a (i + 1))
get_numbered letter a n i low =
    slice_get-get_or (numbered_to letter a n) i [] (omega (arith, low, numbered_count letter a n))
    ∙ ap Some (get_or-map-range_with_len (λ b. numbered letter a b) 1 n i (i + 1) [] low (omega arith))

-- the names of things of a list, of each so many, where the first has this number
abbrev names_from : {X : Type 0} → (X → ℕ) → List ℕ → ℕ → List X → List (List ℕ)
names_from count letter q xs = each_from (λ _. 1) (λ r x. numbered_to letter r (count x)) q xs

get_named : {X : Type 0} (count : X → ℕ) (letter : List ℕ) (q : ℕ) (xs : List X) (p n i : ℕ) (x : X) → slice_get xs p ≡ Some x → i < count x
    → n ≡ length (names_from count letter q (take p xs)) + i → slice_get (names_from count letter q xs) n ≡ Some (numbered letter (q + p) (i + 1))
get_named count letter q [] p n i x at low place = cc
get_named count letter q (y ∷ xs) zero n i x at low place =
    let same : y ≡ x = cc in
    let here : i < count y = subst (λ z. i < count z) (sym same) low in
    let first : n ≡ i = omega (arith, place) in
    ap (λ m. slice_get (numbered_to letter q (count y) ++ names_from count letter (q + 1) xs) m) first
    ∙ get_front (numbered_to letter q (count y)) (names_from count letter (q + 1) xs) i (omega (arith, here, numbered_count letter q (count y)))
    ∙ get_numbered letter q (count y) i here
    ∙ ap (λ r. Some (numbered letter r (i + 1))) (omega arith)
get_named count letter q (y ∷ xs) (suc p) n i x at low place =
    let mine = numbered_to letter q (count y) in
    let rest = names_from count letter (q + 1) (take p xs) in
    get_behind mine (names_from count letter (q + 1) xs) n (length rest + i) (omega (arith, place, length-append mine rest))
    ∙ get_named count letter (q + 1) xs p (length rest + i) i x at low refl
    ∙ ap (λ r. Some (numbered letter r (i + 1))) (omega arith)

-- an ip label's name among those of its class
get_ip : (classes : List Class) (names : List (List ℕ)) (i k : ℕ) → are_in_order classes ≡ true → slice_get classes i ≡ Some Ip
    → i ≡ length (names_of Mpls classes names) + length (names_of Smpls classes names) + k → slice_get names i ≡ slice_get (names_of Ip classes names) k
get_ip [] names i k order at place = cc
get_ip (c ∷ classes) [] i k order at place = refl
get_ip (Ip ∷ classes) (s ∷ names) zero k order at place = let first : k ≡ 0 = omega (arith, place) in rw first refl
get_ip (Ip ∷ classes) (s ∷ names) (suc i) zero order at place =
    let none = all_ip classes names (and_parts (list_all (is_no_later Ip) classes) (are_in_order classes) order).0 in
    absurd (omega (arith, place, none.0, none.1))
get_ip (Ip ∷ classes) (s ∷ names) (suc i) (suc k) order at place =
    get_ip classes names i k (and_parts (list_all (is_no_later Ip) classes) (are_in_order classes) order).1 at (omega (arith, place))
get_ip (Mpls ∷ classes) (s ∷ names) zero k order at place = cc
get_ip (Smpls ∷ classes) (s ∷ names) zero k order at place = cc
get_ip (Mpls ∷ classes) (s ∷ names) (suc i) k order at place =
    get_ip classes names i k (and_parts (list_all (is_no_later Mpls) classes) (are_in_order classes) order).1 at (omega (arith, place))
get_ip (Smpls ∷ classes) (s ∷ names) (suc i) k order at place =
    get_ip classes names i k (and_parts (list_all (is_no_later Smpls) classes) (are_in_order classes) order).1 at (omega (arith, place))

-- ---- the labels of a plan's network

moved : (net : Net) (plan : Plan) (l : Label) → IsNetwork net → label_known net.classes (l, Ip) ≡ true → slice_get (label_names net plan) (moved_label plan l).0 ≡ slice_get net.labels l.0
moved net plan l k known =
    get_behind (mpls_names net plan) (smpls_names net plan ++ ip_names net) (l.0 + new_labels plan) (length (smpls_names net plan) + j) place
    ∙ get_behind (smpls_names net plan) (ip_names net) (length (smpls_names net plan) + j) j refl
    ∙ sym (get_ip net.classes net.labels l.0 j k.in_order at split)
  where
    at : slice_get net.classes l.0 ≡ Some Ip
    at = known_at net.classes l Ip known

    before : ℕ
    before = length (names_of Mpls net.classes net.labels) + length (names_of Smpls net.classes net.labels)

    j : ℕ
    j = l.0 - before

    split : l.0 ≡ before + j
    split = let behind = ip_behind net.classes net.labels l.0 k.in_order at in omega (arith, behind)

    place : l.0 + new_labels plan ≡ length (mpls_names net plan) + (length (smpls_names net plan) + j)
    place =
        let mpls = length-append (names_of Mpls net.classes net.labels) (bypasses_names 1 plan.bypasses) in
        let smpls = length-append (names_of Smpls net.classes net.labels) (paths_names 1 plan.paths) in
        omega (arith, split, mpls, smpls, bypasses_count 1 plan.bypasses, paths_count 1 plan.paths)

along : (net : Net) (plan : Plan) (p i : ℕ) (path : Path) → slice_get plan.paths p ≡ Some path → i < path_labels path
    → slice_get (label_names net plan) (first_path_label net plan + paths_labels (take p plan.paths) + i) ≡ Some (numbered (codes "p") (p + 1) (i + 1))
along net plan p i path at low =
    get_behind (mpls_names net plan) (smpls_names net plan ++ ip_names net) (first_path_label net plan + paths_labels (take p plan.paths) + i) (length (names_of Smpls net.classes net.labels) + m) place
    ∙ get_middle (names_of Smpls net.classes net.labels) (paths_names 1 plan.paths) (ip_names net) (length (names_of Smpls net.classes net.labels) + m) m (numbered (codes "p") (1 + p) (i + 1)) refl
    (get_named path_labels (codes "p") 1 plan.paths p m i path at low refl)
    ∙ ap (λ r. Some (numbered (codes "p") r (i + 1))) (omega arith)
  where
    m : ℕ
    m = length (paths_names 1 (take p plan.paths)) + i

    place : first_path_label net plan + paths_labels (take p plan.paths) + i ≡ length (mpls_names net plan) + (length (names_of Smpls net.classes net.labels) + m)
    place = omega (arith, paths_count 1 (take p plan.paths))

around : (net : Net) (plan : Plan) (x i : ℕ) (bypass : Bypass) → slice_get plan.bypasses x ≡ Some bypass → i < bypass_labels bypass
    → slice_get (label_names net plan) (first_bypass_label net + bypasses_labels (take x plan.bypasses) + i) ≡ Some (numbered (codes "b") (x + 1) (i + 1))
around net plan x i bypass at low =
    get_middle (names_of Mpls net.classes net.labels) (bypasses_names 1 plan.bypasses) (smpls_names net plan ++ ip_names net) (first_bypass_label net + bypasses_labels (take x plan.bypasses) + i) m
    (numbered (codes "b") (1 + x) (i + 1)) place (get_named bypass_labels (codes "b") 1 plan.bypasses x m i bypass at low refl)
    ∙ ap (λ r. Some (numbered (codes "b") r (i + 1))) (omega arith)
  where
    m : ℕ
    m = length (bypasses_names 1 (take x plan.bypasses)) + i

    place : first_bypass_label net + bypasses_labels (take x plan.bypasses) + i ≡ length (names_of Mpls net.classes net.labels) + m
    place = omega (arith, bypasses_count 1 (take x plan.bypasses))

pub named : (net : Net) (plan : Plan) → IsNetwork net → AreNamed net plan
named net plan is = record {
  moved = λ l. moved net plan l is;
  along = λ p i path. along net plan p i path;
  around = λ x i bypass. around net plan x i bypass;
}
