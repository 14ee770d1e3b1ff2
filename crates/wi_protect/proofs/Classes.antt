-- The labels of a plan's network: how many of each class, and which of them is a path's ip label.
use Rattle.std.proofs.Common.{◌≡◌, ℕ, ◌+◌, ◌<◌, ◌≤◌, true, false, List, [], ◌∷◌, ◌++◌, length, slice_get, Option, Some, None, refl, sym, ap, ◌∙◌, arith, zero, suc, length-append}
use Rattle.std.specs.Prelude.{codes}
use Rattle.std.specs.List.{list_all, range_with_len}
use Rattle.std.specs.Option.{option_map_or}
use Rattle.std.proofs.lemmas.Bool.{and_parts}
use Rattle.std.proofs.lemmas.List.{length-map, append_assoc}
use Rattle.std.proofs.lemmas.List.FromFn.{length-range_with_len}
use Rattle.std.proofs.lemmas.Option.{slice_get_within}
use Rattle.wi_labels.specs.declared.label.Class.{Class}
use Rattle.wi_labels.specs.declared.label.Class.TheVariants.{Mpls, Smpls, Ip}
use Rattle.wi_labels.specs.declared.label.Label.{Label}
use Rattle.wi_labels.specs.Header.{same_class}
use Rattle.wi_net.specs.Net.{Net, label_known}
use Rattle.wi_net.specs.Network.{IsNetwork, is_no_later, are_in_order}
use Rattle.wi_plan.specs.declared.plan.Path.{Path}
use Rattle.wi_plan.specs.declared.plan.Bypass.{Bypass}
use Rattle.wi_plan.specs.declared.plan.Plan.{Plan}
use Rattle.wi_protect.specs.Labels.{names_of, numbered, numbered_to, path_labels, bypass_labels, paths_labels, bypasses_labels, paths_names, bypasses_names, mpls_names, smpls_names, ip_names, classes_for, label_classes, first_path_label, moved_label, new_labels}
use Rattle.wi_protect.specs.Protected.{protected}

pub numbered_count : (letter : List ℕ) (a n : ℕ) → length (numbered_to letter a n) ≡ n
numbered_count letter a n = length-map (range_with_len 1 n) (λ b. numbered letter a b) ∙ length-range_with_len 1 n

pub paths_count : (p : ℕ) (paths : List Path) → length (paths_names p paths) ≡ paths_labels paths
paths_count p [] = refl
paths_count p (path ∷ paths) = omega (arith, length-append (numbered_to (codes "p") p (path_labels path)) (paths_names (p + 1) paths), numbered_count (codes "p") p (path_labels path), paths_count (p + 1) paths)

pub bypasses_count : (x : ℕ) (bypasses : List Bypass) → length (bypasses_names x bypasses) ≡ bypasses_labels bypasses
bypasses_count x [] = refl
bypasses_count x (bypass ∷ bypasses) = omega (arith, length-append (numbered_to (codes "b") x (bypass_labels bypass)) (bypasses_names (x + 1) bypasses), numbered_count (codes "b") x (bypass_labels bypass), bypasses_count (x + 1) bypasses)

-- where a list's first class is Ip there is no other
abbrev count : Class → List Class → List (List ℕ) → ℕ
count class classes names = length (names_of class classes names)

pub all_ip : (classes : List Class) (names : List (List ℕ)) → list_all (is_no_later Ip) classes ≡ true → (count Mpls classes names ≡ 0) × (count Smpls classes names ≡ 0)
all_ip [] names h = (refl, refl)
all_ip (Ip ∷ classes) [] h = (refl, refl)
all_ip (Ip ∷ classes) (s ∷ names) h = all_ip classes names h
all_ip (Mpls ∷ classes) names h = cc
all_ip (Smpls ∷ classes) names h = cc

-- the labels of the other classes stand before each ip label
pub ip_behind : (classes : List Class) (names : List (List ℕ)) (i : ℕ) → are_in_order classes ≡ true → slice_get classes i ≡ Some Ip → count Mpls classes names + count Smpls classes names ≤ i
ip_behind [] names i order at = cc
ip_behind (c ∷ classes) [] i order at = omega arith
ip_behind (Ip ∷ classes) (s ∷ names) i order at =
    let none = all_ip classes names ((and_parts (list_all (is_no_later Ip) classes) (are_in_order classes) order).0) in
    omega (arith, none.0, none.1)
ip_behind (Mpls ∷ classes) (s ∷ names) zero order at = cc
ip_behind (Smpls ∷ classes) (s ∷ names) zero order at = cc
ip_behind (Mpls ∷ classes) (s ∷ names) (suc i) order at =
    omega (arith, ip_behind classes names i ((and_parts (list_all (is_no_later Mpls) classes) (are_in_order classes) order).1) at)
ip_behind (Smpls ∷ classes) (s ∷ names) (suc i) order at =
    omega (arith, ip_behind classes names i ((and_parts (list_all (is_no_later Smpls) classes) (are_in_order classes) order).1) at)

-- each label is of one of the classes
pub all_counted : (classes : List Class) (names : List (List ℕ)) → length classes ≡ length names → count Mpls classes names + count Smpls classes names + count Ip classes names ≡ length classes
all_counted [] names same = refl
all_counted (c ∷ classes) [] same = omega arith
all_counted (Mpls ∷ classes) (s ∷ names) same = omega (arith, all_counted classes names (omega arith))
all_counted (Smpls ∷ classes) (s ∷ names) same = omega (arith, all_counted classes names (omega arith))
all_counted (Ip ∷ classes) (s ∷ names) same = omega (arith, all_counted classes names (omega arith))

-- past lists of other classes
pub in_last : (class : Class) (xs : List Class) (names : List (List ℕ)) (i : ℕ) → length xs ≤ i → i < length xs + length names → slice_get (xs ++ classes_for class names) i ≡ Some class
in_last class [] [] i low high = absurd (omega arith)
in_last class [] (s ∷ names) zero low high = refl
in_last class [] (s ∷ names) (suc i) low high = in_last class [] names i (omega arith) (omega arith)
in_last class (x ∷ xs) names zero low high = absurd (omega arith)
in_last class (x ∷ xs) names (suc i) low high = in_last class xs names i (omega arith) (omega arith)

class_at : (c d : Class) → same_class c d ≡ true → c ≡ d
class_at Mpls Mpls h = refl
class_at Smpls Smpls h = refl
class_at Ip Ip h = refl
class_at Mpls Smpls h = cc
class_at Mpls Ip h = cc
class_at Smpls Mpls h = cc
class_at Smpls Ip h = cc
class_at Ip Mpls h = cc
class_at Ip Smpls h = cc

pub known_at : (classes : List Class) (l : Label) (c : Class) → label_known classes (l, c) ≡ true → slice_get classes l.0 ≡ Some c
known_at classes l c h = go (slice_get classes l.0) refl h
  where
    go : (o : Option Class) → slice_get classes l.0 ≡ o → option_map_or (λ class. same_class class c) o false ≡ true → o ≡ Some c
    go None at known = cc
    go (Some d) at known = ap (λ x. Some x) (class_at d c known)

-- how many labels stand before the first path's
pub first_path : (net : Net) (plan : Plan) → first_path_label net plan ≡ count Mpls net.classes net.labels + bypasses_labels plan.bypasses + count Smpls net.classes net.labels
first_path net plan = omega (arith, length-append (names_of Mpls net.classes net.labels) (bypasses_names 1 plan.bypasses), bypasses_count 1 plan.bypasses)

-- a path's ip label is known in the plan's network, and stands behind all new labels
pub ip_above : (net : Net) (plan : Plan) (l : Label) → IsNetwork net → label_known net.classes (l, Ip) ≡ true → first_path_label net plan + paths_labels plan.paths ≤ (moved_label plan l).0
ip_above net plan l k known = omega (arith, first_path net plan, ip_behind net.classes net.labels l.0 k.in_order (known_at net.classes l Ip known))

pub ip_known : (net : Net) (plan : Plan) (l : Label) → IsNetwork net → label_known net.classes (l, Ip) ≡ true → label_known (protected net plan).classes (moved_label plan l, Ip) ≡ true
ip_known net plan l k known =
    let at = known_at net.classes l Ip known in
    let within = slice_get_within net.classes l.0 Ip at in
    let behind = ip_behind net.classes net.labels l.0 k.in_order at in
    let total = all_counted net.classes net.labels k.classes in
    let mpls : length (classes_for Mpls (mpls_names net plan)) ≡ count Mpls net.classes net.labels + bypasses_labels plan.bypasses =
    omega (arith, length-map (mpls_names net plan) (λ _. Mpls), length-append (names_of Mpls net.classes net.labels) (bypasses_names 1 plan.bypasses), bypasses_count 1 plan.bypasses) in
    let smpls : length (classes_for Smpls (smpls_names net plan)) ≡ count Smpls net.classes net.labels + paths_labels plan.paths =
    omega (arith, length-map (smpls_names net plan) (λ _. Smpls), length-append (names_of Smpls net.classes net.labels) (paths_names 1 plan.paths), paths_count 1 plan.paths) in
    let here : slice_get (label_classes net plan) (l.0 + new_labels plan) ≡ Some Ip =
    sym (ap (λ cs. slice_get cs (l.0 + new_labels plan)) (append_assoc (classes_for Mpls (mpls_names net plan)) (classes_for Smpls (smpls_names net plan)) (classes_for Ip (ip_names net))))
    ∙ in_last Ip (classes_for Mpls (mpls_names net plan) ++ classes_for Smpls (smpls_names net plan)) (ip_names net) (l.0 + new_labels plan)
    (omega (arith, length-append (classes_for Mpls (mpls_names net plan)) (classes_for Smpls (smpls_names net plan))))
    (omega (arith, length-append (classes_for Mpls (mpls_names net plan)) (classes_for Smpls (smpls_names net plan)))) in
    rw here refl
