-- The labels of the network that a plan asks for: those of the network class by class, with new ones after those of their
-- class. A path's are `smpls`, at the bottom of the MPLS stack (RFC 3032, 2.1); a bypass's are `mpls`, above one of those.
use Rattle.std.specs.Prelude.{ℕ, ◌+◌, ◌-◌, List, [], ◌∷◌, ◌++◌, length, map, codes, if◌then◌else◌}
use Rattle.std.specs.List.{range_with_len}
use Rattle.std.specs.Fmt.{decimal}
use Rattle.wi_labels.specs.Header.{same_class}
use Rattle.wi_labels.specs.declared.label.Label.{Label}
use Rattle.wi_labels.specs.declared.label.Class.{Class}
use Rattle.wi_labels.specs.declared.label.Class.TheVariants.{Mpls, Smpls, Ip}
use Rattle.wi_net.specs.Net.{Net}
use Rattle.wi_plan.specs.declared.plan.Path.{Path}
use Rattle.wi_plan.specs.declared.plan.Bypass.{Bypass}
use Rattle.wi_plan.specs.declared.plan.Plan.{Plan}

-- the names of the labels of a class
abbrev pub names_of : Class → List Class → List (List ℕ) → List (List ℕ)
names_of class [] names = []
names_of class (c ∷ classes) [] = []
names_of class (c ∷ classes) (s ∷ names) = if same_class class c then s ∷ names_of class classes names else names_of class classes names

-- a letter, a number, a dot, a number
abbrev pub numbered : List ℕ → ℕ → ℕ → List ℕ
numbered letter a b = letter ++ decimal a ++ codes "." ++ decimal b

-- so many such names, the second number rising from 1
abbrev pub numbered_to : List ℕ → ℕ → ℕ → List (List ℕ)
numbered_to letter a n = map (λ b. numbered letter a b) (range_with_len 1 n)

-- how many labels a path has: one for each link but the first and the last
abbrev pub path_labels : Path → ℕ
path_labels path = length path.links - 2

-- how many labels a bypass has: one for each of its links but the last
abbrev pub bypass_labels : Bypass → ℕ
bypass_labels bypass = length bypass.via - 1

-- how many labels paths have, and bypasses
abbrev pub paths_labels : List Path → ℕ
paths_labels [] = 0
paths_labels (path ∷ paths) = path_labels path + paths_labels paths

abbrev pub bypasses_labels : List Bypass → ℕ
bypasses_labels [] = 0
bypasses_labels (bypass ∷ bypasses) = bypass_labels bypass + bypasses_labels bypasses

-- what each thing of a list gives at its number: the first has this number, and each takes so many numbers
abbrev pub each_from : {X Y : Type 0} → (X → ℕ) → (ℕ → X → List Y) → ℕ → List X → List Y
each_from count f n [] = []
each_from count f n (x ∷ xs) = f n x ++ each_from count f (n + count x) xs

-- the names of paths' labels, pP.I, where the first path has this number; and of bypasses' labels, bX.T
abbrev pub paths_names : ℕ → List Path → List (List ℕ)
paths_names p paths = each_from (λ _. 1) (λ q path. numbered_to (codes "p") q (path_labels path)) p paths

abbrev pub bypasses_names : ℕ → List Bypass → List (List ℕ)
bypasses_names x bypasses = each_from (λ _. 1) (λ y bypass. numbered_to (codes "b") y (bypass_labels bypass)) x bypasses

-- the names of the labels of each class
abbrev pub mpls_names : Net → Plan → List (List ℕ)
mpls_names net plan = names_of Mpls net.classes net.labels ++ bypasses_names 1 plan.bypasses

abbrev pub smpls_names : Net → Plan → List (List ℕ)
smpls_names net plan = names_of Smpls net.classes net.labels ++ paths_names 1 plan.paths

abbrev pub ip_names : Net → List (List ℕ)
ip_names net = names_of Ip net.classes net.labels

-- all labels, and their classes
abbrev pub label_names : Net → Plan → List (List ℕ)
label_names net plan = mpls_names net plan ++ (smpls_names net plan ++ ip_names net)

abbrev pub classes_for : Class → List (List ℕ) → List Class
classes_for class names = map (λ _. class) names

abbrev pub label_classes : Net → Plan → List Class
label_classes net plan = classes_for Mpls (mpls_names net plan) ++ (classes_for Smpls (smpls_names net plan) ++ classes_for Ip (ip_names net))

-- the number of the first bypass's first label, and of the first path's
abbrev pub first_bypass_label : Net → ℕ
first_bypass_label net = length (names_of Mpls net.classes net.labels)

abbrev pub first_path_label : Net → Plan → ℕ
first_path_label net plan = length (mpls_names net plan) + length (names_of Smpls net.classes net.labels)

-- how many labels are new
abbrev pub new_labels : Plan → ℕ
new_labels plan = bypasses_labels plan.bypasses + paths_labels plan.paths

-- an ip label's number once so many labels more stand before it; once the new ones do
abbrev pub moved_by : ℕ → Label → Label
moved_by k ip = record { 0 = ip.0 + k }

abbrev pub moved_label : Plan → Label → Label
moved_label plan ip = moved_by (new_labels plan) ip
