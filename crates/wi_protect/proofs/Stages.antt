-- The labels of a plan's network are added class by class.
use Rattle.std.proofs.Common.{◌≡◌, ℕ, ◌+◌, ◌-◌, ◌<◌, ◌≤◌, Bool, true, false, ◌&&◌, List, [], ◌∷◌, ◌++◌, length, None, Ok, refl, sym, ap, ◌∙◌, subst, arith, length-append}
use Rattle.std.specs.Prelude.{is_none}
use Rattle.std.specs.List.{list_all, list_any}
use Rattle.std.proofs.lemmas.Bool.{and_parts, and_from, or_parts, lt-ltb}
use Rattle.std.proofs.lemmas.List.{append_assoc, append-nil}
use Rattle.std.proofs.lemmas.List.Folds.{list_any-append}
use Rattle.wi_labels.specs.declared.label.Class.{Class}
use Rattle.wi_labels.specs.declared.label.Class.TheVariants.{Mpls, Smpls, Ip}
use Rattle.wi_net.specs.Names.{is_name, place, are_names}
use Rattle.std.specs.Str.{bytes_eq}
use Rattle.wi_net.specs.Net.{Net}
use Rattle.wi_net.specs.Network.{is_no_later}
use Rattle.wi_net.specs.Builder.{Draft, add_label, with_label, links_alone}
use Rattle.wi_net.proofs.FindingLemmas.{none_any}
use Rattle.wi_net.proofs.KeptLists.{none_from, nothing_is, is_nothing}
use Rattle.wi_net.proofs.PlaceLemmas.{before}
use Rattle.wi_net.proofs.ApartLemmas.{names_apart, name_in}
use Rattle.wi_plan.specs.declared.plan.Path.{Path}
use Rattle.wi_plan.specs.declared.plan.Bypass.{Bypass}
use Rattle.wi_plan.specs.declared.plan.Plan.{Plan}
use Rattle.wi_protect.specs.Labels.{names_of, classes_for, paths_names, bypasses_names, label_names, label_classes, first_path_label, new_labels}
use Rattle.wi_protect.specs.private.Adding.{CanLabel, with_labels}
use Rattle.wi_protect.proofs.Classes.{paths_count, bypasses_count}

-- a beginning of names is names
pub names_front : (xs ys : List (List ℕ)) → are_names (xs ++ ys) ≡ true → are_names xs ≡ true
names_front [] ys h = refl
names_front (s ∷ xs) ys h =
    let parts = and_parts (is_name s) (is_none (place (xs ++ ys) s) && are_names (xs ++ ys)) h in
    let more = and_parts (is_none (place (xs ++ ys) s)) (are_names (xs ++ ys)) parts.1 in
    let none : list_any (bytes_eq s) (xs ++ ys) ≡ false = none_any (bytes_eq s) (xs ++ ys) (nothing_is (place (xs ++ ys) s) more.0) in
    let free : place xs s ≡ None = none_from (bytes_eq s) xs ((or_parts (list_any (bytes_eq s) xs) (list_any (bytes_eq s) ys) (sym (list_any-append (bytes_eq s) xs ys) ∙ none)).0) in
    and_from (is_name s) (is_none (place xs s) && are_names xs) parts.0 (and_from (is_none (place xs s)) (are_names xs) (is_nothing (place xs s) free) (names_front xs ys more.1))

-- one label that breaks no rule
label_fits : (d : Draft) (class : Class) (s : List ℕ) (rest : List (List ℕ)) → are_names (d.net.labels ++ s ∷ rest) ≡ true → length d.net.labels < 20000 → add_label d class s ≡ Ok (with_label d class s)
unfolding add_label
label_fits d class s rest names few =
    rw (lt-ltb (length d.net.labels) 20000 few, name_in d.net.labels rest s names, before bytes_eq are_names names_apart d.net.labels rest s names) refl

abbrev is_behind : Class → List Class → Bool
is_behind class classes = list_all (λ c. is_no_later c class) classes

all_append : (p : Class → Bool) (xs ys : List Class) → list_all p xs ≡ true → list_all p ys ≡ true → list_all p (xs ++ ys) ≡ true
all_append p [] ys a b = b
all_append p (x ∷ xs) ys a b = let parts = and_parts (p x) (list_all p xs) a in and_from (p x) (list_all p (xs ++ ys)) parts.0 (all_append p xs ys parts.1 b)

all_for : (p : Class → Bool) (class : Class) (names : List (List ℕ)) → p class ≡ true → list_all p (classes_for class names) ≡ true
all_for p class [] h = refl
all_for p class (s ∷ names) h = and_from (p class) (list_all p (classes_for class names)) h (all_for p class names h)

same_later : (class : Class) → is_no_later class class ≡ true
same_later Mpls = refl
same_later Smpls = refl
same_later Ip = refl

-- labels that break no rule
pub can_label : (class : Class) (d : Draft) (names : List (List ℕ)) → are_names (d.net.labels ++ names) ≡ true → length (d.net.labels ++ names) ≤ 20000 → is_behind class d.net.classes ≡ true → CanLabel class d names
can_label class d [] apart few order = tt
can_label class d (s ∷ names) apart few order =
    let joined : d.net.labels ++ s ∷ names ≡ (d.net.labels ++ s ∷ []) ++ names = sym (append_assoc d.net.labels (s ∷ []) names) in (
      (label_fits d class s names apart (omega (arith, length-append d.net.labels (s ∷ names))), order),
      can_label class (with_label d class s) names (ap are_names (sym joined) ∙ apart) (omega (arith, ap (λ (xs : List (List ℕ)). length xs) joined)) (all_append (λ c. is_no_later c class) d.net.classes (class ∷ []) order (and_from (is_no_later class class) true (same_later class) refl)),
    )

-- what they make
abbrev pub labelled : Net → List (List ℕ) → List Class → Draft
labelled net labels classes = record (links_alone net) { net = record net { labels = labels; classes = classes; rows = [] } }

with_labels_is : (class : Class) (net : Net) (labels : List (List ℕ)) (classes : List Class) (names : List (List ℕ)) → with_labels class (labelled net labels classes) names ≡ labelled net (labels ++ names) (classes ++ classes_for class names)
with_labels_is class net labels classes [] = ap (λ ls. labelled net ls classes) (sym (append-nil labels)) ∙ ap (labelled net (labels ++ [])) (sym (append-nil classes))
with_labels_is class net labels classes (s ∷ names) =
    with_labels_is class net (labels ++ s ∷ []) (classes ++ class ∷ []) names
    ∙ ap (λ ls. labelled net ls ((classes ++ class ∷ []) ++ classes_for class names)) (append_assoc labels (s ∷ []) names)
    ∙ ap (labelled net (labels ++ s ∷ names)) (append_assoc classes (class ∷ []) (classes_for class names))

pub staged : (class : Class) (net : Net) (labels names : List (List ℕ)) (classes : List Class) (d next : Draft) → d ≡ labelled net labels classes → next ≡ with_labels class d names → next ≡ labelled net (labels ++ names) (classes ++ classes_for class names)
staged class net labels names classes d next is more = more ∙ ap (λ e. with_labels class e names) is ∙ with_labels_is class net labels classes names

pub stage : (class : Class) (net : Net) (labels names rest all : List (List ℕ)) (classes : List Class) (d : Draft) → are_names all ≡ true → length all ≤ 20000 → (labels ++ names) ++ rest ≡ all → is_behind class classes ≡ true → d ≡ labelled net labels classes → CanLabel class d names
stage class net labels names rest all classes d apart few is order now =
    let P : Draft → Type 0 = λ e. CanLabel class e names in
    subst P (sym now) (can_label class (labelled net labels classes) names (names_front (labels ++ names) rest (ap are_names is ∙ apart))
    (omega (arith, length-append (labels ++ names) rest, ap (λ (xs : List (List ℕ)). length xs) is)) order)

abbrev m_of : Net → List (List ℕ)
m_of net = names_of Mpls net.classes net.labels

abbrev s_of : Net → List (List ℕ)
s_of net = names_of Smpls net.classes net.labels

abbrev i_of : Net → List (List ℕ)
i_of net = names_of Ip net.classes net.labels

abbrev b_of : Plan → List (List ℕ)
b_of plan = bypasses_names 1 plan.bypasses

abbrev p_of : Plan → List (List ℕ)
p_of plan = paths_names 1 plan.paths

abbrev at1 : Net → Draft
at1 net = labelled net (m_of net) (classes_for Mpls (m_of net))

abbrev at2 : Net → Plan → Draft
at2 net plan = labelled net (m_of net ++ b_of plan) (classes_for Mpls (m_of net) ++ classes_for Mpls (b_of plan))

abbrev at3 : Net → Plan → Draft
at3 net plan = labelled net ((m_of net ++ b_of plan) ++ s_of net) ((classes_for Mpls (m_of net) ++ classes_for Mpls (b_of plan)) ++ classes_for Smpls (s_of net))

abbrev at4 : Net → Plan → Draft
at4 net plan = labelled net (((m_of net ++ b_of plan) ++ s_of net) ++ p_of plan) (((classes_for Mpls (m_of net) ++ classes_for Mpls (b_of plan)) ++ classes_for Smpls (s_of net)) ++ classes_for Smpls (p_of plan))

abbrev at5 : Net → Plan → Draft
at5 net plan = labelled net ((((m_of net ++ b_of plan) ++ s_of net) ++ p_of plan) ++ i_of net) ((((classes_for Mpls (m_of net) ++ classes_for Mpls (b_of plan)) ++ classes_for Smpls (s_of net)) ++ classes_for Smpls (p_of plan)) ++ classes_for Ip (i_of net))

pub is1 : (net : Net) (d0 d1 : Draft) → d0 ≡ links_alone net → d1 ≡ with_labels Mpls d0 (m_of net) → d1 ≡ at1 net
is1 net d0 d1 a b = staged Mpls net [] (m_of net) [] d0 d1 a b

pub is2 : (net : Net) (plan : Plan) (d1 d2 : Draft) → d1 ≡ at1 net → d2 ≡ with_labels Mpls d1 (b_of plan) → d2 ≡ at2 net plan
is2 net plan d1 d2 a b = staged Mpls net (m_of net) (b_of plan) (classes_for Mpls (m_of net)) d1 d2 a b

pub is3 : (net : Net) (plan : Plan) (d2 d3 : Draft) → d2 ≡ at2 net plan → d3 ≡ with_labels Smpls d2 (s_of net) → d3 ≡ at3 net plan
is3 net plan d2 d3 a b = staged Smpls net (m_of net ++ b_of plan) (s_of net) (classes_for Mpls (m_of net) ++ classes_for Mpls (b_of plan)) d2 d3 a b

pub is4 : (net : Net) (plan : Plan) (d3 d4 : Draft) → d3 ≡ at3 net plan → d4 ≡ with_labels Smpls d3 (p_of plan) → d4 ≡ at4 net plan
is4 net plan d3 d4 a b = staged Smpls net ((m_of net ++ b_of plan) ++ s_of net) (p_of plan) ((classes_for Mpls (m_of net) ++ classes_for Mpls (b_of plan)) ++ classes_for Smpls (s_of net)) d3 d4 a b

pub is5 : (net : Net) (plan : Plan) (d4 d5 : Draft) → d4 ≡ at4 net plan → d5 ≡ with_labels Ip d4 (i_of net) → d5 ≡ at5 net plan
is5 net plan d4 d5 a b = staged Ip net (((m_of net ++ b_of plan) ++ s_of net) ++ p_of plan) (i_of net) (((classes_for Mpls (m_of net) ++ classes_for Mpls (b_of plan)) ++ classes_for Smpls (s_of net)) ++ classes_for Smpls (p_of plan)) d4 d5 a b

-- all labels, grouped as they come
grouped : {X : Type 0} (m b s p i : List X) → (((m ++ b) ++ s) ++ p) ++ i ≡ (m ++ b) ++ ((s ++ p) ++ i)
grouped m b s p i = simp append_assoc

classes_append : (class : Class) (xs ys : List (List ℕ)) → classes_for class (xs ++ ys) ≡ classes_for class xs ++ classes_for class ys
classes_append class [] ys = refl
classes_append class (x ∷ xs) ys = ap (λ cs. class ∷ cs) (classes_append class xs ys)

pub all_labelled : (net : Net) (plan : Plan) → at5 net plan ≡ labelled net (label_names net plan) (label_classes net plan)
all_labelled net plan =
    ap (λ ls. labelled net ls ((((classes_for Mpls (m_of net) ++ classes_for Mpls (b_of plan)) ++ classes_for Smpls (s_of net)) ++ classes_for Smpls (p_of plan)) ++ classes_for Ip (i_of net))) (grouped (m_of net) (b_of plan) (s_of net) (p_of plan) (i_of net))
    ∙ ap (labelled net (label_names net plan)) (grouped (classes_for Mpls (m_of net)) (classes_for Mpls (b_of plan)) (classes_for Smpls (s_of net)) (classes_for Smpls (p_of plan)) (classes_for Ip (i_of net))
    ∙ ap (λ cs. cs ++ ((classes_for Smpls (s_of net) ++ classes_for Smpls (p_of plan)) ++ classes_for Ip (i_of net))) (sym (classes_append Mpls (m_of net) (b_of plan)))
    ∙ ap (λ cs. classes_for Mpls (m_of net ++ b_of plan) ++ (cs ++ classes_for Ip (i_of net))) (sym (classes_append Smpls (s_of net) (p_of plan))))

-- each stage breaks no rule
pub can1 : (net : Net) (plan : Plan) (d : Draft) → are_names (label_names net plan) ≡ true → length (label_names net plan) ≤ 20000 → d ≡ links_alone net → CanLabel Mpls d (m_of net)
can1 net plan d apart few now = stage Mpls net [] (m_of net) (b_of plan ++ (s_of net ++ (p_of plan ++ i_of net))) (label_names net plan) [] d apart few (simp append_assoc) refl now

pub can2 : (net : Net) (plan : Plan) (d : Draft) → are_names (label_names net plan) ≡ true → length (label_names net plan) ≤ 20000 → d ≡ at1 net → CanLabel Mpls d (b_of plan)
can2 net plan d apart few now = stage Mpls net (m_of net) (b_of plan) (s_of net ++ (p_of plan ++ i_of net)) (label_names net plan) (classes_for Mpls (m_of net)) d apart few (simp append_assoc) (all_for (λ c. is_no_later c Mpls) Mpls (m_of net) refl) now

pub can3 : (net : Net) (plan : Plan) (d : Draft) → are_names (label_names net plan) ≡ true → length (label_names net plan) ≤ 20000 → d ≡ at2 net plan → CanLabel Smpls d (s_of net)
can3 net plan d apart few now =
    stage Smpls net (m_of net ++ b_of plan) (s_of net) (p_of plan ++ i_of net) (label_names net plan) (classes_for Mpls (m_of net) ++ classes_for Mpls (b_of plan)) d apart few (simp append_assoc)
    (all_append (λ c. is_no_later c Smpls) (classes_for Mpls (m_of net)) (classes_for Mpls (b_of plan)) (all_for (λ c. is_no_later c Smpls) Mpls (m_of net) refl) (all_for (λ c. is_no_later c Smpls) Mpls (b_of plan) refl)) now

three : (net : Net) (plan : Plan) (class : Class) → is_no_later Mpls class ≡ true → is_no_later Smpls class ≡ true → is_behind class ((classes_for Mpls (m_of net) ++ classes_for Mpls (b_of plan)) ++ classes_for Smpls (s_of net)) ≡ true
three net plan class a b =
    all_append (λ c. is_no_later c class) (classes_for Mpls (m_of net) ++ classes_for Mpls (b_of plan)) (classes_for Smpls (s_of net))
    (all_append (λ c. is_no_later c class) (classes_for Mpls (m_of net)) (classes_for Mpls (b_of plan)) (all_for (λ c. is_no_later c class) Mpls (m_of net) a) (all_for (λ c. is_no_later c class) Mpls (b_of plan) a))
    (all_for (λ c. is_no_later c class) Smpls (s_of net) b)

pub can4 : (net : Net) (plan : Plan) (d : Draft) → are_names (label_names net plan) ≡ true → length (label_names net plan) ≤ 20000 → d ≡ at3 net plan → CanLabel Smpls d (p_of plan)
can4 net plan d apart few now =
    stage Smpls net ((m_of net ++ b_of plan) ++ s_of net) (p_of plan) (i_of net) (label_names net plan) ((classes_for Mpls (m_of net) ++ classes_for Mpls (b_of plan)) ++ classes_for Smpls (s_of net)) d apart few (simp append_assoc) (three net plan Smpls refl refl) now

pub can5 : (net : Net) (plan : Plan) (d : Draft) → are_names (label_names net plan) ≡ true → length (label_names net plan) ≤ 20000 → d ≡ at4 net plan → CanLabel Ip d (i_of net)
can5 net plan d apart few now =
    stage Ip net (((m_of net ++ b_of plan) ++ s_of net) ++ p_of plan) (i_of net) [] (label_names net plan) (((classes_for Mpls (m_of net) ++ classes_for Mpls (b_of plan)) ++ classes_for Smpls (s_of net)) ++ classes_for Smpls (p_of plan)) d apart few
    (append-nil ((((m_of net ++ b_of plan) ++ s_of net) ++ p_of plan) ++ i_of net) ∙ grouped (m_of net) (b_of plan) (s_of net) (p_of plan) (i_of net))
    (all_append (λ c. is_no_later c Ip) ((classes_for Mpls (m_of net) ++ classes_for Mpls (b_of plan)) ++ classes_for Smpls (s_of net)) (classes_for Smpls (p_of plan)) (three net plan Ip refl refl) (all_for (λ c. is_no_later c Ip) Smpls (p_of plan) refl)) now

-- how many labels there are at each stage
pub count_at : (net : Net) (labels : List (List ℕ)) (classes : List Class) (d : Draft) (n : ℕ) → d ≡ labelled net labels classes → n ≡ length d.net.labels → n ≡ length labels
count_at net labels classes d n is count = count ∙ ap (λ (e : Draft). length e.net.labels) is

pub new_is : (net : Net) (plan : Plan) (n1 n2 n3 n4 : ℕ) → n1 ≡ length (m_of net) → n2 ≡ length (m_of net ++ b_of plan) → n3 ≡ length ((m_of net ++ b_of plan) ++ s_of net) → n4 ≡ length (((m_of net ++ b_of plan) ++ s_of net) ++ p_of plan)
    → (n1 ≤ n2) × (n3 ≤ n4) × (n3 ≡ first_path_label net plan) × ((n2 - n1) + (n4 - n3) ≡ new_labels plan)
new_is net plan n1 n2 n3 n4 a b c d =
    let e2 = length-append (m_of net) (b_of plan) in
    let e3 = length-append (m_of net ++ b_of plan) (s_of net) in
    let e4 = length-append ((m_of net ++ b_of plan) ++ s_of net) (p_of plan) in
    let eb = bypasses_count 1 plan.bypasses in
    let ep = paths_count 1 plan.paths in
    (omega arith, omega arith, omega arith, omega arith)

-- from the first stage on, as the code goes
pub to2 : (net : Net) (plan : Plan) (d0 d1 d2 : Draft) (bs : List Bypass) → d0 ≡ links_alone net → d1 ≡ with_labels Mpls d0 (m_of net) → bs ≡ plan.bypasses → d2 ≡ with_labels Mpls d1 (bypasses_names 1 bs) → d2 ≡ at2 net plan
to2 net plan d0 d1 d2 bs a b e c = is2 net plan d1 d2 (is1 net d0 d1 a b) (c ∙ ap (λ xs. with_labels Mpls d1 (bypasses_names 1 xs)) e)

pub to3 : (net : Net) (plan : Plan) (d0 d1 d2 d3 : Draft) (bs : List Bypass) → d0 ≡ links_alone net → d1 ≡ with_labels Mpls d0 (m_of net) → bs ≡ plan.bypasses → d2 ≡ with_labels Mpls d1 (bypasses_names 1 bs) → d3 ≡ with_labels Smpls d2 (s_of net) → d3 ≡ at3 net plan
to3 net plan d0 d1 d2 d3 bs a b e c d = is3 net plan d2 d3 (to2 net plan d0 d1 d2 bs a b e c) d

pub to4 : (net : Net) (plan : Plan) (d0 d1 d2 d3 d4 : Draft) (bs : List Bypass) (ps : List Path) → d0 ≡ links_alone net → d1 ≡ with_labels Mpls d0 (m_of net) → bs ≡ plan.bypasses → d2 ≡ with_labels Mpls d1 (bypasses_names 1 bs) → d3 ≡ with_labels Smpls d2 (s_of net)
    → ps ≡ plan.paths → d4 ≡ with_labels Smpls d3 (paths_names 1 ps) → d4 ≡ at4 net plan
to4 net plan d0 d1 d2 d3 d4 bs ps a b e c d f g = is4 net plan d3 d4 (to3 net plan d0 d1 d2 d3 bs a b e c d) (g ∙ ap (λ xs. with_labels Smpls d3 (paths_names 1 xs)) f)

-- the numbers that the code takes at four stages
pub numbers_are : (net : Net) (plan : Plan) (d0 d1 d2 d3 d4 : Draft) (bs : List Bypass) (ps : List Path) (n1 n2 n3 n4 : ℕ) → d0 ≡ links_alone net → d1 ≡ with_labels Mpls d0 (m_of net) → bs ≡ plan.bypasses → d2 ≡ with_labels Mpls d1 (bypasses_names 1 bs) → d3 ≡ with_labels Smpls d2 (s_of net)
    → ps ≡ plan.paths → d4 ≡ with_labels Smpls d3 (paths_names 1 ps) → n1 ≡ length d1.net.labels → n2 ≡ length d2.net.labels → n3 ≡ length d3.net.labels → n4 ≡ length d4.net.labels
    → (n1 ≤ n2) × (n3 ≤ n4) × (n3 ≡ first_path_label net plan) × ((n2 - n1) + (n4 - n3) ≡ new_labels plan)
numbers_are net plan d0 d1 d2 d3 d4 bs ps n1 n2 n3 n4 a b e c d f g c1 c2 c3 c4 =
    new_is net plan n1 n2 n3 n4 (count_at net _ _ d1 n1 (is1 net d0 d1 a b) c1) (count_at net _ _ d2 n2 (to2 net plan d0 d1 d2 bs a b e c) c2)
    (count_at net _ _ d3 n3 (to3 net plan d0 d1 d2 d3 bs a b e c d) c3) (count_at net _ _ d4 n4 (to4 net plan d0 d1 d2 d3 d4 bs ps a b e c d f g) c4)

pub can2_of : (net : Net) (plan : Plan) (d : Draft) (bs : List Bypass) → are_names (label_names net plan) ≡ true → length (label_names net plan) ≤ 20000 → d ≡ at1 net → bs ≡ plan.bypasses → CanLabel Mpls d (bypasses_names 1 bs)
can2_of net plan d bs apart few now same = let P : List Bypass → Type 0 = λ xs. CanLabel Mpls d (bypasses_names 1 xs) in subst P (sym same) (can2 net plan d apart few now)

pub can4_of : (net : Net) (plan : Plan) (d : Draft) (ps : List Path) → are_names (label_names net plan) ≡ true → length (label_names net plan) ≤ 20000 → d ≡ at3 net plan → ps ≡ plan.paths → CanLabel Smpls d (paths_names 1 ps)
can4_of net plan d ps apart few now same = let P : List Path → Type 0 = λ xs. CanLabel Smpls d (paths_names 1 xs) in subst P (sym same) (can4 net plan d apart few now)

pub finished : (net : Net) (plan : Plan) (d0 d4 d5 : Draft) → d0 ≡ links_alone net → d4 ≡ at4 net plan → d5 ≡ with_labels Ip d4 (i_of net) → d5 ≡ record d0 { net = record d0.net { labels = label_names net plan; classes = label_classes net plan } }
finished net plan d0 d4 d5 first four last = is5 net plan d4 d5 four last ∙ all_labelled net plan ∙ ap (λ (d : Draft). record d { net = record d.net { labels = label_names net plan; classes = label_classes net plan } }) (sym first)
