-- Names that were written are read as they were.
use Rattle.std.proofs.Common.{◌≡◌, ℕ, suc, ◌+◌, Bool, true, false, List, [], ◌∷◌, ◌++◌, map, length, Ok, refl, sym, ap, ◌∙◌, append_assoc, append-nil, arith}
use Rattle.std.specs.List.{list_all}
use Rattle.std.specs.Str.{bytes_eq}
use Rattle.std.proofs.lemmas.Bool.{and_parts}
use Rattle.serde_json.specs.Data.{Data, string}
use Rattle.serde_json.specs.View.{items_of}
use Rattle.serde_json.specs.Events.{items_len}
use Rattle.wi_labels.specs.declared.label.Class.{Class}
use Rattle.wi_labels.specs.declared.label.Class.TheVariants.{Mpls, Smpls, Ip}
use Rattle.wi_labels.specs.Header.{same_class}
use Rattle.wi_net.specs.Names.{are_names}
use Rattle.wi_net.specs.Network.{is_no_later, are_in_order}
use Rattle.wi_net.specs.Builder.{Draft}
use Rattle.wi_netjson.specs.Reading.{each}
use Rattle.wi_netjson.specs.Routers.{router_at}
use Rattle.wi_netjson.specs.Labels.{label_at}
use Rattle.wi_netjson.specs.Written.{labels_in}
use Rattle.wi_net.proofs.PlaceLemmas.{before}
use Rattle.wi_net.proofs.ApartLemmas.{names_apart, name_in}

-- so many items
pub len_of_list : {X : Type 0} (f : X → Data) (xs : List X) → items_len (items_of (map f xs)) ≡ length xs
len_of_list f [] = refl
len_of_list f (x ∷ xs) = ap suc (len_of_list f xs)

abbrev pub with_routers : Draft → List (List ℕ) → Draft
with_routers d names = record d { net = record d.net { routers = names } }

-- one router
router_is_read : (d : Draft) (pre post : List (List ℕ)) (s : List ℕ) (i : ℕ) → are_names (pre ++ s ∷ post) ≡ true → router_at (with_routers d pre) i (string s) ≡ Ok (with_routers d (pre ++ s ∷ []))
unfolding router_at
router_is_read d pre post s i all = rw (name_in pre post s all, before bytes_eq are_names names_apart pre post s all) refl

-- routers that were written are read as they were
pub routers_are_read : (d : Draft) (pre rest : List (List ℕ)) (i : ℕ) → are_names (pre ++ rest) ≡ true → each router_at (with_routers d pre) i (items_of (map string rest)) ≡ Ok (with_routers d (pre ++ rest))
routers_are_read d pre [] i all = ap (λ names. Ok (with_routers d names)) (sym (append-nil pre))
routers_are_read d pre (s ∷ rest) i all =
    let joined : pre ++ s ∷ rest ≡ (pre ++ s ∷ []) ++ rest = sym (append_assoc pre (s ∷ []) rest) in
    rw (router_is_read d pre rest s i all) (routers_are_read d (pre ++ s ∷ []) rest (i + 1) (ap are_names (sym joined) ∙ all) ∙ ap (λ names. Ok (with_routers d names)) (sym joined))

abbrev pub with_labels : Draft → List (List ℕ) → List Class → Draft
with_labels d names classes = record d { net = record d.net { labels = names; classes = classes } }

-- a class for each name
abbrev pub each_of : Class → List (List ℕ) → List Class
each_of class names = map (λ _. class) names

label_is_read : (d : Draft) (class : Class) (pre post : List (List ℕ)) (classes : List Class) (s : List ℕ) (i : ℕ) → are_names (pre ++ s ∷ post) ≡ true
    → label_at class (with_labels d pre classes) i (string s) ≡ Ok (with_labels d (pre ++ s ∷ []) (classes ++ class ∷ []))
unfolding label_at
label_is_read d class pre post classes s i all = rw (name_in pre post s all, before bytes_eq are_names names_apart pre post s all) refl

-- labels of a class that were written are read as they were
pub labels_are_read : (d : Draft) (class : Class) (pre rest post : List (List ℕ)) (classes : List Class) (i : ℕ) → are_names (pre ++ (rest ++ post)) ≡ true
    → each (label_at class) (with_labels d pre classes) i (items_of (map string rest)) ≡ Ok (with_labels d (pre ++ rest) (classes ++ each_of class rest))
labels_are_read d class pre [] post classes i all = ap (λ names. Ok (with_labels d names classes)) (sym (append-nil pre)) ∙ ap (λ cs. Ok (with_labels d (pre ++ []) cs)) (sym (append-nil classes))
labels_are_read d class pre (s ∷ rest) post classes i all =
    let joined : pre ++ s ∷ rest ≡ (pre ++ s ∷ []) ++ rest = sym (append_assoc pre (s ∷ []) rest) in
    let whole : pre ++ s ∷ (rest ++ post) ≡ (pre ++ s ∷ []) ++ (rest ++ post) = sym (append_assoc pre (s ∷ []) (rest ++ post)) in
    let more : classes ++ class ∷ each_of class rest ≡ (classes ++ class ∷ []) ++ each_of class rest = sym (append_assoc classes (class ∷ []) (each_of class rest)) in
    rw (label_is_read d class pre (rest ++ post) classes s i all)
    (labels_are_read d class (pre ++ s ∷ []) rest post (classes ++ class ∷ []) (i + 1) (ap are_names (sym whole) ∙ all) ∙ ap (λ names. Ok (with_labels d names ((classes ++ class ∷ []) ++ each_of class rest))) (sym joined) ∙ ap (λ cs. Ok (with_labels d (pre ++ s ∷ rest) cs)) (sym more))

-- labels all of classes other than one have none of it
none_of : (class : Class) (p : Class → Bool) (classes : List Class) (labels : List (List ℕ)) → ((c : Class) → p c ≡ true → same_class c class ≡ false) → list_all p classes ≡ true → labels_in class classes labels ≡ []
none_of class p [] labels other all = refl
none_of class p (c ∷ classes) [] other all = refl
none_of class p (c ∷ classes) (s ∷ labels) other all =
    let parts = and_parts (p c) (list_all p classes) all in
    rw (other c parts.0) (none_of class p classes labels other parts.1)

smpls_no_mpls : (c : Class) → is_no_later Smpls c ≡ true → same_class c Mpls ≡ false
smpls_no_mpls Mpls h = cc
smpls_no_mpls Smpls h = refl
smpls_no_mpls Ip h = refl

ip_no_mpls : (c : Class) → is_no_later Ip c ≡ true → same_class c Mpls ≡ false
ip_no_mpls Mpls h = cc
ip_no_mpls Smpls h = cc
ip_no_mpls Ip h = refl

ip_no_smpls : (c : Class) → is_no_later Ip c ≡ true → same_class c Smpls ≡ false
ip_no_smpls Mpls h = cc
ip_no_smpls Smpls h = cc
ip_no_smpls Ip h = refl

-- labels and their classes are those of each class in turn
pub record IsByClass (classes : List Class) (labels : List (List ℕ)) : Type 0 where
  pub names : labels ≡ labels_in Mpls classes labels ++ (labels_in Smpls classes labels ++ labels_in Ip classes labels)
  pub kinds : classes ≡ each_of Mpls (labels_in Mpls classes labels) ++ (each_of Smpls (labels_in Smpls classes labels) ++ each_of Ip (labels_in Ip classes labels))

pub by_class : (classes : List Class) (labels : List (List ℕ)) → length classes ≡ length labels → are_in_order classes ≡ true → IsByClass classes labels
by_class [] [] len all = record { names = refl; kinds = refl }
by_class [] (s ∷ labels) len all = absurd (omega (arith, len))
by_class (c ∷ classes) [] len all = absurd (omega (arith, len))
by_class (Mpls ∷ classes) (s ∷ labels) len all =
    let parts = and_parts (list_all (λ d. is_no_later Mpls d) classes) (are_in_order classes) all in
    let rest = by_class classes labels (omega (arith, len)) parts.1 in
    record { names = ap (λ xs. s ∷ xs) rest.names; kinds = ap (λ xs. Mpls ∷ xs) rest.kinds }
by_class (Smpls ∷ classes) (s ∷ labels) len all =
    let parts = and_parts (list_all (λ d. is_no_later Smpls d) classes) (are_in_order classes) all in
    let rest = by_class classes labels (omega (arith, len)) parts.1 in
    let none : labels_in Mpls classes labels ≡ [] = none_of Mpls (λ d. is_no_later Smpls d) classes labels smpls_no_mpls parts.0 in
    let names : labels ≡ labels_in Smpls classes labels ++ labels_in Ip classes labels = rest.names ∙ ap (λ xs. xs ++ (labels_in Smpls classes labels ++ labels_in Ip classes labels)) none in
    let kinds : classes ≡ each_of Smpls (labels_in Smpls classes labels) ++ each_of Ip (labels_in Ip classes labels) = rest.kinds ∙ ap (λ xs. each_of Mpls xs ++ (each_of Smpls (labels_in Smpls classes labels) ++ each_of Ip (labels_in Ip classes labels))) none in
    record { names = ap (λ xs. s ∷ xs) names ∙ ap (λ xs. xs ++ (s ∷ labels_in Smpls classes labels ++ labels_in Ip classes labels)) (sym none); kinds = ap (λ xs. Smpls ∷ xs) kinds ∙ ap (λ xs. each_of Mpls xs ++ (Smpls ∷ each_of Smpls (labels_in Smpls classes labels) ++ each_of Ip (labels_in Ip classes labels))) (sym none) }
by_class (Ip ∷ classes) (s ∷ labels) len all =
    let parts = and_parts (list_all (λ d. is_no_later Ip d) classes) (are_in_order classes) all in
    let rest = by_class classes labels (omega (arith, len)) parts.1 in
    let no_mpls : labels_in Mpls classes labels ≡ [] = none_of Mpls (λ d. is_no_later Ip d) classes labels ip_no_mpls parts.0 in
    let no_smpls : labels_in Smpls classes labels ≡ [] = none_of Smpls (λ d. is_no_later Ip d) classes labels ip_no_smpls parts.0 in
    let names : labels ≡ labels_in Ip classes labels = rest.names ∙ ap (λ xs. xs ++ (labels_in Smpls classes labels ++ labels_in Ip classes labels)) no_mpls ∙ ap (λ xs. xs ++ labels_in Ip classes labels) no_smpls in
    let kinds : classes ≡ each_of Ip (labels_in Ip classes labels) = rest.kinds ∙ ap (λ xs. each_of Mpls xs ++ (each_of Smpls (labels_in Smpls classes labels) ++ each_of Ip (labels_in Ip classes labels))) no_mpls ∙ ap (λ xs. each_of Smpls xs ++ each_of Ip (labels_in Ip classes labels)) no_smpls in
    record {
      names = ap (λ xs. s ∷ xs) names ∙ ap (λ xs. xs ++ (s ∷ labels_in Ip classes labels)) (sym no_smpls) ∙ ap (λ xs. xs ++ (labels_in Smpls classes labels ++ s ∷ labels_in Ip classes labels)) (sym no_mpls);
      kinds = ap (λ xs. Ip ∷ xs) kinds ∙ ap (λ xs. each_of Smpls xs ++ (Ip ∷ each_of Ip (labels_in Ip classes labels))) (sym no_smpls) ∙ ap (λ xs. each_of Mpls xs ++ (each_of Smpls (labels_in Smpls classes labels) ++ Ip ∷ each_of Ip (labels_in Ip classes labels))) (sym no_mpls);
    }
