-- Labels that are added to those before them.
use Rattle.std.proofs.Common.{◌≡◌, ℕ, zero, suc, ◌+◌, ◌*◌, ◌<◌, Bool, true, List, [], ◌∷◌, ◌++◌, length, map, replicate, None, Ok, refl, sym, ap, ◌∙◌, arith, append_assoc, length-append}
use Rattle.std.specs.Prelude.{codes}
use Rattle.std.specs.List.{list_any, list_all, range_with_len}
use Rattle.std.specs.Fmt.{decimal}
use Rattle.std.specs.Str.{bytes_eq}
use Rattle.std.proofs.lemmas.Bool.{and_from, or_from, lt-ltb}
use Rattle.std.proofs.lemmas.List.{replicate_more}
use Rattle.std.proofs.lemmas.List.Folds.{list_all-append, list_any-append}
use Rattle.std.proofs.lemmas.List.FromFn.{length-map-range_with_len, map-range_with_len_more}
use Rattle.wi_labels.specs.declared.label.Class.{Class}
use Rattle.wi_labels.specs.declared.label.Class.TheVariants.{Mpls, Smpls, Ip}
use Rattle.wi_net.specs.Names.{is_name, place}
use Rattle.wi_net.specs.Network.{is_no_later}
use Rattle.wi_net.specs.Builder.{Draft, add_label, with_label}
use Rattle.wi_net.proofs.KeptLists.{none_from}
use Rattle.wi_gen.specs.Ring.{Ring, numbered, labels_of, classes_of}
use Rattle.wi_gen.specs.private.Making.{with_labels, bypass_labels, path_labels}
use Rattle.wi_gen.proofs.NameLemmas.{numbered_is_name, no_lower, no_other}

-- what breaks no rule is added
label_allowed : (d : Draft) (class : Class) (name : List ℕ) → length d.net.labels < 20000 → is_name name ≡ true → place d.net.labels name ≡ None
    → add_label d class name ≡ Ok (with_label d class name)
unfolding add_label
label_allowed d class name few good new = rw (lt-ltb (length d.net.labels) 20000 few, good, new) refl

-- ---- classes in order
all_same : (p : Class → Bool) (n : ℕ) (class : Class) → p class ≡ true → list_all p (replicate n class) ≡ true
all_same p zero class h = refl
all_same p (suc n) class h = and_from (p class) (list_all p (replicate n class)) h (all_same p n class h)

pub mpls_order : (d : Draft) (ring : Ring) (i : ℕ) → d ≡ bypass_labels ring i → list_all (λ c. is_no_later c Mpls) d.net.classes ≡ true
mpls_order d ring i made = rw made (all_same (λ c. is_no_later c Mpls) i Mpls refl)

pub smpls_order : (d : Draft) (ring : Ring) (i : ℕ) → d ≡ path_labels ring i → list_all (λ c. is_no_later c Smpls) d.net.classes ≡ true
smpls_order d ring i made =
    rw made
    (list_all-append (λ c. is_no_later c Smpls) (replicate ring.path Mpls) (replicate i Smpls)
    ∙ and_from (list_all (λ c. is_no_later c Smpls) (replicate ring.path Mpls)) (list_all (λ c. is_no_later c Smpls) (replicate i Smpls))
    (all_same (λ c. is_no_later c Smpls) ring.path Mpls refl) (all_same (λ c. is_no_later c Smpls) i Smpls refl))

none_later : (classes : List Class) → list_all (λ c. is_no_later c Ip) classes ≡ true
none_later [] = refl
none_later (Mpls ∷ classes) = none_later classes
none_later (Smpls ∷ classes) = none_later classes
none_later (Ip ∷ classes) = none_later classes

pub ip_order : (d : Draft) (ring : Ring) → d ≡ path_labels ring ring.path → list_all (λ c. is_no_later c Ip) d.net.classes ≡ true
ip_order d ring made = none_later d.net.classes

-- ---- bypasses' labels
abbrev of_bypasses : ℕ → List (List ℕ)
of_bypasses n = map (numbered (codes "b")) (range_with_len 0 n)

abbrev of_path : ℕ → List (List ℕ)
of_path n = map (numbered (codes "s")) (range_with_len 1 n)

bypasses_count : (n : ℕ) → length (of_bypasses n) ≡ n
bypasses_count n = length-map-range_with_len (numbered (codes "b")) 0 n

path_count : (n : ℕ) → length (of_path n) ≡ n
path_count n = length-map-range_with_len (numbered (codes "s")) 1 n

both_count : (m n : ℕ) → length (of_bypasses m ++ of_path n) ≡ m + n
both_count m n = length-append (of_bypasses m) (of_path n) ∙ omega (arith, bypasses_count m, path_count n)

pub bypass_allowed : (d : Draft) (ring : Ring) (i : ℕ) (name text : List ℕ) → i < 2000 → d ≡ bypass_labels ring i → text ≡ codes "b" ++ decimal i
    → name ≡ text → add_label d Mpls name ≡ Ok (with_label d Mpls name)
bypass_allowed d ring i name text few made named is =
    rw (is, named, made)
    (label_allowed (bypass_labels ring i) Mpls (codes "b" ++ decimal i) (omega (arith, bypasses_count i)) (numbered_is_name 98 i refl (omega arith))
    (none_from (bytes_eq (codes "b" ++ decimal i)) (of_bypasses i) (no_lower 98 0 i i (omega arith) (omega arith))))

pub bypass_added : (d after : Draft) (ring : Ring) (i : ℕ) (name text : List ℕ) → d ≡ bypass_labels ring i → text ≡ codes "b" ++ decimal i
    → name ≡ text → after ≡ with_label d Mpls name → after ≡ bypass_labels ring (i + 1)
bypass_added d after ring i name text made named is added =
    added
    ∙ rw (is, named, made)
    (ap (λ ls. with_labels ring ls (replicate i Mpls ++ Mpls ∷ [])) (sym (map-range_with_len_more (numbered (codes "b")) 0 i i (omega arith)))
    ∙ ap (with_labels ring (of_bypasses (i + 1))) (replicate_more i Mpls))

-- ---- labels along the path
pub path_allowed : (d : Draft) (ring : Ring) (i j : ℕ) (name text : List ℕ) → i < 2000 → ring.path < 2000 → j ≡ 1 + i → d ≡ path_labels ring i
    → text ≡ codes "s" ++ decimal j → name ≡ text → add_label d Smpls name ≡ Ok (with_label d Smpls name)
path_allowed d ring i j name text few short next made named is =
    rw (is, named, made)
    (label_allowed (path_labels ring i) Smpls (codes "s" ++ decimal j) (omega (arith, both_count ring.path i))
    (numbered_is_name 115 j refl (omega arith))
    (none_from (bytes_eq (codes "s" ++ decimal j)) (of_bypasses ring.path ++ of_path i)
    (list_any-append (bytes_eq (codes "s" ++ decimal j)) (of_bypasses ring.path) (of_path i)
    ∙ or_from (list_any (bytes_eq (codes "s" ++ decimal j)) (of_bypasses ring.path)) (list_any (bytes_eq (codes "s" ++ decimal j)) (of_path i))
    (no_other 115 98 0 ring.path (decimal j) refl) (no_lower 115 1 i j (omega arith) (omega arith)))))

pub path_added : (d after : Draft) (ring : Ring) (i j : ℕ) (name text : List ℕ) → j ≡ 1 + i → d ≡ path_labels ring i → text ≡ codes "s" ++ decimal j
    → name ≡ text → after ≡ with_label d Smpls name → after ≡ path_labels ring (i + 1)
path_added d after ring i j name text next made named is added =
    added
    ∙ rw (is, named, made)
    (ap (λ ls. with_labels ring ls ((replicate ring.path Mpls ++ replicate i Smpls) ++ Smpls ∷ []))
    (append_assoc (of_bypasses ring.path) (of_path i) ((codes "s" ++ decimal j) ∷ [])
    ∙ ap (λ ls. of_bypasses ring.path ++ ls) (sym (map-range_with_len_more (numbered (codes "s")) 1 i j (omega arith))))
    ∙ ap (with_labels ring (of_bypasses ring.path ++ of_path (i + 1)))
    (append_assoc (replicate ring.path Mpls) (replicate i Smpls) (Smpls ∷ [])
    ∙ ap (λ cs. replicate ring.path Mpls ++ cs) (replicate_more i Smpls)))

-- ---- the label under all others
pub ip_allowed : (d : Draft) (ring : Ring) → ring.path < 2000 → d ≡ path_labels ring ring.path
    → add_label d Ip (codes "ip0") ≡ Ok (with_label d Ip (codes "ip0"))
ip_allowed d ring short made =
    rw made
    (label_allowed (path_labels ring ring.path) Ip (codes "ip0") (omega (arith, both_count ring.path ring.path)) refl
    (none_from (bytes_eq (codes "ip0")) (of_bypasses ring.path ++ of_path ring.path)
    (list_any-append (bytes_eq (codes "ip0")) (of_bypasses ring.path) (of_path ring.path)
    ∙ or_from (list_any (bytes_eq (codes "ip0")) (of_bypasses ring.path)) (list_any (bytes_eq (codes "ip0")) (of_path ring.path))
    (no_other 105 98 0 ring.path (codes "p0") refl) (no_other 105 115 1 ring.path (codes "p0") refl))))

pub ip_added : (d after : Draft) (ring : Ring) → d ≡ path_labels ring ring.path → after ≡ with_label d Ip (codes "ip0")
    → after ≡ with_labels ring (labels_of ring) (classes_of ring)
ip_added d after ring made added = added ∙ rw made refl

-- how many labels there are
pub labels_count : (ring : Ring) → length (labels_of ring) ≡ 2 * ring.path + 1
labels_count ring = length-append (of_bypasses ring.path ++ of_path ring.path) (codes "ip0" ∷ []) ∙ omega (arith, both_count ring.path ring.path)
