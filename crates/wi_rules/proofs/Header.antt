-- Parts of a valid header, made from the bottom up.
use Rattle.std.proofs.Common.{◌≡◌, ℕ, suc, Bool, true, false, List, [], ◌∷◌, map, slice_get, Option, Some, None, refl}
use Rattle.std.specs.Option.{option_map_or}
use Rattle.std.proofs.lemmas.Bool.{and_parts, and_from}
use Rattle.wi_labels.specs.declared.label.Class.{Class}
use Rattle.wi_labels.specs.declared.label.Class.TheVariants.{Mpls, Smpls, Ip}
use Rattle.wi_labels.specs.declared.ops.Op.TheVariants.{Push}
use Rattle.wi_labels.specs.Header.{Entry, allowed, same_class, is_valid_header}
use Rattle.wi_net.specs.Net.{Net, label_known, labels_known}
use Rattle.wi_rules.specs.Rules.{may_build}
use Rattle.wi_rules.proofs.Ops.{class_known}

-- the numbers of a header's labels
abbrev pub labels_of : List Entry → List ℕ
labels_of header = map (λ l. l.0.0) header

-- nothing, or a valid header
abbrev pub is_part : List Entry → Bool
is_part [] = true
is_part (l ∷ h) = is_valid_header (l ∷ h)

-- the symbol on top of a header's stack
abbrev pub top_of : List Entry → ℕ
top_of [] = 0
top_of (l ∷ h) = suc l.0.0

-- a class may stand on what is there
abbrev stands_on : Entry → List Entry → Bool
stands_on l [] = same_class l.1 Ip
stands_on l (x ∷ h) = allowed (Push l.0 l.1) x.1

part_stands : (l : Entry) (h : List Entry) → is_part (l ∷ h) ≡ true → stands_on l h ≡ true
part_stands (l, Mpls) [] p = p
part_stands (l, Smpls) [] p = p
part_stands (l, Ip) [] p = refl
part_stands (l, Mpls) ((m, Mpls) ∷ h) p = refl
part_stands (l, Mpls) ((m, Smpls) ∷ h) p = refl
part_stands (l, Mpls) ((m, Ip) ∷ h) p = cc
part_stands (l, Smpls) ((m, Mpls) ∷ h) p = cc
part_stands (l, Smpls) ((m, Smpls) ∷ h) p = cc
part_stands (l, Smpls) ((m, Ip) ∷ h) p = refl
part_stands (l, Ip) (x ∷ h) p = cc

stands_part : (l : Entry) (h : List Entry) → is_part h ≡ true → stands_on l h ≡ true → is_part (l ∷ h) ≡ true
stands_part (l, Mpls) [] p e = e
stands_part (l, Smpls) [] p e = e
stands_part (l, Ip) [] p e = refl
stands_part (l, Mpls) ((m, Mpls) ∷ h) p e = p
stands_part (l, Mpls) ((m, Smpls) ∷ h) p e = p
stands_part (l, Mpls) ((m, Ip) ∷ h) p e = cc
stands_part (l, Smpls) ((m, Mpls) ∷ h) p e = cc
stands_part (l, Smpls) ((m, Smpls) ∷ h) p e = cc
stands_part (l, Smpls) ((m, Ip) ∷ []) p e = refl
stands_part (l, Smpls) ((m, Ip) ∷ x ∷ h) p e = cc
stands_part (l, Ip) ((m, Mpls) ∷ h) p e = cc
stands_part (l, Ip) ((m, Smpls) ∷ h) p e = cc
stands_part (l, Ip) ((m, Ip) ∷ h) p e = cc

pub part_below : (l : Entry) (h : List Entry) → is_part (l ∷ h) ≡ true → is_part h ≡ true
part_below l [] p = refl
part_below (l, Mpls) ((m, Mpls) ∷ h) p = p
part_below (l, Mpls) ((m, Smpls) ∷ h) p = p
part_below (l, Mpls) ((m, Ip) ∷ h) p = cc
part_below (l, Smpls) ((m, Mpls) ∷ h) p = cc
part_below (l, Smpls) ((m, Smpls) ∷ h) p = cc
part_below (l, Smpls) ((m, Ip) ∷ []) p = refl
part_below (l, Smpls) ((m, Ip) ∷ x ∷ h) p = cc
part_below (l, Ip) (x ∷ h) p = cc

-- a label that makes a larger part may be pushed by the rules
pub may_push : (net : Net) (l : Entry) (h : List Entry) → is_part (l ∷ h) ≡ true → labels_known net (l ∷ h) ≡ true → may_build net l.0.0 (top_of h) ≡ true
may_push net l [] p k = rw (class_known net.classes l (and_parts (label_known net.classes l) (labels_known net []) k).0) (part_stands l [] p)
may_push net l (x ∷ h) p k =
    let parts : (label_known net.classes l ≡ true) × (labels_known net (x ∷ h) ≡ true) = and_parts (label_known net.classes l) (labels_known net (x ∷ h)) k in
    rw (class_known net.classes l parts.0) (rw (class_known net.classes x (and_parts (label_known net.classes x) (labels_known net h) parts.1).0) (part_stands l (x ∷ h) p))

same_class_self : (c : Class) → same_class c c ≡ true
same_class_self Mpls = refl
same_class_self Smpls = refl
same_class_self Ip = refl

-- and a label that the rules push makes a larger part
pub record Pushed (net : Net) (l : ℕ) (h : List Entry) : Type 0 where
  pub class : Class
  pub class_is : slice_get net.classes l ≡ Some class
  pub part : is_part ((record { 0 = l }, class) ∷ h) ≡ true
  pub known : labels_known net ((record { 0 = l }, class) ∷ h) ≡ true

pub pushed : (net : Net) (l : ℕ) (h : List Entry) → is_part h ≡ true → labels_known net h ≡ true → may_build net l (top_of h) ≡ true → Pushed net l h
pushed net l h p k m = go (slice_get net.classes l) refl
  where
    stands : (c : Class) → slice_get net.classes l ≡ Some c → (h : List Entry) → labels_known net h ≡ true → may_build net l (top_of h) ≡ true → stands_on (record { 0 = l }, c) h ≡ true
    stands c e [] k m = rw e at m
    stands c e (x ∷ h) k m =
        let m1 : option_map_or (λ (top : Class). allowed (Push (record { 0 = l }) c) top) (slice_get net.classes x.0.0) false ≡ true = rw e at m in
        rw (class_known net.classes x (and_parts (label_known net.classes x) (labels_known net h) k).0) at m1

    nothing : slice_get net.classes l ≡ None → (h : List Entry) → may_build net l (top_of h) ≡ true → ⊥
    nothing e [] m = let no : false ≡ true = rw e at m in cc
    nothing e (x ∷ h) m = let no : false ≡ true = rw e at m in cc

    go : (o : Option Class) → slice_get net.classes l ≡ o → Pushed net l h
    go None e = absurd (nothing e h m)
    go (Some c) e =
        let there : label_known net.classes (record { 0 = l }, c) ≡ true = rw e (same_class_self c) in
        record {
          class = c;
          class_is = e;
          part = stands_part (record { 0 = l }, c) h p (stands c e h k m);
          known = and_from (label_known net.classes (record { 0 = l }, c)) (labels_known net h) there k;
        }
