-- Marks of symbols, and which symbols they are of.
use Rattle.std.proofs.Common.{◌≡◌, ℕ, zero, suc, ◌+◌, ◌<◌, ◌≤◌, Bool, true, false, ◌&&◌, nat_lt, List, [], ◌∷◌, ◌++◌, length, map, replicate, slice_get, Option, Some, None, refl, sym, ap, ◌∙◌, arith}
use Rattle.std.specs.Prelude.{◌||◌, ◌==◌, is_some}
use Rattle.std.specs.List.{list_any, range_with_len, flat_map}
use Rattle.std.specs.Option.{option_map, option_map_or, option_and_then}
use Rattle.std.proofs.lemmas.List.{get_or_past}
use Rattle.std.proofs.lemmas.List.FromFn.{map-range_with_len_more, get_or-map-range_with_len, length-map-range_with_len}
use Rattle.std.proofs.lemmas.Bool.{lt-ltb, ltb-true, and_parts}
use Rattle.std.proofs.lemmas.Bool.Decides.{nat_tests}
use Rattle.wi_labels.specs.declared.label.Label.{Label}
use Rattle.wi_labels.specs.declared.label.Class.{Class}
use Rattle.wi_labels.specs.Header.{same_class}
use Rattle.wi_net.specs.declared.parts.RouterId.{RouterId}
use Rattle.wi_net.specs.declared.parts.LinkId.{LinkId}
use Rattle.wi_net.specs.declared.parts.Link.{Link}
use Rattle.wi_net.specs.Net.{Net}
use Rattle.wi_net.specs.Finding.{find_label, find_router, find_out, find_in}
use Rattle.wi_syntax.specs.Names.{Named}
use Rattle.wi_syntax.specs.declared.written.LabelAtom.{LabelAtom}
use Rattle.wi_syntax.specs.declared.written.LabelAtom.TheVariants as label
use Rattle.wi_syntax.specs.declared.written.LinkAtom.{LinkAtom}
use Rattle.wi_syntax.specs.declared.written.LinkAtom.TheVariants as link
use Rattle.wi_syntax.specs.declared.written.End.{End}
use Rattle.wi_syntax.specs.declared.written.End.TheVariants as end
use Rattle.wi_syntax.specs.declared.written.Pair.{Pair}
use Rattle.wi_query.specs.Sets.{SymbolMarks, holds, among, class_named, is_label_named, is_label_of, is_router_named, is_interface_named, comes_from, goes_to, is_link_between, is_link_of}
use Rattle.wi_query.specs.Unknown.{Unknown, ALabel, ARouter, AnInterface, unless, unknown_label, unknown_in_label_atom, unknown_in_end, unknown_in_pair, unknown_in_link_atom}
use Rattle.wi_query.specs.private.Names.{label_meant, is_meant, end_meant, ends_meant, is_at, is_between, marks_of, chosen, label_marks, link_marks}
use Rattle.wi_query.specs.declared.names.LabelName.{LabelName}
use Rattle.wi_query.specs.declared.names.LabelName.TheVariants.{OfClass, One}
use Rattle.wi_query.specs.declared.names.EndMeant.{EndMeant}
use Rattle.wi_query.specs.declared.names.EndMeant.TheVariants as end_meant_by
use Rattle.wi_query.specs.declared.names.Ends.{Ends}
use Rattle.wi_query.proofs.Lists.{nothing_unknown}

-- one mark more
pub marks_pushed : (p : ℕ → Bool) (n : ℕ) (marks new : List Bool) (b : Bool) → marks ≡ marks_of n p → new ≡ marks ++ b ∷ [] → b ≡ p n → new ≡ marks_of (n + 1) p
marks_pushed p n marks new b is pushed at = pushed ∙ ap (λ s. s ++ b ∷ []) is ∙ ap (λ c. marks_of n p ++ c ∷ []) at ∙ sym (map-range_with_len_more p 0 n n (omega arith))

-- marks tell the symbols that they are of
pub holds_marks : (n : ℕ) (p : ℕ → Bool) (x : ℕ) → holds (marks_of n p) x ≡ (nat_lt x n && p x)
holds_marks n p x = go (nat_lt x n) refl
  where
    go : (b : Bool) → nat_lt x n ≡ b → holds (marks_of n p) x ≡ (nat_lt x n && p x)
    go true e = get_or-map-range_with_len p 0 n x x false (ltb-true x n e) (omega arith) ∙ sym (rw e refl)
    go false e = get_or_past (marks_of n p) x false (let k = length-map-range_with_len p 0 n in grind (arith, nat_tests, e, k)) ∙ sym (rw e refl)

same_from : (p q : ℕ → Bool) (a n : ℕ) → ((x : ℕ) → a ≤ x → x < a + n → p x ≡ q x) → map p (range_with_len a n) ≡ map q (range_with_len a n)
same_from p q a zero same = refl
same_from p q a (suc n) same =
    rw (same a (omega arith) (omega arith)) (ap (λ s. q a ∷ s) (same_from p q (a + 1) n (λ x low high. same x (omega arith) (omega arith))))

same_marks : (n : ℕ) (p q : ℕ → Bool) → ((x : ℕ) → x < n → p x ≡ q x) → marks_of n p ≡ marks_of n q
same_marks n p q same = same_from p q 0 n (λ x low high. same x (omega arith))

all_from : (p : ℕ → Bool) (a n : ℕ) → ((x : ℕ) → a ≤ x → x < a + n → p x ≡ true) → replicate n true ≡ map p (range_with_len a n)
all_from p a zero all = refl
all_from p a (suc n) all =
    rw (all a (omega arith) (omega arith)) (ap (λ s. true ∷ s) (all_from p (a + 1) n (λ x low high. all x (omega arith) (omega arith))))

pub all_marks : (n : ℕ) → replicate n true ≡ marks_of n (λ x. nat_lt x n)
all_marks n = all_from (λ x. nat_lt x n) 0 n (λ x low high. lt-ltb x n (omega arith))

-- a name that is looked up
pub named_known : (net : Net) (name : Named) (m : LabelName) → label_meant net name ≡ Some m → unknown_label net name ≡ []
named_known net name m = go (class_named name) (find_label net name.text)
  where
    go : (c : Option Class) (l : Option Label) → ◌≡◌ {A = Option LabelName} (elim c [ Some class ↦ Some (OfClass class) | None ↦ option_map One l ]) (Some m) → unless (is_some c || is_some l) ALabel name ≡ []
    go (Some class) l e = refl
    go None (Some l) e = refl
    go None None e = cc

meant_named : (net : Net) (name : Named) (m : LabelName) (x : ℕ) → label_meant net name ≡ Some m → is_meant net m x ≡ is_label_named net name x
meant_named net name m x = go (class_named name) (find_label net name.text)
  where
    go : (c : Option Class) (l : Option Label) → ◌≡◌ {A = Option LabelName} (elim c [ Some class ↦ Some (OfClass class) | None ↦ option_map One l ]) (Some m)
        → ◌≡◌ {A = Bool} (is_meant net m x) (elim c [ Some class ↦ option_map_or (λ d. same_class d class) (slice_get net.classes x) false | None ↦ option_map_or (λ (k : Label). k.0 == x) l false ])
    go (Some class) l e = let is : m ≡ OfClass class = cc in rw is refl
    go None (Some l) e = let is : m ≡ One l = cc in rw is refl
    go None None e = cc

any_same : {X M : Type 0} (f : X → Option M) (p : M → Bool) (q : X → Bool) → ((x : X) (m : M) → f x ≡ Some m → p m ≡ q x) → (xs : List X) (ms : List M) → map f xs ≡ map Some ms → list_any p ms ≡ list_any q xs
any_same f p q same [] [] e = refl
any_same f p q same [] (m ∷ ms) e = cc
any_same f p q same (x ∷ xs) [] e = cc
any_same f p q same (x ∷ xs) (m ∷ ms) e =
    let head : f x ≡ Some m = cc in
    let rest : map f xs ≡ map Some ms = cc in
    rw (same x m head, any_same f p q same xs ms rest) refl

guarded : (n x : ℕ) (a b : Bool) → x < n → a ≡ b → a ≡ (nat_lt x n && b)
guarded n x a b low e = rw (lt-ltb x n low) e

-- the marks of names are those of their atom
pub marks_of_names : (net : Net) (except : Bool) (names : List Named) (ms : List LabelName) → map (label_meant net) names ≡ map Some ms → label_marks net except ms ≡ marks_of (length net.labels) (is_label_of net (label.List except names))
marks_of_names net except names ms e =
    same_marks (length net.labels) (λ x. chosen except (list_any (λ m. is_meant net m x) ms)) (is_label_of net (label.List except names))
    (λ x low. guarded (length net.labels) x (chosen except (list_any (λ m. is_meant net m x) ms)) (among except (λ name. is_label_named net name x) names) low
    (ap (λ b. chosen except b) (any_same (label_meant net) (λ m. is_meant net m x) (λ name. is_label_named net name x) (λ name m k. meant_named net name m x k) names ms e)))

or_nothing : (b : Bool) → (b || false) ≡ b
or_nothing true = refl
or_nothing false = refl

pub marks_of_name : (net : Net) (name : Named) (m : LabelName) → label_meant net name ≡ Some m → label_marks net false (m ∷ []) ≡ marks_of (length net.labels) (is_label_of net (label.Name name))
marks_of_name net name m e =
    same_marks (length net.labels) (λ x. chosen false (list_any (λ k. is_meant net k x) (m ∷ []))) (is_label_of net (label.Name name))
    (λ x low. guarded (length net.labels) x (is_meant net m x || false) (is_label_named net name x) low (or_nothing (is_meant net m x) ∙ meant_named net name m x e))

pub names_known : (net : Net) (names : List Named) (ms : List LabelName) → map (label_meant net) names ≡ map Some ms → flat_map (unknown_label net) names ≡ []
names_known net names ms e = nothing_unknown (label_meant net) (unknown_label net) (named_known net) names ms e

-- an end that is looked up
abbrev Finder : Type 0
Finder = RouterId → List ℕ → Option LinkId

pub end_known : (net : Net) (find : Finder) (end : End) (p : EndMeant) → end_meant net find end ≡ Some p → unknown_in_end net find end ≡ []
end_known net find (end.Any at) p e = refl
end_known net find (end.Router router) p e = go (find_router net router.text) e
  where
    go : (o : Option RouterId) → option_map end_meant_by.At o ≡ Some p → unless (is_some o) ARouter router ≡ []
    go (Some id) e = refl
    go None e = cc
end_known net find (end.Interface router interface) p e = go (find_router net router.text) e
  where
    within : (id : RouterId) (o : Option LinkId) → option_map end_meant_by.By o ≡ Some p → unless (is_some o) AnInterface interface ≡ []
    within id (Some l) e = refl
    within id None e = cc

    go : (o : Option RouterId) → option_map end_meant_by.By (option_and_then (λ id. find id interface.text) o) ≡ Some p → ◌≡◌ {A = List Unknown} (elim o [ None ↦ (ARouter, router) ∷ [] | Some id ↦ unless (is_some (find id interface.text)) AnInterface interface ]) []
    go (Some id) e = within id (find id interface.text) e
    go None e = cc

-- whether it is the end of a link, from which this router is reached
abbrev is_end : Net → Finder → End → RouterId → ℕ → Bool
is_end net find (end.Any at) router x = true
is_end net find (end.Router name) router x = is_router_named net name router
is_end net find (end.Interface name interface) router x = is_interface_named net find name interface x

placed_end : (net : Net) (find : Finder) (end : End) (p : EndMeant) (router : RouterId) (x : ℕ) → end_meant net find end ≡ Some p → is_at p router x ≡ is_end net find end router x
placed_end net find (end.Any at) p router x e = let is : p ≡ end_meant_by.Any = cc in rw is refl
placed_end net find (end.Router name) p router x e = go (find_router net name.text) e
  where
    go : (o : Option RouterId) → option_map end_meant_by.At o ≡ Some p → is_at p router x ≡ option_map_or (λ (id : RouterId). id.0 == router.0) o false
    go (Some id) e = let is : p ≡ end_meant_by.At id = cc in rw is refl
    go None e = cc
placed_end net find (end.Interface name interface) p router x e = go (option_and_then (λ id. find id interface.text) (find_router net name.text)) e
  where
    go : (o : Option LinkId) → option_map end_meant_by.By o ≡ Some p → is_at p router x ≡ option_map_or (λ (l : LinkId). l.0 == x) o false
    go (Some l) e = let is : p ≡ end_meant_by.By l = cc in rw is refl
    go None e = cc

from_end : (net : Net) (end : End) (x : ℕ) (l : Link) → slice_get net.links x ≡ Some l → comes_from net end x ≡ is_end net (find_out net) end l.from x
from_end net (end.Any at) x l e = refl
from_end net (end.Router router) x l e = rw e refl
from_end net (end.Interface router interface) x l e = refl

to_end : (net : Net) (end : End) (x : ℕ) (l : Link) → slice_get net.links x ≡ Some l → goes_to net end x ≡ is_end net (find_in net) end l.to x
to_end net (end.Any at) x l e = refl
to_end net (end.Router router) x l e = rw e refl
to_end net (end.Interface router interface) x l e = refl

-- both ends
record BothMeant (net : Net) (pair : Pair) (ends : Ends) : Type 0 where
  source : end_meant net (find_out net) pair.from ≡ Some ends.source
  target : end_meant net (find_in net) pair.to ≡ Some ends.target

both_meant : (net : Net) (pair : Pair) (ends : Ends) → ends_meant net pair ≡ Some ends → BothMeant net pair ends
both_meant net pair ends e = go (end_meant net (find_out net) pair.from) (end_meant net (find_in net) pair.to) refl refl e
  where
    go : (a b : Option EndMeant) → end_meant net (find_out net) pair.from ≡ a → end_meant net (find_in net) pair.to ≡ b
        → option_and_then (λ source. option_map (λ target. record { source = source; target = target }) b) a ≡ Some ends → BothMeant net pair ends
    go (Some s) (Some t) ea eb e =
        let make : EndMeant → EndMeant → Ends = λ source target. record { source = source; target = target } in
        let is : make s t ≡ ends = cc in
        record { source = ea ∙ ap (λ (k : Ends). Some k.source) is; target = eb ∙ ap (λ (k : Ends). Some k.target) is }
    go (Some s) None ea eb e = cc
    go None b ea eb e = cc

pub pair_known : (net : Net) (pair : Pair) (ends : Ends) → ends_meant net pair ≡ Some ends → unknown_in_pair net pair ≡ []
pair_known net pair ends e =
    let m = both_meant net pair ends e in
    rw (end_known net (find_out net) pair.from ends.source m.source, end_known net (find_in net) pair.to ends.target m.target) refl

pub pairs_known : (net : Net) (pairs : List Pair) (ms : List Ends) → map (ends_meant net) pairs ≡ map Some ms → flat_map (unknown_in_pair net) pairs ≡ []
pairs_known net pairs ms e = nothing_unknown (ends_meant net) (unknown_in_pair net) (pair_known net) pairs ms e

link_at : (links : List Link) (x : ℕ) → x < length links → (l : Link) × (slice_get links x ≡ Some l)
link_at [] x low = absurd (omega (arith, low))
link_at (l ∷ links) zero low = (l, refl)
link_at (l ∷ links) (suc x) low = link_at links x (omega (arith, low))

pub between_pair : (net : Net) (pair : Pair) (ends : Ends) (x : ℕ) → x < length net.links → ends_meant net pair ≡ Some ends → is_between net ends x ≡ is_link_between net pair x
between_pair net pair ends x low e =
    let m = both_meant net pair ends e in
    let at = link_at net.links x low in
    let l : Link = at.0 in
    rw (at.1, placed_end net (find_out net) pair.from ends.source l.from x m.source, placed_end net (find_in net) pair.to ends.target l.to x m.target, from_end net pair.from x l at.1, to_end net pair.to x l at.1) refl

pub any_between_pairs : (net : Net) (pairs : List Pair) (ms : List Ends) (x : ℕ) → x < length net.links → map (ends_meant net) pairs ≡ map Some ms → list_any (λ ends. is_between net ends x) ms ≡ list_any (λ pair. is_link_between net pair x) pairs
any_between_pairs net pairs ms x low e = any_same (ends_meant net) (λ ends. is_between net ends x) (λ pair. is_link_between net pair x) (λ pair ends k. between_pair net pair ends x low k) pairs ms e

pub marks_of_pairs : (net : Net) (except : Bool) (pairs : List Pair) (ms : List Ends) → map (ends_meant net) pairs ≡ map Some ms → link_marks net except ms ≡ marks_of (length net.links) (is_link_of net (link.List except pairs))
marks_of_pairs net except pairs ms e =
    same_marks (length net.links) (λ x. chosen except (list_any (λ ends. is_between net ends x) ms)) (is_link_of net (link.List except pairs))
    (λ x low. guarded (length net.links) x (chosen except (list_any (λ ends. is_between net ends x) ms)) (among except (λ pair. is_link_between net pair x) pairs) low
    (ap (λ b. chosen except b) (any_between_pairs net pairs ms x low e)))

-- what atoms mean is of the network
pub label_within : (net : Net) (atom : LabelAtom) (x : ℕ) → is_label_of net atom x ≡ true → x < length net.labels
label_within net label.Any x h = ltb-true x (length net.labels) h
label_within net (label.Name name) x h = ltb-true x (length net.labels) ((and_parts (nat_lt x (length net.labels)) (is_label_named net name x) h).0)
label_within net (label.List except names) x h = ltb-true x (length net.labels) ((and_parts (nat_lt x (length net.labels)) (among except (λ name. is_label_named net name x) names) h).0)

pub link_within : (net : Net) (atom : LinkAtom) (x : ℕ) → is_link_of net atom x ≡ true → x < length net.links
link_within net link.Any x h = ltb-true x (length net.links) h
link_within net (link.List except pairs) x h = ltb-true x (length net.links) ((and_parts (nat_lt x (length net.links)) (among except (λ pair. is_link_between net pair x) pairs) h).0)

and_same : (a b : Bool) → (a && (a && b)) ≡ (a && b)
and_same true b = refl
and_same false b = refl

and_self : (a : Bool) → (a && a) ≡ a
and_self true = refl
and_self false = refl

pub holds_label : (net : Net) (atom : LabelAtom) (x : ℕ) → holds (marks_of (length net.labels) (is_label_of net atom)) x ≡ is_label_of net atom x
holds_label net label.Any x = holds_marks (length net.labels) (is_label_of net label.Any) x ∙ and_self (nat_lt x (length net.labels))
holds_label net (label.Name name) x = holds_marks (length net.labels) (is_label_of net (label.Name name)) x ∙ and_same (nat_lt x (length net.labels)) (is_label_named net name x)
holds_label net (label.List except names) x = holds_marks (length net.labels) (is_label_of net (label.List except names)) x ∙ and_same (nat_lt x (length net.labels)) (among except (λ name. is_label_named net name x) names)

pub holds_link : (net : Net) (atom : LinkAtom) (x : ℕ) → holds (marks_of (length net.links) (is_link_of net atom)) x ≡ is_link_of net atom x
holds_link net link.Any x = holds_marks (length net.links) (is_link_of net link.Any) x ∙ and_self (nat_lt x (length net.links))
holds_link net (link.List except pairs) x = holds_marks (length net.links) (is_link_of net (link.List except pairs)) x ∙ and_same (nat_lt x (length net.links)) (among except (λ pair. is_link_between net pair x) pairs)

-- the same, as calls give them
pub all_labels : (net : Net) (atom : LabelAtom) (set : SymbolMarks) (n : ℕ) → atom ≡ label.Any → n ≡ length net.labels → set ≡ replicate n true → set ≡ marks_of (length net.labels) (is_label_of net atom)
all_labels net atom set n is count made = rw (is) (made ∙ ap (λ k. replicate k true) count ∙ all_marks (length net.labels))

pub all_links : (net : Net) (atom : LinkAtom) (set : SymbolMarks) (n : ℕ) → atom ≡ link.Any → n ≡ length net.links → set ≡ replicate n true → set ≡ marks_of (length net.links) (is_link_of net atom)
all_links net atom set n is count made = rw (is) (made ∙ ap (λ k. replicate k true) count ∙ all_marks (length net.links))

pub set_of_name : (net : Net) (atom : LabelAtom) (name : Named) (m : LabelName) (set : SymbolMarks) → atom ≡ label.Name name → label_meant net name ≡ Some m → set ≡ label_marks net false (m ∷ []) → set ≡ marks_of (length net.labels) (is_label_of net atom)
set_of_name net atom name m set is found made = rw is (made ∙ marks_of_name net name m found)

pub set_of_names : (net : Net) (atom : LabelAtom) (except : Bool) (names shown : List Named) (ms given : List LabelName) (set : SymbolMarks) → atom ≡ label.List except names → shown ≡ names → map (label_meant net) shown ≡ map Some ms → given ≡ ms → set ≡ label_marks net except given → set ≡ marks_of (length net.labels) (is_label_of net atom)
set_of_names net atom except names shown ms given set is same found as_given made =
    let found_names : map (label_meant net) names ≡ map Some ms = ap (λ s. map (label_meant net) s) (sym same) ∙ found in
    rw is (made ∙ ap (λ s. label_marks net except s) as_given ∙ marks_of_names net except names ms found_names)

pub names_known_in : (net : Net) (atom : LabelAtom) (except : Bool) (names shown : List Named) (ms : List LabelName) → atom ≡ label.List except names → shown ≡ names → map (label_meant net) shown ≡ map Some ms → unknown_in_label_atom net atom ≡ []
names_known_in net atom except names shown ms is same found =
    let found_names : map (label_meant net) names ≡ map Some ms = ap (λ s. map (label_meant net) s) (sym same) ∙ found in
    rw is (names_known net names ms found_names)

pub set_of_pairs : (net : Net) (atom : LinkAtom) (except : Bool) (pairs shown : List Pair) (ms given : List Ends) (set : SymbolMarks) → atom ≡ link.List except pairs → shown ≡ pairs → map (ends_meant net) shown ≡ map Some ms → given ≡ ms → set ≡ link_marks net except given → set ≡ marks_of (length net.links) (is_link_of net atom)
set_of_pairs net atom except pairs shown ms given set is same found as_given made =
    let found_pairs : map (ends_meant net) pairs ≡ map Some ms = ap (λ s. map (ends_meant net) s) (sym same) ∙ found in
    rw is (made ∙ ap (λ s. link_marks net except s) as_given ∙ marks_of_pairs net except pairs ms found_pairs)

pub pairs_known_in : (net : Net) (atom : LinkAtom) (except : Bool) (pairs shown : List Pair) (ms : List Ends) → atom ≡ link.List except pairs → shown ≡ pairs → map (ends_meant net) shown ≡ map Some ms → unknown_in_link_atom net atom ≡ []
pairs_known_in net atom except pairs shown ms is same found =
    let found_pairs : map (ends_meant net) pairs ≡ map Some ms = ap (λ s. map (ends_meant net) s) (sym same) ∙ found in
    rw is (pairs_known net pairs ms found_pairs)
