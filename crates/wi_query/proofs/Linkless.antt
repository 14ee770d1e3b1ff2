-- Pairs that mean no link, found by what their ends stand for.
use Rattle.std.proofs.Common.{◌≡◌, ℕ, ◌+◌, ◌<◌, Bool, true, false, not, ◌&&◌, ◌⊎◌, inl, inr, List, [], ◌∷◌, ◌++◌, length, drop, slice_get, Option, Some, None, refl, sym, ap, ◌∙◌}
use Rattle.std.specs.Prelude.{cond}
use Rattle.std.specs.List.{filter, find, flat_map, list_any}
use Rattle.std.specs.Option.{option_map, option_map_or, option_and_then}
use Rattle.std.proofs.lemmas.Bool.{and_parts, eqb-true, false_from_ne_true, lt-ltb, ltb-true}
use Rattle.wi_net.specs.declared.parts.RouterId.{RouterId}
use Rattle.wi_net.specs.declared.parts.LinkId.{LinkId}
use Rattle.wi_net.specs.declared.parts.Link.{Link}
use Rattle.wi_net.specs.Net.{Net, all_links}
use Rattle.wi_net.specs.Finding.{find_router, find_out, find_in}
use Rattle.wi_net.proofs.SetLemmas.{has-all_links, any_in, in_any}
use Rattle.wi_net.proofs.CountLemmas.{filter_same}
use Rattle.wi_syntax.specs.Atoms.{pair_at}
use Rattle.wi_syntax.specs.Names.{Named}
use Rattle.wi_syntax.specs.declared.written.End.{End}
use Rattle.wi_syntax.specs.declared.written.End.TheVariants as end
use Rattle.wi_syntax.specs.declared.written.LinkAtom.{LinkAtom}
use Rattle.wi_syntax.specs.declared.written.Pair.{Pair}
use Rattle.wi_syntax.specs.declared.written.Sign.{Sign}
use Rattle.wi_syntax.specs.declared.written.Written.{Written}
use Rattle.wi_syntax.proofs.Texts.{one_way}
use Rattle.wi_query.specs.Sets.{comes_from, goes_to, is_router_named, is_interface_named, is_link_between}
use Rattle.wi_query.specs.Meaning.{IsQuery}
use Rattle.wi_query.specs.Faults.{IsShort}
use Rattle.wi_query.specs.Linked.{is_linkless, pairs_in_sign, pairs_in_known, first_linkless, IsStrictQuery, IsStrictFault}
use Rattle.wi_query.specs.private.Names.{end_meant, ends_meant, is_at, is_between}
use Rattle.wi_query.specs.private.Lookups.{one_by, one_between, has_link, linkless_at}
use Rattle.wi_query.specs.declared.query.Query.{Query}
use Rattle.wi_query.specs.declared.strict.StrictFault.TheVariants.{NoLink}
use Rattle.wi_query.specs.declared.names.EndMeant.{EndMeant}
use Rattle.wi_query.specs.declared.names.EndMeant.TheVariants as meant
use Rattle.wi_query.specs.declared.names.Ends.{Ends}
use Rattle.wi_query.proofs.Lists.{left_at}
use Rattle.wi_query.proofs.Marks.{between_pair}

-- ---- whether both ends have some link

pub some_between : (net : Net) (ends : Ends) (x : ℕ) → x < length net.links → is_between net ends x ≡ true → has_link net ends ≡ true
some_between net ends x low h = any_in (λ e. is_between net ends e.0) (all_links net) (record { 0 = x }) (has-all_links net (record { 0 = x }) ∙ lt-ltb x (length net.links) low) h

pub none_between : (net : Net) (ends : Ends) → ((k : ℕ) → k < length net.links → is_between net ends k ≡ false) → has_link net ends ≡ false
none_between net ends none = false_from_ne_true (has_link net ends) (λ h.
    (let found = in_any (λ e. is_between net ends e.0) (all_links net) h in
    let low : (found.0).0 < length net.links = ltb-true (found.0).0 (length net.links) (sym (has-all_links net found.0) ∙ found.1) in
    let no : is_between net ends (found.0).0 ≡ false = none (found.0).0 low in
    let is = found.2 in cc))

-- an end that stands for one link has no other
one_at : (m : EndMeant) (r : RouterId) (x : ℕ) (link : LinkId) → one_by m ≡ Some link → is_at m r x ≡ true → link.0 ≡ x
one_at meant.Any r x link is h = cc
one_at (meant.At id) r x link is h = cc
one_at (meant.By e) r x link is h = let same : e ≡ link = cc in ap (λ (l : LinkId). l.0) (sym same) ∙ eqb-true e.0 x h

of_either : (a b : Option LinkId) (link : LinkId) → ◌≡◌ {A = Option LinkId} (elim a [ Some l ↦ Some l | None ↦ b ]) (Some link) → (a ≡ Some link) ⊎ (b ≡ Some link)
of_either (Some l) b link e = inl e
of_either None b link e = inr e

only_one : (net : Net) (ends : Ends) (link : LinkId) (x : ℕ) → one_between ends ≡ Some link → is_between net ends x ≡ true → link.0 ≡ x
only_one net ends link x is h = go (slice_get net.links x) h
  where
    at_end : (l : Link) → (one_by ends.source ≡ Some link) ⊎ (one_by ends.target ≡ Some link) → is_at ends.source l.from x ≡ true → is_at ends.target l.to x ≡ true → link.0 ≡ x
    at_end l (inl s) hs ht = one_at ends.source l.from x link s hs
    at_end l (inr t) hs ht = one_at ends.target l.to x link t ht

    go : (o : Option Link) → option_map_or (λ (l : Link). is_at ends.source l.from x && is_at ends.target l.to x) o false ≡ true → link.0 ≡ x
    go None e = cc
    go (Some l) e = let parts = and_parts (is_at ends.source l.from x) (is_at ends.target l.to x) e in at_end l (of_either (one_by ends.source) (one_by ends.target) link is) parts.0 parts.1

-- so this link alone tells whether there is one
pub one_tells : (net : Net) (ends : Ends) (link : LinkId) (o : Option LinkId) (b : Bool) → o ≡ one_between ends → o ≡ Some link → link.0 < length net.links → b ≡ is_between net ends link.0 → b ≡ has_link net ends
one_tells net ends link o b e is low told = go b told
  where
    go : (b : Bool) → b ≡ is_between net ends link.0 → b ≡ has_link net ends
    go true h = sym (some_between net ends link.0 low (sym h))
    go false h = sym (none_between net ends (λ k below. false_from_ne_true (is_between net ends k) (λ t.
        (let same : link.0 ≡ k = only_one net ends link k (sym e ∙ is) t in
        let again : is_between net ends link.0 ≡ true = ap (is_between net ends) same ∙ t in cc))))

-- ---- whether a pair means a link

abbrev is_none : List LinkId → Bool
is_none s = elim s [ [] ↦ true | (e ∷ more) ↦ false ]

none_passes : (p : LinkId → Bool) (s : List LinkId) → is_none (filter p s) ≡ not (list_any p s)
none_passes p [] = refl
none_passes p (x ∷ s) = go (p x) refl (none_passes p s)
  where
    go : (b : Bool) → p x ≡ b → is_none (filter p s) ≡ not (list_any p s) → is_none (filter p (x ∷ s)) ≡ not (list_any p (x ∷ s))
    go true e ih = rw e refl
    go false e ih = rw e ih

pub known_linkless : (net : Net) (pair : Pair) (ends : Ends) (o : Option Ends) (any b : Bool) → o ≡ ends_meant net pair → o ≡ Some ends → any ≡ has_link net ends → b ≡ not any → b ≡ is_linkless net pair
known_linkless net pair ends o any b e is found told =
    told ∙ ap not found ∙ sym (none_passes (λ d. is_between net ends d.0) (all_links net))
    ∙ ap is_none (filter_same (λ d. is_between net ends d.0) (λ d. is_link_between net pair d.0) (all_links net)
    (λ d h. between_pair net pair ends d.0 (ltb-true d.0 (length net.links) (sym (has-all_links net d) ∙ h)) (sym e ∙ is)))

-- no link has an end whose names the network hasn't
no_router : (net : Net) (name : Named) (links : Option Link) (pick : Link → RouterId) → find_router net name.text ≡ None → option_map_or (λ l. is_router_named net name (pick l)) links false ≡ false
no_router net name None pick e = refl
no_router net name (Some l) pick e = rw e refl

maps_none : {X Y : Type 0} (f : X → Y) (o : Option X) → option_map f o ≡ None → o ≡ None
maps_none f None e = refl
maps_none f (Some x) e = cc

no_interface : (net : Net) (find : RouterId → List ℕ → Option LinkId) (router interface : Named) (x : ℕ) → option_and_then (λ id. find id interface.text) (find_router net router.text) ≡ None → is_interface_named net find router interface x ≡ false
no_interface net find router interface x e = rw e refl

no_source : (net : Net) (end : End) (x : ℕ) → end_meant net (find_out net) end ≡ None → comes_from net end x ≡ false
no_source net (end.Any at) x e = cc
no_source net (end.Router router) x e = no_router net router (slice_get net.links x) (λ l. l.from) (maps_none meant.At (find_router net router.text) e)
no_source net (end.Interface router interface) x e = no_interface net (find_out net) router interface x (maps_none meant.By _ e)

no_target : (net : Net) (end : End) (x : ℕ) → end_meant net (find_in net) end ≡ None → goes_to net end x ≡ false
no_target net (end.Any at) x e = cc
no_target net (end.Router router) x e = no_router net router (slice_get net.links x) (λ l. l.to) (maps_none meant.At (find_router net router.text) e)
no_target net (end.Interface router interface) x e = no_interface net (find_in net) router interface x (maps_none meant.By _ e)

no_ends : (net : Net) (pair : Pair) (x : ℕ) (a b : Option EndMeant) → end_meant net (find_out net) pair.from ≡ a → end_meant net (find_in net) pair.to ≡ b
    → ◌≡◌ {A = Option Ends} (option_and_then (λ source. option_map (λ target. record { source = source; target = target }) b) a) None → is_link_between net pair x ≡ false
no_ends net pair x None b ea eb e = ap (λ z. z && goes_to net pair.to x) (no_source net pair.from x ea)
no_ends net pair x (Some s) None ea eb e = ap (λ z. comes_from net pair.from x && z) (no_target net pair.to x eb) ∙ and_no (comes_from net pair.from x)
  where
    and_no : (b : Bool) → (b && false) ≡ false
    and_no true = refl
    and_no false = refl
no_ends net pair x (Some s) (Some t) ea eb e = cc

none_kept : (s : List LinkId) → is_none (filter (λ e. false) s) ≡ true
none_kept [] = refl
none_kept (x ∷ s) = none_kept s

pub unknown_linkless : (net : Net) (pair : Pair) (o : Option Ends) → o ≡ ends_meant net pair → o ≡ None → true ≡ is_linkless net pair
unknown_linkless net pair o e is =
    sym (ap is_none (filter_same (λ d. is_link_between net pair d.0) (λ d. false) (all_links net) (λ d h. no_ends net pair d.0 (end_meant net (find_out net) pair.from) (end_meant net (find_in net) pair.to) refl refl (sym e ∙ is)))
    ∙ none_kept (all_links net))

-- ---- the first of some pairs that means no link

pub linkless_found : (net : Net) (pairs : List Pair) (i : ℕ) (pair : Pair) (at : ℕ) (o : Option ℕ) → linkless_at net (drop i pairs) ≡ o → slice_get pairs i ≡ Some pair → is_linkless net pair ≡ true → at ≡ pair_at pair → Some at ≡ o
linkless_found net pairs i pair at o is e lacks begins = ap Some begins ∙ sym (ap (linkless_at net) (left_at pairs i pair e) ∙ ap (λ z. option_map pair_at (cond z (Some pair) (find (is_linkless net) (drop (i + 1) pairs)))) lacks) ∙ is

pub linkless_passed : (net : Net) (pairs : List Pair) (i : ℕ) (pair : Pair) (o : Option ℕ) → linkless_at net (drop i pairs) ≡ o → slice_get pairs i ≡ Some pair → is_linkless net pair ≡ false → linkless_at net (drop (i + 1) pairs) ≡ o
linkless_passed net pairs i pair o is e lacks = sym (ap (linkless_at net) (left_at pairs i pair e) ∙ ap (λ z. option_map pair_at (cond z (Some pair) (find (is_linkless net) (drop (i + 1) pairs)))) lacks) ∙ is

-- of two lists of pairs
abbrev or_else : Option ℕ → Option ℕ → Option ℕ
or_else (Some at) o = Some at
or_else None o = o

linkless_both : (net : Net) (a b : List Pair) → linkless_at net (a ++ b) ≡ or_else (linkless_at net a) (linkless_at net b)
linkless_both net [] b = refl
linkless_both net (pair ∷ a) b = go (is_linkless net pair) (linkless_both net a b)
  where
    go : (z : Bool) → linkless_at net (a ++ b) ≡ or_else (linkless_at net a) (linkless_at net b)
        → option_map pair_at (cond z (Some pair) (find (is_linkless net) (a ++ b))) ≡ or_else (option_map pair_at (cond z (Some pair) (find (is_linkless net) a))) (linkless_at net b)
    go true ih = refl
    go false ih = ih

pub linkless_first : (net : Net) (a b : List Pair) (at : ℕ) → linkless_at net a ≡ Some at → linkless_at net (a ++ b) ≡ Some at
linkless_first net a b at e = linkless_both net a b ∙ ap (λ o. or_else o (linkless_at net b)) e

pub linkless_after : (net : Net) (a b : List Pair) → linkless_at net a ≡ None → linkless_at net (a ++ b) ≡ linkless_at net b
linkless_after net a b e = linkless_both net a b ∙ ap (λ o. or_else o (linkless_at net b)) e

-- sign by sign
pub sign_found : (net : Net) (signs : List (Sign LinkAtom)) (i : ℕ) (sign : Sign LinkAtom) (found o : Option ℕ) (at : ℕ) → linkless_at net (flat_map pairs_in_sign (drop i signs)) ≡ o → slice_get signs i ≡ Some sign
    → found ≡ linkless_at net (pairs_in_sign sign) → found ≡ Some at → Some at ≡ o
sign_found net signs i sign found o at is e told some =
    sym (linkless_first net (pairs_in_sign sign) (flat_map pairs_in_sign (drop (i + 1) signs)) at (sym told ∙ some))
    ∙ sym (ap (λ s. linkless_at net (flat_map pairs_in_sign s)) (left_at signs i sign e)) ∙ is

pub sign_passed : (net : Net) (signs : List (Sign LinkAtom)) (i : ℕ) (sign : Sign LinkAtom) (found o : Option ℕ) → linkless_at net (flat_map pairs_in_sign (drop i signs)) ≡ o → slice_get signs i ≡ Some sign
    → found ≡ linkless_at net (pairs_in_sign sign) → found ≡ None → linkless_at net (flat_map pairs_in_sign (drop (i + 1) signs)) ≡ o
sign_passed net signs i sign found o is e told none =
    sym (linkless_after net (pairs_in_sign sign) (flat_map pairs_in_sign (drop (i + 1) signs)) (sym told ∙ none))
    ∙ sym (ap (λ s. linkless_at net (flat_map pairs_in_sign s)) (left_at signs i sign e)) ∙ is

-- part by part of a query
module _ (net : Net) (w : Written) (path : List (Sign LinkAtom)) (same : path ≡ w.path) (in_path : Option ℕ) (told : in_path ≡ linkless_at net (flat_map pairs_in_sign path)) where
  path_told : linkless_at net (flat_map pairs_in_sign w.path) ≡ in_path
  path_told = ap (λ s. linkless_at net (flat_map pairs_in_sign s)) (sym same) ∙ sym told

  pub path_first : (at : ℕ) → in_path ≡ Some at → Some at ≡ option_map pair_at (first_linkless net w)
  path_first at some = sym (linkless_first net (flat_map pairs_in_sign w.path) (pairs_in_known w.down ++ pairs_in_known w.up) at (path_told ∙ some))

  pub down_first : (in_down : Option ℕ) (at : ℕ) → in_path ≡ None → in_down ≡ linkless_at net (pairs_in_known w.down) → in_down ≡ Some at → Some at ≡ option_map pair_at (first_linkless net w)
  down_first in_down at none down some =
      sym (linkless_after net (flat_map pairs_in_sign w.path) (pairs_in_known w.down ++ pairs_in_known w.up) (path_told ∙ none)
      ∙ linkless_first net (pairs_in_known w.down) (pairs_in_known w.up) at (sym down ∙ some))

  pub up_last : (in_down in_up : Option ℕ) → in_path ≡ None → in_down ≡ linkless_at net (pairs_in_known w.down) → in_down ≡ None → in_up ≡ linkless_at net (pairs_in_known w.up) → in_up ≡ option_map pair_at (first_linkless net w)
  up_last in_down in_up none down none_down up =
      up ∙ sym (linkless_after net (flat_map pairs_in_sign w.path) (pairs_in_known w.down ++ pairs_in_known w.up) (path_told ∙ none)
      ∙ linkless_after net (pairs_in_known w.down) (pairs_in_known w.up) (sym down ∙ none_down))

-- ---- strict queries

pub strict_query : (net : Net) (text : List ℕ) (w : Written) (query : Query) (told : Option ℕ) → IsShort text w → ((t : List ℕ) → IsShort t w → IsQuery net t query) → told ≡ option_map pair_at (first_linkless net w) → told ≡ None → IsStrictQuery net text query
strict_query net text w query told short is e none =
    let q = is text short in
    (q, ap (first_linkless net) (one_way text q.written w q.reads short.reads) ∙ maps_none pair_at (first_linkless net w) (sym e ∙ none))

pub no_link : (net : Net) (text : List ℕ) (w : Written) (query : Query) (told : Option ℕ) (at : ℕ) → IsShort text w → ((t : List ℕ) → IsShort t w → IsQuery net t query) → told ≡ option_map pair_at (first_linkless net w) → told ≡ Some at → IsStrictFault net text (NoLink at)
no_link net text w query told at short is e some =
    let q = is text short in
    (query, q, ap (λ z. option_map pair_at (first_linkless net z)) (one_way text q.written w q.reads short.reads) ∙ sym e ∙ some)
