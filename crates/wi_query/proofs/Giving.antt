-- Links that are known, read behind a query's front.
use Rattle.std.proofs.Common.{◌≡◌, ℕ, ◌+◌, ◌-◌, ◌≤◌, Bool, true, false, List, [], ◌∷◌, ◌++◌, length, Option, Some, None, refl, sym, ap, ◌∙◌, subst, arith}
use Rattle.std.specs.Prelude.{cond, is_some, string_bytes}
use Rattle.std.specs.List.{find, flat_map}
use Rattle.std.specs.Option.{option_map}
use Rattle.wi_net.specs.declared.bounds.Bounds.{Bounds}
use Rattle.wi_net.specs.declared.parts.RouterId.{RouterId}
use Rattle.wi_net.specs.declared.parts.LinkId.{LinkId}
use Rattle.wi_net.specs.LinkSet.{has}
use Rattle.wi_net.specs.Net.{Net, widened}
use Rattle.wi_net.specs.Finding.{find_router, find_out, find_in}
use Rattle.wi_text.specs.Prefixes.{IsFaultAt}
use Rattle.wi_syntax.specs.Atoms.{end_at, pair_at}
use Rattle.wi_syntax.specs.Names.{Named}
use Rattle.wi_syntax.specs.Grammar.{IsQueryText}
use Rattle.wi_syntax.specs.Refusals.{IsUnread}
use Rattle.wi_syntax.specs.declared.reader.SyntaxRefused.{SyntaxRefused}
use Rattle.wi_syntax.specs.declared.reader.SyntaxRefused.TheVariants.{Stops}
use Rattle.wi_syntax.specs.declared.written.End.{End}
use Rattle.wi_syntax.specs.declared.written.End.TheVariants as end
use Rattle.wi_syntax.specs.declared.written.Pair.{Pair}
use Rattle.wi_syntax.specs.declared.written.Known.{Known}
use Rattle.wi_syntax.specs.declared.written.Written.{Written}
use Rattle.wi_syntax.specs.private.Behind.{IsEndFrom, ArePairsFrom, IsKnownFrom, IsBehind}
use Rattle.wi_syntax.proofs.Fronts.{front_is_query}
use Rattle.wi_query.specs.Unknown.{Kind, ALabel, ARouter, AnInterface, Unknown, unless, unknown_in_end, unknown_in_pair, unknown_in_known, unknown_in}
use Rattle.wi_query.specs.Meaning.{known_links}
use Rattle.wi_query.specs.Linked.{is_linkless, pairs_in_known, pairs_in, first_linkless}
use Rattle.wi_query.specs.Given.{front, IsGivenText, IsShortGiven, first_shared, IsGiven, IsGivenFault}
use Rattle.wi_query.specs.private.Names.{IsFirst}
use Rattle.wi_query.specs.private.Giving.{IsFar, counted, IsFirstBehind, IsWrongGiven, AreGiven}
use Rattle.wi_query.specs.declared.fault.QueryFault.{QueryFault}
use Rattle.wi_query.specs.declared.fault.QueryFault.TheVariants.{Memory, UnknownLabel, UnknownRouter, UnknownInterface, DownAndUp}
use Rattle.wi_query.specs.declared.strict.StrictFault.{StrictFault}
use Rattle.wi_query.specs.declared.strict.StrictFault.TheVariants.{InQuery, NoLink}
use Rattle.wi_query.proofs.Behind.{not_in_front, fault_behind}
use Rattle.wi_query.proofs.LinkSets.{apart_from_none}
use Rattle.wi_query.proofs.Queries.{known_union}

-- ---- names

-- a name of a pair is no label's, and stands behind the front
abbrev IsPairName : Unknown → Type 0
IsPairName (ALabel, name) = ⊥
IsPairName (ARouter, name) = length front ≤ name.at
IsPairName (AnInterface, name) = length front ≤ name.at

abbrev ArePairNames : List Unknown → Type 0
ArePairNames [] = Unit {0}
ArePairNames (name ∷ names) = IsPairName name × ArePairNames names

both_names : (us vs : List Unknown) → ArePairNames us → ArePairNames vs → ArePairNames (us ++ vs)
both_names [] vs h k = k
both_names (u ∷ us) vs h k = (h.0, both_names us vs h.1 k)

one_name : (known : Bool) (kind : Kind) (name : Named) → IsPairName (kind, name) → ArePairNames (unless known kind name)
one_name true kind name h = tt
one_name false kind name h = (h, tt)

end_names : (net : Net) (find : RouterId → List ℕ → Option LinkId) (e : End) → IsEndFrom (length front) e → ArePairNames (unknown_in_end net find e)
end_names net find (end.Any at) h = tt
end_names net find (end.Router router) h = one_name (is_some (find_router net router.text)) ARouter router h
end_names net find (end.Interface router interface) h = go (find_router net router.text)
  where
    go : (o : Option RouterId) → ArePairNames (elim o [ None ↦ (ARouter, router) ∷ [] | Some id ↦ unless (is_some (find id interface.text)) AnInterface interface ])
    go None = (h.0, tt)
    go (Some id) = one_name (is_some (find id interface.text)) AnInterface interface h.1

pairs_names : (net : Net) (pairs : List Pair) → ArePairsFrom (length front) pairs → ArePairNames (flat_map (unknown_in_pair net) pairs)
pairs_names net [] h = tt
pairs_names net (pair ∷ pairs) h =
    both_names (unknown_in_pair net pair) (flat_map (unknown_in_pair net) pairs)
    (both_names (unknown_in_end net (find_out net) pair.from) (unknown_in_end net (find_in net) pair.to) (end_names net (find_out net) pair.from h.0) (end_names net (find_in net) pair.to h.1))
    (pairs_names net pairs h.2)

known_names : (net : Net) (known : Option Known) → IsKnownFrom (length front) known → ArePairNames (unknown_in_known net known)
known_names net None h = tt
known_names net (Some known) h = pairs_names net known.pairs h

-- so the first that isn't known does
pub first_far : (net : Net) (known : Option Known) (f : QueryFault) → IsKnownFrom (length front) known → IsFirst (unknown_in_known net known) f → IsFar f
first_far net known (UnknownRouter at text) from h = (subst ArePairNames h.2 (known_names net known from)).0
first_far net known (UnknownInterface at text) from h = (subst ArePairNames h.2 (known_names net known from)).0
first_far net known f from h = tt

counted_again : (at : ℕ) → length front ≤ at → at ≡ length front + (at - length front)
counted_again at low = omega arith

pub first_behind : (net : Net) (known : Option Known) (f shown : QueryFault) → shown ≡ counted f → IsKnownFrom (length front) known → IsFirst (unknown_in_known net known) f → IsFirstBehind (unknown_in_known net known) shown
first_behind net known f shown e from h = subst (IsFirstBehind (unknown_in_known net known)) (sym e) (go f h)
  where
    moved : (kind : Kind) (at : ℕ) (text : List ℕ) → ((quoted : Bool) × (rest : List Unknown) × (unknown_in_known net known ≡ (kind, record { at = at; quoted = quoted; text = text }) ∷ rest)) → length front ≤ at
        → (quoted : Bool) × (rest : List Unknown) × (unknown_in_known net known ≡ (kind, record { at = length front + (at - length front); quoted = quoted; text = text }) ∷ rest)
    moved kind at text h low =
        let told : ℕ → List Unknown = λ z. (kind, record { at = z; quoted = h.0; text = text }) ∷ h.1 in
        (h.0, h.1, h.2 ∙ ap told (counted_again at low))

    go : (f : QueryFault) → IsFirst (unknown_in_known net known) f → IsFirstBehind (unknown_in_known net known) (counted f)
    go Memory h = tt
    go (UnknownLabel at text) h = absurd ((subst ArePairNames h.2 (known_names net known from)).0)
    go (UnknownRouter at text) h = moved ARouter at (string_bytes text) h (first_far net known (UnknownRouter at text) from h)
    go (UnknownInterface at text) h = moved AnInterface at (string_bytes text) h (first_far net known (UnknownInterface at text) from h)
    go f h = absurd h

-- ---- all names of the lists

names_of : (net : Net) (w : Written) → IsBehind (length front) w → unknown_in net w ≡ unknown_in_known net w.down ++ unknown_in_known net w.up
names_of net w h = rw (h.first, h.path, h.last) refl

pub down_refused : (net : Net) (w : Written) (f : QueryFault) → IsBehind (length front) w → IsFirstBehind (unknown_in_known net w.down) f → IsWrongGiven net w (InQuery f)
down_refused net w Memory b h = tt
down_refused net w (UnknownRouter at text) b h = (h.0, h.1 ++ unknown_in_known net w.up, names_of net w b ∙ ap (λ (s : List Unknown). s ++ unknown_in_known net w.up) h.2)
down_refused net w (UnknownInterface at text) b h = (h.0, h.1 ++ unknown_in_known net w.up, names_of net w b ∙ ap (λ (s : List Unknown). s ++ unknown_in_known net w.up) h.2)
down_refused net w f b h = absurd h

-- ---- pairs

end_low : (n : ℕ) (e : End) → IsEndFrom n e → n ≤ end_at e
end_low n (end.Any at) h = h
end_low n (end.Router router) h = h
end_low n (end.Interface router interface) h = h.0

found_from : (n : ℕ) (p : Pair → Bool) (pairs : List Pair) (at : ℕ) → ArePairsFrom n pairs → option_map pair_at (find p pairs) ≡ Some at → n ≤ at
found_from n p [] at h e = cc
found_from n p (pair ∷ pairs) at h e = go (p pair) e (λ f. found_from n p pairs at h.2 f)
  where
    go : (b : Bool) → option_map pair_at (cond b (Some pair) (find p pairs)) ≡ Some at → (option_map pair_at (find p pairs) ≡ Some at → n ≤ at) → n ≤ at
    go true e ih = (let is : pair_at pair ≡ at = cc in subst (λ z. n ≤ z) is (end_low n pair.from h.0))
    go false e ih = ih e

both_from : (n : ℕ) (a b : List Pair) → ArePairsFrom n a → ArePairsFrom n b → ArePairsFrom n (a ++ b)
both_from n [] b h k = k
both_from n (pair ∷ a) b h k = (h.0, h.1, both_from n a b h.2 k)

pairs_from : (n : ℕ) (known : Option Known) → IsKnownFrom n known → ArePairsFrom n (pairs_in_known known)
pairs_from n None h = tt
pairs_from n (Some known) h = h

pairs_of : (w : Written) → IsBehind (length front) w → pairs_in w ≡ pairs_in_known w.down ++ pairs_in_known w.up
pairs_of w h = rw h.path refl

pub far_pair : (net : Net) (w : Written) (at : ℕ) → IsBehind (length front) w → Some at ≡ option_map pair_at (first_linkless net w) → length front ≤ at
far_pair net w at b e =
    found_from (length front) (is_linkless net) (pairs_in_known w.down ++ pairs_in_known w.up) at
    (both_from (length front) (pairs_in_known w.down) (pairs_in_known w.up) (pairs_from (length front) w.down b.down) (pairs_from (length front) w.up b.up))
    (ap (λ s. option_map pair_at (find (is_linkless net) s)) (sym (pairs_of w b)) ∙ sym e)

pub pair_told : (net : Net) (w : Written) (at : ℕ) → IsBehind (length front) w → Some at ≡ option_map pair_at (first_linkless net w) → option_map pair_at (first_linkless net w) ≡ Some (length front + (at - length front))
pair_told net w at b e = sym e ∙ ap Some (counted_again at (far_pair net w at b e))

pub shared_same : (net : Net) (w : Written) (down up : List LinkId) → down ≡ known_links net w.down → up ≡ known_links net w.up → find (λ d. has up d) down ≡ first_shared net w
shared_same net w down up d u = rw (d, u) refl

-- ---- bounds, and what is wrong with them

pub given_is : (net : Net) (text : List ℕ) (w : Written) (bounds : Bounds) → IsShortGiven text w → AreGiven net w bounds → IsGiven net text bounds
given_is net text w bounds short given = record {
  short = short.short;
  written = w;
  reads = short.reads;
  known = given.known;
  k = given.k;
  down = given.down;
  up = given.up;
  keeps = record {
    down = ap (λ s. widened net s) given.down ∙ known_union net w.down ∙ sym given.down;
    up = ap (λ s. widened net s) given.up ∙ known_union net w.up ∙ sym given.up;
    apart = rw (given.down, given.up) (apart_from_none (known_links net w.down) (known_links net w.up) given.apart);
  };
  linked = given.linked;
}

pub given_fault : (net : Net) (text : List ℕ) (w : Written) (f : StrictFault) → IsShortGiven text w → IsWrongGiven net w f → IsGivenFault net text f
given_fault net text w (InQuery Memory) short h = tt
given_fault net text w (InQuery (UnknownRouter at name)) short h = (w, short, h.0, h.1, h.2)
given_fault net text w (InQuery (UnknownInterface at name)) short h = (w, short, h.0, h.1, h.2)
given_fault net text w (InQuery (DownAndUp e)) short h = (w, short, h.0, h.1)
given_fault net text w (InQuery f) short h = absurd h
given_fault net text w (NoLink at) short h = (w, short, h.0, h.1, h.2)

-- ---- where a text stops

unread_at : (whole : List ℕ) (why : SyntaxRefused) (k : ℕ) → why ≡ Stops k → IsUnread whole why → IsFaultAt IsQueryText whole k
unread_at whole why k is h = subst (IsUnread whole) is h

pub stops_behind : (text whole : List ℕ) (why : SyntaxRefused) (k : ℕ) → whole ≡ front ++ text → why ≡ Stops k → IsUnread whole why → length front ≤ k
stops_behind text whole why k is at h = not_in_front IsQueryText front text k front_is_query (subst (λ z. IsFaultAt IsQueryText z k) is (unread_at whole why k at h))

pub syntax_behind : (text whole : List ℕ) (why : SyntaxRefused) (k : ℕ) → whole ≡ front ++ text → why ≡ Stops k → IsUnread whole why → IsFaultAt IsGivenText text (k - length front)
syntax_behind text whole why k is at h =
    fault_behind IsQueryText front text k (k - length front) (counted_again k (stops_behind text whole why k is at h)) (subst (λ z. IsFaultAt IsQueryText z k) is (unread_at whole why k at h))
