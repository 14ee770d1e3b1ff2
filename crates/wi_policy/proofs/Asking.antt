-- A query that is asked is the policy's, and what is known of its links is in whole risk groups.
use Rattle.std.proofs.Common.{◌≡◌, Bool, true, false, ◌&&◌, ◌||◌, nat_eq, nat_lt, List, [], ◌∷◌, None, ℕ, refl, sym, ap, subst, ◌∙◌}
use Rattle.std.specs.List.{list_any}
use Rattle.wi_net.specs.declared.parts.LinkId.{LinkId}
use Rattle.wi_net.specs.declared.bounds.Bounds.{Bounds}
use Rattle.wi_net.specs.LinkSet.{has, is_rising, with_link}
use Rattle.wi_net.specs.RiskGroups.{union}
use Rattle.wi_net.specs.Net.{Net, is_link, same_risk, widened}
use Rattle.wi_net.proofs.SetLemmas.{has-links_where, same_link}
use Rattle.wi_net.proofs.RisingLemmas.{rising_same}
use Rattle.wi_net.proofs.WidenLemmas.{has-union, or_assoc, or_comm, union_keeps_rising, union_rising}
use Rattle.wi_world.specs.Moves.{AreBounds}
use Rattle.wi_syntax.proofs.Texts.{one_way}
use Rattle.wi_query.specs.declared.query.Query.{Query}
use Rattle.wi_query.specs.Meaning.{IsQuery, MayDropAny}
use Rattle.wi_query.specs.Linked.{first_linkless}
use Rattle.wi_query.proofs.Alike.{same_bounds}
use Rattle.wi_query.proofs.LinkSets.{apart_from_none}
use Rattle.wi_policy.specs.Policies.{joined, torn, IsAskable, IsAsked}
use Rattle.wi_policy.specs.private.Reading.{within_given}

-- ---- unions of whole risk groups

any_with : (p : LinkId → Bool) (s : List LinkId) (l : LinkId) → list_any p (with_link s l) ≡ (list_any p s || p l)
any_with p [] l = or_comm (p l) false
any_with p (x ∷ s) l = go (nat_lt l.0 x.0) (nat_eq x.0 l.0) refl refl (any_with p s l)
  where
    or_again : (a b : Bool) → (a || b) ≡ ((a || b) || a)
    or_again true b = refl
    or_again false b = or_comm false b

    go : (b c : Bool) → nat_lt l.0 x.0 ≡ b → nat_eq x.0 l.0 ≡ c → list_any p (with_link s l) ≡ (list_any p s || p l) → list_any p (with_link (x ∷ s) l) ≡ (list_any p (x ∷ s) || p l)
    go true c eb ec below = rw eb (or_comm (p l) (p x || list_any p s))
    go false true eb ec below = rw (eb, ec) (or_again (p x) (list_any p s) ∙ ap (λ y. (p x || list_any p s) || p y) (same_link x l ec))
    go false false eb ec below = rw (eb, ec) (ap (λ b. p x || b) below ∙ or_assoc (p x) (list_any p s) (p l))

any_union : (p : LinkId → Bool) (s es : List LinkId) → list_any p (union s es) ≡ (list_any p s || list_any p es)
any_union p s [] = or_comm false (list_any p s)
any_union p s (e ∷ es) = any_union p (with_link s e) es ∙ ap (λ b. b || list_any p es) (any_with p s e) ∙ sym (or_assoc (list_any p s) (p e) (list_any p es))

whole_rising : (net : Net) (s : List LinkId) → widened net s ≡ s → is_rising s ≡ true
whole_rising net s whole = ap is_rising (sym whole) ∙ union_rising (λ e. list_any (λ d. same_risk net d e) s) _

has_whole : (net : Net) (s : List LinkId) (e : LinkId) → widened net s ≡ s → (is_link net e && list_any (λ d. same_risk net d e) s) ≡ has s e
has_whole net s e whole = sym (has-links_where net (λ x. list_any (λ d. same_risk net d x) s) e) ∙ ap (λ t. has t e) whole

union_whole : (net : Net) (s t : List LinkId) → widened net s ≡ s → widened net t ≡ t → widened net (union s t) ≡ union s t
union_whole net s t ws wt = rising_same (widened net (union s t)) (union s t) (union_rising (λ e. list_any (λ d. same_risk net d e) (union s t)) _) (union_keeps_rising s t (whole_rising net s ws)) same
  where
    spread : (l a b : Bool) → (l && (a || b)) ≡ ((l && a) || (l && b))
    spread true a b = refl
    spread false a b = refl

    same : (e : LinkId) → has (widened net (union s t)) e ≡ has (union s t) e
    same e =
        let p : LinkId → Bool = λ d. same_risk net d e in
        has-links_where net (λ x. list_any (λ d. same_risk net d x) (union s t)) e
        ∙ ap (λ b. is_link net e && b) (any_union p s t)
        ∙ spread (is_link net e) (list_any p s) (list_any p t)
        ∙ ap (λ b. b || (is_link net e && list_any p t)) (has_whole net s e ws)
        ∙ ap (λ b. has s e || b) (has_whole net t e wt)
        ∙ sym (has-union s t e)

joined_bounds : (net : Net) (bounds given : Bounds) → AreBounds net bounds → AreBounds net given → torn (joined bounds given) ≡ None → AreBounds net (joined bounds given)
joined_bounds net bounds given b g whole = record {
  down = union_whole net bounds.down given.down b.down g.down;
  up = union_whole net bounds.up given.up b.up g.up;
  apart = apart_from_none (union bounds.down given.down) (union bounds.up given.up) whole;
}

-- ---- a text that can be asked can be asked as it is read again

pub askable_again : (net : Net) (given : Bounds) (text : List ℕ) (q r : Query) → IsAskable net given text q → IsQuery net text r → IsAskable net given text r
askable_again net given text q r a is = record {
  reads = (is, ap (first_linkless net) (one_way text is.written a.reads.0.written is.reads a.reads.0.reads) ∙ a.reads.1);
  whole = ap (λ (b : Bounds). torn (joined b given)) (same_bounds net text r q is a.reads.0) ∙ a.whole;
}

pub is_asked : (net : Net) (given : Bounds) (text shown : List ℕ) (askable : (q : Query) × IsAskable net given text q) (r asked : Query) → shown ≡ text → IsQuery net shown r → asked ≡ within_given given r → IsAsked net given text asked
is_asked net given text shown askable r asked same is made = record {
  query = r;
  askable = askable_again net given text askable.0 r askable.1 (subst (λ t. IsQuery net t r) same is);
  is = made;
}

pub keeps_bounds : (net : Net) (given : Bounds) (text shown : List ℕ) (askable : (q : Query) × IsAskable net given text q) (r asked : Query) → AreBounds net given → shown ≡ text → IsQuery net shown r → asked ≡ within_given given r
    → AreBounds net asked.bounds × MayDropAny net asked
keeps_bounds net given text shown askable r asked bounds same is made =
    let again : IsAskable net given text r = askable_again net given text askable.0 r askable.1 (subst (λ t. IsQuery net t r) same is) in
    subst (λ (x : Query). AreBounds net x.bounds × MayDropAny net x) (sym made) (joined_bounds net r.bounds given is.keeps.bounds bounds again.whole, is.keeps.any_last)
