-- The sets of a branch, and its children.
use Rattle.std.proofs.Common.{◌≡◌, ◌+◌, ◌-◌, true, false, ◌||◌, List, refl, arith, inl, inr, sym, ◌∙◌}
use Rattle.std.proofs.lemmas.Bool.{leb-true, le-leb, and_parts, and_from, or_cases, or_left, or_right, false_from_ne_true, true≢false}
use Rattle.wi_net.specs.declared.parts.LinkId.{LinkId}
use Rattle.wi_net.specs.declared.bounds.Bounds.{Bounds}
use Rattle.wi_net.specs.LinkSet.{has, is_within, is_apart, outside}
use Rattle.wi_net.specs.Net.{Net, is_link, same_risk, widened, risk_count, with_risk}
use Rattle.wi_net.specs.Network.{IsNetwork}
use Rattle.wi_net.proofs.SetLemmas.{has_where, where_has, union_has, union_link, within_has, within_from, apart_has, apart_from, same_risk_self, same_risk_flip}
use Rattle.wi_net.proofs.CountLemmas.{count_beyond, count_more, outside_self}
use Rattle.wi_world.specs.Moves.{IsAllowed, AreBounds}
use Rattle.wi_world.proofs.Allowed.{with_union}
use Rattle.wi_trees.specs.Branches.{IsBranch, IsBranchSet, CanSplit, with_down, with_up}
use Rattle.wi_trees.proofs.CountParts.{count_parts}

-- sets within each other, and apart
within_self : (s : List LinkId) → is_within s s ≡ true
within_self s = within_from s s (λ e h. h)

within_trans : (s t u : List LinkId) → is_within s t ≡ true → is_within t u ≡ true → is_within s u ≡ true
within_trans s t u st tu = within_from s u (λ e h. within_has t u e tu (within_has s t e st h))

apart_within : (s t u : List LinkId) → is_within t u ≡ true → is_apart s u ≡ true → is_apart s t ≡ true
apart_within s t u tu su =
    apart_from s t (λ e h. false_from_ne_true (has t e) (λ i. true≢false (sym (within_has t u e tu i) ∙ apart_has s u e su h)))

apart_flip : (s t : List LinkId) → is_apart s t ≡ true → is_apart t s ≡ true
apart_flip s t h = apart_from t s (λ e i. false_from_ne_true (has s e) (λ j. true≢false (sym i ∙ apart_has s t e h j)))

pub out_within : (s t : List LinkId) (e : LinkId) → is_within s t ≡ true → has t e ≡ false → has s e ≡ false
out_within s t e st no_t = false_from_ne_true (has s e) (λ h. true≢false (sym (within_has s t e st h) ∙ no_t))

pub outside_nothing : (net : Net) (s : List LinkId) → risk_count net (outside s s) ≡ 0
outside_nothing net s = rw (outside_self s) refl

pub root : (net : Net) (whole : Bounds) → AreBounds net whole → IsBranch net whole whole
root net whole kw = record {
  bounds = kw;
  down = within_self whole.down;
  up = within_self whole.up;
  left = rw (outside_nothing net whole.down) (omega arith);
}

-- of a set with all that is down in a branch, the risk groups that failed are those down there, and the others
pub split_count : (net : Net) (whole branch : Bounds) (s : List LinkId) → IsBranch net whole branch → widened net s ≡ s
    → is_within branch.down s ≡ true
    → risk_count net (outside s whole.down) + branch.k ≡ risk_count net (outside s branch.down) + whole.k
split_count net whole branch s b u w =
    let parts = count_parts net s branch.down whole.down u b.bounds.down b.down w in
    omega (arith, parts, b.left)

pub set_allowed : (net : Net) (whole branch : Bounds) (fails : List LinkId) → IsBranch net whole branch
    → IsBranchSet net whole branch fails → IsAllowed net branch fails
set_allowed net whole branch fails b s =
    let keeps = and_parts (is_within branch.down fails) (is_apart fails branch.up) s.keeps in
    let counted = split_count net whole branch fails b s.allowed.union keeps.0 in
    let most = leb-true (risk_count net (outside fails whole.down)) whole.k s.allowed.few in
    record {
      union = s.allowed.union;
      down = keeps.0;
      up = keeps.1;
      few = le-leb (risk_count net (outside fails branch.down)) branch.k (omega (arith, counted, most));
    }

pub allowed_set : (net : Net) (whole branch : Bounds) (fails : List LinkId) → IsBranch net whole branch
    → IsAllowed net branch fails → IsBranchSet net whole branch fails
allowed_set net whole branch fails b a =
    let counted = split_count net whole branch fails b a.union a.down in
    let most = leb-true (risk_count net (outside fails branch.down)) branch.k a.few in
    record {
      allowed = record {
        union = a.union;
        down = within_trans whole.down branch.down fails b.down a.down;
        up = apart_within fails whole.up branch.up b.up a.up;
        few = le-leb (risk_count net (outside fails whole.down)) whole.k (omega (arith, counted, most));
      };
      keeps = and_from (is_within branch.down fails) (is_apart fails branch.up) a.down a.up;
    }

-- a set with a link's risk group has the set and the link
within_with : (net : Net) (s : List LinkId) (e : LinkId) → widened net s ≡ s → is_within s (with_risk net s e) ≡ true
within_with net s e u =
    within_from s (with_risk net s e)
    (λ x h. has_where net (λ y. has s y || same_risk net e y) x (union_link net s x u h) (or_left (has s x) (same_risk net e x) h))

pub with_has : (net : Net) (s : List LinkId) (e : LinkId) → is_link net e ≡ true → has (with_risk net s e) e ≡ true
with_has net s e known =
    has_where net (λ y. has s y || same_risk net e y) e known (or_right (has s e) (same_risk net e e) (same_risk_self net e))

-- a union that has a set and a link has the set with the link's risk group
with_within : (net : Net) (s t : List LinkId) (e : LinkId) → widened net t ≡ t → is_within s t ≡ true → has t e ≡ true
    → is_within (with_risk net s e) t ≡ true
with_within net s t e u st te = within_from (with_risk net s e) t (λ x h.
    let w = where_has net (λ y. has s y || same_risk net e y) x h in
    elim (or_cases (has s x) (same_risk net e x) w.1) [
      | inl old ↦ within_has s t x st old
      | inr r ↦ union_has net t e x u te r w.0
    ])

-- a union that has nothing of a set, and not a link, has nothing of the set with the link's risk group
apart_with : (net : Net) (s t : List LinkId) (e : LinkId) → widened net s ≡ s → is_link net e ≡ true → is_apart s t ≡ true
    → has s e ≡ false → is_apart s (with_risk net t e) ≡ true
apart_with net s t e u known st se = apart_from s (with_risk net t e) (λ x h. false_from_ne_true (has (with_risk net t e) x) (λ i.
    let w = where_has net (λ y. has t y || same_risk net e y) x i in
    elim (or_cases (has t x) (same_risk net e x) w.1) [
      | inl old ↦ true≢false (sym old ∙ apart_has s t x st h)
      | inr r ↦ true≢false (sym (union_has net s x e u h (same_risk_flip net e x r) known) ∙ se)
    ]))

module _ (net : Net) (whole branch : Bounds) (e : LinkId) (b : IsBranch net whole branch) (can : CanSplit net branch e) where
  abbrev more_down : List LinkId
  more_down = with_risk net branch.down e

  union : widened net more_down ≡ more_down
  union = with_union net branch.down e b.bounds.down

  within_more : is_within branch.down more_down ≡ true
  within_more = within_with net branch.down e b.bounds.down

  -- a risk group more at most, and at least one
  one_more : IsNetwork net → risk_count net (outside more_down whole.down) ≡ risk_count net (outside branch.down whole.down) + 1
  one_more k =
      let parts = count_parts net more_down branch.down whole.down union b.bounds.down b.down within_more in
      let most = count_more net branch.down branch.down e b.bounds.down union in
      let there = with_has net branch.down e can.known in
      let least = count_beyond net more_down branch.down e k union b.bounds.down there can.down in
      let none = outside_nothing net branch.down in
      omega (arith, parts, most, least, none)

  pub child_down : IsNetwork net → IsBranch net whole (with_down net branch e)
  child_down k =
      let more = one_more k in
      let apart = apart_flip branch.down branch.up b.bounds.apart in
      let still_apart = apart_with net branch.up branch.down e b.bounds.up can.known apart can.up in
      record {
        bounds = record { down = union; up = b.bounds.up; apart = apart_flip branch.up more_down still_apart };
        down = within_trans whole.down branch.down more_down b.down within_more;
        up = b.up;
        left = omega (arith, more, b.left, can.room);
      }

  pub child_up : IsBranch net whole (with_up net branch e)
  child_up = record {
    bounds = record {
      down = b.bounds.down;
      up = with_union net branch.up e b.bounds.up;
      apart = apart_with net branch.down branch.up e b.bounds.down can.known b.bounds.apart can.down;
    };
    down = b.down;
    up = within_trans whole.up branch.up (with_risk net branch.up e) b.up (within_with net branch.up e b.bounds.up);
    left = b.left;
  }

-- an allowed set is allowed in a child: in the one with the link down if it has the link, in the one with it up if not
module _ (net : Net) (branch : Bounds) (fails : List LinkId) (e : LinkId) (can : CanSplit net branch e) where
  pub allowed_down_child : IsNetwork net → AreBounds net branch → IsAllowed net branch fails → has fails e ≡ true
      → IsAllowed net (with_down net branch e) fails
  allowed_down_child k kb a h =
      let less = count_beyond net fails branch.down e k a.union kb.down h can.down in
      let most = leb-true (risk_count net (outside fails branch.down)) branch.k a.few in
      record {
        union = a.union;
        down = with_within net branch.down fails e a.union a.down h;
        up = a.up;
        few = le-leb (risk_count net (outside fails (with_risk net branch.down e))) (branch.k - 1) (omega (arith, less, most));
      }

  pub allowed_up_child : IsAllowed net branch fails → has fails e ≡ false → IsAllowed net (with_up net branch e) fails
  allowed_up_child a h = record {
    union = a.union;
    down = a.down;
    up = apart_with net fails branch.up e a.union can.known a.up h;
    few = a.few;
  }
