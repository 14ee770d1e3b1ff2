-- What the allowed sets of failed links keep, and which hops they allow.
use Rattle.std.proofs.Common.{◌≡◌, ℕ, Bool, true, false, not, ◌&&◌, ◌||◌, nat_eq, nat_lt, nat_le, List, [], ◌∷◌, take, slice_get, Option, Some, None, refl, arith, ap, inl, inr, sym, ◌∙◌}
use Rattle.std.proofs.lemmas.Bool.{eqb-true, eq-eqb, ltb-true, leb-true, le-leb, and_parts, and_from, not-true, not_from_false, or_cases, or_left, or_right, false_from_ne_true, true≢false}
use Rattle.std.specs.Option.{option_map_or, option_and_then}
use Rattle.wi_labels.specs.Header.{Entry}
use Rattle.wi_net.specs.declared.parts.LinkId.{LinkId}
use Rattle.wi_net.specs.declared.parts.Member.{Member}
use Rattle.wi_net.specs.Net.{Net}
use Rattle.wi_net.specs.declared.bounds.Bounds.{Bounds}
use Rattle.wi_net.specs.LinkSet.{has, is_apart, outside}
use Rattle.wi_net.specs.Net.{is_link, same_risk, widened, risk_count, with_risk, without_risk, first_active, before}
use Rattle.wi_net.specs.Network.{IsNetwork}
use Rattle.wi_net.proofs.SetLemmas.{has_where, where_has, union_has, union_link, within_has, within_from, apart_has, apart_from, same_risk_flip, same_risk_on}
use Rattle.wi_net.proofs.CountLemmas.{count_within, count_more, union_from, outside_self}
use Rattle.wi_net.proofs.GroupLemmas.{any_link, groups_known, before_failed, first_is, entry_known, none_before, any_link_weaken, active_by}
use Rattle.wi_world.specs.declared.run.Step.{Step}
use Rattle.wi_world.specs.Moves.{Location, groups_at, member_at, needed, by_link, is_usable, may_be_down, may_be_up, is_possible, IsAllowed, AreBounds}

-- what is known to be down may be down
pub allowed_down : (net : Net) (b : Bounds) → AreBounds net b → IsAllowed net b b.down
allowed_down net b k = record {
  union = k.down;
  down = within_from b.down b.down (λ e h. h);
  up = k.apart;
  few = rw (outside_self b.down) (le-leb 0 b.k (omega arith));
}

-- one risk group more
pub with_union : (net : Net) (s : List LinkId) (d : LinkId) → widened net s ≡ s → widened net (with_risk net s d) ≡ with_risk net s d
with_union net s d u =
    union_from net (λ e. has s e || same_risk net d e)
    (λ x e kx ke px r. elim (or_cases (has s x) (same_risk net d x) px) [
      | inl h ↦ or_left (has s e) (same_risk net d e) (union_has net s x e u h r ke)
      | inr q ↦ or_right (has s e) (same_risk net d e) (same_risk_on net d x e q r)
    ])

pub without_union : (net : Net) (s : List LinkId) (d : LinkId) → widened net s ≡ s → widened net (without_risk net s d) ≡ without_risk net s d
without_union net s d u =
    union_from net (λ e. has s e && not (same_risk net d e))
    (λ x e kx ke px r.
    let parts = and_parts (has s x) (not (same_risk net d x)) px in
    and_from (has s e) (not (same_risk net d e)) (union_has net s x e u parts.0 r ke)
    (not_from_false (same_risk net d e) (false_from_ne_true (same_risk net d e) (λ q. true≢false (sym (same_risk_on net d e x q (same_risk_flip net x e r)) ∙ not-true (same_risk net d x) parts.1)))))

pub before_union : (net : Net) (gs : List (List Member)) (j : ℕ) → widened net (before net gs j) ≡ before net gs j
before_union net gs j = union_from net (λ e. any_link (λ d. same_risk net d e) (take j gs))
    (λ x e kx ke px r. any_link_weaken (λ d. same_risk net d x) (λ d. same_risk net d e) (take j gs) (λ d h. same_risk_on net d x e h r) px)

pub allowed_with : (net : Net) (b : Bounds) (s : List LinkId) (d : LinkId) → AreBounds net b → IsAllowed net b s → is_link net d ≡ true → has b.up d ≡ false → nat_lt (risk_count net (outside s b.down)) b.k ≡ true → IsAllowed net b (with_risk net s d)
allowed_with net b s d k a known up few = record {
  union = with_union net s d a.union;
  down = within_from b.down (with_risk net s d) (λ e h.
      let es : has s e ≡ true = within_has b.down s e a.down h in
      has_where net (λ x. has s x || same_risk net d x) e (union_link net s e a.union es) (or_left (has s e) (same_risk net d e) es));
  up = apart_from (with_risk net s d) b.up (λ e h.
      let w = where_has net (λ x. has s x || same_risk net d x) e h in
      elim (or_cases (has s e) (same_risk net d e) w.1) [
        | inl es ↦ apart_has s b.up e a.up es
        | inr r ↦ false_from_ne_true (has b.up e) (λ ue. true≢false (sym (union_has net b.up e d k.up ue (same_risk_flip net d e r) known) ∙ up))
      ]);
  few =
      (let more = count_more net s b.down d a.union (with_union net s d a.union) in
      let below = ltb-true (risk_count net (outside s b.down)) b.k few in
      le-leb (risk_count net (outside (with_risk net s d) b.down)) b.k (omega (arith, more, below)));
}

pub allowed_without : (net : Net) (b : Bounds) (s : List LinkId) (d : LinkId) → AreBounds net b → IsAllowed net b s → is_link net d ≡ true → has b.down d ≡ false → IsAllowed net b (without_risk net s d)
allowed_without net b s d k a known dd = record {
  union = without_union net s d a.union;
  down = within_from b.down (without_risk net s d) (λ e h.
      let es : has s e ≡ true = within_has b.down s e a.down h in
      has_where net (λ x. has s x && not (same_risk net d x)) e (union_link net s e a.union es)
      (and_from (has s e) (not (same_risk net d e)) es (not_from_false (same_risk net d e) (false_from_ne_true (same_risk net d e) (λ r. true≢false (sym (union_has net b.down e d k.down h (same_risk_flip net d e r) known) ∙ dd))))));
  up = apart_from (without_risk net s d) b.up (λ e h. apart_has s b.up e a.up (fewer e h));
  few =
      (let less = count_within net (without_risk net s d) s b.down (without_union net s d a.union) a.union (λ e h no. fewer e h) in
      let below = leb-true (risk_count net (outside s b.down)) b.k a.few in
      le-leb (risk_count net (outside (without_risk net s d) b.down)) b.k (omega (arith, less, below)));
}
  where
    fewer : (e : LinkId) → has (without_risk net s d) e ≡ true → has s e ≡ true
    fewer e h = (and_parts (has s e) (not (same_risk net d e)) ((where_has net (λ x. has s x && not (same_risk net d x)) e h).1)).0

-- what it is that a union may be down
pub down_parts : (net : Net) (b : Bounds) (s : List LinkId) → may_be_down net b s ≡ true → (nat_le (risk_count net (outside s b.down)) b.k ≡ true) × (is_apart s b.up ≡ true)
down_parts net b s h = and_parts (nat_le (risk_count net (outside s b.down)) b.k) (is_apart s b.up) h

-- a union within an allowed set may be down
pub within_allowed : (net : Net) (b : Bounds) (fails s : List LinkId) → IsAllowed net b fails → widened net s ≡ s → ((e : LinkId) → has s e ≡ true → has fails e ≡ true) → may_be_down net b s ≡ true
within_allowed net b fails s a u into =
    and_from (nat_le (risk_count net (outside s b.down)) b.k) (is_apart s b.up) few
    (apart_from s b.up (λ e i. apart_has fails b.up e a.up (into e i)))
  where
    few : nat_le (risk_count net (outside s b.down)) b.k ≡ true
    few =
        let less = count_within net s fails b.down u a.union (λ e i no_down. into e i) in
        let most = leb-true (risk_count net (outside fails b.down)) b.k a.few in
        le-leb (risk_count net (outside s b.down)) b.k (omega (arith, less, most))

-- a step that names a member
pub record Names (net : Net) (at : Location) (step : Step) : Type 0 where
  pub group : List Member
  pub member : Member
  pub group_is : slice_get (groups_at net at.0 at.1) step.group ≡ Some group
  pub member_is : slice_get group step.member ≡ Some member

-- a step whose link passes a test names a member
pub by_link_names : (net : Net) (at : Location) (step : Step) (p : LinkId → Bool) → by_link net at step p ≡ true → (n : Names net at step) × (p n.member.link ≡ true)
by_link_names net at step p h = go (slice_get (groups_at net at.0 at.1) step.group) refl
  where
    go : (o : Option (List Member)) → slice_get (groups_at net at.0 at.1) step.group ≡ o → (n : Names net at step) × (p n.member.link ≡ true)
    go None eo = let e : option_map_or (λ (member : Member). p member.link) (option_and_then (λ group. slice_get group step.member) None) false ≡ true = rw eo at h in cc
    go (Some g) eo = go2 (slice_get g step.member) refl
      where
        e : option_map_or (λ (member : Member). p member.link) (slice_get g step.member) false ≡ true
        e = rw eo at h

        go2 : (o : Option Member) → slice_get g step.member ≡ o → (n : Names net at step) × (p n.member.link ≡ true)
        go2 None em = let e2 : option_map_or (λ (member : Member). p member.link) None false ≡ true = rw em at e in cc
        go2 (Some m) em = (record { group = g; member = m; group_is = eo; member_is = em }, (rw em at e))

pub member_named : (net : Net) (at : Location) (step : Step) (n : Names net at step) → member_at net at step ≡ Some n.member
member_named net at step n = rw n.group_is (rw n.member_is refl)

pub names_by_link : (net : Net) (at : Location) (step : Step) (p : LinkId → Bool) (n : Names net at step) → p n.member.link ≡ true → by_link net at step p ≡ true
names_by_link net at step p n h = rw (member_named net at step n) h

pub first_from : (o : Option ℕ) (j : ℕ) → option_map_or (λ i. nat_eq i j) o false ≡ true → o ≡ Some j
first_from None j h = cc
first_from (Some i) j h = ap Some (eqb-true i j h)

pub first_to : (o : Option ℕ) (j : ℕ) → o ≡ Some j → option_map_or (λ i. nat_eq i j) o false ≡ true
first_to o j e = rw e (eq-eqb j j refl)

-- what a step needs is failed where the step is usable
pub needed_failed : (net : Net) (fails : List LinkId) (at : Location) (step : Step) → widened net fails ≡ fails → is_usable net fails at step ≡ true → (e : LinkId) → has (needed net at step) e ≡ true → has fails e ≡ true
needed_failed net fails at step u h e n =
    let parts = and_parts (option_map_or (λ j. nat_eq j step.group) (first_active fails (groups_at net at.0 at.1)) false) (by_link net at step (λ d. not (has fails d))) h in
    before_failed net fails (groups_at net at.0 at.1) step.group e u (first_from (first_active fails (groups_at net at.0 at.1)) step.group parts.0) n

-- a hop under an allowed set is a possible hop
pub usable_possible : (net : Net) (b : Bounds) (fails : List LinkId) (at : Location) (step : Step) → IsAllowed net b fails → is_usable net fails at step ≡ true → is_possible net b at step ≡ true
usable_possible net b fails at step a h =
    and_from (may_be_down net b (needed net at step)) (by_link net at step (λ e. not (has (needed net at step) e) && not (has b.down e)))
    (within_allowed net b fails (needed net at step) a (before_union net (groups_at net at.0 at.1) step.group) into) link
  where
    into : (e : LinkId) → has (needed net at step) e ≡ true → has fails e ≡ true
    into = needed_failed net fails at step a.union h

    link : by_link net at step (λ e. not (has (needed net at step) e) && not (has b.down e)) ≡ true
    link =
        let parts = and_parts (option_map_or (λ j. nat_eq j step.group) (first_active fails (groups_at net at.0 at.1)) false) (by_link net at step (λ d. not (has fails d))) h in
        let n = by_link_names net at step (λ d. not (has fails d)) parts.1 in
        let free : has fails ((n.0).member.link) ≡ false = not-true (has fails ((n.0).member.link)) n.1 in
        names_by_link net at step (λ e. not (has (needed net at step) e) && not (has b.down e)) n.0
        (and_from (not (has (needed net at step) ((n.0).member.link))) (not (has b.down ((n.0).member.link)))
        (not_from_false (has (needed net at step) ((n.0).member.link)) (false_from_ne_true (has (needed net at step) ((n.0).member.link)) (λ x. true≢false (sym (into ((n.0).member.link) x) ∙ free))))
        (not_from_false (has b.down ((n.0).member.link)) (false_from_ne_true (has b.down ((n.0).member.link)) (λ x. true≢false (sym (within_has b.down fails ((n.0).member.link) a.down x) ∙ free)))))

pub groups_at_known : (net : Net) (e : LinkId) (header : List Entry) → IsNetwork net → groups_known net (groups_at net e header) ≡ true
groups_at_known net e [] k = refl
groups_at_known net e (top ∷ below) k = entry_known net e top.0 k

-- where what a step needs is failed and its link isn't, the step is usable
pub possible_usable : (net : Net) (fails : List LinkId) (at : Location) (step : Step) → IsNetwork net → ((e : LinkId) → has (needed net at step) e ≡ true → has fails e ≡ true) → (n : Names net at step) → has fails n.member.link ≡ false → is_usable net fails at step ≡ true
possible_usable net fails at step k each n no_fail =
    and_from (option_map_or (λ j. nat_eq j step.group) (first_active fails (groups_at net at.0 at.1)) false) (by_link net at step (λ d. not (has fails d)))
    (first_to (first_active fails (groups_at net at.0 at.1)) step.group
    (first_is fails (groups_at net at.0 at.1) step.group n.group n.group_is (active_by fails n.group step.member n.member n.member_is no_fail)
    (none_before net fails (groups_at net at.0 at.1) step.group (groups_at_known net at.0 at.1 k) each)))
    (names_by_link net at step (λ d. not (has fails d)) n (not_from_false (has fails n.member.link) no_fail))

-- what a possible hop is
pub record Possible (net : Net) (b : Bounds) (at : Location) (step : Step) : Type 0 where
  pub few : nat_le (risk_count net (outside (needed net at step) b.down)) b.k ≡ true
  pub up : is_apart (needed net at step) b.up ≡ true
  pub named : Names net at step
  pub spared : has (needed net at step) named.member.link ≡ false
  pub alive : has b.down named.member.link ≡ false

pub possible_down : (net : Net) (b : Bounds) (at : Location) (step : Step) → is_possible net b at step ≡ true → may_be_down net b (needed net at step) ≡ true
possible_down net b at step h = (and_parts (may_be_down net b (needed net at step)) (by_link net at step (may_be_up b (needed net at step))) h).0

pub possible_parts : (net : Net) (b : Bounds) (at : Location) (step : Step) → is_possible net b at step ≡ true → Possible net b at step
possible_parts net b at step h =
    let free : LinkId → Bool = λ e. not (has (needed net at step) e) && not (has b.down e) in
    let p = and_parts (may_be_down net b (needed net at step)) (by_link net at step free) h in
    let q = down_parts net b (needed net at step) p.0 in
    let n = by_link_names net at step free p.1 in
    let r = and_parts (not (has (needed net at step) ((n.0).member.link))) (not (has b.down ((n.0).member.link))) n.1 in
    record { few = q.0; up = q.1; named = n.0; spared = not-true (has (needed net at step) ((n.0).member.link)) r.0; alive = not-true (has b.down ((n.0).member.link)) r.1 }
