-- Traces under allowed failures, runs that fit, and no failures at all.
use Rattle.std.proofs.Common.{◌≡◌, ℕ, Bool, true, false, not, ◌&&◌, ◌||◌, nat_eq, nat_lt, nat_le, List, [], ◌∷◌, Option, Some, None, refl, arith, inl, inr, sym, ◌∙◌}
use Rattle.std.proofs.lemmas.Bool.{eq-eqb, ltb-false, leb-true, le-leb, and_parts, and_from, not-true, not_from_false, or_cases, or_left, or_right, false_from_ne_true, true≢false, cases_Bool}
use Rattle.std.specs.List.{find}
use Rattle.std.specs.Option.{option_map, option_map_or}
use Rattle.wi_labels.specs.Header.{Entry, is_valid_header, after_ops}
use Rattle.wi_net.specs.declared.parts.LinkId.{LinkId}
use Rattle.wi_net.specs.Net.{Net}
use Rattle.wi_net.specs.declared.bounds.Bounds.{Bounds}
use Rattle.wi_net.specs.LinkSet.{has, outside}
use Rattle.wi_net.specs.Net.{all_links, is_link, labels_known, same_risk, widened, risk_count}
use Rattle.wi_net.specs.Network.{IsNetwork}
use Rattle.wi_net.proofs.SetLemmas.{has_where, where_has, union_has, union_link, within_has, within_from, apart_has, apart_from, same_link}
use Rattle.wi_net.proofs.CountLemmas.{count_less, union_from, filter_same, bool_same, union_is, outside_self}
use Rattle.wi_world.specs.declared.run.Step.{Step}
use Rattle.wi_world.specs.declared.run.Run.{Run}
use Rattle.wi_world.specs.declared.run.End.{End}
use Rattle.wi_world.specs.declared.answer.Verdict.TheVariants.{Fits, Exceeds, UsesFailed}
use Rattle.wi_world.specs.Moves.{Location, groups_at, moved, needed, is_usable, may_be_down, is_possible, may_end, needed_to_end, can_end, follows, is_start, is_trace, is_possible_run, IsAllowed, AreBounds}
use Rattle.wi_world.specs.Moving.{IsMovingRun}
use Rattle.wi_world.specs.Runs.{used_to_end, used_along, used_by, is_needed, needs, judged, verdict_of}
use Rattle.wi_world.proofs.Allowed.{before_union, down_parts, Names, member_named, usable_possible, possible_usable, possible_down, possible_parts}
use Rattle.wi_world.proofs.EndLemmas.{end_union, end_down, end_spares, may_can, can_may}
use Rattle.wi_world.proofs.Steps.{follows_from, follows_weaken, goes, goes_on}
use Rattle.wi_world.proofs.MovingLaws.{possible_moving}

-- a start isn't on a failed link
start_alive : (net : Net) (s : List LinkId) (e : LinkId) (header : List Entry) → is_start net s e header ≡ true → has s e ≡ false
start_alive net s e header h =
    let p1 = and_parts (is_link net e && not (has s e) && is_valid_header header) (labels_known net header) h in
    let p2 = and_parts (is_link net e && not (has s e)) (is_valid_header header) p1.0 in
    not-true (has s e) ((and_parts (is_link net e) (not (has s e)) p2.0).1)

-- and is one under each set that its link isn't in
start_under : (net : Net) (s t : List LinkId) (e : LinkId) (header : List Entry) → has t e ≡ false → is_start net s e header ≡ true → is_start net t e header ≡ true
start_under net s t e header free h =
    let p1 = and_parts (is_link net e && not (has s e) && is_valid_header header) (labels_known net header) h in
    let p2 = and_parts (is_link net e && not (has s e)) (is_valid_header header) p1.0 in
    let p3 = and_parts (is_link net e) (not (has s e)) p2.0 in
    and_from (is_link net e && not (has t e) && is_valid_header header) (labels_known net header)
    (and_from (is_link net e && not (has t e)) (is_valid_header header) (and_from (is_link net e) (not (has t e)) p3.0 (not_from_false (has t e) free)) p2.1) p1.1

-- a trace under allowed failures is a run of possible hops, with an end that can be
pub trace_possible : (net : Net) (b : Bounds) (fails : List LinkId) (run : Run) → IsNetwork net → IsAllowed net b fails → is_trace net fails run ≡ true → is_possible_run net b run ≡ true
trace_possible net b fails run k a h =
    let parts = and_parts (is_start net fails run.first run.header) (follows net (is_usable net fails) (λ at. may_end net fails at run.end) (run.first, run.header) run.steps) h in
    let alive = start_alive net fails run.first run.header parts.0 in
    and_from (is_start net b.down run.first run.header) (goes net b run.end (run.first, run.header) run.steps)
    (start_under net fails b.down run.first run.header (false_from_ne_true (has b.down run.first) (λ d. true≢false (sym (within_has b.down fails run.first a.down d) ∙ alive))) parts.0)
    (follows_weaken net (is_usable net fails) (is_possible net b) (λ at. may_end net fails at run.end) (λ at. can_end net b at run.end) (run.first, run.header) run.steps
    (λ at step u. usable_possible net b fails at step a u) (λ at e. may_can net b fails at run.end k a e) parts.1)

pub trace_moving : (net : Net) (b : Bounds) (fails : List LinkId) (run : Run) → IsNetwork net → AreBounds net b → IsAllowed net b fails → is_trace net fails run ≡ true → IsMovingRun net b run
trace_moving net b fails run k kb a h = possible_moving net b run k kb (trace_possible net b fails run k a h)

-- the verdict that a run fits
pub record Fit (net : Net) (b : Bounds) (run : Run) (fails : List LinkId) : Type 0 where
  pub are_needs : needs net b run ≡ fails
  pub few : nat_le (risk_count net (outside (needs net b run) b.down)) b.k ≡ true
  pub free : find (λ e. has (needs net b run) e) (used_by net run) ≡ None

fits_judged : (k n : ℕ) (s t : List LinkId) (o : Option LinkId) → judged k n s o ≡ Fits t → (s ≡ t) × (nat_le n k ≡ true) × (o ≡ None)
fits_judged k n s t None h = go (nat_lt k n) refl
  where
    go : (c : Bool) → nat_lt k n ≡ c → (s ≡ t) × (nat_le n k ≡ true) × (◌≡◌ {A = Option LinkId} None None)
    go true c = let e : Exceeds n ≡ Fits t = rw c at h in cc
    go false c = let e : Fits s ≡ Fits t = rw c at h in (cc, le-leb n k (ltb-false k n c), refl)
fits_judged k n s t (Some e) h = go (nat_lt k n) refl
  where
    go : (c : Bool) → nat_lt k n ≡ c → (s ≡ t) × (nat_le n k ≡ true) × (Some e ≡ None)
    go true c = let d : Exceeds n ≡ Fits t = rw c at h in cc
    go false c = let d : UsesFailed e ≡ Fits t = rw c at h in cc

pub fit_parts : (net : Net) (b : Bounds) (run : Run) (fails : List LinkId) → verdict_of net b run ≡ Fits fails → Fit net b run fails
fit_parts net b run fails h =
    let p = fits_judged b.k (risk_count net (outside (needs net b run) b.down)) (needs net b run) fails (find (λ e. has (needs net b run) e) (used_by net run)) h in
    record { are_needs = p.0; few = p.1; free = p.2 }

pub find_none : (p : LinkId → Bool) (xs : List LinkId) (x : LinkId) → find p xs ≡ None → has xs x ≡ true → p x ≡ false
find_none p [] x f h = cc
find_none p (y ∷ xs) x f h = go (p y) refl (find_none p xs x)
  where
    go : (c : Bool) → p y ≡ c → (find p xs ≡ None → has xs x ≡ true → p x ≡ false) → p x ≡ false
    go true c ih = let e : Some y ≡ None = rw c at f in cc
    go false c ih =
        elim (or_cases (nat_eq y.0 x.0) (has xs x) h) [
          | inl eb ↦ rw (sym (same_link y x eb)) c
          | inr more ↦ ih (rw c at f) more
        ]

-- a step leads to its member's link
moved_link : (net : Net) (at : Location) (step : Step) (n : Names net at step) (next : Location) → moved net at step ≡ Some next → next.0 ≡ n.member.link
moved_link net at step n next m = go (after_ops n.member.ops at.1) refl
  where
    m1 : option_map (λ (h : List Entry). (n.member.link, h)) (after_ops n.member.ops at.1) ≡ Some next
    m1 = rw (member_named net at step n) at m

    go : (o : Option (List Entry)) → after_ops n.member.ops at.1 ≡ o → next.0 ≡ n.member.link
    go None e = let none : ◌≡◌ {A = Option Location} None (Some next) = rw e at m1 in cc
    go (Some h) e = let some : ◌≡◌ {A = Option Location} (Some (n.member.link, h)) (Some next) = rw e at m1 in cc

-- the first link of a way is used
first_used : (net : Net) (end : End) (at : Location) (steps : List Step) → has (used_along net end at steps) at.0 ≡ true
first_used net end at [] = or_left (nat_eq (at.0).0 (at.0).0) (has (used_to_end net at end) at.0) (eq-eqb (at.0).0 (at.0).0 refl)
first_used net end at (step ∷ steps) = or_left (nat_eq (at.0).0 (at.0).0) (has (option_map_or (λ next. used_along net end next steps) (moved net at step) []) at.0) (eq-eqb (at.0).0 (at.0).0 refl)

-- what is used and needed, by where the first step leads
used_on : (net : Net) (end : End) (at : Location) (step : Step) (next : Location) (steps : List Step) (e : LinkId) → moved net at step ≡ Some next → has (used_along net end at (step ∷ steps)) e ≡ (nat_eq (at.0).0 e.0 || has (used_along net end next steps) e)
used_on net end at step next steps e m = rw m refl

needed_on : (net : Net) (end : End) (at : Location) (step : Step) (next : Location) (steps : List Step) (e : LinkId) → moved net at step ≡ Some next → is_needed net e end at (step ∷ steps) ≡ (has (needed net at step) e || is_needed net e end next steps)
needed_on net end at step next steps e m = rw m refl

-- possible hops and an end that can be are a trace where what they need has failed, and the links that they use haven't
pub follows_needs : (net : Net) (b : Bounds) (s : List LinkId) (end : End) (at : Location) (steps : List Step) → IsNetwork net
    → ((e : LinkId) → is_link net e ≡ true → is_needed net e end at steps ≡ true → has s e ≡ true)
    → ((e : LinkId) → has (used_along net end at steps) e ≡ true → has s e ≡ false)
    → goes net b end at steps ≡ true → follows net (is_usable net s) (λ place. may_end net s place end) at steps ≡ true
follows_needs net b s end at [] k into free h =
    can_may net b s at end k (λ e n. into e (union_link net (needed_to_end net at end) e (end_union net at end) n) n)
    (λ e i. free e (or_right (nat_eq (at.0).0 e.0) (has (used_to_end net at end) e) i)) h
follows_needs net b s end at (step ∷ steps) k into free h =
    let o = goes_on net b end at step steps h in
    let p = possible_parts net b at step o.passes in
    let needs_on : (e : LinkId) → (has (needed net at step) e || is_needed net e end o.next steps) ≡ true → is_needed net e end at (step ∷ steps) ≡ true
    = λ e n. needed_on net end at step o.next steps e o.moves ∙ n in
    let now : (e : LinkId) → has (needed net at step) e ≡ true → has s e ≡ true
    = λ e n. into e (union_link net (needed net at step) e (before_union net (groups_at net at.0 at.1) step.group) n) (needs_on e (or_left (has (needed net at step) e) (is_needed net e end o.next steps) n)) in
    let free_later : (e : LinkId) → has (used_along net end o.next steps) e ≡ true → has s e ≡ false
    = λ e i. free e (used_on net end at step o.next steps e o.moves ∙ or_right (nat_eq (at.0).0 e.0) (has (used_along net end o.next steps) e) i) in
    let alive : has s p.named.member.link ≡ false
    = rw (sym (moved_link net at step p.named o.next o.moves)) (free_later (o.next).0 (first_used net end o.next steps)) in
    follows_from net (is_usable net s) (λ place. may_end net s place end) at step o.next steps o.moves
    (possible_usable net s at step k now p.named alive)
    (follows_needs net b s end o.next steps k (λ e known n. into e known (needs_on e (or_right (has (needed net at step) e) (is_needed net e end o.next steps) n))) free_later o.rest)

-- a link's whole risk group is needed with it
needed_along : (net : Net) (end : End) (at : Location) (steps : List Step) (x e : LinkId) → is_link net e ≡ true → same_risk net x e ≡ true → is_needed net x end at steps ≡ true → is_needed net e end at steps ≡ true
needed_along net end at [] x e known r h = union_has net (needed_to_end net at end) x e (end_union net at end) h r known
needed_along net end at (step ∷ steps) x e known r h =
    elim (or_cases (has (needed net at step) x) (option_map_or (λ (n : Location). is_needed net x end n steps) (moved net at step) false) h) [
      | inl now ↦ or_left (has (needed net at step) e) (option_map_or (λ (n : Location). is_needed net e end n steps) (moved net at step) false) (union_has net (needed net at step) x e (before_union net (groups_at net at.0 at.1) step.group) now r known)
      | inr later ↦ or_right (has (needed net at step) e) (option_map_or (λ (n : Location). is_needed net e end n steps) (moved net at step) false) (carry (moved net at step) (λ n. needed_along net end n steps x e known r) later)
    ]
  where
    carry : (o : Option Location) → ((n : Location) → is_needed net x end n steps ≡ true → is_needed net e end n steps ≡ true) → option_map_or (λ (n : Location). is_needed net x end n steps) o false ≡ true → option_map_or (λ (n : Location). is_needed net e end n steps) o false ≡ true
    carry None ih i = cc
    carry (Some n) ih i = ih n i

-- a link is needed by a run
abbrev by_run : Net → Run → LinkId → Bool
by_run net run e = is_needed net e run.end (run.first, run.header) run.steps

-- so a run's needs are a union of risk groups
pub needs_union : (net : Net) (b : Bounds) (run : Run) → AreBounds net b → widened net (needs net b run) ≡ needs net b run
needs_union net b run kb = union_from net (λ x. has b.down x || by_run net run x)
    (λ x e kx ke px r. elim (or_cases (has b.down x) (by_run net run x) px) [
      | inl d ↦ or_left (has b.down e) (by_run net run e) (union_has net b.down x e kb.down d r ke)
      | inr i ↦ or_right (has b.down e) (by_run net run e) (needed_along net run.end (run.first, run.header) run.steps x e ke r i)
    ])

-- a link of a union that may be down
record Downable (net : Net) (b : Bounds) (e : LinkId) : Type 0 where
  links : List LinkId
  union : widened net links ≡ links
  down : may_be_down net b links ≡ true
  listed : has links e ≡ true

-- whatever possible hops and an end that can be need is one
needed_downable : (net : Net) (b : Bounds) (end : End) (at : Location) (steps : List Step) (e : LinkId) → goes net b end at steps ≡ true → is_needed net e end at steps ≡ true → Downable net b e
needed_downable net b end at [] e h i = record { links = needed_to_end net at end; union = end_union net at end; down = end_down net b at end h; listed = i }
needed_downable net b end at (step ∷ steps) e h i =
    let o = goes_on net b end at step steps h in
    elim (or_cases (has (needed net at step) e) (is_needed net e end o.next steps) (sym (needed_on net end at step o.next steps e o.moves) ∙ i)) [
      | inl now ↦ record {
        links = needed net at step;
        union = before_union net (groups_at net at.0 at.1) step.group;
        down = possible_down net b at step o.passes;
        listed = now;
      }
      | inr later ↦ needed_downable net b end o.next steps e o.rest later
    ]

pub needed_up : (net : Net) (b : Bounds) (end : End) (at : Location) (steps : List Step) (e : LinkId) → goes net b end at steps ≡ true → is_needed net e end at steps ≡ true → has b.up e ≡ false
needed_up net b end at steps e h i =
    let d = needed_downable net b end at steps e h i in
    apart_has d.links b.up e ((down_parts net b d.links d.down).1) d.listed

-- a run that fits is a trace under its needs, which the bounds allow
pub fits_trace : (net : Net) (b : Bounds) (run : Run) (fails : List LinkId) → IsNetwork net → AreBounds net b → is_possible_run net b run ≡ true → verdict_of net b run ≡ Fits fails → (is_trace net fails run ≡ true) × IsAllowed net b fails
fits_trace net b run fails k kb h v = (rw (sym fit.are_needs) trace, rw (sym fit.are_needs) allowed)
  where
    fit : Fit net b run fails
    fit = fit_parts net b run fails v

    parts : (is_start net b.down run.first run.header ≡ true) × (goes net b run.end (run.first, run.header) run.steps ≡ true)
    parts = and_parts (is_start net b.down run.first run.header) (goes net b run.end (run.first, run.header) run.steps) h

    free : (e : LinkId) → has (used_along net run.end (run.first, run.header) run.steps) e ≡ true → has (needs net b run) e ≡ false
    free e i = find_none (λ x. has (needs net b run) x) (used_by net run) e fit.free i

    into : (e : LinkId) → is_link net e ≡ true → (has b.down e || by_run net run e) ≡ true → has (needs net b run) e ≡ true
    into e known i = has_where net (λ x. has b.down x || by_run net run x) e known i

    trace : is_trace net (needs net b run) run ≡ true
    trace =
        and_from (is_start net (needs net b run) run.first run.header) (follows net (is_usable net (needs net b run)) (λ at. may_end net (needs net b run) at run.end) (run.first, run.header) run.steps)
        (start_under net b.down (needs net b run) run.first run.header (free run.first (first_used net run.end (run.first, run.header) run.steps)) parts.0)
        (follows_needs net b (needs net b run) run.end (run.first, run.header) run.steps k (λ e known i. into e known (or_right (has b.down e) (by_run net run e) i)) free parts.1)

    allowed : IsAllowed net b (needs net b run)
    allowed = record {
      union = needs_union net b run kb;
      down = within_from b.down (needs net b run) (λ e d. into e (union_link net b.down e kb.down d) (or_left (has b.down e) (by_run net run e) d));
      up = apart_from (needs net b run) b.up (λ e i.
          let w = where_has net (λ x. has b.down x || by_run net run x) e i in
          elim (or_cases (has b.down e) (by_run net run e) w.1) [
            | inl d ↦ apart_has b.down b.up e kb.apart d
            | inr n ↦ needed_up net b run.end (run.first, run.header) run.steps e parts.1 n
          ]);
      few = fit.few;
    }

-- where nothing may fail, what may be down is down already
none_more : (net : Net) (b : Bounds) (e : LinkId) → IsNetwork net → AreBounds net b → b.k ≡ 0 → Downable net b e → has b.down e ≡ true
none_more net b e k kb zero_k t = elim (cases_Bool (has b.down e)) [ inl d ↦ d | inr d ↦ absurd (none d) ]
  where
    none : has b.down e ≡ false → ⊥
    none d =
        let less = count_less net b.down t.links b.down e k kb.down t.union kb.down (λ x y no_y. absurd (true≢false (sym y ∙ no_y))) t.listed d d in
        let most = leb-true (risk_count net (outside t.links b.down)) b.k ((down_parts net b t.links t.down).0) in
        omega (arith, less, most, zero_k)

-- the links that possible hops and an end that can be use aren't known to be down
pub alive_along : (net : Net) (b : Bounds) (end : End) (at : Location) (steps : List Step) (e : LinkId) → has b.down at.0 ≡ false → goes net b end at steps ≡ true → has (used_along net end at steps) e ≡ true → has b.down e ≡ false
alive_along net b end at [] e first h i =
    elim (or_cases (nat_eq (at.0).0 e.0) (has (used_to_end net at end) e) i) [
      | inl eb ↦ rw (sym (same_link at.0 e eb)) first
      | inr its ↦ (end_spares net b at end e h its).1
    ]
alive_along net b end at (step ∷ steps) e first h i =
    let o = goes_on net b end at step steps h in
    let p = possible_parts net b at step o.passes in
    elim (or_cases (nat_eq (at.0).0 e.0) (has (used_along net end o.next steps) e) (sym (used_on net end at step o.next steps e o.moves) ∙ i)) [
      | inl eb ↦ rw (sym (same_link at.0 e eb)) first
      | inr later ↦ alive_along net b end o.next steps e (rw (moved_link net at step p.named o.next o.moves) p.alive) o.rest later
    ]

pub none_found : (p : LinkId → Bool) (xs : List LinkId) → ((x : LinkId) → has xs x ≡ true → p x ≡ false) → find p xs ≡ None
none_found p [] each = refl
none_found p (y ∷ xs) each =
    rw (each y (or_left (nat_eq y.0 y.0) (has xs y) (eq-eqb y.0 y.0 refl))) (none_found p xs (λ x h. each x (or_right (nat_eq y.0 x.0) (has xs x) h)))

-- where nothing may fail, each possible run fits
pub zero_fits : (net : Net) (b : Bounds) (run : Run) → IsNetwork net → AreBounds net b → b.k ≡ 0 → is_possible_run net b run ≡ true → verdict_of net b run ≡ Fits b.down
zero_fits net b run k kb zero_k h =
    let alive = start_alive net b.down run.first run.header parts.0 in
    let none : find (λ e. has b.down e) (used_by net run) ≡ None = none_found (λ e. has b.down e) (used_by net run) (λ e i. alive_along net b run.end (run.first, run.header) run.steps e alive parts.1 i) in
    rw (same, none, outside_self b.down, zero_k) refl
  where
    parts : (is_start net b.down run.first run.header ≡ true) × (goes net b run.end (run.first, run.header) run.steps ≡ true)
    parts = and_parts (is_start net b.down run.first run.header) (goes net b run.end (run.first, run.header) run.steps) h

    same : needs net b run ≡ b.down
    same =
        filter_same (λ e. has b.down e || by_run net run e) (λ e. has b.down e) (all_links net)
        (λ e i. bool_same (has b.down e || by_run net run e) (has b.down e)
        (λ j. elim (or_cases (has b.down e) (by_run net run e) j) [ inl d ↦ d | inr n ↦ none_more net b e k kb zero_k (needed_downable net b run.end (run.first, run.header) run.steps e parts.1 n) ])
        (λ d. or_left (has b.down e) (by_run net run e) d))
        ∙ union_is net b.down kb.down

-- and so each is a trace under what is known to be down
pub zero_trace : (net : Net) (b : Bounds) (run : Run) → IsNetwork net → AreBounds net b → b.k ≡ 0 → is_possible_run net b run ≡ true → is_trace net b.down run ≡ true
zero_trace net b run k kb zero_k h = (fits_trace net b run b.down k kb h (zero_fits net b run k kb zero_k h)).0
