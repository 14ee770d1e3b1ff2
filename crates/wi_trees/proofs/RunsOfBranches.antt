-- The moving runs of a branch are those of the branch as bounds: event by event.
use Rattle.std.proofs.Common.{◌≡◌, ◌+◌, Bool, true, false, not, cond, ◌&&◌, nat_lt, List, [], ◌∷◌, Option, Some, None, IfSome, refl, arith, sym, ◌∙◌}
use Rattle.std.proofs.lemmas.Bool.{ltb-true, lt-ltb, and_parts, and_from, not-true, not_from_false, false_from_ne_true, true≢false}
use Rattle.std.specs.Option.{option_and_then}
use Rattle.wi_net.specs.declared.parts.LinkId.{LinkId}
use Rattle.wi_net.specs.declared.bounds.Bounds.{Bounds}
use Rattle.wi_net.specs.LinkSet.{has, is_within, is_apart, outside}
use Rattle.wi_net.specs.Net.{Net, is_link, same_risk, risk_count, with_risk, without_risk}
use Rattle.wi_net.proofs.SetLemmas.{where_has, union_link, within_has, apart_has, same_risk_self}
use Rattle.wi_net.proofs.CountLemmas.{bool_same}
use Rattle.wi_world.specs.declared.run.Run.{Run}
use Rattle.wi_world.specs.declared.world.State.{State}
use Rattle.wi_world.specs.declared.world.Event.{Event}
use Rattle.wi_world.specs.declared.world.Event.TheVariants.{Fail, Repair, Hop}
use Rattle.wi_world.specs.Moves.{Location, moved, is_usable, IsAllowed}
use Rattle.wi_world.specs.Moving.{after_event, after_events, start_of, IsMovingRun}
use Rattle.wi_world.proofs.Allowed.{allowed_down, allowed_with, allowed_without}
use Rattle.wi_trees.specs.Branches.{IsBranch, IsBranchRun, keeps_to, after_event_in, after_events_in}
use Rattle.wi_trees.proofs.BranchLaws.{split_count, out_within, with_has}

module _ (net : Net) (whole branch : Bounds) (b : IsBranch net whole branch) where
  abbrev has_room : Bounds → List LinkId → Bool
  has_room bounds fails = nat_lt (risk_count net (outside fails bounds.down)) bounds.k

  abbrev can_fail : Bounds → List LinkId → LinkId → Bool
  can_fail bounds fails e = is_link net e && not (has fails e) && not (has bounds.up e) && has_room bounds fails

  abbrev can_repair : Bounds → List LinkId → LinkId → Bool
  can_repair bounds fails e = has fails e && not (has bounds.down e)

  record CanFail (bounds : Bounds) (fails : List LinkId) (e : LinkId) : Type 0 where
    known : is_link net e ≡ true
    new : has fails e ≡ false
    up : has bounds.up e ≡ false
    room : has_room bounds fails ≡ true

  fail_parts : (bounds : Bounds) (fails : List LinkId) (e : LinkId) → can_fail bounds fails e ≡ true → CanFail bounds fails e
  fail_parts bounds fails e h =
      let p = and_parts (is_link net e && not (has fails e) && not (has bounds.up e)) (has_room bounds fails) h in
      let q = and_parts (is_link net e && not (has fails e)) (not (has bounds.up e)) p.0 in
      let r = and_parts (is_link net e) (not (has fails e)) q.0 in
      record { known = r.0; new = not-true (has fails e) r.1; up = not-true (has bounds.up e) q.1; room = p.1 }

  fail_from : (bounds : Bounds) (fails : List LinkId) (e : LinkId) → CanFail bounds fails e → can_fail bounds fails e ≡ true
  fail_from bounds fails e c =
      let new = not_from_false (has fails e) c.new in
      let up = not_from_false (has bounds.up e) c.up in
      let there = and_from (is_link net e) (not (has fails e)) c.known new in
      let free = and_from (is_link net e && not (has fails e)) (not (has bounds.up e)) there up in
      and_from (is_link net e && not (has fails e) && not (has bounds.up e)) (has_room bounds fails) free c.room

  keeps_from : (fails : List LinkId) → IsAllowed net branch fails → keeps_to branch fails ≡ true
  keeps_from fails a = and_from (is_within branch.down fails) (is_apart fails branch.up) a.down a.up

  keeps_parts : (fails : List LinkId) → keeps_to branch fails ≡ true
      → (is_within branch.down fails ≡ true) × (is_apart fails branch.up ≡ true)
  keeps_parts fails h = and_parts (is_within branch.down fails) (is_apart fails branch.up) h

  -- what may happen in the branch is what may happen in the whole and keeps to the branch
  module _ (fails : List LinkId) (e : LinkId) (a : IsAllowed net branch fails) where
    abbrev failed : List LinkId
    failed = with_risk net fails e

    abbrev repaired : List LinkId
    repaired = without_risk net fails e

    counted : risk_count net (outside fails whole.down) + branch.k ≡ risk_count net (outside fails branch.down) + whole.k
    counted = split_count net whole branch fails b a.union a.down

    fail_allowed : can_fail branch fails e ≡ true → IsAllowed net branch failed
    fail_allowed h = let c = fail_parts branch fails e h in allowed_with net branch fails e b.bounds a c.known c.up c.room

    fail_wide : can_fail branch fails e ≡ true → can_fail whole fails e ≡ true
    fail_wide h =
        let c = fail_parts branch fails e h in
        let room = ltb-true (risk_count net (outside fails branch.down)) branch.k c.room in
        fail_from whole fails e (record {
          known = c.known;
          new = c.new;
          up = out_within whole.up branch.up e b.up c.up;
          room = lt-ltb (risk_count net (outside fails whole.down)) whole.k (omega (arith, counted, room));
        })

    fail_back : can_fail whole fails e ≡ true → keeps_to branch failed ≡ true → can_fail branch fails e ≡ true
    fail_back h keeps =
        let c = fail_parts whole fails e h in
        let room = ltb-true (risk_count net (outside fails whole.down)) whole.k c.room in
        fail_from branch fails e (record {
          known = c.known;
          new = c.new;
          up = apart_has failed branch.up e (keeps_parts failed keeps).1 (with_has net fails e c.known);
          room = lt-ltb (risk_count net (outside fails branch.down)) branch.k (omega (arith, counted, room));
        })

    fail_same : can_fail branch fails e ≡ (can_fail whole fails e && keeps_to branch failed)
    fail_same =
        bool_same (can_fail branch fails e) (can_fail whole fails e && keeps_to branch failed)
        (λ h. and_from (can_fail whole fails e) (keeps_to branch failed) (fail_wide h) (keeps_from failed (fail_allowed h)))
        (λ h. let p = and_parts (can_fail whole fails e) (keeps_to branch failed) h in fail_back p.0 p.1)

    repair_allowed : can_repair branch fails e ≡ true → IsAllowed net branch repaired
    repair_allowed h =
        let p = and_parts (has fails e) (not (has branch.down e)) h in
        allowed_without net branch fails e b.bounds a (union_link net fails e a.union p.0) (not-true (has branch.down e) p.1)

    repair_wide : can_repair branch fails e ≡ true → can_repair whole fails e ≡ true
    repair_wide h =
        let p = and_parts (has fails e) (not (has branch.down e)) h in
        let wide = out_within whole.down branch.down e b.down (not-true (has branch.down e) p.1) in
        and_from (has fails e) (not (has whole.down e)) p.0 (not_from_false (has whole.down e) wide)

    -- a set without a link's risk group keeps to no branch in which the link is down
    repair_back : can_repair whole fails e ≡ true → keeps_to branch repaired ≡ true → can_repair branch fails e ≡ true
    repair_back h keeps =
        let own : has branch.down e ≡ false = false_from_ne_true (has branch.down e) (λ down.
        let there = within_has branch.down repaired e (keeps_parts repaired keeps).0 down in
        let left = where_has net (λ x. has fails x && not (same_risk net e x)) e there in
        let other = (and_parts (has fails e) (not (same_risk net e e)) left.1).1 in
        true≢false (sym (same_risk_self net e) ∙ not-true (same_risk net e e) other)) in
        let p = and_parts (has fails e) (not (has whole.down e)) h in
        and_from (has fails e) (not (has branch.down e)) p.0 (not_from_false (has branch.down e) own)

    repair_same : can_repair branch fails e ≡ (can_repair whole fails e && keeps_to branch repaired)
    repair_same =
        bool_same (can_repair branch fails e) (can_repair whole fails e && keeps_to branch repaired)
        (λ h. let keeps = keeps_from repaired (repair_allowed h) in
        and_from (can_repair whole fails e) (keeps_to branch repaired) (repair_wide h) keeps)
        (λ h. let p = and_parts (can_repair whole fails e) (keeps_to branch repaired) h in repair_back p.0 p.1)

  -- both definitions leave the same, and where that is a state its set is allowed
  abbrev LeaveTheSame : Option State → Option State → Type 0
  LeaveTheSame wide own = (wide ≡ own) × IfSome own (λ next. IsAllowed net branch next.fails)

  -- an event under a test, with what is asked of the state that it leaves, is the event under both
  abbrev kept : Option State → Option State
  kept o = option_and_then (λ s. cond (keeps_to branch s.fails) (Some s) None) o

  guarded : (wide own : Bool) (next : State) → own ≡ (wide && keeps_to branch next.fails)
      → (own ≡ true → IsAllowed net branch next.fails)
      → LeaveTheSame (kept (cond wide (Some next) None)) (cond own (Some next) None)
  guarded wide true next e a = let p = and_parts wide (keeps_to branch next.fails) (sym e) in (rw (p.0, p.1) refl, a refl)
  guarded false false next e a = (refl, tt)
  guarded true false next e a = (rw (sym e) refl, tt)

  event_same : (now : State) (event : Event) → IsAllowed net branch now.fails
      → LeaveTheSame (after_event_in net whole branch now event) (after_event net branch now event)
  event_same now (Fail e) a =
      guarded (can_fail whole now.fails e) (can_fail branch now.fails e) (record now { fails = with_risk net now.fails e })
      (fail_same now.fails e a) (fail_allowed now.fails e a)
  event_same now (Repair e) a =
      guarded (can_repair whole now.fails e) (can_repair branch now.fails e) (record now { fails = without_risk net now.fails e })
      (repair_same now.fails e a) (repair_allowed now.fails e a)
  -- a hop changes no failed set
  event_same now (Hop step) a = go (is_usable net now.fails (now.link, now.header) step) refl
    where
      Same : Type 0
      Same = LeaveTheSame (after_event_in net whole branch now (Hop step)) (after_event net branch now (Hop step))

      go2 : is_usable net now.fails (now.link, now.header) step ≡ true → (o : Option Location)
          → moved net (now.link, now.header) step ≡ o → Same
      go2 e None m = (rw (e, m) refl, rw (e, m) tt)
      go2 e (Some next) m = (rw (e, m, a.down, a.up) refl, rw (e, m) a)

      go : (c : Bool) → is_usable net now.fails (now.link, now.header) step ≡ c → Same
      go false e = (rw e refl, rw e tt)
      go true e = go2 e (moved net (now.link, now.header) step) refl

  events_same : (events : List Event) (now : State) → IsAllowed net branch now.fails
      → after_events_in net whole branch now events ≡ after_events net branch now events
  events_same [] now a = refl
  events_same (event ∷ events) now a =
      let same = event_same now event a in
      rw same.0 (go (after_event net branch now event) same.1 (λ next. events_same events next))
    where
      go : (left : Option State) → IfSome left (λ next. IsAllowed net branch next.fails)
          → ((next : State) → IsAllowed net branch next.fails
          → after_events_in net whole branch next events ≡ after_events net branch next events)
          → option_and_then (λ next. after_events_in net whole branch next events) left
          ≡ option_and_then (λ next. after_events net branch next events) left
      go None a ih = refl
      go (Some next) a ih = ih next a

  -- the same courses of events, and so the same runs
  module _ (run : Run) where
    same_course : (events : List Event) → after_events_in net whole branch (start_of branch run) events ≡ after_events net branch (start_of branch run) events
    same_course events = events_same events (start_of branch run) (allowed_down net branch b.bounds)

    pub branch_moving : IsBranchRun net whole branch run → IsMovingRun net branch run
    branch_moving r = record { start = r.start; events = r.events; last = r.last; allowed = sym (same_course r.events) ∙ r.allowed; steps = r.steps; ends = r.ends }

    pub moving_branch : IsMovingRun net branch run → IsBranchRun net whole branch run
    moving_branch r = record { start = r.start; events = r.events; last = r.last; allowed = same_course r.events ∙ r.allowed; steps = r.steps; ends = r.ends }
