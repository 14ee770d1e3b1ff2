-- Moving runs are the runs of possible hops.
use Rattle.std.proofs.Common.{◌≡◌, Bool, true, false, not, ◌&&◌, ◌||◌, nat_eq, nat_lt, nat_le, List, [], ◌∷◌, ◌++◌, Option, Some, None, refl, arith, ap, inl, inr, sym, ◌∙◌}
use Rattle.std.proofs.lemmas.Bool.{leb-true, lt-ltb, and_parts, and_from, not-true, not_from_false, or_cases, or_left, or_right, false_from_ne_true, true≢false, cases_Bool}
use Rattle.std.specs.Option.{option_map, option_and_then}
use Rattle.wi_labels.specs.Header.{Entry}
use Rattle.wi_net.specs.declared.parts.LinkId.{LinkId}
use Rattle.wi_net.specs.Net.{Net}
use Rattle.wi_net.specs.declared.bounds.Bounds.{Bounds}
use Rattle.wi_net.specs.LinkSet.{has, is_apart, outside}
use Rattle.wi_net.specs.Net.{all_links, is_link, same_risk, widened, risk_count, with_risk, without_risk}
use Rattle.wi_net.specs.Network.{IsNetwork}
use Rattle.wi_net.proofs.SetLemmas.{has-all_links, has_where, where_has, union_has, union_link, within_has, apart_has, same_risk_self, same_link}
use Rattle.wi_net.proofs.CountLemmas.{count_less}
use Rattle.wi_world.specs.declared.run.Step.{Step}
use Rattle.wi_world.specs.declared.run.Run.{Run}
use Rattle.wi_world.specs.declared.run.End.{End}
use Rattle.wi_world.specs.declared.world.State.{State}
use Rattle.wi_world.specs.declared.world.Event.{Event}
use Rattle.wi_world.specs.declared.world.Event.TheVariants.{Fail, Repair, Hop}
use Rattle.wi_world.specs.Moves.{Location, groups_at, moved, needed, is_usable, may_be_down, is_possible, may_end, needed_to_end, can_end, is_start, is_possible_run, IsAllowed, AreBounds}
use Rattle.wi_world.specs.Moving.{after_event, after_events, hops, start_of, IsMovingRun}
use Rattle.wi_world.proofs.Allowed.{allowed_down, allowed_with, allowed_without, before_union, down_parts, usable_possible, possible_usable, Possible, possible_down, possible_parts}
use Rattle.wi_world.proofs.EndLemmas.{end_union, end_down, end_spares, may_can, can_may}
use Rattle.wi_world.proofs.Steps.{follows_from, goes, goes_on}

module _ (net : Net) (b : Bounds) (k : IsNetwork net) (kb : AreBounds net b) where
  -- when a link may fail, and what else is so then
  abbrev can_fail : State → LinkId → Bool
  can_fail st e = is_link net e && not (has st.fails e) && not (has b.up e) && nat_lt (risk_count net (outside st.fails b.down)) b.k

  abbrev can_repair : State → LinkId → Bool
  can_repair st e = has st.fails e && not (has b.down e)

  -- each hop of a course of events is a possible hop, and an end that may be after it can be
  forwards : (end : End) (last : State) → may_end net last.fails (last.link, last.header) end ≡ true → (events : List Event) (st : State) → IsAllowed net b st.fails → after_events net b st events ≡ Some last → goes net b end (st.link, st.header) (hops events) ≡ true
  forwards end last ends [] st a h =
      let same : st ≡ last = cc in
      may_can net b st.fails (st.link, st.header) end k a (rw same ends)
  forwards end last ends (Fail e ∷ events) st a h = go (can_fail st e) refl (forwards end last ends events (record st { fails = with_risk net st.fails e }))
    where
      go : (c : Bool) → can_fail st e ≡ c → (IsAllowed net b (with_risk net st.fails e) → after_events net b (record st { fails = with_risk net st.fails e }) events ≡ Some last → goes net b end (st.link, st.header) (hops events) ≡ true) → goes net b end (st.link, st.header) (hops events) ≡ true
      go true c ih =
          let p1 = and_parts (is_link net e && not (has st.fails e) && not (has b.up e)) (nat_lt (risk_count net (outside st.fails b.down)) b.k) c in
          let p2 = and_parts (is_link net e && not (has st.fails e)) (not (has b.up e)) p1.0 in
          let p3 = and_parts (is_link net e) (not (has st.fails e)) p2.0 in
          ih (allowed_with net b st.fails e kb a p3.0 (not-true (has b.up e) p2.1) p1.1) (rw c at h)
      go false c ih = let none : None ≡ Some last = rw c at h in cc
  forwards end last ends (Repair e ∷ events) st a h = go (can_repair st e) refl (forwards end last ends events (record st { fails = without_risk net st.fails e }))
    where
      go : (c : Bool) → can_repair st e ≡ c → (IsAllowed net b (without_risk net st.fails e) → after_events net b (record st { fails = without_risk net st.fails e }) events ≡ Some last → goes net b end (st.link, st.header) (hops events) ≡ true) → goes net b end (st.link, st.header) (hops events) ≡ true
      go true c ih =
          let parts = and_parts (has st.fails e) (not (has b.down e)) c in
          ih (allowed_without net b st.fails e kb a (union_link net st.fails e a.union parts.0) (not-true (has b.down e) parts.1)) (rw c at h)
      go false c ih = let none : None ≡ Some last = rw c at h in cc
  forwards end last ends (Hop step ∷ events) st a h = go (is_usable net st.fails (st.link, st.header) step) refl (λ next. forwards end last ends events (record { link = next.0; header = next.1; fails = st.fails }) a)
    where
      go : (c : Bool) → is_usable net st.fails (st.link, st.header) step ≡ c → ((next : Location) → after_events net b (record { link = next.0; header = next.1; fails = st.fails }) events ≡ Some last → goes net b end next (hops events) ≡ true) → goes net b end (st.link, st.header) (step ∷ hops events) ≡ true
      go false c ih = let none : None ≡ Some last = rw c at h in cc
      go true c ih = go2 (moved net (st.link, st.header) step) refl
        where
          h1 : option_and_then (λ (next : State). after_events net b next events) (option_map (λ (next : Location). record { link = next.0; header = next.1; fails = st.fails }) (moved net (st.link, st.header) step)) ≡ Some last
          h1 = rw c at h

          go2 : (o : Option Location) → moved net (st.link, st.header) step ≡ o → goes net b end (st.link, st.header) (step ∷ hops events) ≡ true
          go2 None m = let none : None ≡ Some last = rw m at h1 in cc
          go2 (Some next) m =
              follows_from net (is_possible net b) (λ place. can_end net b place end) (st.link, st.header) step next (hops events) m
              (usable_possible net b st.fails (st.link, st.header) step a c) (ih next (rw m at h1))

  -- failures and repairs that lead to a set of failed links
  record Leads (st : State) (fails : List LinkId) : Type 0 where
    events : List Event
    after : after_events net b st events ≡ Some (record st { fails = fails })
    quiet : hops events ≡ []
    allowed : IsAllowed net b fails

  stays : (st : State) → IsAllowed net b st.fails → Leads st st.fails
  stays st a = record { events = []; after = refl; quiet = refl; allowed = a }

  first_fail : (st : State) (e : LinkId) (fails : List LinkId) → can_fail st e ≡ true → Leads (record st { fails = with_risk net st.fails e }) fails → Leads st fails
  first_fail st e fails c l = record { events = Fail e ∷ l.events; after = rw c l.after; quiet = l.quiet; allowed = l.allowed }

  first_repair : (st : State) (e : LinkId) (fails : List LinkId) → can_repair st e ≡ true → Leads (record st { fails = without_risk net st.fails e }) fails → Leads st fails
  first_repair st e fails c l = record { events = Repair e ∷ l.events; after = rw c l.after; quiet = l.quiet; allowed = l.allowed }

  -- everything is repaired but what is known to be down: so far, at some of the links
  record Repaired (st : State) (links : List LinkId) : Type 0 where
    fails : List LinkId
    leads : Leads st fails
    fewer : (e : LinkId) → has fails e ≡ true → has st.fails e ≡ true
    rest : (e : LinkId) → has links e ≡ true → has fails e ≡ true → has b.down e ≡ true

  repaired : (links : List LinkId) (st : State) → IsAllowed net b st.fails → Repaired st links
  repaired [] st a = record { fails = st.fails; leads = stays st a; fewer = λ e h. h; rest = λ e h. cc }
  repaired (x ∷ links) st a = go (can_repair st x) refl (repaired links st a) (repaired links (record st { fails = without_risk net st.fails x }))
    where
      go : (c : Bool) → can_repair st x ≡ c → Repaired st links → (IsAllowed net b (without_risk net st.fails x) → Repaired (record st { fails = without_risk net st.fails x }) links) → Repaired st (x ∷ links)
      go true c same more =
          let parts = and_parts (has st.fails x) (not (has b.down x)) c in
          let known : is_link net x ≡ true = union_link net st.fails x a.union parts.0 in
          let next = more (allowed_without net b st.fails x kb a known (not-true (has b.down x) parts.1)) in
          record {
            fails = next.fails;
            leads = first_repair st x next.fails c next.leads;
            fewer = λ e h. (and_parts (has st.fails e) (not (same_risk net x e)) ((where_has net (λ y. has st.fails y && not (same_risk net x y)) e (next.fewer e h)).1)).0;
            rest = λ e l h. elim (or_cases (nat_eq x.0 e.0) (has links e) l) [
              | inl eb ↦
                  (let gone = (and_parts (has st.fails e) (not (same_risk net x e)) ((where_has net (λ y. has st.fails y && not (same_risk net x y)) e (next.fewer e h)).1)).1 in
                  let self : same_risk net x e ≡ true = rw (same_link x e eb) (same_risk_self net e) in
                  absurd (true≢false (sym self ∙ not-true (same_risk net x e) gone)))
              | inr more_links ↦ next.rest e more_links h
            ];
          }
      go false c same more = record {
        fails = same.fails;
        leads = same.leads;
        fewer = same.fewer;
        rest = λ e l h. elim (or_cases (nat_eq x.0 e.0) (has links e) l) [
          | inl eb ↦
              (let was : has st.fails x ≡ true = rw (same_link x e eb) (same.fewer e h) in
              let down : has b.down x ≡ true = elim (cases_Bool (has b.down x)) [ inl t ↦ t | inr f ↦ absurd (true≢false (sym (and_from (has st.fails x) (not (has b.down x)) was (not_from_false (has b.down x) f)) ∙ c)) ] in
              rw (sym (same_link x e eb)) down)
          | inr more_links ↦ same.rest e more_links h
        ];
      }

  -- a union that may fail besides what is known to be down
  record Target (t : List LinkId) : Type 0 where
    union : widened net t ≡ t
    up : is_apart t b.up ≡ true
    few : nat_le (risk_count net (outside t b.down)) b.k ≡ true

  -- what is wanted fails: so far, at some of the links
  record Failed (t : List LinkId) (st : State) (links : List LinkId) : Type 0 where
    fails : List LinkId
    leads : Leads st fails
    within : (e : LinkId) → has fails e ≡ true → has b.down e ≡ false → has t e ≡ true
    more : (e : LinkId) → has st.fails e ≡ true → has fails e ≡ true
    rest : (e : LinkId) → has links e ≡ true → has t e ≡ true → has fails e ≡ true

  failed : (t : List LinkId) (links : List LinkId) (st : State) → Target t → IsAllowed net b st.fails → ((e : LinkId) → has st.fails e ≡ true → has b.down e ≡ false → has t e ≡ true) → Failed t st links
  failed t [] st g a w = record { fails = st.fails; leads = stays st a; within = w; more = λ e h. h; rest = λ e h. cc }
  failed t (x ∷ links) st g a w = go (has t x && not (has st.fails x)) refl (failed t links st g a w) (failed t links (record st { fails = with_risk net st.fails x }) g)
    where
      go : (c : Bool) → (has t x && not (has st.fails x)) ≡ c → Failed t st links → (IsAllowed net b (with_risk net st.fails x) → ((e : LinkId) → has (with_risk net st.fails x) e ≡ true → has b.down e ≡ false → has t e ≡ true) → Failed t (record st { fails = with_risk net st.fails x }) links) → Failed t st (x ∷ links)
      go true c same next_of =
          let parts = and_parts (has t x) (not (has st.fails x)) c in
          let known : is_link net x ≡ true = union_link net t x g.union parts.0 in
          let new : has st.fails x ≡ false = not-true (has st.fails x) parts.1 in
          let not_down : has b.down x ≡ false = false_from_ne_true (has b.down x) (λ d. true≢false (sym (within_has b.down st.fails x a.down d) ∙ new)) in
          let not_up : has b.up x ≡ false = apart_has t b.up x g.up parts.0 in
          let less = count_less net st.fails t b.down x k a.union g.union kb.down w parts.0 new not_down in
          let most = leb-true (risk_count net (outside t b.down)) b.k g.few in
          let room : nat_lt (risk_count net (outside st.fails b.down)) b.k ≡ true = lt-ltb (risk_count net (outside st.fails b.down)) b.k (omega (arith, less, most)) in
          let can : can_fail st x ≡ true = and_from (is_link net x && not (has st.fails x) && not (has b.up x)) (nat_lt (risk_count net (outside st.fails b.down)) b.k) (and_from (is_link net x && not (has st.fails x)) (not (has b.up x)) (and_from (is_link net x) (not (has st.fails x)) known parts.1) (not_from_false (has b.up x) not_up)) room in
          let next = next_of (allowed_with net b st.fails x kb a known not_up room) (λ e h d.
          let there = where_has net (λ y. has st.fails y || same_risk net x y) e h in
          elim (or_cases (has st.fails e) (same_risk net x e) there.1) [
            | inl old ↦ w e old d
            | inr r ↦ union_has net t x e g.union parts.0 r there.0
          ]) in
          record {
            fails = next.fails;
            leads = first_fail st x next.fails can next.leads;
            within = next.within;
            more = λ e h. next.more e (has_where net (λ y. has st.fails y || same_risk net x y) e (union_link net st.fails e a.union h) (or_left (has st.fails e) (same_risk net x e) h));
            rest = λ e l h. elim (or_cases (nat_eq x.0 e.0) (has links e) l) [
              | inl eb ↦ rw (sym (same_link x e eb)) (next.more x (has_where net (λ y. has st.fails y || same_risk net x y) x known (or_right (has st.fails x) (same_risk net x x) (same_risk_self net x))))
              | inr more_links ↦ next.rest e more_links h
            ];
          }
      go false c same next_of = record {
        fails = same.fails;
        leads = same.leads;
        within = same.within;
        more = same.more;
        rest = λ e l h. elim (or_cases (nat_eq x.0 e.0) (has links e) l) [
          | inl eb ↦
              (let there : has t x ≡ true = rw (same_link x e eb) h in
              let was : has st.fails x ≡ true = elim (cases_Bool (has st.fails x)) [ inl y ↦ y | inr f ↦ absurd (true≢false (sym (and_from (has t x) (not (has st.fails x)) there (not_from_false (has st.fails x) f)) ∙ c)) ] in
              rw (sym (same_link x e eb)) (same.more x was))
          | inr more_links ↦ same.rest e more_links h
        ];
      }

  -- one course of events after another
  after_append : (xs ys : List Event) (st mid : State) → after_events net b st xs ≡ Some mid → after_events net b st (xs ++ ys) ≡ after_events net b mid ys
  after_append [] ys st mid h = let e : st ≡ mid = cc in rw e refl
  after_append (x ∷ xs) ys st mid h = go (after_event net b st x) refl (after_append xs ys)
    where
      go : (o : Option State) → after_event net b st x ≡ o → ((next mid2 : State) → after_events net b next xs ≡ Some mid2 → after_events net b next (xs ++ ys) ≡ after_events net b mid2 ys) → after_events net b st ((x ∷ xs) ++ ys) ≡ after_events net b mid ys
      go None e ih = let h1 : None ≡ Some mid = sym (rw e refl) ∙ h in cc
      go (Some next) e ih = rw e (ih next mid (rw e at h))

  hops_append : (xs ys : List Event) → hops (xs ++ ys) ≡ hops xs ++ hops ys
  hops_append [] ys = refl
  hops_append (Fail e ∷ xs) ys = hops_append xs ys
  hops_append (Repair e ∷ xs) ys = hops_append xs ys
  hops_append (Hop step ∷ xs) ys = ap (λ t. step ∷ t) (hops_append xs ys)

  -- one course of failures and repairs after another
  then_leads : (st : State) (mid fails : List LinkId) → Leads st mid → Leads (record st { fails = mid }) fails → Leads st fails
  then_leads st mid fails l m = record {
    events = l.events ++ m.events;
    after = after_append l.events m.events st (record st { fails = mid }) l.after ∙ m.after;
    quiet = hops_append l.events m.events ∙ rw (l.quiet, m.quiet) refl;
    allowed = m.allowed;
  }

  -- a union that may be down is brought down, and of what isn't known to be down nothing else
  record Brought (st : State) (t : List LinkId) : Type 0 where
    fails : List LinkId
    leads : Leads st fails
    within : (e : LinkId) → has fails e ≡ true → has b.down e ≡ false → has t e ≡ true
    all : (e : LinkId) → has t e ≡ true → has fails e ≡ true

  brought : (t : List LinkId) (st : State) → widened net t ≡ t → may_be_down net b t ≡ true → IsAllowed net b st.fails → Brought st t
  brought t st u d a = record { fails = f.fails; leads = then_leads st r.fails f.fails r.leads f.leads; within = f.within; all = λ e i. f.rest e (listed t e u i) i }
    where
      listed : (s : List LinkId) (e : LinkId) → widened net s ≡ s → has s e ≡ true → has (all_links net) e ≡ true
      listed s e us i = has-all_links net e ∙ union_link net s e us i

      r : Repaired st (all_links net)
      r = repaired (all_links net) st a

      f : Failed t (record st { fails = r.fails }) (all_links net)
      f = let p = down_parts net b t d in
          failed t (all_links net) (record st { fails = r.fails }) (record { union = u; up = p.1; few = p.0 }) r.leads.allowed
          (λ e i no_down. absurd (true≢false (sym (r.rest e (listed r.fails e r.leads.allowed.union i) i) ∙ no_down)))

  -- which spares each link that isn't in it, nor known to be down
  spared : (st : State) (t : List LinkId) (br : Brought st t) (e : LinkId) → has t e ≡ false → has b.down e ≡ false → has br.fails e ≡ false
  spared st t br e no_t no_down = false_from_ne_true (has br.fails e) (λ i. true≢false (sym (br.within e i no_down) ∙ no_t))

  -- failures and repairs that lead to a set of failed links that passes a test
  record Ready (st : State) (test : List LinkId → Bool) : Type 0 where
    fails : List LinkId
    leads : Leads st fails
    passes : test fails ≡ true

  -- a possible hop can be made usable
  ready : (st : State) (step : Step) → IsAllowed net b st.fails → is_possible net b (st.link, st.header) step ≡ true → Ready st (λ fails. is_usable net fails (st.link, st.header) step)
  ready st step a h = record {
    fails = br.fails;
    leads = br.leads;
    passes = possible_usable net br.fails (st.link, st.header) step k br.all p.named
        (spared st (needed net (st.link, st.header) step) br p.named.member.link p.spared p.alive);
  }
    where
      p : Possible net b (st.link, st.header) step
      p = possible_parts net b (st.link, st.header) step h

      br : Brought st (needed net (st.link, st.header) step)
      br = brought (needed net (st.link, st.header) step) st (before_union net (groups_at net st.link st.header) step.group) (possible_down net b (st.link, st.header) step h) a

  -- and so may an end that can be
  ready_to_end : (st : State) (end : End) → IsAllowed net b st.fails → can_end net b (st.link, st.header) end ≡ true → Ready st (λ fails. may_end net fails (st.link, st.header) end)
  ready_to_end st end a h = record {
    fails = br.fails;
    leads = br.leads;
    passes = can_may net b br.fails (st.link, st.header) end k br.all
        (λ e i. let s = end_spares net b (st.link, st.header) end e h i in spared st (needed_to_end net (st.link, st.header) end) br e s.0 s.1) h;
  }
    where
      br : Brought st (needed_to_end net (st.link, st.header) end)
      br = brought (needed_to_end net (st.link, st.header) end) st (end_union net (st.link, st.header) end) (end_down net b (st.link, st.header) end h) a

  -- a course of events with these hops, after which a packet may end so
  record Course (st : State) (steps : List Step) (end : End) : Type 0 where
    events : List Event
    last : State
    happens : after_events net b st events ≡ Some last
    hops_are : hops events ≡ steps
    ends : may_end net last.fails (last.link, last.header) end ≡ true

  hop_then : (e : LinkId) (header : List Entry) (fails : List LinkId) (step : Step) (next : Location) (events : List Event) (last : State) → is_usable net fails (e, header) step ≡ true → moved net (e, header) step ≡ Some next → after_events net b (record { link = next.0; header = next.1; fails = fails }) events ≡ Some last → after_events net b (record { link = e; header = header; fails = fails }) (Hop step ∷ events) ≡ Some last
  hop_then e header fails step next events last u m h = rw u (rw m h)

  -- a course of events in which these hops happen and a packet ends so, where each hop is possible and the end can be
  backwards : (end : End) (steps : List Step) (st : State) → IsAllowed net b st.fails → goes net b end (st.link, st.header) steps ≡ true → Course st steps end
  backwards end [] st a h =
      let r = ready_to_end st end a h in
      record { events = r.leads.events; last = record st { fails = r.fails }; happens = r.leads.after; hops_are = r.leads.quiet; ends = r.passes }
  backwards end (step ∷ steps) st a h =
      let o = goes_on net b end (st.link, st.header) step steps h in
      let r = ready st step a o.passes in
      let rest = backwards end steps (record { link = (o.next).0; header = (o.next).1; fails = r.fails }) r.leads.allowed o.rest in
      record {
        events = r.leads.events ++ (Hop step ∷ rest.events);
        last = rest.last;
        happens = after_append r.leads.events (Hop step ∷ rest.events) st (record st { fails = r.fails }) r.leads.after ∙ hop_then st.link st.header r.fails step o.next rest.events rest.last r.passes o.moves rest.happens;
        hops_are = hops_append r.leads.events (Hop step ∷ rest.events) ∙ rw (r.leads.quiet, rest.hops_are) refl;
        ends = rest.ends;
      }

-- a run moves exactly where each of its steps is a possible hop, and its end can be
pub moving_possible : (net : Net) (b : Bounds) (run : Run) → IsNetwork net → AreBounds net b → IsMovingRun net b run → is_possible_run net b run ≡ true
moving_possible net b run k kb m =
    and_from (is_start net b.down run.first run.header) (goes net b run.end (run.first, run.header) run.steps) m.start
    (rw (sym m.steps) (forwards net b k kb run.end m.last m.ends m.events (start_of b run) (allowed_down net b kb) m.allowed))

pub possible_moving : (net : Net) (b : Bounds) (run : Run) → IsNetwork net → AreBounds net b → is_possible_run net b run ≡ true → IsMovingRun net b run
possible_moving net b run k kb h =
    let parts = and_parts (is_start net b.down run.first run.header) (goes net b run.end (run.first, run.header) run.steps) h in
    let c = backwards net b k kb run.end run.steps (start_of b run) (allowed_down net b kb) parts.1 in
    record { start = parts.0; events = c.events; last = c.last; allowed = c.happens; steps = c.hops_are; ends = c.ends }
