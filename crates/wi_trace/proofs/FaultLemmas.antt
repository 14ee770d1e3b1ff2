-- A run has no fault exactly where it is a trace, or a run of possible hops.
use Rattle.std.proofs.Common.{◌≡◌, ℕ, ◌+◌, Bool, true, false, not, ◌&&◌, ◌||◌, nat_lt, nat_le, List, [], ◌∷◌, slice_get, Option, Some, None, Result, Ok, Err, refl, sym, ◌∙◌, if◌then◌else◌}
use Rattle.std.proofs.lemmas.Bool.{ltb-false, leb-true, le-ltb, le-leb, and_parts, and_from, not-true, not_from_false, or_parts, false_from_ne_true}
use Rattle.std.specs.Prelude.{is_none}
use Rattle.std.specs.List.{find}
use Rattle.std.specs.Option.{option_map}
use Rattle.wi_labels.specs.Header.{Entry, outcome, after_ops}
use Rattle.wi_net.specs.declared.parts.LinkId.{LinkId}
use Rattle.wi_net.specs.declared.parts.Member.{Member}
use Rattle.wi_net.specs.declared.bounds.Bounds.{Bounds}
use Rattle.wi_net.specs.LinkSet.{has, is_apart, outside}
use Rattle.wi_net.specs.Net.{Net, risk_count, first_active}
use Rattle.wi_net.proofs.SetLemmas.{apart_from, apart_has}
use Rattle.wi_world.specs.declared.run.Step.{Step}
use Rattle.wi_world.specs.declared.run.Run.{Run}
use Rattle.wi_world.specs.declared.run.End.{End}
use Rattle.wi_world.specs.declared.run.End.TheVariants.{Arrives, Inactive, Undefined as Dropped}
use Rattle.wi_world.specs.Moves.{Location, groups_at, through, moved, needed, by_link, is_usable, may_be_down, may_be_up, is_possible, is_undefined, may_end, needed_to_end, can_end, follows, is_start, is_trace, is_possible_run}
use Rattle.wi_world.proofs.Allowed.{Names, by_link_names, names_by_link, member_named, down_parts, possible_down, possible_parts}
use Rattle.wi_world.proofs.RunLaws.{find_none, none_found}
use Rattle.wi_world.proofs.Steps.{onward, follows_from}
use Rattle.wi_trace.specs.declared.cause.Cause.{Cause}
use Rattle.wi_trace.specs.declared.cause.Cause.TheVariants.{BadStart, NoGroup, NoMember, NotFirstActive, LinkFailed, TooManyBefore, NeedsUp, LinkBefore, Undefined, Active, Defined}
use Rattle.wi_trace.specs.Replays.{undefined_cause, defined_cause, member_cause, is_first_active, taken_cause, needs_cause, taken_moving_cause, hop_cause, moving_cause, end_cause, moving_end_cause, first_fault, run_fault, trace_fault, moving_fault}

-- ---- one step

-- a step has no cause: it names a member, against which there is nothing
record Free (judge : Member → Option Cause) (net : Net) (at : Location) (step : Step) : Type 0 where
  names : Names net at step
  none : judge names.member ≡ None

-- what is said of the group that a step names, and of the member
abbrev pub by_member : (Member → Option Cause) → Option Member → Option Cause
by_member judge None = Some NoMember
by_member judge (Some member) = judge member

abbrev pub by_group : (Member → Option Cause) → Step → Option (List Member) → Option Cause
by_group judge step None = Some NoGroup
by_group judge step (Some group) = by_member judge (slice_get group step.member)

pub cause_parts : (judge : Member → Option Cause) (net : Net) (at : Location) (step : Step) → member_cause judge net at step ≡ by_group judge step (slice_get (groups_at net at.0 at.1) step.group)
cause_parts judge net at step = refl

free : (judge : Member → Option Cause) (net : Net) (at : Location) (step : Step) → member_cause judge net at step ≡ None → Free judge net at step
free judge net at step h = go (slice_get (groups_at net at.0 at.1) step.group) refl
  where
    h1 : by_group judge step (slice_get (groups_at net at.0 at.1) step.group) ≡ None
    h1 = h

    go : (o : Option (List Member)) → slice_get (groups_at net at.0 at.1) step.group ≡ o → Free judge net at step
    go None eo = let e : Some NoGroup ≡ None = rw eo at h1 in cc
    go (Some g) eo = go2 (slice_get g step.member) refl
      where
        h2 : by_member judge (slice_get g step.member) ≡ None
        h2 = rw eo at h1

        go2 : (o : Option Member) → slice_get g step.member ≡ o → Free judge net at step
        go2 None em = let e : Some NoMember ≡ None = rw em at h2 in cc
        go2 (Some m) em = record { names = record { group = g; member = m; group_is = eo; member_is = em }; none = rw em at h2 }

pub cause_named : (judge : Member → Option Cause) (net : Net) (at : Location) (step : Step) (n : Names net at step) → member_cause judge net at step ≡ judge n.member
cause_named judge net at step n = cause_parts judge net at step ∙ rw n.group_is (rw n.member_is refl)

-- a member whose operations are defined leads on
pub record Leads (net : Net) (at : Location) (step : Step) : Type 0 where
  pub next : Location
  pub leads : moved net at step ≡ Some next

pub moved_to : (net : Net) (at : Location) (step : Step) (n : Names net at step) (header : List Entry) → outcome 0 n.member.ops at.1 ≡ Ok header → moved net at step ≡ Some (n.member.link, header)
moved_to net at step n header e = rw (member_named net at step n) (rw (e, after_ops) refl)

pub moved_none : (net : Net) (at : Location) (step : Step) (n : Names net at step) (i : ℕ) → outcome 0 n.member.ops at.1 ≡ Err i → moved net at step ≡ None
moved_none net at step n i e = rw (member_named net at step n) (rw (e, after_ops) refl)

defined_leads : (net : Net) (at : Location) (step : Step) (n : Names net at step) → undefined_cause at.1 n.member ≡ None → Leads net at step
defined_leads net at step n h = go (outcome 0 n.member.ops at.1) refl
  where
    go : (r : Result (List Entry) ℕ) → outcome 0 n.member.ops at.1 ≡ r → Leads net at step
    go (Ok header) e = record { next = (n.member.link, header); leads = moved_to net at step n header e }
    go (Err i) e = let x : Some (Undefined i) ≡ None = rw (e, undefined_cause) at h in cc

leads_defined : (net : Net) (at : Location) (step : Step) (n : Names net at step) (next : Location) → moved net at step ≡ Some next → undefined_cause at.1 n.member ≡ None
leads_defined net at step n next m = go (outcome 0 n.member.ops at.1) refl
  where
    go : (r : Result (List Entry) ℕ) → outcome 0 n.member.ops at.1 ≡ r → undefined_cause at.1 n.member ≡ None
    go (Ok header) e = rw (e, undefined_cause) refl
    go (Err i) e = let x : None ≡ Some next = sym (moved_none net at step n i e) ∙ m in cc

-- ---- a whole run

-- tests and causes agree: where a step has no cause, its test passes and it leads on, and the other way round; and so for an end
pub record Agree (net : Net) (test : Location → Step → Bool) (last : Location → Bool) (cause : Location → Step → Option Cause) (final : Location → Option Cause) : Type 0 where
  pub passes : (at : Location) (step : Step) → cause at step ≡ None → test at step ≡ true
  pub leads : (at : Location) (step : Step) → cause at step ≡ None → Leads net at step
  pub none : (at : Location) (step : Step) (next : Location) → test at step ≡ true → moved net at step ≡ Some next → cause at step ≡ None
  pub ends : (at : Location) → final at ≡ None → last at ≡ true
  pub none_last : (at : Location) → last at ≡ true → final at ≡ None

module _ (net : Net) (test : Location → Step → Bool) (last : Location → Bool) (cause : Location → Step → Option Cause) (final : Location → Option Cause) (agree : Agree net test last cause final) where
  fault_follows : (n : ℕ) (at : Location) (steps : List Step) → first_fault net cause final n at steps ≡ None → follows net test last at steps ≡ true
  fault_follows n at [] h = go (final at) refl
    where
      go : (o : Option Cause) → final at ≡ o → last at ≡ true
      go None e = agree.ends at e
      go (Some why) e = let x : ◌≡◌ {A = Option (ℕ × Cause)} (Some (n, why)) None = rw e at h in cc
  fault_follows n at (step ∷ steps) h = go (cause at step) refl (λ next. fault_follows (n + 1) next steps)
    where
      go : (o : Option Cause) → cause at step ≡ o → ((next : Location) → first_fault net cause final (n + 1) next steps ≡ None → follows net test last next steps ≡ true) → follows net test last at (step ∷ steps) ≡ true
      go (Some why) e ih = let x : ◌≡◌ {A = Option (ℕ × Cause)} (Some (n, why)) None = rw (e, first_fault) at h in cc
      go None e ih =
          let l = agree.leads at step e in
          let rest : first_fault net cause final (n + 1) l.next steps ≡ None = rw l.leads at (rw (e, first_fault) at h) in
          follows_from net test last at step l.next steps l.leads (agree.passes at step e) (ih l.next rest)

  follows_fault : (n : ℕ) (at : Location) (steps : List Step) → follows net test last at steps ≡ true → first_fault net cause final n at steps ≡ None
  follows_fault n at [] h = rw (agree.none_last at h) refl
  follows_fault n at (step ∷ steps) h =
      let o = onward net test last at step steps h in
      rw (agree.none at step o.next o.passes o.moves, first_fault) (rw o.moves (follows_fault (n + 1) o.next steps o.rest))

  run_follows : (down : List LinkId) (run : Run) → run_fault net down cause final run ≡ None → (is_start net down run.first run.header && follows net test last (run.first, run.header) run.steps) ≡ true
  run_follows down run h = go (is_start net down run.first run.header) refl
    where
      go : (c : Bool) → is_start net down run.first run.header ≡ c → (is_start net down run.first run.header && follows net test last (run.first, run.header) run.steps) ≡ true
      go true c = and_from (is_start net down run.first run.header) (follows net test last (run.first, run.header) run.steps) c (fault_follows 1 (run.first, run.header) run.steps (rw c at h))
      go false c = let x : ◌≡◌ {A = Option (ℕ × Cause)} (Some (0, BadStart)) None = rw c at h in cc

  follows_run : (down : List LinkId) (run : Run) → (is_start net down run.first run.header && follows net test last (run.first, run.header) run.steps) ≡ true → run_fault net down cause final run ≡ None
  follows_run down run h =
      let parts = and_parts (is_start net down run.first run.header) (follows net test last (run.first, run.header) run.steps) h in
      rw parts.0 (follows_fault 1 (run.first, run.header) run.steps parts.1)

-- ---- a member's operations

-- what is said of a member's operations, on a header
abbrev pub Judging : Type 0
Judging = List Entry → Member → Option Cause

-- a step that passes a test, with a member of whose operations nothing is said
record Taken (judging : Judging) (test : Bool) (net : Net) (at : Location) (step : Step) : Type 0 where
  passes : test ≡ true
  names : Names net at step
  none : judging at.1 names.member ≡ None

undefined_none : (net : Net) (at : Location) (step : Step) (n : Names net at step) → defined_cause at.1 n.member ≡ None → is_undefined net at step ≡ true
undefined_none net at step n h = go (outcome 0 n.member.ops at.1) refl
  where
    go : (r : Result (List Entry) ℕ) → outcome 0 n.member.ops at.1 ≡ r → is_undefined net at step ≡ true
    go (Ok header) e = let x : Some Defined ≡ None = rw (e, defined_cause) at h in cc
    go (Err i) e = rw (member_named net at step n) (rw (e, after_ops) refl)

none_undefined : (net : Net) (at : Location) (step : Step) (n : Names net at step) → is_undefined net at step ≡ true → defined_cause at.1 n.member ≡ None
none_undefined net at step n h = go (outcome 0 n.member.ops at.1) refl
  where
    h1 : is_none (through at.1 n.member) ≡ true
    h1 = rw (member_named net at step n) at h

    go : (r : Result (List Entry) ℕ) → outcome 0 n.member.ops at.1 ≡ r → defined_cause at.1 n.member ≡ None
    go (Ok header) e = let x : false ≡ true = rw (e, after_ops) at h1 in cc
    go (Err i) e = rw (e, defined_cause) refl

-- ---- under one set

abbrev pub hop_judge : Judging → Net → List LinkId → Location → Step → Member → Option Cause
hop_judge judging net fails at step member = if is_first_active net fails at step.group then (if has fails member.link then Some LinkFailed else judging at.1 member) else Some NotFirstActive

record Usable (judging : Judging) (net : Net) (fails : List LinkId) (at : Location) (step : Step) (member : Member) : Type 0 where
  first : is_first_active net fails at step.group ≡ true
  alive : has fails member.link ≡ false
  none : judging at.1 member ≡ None

usable : (judging : Judging) (net : Net) (fails : List LinkId) (at : Location) (step : Step) (member : Member) → hop_judge judging net fails at step member ≡ None → Usable judging net fails at step member
usable judging net fails at step member h = go (is_first_active net fails at step.group) (has fails member.link) refl refl
  where
    go : (b c : Bool) → is_first_active net fails at step.group ≡ b → has fails member.link ≡ c → Usable judging net fails at step member
    go false c eb ec = let e : Some NotFirstActive ≡ None = rw eb at h in cc
    go true true eb ec = let e : Some LinkFailed ≡ None = rw ec at (rw eb at h) in cc
    go true false eb ec = record { first = eb; alive = ec; none = rw ec at (rw eb at h) }

-- a step without a cause is usable
cause_usable : (judging : Judging) (net : Net) (fails : List LinkId) (at : Location) (step : Step) → taken_cause judging net fails at step ≡ None → Taken judging (is_usable net fails at step) net at step
cause_usable judging net fails at step h =
    let f = free (hop_judge judging net fails at step) net at step h in
    let u = usable judging net fails at step f.names.member f.none in
    record {
      passes = and_from (is_first_active net fails at step.group) (by_link net at step (λ e. not (has fails e))) u.first
          (names_by_link net at step (λ e. not (has fails e)) f.names (not_from_false (has fails f.names.member.link) u.alive));
      names = f.names;
      none = u.none;
    }

usable_none : (judging : Judging) (net : Net) (fails : List LinkId) (at : Location) (step : Step) (member : Member) → Usable judging net fails at step member → hop_judge judging net fails at step member ≡ None
usable_none judging net fails at step member u = rw (u.first, u.alive) u.none

usable_cause : (judging : Judging) (net : Net) (fails : List LinkId) (at : Location) (step : Step) → is_usable net fails at step ≡ true → ((n : Names net at step) → judging at.1 n.member ≡ None) → taken_cause judging net fails at step ≡ None
usable_cause judging net fails at step t none =
    let parts = and_parts (is_first_active net fails at step.group) (by_link net at step (λ e. not (has fails e))) t in
    let named = by_link_names net at step (λ e. not (has fails e)) parts.1 in
    cause_named (hop_judge judging net fails at step) net at step named.0
    ∙ usable_none judging net fails at step (named.0).member (record { first = parts.0; alive = not-true (has fails (named.0).member.link) named.1; none = none named.0 })

-- an end without a cause may be
cause_may : (net : Net) (fails : List LinkId) (end : End) (at : Location) → end_cause net fails end at ≡ None → may_end net fails at end ≡ true
cause_may net fails Arrives at h = refl
cause_may net fails Inactive at h = go (first_active fails (groups_at net at.0 at.1)) refl
  where
    go : (o : Option ℕ) → first_active fails (groups_at net at.0 at.1) ≡ o → is_none (first_active fails (groups_at net at.0 at.1)) ≡ true
    go None e = rw e refl
    go (Some j) e = let x : Some (Active j) ≡ None = rw e at h in cc
cause_may net fails (Dropped step) at h =
    let t = cause_usable defined_cause net fails at step h in
    and_from (is_usable net fails at step) (is_undefined net at step) t.passes (undefined_none net at step t.names t.none)

may_cause : (net : Net) (fails : List LinkId) (end : End) (at : Location) → may_end net fails at end ≡ true → end_cause net fails end at ≡ None
may_cause net fails Arrives at h = refl
may_cause net fails Inactive at h = go (first_active fails (groups_at net at.0 at.1)) refl
  where
    go : (o : Option ℕ) → first_active fails (groups_at net at.0 at.1) ≡ o → option_map Active (first_active fails (groups_at net at.0 at.1)) ≡ None
    go None e = rw e refl
    go (Some j) e = let x : false ≡ true = rw e at h in cc
may_cause net fails (Dropped step) at h =
    let p = and_parts (is_usable net fails at step) (is_undefined net at step) h in
    usable_cause defined_cause net fails at step p.0 (λ n. none_undefined net at step n p.1)

pub hop_agrees : (net : Net) (fails : List LinkId) (end : End) → Agree net (is_usable net fails) (λ at. may_end net fails at end) (hop_cause net fails) (end_cause net fails end)
hop_agrees net fails end = record {
  passes = λ at step h. (cause_usable undefined_cause net fails at step h).passes;
  leads = λ at step h. let t = cause_usable undefined_cause net fails at step h in defined_leads net at step t.names t.none;
  none = λ at step next t m. usable_cause undefined_cause net fails at step t (λ n. leads_defined net at step n next m);
  ends = cause_may net fails end;
  none_last = may_cause net fails end;
}

pub trace_fault_none : (net : Net) (fails : List LinkId) (run : Run) → trace_fault net fails run ≡ None → is_trace net fails run ≡ true
trace_fault_none net fails run h = run_follows net (is_usable net fails) (λ at. may_end net fails at run.end) (hop_cause net fails) (end_cause net fails run.end) (hop_agrees net fails run.end) fails run h

pub none_trace_fault : (net : Net) (fails : List LinkId) (run : Run) → is_trace net fails run ≡ true → trace_fault net fails run ≡ None
none_trace_fault net fails run h = follows_run net (is_usable net fails) (λ at. may_end net fails at run.end) (hop_cause net fails) (end_cause net fails run.end) (hop_agrees net fails run.end) fails run h

pub fault_no_trace : (net : Net) (fails : List LinkId) (run : Run) (n : ℕ) (cause : Cause) → trace_fault net fails run ≡ Some (n, cause) → is_trace net fails run ≡ false
fault_no_trace net fails run n cause h = false_from_ne_true (is_trace net fails run) (λ t. let x : ◌≡◌ {A = Option (ℕ × Cause)} None (Some (n, cause)) = sym (none_trace_fault net fails run t) ∙ h in cc)

-- ---- in the moving world

-- links without a cause may all be down
cause_down : (net : Net) (b : Bounds) (s : List LinkId) → needs_cause net b s ≡ None → may_be_down net b s ≡ true
cause_down net b s h = go (nat_lt b.k (risk_count net (outside s b.down))) (find (λ x. has b.up x) s) refl refl
  where
    go : (c : Bool) (o : Option LinkId) → nat_lt b.k (risk_count net (outside s b.down)) ≡ c → find (λ x. has b.up x) s ≡ o → may_be_down net b s ≡ true
    go true o ec eo = let e : Some (TooManyBefore (risk_count net (outside s b.down))) ≡ None = rw ec at h in cc
    go false (Some d) ec eo = let e : Some (NeedsUp d) ≡ None = rw eo at (rw ec at h) in cc
    go false None ec eo =
        and_from (nat_le (risk_count net (outside s b.down)) b.k) (is_apart s b.up)
        (le-leb (risk_count net (outside s b.down)) b.k (ltb-false b.k (risk_count net (outside s b.down)) ec))
        (apart_from s b.up (λ x i. find_none (λ y. has b.up y) s x eo i))

down_cause : (net : Net) (b : Bounds) (s : List LinkId) → may_be_down net b s ≡ true → needs_cause net b s ≡ None
down_cause net b s h =
    let p = down_parts net b s h in
    rw (
      le-ltb b.k (risk_count net (outside s b.down)) (leb-true (risk_count net (outside s b.down)) b.k p.0),
      none_found (λ x. has b.up x) s (λ x i. apart_has s b.up x p.1 i),
    ) refl

abbrev pub moving_judge : Judging → Net → Bounds → Location → Step → Member → Option Cause
moving_judge judging net bounds at step member =
    elim (needs_cause net bounds (needed net at step)) [
      | Some why ↦ Some why
      | None ↦ if has (needed net at step) member.link || has bounds.down member.link then Some LinkBefore else judging at.1 member
    ]

record Spared (judging : Judging) (net : Net) (b : Bounds) (at : Location) (step : Step) (member : Member) : Type 0 where
  down : may_be_down net b (needed net at step) ≡ true
  spared : has (needed net at step) member.link ≡ false
  alive : has b.down member.link ≡ false
  none : judging at.1 member ≡ None

spared : (judging : Judging) (net : Net) (b : Bounds) (at : Location) (step : Step) (member : Member) → moving_judge judging net b at step member ≡ None → Spared judging net b at step member
spared judging net b at step member h = go (needs_cause net b (needed net at step)) (has (needed net at step) member.link || has b.down member.link) refl refl
  where
    go : (o : Option Cause) (own : Bool) → needs_cause net b (needed net at step) ≡ o → (has (needed net at step) member.link || has b.down member.link) ≡ own → Spared judging net b at step member
    go (Some why) own eo ew = let e : Some why ≡ None = rw (eo, moving_judge) at h in cc
    go None true eo ew = let e : Some LinkBefore ≡ None = rw ew at (rw (eo, moving_judge) at h) in cc
    go None false eo ew =
        let q = or_parts (has (needed net at step) member.link) (has b.down member.link) ew in
        record { down = cause_down net b (needed net at step) eo; spared = q.0; alive = q.1; none = rw ew at (rw (eo, moving_judge) at h) }

-- a step without a cause is possible
cause_possible : (judging : Judging) (net : Net) (b : Bounds) (at : Location) (step : Step) → taken_moving_cause judging net b at step ≡ None → Taken judging (is_possible net b at step) net at step
cause_possible judging net b at step h =
    let f = free (moving_judge judging net b at step) net at step h in
    let u = spared judging net b at step f.names.member f.none in
    record {
      passes = and_from (may_be_down net b (needed net at step)) (by_link net at step (may_be_up b (needed net at step))) u.down
          (names_by_link net at step (may_be_up b (needed net at step)) f.names
          (and_from (not (has (needed net at step) f.names.member.link)) (not (has b.down f.names.member.link)) (not_from_false (has (needed net at step) f.names.member.link) u.spared) (not_from_false (has b.down f.names.member.link) u.alive)));
      names = f.names;
      none = u.none;
    }

spared_none : (judging : Judging) (net : Net) (b : Bounds) (at : Location) (step : Step) (member : Member) → Spared judging net b at step member → moving_judge judging net b at step member ≡ None
spared_none judging net b at step member u = rw (down_cause net b (needed net at step) u.down, moving_judge) (rw (u.spared, u.alive) u.none)

possible_cause : (judging : Judging) (net : Net) (b : Bounds) (at : Location) (step : Step) → is_possible net b at step ≡ true → ((n : Names net at step) → judging at.1 n.member ≡ None) → taken_moving_cause judging net b at step ≡ None
possible_cause judging net b at step t none =
    let p = possible_parts net b at step t in
    cause_named (moving_judge judging net b at step) net at step p.named
    ∙ spared_none judging net b at step p.named.member
    (record { down = possible_down net b at step t; spared = p.spared; alive = p.alive; none = none p.named })

-- an end without a cause can be
cause_can : (net : Net) (b : Bounds) (end : End) (at : Location) → moving_end_cause net b end at ≡ None → can_end net b at end ≡ true
cause_can net b Arrives at h = refl
cause_can net b Inactive at h = cause_down net b (needed_to_end net at Inactive) h
cause_can net b (Dropped step) at h =
    let t = cause_possible defined_cause net b at step h in
    and_from (is_possible net b at step) (is_undefined net at step) t.passes (undefined_none net at step t.names t.none)

can_cause : (net : Net) (b : Bounds) (end : End) (at : Location) → can_end net b at end ≡ true → moving_end_cause net b end at ≡ None
can_cause net b Arrives at h = refl
can_cause net b Inactive at h = down_cause net b (needed_to_end net at Inactive) h
can_cause net b (Dropped step) at h =
    let p = and_parts (is_possible net b at step) (is_undefined net at step) h in
    possible_cause defined_cause net b at step p.0 (λ n. none_undefined net at step n p.1)

moving_agrees : (net : Net) (b : Bounds) (end : End) → Agree net (is_possible net b) (λ at. can_end net b at end) (moving_cause net b) (moving_end_cause net b end)
moving_agrees net b end = record {
  passes = λ at step h. (cause_possible undefined_cause net b at step h).passes;
  leads = λ at step h. let t = cause_possible undefined_cause net b at step h in defined_leads net at step t.names t.none;
  none = λ at step next t m. possible_cause undefined_cause net b at step t (λ n. leads_defined net at step n next m);
  ends = cause_can net b end;
  none_last = can_cause net b end;
}

pub moving_fault_none : (net : Net) (b : Bounds) (run : Run) → moving_fault net b run ≡ None → is_possible_run net b run ≡ true
moving_fault_none net b run h = run_follows net (is_possible net b) (λ at. can_end net b at run.end) (moving_cause net b) (moving_end_cause net b run.end) (moving_agrees net b run.end) b.down run h

pub none_moving_fault : (net : Net) (b : Bounds) (run : Run) → is_possible_run net b run ≡ true → moving_fault net b run ≡ None
none_moving_fault net b run h = follows_run net (is_possible net b) (λ at. can_end net b at run.end) (moving_cause net b) (moving_end_cause net b run.end) (moving_agrees net b run.end) b.down run h

pub fault_not_possible : (net : Net) (b : Bounds) (run : Run) (n : ℕ) (cause : Cause) → moving_fault net b run ≡ Some (n, cause) → is_possible_run net b run ≡ true → ⊥
fault_not_possible net b run n cause h t = let x : ◌≡◌ {A = Option (ℕ × Cause)} None (Some (n, cause)) = sym (none_moving_fault net b run t) ∙ h in cc
