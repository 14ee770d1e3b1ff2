-- A run that doesn't use the links of an outage is a trace while these are down, too.
use Rattle.std.proofs.Common.{◌≡◌, Bool, true, false, not, ◌&&◌, ◌||◌, nat_eq, nat_le, List, [], ◌∷◌, Option, Some, None, refl, arith, ap, inl, inr, sym, ◌∙◌}
use Rattle.std.proofs.lemmas.Bool.{eq-eqb, le-leb, leb-true, and_parts, and_from, not-true, or_cases, or_left, or_right, or_from}
use Rattle.std.specs.Option.{option_map}
use Rattle.wi_labels.specs.Header.{Entry, is_valid_header, after_ops}
use Rattle.wi_net.specs.declared.parts.LinkId.{LinkId}
use Rattle.wi_net.specs.declared.bounds.Bounds.{Bounds}
use Rattle.wi_net.specs.LinkSet.{has, is_within, is_apart, outside}
use Rattle.wi_net.specs.RiskGroups.{union}
use Rattle.wi_net.specs.Net.{Net, is_link, labels_known, risk_of, risk_count, widened}
use Rattle.wi_net.specs.Network.{IsNetwork}
use Rattle.wi_net.proofs.SetLemmas.{has_where, same_link, within_has, within_from, apart_has, apart_from}
use Rattle.wi_net.proofs.CountLemmas.{outside_self}
use Rattle.wi_net.proofs.WidenLemmas.{has-union}
use Rattle.wi_world.specs.declared.run.Step.{Step}
use Rattle.wi_world.specs.declared.run.Run.{Run}
use Rattle.wi_world.specs.declared.run.End.{End}
use Rattle.wi_world.specs.declared.run.End.TheVariants.{Arrives, Inactive, Undefined}
use Rattle.wi_world.specs.Moves.{Location, moved, is_usable, is_undefined, is_possible, may_end, can_end, follows, is_start, is_trace, is_possible_run, AreBounds, IsAllowed, IsBounded}
use Rattle.wi_world.specs.Runs.{used_to_end, used_along, used_by, is_needed}
use Rattle.wi_world.proofs.Allowed.{Names, by_link_names, member_named}
use Rattle.wi_world.proofs.Steps.{onward}
use Rattle.wi_world.proofs.RunLaws.{trace_possible, follows_needs, zero_fits, fit_parts}
use Rattle.wi_outage.specs.Survival.{is_survived, with_down}
use Rattle.wi_outage.proofs.Unions.{apart_turned, union_apart, in_union, union_first, union_second, whole_rising, none_whole, union_whole, outside_both, filter_fewer}

-- ---- a trace uses no failed link

-- a usable step names a member whose link isn't failed
usable_names : (net : Net) (fails : List LinkId) (at : Location) (step : Step) → is_usable net fails at step ≡ true → (n : Names net at step) × (has fails n.member.link ≡ false)
usable_names net fails at step u =
    let n = by_link_names net at step (λ e. not (has fails e)) ((and_parts _ _ u).1) in
    (n.0, not-true (has fails (n.0).member.link) n.1)

-- it leads to that link
leads_to : (net : Net) (at : Location) (step : Step) (n : Names net at step) (next : Location) → moved net at step ≡ Some next → next.0 ≡ n.member.link
leads_to net at step n next m = go (after_ops n.member.ops at.1) refl
  where
    led : option_map (λ (h : List Entry). (n.member.link, h)) (after_ops n.member.ops at.1) ≡ Some next
    led = rw (member_named net at step n) at m

    go : (o : Option (List Entry)) → after_ops n.member.ops at.1 ≡ o → next.0 ≡ n.member.link
    go None e = let none : ◌≡◌ {A = Option Location} None (Some next) = rw e at led in cc
    go (Some h) e = let some : ◌≡◌ {A = Option Location} (Some (n.member.link, h)) (Some next) = rw e at led in cc

-- an end that may be uses none
end_alive : (net : Net) (fails : List LinkId) (at : Location) (end : End) (e : LinkId) → may_end net fails at end ≡ true → has (used_to_end net at end) e ≡ true → has fails e ≡ false
end_alive net fails at Arrives e h i = cc
end_alive net fails at Inactive e h i = cc
end_alive net fails at (Undefined step) e h i =
    let n = usable_names net fails at step ((and_parts (is_usable net fails at step) (is_undefined net at step) h).0) in
    let its : has ((n.0).member.link ∷ []) e ≡ true = rw (member_named net at step n.0) at i in
    elim (or_cases (nat_eq ((n.0).member.link).0 e.0) false its) [
      | inl eb ↦ rw (sym (same_link (n.0).member.link e eb)) n.1
      | inr none ↦ cc
    ]

-- nor do the steps before it
alive_along : (net : Net) (fails : List LinkId) (end : End) (at : Location) (steps : List Step) (e : LinkId) → has fails at.0 ≡ false → follows net (is_usable net fails) (λ place. may_end net fails place end) at steps ≡ true → has (used_along net end at steps) e ≡ true → has fails e ≡ false
alive_along net fails end at [] e first h i =
    elim (or_cases (nat_eq (at.0).0 e.0) (has (used_to_end net at end) e) i) [
      | inl eb ↦ rw (sym (same_link at.0 e eb)) first
      | inr its ↦ end_alive net fails at end e h its
    ]
alive_along net fails end at (step ∷ steps) e first h i =
    let o = onward net (is_usable net fails) (λ place. may_end net fails place end) at step steps h in
    let n = usable_names net fails at step o.passes in
    let later : has (at.0 ∷ used_along net end o.next steps) e ≡ true = rw o.moves at i in
    elim (or_cases (nat_eq (at.0).0 e.0) (has (used_along net end o.next steps) e) later) [
      | inl eb ↦ rw (sym (same_link at.0 e eb)) first
      | inr more ↦ alive_along net fails end o.next steps e (rw (leads_to net at step n.0 o.next o.moves) n.1) o.rest more
    ]

-- the parts of a trace
abbrev goes_under : Net → List LinkId → Run → Bool
goes_under net fails run = follows net (is_usable net fails) (λ place. may_end net fails place run.end) (run.first, run.header) run.steps

trace_parts : (net : Net) (fails : List LinkId) (run : Run) → is_trace net fails run ≡ true → (is_start net fails run.first run.header ≡ true) × (goes_under net fails run ≡ true)
trace_parts net fails run h = and_parts (is_start net fails run.first run.header) (goes_under net fails run) h

start_alive : (net : Net) (fails : List LinkId) (e : LinkId) (header : List Entry) → is_start net fails e header ≡ true → has fails e ≡ false
start_alive net fails e header h =
    let p1 = and_parts (is_link net e && not (has fails e) && is_valid_header header) (labels_known net header) h in
    let p2 = and_parts (is_link net e && not (has fails e)) (is_valid_header header) p1.0 in
    not-true (has fails e) ((and_parts (is_link net e) (not (has fails e)) p2.0).1)

-- so no link that a trace uses has
used_alive : (net : Net) (fails : List LinkId) (run : Run) (e : LinkId) → is_trace net fails run ≡ true → has (used_by net run) e ≡ true → has fails e ≡ false
used_alive net fails run e t i =
    let parts = trace_parts net fails run t in
    alive_along net fails run.end (run.first, run.header) run.steps e (start_alive net fails run.first run.header parts.0) parts.1 i

pub uses_no_failed : (net : Net) (fails : List LinkId) (run : Run) → is_trace net fails run ≡ true → is_apart fails (used_by net run) ≡ true
uses_no_failed net fails run t = apart_turned (used_by net run) fails (apart_from (used_by net run) fails (λ e i. used_alive net fails run e t i))

-- ---- with more links down

-- bounds by which just these links fail
abbrev just : List LinkId → Bounds
just fails = record { k = 0; down = fails; up = [] }

apart_none : (s : List LinkId) → is_apart s [] ≡ true
apart_none s = apart_from s [] (λ e h. refl)

just_bounds : (net : Net) (fails : List LinkId) → widened net fails ≡ fails → AreBounds net (just fails)
just_bounds net fails u = record { down = u; up = none_whole net; apart = apart_none fails }

just_allowed : (net : Net) (fails : List LinkId) → widened net fails ≡ fails → IsAllowed net (just fails) fails
just_allowed net fails u = record {
  union = u;
  down = within_from fails fails (λ e h. h);
  up = apart_none fails;
  few = rw (outside_self fails) refl;
}

first_used : (net : Net) (end : End) (at : Location) (steps : List Step) → has (used_along net end at steps) at.0 ≡ true
first_used net end at [] = or_left (nat_eq (at.0).0 (at.0).0) _ (eq-eqb (at.0).0 (at.0).0 refl)
first_used net end at (step ∷ steps) = or_left (nat_eq (at.0).0 (at.0).0) _ (eq-eqb (at.0).0 (at.0).0 refl)

-- a trace is a possible run where just its failed links fail, and needs none other
module _ (net : Net) (fails : List LinkId) (run : Run) (k : IsNetwork net) (u : widened net fails ≡ fails) (t : is_trace net fails run ≡ true) where
  possible : is_possible_run net (just fails) run ≡ true
  possible = trace_possible net (just fails) fails run k (just_allowed net fails u) t

  needs_failed : (e : LinkId) → is_link net e ≡ true → is_needed net e run.end (run.first, run.header) run.steps ≡ true → has fails e ≡ true
  needs_failed e known n =
      let fit = fit_parts net (just fails) run fails (zero_fits net (just fails) run k (just_bounds net fails u) refl possible) in
      ap (λ s. has s e) (sym fit.are_needs) ∙ has_where net (λ x. has fails x || is_needed net x run.end (run.first, run.header) run.steps) e known (or_right (has fails e) (is_needed net e run.end (run.first, run.header) run.steps) n)

  -- it is one while more links are down, where it uses none of them
  trace_under : (s : List LinkId) → ((e : LinkId) → has fails e ≡ true → has s e ≡ true) → ((e : LinkId) → has (used_by net run) e ≡ true → has s e ≡ false) → is_trace net s run ≡ true
  trace_under s into free =
      and_from (is_start net s run.first run.header) (goes_under net s run) start
      (follows_needs net (just fails) s run.end (run.first, run.header) run.steps k (λ e known n. into e (needs_failed e known n)) free steps)
    where
      steps : follows net (is_possible net (just fails)) (λ place. can_end net (just fails) place run.end) (run.first, run.header) run.steps ≡ true
      steps = (and_parts (is_start net fails run.first run.header) _ possible).1

      alive : has fails run.first ≡ false
      alive = start_alive net fails run.first run.header ((trace_parts net fails run t).0)

      spared : has s run.first ≡ false
      spared = free run.first (first_used net run.end (run.first, run.header) run.steps)

      start : is_start net s run.first run.header ≡ true
      start = ap (λ b. is_link net run.first && not b && is_valid_header run.header && labels_known net run.header) (spared ∙ sym alive) ∙ (trace_parts net fails run t).0

  -- so it is one while the links of an outage are down that it doesn't use
  still_trace : (links : List LinkId) → is_apart links (used_by net run) ≡ true → is_trace net (union fails links) run ≡ true
  still_trace links off = trace_under (union fails links) (union_first fails links) free
    where
      free : (e : LinkId) → has (used_by net run) e ≡ true → has (union fails links) e ≡ false
      free e i =
          has-union fails links e
          ∙ or_from (has fails e) (has links e) (used_alive net fails run e t i)
          (apart_has (used_by net run) links e (apart_turned links (used_by net run) off) i)

-- ---- what the bounds allow then

still_allowed : (net : Net) (bounds : Bounds) (fails links : List LinkId) → widened net fails ≡ fails → widened net links ≡ links → is_within bounds.down fails ≡ true → is_apart fails bounds.up ≡ true → is_apart links bounds.up ≡ true
    → nat_le (risk_count net (outside (outside fails bounds.down) links)) bounds.k ≡ true → IsAllowed net (with_down bounds links) (union fails links)
still_allowed net bounds fails links uf ul down up off few = record {
  union = union_whole net fails links uf ul;
  down = within_from (union bounds.down links) (union fails links) (λ e h.
      elim (or_cases (has bounds.down e) (has links e) (in_union bounds.down links e h)) [
        | inl d ↦ union_first fails links e (within_has bounds.down fails e down d)
        | inr l ↦ union_second fails links e l
      ]);
  up = union_apart fails links bounds.up up off;
  few = rw (outside_both fails bounds.down links (whole_rising net fails uf)) few;
}

-- a run that survives an outage
pub survived : (net : Net) (bounds : Bounds) (fails : List LinkId) (run : Run) (links : List LinkId) → IsBounded net bounds → widened net links ≡ links → widened net fails ≡ fails → is_within bounds.down fails ≡ true → is_apart fails bounds.up ≡ true → is_trace net fails run ≡ true
    → is_survived net bounds fails (used_by net run) links ≡ true → IsAllowed net (with_down bounds links) (union fails links) × (is_trace net (union fails links) run ≡ true)
survived net bounds fails run links b ul uf down up t s =
    let p = and_parts (is_apart links bounds.up) (is_apart links (used_by net run) && nat_le (risk_count net (outside (outside fails bounds.down) links)) bounds.k) s in
    let q = and_parts (is_apart links (used_by net run)) (nat_le (risk_count net (outside (outside fails bounds.down) links)) bounds.k) p.1 in
    (still_allowed net bounds fails links uf ul down up p.0 q.1, still_trace net fails run b.network uf t links q.0)

-- under failures that the bounds allow, no more of them are left besides the outage's
pub off_the_way : (net : Net) (bounds : Bounds) (fails : List LinkId) (run : Run) (links : List LinkId) → IsBounded net bounds → IsAllowed net bounds fails → is_trace net fails run ≡ true → widened net links ≡ links → is_apart links bounds.up ≡ true → is_apart links (used_by net run) ≡ true
    → IsAllowed net (with_down bounds links) (union fails links) × (is_trace net (union fails links) run ≡ true)
off_the_way net bounds fails run links b a t ul off unused =
    (still_allowed net bounds fails links a.union ul a.down a.up off few, still_trace net fails run b.network a.union t links unused)
  where
    few : nat_le (risk_count net (outside (outside fails bounds.down) links)) bounds.k ≡ true
    few =
        let less = filter_fewer (λ e. nat_eq (risk_of net e).0 e.0) (λ e. not (has links e)) (outside fails bounds.down) in
        let most = leb-true (risk_count net (outside fails bounds.down)) bounds.k a.few in
        le-leb (risk_count net (outside (outside fails bounds.down) links)) bounds.k (omega (arith, less, most))
