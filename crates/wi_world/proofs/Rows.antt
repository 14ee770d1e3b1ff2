-- The definitions computed on the small networks.
use Rattle.std.proofs.Common.{◌≡◌, ℕ, zero, suc, Bool, true, false, ◌&&◌, nat_le, List, [], ◌∷◌, take, Option, Some, None, refl}
use Rattle.wi_labels.specs.declared.label.Class.TheVariants.{Smpls, Ip}
use Rattle.wi_labels.specs.Header.{Entry, is_valid_header}
use Rattle.wi_net.specs.declared.parts.LinkId.{LinkId}
use Rattle.wi_net.specs.Net.{Net}
use Rattle.wi_world.specs.declared.run.Run.{Run}
use Rattle.wi_world.specs.declared.run.End.TheVariants.{Arrives}
use Rattle.wi_world.specs.declared.run.Step.{Step}
use Rattle.wi_world.specs.declared.run.Quantity.TheVariants.{Links, Hops, Distance, Failures, Tunnels}
use Rattle.wi_world.specs.declared.world.State.{State}
use Rattle.wi_world.specs.declared.world.Event.{Event}
use Rattle.wi_world.specs.declared.world.Event.TheVariants.{Fail, Repair, Hop}
use Rattle.wi_world.specs.declared.answer.Word.TheVariants.{Yes, No, Inconclusive}
use Rattle.wi_world.specs.declared.answer.Verdict.{Verdict}
use Rattle.wi_world.specs.declared.answer.Verdict.TheVariants.{Fits, Exceeds, UsesFailed}
use Rattle.wi_world.specs.Moves.{moved, needed, is_usable, is_possible, follows, is_start, is_trace, is_possible_run, IsAllowed, AreBounds}
use Rattle.wi_world.specs.Moving.{after_event, after_events, start_of, IsMovingRun}
use Rattle.wi_world.specs.Runs.{trace_of, needs, verdict_of, hop_share, quantity_of, effort_of, is_less}
use Rattle.wi_world.specs.Holds.{Question, Weighing, Holds}
use Rattle.wi_world.proofs.MovingLaws.{moving_possible}
use Rattle.wi_world.proofs.Samples.{l, t30, t31, s10, ip1, base, base_network, fiber, shared, shared_first, with_z, fiber_with_z, returning, same_link_twice, undefined_first, balanced, relabelling, untouched, looping, step, bounds, at_most, state, run, direct, around, around_to_z, around_back}

-- The direct way, with nothing failed: three links, a label pushed and popped, effort 1 + 1 + 2 + 4. It moves though nothing
-- may fail, and fits with no needs.
direct_trace : is_trace base [] direct ≡ true
direct_trace = refl

direct_places : trace_of base direct ≡ (l 0, ip1 ∷ []) ∷ (l 1, s10 ∷ ip1 ∷ []) ∷ (l 4, ip1 ∷ []) ∷ []
direct_places = refl

direct_possible : is_possible_run base (at_most 0) direct ≡ true
direct_possible = refl

direct_moves : IsMovingRun base (at_most 0) direct
direct_moves = record { start = refl; events = Hop (step 0 0) ∷ Hop (step 0 0) ∷ []; last = state (l 4) (ip1 ∷ []) []; allowed = refl; steps = refl; ends = refl }

direct_fits : verdict_of base (at_most 0) direct ≡ Fits []
direct_fits = refl

direct_effort : effort_of base direct ≡ 8
direct_effort = refl

direct_hops : quantity_of Hops base direct ≡ 3
direct_hops = refl

direct_links : quantity_of Links base direct ≡ 3
direct_links = refl

-- The way around is the second choice: where nothing may fail it isn't possible, and no trace.
around_not_possible : is_possible_run base (at_most 0) around ≡ false
around_not_possible = refl

around_no_trace : is_trace base [] around ≡ false
around_no_trace = refl

around_exceeds : verdict_of base (at_most 0) around ≡ Exceeds 1
around_exceeds = refl

-- Where one link may fail the way around is possible, and fits with the link to b failed: four links, two labels more in its
-- tunnel, distance 1 + 2 + 2 + 1, effort 1 + 1 + 2 + 1 + 1 + 4.
around_possible : is_possible_run base (at_most 1) around ≡ true
around_possible = refl

around_places : trace_of base around ≡ (l 0, ip1 ∷ []) ∷ (l 2, t30 ∷ s10 ∷ ip1 ∷ []) ∷ (l 3, s10 ∷ ip1 ∷ []) ∷ (l 4, ip1 ∷ []) ∷ []
around_places = refl

around_needs : needs base (at_most 1) around ≡ l 1 ∷ []
around_needs = refl

around_fits : verdict_of base (at_most 1) around ≡ Fits (l 1 ∷ [])
around_fits = refl

around_trace : is_trace base (l 1 ∷ []) around ≡ true
around_trace = refl

around_allowed : IsAllowed base (at_most 1) (l 1 ∷ [])
around_allowed = record { union = refl; down = refl; up = refl; few = refl }

around_hops : quantity_of Hops base around ≡ 4
around_hops = refl

around_distance : quantity_of Distance base around ≡ 6
around_distance = refl

around_tunnels : quantity_of Tunnels base around ≡ 2
around_tunnels = refl

around_failures : quantity_of Failures base around ≡ 1
around_failures = refl

around_effort : effort_of base around ≡ 10
around_effort = refl

-- It moves: the link fails, the packet takes the second choice, the link is repaired, and the packet goes on.
around_moves : IsMovingRun base (at_most 1) around
around_moves = record { start = refl; events = Fail (l 1) ∷ Hop (step 1 0) ∷ Repair (l 1) ∷ Hop (step 0 0) ∷ Hop (step 0 0) ∷ []; last = state (l 4) (ip1 ∷ []) []; allowed = refl; steps = refl; ends = refl }

-- A packet that stays where it sets out: a run of one link and no step, which moves, is a trace, and fits with no needs.
abbrev staying : Run
staying = record { first = l 1; header = s10 ∷ ip1 ∷ []; steps = []; end = Arrives }

staying_trace : is_trace base [] staying ≡ true
staying_trace = refl

staying_moves : IsMovingRun base (at_most 0) staying
staying_moves = record { start = refl; events = []; last = state (l 1) (s10 ∷ ip1 ∷ []) []; allowed = refl; steps = refl; ends = refl }

staying_places : trace_of base staying ≡ (l 1, s10 ∷ ip1 ∷ []) ∷ []
staying_places = refl

staying_fits : verdict_of base (at_most 0) staying ≡ Fits []
staying_fits = refl

staying_effort : effort_of base staying ≡ 8
staying_effort = refl

-- An mpls label alone is no valid header, nor is one on an ip label with no smpls label between, nor the empty one.
mpls_alone_no_start : is_start base [] (l 2) (t30 ∷ []) ≡ false
mpls_alone_no_start = refl

mpls_on_ip_no_start : is_start base [] (l 2) (t30 ∷ ip1 ∷ []) ≡ false
mpls_on_ip_no_start = refl

smpls_alone_no_start : is_start base [] (l 2) (s10 ∷ []) ≡ false
smpls_alone_no_start = refl

empty_no_start : is_start base [] (l 2) [] ≡ false
empty_no_start = refl

-- A header of valid form is no start where a label has another class than the network's, or isn't in the network.
other_class_valid : is_valid_header ((t30.0, Smpls) ∷ ip1 ∷ []) ≡ true
other_class_valid = refl

other_class_no_start : is_start base [] (l 2) ((t30.0, Smpls) ∷ ip1 ∷ []) ≡ false
other_class_no_start = refl

unknown_label_no_start : is_start base [] (l 2) ((record { 0 = 4 }, Ip) ∷ []) ≡ false
unknown_label_no_start = refl

-- Nor is there a start on a failed link, or on one that isn't in the network.
failed_link_no_start : is_start base (l 0 ∷ []) (l 0) (ip1 ∷ []) ≡ false
failed_link_no_start = refl

unknown_link_no_start : is_start base [] (l 5) (ip1 ∷ []) ≡ false
unknown_link_no_start = refl

-- To z both second choices are needed: the run is possible where one link may fail, by a repair on the way, and yet needs two.
to_z_possible : is_possible_run with_z (at_most 1) around_to_z ≡ true
to_z_possible = refl

to_z_moves : IsMovingRun with_z (at_most 1) around_to_z
to_z_moves = record { start = refl; events = Fail (l 1) ∷ Hop (step 1 0) ∷ Hop (step 0 0) ∷ Repair (l 1) ∷ Fail (l 4) ∷ Hop (step 1 0) ∷ []; last = state (l 5) (ip1 ∷ []) (l 4 ∷ []); allowed = refl; steps = refl; ends = refl }

to_z_places : trace_of with_z around_to_z ≡ (l 0, ip1 ∷ []) ∷ (l 2, t30 ∷ s10 ∷ ip1 ∷ []) ∷ (l 3, s10 ∷ ip1 ∷ []) ∷ (l 5, ip1 ∷ []) ∷ []
to_z_places = refl

to_z_needs : needs with_z (at_most 1) around_to_z ≡ l 1 ∷ l 4 ∷ []
to_z_needs = refl

to_z_exceeds : verdict_of with_z (at_most 1) around_to_z ≡ Exceeds 2
to_z_exceeds = refl

to_z_effort : effort_of with_z around_to_z ≡ 10
to_z_effort = refl

-- Under one of the two it is no trace.
to_z_no_trace : is_trace with_z (l 1 ∷ []) around_to_z ≡ false
to_z_no_trace = refl

-- Where two links may fail it fits, and where none may it isn't possible.
to_z_fits : verdict_of with_z (at_most 2) around_to_z ≡ Fits (l 1 ∷ l 4 ∷ [])
to_z_fits = refl

to_z_trace : is_trace with_z (l 1 ∷ l 4 ∷ []) around_to_z ≡ true
to_z_trace = refl

to_z_not_possible : is_possible_run with_z (at_most 0) around_to_z ≡ false
to_z_not_possible = refl

to_z_exceeds_none : verdict_of with_z (at_most 0) around_to_z ≡ Exceeds 2
to_z_exceeds_none = refl

-- Back to a and on to b: the run takes the link that it needed to be failed. It moves, and is a trace under no set: not under
-- its needs, and not under the empty set.
back_possible : is_possible_run returning (at_most 5) around_back ≡ true
back_possible = refl

back_places : trace_of returning around_back ≡ (l 0, ip1 ∷ []) ∷ (l 2, t30 ∷ s10 ∷ ip1 ∷ []) ∷ (l 5, t31 ∷ s10 ∷ ip1 ∷ []) ∷ (l 1, s10 ∷ ip1 ∷ []) ∷ (l 4, ip1 ∷ []) ∷ []
back_places = refl

back_needs : needs returning (at_most 5) around_back ≡ l 1 ∷ []
back_needs = refl

back_uses : verdict_of returning (at_most 5) around_back ≡ UsesFailed (l 1)
back_uses = refl

back_effort : effort_of returning around_back ≡ 11
back_effort = refl

back_no_trace : is_trace returning (l 1 ∷ []) around_back ≡ false
back_no_trace = refl

back_no_trace_unfailed : is_trace returning [] around_back ≡ false
back_no_trace_unfailed = refl

-- The same run as a script: what stands after none of its events, after one of them, and so on.
abbrev script : List Event
script = Fail (l 1) ∷ Hop (step 1 0) ∷ Hop (step 0 0) ∷ Repair (l 1) ∷ Hop (step 0 0) ∷ Hop (step 0 0) ∷ []

abbrev after : ℕ → Option State
after n = after_events returning (at_most 1) (start_of (at_most 1) around_back) (take n script)

abbrev at : LinkId → List Entry → List LinkId → Option State
at e header fails = Some (state e header fails)

script_starts : after 0 ≡ at (l 0) (ip1 ∷ []) []
script_starts = refl

script_fails : after 1 ≡ at (l 0) (ip1 ∷ []) (l 1 ∷ [])
script_fails = refl

script_hops_to_c : after 2 ≡ at (l 2) (t30 ∷ s10 ∷ ip1 ∷ []) (l 1 ∷ [])
script_hops_to_c = refl

script_hops_to_a : after 3 ≡ at (l 5) (t31 ∷ s10 ∷ ip1 ∷ []) (l 1 ∷ [])
script_hops_to_a = refl

script_repairs : after 4 ≡ at (l 5) (t31 ∷ s10 ∷ ip1 ∷ []) []
script_repairs = refl

script_hops_to_b : after 5 ≡ at (l 1) (s10 ∷ ip1 ∷ []) []
script_hops_to_b = refl

script_hops_to_y : after 6 ≡ at (l 4) (ip1 ∷ []) []
script_hops_to_y = refl

-- Without the repair the last hops aren't allowed.
script_unrepaired : after_events returning (at_most 1) (start_of (at_most 1) around_back) (Fail (l 1) ∷ Hop (step 1 0) ∷ Hop (step 0 0) ∷ Hop (step 0 0) ∷ []) ≡ None
script_unrepaired = refl

-- A second choice by the link of the first can never be used, whatever may fail; and the first leads on with an ip label alone.
twice_not_possible : is_possible_run same_link_twice (at_most 5) (run (step 1 0 ∷ [])) ≡ false
twice_not_possible = refl

twice_no_trace : is_trace same_link_twice (l 1 ∷ []) (run (step 1 0 ∷ [])) ≡ false
twice_no_trace = refl

twice_first : moved same_link_twice (l 0, ip1 ∷ []) (step 0 0) ≡ Some (l 1, ip1 ∷ [])
twice_first = refl

-- An operation that isn't defined leads nowhere, and the next group isn't tried for it: where nothing may fail no step leads on.
undefined_nowhere : moved undefined_first (l 0, ip1 ∷ []) (step 0 0) ≡ None
undefined_nowhere = refl

undefined_usable : is_usable undefined_first [] (l 0, ip1 ∷ []) (step 0 0) ≡ true
undefined_usable = refl

undefined_not_possible : is_possible_run undefined_first (at_most 0) (run (step 0 0 ∷ [])) ≡ false
undefined_not_possible = refl

undefined_next_not_usable : is_usable undefined_first [] (l 0, ip1 ∷ []) (step 1 0) ≡ false
undefined_next_not_usable = refl

undefined_around_not_possible : is_possible_run undefined_first (at_most 0) around ≡ false
undefined_around_not_possible = refl

-- Nor does any other member: what comes from x stays on that link.
undefined_stays : (j m : ℕ) (steps : List Step) → is_possible_run undefined_first (at_most 0) (run (step j m ∷ steps)) ≡ false
undefined_stays zero zero steps = refl
undefined_stays zero (suc m) steps = refl
undefined_stays (suc zero) m steps = refl
undefined_stays (suc (suc zero)) m steps = refl
undefined_stays (suc (suc (suc j))) m steps = refl

-- Where one link may fail, the way around fits.
undefined_around_possible : is_possible_run undefined_first (at_most 1) around ≡ true
undefined_around_possible = refl

undefined_around_fits : verdict_of undefined_first (at_most 1) around ≡ Fits (l 1 ∷ [])
undefined_around_fits = refl

undefined_around_effort : effort_of undefined_first around ≡ 10
undefined_around_effort = refl

-- Of the active group a failed member isn't used, and the others are, with no need.
balanced_failed : is_usable balanced (l 1 ∷ []) (l 0, ip1 ∷ []) (step 0 0) ≡ false
balanced_failed = refl

balanced_other : is_usable balanced (l 1 ∷ []) (l 0, ip1 ∷ []) (step 0 1) ≡ true
balanced_other = refl

balanced_needs_nothing : needed balanced (l 0, ip1 ∷ []) (step 0 1) ≡ []
balanced_needs_nothing = refl

-- Where l1 and l4 are one risk group, the way around takes l4, which must have failed with l1.
fiber_possible : is_possible_run fiber (at_most 1) around ≡ true
fiber_possible = refl

fiber_needs : needs fiber (at_most 1) around ≡ l 1 ∷ l 4 ∷ []
fiber_needs = refl

fiber_uses : verdict_of fiber (at_most 1) around ≡ UsesFailed (l 4)
fiber_uses = refl

fiber_effort : effort_of fiber around ≡ 10
fiber_effort = refl

-- Too many needs come before a used link among them.
fiber_exceeds : verdict_of fiber (at_most 0) around ≡ Exceeds 1
fiber_exceeds = refl

-- The links of a risk group fail together, each of them once; and l1 alone is no set of failed links.
fiber_fails : after_event fiber (at_most 1) (start_of (at_most 1) around) (Fail (l 1)) ≡ at (l 0) (ip1 ∷ []) (l 1 ∷ l 4 ∷ [])
fiber_fails = refl

fiber_fails_once : after_events fiber (at_most 2) (start_of (at_most 2) around) (Fail (l 1) ∷ Fail (l 4) ∷ []) ≡ None
fiber_fails_once = refl

fiber_repaired : after_events fiber (at_most 1) (start_of (at_most 1) around) (Fail (l 1) ∷ Repair (l 4) ∷ []) ≡ at (l 0) (ip1 ∷ []) []
fiber_repaired = refl

fiber_one_not_allowed : IsAllowed fiber (at_most 5) (l 1 ∷ []) → ⊥
fiber_one_not_allowed a = cc (a.union)

-- To z such a risk group counts once in the needs, and once for each step in the quantity of failures.
fiber_to_z_possible : is_possible_run fiber_with_z (at_most 1) around_to_z ≡ true
fiber_to_z_possible = refl

fiber_to_z_fits : verdict_of fiber_with_z (at_most 1) around_to_z ≡ Fits (l 1 ∷ l 4 ∷ [])
fiber_to_z_fits = refl

fiber_to_z_trace : is_trace fiber_with_z (l 1 ∷ l 4 ∷ []) around_to_z ≡ true
fiber_to_z_trace = refl

fiber_to_z_failures : quantity_of Failures fiber_with_z around_to_z ≡ 2
fiber_to_z_failures = refl

-- Where both choices at a are one risk group, the second can never be used, whatever may fail.
shared_never : (k : ℕ) → is_possible_run shared (at_most k) around ≡ false
shared_never k = by_count (nat_le 1 k) (follows shared (is_possible shared (at_most k)) (λ place. true) (l 2, t30 ∷ s10 ∷ ip1 ∷ []) (step 0 0 ∷ step 0 0 ∷ []))
  where
    by_count : (few later : Bool) → (few && true && false && later) ≡ false
    by_count true later = refl
    by_count false later = refl

shared_needed : needed shared (l 0, ip1 ∷ []) (step 1 0) ≡ l 1 ∷ l 2 ∷ []
shared_needed = refl

-- With l1 known to be down the way around is possible where nothing else may fail, and the direct way isn't.
down_possible : is_possible_run base (bounds 0 (l 1 ∷ []) []) around ≡ true
down_possible = refl

down_fits : verdict_of base (bounds 0 (l 1 ∷ []) []) around ≡ Fits (l 1 ∷ [])
down_fits = refl

down_moves : IsMovingRun base (bounds 0 (l 1 ∷ []) []) around
down_moves = record { start = refl; events = Hop (step 1 0) ∷ Hop (step 0 0) ∷ Hop (step 0 0) ∷ []; last = state (l 4) (ip1 ∷ []) (l 1 ∷ []); allowed = refl; steps = refl; ends = refl }

down_direct_not_possible : is_possible_run base (bounds 0 (l 1 ∷ []) []) direct ≡ false
down_direct_not_possible = refl

-- What is down isn't repaired, is no start, and is failed in each allowed set; the run that would take it isn't possible.
down_not_repaired : after_event base (bounds 5 (l 1 ∷ []) []) (start_of (bounds 5 (l 1 ∷ []) []) around) (Repair (l 1)) ≡ None
down_not_repaired = refl

down_no_start : is_possible_run base (bounds 0 (l 0 ∷ []) []) direct ≡ false
down_no_start = refl

down_missing_not_allowed : IsAllowed base (bounds 5 (l 1 ∷ []) []) [] → ⊥
down_missing_not_allowed a = cc (a.down)

down_back_not_possible : is_possible_run returning (bounds 5 (l 1 ∷ []) []) around_back ≡ false
down_back_not_possible = refl

-- What is down isn't counted: one more may fail, and to z that is enough.
down_to_z_possible : is_possible_run with_z (bounds 1 (l 1 ∷ []) []) around_to_z ≡ true
down_to_z_possible = refl

down_to_z_fits : verdict_of with_z (bounds 1 (l 1 ∷ []) []) around_to_z ≡ Fits (l 1 ∷ l 4 ∷ [])
down_to_z_fits = refl

down_to_z_trace : is_trace with_z (l 1 ∷ l 4 ∷ []) around_to_z ≡ true
down_to_z_trace = refl

down_one_more : after_event with_z (bounds 1 (l 1 ∷ []) []) (start_of (bounds 1 (l 1 ∷ []) []) around_to_z) (Fail (l 4)) ≡ at (l 0) (ip1 ∷ []) (l 1 ∷ l 4 ∷ [])
down_one_more = refl

down_no_two_more : after_events with_z (bounds 1 (l 1 ∷ []) []) (start_of (bounds 1 (l 1 ∷ []) []) around_to_z) (Fail (l 4) ∷ Fail (l 5) ∷ []) ≡ None
down_no_two_more = refl

-- But the quantity of failures counts it.
down_failures : quantity_of Failures with_z around_to_z ≡ 2
down_failures = refl

-- Where a link is known to be up, a run may fit by its verdict and be a trace under its needs, and yet neither be possible nor
-- move: the bounds don't allow its needs. So a yes asks that they do.
up_fits : verdict_of base (bounds 5 [] (l 1 ∷ [])) around ≡ Fits (l 1 ∷ [])
up_fits = refl

up_trace : is_trace base (l 1 ∷ []) around ≡ true
up_trace = refl

up_not_possible : is_possible_run base (bounds 5 [] (l 1 ∷ [])) around ≡ false
up_not_possible = refl

up_not_allowed : IsAllowed base (bounds 5 [] (l 1 ∷ [])) (l 1 ∷ []) → ⊥
up_not_allowed a = cc (a.up)

up_bounds : AreBounds base (bounds 5 [] (l 1 ∷ []))
up_bounds = record { down = refl; up = refl; apart = refl }

up_never_moves : IsMovingRun base (bounds 5 [] (l 1 ∷ [])) around → ⊥
up_never_moves m = let possible : false ≡ true = moving_possible base (bounds 5 [] (l 1 ∷ [])) around base_network up_bounds m in cc

up_not_failed : after_event base (bounds 5 [] (l 1 ∷ [])) (start_of (bounds 5 [] (l 1 ∷ [])) around) (Fail (l 1)) ≡ None
up_not_failed = refl

-- A number, links down and links up at once: the run to z, where l1 is down and l3 is up.
lists_bounds : AreBounds with_z (bounds 1 (l 1 ∷ []) (l 3 ∷ []))
lists_bounds = record { down = refl; up = refl; apart = refl }

lists_possible : is_possible_run with_z (bounds 1 (l 1 ∷ []) (l 3 ∷ [])) around_to_z ≡ true
lists_possible = refl

lists_needs : needs with_z (bounds 1 (l 1 ∷ []) (l 3 ∷ [])) around_to_z ≡ l 1 ∷ l 4 ∷ []
lists_needs = refl

lists_fits : verdict_of with_z (bounds 1 (l 1 ∷ []) (l 3 ∷ [])) around_to_z ≡ Fits (l 1 ∷ l 4 ∷ [])
lists_fits = refl

lists_allowed : IsAllowed with_z (bounds 1 (l 1 ∷ []) (l 3 ∷ [])) (l 1 ∷ l 4 ∷ [])
lists_allowed = record { union = refl; down = refl; up = refl; few = refl }

lists_too_many : IsAllowed with_z (bounds 1 (l 1 ∷ []) (l 3 ∷ [])) (l 1 ∷ l 2 ∷ l 4 ∷ []) → ⊥
lists_too_many a = cc (a.few)

-- What is down belongs to the needs even where no step needs it.
lists_direct_needs : needs base (bounds 1 (l 2 ∷ []) []) direct ≡ l 2 ∷ []
lists_direct_needs = refl

-- No link is known both to be down and to be up.
both_no_bounds : AreBounds base (bounds 0 (l 1 ∷ []) (l 1 ∷ l 3 ∷ [])) → ⊥
both_no_bounds b = cc (b.apart)

-- The run's first link can be the one that must have failed: l0 fails with l1, which the way around needs.
first_uses : verdict_of shared_first (at_most 1) around ≡ UsesFailed (l 0)
first_uses = refl

first_possible : is_possible_run shared_first (at_most 1) around ≡ true
first_possible = refl

-- So the packet's own link fails under it, and it hops on; but no trace has a failed link.
first_moves : IsMovingRun shared_first (at_most 1) around
first_moves = record { start = refl; events = Fail (l 1) ∷ Hop (step 1 0) ∷ Hop (step 0 0) ∷ Hop (step 0 0) ∷ []; last = state (l 4) (ip1 ∷ []) (l 0 ∷ l 1 ∷ []); allowed = refl; steps = refl; ends = refl }

first_no_trace : is_trace shared_first (l 0 ∷ l 1 ∷ []) around ≡ false
first_no_trace = refl

own_link_fails : after_events base (at_most 1) (start_of (at_most 1) direct) (Fail (l 0) ∷ Hop (step 0 0) ∷ Hop (step 0 0) ∷ []) ≡ at (l 4) (ip1 ∷ []) (l 0 ∷ [])
own_link_fails = refl

own_link_no_trace : is_trace base (l 0 ∷ []) direct ≡ false
own_link_no_trace = refl

-- A link that ends where it begins is a link, has a distance, and is no hop.
abbrev unwinding : Run
unwinding = record { first = l 0; header = t31 ∷ s10 ∷ ip1 ∷ []; steps = step 0 0 ∷ step 0 0 ∷ step 0 0 ∷ []; end = Arrives }

loop_places : trace_of looping unwinding ≡ (l 0, t31 ∷ s10 ∷ ip1 ∷ []) ∷ (l 0, t30 ∷ t30 ∷ s10 ∷ ip1 ∷ []) ∷ (l 0, t30 ∷ s10 ∷ ip1 ∷ []) ∷ (l 0, s10 ∷ ip1 ∷ []) ∷ []
loop_places = refl

loop_trace : is_trace looping [] unwinding ≡ true
loop_trace = refl

loop_hops : quantity_of Hops looping unwinding ≡ 0
loop_hops = refl

loop_links : quantity_of Links looping unwinding ≡ 4
loop_links = refl

loop_distance : quantity_of Distance looping unwinding ≡ 28
loop_distance = refl

loop_effort : effort_of looping unwinding ≡ 13
loop_effort = refl

-- Tunnels count by what a step adds in all: two pushes add 2, a pop and then a push add nothing, and pops take nothing away.
two_pushes_add_two : hop_share Tunnels base (l 0, ip1 ∷ []) (step 1 0) (l 2, t30 ∷ s10 ∷ ip1 ∷ []) ≡ 2
two_pushes_add_two = refl

relabelling_places : trace_of relabelling around ≡ (l 0, ip1 ∷ []) ∷ (l 2, t30 ∷ s10 ∷ ip1 ∷ []) ∷ (l 3, t31 ∷ s10 ∷ ip1 ∷ []) ∷ (l 4, ip1 ∷ []) ∷ []
relabelling_places = refl

pop_and_push_add_nothing : hop_share Tunnels relabelling (l 2, t30 ∷ s10 ∷ ip1 ∷ []) (step 0 0) (l 3, t31 ∷ s10 ∷ ip1 ∷ []) ≡ 0
pop_and_push_add_nothing = refl

relabelling_tunnels : quantity_of Tunnels relabelling around ≡ 2
relabelling_tunnels = refl

-- In the effort a step with no operation counts one.
untouched_effort : effort_of untouched (run (step 0 0 ∷ [])) ≡ 7
untouched_effort = refl

-- And each operation counts, also those that leave as many labels: 1 + 1 + 2 + 2 + 2 + 4.
relabelling_effort : effort_of relabelling around ≡ 12
relabelling_effort = refl

-- The first number that differs decides, and equal lists are none less than the other.
less_by_first : is_less (3 ∷ 9 ∷ 12 ∷ []) (4 ∷ 1 ∷ 8 ∷ []) ≡ true
less_by_first = refl

less_by_last : is_less (4 ∷ 12 ∷ 10 ∷ []) (4 ∷ 12 ∷ 11 ∷ []) ≡ true
less_by_last = refl

not_less_than_itself : is_less (4 ∷ 12 ∷ 10 ∷ []) (4 ∷ 12 ∷ 10 ∷ []) ≡ false
not_less_than_itself = refl

-- A no comes with nothing to show, a yes only with a verdict that fits, and an inconclusive never with one.
no_shows_nothing : (net : Net) (question : Question) (weigh : Weighing) (w : List ℕ) (shown : Run) (v : Verdict) → Holds net question weigh No (Some w) (Some shown) (Some v) → ⊥
no_shows_nothing net question weigh w shown v h = h

yes_shows_a_fit : (net : Net) (question : Question) (weigh : Weighing) (w : List ℕ) (shown : Run) (n : ℕ) → Holds net question weigh Yes (Some w) (Some shown) (Some (Exceeds n)) → ⊥
yes_shows_a_fit net question weigh w shown n h = h

inconclusive_shows_no_fit : (net : Net) (question : Question) (weigh : Weighing) (w : List ℕ) (shown : Run) (fails : List LinkId) → Holds net question weigh Inconclusive (Some w) (Some shown) (Some (Fits fails)) → ⊥
inconclusive_shows_no_fit net question weigh w shown fails h = h
