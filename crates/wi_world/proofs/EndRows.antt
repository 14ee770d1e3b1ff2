-- The definitions computed on the small networks: where a packet is dropped, and where it can't be.
use Rattle.std.proofs.Common.{◌≡◌, ℕ, zero, suc, true, false, [], ◌∷◌, refl, ap, sym, ◌∙◌}
use Rattle.std.proofs.lemmas.Bool.{and_right}
use Rattle.wi_net.specs.Net.{Net}
use Rattle.wi_net.specs.declared.bounds.Bounds.{Bounds}
use Rattle.wi_world.specs.declared.run.Run.{Run}
use Rattle.wi_world.specs.declared.run.End.TheVariants.{Arrives, Inactive, Undefined}
use Rattle.wi_world.specs.declared.run.Quantity.TheVariants.{Links, Distance, Failures, Tunnels}
use Rattle.wi_world.specs.declared.world.Event.TheVariants.{Fail, Repair, Hop}
use Rattle.wi_world.specs.declared.answer.Verdict.TheVariants.{Fits, Exceeds, UsesFailed}
use Rattle.wi_world.specs.Moves.{Location, is_usable, is_possible, is_undefined, may_end, needed_to_end, can_end, is_trace, is_possible_run}
use Rattle.wi_world.specs.Moving.{IsMovingRun}
use Rattle.wi_world.specs.Runs.{used_by, needs, verdict_of, quantity_of, effort_of}
use Rattle.wi_world.specs.Holds.{Question, is_dropped, Matches}
use Rattle.wi_world.proofs.MovingLaws.{moving_possible}
use Rattle.wi_world.proofs.Samples.{l, t30, t31, s10, ip1, base, base_network, fiber, shared_second, undefined_back, fiber_back, undefined_first, undefined_second, undefined_again, undefined_beside, undefined_third, empty_at_y, step, bounds, at_most, state, lost_at_a, lost_at_b, lost_around, lost_at_c, lost_at_y, undefined_at_a, undefined_at_c, undefined_after_c}

-- where a packet is that came to a, to b, to c and to y
abbrev at_a : Location
at_a = (l 0, ip1 ∷ [])

abbrev at_b : Location
at_b = (l 1, s10 ∷ ip1 ∷ [])

abbrev at_c : Location
at_c = (l 2, t30 ∷ s10 ∷ ip1 ∷ [])

abbrev at_y : Location
at_y = (l 4, ip1 ∷ [])

-- and to a once more, from c
abbrev at_a_again : Location
at_a_again = (l 5, t31 ∷ s10 ∷ ip1 ∷ [])

-- From b to y there is no second choice: where that link fails, the packet is dropped. Effort 1 + 1 + 2 + 4.
b_may : may_end base (l 4 ∷ []) at_b Inactive ≡ true
b_may = refl

b_may_not : may_end base [] at_b Inactive ≡ false
b_may_not = refl

b_can : can_end base (at_most 1) at_b Inactive ≡ true
b_can = refl

lost_at_b_possible : is_possible_run base (at_most 1) lost_at_b ≡ true
lost_at_b_possible = refl

lost_at_b_needs : needs base (at_most 1) lost_at_b ≡ l 4 ∷ []
lost_at_b_needs = refl

lost_at_b_used : used_by base lost_at_b ≡ l 0 ∷ l 1 ∷ []
lost_at_b_used = refl

lost_at_b_fits : verdict_of base (at_most 1) lost_at_b ≡ Fits (l 4 ∷ [])
lost_at_b_fits = refl

lost_at_b_trace : is_trace base (l 4 ∷ []) lost_at_b ≡ true
lost_at_b_trace = refl

lost_at_b_no_trace : is_trace base [] lost_at_b ≡ false
lost_at_b_no_trace = refl

lost_at_b_effort : effort_of base lost_at_b ≡ 8
lost_at_b_effort = refl

lost_at_b_failures : quantity_of Failures base lost_at_b ≡ 1
lost_at_b_failures = refl

-- It moves: the packet hops to b, and the link fails then.
lost_at_b_moves : IsMovingRun base (at_most 1) lost_at_b
lost_at_b_moves = record { start = refl; events = Hop (step 0 0) ∷ Fail (l 4) ∷ []; last = state (l 1) (s10 ∷ ip1 ∷ []) (l 4 ∷ []); allowed = refl; steps = refl; ends = refl }

-- With that link known to be down nothing else has to fail.
b_down_possible : is_possible_run base (bounds 0 (l 4 ∷ []) []) lost_at_b ≡ true
b_down_possible = refl

b_down_fits : verdict_of base (bounds 0 (l 4 ∷ []) []) lost_at_b ≡ Fits (l 4 ∷ [])
b_down_fits = refl

-- Where nothing may fail, there is an active group at a and at b, whatever happens before.
b_can_not : can_end base (at_most 0) at_b Inactive ≡ false
b_can_not = refl

a_can_not : can_end base (at_most 0) at_a Inactive ≡ false
a_can_not = refl

a_may_not : may_end base [] at_a Inactive ≡ false
a_may_not = refl

lost_at_b_never_moves : IsMovingRun base (at_most 0) lost_at_b → ⊥
lost_at_b_never_moves m = let possible : false ≡ true = moving_possible base (at_most 0) lost_at_b base_network (record { down = refl; up = refl; apart = refl }) m in cc

-- And each member that there is has its operations defined: no bounds let one drop the packet.
a_defined : (j m : ℕ) → is_undefined base at_a (step j m) ≡ false
a_defined zero zero = refl
a_defined zero (suc m) = refl
a_defined (suc zero) zero = refl
a_defined (suc zero) (suc m) = refl
a_defined (suc (suc j)) m = refl

a_never_undefined : (b : Bounds) (j m : ℕ) → can_end base b at_a (Undefined (step j m)) ≡ false
a_never_undefined b j m = and_right (is_possible base b at_a (step j m)) (is_undefined base at_a (step j m)) (a_defined j m)

b_defined : (j m : ℕ) → is_undefined base at_b (step j m) ≡ false
b_defined zero zero = refl
b_defined zero (suc m) = refl
b_defined (suc j) m = refl

b_never_undefined : (b : Bounds) (j m : ℕ) → can_end base b at_b (Undefined (step j m)) ≡ false
b_never_undefined b j m = and_right (is_possible base b at_b (step j m)) (is_undefined base at_b (step j m)) (b_defined j m)

-- Nor is it dropped at a, or at c, where the first choice is known to be down and nothing else may fail.
a_down_can_not : can_end base (bounds 0 (l 1 ∷ []) []) at_a Inactive ≡ false
a_down_can_not = refl

c_down_can_not : can_end base (bounds 0 (l 1 ∷ []) []) at_c Inactive ≡ false
c_down_can_not = refl

-- Where the link from b to y is known to be up, none is dropped at b. At c one is, once l1 is repaired and the link from c fails: two
-- needs, and never both failed at once. Effort 1 + 2 + 3 + 4.
b_up_not_possible : is_possible_run base (bounds 1 [] (l 4 ∷ [])) lost_at_b ≡ false
b_up_not_possible = refl

c_may : may_end base (l 3 ∷ []) at_c Inactive ≡ true
c_may = refl

lost_at_c_possible : is_possible_run base (bounds 1 [] (l 4 ∷ [])) lost_at_c ≡ true
lost_at_c_possible = refl

lost_at_c_needs : needs base (bounds 1 [] (l 4 ∷ [])) lost_at_c ≡ l 1 ∷ l 3 ∷ []
lost_at_c_needs = refl

lost_at_c_used : used_by base lost_at_c ≡ l 0 ∷ l 2 ∷ []
lost_at_c_used = refl

lost_at_c_exceeds : verdict_of base (bounds 1 [] (l 4 ∷ [])) lost_at_c ≡ Exceeds 2
lost_at_c_exceeds = refl

lost_at_c_effort : effort_of base lost_at_c ≡ 10
lost_at_c_effort = refl

lost_at_c_moves : IsMovingRun base (bounds 1 [] (l 4 ∷ [])) lost_at_c
lost_at_c_moves = record { start = refl; events = Fail (l 1) ∷ Hop (step 1 0) ∷ Repair (l 1) ∷ Fail (l 3) ∷ []; last = state (l 2) (t30 ∷ s10 ∷ ip1 ∷ []) (l 3 ∷ []); allowed = refl; steps = refl; ends = refl }

lost_at_c_no_trace : is_trace base (l 1 ∷ []) lost_at_c ≡ false
lost_at_c_no_trace = refl

-- At a both choices have to fail: too many where one may, and where two may it fits, if both may. Effort 1 + 1 + 4.
lost_at_a_needed : needed_to_end base at_a Inactive ≡ l 1 ∷ l 2 ∷ []
lost_at_a_needed = refl

lost_at_a_not_possible : is_possible_run base (at_most 1) lost_at_a ≡ false
lost_at_a_not_possible = refl

lost_at_a_exceeds : verdict_of base (at_most 1) lost_at_a ≡ Exceeds 2
lost_at_a_exceeds = refl

lost_at_a_possible : is_possible_run base (bounds 2 [] (l 4 ∷ [])) lost_at_a ≡ true
lost_at_a_possible = refl

lost_at_a_fits : verdict_of base (bounds 2 [] (l 4 ∷ [])) lost_at_a ≡ Fits (l 1 ∷ l 2 ∷ [])
lost_at_a_fits = refl

lost_at_a_trace : is_trace base (l 1 ∷ l 2 ∷ []) lost_at_a ≡ true
lost_at_a_trace = refl

lost_at_a_effort : effort_of base lost_at_a ≡ 6
lost_at_a_effort = refl

a_up_can_not : can_end base (bounds 2 [] (l 2 ∷ [])) at_a Inactive ≡ false
a_up_can_not = refl

-- At y there is no row, and so no active group: what leaves the network is dropped without a failure. Three links, distance
-- 1 + 1 + 1, a label pushed, effort 1 + 1 + 1 + 1 + 4.
lost_at_y_possible : is_possible_run base (at_most 0) lost_at_y ≡ true
lost_at_y_possible = refl

lost_at_y_fits : verdict_of base (at_most 0) lost_at_y ≡ Fits []
lost_at_y_fits = refl

lost_at_y_trace : is_trace base [] lost_at_y ≡ true
lost_at_y_trace = refl

lost_at_y_links : quantity_of Links base lost_at_y ≡ 3
lost_at_y_links = refl

lost_at_y_distance : quantity_of Distance base lost_at_y ≡ 3
lost_at_y_distance = refl

lost_at_y_failures : quantity_of Failures base lost_at_y ≡ 0
lost_at_y_failures = refl

lost_at_y_tunnels : quantity_of Tunnels base lost_at_y ≡ 1
lost_at_y_tunnels = refl

lost_at_y_effort : effort_of base lost_at_y ≡ 8
lost_at_y_effort = refl

-- An entry without groups is the same.
empty_at_y_possible : is_possible_run empty_at_y (at_most 0) lost_at_y ≡ true
empty_at_y_possible = refl

empty_at_y_fits : verdict_of empty_at_y (at_most 0) lost_at_y ≡ Fits []
empty_at_y_fits = refl

empty_at_y_trace : is_trace empty_at_y [] lost_at_y ≡ true
empty_at_y_trace = refl

empty_at_y_effort : effort_of empty_at_y lost_at_y ≡ 8
empty_at_y_effort = refl

-- A first choice that isn't defined drops the packet without a failure, and uses its link. Effort 1 + 0 + 1 + 4.
first_may : may_end undefined_first [] at_a (Undefined (step 0 0)) ≡ true
first_may = refl

first_possible : is_possible_run undefined_first (at_most 0) (undefined_at_a 0 0) ≡ true
first_possible = refl

first_fits : verdict_of undefined_first (at_most 0) (undefined_at_a 0 0) ≡ Fits []
first_fits = refl

first_used : used_by undefined_first (undefined_at_a 0 0) ≡ l 0 ∷ l 1 ∷ []
first_used = refl

first_effort : effort_of undefined_first (undefined_at_a 0 0) ≡ 6
first_effort = refl

-- With its link known to be down it drops none, nor with the packet's own, but with another; and a usable one whose operations are
-- defined drops none.
first_down : can_end undefined_first (bounds 0 (l 1 ∷ []) []) at_a (Undefined (step 0 0)) ≡ false
first_down = refl

first_no_start : is_possible_run undefined_first (bounds 0 (l 0 ∷ []) []) (undefined_at_a 0 0) ≡ false
first_no_start = refl

first_other_down : is_possible_run undefined_first (bounds 0 (l 2 ∷ []) []) (undefined_at_a 0 0) ≡ true
first_other_down = refl

defined_usable : is_usable base [] at_a (step 0 0) ≡ true
defined_usable = refl

defined_may_not : may_end base [] at_a (Undefined (step 0 0)) ≡ false
defined_may_not = refl

-- A second choice whose second operation isn't defined: a failure, no link more and no label more, since nothing leads on. But the
-- label that the first operation pushed stands then: effort 1 + 1 + 2 + 4.
second_may : may_end undefined_second (l 1 ∷ []) at_a (Undefined (step 1 0)) ≡ true
second_may = refl

second_possible : is_possible_run undefined_second (at_most 1) (undefined_at_a 1 0) ≡ true
second_possible = refl

second_needs : needs undefined_second (at_most 1) (undefined_at_a 1 0) ≡ l 1 ∷ []
second_needs = refl

second_fits : verdict_of undefined_second (at_most 1) (undefined_at_a 1 0) ≡ Fits (l 1 ∷ [])
second_fits = refl

second_trace : is_trace undefined_second (l 1 ∷ []) (undefined_at_a 1 0) ≡ true
second_trace = refl

second_moves : IsMovingRun undefined_second (at_most 1) (undefined_at_a 1 0)
second_moves = record { start = refl; events = Fail (l 1) ∷ []; last = state (l 0) (ip1 ∷ []) (l 1 ∷ []); allowed = refl; steps = refl; ends = refl }

second_failures : quantity_of Failures undefined_second (undefined_at_a 1 0) ≡ 1
second_failures = refl

second_tunnels : quantity_of Tunnels undefined_second (undefined_at_a 1 0) ≡ 0
second_tunnels = refl

second_links : quantity_of Links undefined_second (undefined_at_a 1 0) ≡ 1
second_links = refl

second_effort : effort_of undefined_second (undefined_at_a 1 0) ≡ 8
second_effort = refl

-- It can't be where nothing may fail, unless the first choice is known to be down, nor where its own link is.
second_not_possible : is_possible_run undefined_second (at_most 0) (undefined_at_a 1 0) ≡ false
second_not_possible = refl

second_down_possible : is_possible_run undefined_second (bounds 0 (l 1 ∷ []) []) (undefined_at_a 1 0) ≡ true
second_down_possible = refl

second_own_down : can_end undefined_second (bounds 1 (l 2 ∷ []) []) at_a (Undefined (step 1 0)) ≡ false
second_own_down = refl

-- What is popped before doesn't stand: two of three operations are done, and the ip label is left. Effort 1 + 2 + 2 + 1 + 4.
third_possible : is_possible_run undefined_third (at_most 1) undefined_at_c ≡ true
third_possible = refl

third_effort : effort_of undefined_third undefined_at_c ≡ 10
third_effort = refl

-- Of one group a member is defined and the other isn't: some packets are dropped without a failure. Effort 1 + 0 + 1 + 4.
beside_usable : is_usable undefined_beside [] at_a (step 0 0) ≡ true
beside_usable = refl

beside_possible : is_possible_run undefined_beside (at_most 0) (undefined_at_a 0 1) ≡ true
beside_possible = refl

beside_fits : verdict_of undefined_beside (at_most 0) (undefined_at_a 0 1) ≡ Fits []
beside_fits = refl

beside_trace : is_trace undefined_beside [] (undefined_at_a 0 1) ≡ true
beside_trace = refl

beside_effort : effort_of undefined_beside (undefined_at_a 0 1) ≡ 6
beside_effort = refl

-- But none while its link is failed, and so none where that is known to be down.
beside_may_not : may_end undefined_beside (l 2 ∷ []) at_a (Undefined (step 0 1)) ≡ false
beside_may_not = refl

beside_down : is_possible_run undefined_beside (bounds 0 (l 2 ∷ []) []) (undefined_at_a 0 1) ≡ false
beside_down = refl

-- Where l1 and l4 are one risk group, what is dropped at b came by a link that must have failed.
fiber_possible : is_possible_run fiber (at_most 1) lost_at_b ≡ true
fiber_possible = refl

fiber_needs : needs fiber (at_most 1) lost_at_b ≡ l 1 ∷ l 4 ∷ []
fiber_needs = refl

fiber_uses : verdict_of fiber (at_most 1) lost_at_b ≡ UsesFailed (l 1)
fiber_uses = refl

fiber_effort : effort_of fiber lost_at_b ≡ 8
fiber_effort = refl

fiber_no_trace : is_trace fiber (l 1 ∷ l 4 ∷ []) lost_at_b ≡ false
fiber_no_trace = refl

-- By the way around it didn't: the risk group counts once for the step and once for the end. Effort 1 + 2 + 1 + 2 + 4.
fiber_around_used : used_by fiber lost_around ≡ l 0 ∷ l 2 ∷ l 3 ∷ []
fiber_around_used = refl

fiber_around_fits : verdict_of fiber (at_most 1) lost_around ≡ Fits (l 1 ∷ l 4 ∷ [])
fiber_around_fits = refl

fiber_around_trace : is_trace fiber (l 1 ∷ l 4 ∷ []) lost_around ≡ true
fiber_around_trace = refl

fiber_around_failures : quantity_of Failures fiber lost_around ≡ 2
fiber_around_failures = refl

fiber_around_effort : effort_of fiber lost_around ≡ 10
fiber_around_effort = refl

-- Where l0 and l2 are one risk group, what is dropped at a is on a link that must have failed. It moves, and is no trace.
own_link_possible : is_possible_run shared_second (at_most 2) lost_at_a ≡ true
own_link_possible = refl

own_link_needs : needs shared_second (at_most 2) lost_at_a ≡ l 0 ∷ l 1 ∷ l 2 ∷ []
own_link_needs = refl

own_link_uses : verdict_of shared_second (at_most 2) lost_at_a ≡ UsesFailed (l 0)
own_link_uses = refl

own_link_effort : effort_of shared_second lost_at_a ≡ 6
own_link_effort = refl

own_link_moves : IsMovingRun shared_second (at_most 2) lost_at_a
own_link_moves = record { start = refl; events = Fail (l 1) ∷ Fail (l 2) ∷ []; last = state (l 0) (ip1 ∷ []) (l 0 ∷ l 1 ∷ l 2 ∷ []); allowed = refl; steps = refl; ends = refl }

own_link_no_trace : is_trace shared_second (l 0 ∷ l 1 ∷ l 2 ∷ []) lost_at_a ≡ false
own_link_no_trace = refl

own_link_not_possible : is_possible_run shared_second (at_most 1) lost_at_a ≡ false
own_link_not_possible = refl

-- A second choice by the link of the first is never used: it drops none, though it isn't defined.
again_undefined : is_undefined undefined_again at_a (step 1 0) ≡ true
again_undefined = refl

again_can_not : can_end undefined_again (at_most 5) at_a (Undefined (step 1 0)) ≡ false
again_can_not = refl

again_may_not : may_end undefined_again (l 1 ∷ []) at_a (Undefined (step 1 0)) ≡ false
again_may_not = refl

again_inactive : can_end undefined_again (at_most 1) at_a Inactive ≡ false
again_inactive = refl

-- Back at a the packet is dropped by a member whose link it needed to be failed: that link is used last, though the packet is never
-- on it. Effort 1 + 2 + 1 + 0 + 3 + 4.
back_possible : is_possible_run undefined_back (at_most 1) undefined_after_c ≡ true
back_possible = refl

back_needs : needs undefined_back (at_most 1) undefined_after_c ≡ l 1 ∷ []
back_needs = refl

back_used : used_by undefined_back undefined_after_c ≡ l 0 ∷ l 2 ∷ l 5 ∷ l 1 ∷ []
back_used = refl

back_uses : verdict_of undefined_back (at_most 1) undefined_after_c ≡ UsesFailed (l 1)
back_uses = refl

back_effort : effort_of undefined_back undefined_after_c ≡ 11
back_effort = refl

back_no_trace : is_trace undefined_back (l 1 ∷ []) undefined_after_c ≡ false
back_no_trace = refl

back_not_possible : is_possible_run undefined_back (at_most 0) undefined_after_c ≡ false
back_not_possible = refl

-- It moves by a repair on the way: the packet may end so while that link isn't failed.
back_moves : IsMovingRun undefined_back (at_most 1) undefined_after_c
back_moves = record { start = refl; events = Fail (l 1) ∷ Hop (step 1 0) ∷ Hop (step 0 0) ∷ Repair (l 1) ∷ []; last = state (l 5) (t31 ∷ s10 ∷ ip1 ∷ []) []; allowed = refl; steps = refl; ends = refl }

back_may : may_end undefined_back [] at_a_again (Undefined (step 0 0)) ≡ true
back_may = refl

back_may_not : may_end undefined_back (l 1 ∷ []) at_a_again (Undefined (step 0 0)) ≡ false
back_may_not = refl

-- Where it fails together with the link from c to a, that one is used first.
fiber_back_needs : needs fiber_back (at_most 1) undefined_after_c ≡ l 1 ∷ l 5 ∷ []
fiber_back_needs = refl

fiber_back_uses : verdict_of fiber_back (at_most 1) undefined_after_c ≡ UsesFailed (l 5)
fiber_back_uses = refl

-- A group that isn't there drops none.
no_group_may_not : may_end base (l 1 ∷ l 2 ∷ []) at_a (Undefined (step 2 0)) ≡ false
no_group_may_not = refl

no_row_may_not : may_end base [] at_y (Undefined (step 0 0)) ≡ false
no_row_may_not = refl

-- A run that arrives doesn't match where it is asked whether the packet is dropped.
arrival_no_match : (net : Net) (question : Question) (run : Run) → question.drops ≡ true → run.end ≡ Arrives → Matches net question run → ⊥
arrival_no_match net question run drops arrives m = let same : false ≡ true = sym (ap is_dropped arrives) ∙ m.end ∙ drops in cc
