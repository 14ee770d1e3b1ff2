-- The rules computed on the small networks. Spots are given by their numbers, and symbols as label + 1.
use Rattle.std.proofs.Common.{◌≡◌, ℕ, ◌+◌, true, false, List, [], ◌∷◌, Some, None, refl, inl}
use Rattle.std.specs.List.{Contains}
use Rattle.wi_labels.specs.declared.label.Label.{Label}
use Rattle.wi_net.specs.declared.parts.LinkId.{LinkId}
use Rattle.wi_net.specs.Net.{Net}
use Rattle.wi_pds.specs.declared.rule.Word2.{Word2}
use Rattle.wi_pds.specs.declared.rule.Word2.TheVariants.{Empty, One, Two}
use Rattle.wi_world.specs.declared.run.Run.{Run}
use Rattle.wi_world.specs.declared.run.End.{End}
use Rattle.wi_world.specs.declared.run.End.TheVariants.{Arrives, Inactive, Undefined}
use Rattle.wi_world.proofs.MovingLaws.{possible_moving}
use Rattle.wi_world.proofs.Samples.{l, step, bounds, at_most}
use Rattle.wi_rules.specs.declared.spot.Origin.{Origin}
use Rattle.wi_rules.specs.declared.spot.Origin.TheVariants.{Pushed, SetOut, Hop, Operation, Ending, Nothing}
use Rattle.wi_rules.specs.declared.spot.Spot.{Spot}
use Rattle.wi_rules.specs.declared.spot.Spot.TheVariants.{Start, Done, Build, Close, OnLink, Mid, Drop}
use Rattle.wi_rules.specs.Rules.{SpotRule, Encoding, plain, working, ending, pushing, rules_of}
use Rattle.wi_rules.specs.Goals.{IsGoalRun, IsMatch, rules_weight, origins_of, origins_for}
use Rattle.wi_rules.specs.Numbers.{layout_of, number, spot_of, rules_at_number, NumberedRule}
use Rattle.wi_rules.proofs.Lists.{in_contains}
use Rattle.wi_rules.proofs.Samples.{label, s10, ip1, base, shared, same_link_twice, undefined_first, undefined_second, undefined_third, balanced, popped_twice, any, encoding, along, along_is, lost, lost_is, all_walks}

-- The automata have 3, 2 and 3 states, and there are five links and five members: 2, 2 + 3, 2 + 3 + 3 and 2 + 3 + 3 + 10 are
-- the first numbers of the four blocks of spots, and 2 + 3 + 3 + 10 + 70 is past the last. Where packets are dropped it is the first
-- of a fifth block.
layout : layout_of along ≡ record { first = 3; last = 3; path = 2; links = 5; members = 5; drops = false }
layout = refl

spots : (spot_of (layout_of along) 0 ≡ Some Start) × (spot_of (layout_of along) 1 ≡ Some Done) × (spot_of (layout_of along) 4 ≡ Some (Build 2)) × (spot_of (layout_of along) 7 ≡ Some (Close 2))
spots = (refl, refl, refl, refl)

later_spots : (spot_of (layout_of along) 11 ≡ Some (OnLink (l 1) 1)) × (spot_of (layout_of along) 87 ≡ Some (Mid 4 7 1)) × (spot_of (layout_of along) 88 ≡ None)
later_spots = (refl, refl, refl)

dropping_spots : (spot_of (layout_of (record along { drops = true })) 88 ≡ Some (Drop 0 1)) × (spot_of (layout_of (record along { drops = true })) 122 ≡ Some (Drop 4 7)) × (spot_of (layout_of (record along { drops = true })) 123 ≡ None)
dropping_spots = (refl, refl, refl)

numbers : (number (layout_of along) (OnLink (l 1) 1) ≡ 11) × (number (layout_of along) (Close 2) ≡ 7) × (number (layout_of along) (Mid 4 7 1) ≡ 87) × (number (layout_of along) (Drop 4 7) ≡ 122)
numbers = (refl, refl, refl, refl)

-- a rule of effort 1 and no other weight
abbrev rule : ℕ → Word2 → Origin → NumberedRule
rule to word origin = record { to = to; word = word; weight = 1 ∷ []; origin = origin }

-- Where the packet is on the link to b with s10 on top, the only rule ends its journey: the way on to y isn't in the path. Its
-- symbol is kept.
ends : rules_at_number along 11 2 ≡ rule 5 (One 2) (Ending Arrives) ∷ []
ends = refl

-- Before the path accepts there is none, and none at a number that is no spot's.
no_end : (rules_at_number along 10 2 ≡ []) × (rules_at_number along 88 2 ≡ [])
no_end = (refl, refl)

-- The first header is made from its accepting state back to the start: ip1 over the bottom, s10 over that.
begins : rules_at_number along 0 0 ≡ rule 4 (One 0) Nothing ∷ []
begins = refl

makes : (rules_at_number along 4 0 ≡ rule 3 (Two 3 0) (Pushed (label 2)) ∷ []) × (rules_at_number along 3 3 ≡ rule 2 (Two 2 3) (Pushed (label 1)) ∷ [])
makes = (refl, refl)

-- ip1 isn't pushed on a label, nor s10 on the bottom or on s10.
makes_no_other : (rules_at_number along 4 2 ≡ []) × (rules_at_number along 3 0 ≡ []) × (rules_at_number along 3 2 ≡ [])
makes_no_other = (refl, refl, refl)

-- The path begins with the link to b alone; no packet sets out with no label.
sets_out : (rules_at_number along 2 2 ≡ rule 11 (One 2) (SetOut (l 1)) ∷ []) × (rules_at_number along 2 0 ≡ [])
sets_out = (refl, refl)

-- The last header is read from the top, and then the bottom goes.
reads : (rules_at_number along 5 2 ≡ rule 6 Empty Nothing ∷ []) × (rules_at_number along 6 3 ≡ rule 7 Empty Nothing ∷ []) × (rules_at_number along 7 0 ≡ rule 1 Empty Nothing ∷ [])
reads = (refl, refl, refl)

reads_no_other : (rules_at_number along 5 0 ≡ []) × (rules_at_number along 5 3 ≡ []) × (rules_at_number along 1 0 ≡ [])
reads_no_other = (refl, refl, refl)

-- a path of any links
abbrev free : Net → ℕ → Encoding
free net k = encoding net (at_most k) any

-- There are three labels, and so no rule for symbol 4: not where a packet would set out, not on a link, not where a header is
-- read, though the automata go on by any number.
past_labels : (rules_at_number (record (free base 1) { last = any }) 2 4 ≡ []) × (rules_at_number (record (free base 1) { last = any }) 9 4 ≡ []) × (rules_at_number (record (free base 1) { last = any }) 5 4 ≡ [])
past_labels = (refl, refl, refl)

-- Any link may be the first, but for those known to be down.
sets_out_anywhere : rules_at_number (free base 0) 2 3 ≡ rule 9 (One 3) (SetOut (l 0)) ∷ rule 11 (One 3) (SetOut (l 1)) ∷ rule 13 (One 3) (SetOut (l 2)) ∷ rule 15 (One 3) (SetOut (l 3)) ∷ rule 17 (One 3) (SetOut (l 4)) ∷ []
sets_out_anywhere = refl

sets_out_but_down : rules_at_number (encoding base (bounds 0 (l 1 ∷ l 3 ∷ []) []) any) 2 3 ≡ rule 9 (One 3) (SetOut (l 0)) ∷ rule 13 (One 3) (SetOut (l 2)) ∷ rule 17 (One 3) (SetOut (l 4)) ∷ []
sets_out_but_down = refl

-- On the link from x with ip1 on top the packet hops to b; where one link may fail it may hop to c too, and has then 30 to push.
hops : rules_at_number (free base 0) 9 3 ≡ rule 11 (Two 2 3) (Hop (step 0 0)) ∷ rule 5 (One 3) (Ending Arrives) ∷ []
hops = refl

hops_by_both : rules_at_number (free base 1) 9 3 ≡ rule 11 (Two 2 3) (Hop (step 0 0)) ∷ rule 33 (Two 2 3) (Hop (step 1 0)) ∷ rule 5 (One 3) (Ending Arrives) ∷ []
hops_by_both = refl

pushes_more : (spot_of (layout_of (free base 1)) 33 ≡ Some (Mid 1 1 1)) × (rules_at_number (free base 1) 33 2 ≡ rule 13 (Two 1 2) (Operation 1 1) ∷ []) × (rules_at_number (free base 1) 33 3 ≡ [])
pushes_more = (refl, refl, refl)

-- Known to be down, the link to b isn't counted and isn't taken; known to be up, it can't have failed.
hops_by_c : rules_at_number (encoding base (bounds 0 (l 1 ∷ []) []) any) 9 3 ≡ rule 33 (Two 2 3) (Hop (step 1 0)) ∷ rule 5 (One 3) (Ending Arrives) ∷ []
hops_by_c = refl

hops_by_b : rules_at_number (encoding base (bounds 1 [] (l 1 ∷ [])) any) 9 3 ≡ rule 11 (Two 2 3) (Hop (step 0 0)) ∷ rule 5 (One 3) (Ending Arrives) ∷ []
hops_by_b = refl

-- With the links to b and to c in one risk group the second choice has its own link before it, and so it has where both
-- choices are one link: it is never taken.
never_by_c : rules_at_number (free shared 5) 9 3 ≡ rule 11 (Two 2 3) (Hop (step 0 0)) ∷ rule 5 (One 3) (Ending Arrives) ∷ []
never_by_c = refl

never_again : rules_at_number (free same_link_twice 5) 9 3 ≡ rule 11 (One 3) (Hop (step 0 0)) ∷ rule 5 (One 3) (Ending Arrives) ∷ []
never_again = refl

-- A push of 30 on ip1 isn't defined, and gives no rule.
undefined : (rules_at_number (free undefined_first 0) 9 3 ≡ rule 5 (One 3) (Ending Arrives) ∷ []) × (rules_at_number (free undefined_first 1) 9 3 ≡ rule 33 (Two 2 3) (Hop (step 1 0)) ∷ rule 5 (One 3) (Ending Arrives) ∷ [])
undefined = (refl, refl)

-- Members of one group stand one after the other; one without operations keeps the top.
hops_within : rules_at_number (free balanced 0) 9 3 ≡ rule 11 (Two 2 3) (Hop (step 0 0)) ∷ rule 33 (Two 2 3) (Hop (step 0 1)) ∷ rule 11 (One 3) (Hop (step 0 2)) ∷ rule 5 (One 3) (Ending Arrives) ∷ []
hops_within = refl

-- an end's share, by its kind, its link, its label and its step
abbrev weighed_end : LinkId → Label → End → List ℕ
weighed_end e t Arrives = 30 ∷ []
weighed_end e t Inactive = (40 + e.0) ∷ []
weighed_end e t (Undefined step) = (50 + t.0 + step.group) ∷ []

-- A first link, a hop and an end add to a term, and the rules between add nothing.
abbrev weighed : Encoding
weighed = record (free base 1) { terms = 1; first_share = λ e. (7 + e.0) ∷ []; step_share = λ e t step. (20 + step.group) ∷ []; end_share = weighed_end }

weighs : rules_at_number weighed 9 3 ≡ record (rule 11 (Two 2 3) (Hop (step 0 0))) { weight = 20 ∷ 1 ∷ [] } ∷ record (rule 33 (Two 2 3) (Hop (step 1 0))) { weight = 21 ∷ 1 ∷ [] } ∷ record (rule 5 (One 3) (Ending Arrives)) { weight = 30 ∷ 1 ∷ [] } ∷ []
weighs = refl

weighs_first : rules_at_number (record weighed { path = along.path }) 2 2 ≡ record (rule 11 (One 2) (SetOut (l 1))) { weight = 8 ∷ 1 ∷ [] } ∷ []
weighs_first = refl

-- the same where packets are dropped
abbrev losing : Net → ℕ → Encoding
losing net k = record (free net k) { drops = true }

-- No rule is for an arrival. No group is active at a where both links have failed, so two failures have to be allowed. The first
-- choice does what it says, and so would the second, of which the first operation alone is done so far: whether the next one isn't
-- defined shows at its own spot.
drops_none : rules_at_number (losing base 0) 9 3 ≡ rule 11 (Two 2 3) (Hop (step 0 0)) ∷ []
drops_none = refl

drops_by_c : rules_at_number (losing base 1) 9 3 ≡ rule 11 (Two 2 3) (Hop (step 0 0)) ∷ rule 33 (Two 2 3) (Hop (step 1 0)) ∷ rule 95 (Two 2 3) (Ending (Undefined (step 1 0))) ∷ []
drops_by_c = refl

drops_idle : rules_at_number (losing base 2) 9 3 ≡ rule 11 (Two 2 3) (Hop (step 0 0)) ∷ rule 33 (Two 2 3) (Hop (step 1 0)) ∷ rule 5 (One 3) (Ending Inactive) ∷ rule 95 (Two 2 3) (Ending (Undefined (step 1 0))) ∷ []
drops_idle = refl

-- What is known to be down isn't counted, and what is known to be up can't have failed.
drops_idle_by_one : rules_at_number (record (losing base 1) { bounds = bounds 1 (l 1 ∷ []) [] }) 9 3 ≡ rule 33 (Two 2 3) (Hop (step 1 0)) ∷ rule 5 (One 3) (Ending Inactive) ∷ rule 95 (Two 2 3) (Ending (Undefined (step 1 0))) ∷ []
drops_idle_by_one = refl

drops_never_idle : rules_at_number (record (losing base 2) { bounds = bounds 2 [] (l 2 ∷ []) }) 9 3 ≡ rule 11 (Two 2 3) (Hop (step 0 0)) ∷ rule 33 (Two 2 3) (Hop (step 1 0)) ∷ rule 95 (Two 2 3) (Ending (Undefined (step 1 0))) ∷ []
drops_never_idle = refl

-- Where there is no row, no group is active, and nothing has to fail. Before the path accepts there is no such rule, nor over no label.
drops_at_y : rules_at_number (losing base 0) 17 3 ≡ rule 5 (One 3) (Ending Inactive) ∷ []
drops_at_y = refl

drops_no_end : (rules_at_number (losing base 0) 16 3 ≡ []) × (rules_at_number (losing base 0) 17 4 ≡ []) × (rules_at_number (losing base 0) 17 0 ≡ [])
drops_no_end = (refl, refl, refl)

-- The second operation of the way by c is its last: over s10, where 30 may be pushed, nothing is dropped, and over ip1 a packet is.
drops_on_way : (spot_of (layout_of (losing base 1)) 95 ≡ Some (Drop 1 1)) × (rules_at_number (losing base 1) 95 2 ≡ []) × (rules_at_number (losing base 1) 95 3 ≡ rule 5 (One 3) (Operation 1 1) ∷ [])
drops_on_way = (refl, refl, refl)

-- There is none over the bottom or over no label, and none past a member's last operation; past the last member there is no such
-- spot, and none where packets arrive.
drops_nothing : (rules_at_number (losing base 1) 95 0 ≡ []) × (rules_at_number (losing base 1) 95 4 ≡ []) × (rules_at_number (losing base 1) 96 3 ≡ []) × (rules_at_number (losing base 1) 123 3 ≡ []) × (rules_at_number (free base 1) 95 3 ≡ [])
drops_nothing = (refl, refl, refl, refl, refl)

-- A push of 30 on ip1 isn't defined, and the packet is dropped at once; a second push of s10 isn't either, over the first.
drops_first : rules_at_number (losing undefined_first 0) 9 3 ≡ rule 5 (One 3) (Ending (Undefined (step 0 0))) ∷ []
drops_first = refl

drops_second : (rules_at_number (losing undefined_second 0) 9 3 ≡ rule 19 (Two 2 3) (Hop (step 0 0)) ∷ rule 88 (Two 2 3) (Ending (Undefined (step 0 0))) ∷ []) × (rules_at_number (losing undefined_second 0) 88 2 ≡ rule 5 (One 2) (Operation 0 1) ∷ [])
drops_second = (refl, refl)

-- Two operations are done on the way to a third that isn't defined.
drops_third : (rules_at_number (losing undefined_third 0) 9 3 ≡ rule 19 (Two 2 3) (Hop (step 0 0)) ∷ rule 88 (Two 2 3) (Ending (Undefined (step 0 0))) ∷ []) × (rules_at_number (losing undefined_third 0) 88 2 ≡ rule 89 (Two 1 2) (Operation 0 1) ∷ []) × (rules_at_number (losing undefined_third 0) 89 1 ≡ rule 5 (One 1) (Operation 0 2) ∷ [])
drops_third = (refl, refl, refl)

-- A second choice by the link of the first drops nothing; of one group each member that has a second operation may, and one without
-- any never does.
drops_never_again : rules_at_number (losing same_link_twice 5) 9 3 ≡ rule 11 (One 3) (Hop (step 0 0)) ∷ rule 5 (One 3) (Ending Inactive) ∷ []
drops_never_again = refl

drops_within : rules_at_number (losing balanced 0) 9 3 ≡ rule 11 (Two 2 3) (Hop (step 0 0)) ∷ rule 33 (Two 2 3) (Hop (step 0 1)) ∷ rule 11 (One 3) (Hop (step 0 2)) ∷ rule 109 (Two 2 3) (Ending (Undefined (step 0 1))) ∷ []
drops_within = refl

-- The rule that ends a run adds the end's share, and those on the way through its member add nothing.
drops_weighed : rules_at_number (record weighed { drops = true }) 9 3 ≡ record (rule 11 (Two 2 3) (Hop (step 0 0))) { weight = 20 ∷ 1 ∷ [] } ∷ record (rule 33 (Two 2 3) (Hop (step 1 0))) { weight = 21 ∷ 1 ∷ [] } ∷ record (rule 95 (Two 2 3) (Ending (Undefined (step 1 0)))) { weight = 53 ∷ 1 ∷ [] } ∷ []
drops_weighed = refl

drops_weighed_at_y : rules_at_number (record weighed { drops = true }) 17 3 ≡ record (rule 5 (One 3) (Ending Inactive)) { weight = 44 ∷ 1 ∷ [] } ∷ []
drops_weighed_at_y = refl

drops_weighed_on_way : rules_at_number (record weighed { drops = true }) 95 3 ≡ record (rule 5 (One 3) (Operation 1 1)) { weight = 0 ∷ 1 ∷ [] } ∷ []
drops_weighed_on_way = refl

-- A goal run: a rule to begin, two that push a label, one for the first link, one to end, two that pop a label, and one for the
-- bottom.
abbrev eight : List SpotRule
eight =
    plain along (Build 2) (One 0)
    ∷ pushing along 2 0 1
    ∷ pushing along 1 3 0
    ∷ record { to = OnLink (l 1) 1; word = One 2; share = []; origin = SetOut (l 1) }
    ∷ ending along (l 1) (label 1) Arrives (Close 0) (One 2)
    ∷ plain along (Close 1) Empty
    ∷ plain along (Close 2) Empty
    ∷ plain along Done Empty
    ∷ []

-- the first rule of a head is one of them
first_of_head : (s : Encoding) (p : Spot) (g : ℕ) (r : SpotRule) (rs : List SpotRule) → rules_of s p g ≡ r ∷ rs → Contains (rules_of s p g) r
first_of_head s p g r rs e = in_contains (rules_of s p g) r (rw e (inl refl))

eight_run : IsGoalRun along eight
eight_run = (
  first_of_head along Start 0 _ [] refl,
  (
    first_of_head along (Build 2) 0 _ [] refl,
    (
      first_of_head along (Build 1) 3 _ [] refl,
      (
        first_of_head along (Build 0) 2 _ [] refl,
        (first_of_head along (OnLink (l 1) 1) 2 _ [] refl, (first_of_head along (Close 0) 2 _ [] refl, (first_of_head along (Close 1) 3 _ [] refl, (first_of_head along (Close 2) 0 _ [] refl, (refl, refl))))),
      ),
    ),
  ),
)

eight_weight : rules_weight along eight ≡ 8 ∷ []
eight_weight = refl

-- It stands for a packet with the header s10 ip1 on the link from a to b, which has gone far enough: a matching moving run of
-- effort 2 + 2 + 4.
abbrev stays : Run
stays = record { first = l 1; header = s10 ∷ ip1 ∷ []; steps = []; end = Arrives }

eight_told : origins_of eight ≡ origins_for stays
eight_told = refl

stays_is : IsMatch along (8 ∷ []) stays
stays_is = record {
  moving = possible_moving base (at_most 0) stays along_is.net along_is.bounds refl;
  matches = record {
    first = (2, (1, in_contains (1 ∷ []) 1 (inl refl), (2, in_contains (2 ∷ []) 2 (inl refl), refl)), refl);
    path = (1, (1, in_contains (1 ∷ []) 1 (inl refl), refl), refl);
    last = (2, (1, in_contains (1 ∷ []) 1 (inl refl), (2, in_contains (2 ∷ []) 2 (inl refl), refl)), refl);
    end = refl;
  };
  weight = refl;
}

-- A packet that is dropped: the rule that ends its journey pops s10, the next one finds that ip1 can't be popped, and one label and the
-- bottom are left.
abbrev eight_lost : List SpotRule
eight_lost =
    plain lost (Build 2) (One 0)
    ∷ pushing lost 2 0 1
    ∷ pushing lost 1 3 0
    ∷ record { to = OnLink (l 1) 1; word = One 2; share = []; origin = SetOut (l 1) }
    ∷ ending lost (l 1) (label 1) (Undefined (step 0 0)) (Drop 0 1) Empty
    ∷ working lost 0 1 (Close 0) (One 3)
    ∷ plain lost (Close 0) Empty
    ∷ plain lost Done Empty
    ∷ []

eight_lost_run : IsGoalRun lost eight_lost
eight_lost_run = (
  first_of_head lost Start 0 _ [] refl,
  (
    first_of_head lost (Build 2) 0 _ [] refl,
    (
      first_of_head lost (Build 1) 3 _ [] refl,
      (
        first_of_head lost (Build 0) 2 _ [] refl,
        (first_of_head lost (OnLink (l 1) 1) 2 _ [] refl, (first_of_head lost (Drop 0 1) 3 _ [] refl, (first_of_head lost (Close 0) 3 _ [] refl, (first_of_head lost (Close 0) 0 _ [] refl, (refl, refl))))),
      ),
    ),
  ),
)

eight_lost_weight : rules_weight lost eight_lost ≡ 8 ∷ []
eight_lost_weight = refl

-- Of effort 2 + 1 + 1 + 4.
abbrev loses : Run
loses = record stays { end = Undefined (step 0 0) }

eight_lost_told : origins_of eight_lost ≡ origins_for loses
eight_lost_told = refl

loses_is : IsMatch lost (8 ∷ []) loses
loses_is = record {
  moving = possible_moving popped_twice (at_most 0) loses lost_is.net lost_is.bounds refl;
  matches = record {
    first = (2, (1, in_contains (1 ∷ []) 1 (inl refl), (2, in_contains (2 ∷ []) 2 (inl refl), refl)), refl);
    path = (1, (1, in_contains (1 ∷ []) 1 (inl refl), refl), refl);
    last = (0, all_walks (1 ∷ 2 ∷ []), refl);
    end = refl;
  };
  weight = refl;
}
