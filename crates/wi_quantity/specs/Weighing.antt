-- What runs weigh by a vector: for each of five terms the sum of its parts, then the effort. Terms that aren't there are 0.
use Rattle.std.specs.Prelude.{ℕ, ◌+◌, ◌-◌, ◌*◌, Bool, true, false, ◌&&◌, nat_le, List, [], ◌∷◌, ◌++◌, length, map, take, replicate, filter, slice_get, Option}
use Rattle.std.specs.List.{sum}
use Rattle.std.specs.Option.{option_map_or, option_and_then}
use Rattle.wi_labels.specs.declared.ops.Op.{Op}
use Rattle.wi_labels.specs.declared.ops.Op.TheVariants.{Push, Pop}
use Rattle.wi_weight.specs.declared.kinds.Pair.{Pair}
use Rattle.wi_weight.specs.declared.kinds.Terms.{Terms}
use Rattle.wi_weight.specs.declared.kinds.Effort.{Effort}
use Rattle.wi_weight.specs.Weights.{plus}
use Rattle.wi_net.specs.declared.parts.Member.{Member}
use Rattle.wi_net.specs.Net.{Net, is_link, risk_count, before}
use Rattle.wi_world.specs.declared.run.Quantity.{Quantity}
use Rattle.wi_world.specs.declared.run.Quantity.TheVariants.{Failures, Tunnels}
use Rattle.wi_world.specs.declared.run.Run.{Run}
use Rattle.wi_world.specs.declared.run.Step.{Step}
use Rattle.wi_world.specs.declared.run.End.{End}
use Rattle.wi_world.specs.Moves.{Location, groups_at, moved, needed_to_end}
use Rattle.wi_world.specs.Runs.{link_share, quantity_of, effort_of}
use Rattle.wi_quantity.specs.declared.vector.Part.{Part}

-- the six components of a weight
abbrev pub components : Pair Terms Effort → List ℕ
components w = w.first.first ∷ w.first.second ∷ w.first.third ∷ w.first.fourth ∷ w.first.fifth ∷ w.second.count ∷ []

-- a term's value, where each quantity has a value
abbrev pub term_value : (Quantity → ℕ) → List Part → ℕ
term_value value term = sum (map (λ part. part.coefficient * value part.quantity) term)

-- the values of five terms, where each quantity has a value
abbrev pub term_values : (Quantity → ℕ) → List (List Part) → List ℕ
term_values value vector = take 5 (map (term_value value) vector ++ replicate 5 0)

-- what a run weighs
abbrev pub weight_of : Net → List (List Part) → Run → List ℕ
weight_of net vector run = term_values (λ q. quantity_of q net run) vector ++ effort_of net run ∷ []

-- by how many labels operations make a header grow, where they are defined
abbrev pub is_push : Op → Bool
is_push (Push l c) = true
is_push op = false

abbrev pub is_pop : Op → Bool
is_pop Pop = true
is_pop op = false

abbrev pub growth : List Op → ℕ
growth ops = length (filter is_push ops) - length (filter is_pop ops)

-- what a hop through a member adds to a quantity, where so many risk groups must have failed before
abbrev pub member_share : Quantity → Net → Member → ℕ → ℕ
member_share Failures net m failures = link_share Failures net m.link + failures
member_share Tunnels net m failures = link_share Tunnels net m.link + growth m.ops
member_share q net m failures = link_share q net m.link

-- what an end adds to a quantity, where so many risk groups must have failed for it
abbrev pub end_adds : Quantity → ℕ → ℕ
end_adds Failures failures = failures
end_adds q failures = 0

-- the weight of beginning on a link, without effort
abbrev pub first_weight : Net → List (List Part) → ℕ → List ℕ
first_weight net vector e = term_values (λ q. link_share q net (record { 0 = e })) vector ++ 0 ∷ []

-- the weight of a hop through a member, without effort
abbrev pub hop_weight : Net → List (List Part) → Member → ℕ → List ℕ
hop_weight net vector m failures = term_values (λ q. member_share q net m failures) vector ++ 0 ∷ []

-- the member of a number in a group of a number
abbrev pub member_in : List (List Member) → ℕ → ℕ → Option Member
member_in groups j m = option_and_then (λ group. slice_get group m) (slice_get groups j)

-- the weight of a hop through a member of an entry, without effort: none where there is no such member
abbrev pub entry_weight : Net → List (List Part) → List (List Member) → ℕ → ℕ → List ℕ
entry_weight net vector groups j m = option_map_or (λ member. hop_weight net vector member (risk_count net (before net groups j))) (member_in groups j m) (replicate 6 0)

-- the weight of a step, without effort
abbrev pub step_weight : Net → List (List Part) → Location → Step → List ℕ
step_weight net vector at step = entry_weight net vector (groups_at net at.0 at.1) step.group step.member

-- the weight of an end for which so many risk groups must have failed, without effort
abbrev pub end_weight : List (List Part) → ℕ → List ℕ
end_weight vector failures = term_values (λ q. end_adds q failures) vector ++ 0 ∷ []

-- the sum of the weights of steps, as far as they lead, and of the end
abbrev pub steps_weight : Net → List (List Part) → End → Location → List Step → List ℕ
steps_weight net vector end at [] = end_weight vector (risk_count net (needed_to_end net at end))
steps_weight net vector end at (step ∷ steps) =
    option_map_or (λ next. plus (step_weight net vector at step) (steps_weight net vector end next steps)) (moved net at step) (replicate 6 0)

-- a member goes out over a link of the network, with as few operations as a table may have
abbrev pub is_way_out : Net → Member → Bool
is_way_out net m = is_link net m.link && nat_le (length m.ops) 8

-- and so does the member of a number in a group of a number
abbrev pub has_way_out : Net → List (List Member) → ℕ → ℕ → Bool
has_way_out net groups j m = option_map_or (is_way_out net) (member_in groups j m) false
