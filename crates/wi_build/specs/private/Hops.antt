-- Where an entry is gone over, as far as its rules are made.
use Rattle.std.specs.Prelude.{◌≡◌, ℕ, suc, ◌+◌, ◌<◌, true, List, length, take, slice_get, Some}
use Rattle.wi_net.specs.declared.parts.Member.{Member}
use Rattle.wi_net.specs.Net.{entry}
use Rattle.wi_net.specs.Tables.{group_members, members_before}
use Rattle.wi_world.specs.declared.run.Step.{Step}
use Rattle.wi_quantity.specs.Weighing.{member_in}
use Rattle.wi_rules.specs.Rules.{member_number}
use Rattle.wi_build.specs.declared.head.Arrival.{Arrival}
use Rattle.wi_build.specs.declared.needs.Needs.{Needs}
use Rattle.wi_build.specs.private.Needs.{no_needs, with_groups, may_be_down}
use Rattle.wi_build.specs.Problems.{Problem}
use Rattle.wi_build.specs.Encodings.{encoding_of}

-- a packet is where a label is on top, with the path's automaton in a state that there is
pub record IsArrival (problem : Problem) (at : Arrival) (symbol : ℕ) : Type 0 where
  pub symbol_is : symbol ≡ suc at.top.0
  pub label : at.top.0 < length problem.net.classes
  pub state : at.state < (encoding_of problem).path.states

-- what must have failed for a group of the entry, and it may be down
pub record AreNeeds (problem : Problem) (at : Arrival) (needs : Needs) (j : ℕ) : Type 0 where
  pub are : needs ≡ with_groups problem.net problem.bounds no_needs (take j (entry problem.net at.link at.top))
  pub down : may_be_down problem.bounds needs ≡ true

-- a group of the entry, with the number of its first member
pub record IsGroup (problem : Problem) (at : Arrival) (j first : ℕ) (members : List Member) : Type 0 where
  pub group : slice_get (entry problem.net at.link at.top) j ≡ Some members
  pub first_is : first ≡ members_before problem.net.rows at.link at.top + group_members (take j (entry problem.net at.link at.top))

-- a member of the entry, with its number
pub record IsMember (problem : Problem) (at : Arrival) (step : Step) (number : ℕ) (member : Member) : Type 0 where
  pub there : member_in (entry problem.net at.link at.top) step.group step.member ≡ Some member
  pub number_is : number ≡ member_number problem.net at.link at.top step
