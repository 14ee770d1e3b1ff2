-- Where a packet goes: hops and traces under a set of failed links (AalWiNes, CoNEXT 2020), and hops that are possible
-- while links fail and are repaired; and where it is dropped.
use Rattle.std.specs.Prelude.{◌≡◌, Bool, true, false, not, ◌&&◌, ◌==◌, nat_le, List, [], ◌∷◌, length, slice_get, Option, is_none}
use Rattle.std.specs.Option.{option_map, option_map_or, option_and_then}
use Rattle.wi_labels.specs.Header.{Entry, after_ops, is_valid_header}
use Rattle.wi_net.specs.declared.parts.LinkId.{LinkId}
use Rattle.wi_net.specs.declared.parts.Member.{Member}
use Rattle.wi_net.specs.declared.bounds.Bounds.{Bounds}
use Rattle.wi_net.specs.LinkSet.{has, is_within, is_apart, outside}
use Rattle.wi_net.specs.Net.{Net, is_link, labels_known, widened, risk_count, entry, first_active, before}
use Rattle.wi_net.specs.Network.{IsNetwork}
use Rattle.wi_world.specs.declared.run.Step.{Step}
use Rattle.wi_world.specs.declared.run.Run.{Run}
use Rattle.wi_world.specs.declared.run.End.{End}
use Rattle.wi_world.specs.declared.run.End.TheVariants.{Arrives, Inactive, Undefined}

-- the link that the packet is on, and its header
abbrev pub Location : Type 0
Location = LinkId × List Entry

-- the groups that the tables have for a link and a header
abbrev pub groups_at : Net → LinkId → List Entry → List (List Member)
groups_at net e [] = []
groups_at net e (top ∷ below) = entry net e top.0

-- the member that a step names
abbrev pub member_at : Net → Location → Step → Option Member
member_at net at step = option_and_then (λ group. slice_get group step.member) (slice_get (groups_at net at.0 at.1) step.group)

-- where a member leads: nowhere, where one of its operations isn't defined
abbrev pub through : List Entry → Member → Option Location
through header member = option_map (λ next. (member.link, next)) (after_ops member.ops header)

-- where a step leads, whatever is failed
abbrev pub moved : Net → Location → Step → Option Location
moved net at step = option_and_then (λ member. through at.1 member) (member_at net at step)

-- what must have failed for the step's group to be used: the risk groups of the links of the groups before it
abbrev pub needed : Net → Location → Step → List LinkId
needed net at step = before net (groups_at net at.0 at.1) step.group

-- the step names a member, whose link passes a test
abbrev pub by_link : Net → Location → Step → (LinkId → Bool) → Bool
by_link net at step p = option_map_or (λ member. p member.link) (member_at net at step) false

-- the hop of one moment: the step's group is the first active one, and its member's link isn't failed
abbrev pub is_usable : Net → List LinkId → Location → Step → Bool
is_usable net fails at step =
    option_map_or (λ j. j == step.group) (first_active fails (groups_at net at.0 at.1)) false
    && by_link net at step (λ e. not (has fails e))

-- all of a union of risk groups may be down at some moment
abbrev pub may_be_down : Net → Bounds → List LinkId → Bool
may_be_down net bounds links = nat_le (risk_count net (outside links bounds.down)) bounds.k && is_apart links bounds.up

-- a link may be up then
abbrev pub may_be_up : Bounds → List LinkId → LinkId → Bool
may_be_up bounds links e = not (has links e) && not (has bounds.down e)

-- the hop can happen at some moment: all that it needs may be down then, with its own link up
abbrev pub is_possible : Net → Bounds → Location → Step → Bool
is_possible net bounds at step = may_be_down net bounds (needed net at step) && by_link net at step (may_be_up bounds (needed net at step))

-- the step names a member one of whose operations isn't defined
abbrev pub is_undefined : Net → Location → Step → Bool
is_undefined net at step = option_map_or (λ member. is_none (through at.1 member)) (member_at net at step) false

-- while just these links are failed, a packet may end so: by no active group, or by a member that a hop would take, but for its
-- operations
abbrev pub may_end : Net → List LinkId → Location → End → Bool
may_end net fails at Arrives = true
may_end net fails at Inactive = is_none (first_active fails (groups_at net at.0 at.1))
may_end net fails at (Undefined step) = is_usable net fails at step && is_undefined net at step

-- what must have failed for a packet to end so where these are its groups: the risk groups of the links of all of them, or of those
-- before the step's
abbrev pub before_end : Net → List (List Member) → End → List LinkId
before_end net groups Arrives = []
before_end net groups Inactive = before net groups (length groups)
before_end net groups (Undefined step) = before net groups step.group

abbrev pub needed_to_end : Net → Location → End → List LinkId
needed_to_end net at end = before_end net (groups_at net at.0 at.1) end

-- a packet may end so at some moment
abbrev pub can_end : Net → Bounds → Location → End → Bool
can_end net bounds at Arrives = true
can_end net bounds at Inactive = may_be_down net bounds (needed_to_end net at Inactive)
can_end net bounds at (Undefined step) = is_possible net bounds at step && is_undefined net at step

-- each step passes a test where the packet is, and leads on; where they have led, the last test is passed
abbrev pub follows : Net → (Location → Step → Bool) → (Location → Bool) → Location → List Step → Bool
follows net test last at [] = last at
follows net test last at (step ∷ steps) = test at step && option_map_or (λ next. follows net test last next steps) (moved net at step) false

-- a packet may set out: on a link that isn't failed, with a valid header of labels of the network
abbrev pub is_start : Net → List LinkId → LinkId → List Entry → Bool
is_start net fails e header = is_link net e && not (has fails e) && is_valid_header header && labels_known net header

-- a trace under a set of failed links: a start, then usable hops, and an end that may be
abbrev pub is_trace : Net → List LinkId → Run → Bool
is_trace net fails run =
    is_start net fails run.first run.header
    && follows net (is_usable net fails) (λ at. may_end net fails at run.end) (run.first, run.header) run.steps

-- a start, then possible hops, and an end that can be
abbrev pub is_possible_run : Net → Bounds → Run → Bool
is_possible_run net bounds run =
    is_start net bounds.down run.first run.header
    && follows net (is_possible net bounds) (λ at. can_end net bounds at run.end) (run.first, run.header) run.steps

-- failed links that the bounds allow: a union of risk groups, all of down, none of up, and at most k groups besides down
pub record IsAllowed (net : Net) (bounds : Bounds) (fails : List LinkId) : Type 0 where
  pub union : widened net fails ≡ fails
  pub down : is_within bounds.down fails ≡ true
  pub up : is_apart fails bounds.up ≡ true
  pub few : nat_le (risk_count net (outside fails bounds.down)) bounds.k ≡ true

-- bounds whose two lists are unions of risk groups with no link in common
pub record AreBounds (net : Net) (bounds : Bounds) : Type 0 where
  pub down : widened net bounds.down ≡ bounds.down
  pub up : widened net bounds.up ≡ bounds.up
  pub apart : is_apart bounds.down bounds.up ≡ true

-- a network, and bounds on what may fail in it
pub record IsBounded (net : Net) (bounds : Bounds) : Type 0 where
  pub network : IsNetwork net
  pub bounds_of : AreBounds net bounds
