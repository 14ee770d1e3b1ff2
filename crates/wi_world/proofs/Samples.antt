-- Small networks, and runs on them. Packets come from x to a, and go from a to b, or from a by c to b; from b they go to y.
use Rattle.std.proofs.Common.{◌≡◌, ℕ, ◌*◌, ◌^◌, true, nat_lt, nat_le, List, [], ◌∷◌, length, take, Some, refl}
use Rattle.std.specs.List.{list_all}
use Rattle.std.proofs.lemmas.Bool.{leb-true}
use Rattle.wi_labels.specs.declared.label.Label.{Label}
use Rattle.wi_labels.specs.declared.label.Class.TheVariants.{Mpls, Smpls, Ip}
use Rattle.wi_labels.specs.declared.ops.Op.{Op}
use Rattle.wi_labels.specs.declared.ops.Op.TheVariants.{Swap, Push, Pop}
use Rattle.wi_labels.specs.Header.{Entry}
use Rattle.wi_net.specs.declared.parts.LinkId.{LinkId}
use Rattle.wi_net.specs.declared.parts.Link.{Link}
use Rattle.wi_net.specs.declared.parts.Member.{Member}
use Rattle.wi_net.specs.declared.parts.TableRow.{TableRow}
use Rattle.wi_net.specs.declared.bounds.Bounds.{Bounds}
use Rattle.wi_net.specs.Names.{are_names}
use Rattle.wi_net.specs.Ends.{are_ends_apart}
use Rattle.wi_net.specs.Tables.{are_rows_apart, row_members}
use Rattle.wi_net.specs.Net.{Net, all_links}
use Rattle.wi_net.specs.Network.{is_link_of, is_risk_named, is_row_of, named_after, IsNetwork}
use Rattle.wi_world.specs.declared.run.Step.{Step}
use Rattle.wi_world.specs.declared.run.Run.{Run}
use Rattle.wi_world.specs.declared.run.End.{End}
use Rattle.wi_world.specs.declared.run.End.TheVariants.{Arrives, Inactive, Undefined}
use Rattle.wi_world.specs.declared.world.State.{State}

-- the link of a number
abbrev pub l : ℕ → LinkId
l n = record { 0 = n }

abbrev label : ℕ → Label
label n = record { 0 = n }

-- the labels: 30, 31, s10, ip1
abbrev pub t30 : Entry
t30 = (label 0, Mpls)

abbrev pub t31 : Entry
t31 = (label 1, Mpls)

abbrev pub s10 : Entry
s10 = (label 2, Smpls)

abbrev pub ip1 : Entry
ip1 = (label 3, Ip)

abbrev pub push : Entry → Op
push e = Push e.0 e.1

abbrev pub swap : Entry → Op
swap e = Swap e.0 e.1

-- link n between two routers, by interfaces of the name n at both: a distance, a risk group
abbrev pub link : ℕ → ℕ → ℕ → ℕ → LinkId → Link
link n a b d r = record { from = record { 0 = a }; out_if = record { 0 = n }; to = record { 0 = b }; in_if = record { 0 = n }; distance = d; risk = r }

-- a member of a group: its link and its operations
abbrev pub member : ℕ → List Op → Member
member e ops = record { link = l e; ops = ops }

-- a group of one member
abbrev pub only : ℕ → List Op → List Member
only e ops = member e ops ∷ []

-- what the tables say of a link and a label
abbrev pub row : ℕ → Entry → List (List Member) → TableRow
row e t groups = record { link = l e; label = t.0; groups = groups }

-- the routers are x, a, b, c, y, z and r
abbrev routers : List (List ℕ)
routers = (120 ∷ []) ∷ (97 ∷ []) ∷ (98 ∷ []) ∷ (99 ∷ []) ∷ (121 ∷ []) ∷ (122 ∷ []) ∷ (114 ∷ []) ∷ []

-- a network of these links and rows, with an interface for each link
abbrev pub net_of : List Link → List TableRow → Net
net_of links rows = record {
  routers = routers;
  labels = (51 ∷ 48 ∷ []) ∷ (51 ∷ 49 ∷ []) ∷ (115 ∷ 49 ∷ 48 ∷ []) ∷ (105 ∷ 112 ∷ 49 ∷ []) ∷ [];
  classes = Mpls ∷ Mpls ∷ Smpls ∷ Ip ∷ [];
  interfaces = take (length links) routers;
  links = links;
  rows = rows;
}

-- tests that compute make such a network one that the laws speak of
pub sample_network : (links : List Link) (rows : List TableRow) → are_names (take (length links) routers) ≡ true → named_after (Some 0) links ≡ Some (length (take (length links) routers)) → list_all (is_link_of (net_of links rows)) links ≡ true → are_ends_apart links ≡ true → list_all (λ (l : Link). nat_lt l.distance (2 ^ 32)) links ≡ true → list_all (is_risk_named (net_of links rows)) (all_links (net_of links rows)) ≡ true → list_all (is_row_of (net_of links rows)) rows ≡ true → are_rows_apart rows ≡ true → nat_le (length (take (length links) routers)) (2 * length links) ≡ true → nat_le (length links) 20000 ≡ true → nat_le (length rows) 200000 ≡ true → nat_le (row_members rows) 400000 ≡ true → IsNetwork (net_of links rows)
sample_network links rows interfaces in_turn between ends near risks tables apart named few_links few_rows few_members = record {
  routers = refl;
  labels = refl;
  classes = refl;
  in_order = refl;
  interfaces = interfaces;
  in_turn = in_turn;
  links = between;
  ends = ends;
  near = near;
  risks = risks;
  rows = tables;
  rows_apart = apart;
  few_routers = leb-true 7 10000 refl;
  few_labels = leb-true 4 20000 refl;
  few_links = leb-true (length links) 20000 few_links;
  few_interfaces = leb-true (length (take (length links) routers)) (2 * length links) named;
  few_rows = leb-true (length rows) 200000 few_rows;
  few_members = leb-true (row_members rows) 400000 few_members;
}

-- l0 x to a, l1 a to b, l2 a to c, l3 c to b, l4 b to y: the risk groups of l1, l2 and l4 vary
abbrev pub five_links : LinkId → LinkId → LinkId → List Link
five_links r1 r2 r4 = link 0 0 1 1 (l 0) ∷ link 1 1 2 1 r1 ∷ link 2 1 3 2 r2 ∷ link 3 3 2 2 (l 3) ∷ link 4 2 4 1 r4 ∷ []

-- from x there is a choice at a; from a to b it goes on to y; from a to c, and from there to b, there is a choice again
abbrev pub tables : List (List Member) → List (List Member) → List (List Member) → List TableRow
tables at_a at_c at_b = row 0 ip1 at_a ∷ row 1 s10 (only 4 (Pop ∷ []) ∷ []) ∷ row 2 t30 at_c ∷ row 3 s10 at_b ∷ []

-- first to b, else by c in a tunnel
abbrev pub to_b_or_c : List (List Member)
to_b_or_c = only 1 (push s10 ∷ []) ∷ only 2 (push s10 ∷ push t30 ∷ []) ∷ []

-- at c the tunnel ends, and so does the other one at b
abbrev pub end_at_c : List (List Member)
end_at_c = only 3 (Pop ∷ []) ∷ []

abbrev pub end_at_b : List (List Member)
end_at_b = only 4 (Pop ∷ []) ∷ []

-- each link is a risk group by itself
abbrev pub base : Net
base = net_of (five_links (l 1) (l 2) (l 4)) (tables to_b_or_c end_at_c end_at_b)

pub base_network : IsNetwork base
base_network = sample_network base.links base.rows refl refl refl refl refl refl refl refl refl refl refl refl

-- l1 and l4 are one risk group
abbrev pub fiber : Net
fiber = net_of (five_links (l 1) (l 2) (l 1)) base.rows

pub fiber_network : IsNetwork fiber
fiber_network = sample_network fiber.links fiber.rows refl refl refl refl refl refl refl refl refl refl refl refl

-- l1 and l2 are one risk group
abbrev pub shared : Net
shared = net_of (five_links (l 1) (l 1) (l 4)) base.rows

pub shared_network : IsNetwork shared
shared_network = sample_network shared.links shared.rows refl refl refl refl refl refl refl refl refl refl refl refl

-- l0 and l1 are one risk group
abbrev pub shared_first : Net
shared_first = net_of (five_links (l 0) (l 2) (l 4)) base.rows

pub shared_first_network : IsNetwork shared_first
shared_first_network = sample_network shared_first.links shared_first.rows refl refl refl refl refl refl refl refl refl refl refl refl

-- l0 and l2 are one risk group
abbrev pub shared_second : Net
shared_second = net_of (five_links (l 1) (l 0) (l 4)) base.rows

pub shared_second_network : IsNetwork shared_second
shared_second_network = sample_network shared_second.links shared_second.rows refl refl refl refl refl refl refl refl refl refl refl refl

-- a sixth link, b to z, is the second choice of what came by c
abbrev pub forked : LinkId → Net
forked r4 =
    net_of (link 0 0 1 1 (l 0) ∷ link 1 1 2 1 (l 1) ∷ link 2 1 3 2 (l 2) ∷ link 3 3 2 2 (l 3) ∷ link 4 2 4 1 r4 ∷ link 5 2 5 1 (l 5) ∷ [])
    (tables to_b_or_c end_at_c (only 4 (Pop ∷ []) ∷ only 5 (Pop ∷ []) ∷ []))

abbrev pub with_z : Net
with_z = forked (l 4)

pub with_z_network : IsNetwork with_z
with_z_network = sample_network with_z.links with_z.rows refl refl refl refl refl refl refl refl refl refl refl refl

-- and l1 and l4 are one risk group
abbrev pub fiber_with_z : Net
fiber_with_z = forked (l 1)

pub fiber_with_z_network : IsNetwork fiber_with_z
fiber_with_z_network = sample_network fiber_with_z.links fiber_with_z.rows refl refl refl refl refl refl refl refl refl refl refl refl

-- a sixth link, c to a: what came to c goes back to a under the label 31
abbrev back_at_a : LinkId → List (List Member) → Net
back_at_a r5 groups =
    net_of (link 0 0 1 1 (l 0) ∷ link 1 1 2 1 (l 1) ∷ link 2 1 3 2 (l 2) ∷ link 3 3 2 2 (l 3) ∷ link 4 2 4 1 (l 4) ∷ link 5 3 1 1 r5 ∷ [])
    (row 5 t31 groups ∷ tables to_b_or_c (only 5 (swap t31 ∷ []) ∷ []) end_at_b)

-- and from there to b
abbrev pub returning : Net
returning = back_at_a (l 5) (only 1 (Pop ∷ []) ∷ [])

pub returning_network : IsNetwork returning
returning_network = sample_network returning.links returning.rows refl refl refl refl refl refl refl refl refl refl refl refl

-- or it would be swapped for an smpls label, and else goes round again
abbrev undefined_or_again : List (List Member)
undefined_or_again = only 1 (swap s10 ∷ []) ∷ only 2 (swap t30 ∷ []) ∷ []

abbrev pub undefined_back : Net
undefined_back = back_at_a (l 5) undefined_or_again

pub undefined_back_network : IsNetwork undefined_back
undefined_back_network = sample_network undefined_back.links undefined_back.rows refl refl refl refl refl refl refl refl refl refl refl refl

-- where l1 and l5 are one risk group
abbrev pub fiber_back : Net
fiber_back = back_at_a (l 1) undefined_or_again

pub fiber_back_network : IsNetwork fiber_back
fiber_back_network = sample_network fiber_back.links fiber_back.rows refl refl refl refl refl refl refl refl refl refl refl refl

-- both choices at a are l1: first with another ip label, else with an smpls label
abbrev pub same_link_twice : Net
same_link_twice = net_of base.links (tables (only 1 (swap ip1 ∷ []) ∷ only 1 (push s10 ∷ []) ∷ []) end_at_c end_at_b)

pub same_link_twice_network : IsNetwork same_link_twice
same_link_twice_network = sample_network same_link_twice.links same_link_twice.rows refl refl refl refl refl refl refl refl refl refl refl refl

-- the first choice at a would push an mpls label on an ip label
abbrev pub undefined_first : Net
undefined_first = net_of base.links (tables (only 1 (push t30 ∷ []) ∷ only 2 (push s10 ∷ push t30 ∷ []) ∷ []) end_at_c end_at_b)

pub undefined_first_network : IsNetwork undefined_first
undefined_first_network = sample_network undefined_first.links undefined_first.rows refl refl refl refl refl refl refl refl refl refl refl refl

-- the second choice would push an smpls label on another
abbrev pub undefined_second : Net
undefined_second = net_of base.links (tables (only 1 (push s10 ∷ []) ∷ only 2 (push s10 ∷ push s10 ∷ []) ∷ []) end_at_c end_at_b)

pub undefined_second_network : IsNetwork undefined_second
undefined_second_network = sample_network undefined_second.links undefined_second.rows refl refl refl refl refl refl refl refl refl refl refl refl

-- the second of three choices is l1 again, and would push an mpls label on an ip label
abbrev pub undefined_again : Net
undefined_again = net_of base.links (tables (only 1 (push s10 ∷ []) ∷ only 1 (push t30 ∷ []) ∷ only 2 (push s10 ∷ push t30 ∷ []) ∷ []) end_at_c end_at_b)

pub undefined_again_network : IsNetwork undefined_again
undefined_again_network = sample_network undefined_again.links undefined_again.rows refl refl refl refl refl refl refl refl refl refl refl refl

-- both ways from a are of one group
abbrev pub balanced : Net
balanced = net_of base.links (tables ((member 1 (push s10 ∷ []) ∷ member 2 (push s10 ∷ push t30 ∷ []) ∷ []) ∷ []) end_at_c end_at_b)

pub balanced_network : IsNetwork balanced
balanced_network = sample_network balanced.links balanced.rows refl refl refl refl refl refl refl refl refl refl refl refl

-- and the way to c would push an mpls label on an ip label
abbrev pub undefined_beside : Net
undefined_beside = net_of base.links (tables ((member 1 (push s10 ∷ []) ∷ member 2 (push t30 ∷ []) ∷ []) ∷ []) end_at_c end_at_b)

pub undefined_beside_network : IsNetwork undefined_beside
undefined_beside_network = sample_network undefined_beside.links undefined_beside.rows refl refl refl refl refl refl refl refl refl refl refl refl

-- at c the label 30 is popped and 31 pushed, and at b two labels are popped
abbrev pub relabelling : Net
relabelling = net_of base.links (row 3 t31 (only 4 (Pop ∷ Pop ∷ []) ∷ []) ∷ tables to_b_or_c (only 3 (Pop ∷ push t31 ∷ []) ∷ []) end_at_b)

pub relabelling_network : IsNetwork relabelling
relabelling_network = sample_network relabelling.links relabelling.rows refl refl refl refl refl refl refl refl refl refl refl refl

-- at c three labels are popped, and the last of them is an ip label
abbrev pub undefined_third : Net
undefined_third = net_of base.links (tables to_b_or_c (only 3 (Pop ∷ Pop ∷ Pop ∷ []) ∷ []) end_at_b)

pub undefined_third_network : IsNetwork undefined_third
undefined_third_network = sample_network undefined_third.links undefined_third.rows refl refl refl refl refl refl refl refl refl refl refl refl

-- what comes from x goes to b with its header as it is
abbrev pub untouched : Net
untouched = net_of base.links (tables (only 1 [] ∷ []) end_at_c end_at_b)

pub untouched_network : IsNetwork untouched
untouched_network = sample_network untouched.links untouched.rows refl refl refl refl refl refl refl refl refl refl refl refl

-- at y there is an entry without groups
abbrev pub empty_at_y : Net
empty_at_y = net_of base.links (row 4 ip1 [] ∷ base.rows)

pub empty_at_y_network : IsNetwork empty_at_y
empty_at_y_network = sample_network empty_at_y.links empty_at_y.rows refl refl refl refl refl refl refl refl refl refl refl refl

-- one link from r to r: it takes 31 for two labels 30, and pops each of those
abbrev pub looping : Net
looping = record {
  routers = (114 ∷ []) ∷ [];
  labels = base.labels;
  classes = base.classes;
  interfaces = (114 ∷ []) ∷ [];
  links = link 0 0 0 7 (l 0) ∷ [];
  rows = row 0 t31 (only 0 (swap t30 ∷ push t30 ∷ []) ∷ []) ∷ row 0 t30 (only 0 (Pop ∷ []) ∷ []) ∷ [];
}

pub looping_network : IsNetwork looping
looping_network = record {
  routers = refl;
  labels = refl;
  classes = refl;
  in_order = refl;
  interfaces = refl;
  in_turn = refl;
  links = refl;
  ends = refl;
  near = refl;
  risks = refl;
  rows = refl;
  rows_apart = refl;
  few_routers = leb-true 1 10000 refl;
  few_labels = leb-true 4 20000 refl;
  few_links = leb-true 1 20000 refl;
  few_interfaces = leb-true 1 2 refl;
  few_rows = leb-true 2 200000 refl;
  few_members = leb-true 2 400000 refl;
}

-- the member of a group, both counted from 0
abbrev pub step : ℕ → ℕ → Step
step j m = record { group = j; member = m }

-- how many risk groups may fail, what is down, what is up
abbrev pub bounds : ℕ → List LinkId → List LinkId → Bounds
bounds k down up = record { k = k; down = down; up = up }

-- so many may fail, and nothing is known
abbrev pub at_most : ℕ → Bounds
at_most k = bounds k [] []

-- where a packet is, and which links are failed
abbrev pub state : LinkId → List Entry → List LinkId → State
state e header fails = record { link = e; header = header; fails = fails }

-- a run of a packet that comes from x, with its end
abbrev pub run_to : List Step → End → Run
run_to steps end = record { first = l 0; header = ip1 ∷ []; steps = steps; end = end }

-- one that arrives
abbrev pub run : List Step → Run
run steps = run_to steps Arrives

-- by b to y
abbrev pub direct : Run
direct = run (step 0 0 ∷ step 0 0 ∷ [])

-- by c and b to y
abbrev pub around : Run
around = run (step 1 0 ∷ step 0 0 ∷ step 0 0 ∷ [])

-- by c and b to z
abbrev pub around_to_z : Run
around_to_z = run (step 1 0 ∷ step 0 0 ∷ step 1 0 ∷ [])

-- to c, back to a, and by b to y
abbrev pub around_back : Run
around_back = run (step 1 0 ∷ step 0 0 ∷ step 0 0 ∷ step 0 0 ∷ [])

-- dropped where no group is active: at a, at b, at b after the way around, at c, and at y
abbrev pub lost_at_a : Run
lost_at_a = run_to [] Inactive

abbrev pub lost_at_b : Run
lost_at_b = run_to (step 0 0 ∷ []) Inactive

abbrev pub lost_around : Run
lost_around = run_to (step 1 0 ∷ step 0 0 ∷ []) Inactive

abbrev pub lost_at_c : Run
lost_at_c = run_to (step 1 0 ∷ []) Inactive

abbrev pub lost_at_y : Run
lost_at_y = run_to direct.steps Inactive

-- dropped by the operations of a member: at a, at c, and at a once more after the way to c
abbrev pub undefined_at_a : ℕ → ℕ → Run
undefined_at_a j m = run_to [] (Undefined (step j m))

abbrev pub undefined_at_c : Run
undefined_at_c = run_to (step 1 0 ∷ []) (Undefined (step 0 0))

abbrev pub undefined_after_c : Run
undefined_after_c = run_to (step 1 0 ∷ step 0 0 ∷ []) (Undefined (step 0 0))
