-- Small networks and queries. Packets come from x to a, and go from a to b, or from a by c to b; from b they go to y.
use Rattle.std.proofs.Common.{◌≡◌, ℕ, zero, suc, ◌<◌, Bool, true, false, List, [], ◌∷◌, refl, arith, inl, inr, ◌⊎◌, sym}
use Rattle.std.specs.List.{Contains}
use Rattle.std.proofs.lemmas.Bool.{leb-true}
use Rattle.wi_labels.specs.declared.label.Label.{Label}
use Rattle.wi_labels.specs.declared.label.Class.TheVariants.{Mpls, Smpls, Ip}
use Rattle.wi_labels.specs.declared.ops.Op.TheVariants.{Pop}
use Rattle.wi_labels.specs.Header.{Entry}
use Rattle.wi_net.specs.declared.parts.Link.{Link}
use Rattle.wi_net.specs.declared.parts.Member.{Member}
use Rattle.wi_net.specs.declared.bounds.Bounds.{Bounds}
use Rattle.wi_net.specs.Net.{Net}
use Rattle.wi_net.specs.Network.{IsNetwork}
use Rattle.wi_world.proofs.Samples.{l, member, only, row, five_links, push, swap, at_most}
use Rattle.wi_rules.specs.Rules.{Automaton, Encoding, IsAutomaton, IsTurned, Walks, IsEncoding}
use Rattle.wi_rules.proofs.Lists.{In, contains_in, in_contains}

abbrev pub label : ℕ → Label
label n = record { 0 = n }

-- the labels: 30, s10, ip1
abbrev pub t30 : Entry
t30 = (label 0, Mpls)

abbrev pub s10 : Entry
s10 = (label 1, Smpls)

abbrev pub ip1 : Entry
ip1 = (label 2, Ip)

-- a network of these links, with these groups where a packet comes from x with ip1 on top
abbrev pub network : List Link → List (List Member) → Net
network links at_a = record {
  routers = (120 ∷ []) ∷ (97 ∷ []) ∷ (98 ∷ []) ∷ (99 ∷ []) ∷ (121 ∷ []) ∷ [];
  labels = (51 ∷ 48 ∷ []) ∷ (115 ∷ 49 ∷ 48 ∷ []) ∷ (105 ∷ 112 ∷ 49 ∷ []) ∷ [];
  classes = Mpls ∷ Smpls ∷ Ip ∷ [];
  interfaces = (120 ∷ []) ∷ (97 ∷ []) ∷ (98 ∷ []) ∷ (99 ∷ []) ∷ (121 ∷ []) ∷ [];
  links = links;
  rows = row 0 ip1 at_a ∷ row 1 s10 (only 4 (Pop ∷ []) ∷ []) ∷ row 2 t30 (only 3 (Pop ∷ []) ∷ []) ∷ row 3 s10 (only 4 (Pop ∷ []) ∷ []) ∷ [];
}

-- each link is a risk group by itself
abbrev pub single_links : List Link
single_links = five_links (l 1) (l 2) (l 4)

-- first to b, else by c in a tunnel
abbrev pub by_c : List Member
by_c = only 2 (push s10 ∷ push t30 ∷ [])

abbrev pub to_b_or_c : List (List Member)
to_b_or_c = only 1 (push s10 ∷ []) ∷ by_c ∷ []

abbrev pub base : Net
base = network single_links to_b_or_c

pub base_network : IsNetwork base
base_network = record {
  routers = refl;
  labels = refl;
  classes = refl;
  in_order = refl;
  interfaces = refl;
  in_turn = refl;
  links = refl;
  ends = refl;
  near = refl;
  risks = refl;
  rows = refl;
  rows_apart = refl;
  few_routers = leb-true 5 10000 refl;
  few_labels = leb-true 3 20000 refl;
  few_links = leb-true 5 20000 refl;
  few_interfaces = leb-true 5 10 refl;
  few_rows = leb-true 4 200000 refl;
  few_members = leb-true 5 400000 refl;
}

-- the links to b and to c are one risk group
abbrev pub shared : Net
shared = network (five_links (l 1) (l 1) (l 4)) to_b_or_c

-- both choices at a are the link to b: first with ip1 again, else with s10
abbrev pub same_link_twice : Net
same_link_twice = network single_links (only 1 (swap ip1 ∷ []) ∷ only 1 (push s10 ∷ []) ∷ [])

-- the first choice at a would push 30 on ip1
abbrev pub undefined_first : Net
undefined_first = network single_links (only 1 (push t30 ∷ []) ∷ by_c ∷ [])

-- the first choice at a would push s10 twice
abbrev pub undefined_second : Net
undefined_second = network single_links (only 1 (push s10 ∷ push s10 ∷ []) ∷ by_c ∷ [])

-- or push s10, then 30, then s10 again
abbrev pub undefined_third : Net
undefined_third = network single_links (only 1 (push s10 ∷ push t30 ∷ push s10 ∷ []) ∷ by_c ∷ [])

-- both ways from a are of one group, and a third leaves the header as it is
abbrev pub balanced : Net
balanced = network single_links ((member 1 (push s10 ∷ []) ∷ member 2 (push s10 ∷ push t30 ∷ []) ∷ member 1 [] ∷ []) ∷ [])

-- what comes to b with s10 on top would be popped twice there, and nothing else is in the tables
abbrev pub popped_twice : Net
popped_twice = record base { rows = row 1 s10 (only 4 (Pop ∷ Pop ∷ []) ∷ []) ∷ [] }

pub popped_twice_network : IsNetwork popped_twice
popped_twice_network = record {
  routers = refl;
  labels = refl;
  classes = refl;
  in_order = refl;
  interfaces = refl;
  in_turn = refl;
  links = refl;
  ends = refl;
  near = refl;
  risks = refl;
  rows = refl;
  rows_apart = refl;
  few_routers = leb-true 5 10000 refl;
  few_labels = leb-true 3 20000 refl;
  few_links = leb-true 5 20000 refl;
  few_interfaces = leb-true 5 10 refl;
  few_rows = leb-true 1 200000 refl;
  few_members = leb-true 1 400000 refl;
}

-- the header s10 ip1, and so any smpls label over any ip label
abbrev pub two_next : ℕ → ℕ → List ℕ
two_next zero (suc zero) = 1 ∷ []
two_next (suc zero) (suc (suc zero)) = 2 ∷ []
two_next _ _ = []

abbrev pub two_before : ℕ → ℕ → List ℕ
two_before (suc zero) (suc zero) = 0 ∷ []
two_before (suc (suc zero)) (suc (suc zero)) = 1 ∷ []
two_before _ _ = []

abbrev is_two : ℕ → Bool
is_two (suc (suc zero)) = true
is_two _ = false

abbrev pub two_labels : Automaton
two_labels = record { states = 3; next = two_next; accepts = is_two }

two_steps : (q r x : ℕ) → In (two_next q x) r → ((q ≡ 0) × (x ≡ 1) × (r ≡ 1)) ⊎ ((q ≡ 1) × (x ≡ 2) × (r ≡ 2))
two_steps zero r (suc zero) (inl e) = inl (refl, refl, sym e)
two_steps zero r (suc zero) (inr h) = absurd h
two_steps (suc zero) r (suc (suc zero)) (inl e) = inr (refl, refl, sym e)
two_steps (suc zero) r (suc (suc zero)) (inr h) = absurd h
two_steps _ _ _ h = absurd h

two_back : (q r x : ℕ) → In (two_before r x) q → Contains (two_next q x) r
two_back q (suc zero) (suc zero) (inl e) = rw (sym e) (in_contains (two_next 0 1) 1 (inl refl))
two_back q (suc zero) (suc zero) (inr h) = absurd h
two_back q (suc (suc zero)) (suc (suc zero)) (inl e) = rw (sym e) (in_contains (two_next 1 2) 2 (inl refl))
two_back q (suc (suc zero)) (suc (suc zero)) (inr h) = absurd h
two_back _ _ _ h = absurd h

two_labels_is : IsAutomaton two_labels
two_labels_is = record {
  some = omega arith;
  from_below = λ q r x h. elim (two_steps q r x (contains_in (two_next q x) r h)) [ inl e ↦ omega (arith, e.0) | inr e ↦ omega (arith, e.0) ];
  below = λ q r x h. elim (two_steps q r x (contains_in (two_next q x) r h)) [ inl e ↦ omega (arith, e.2) | inr e ↦ omega (arith, e.2) ];
}

two_turned : IsTurned two_labels two_before
two_turned = record {
  turned = λ q r x h. elim (two_steps q r x (contains_in (two_next q x) r h)) [
    | inl e ↦ rw (e.0, e.1, e.2) (in_contains (two_before 1 1) 0 (inl refl))
    | inr e ↦ rw (e.0, e.1, e.2) (in_contains (two_before 2 2) 1 (inl refl))
  ];
  returned = λ q r x h. two_back q r x (contains_in (two_before r x) q h);
  start = λ q x h. elim (two_steps q 0 x (contains_in (two_next q x) 0 h)) [ inl e ↦ omega (arith, e.2) | inr e ↦ omega (arith, e.2) ];
}

-- the link from a to b, once or more
abbrev pub again_next : ℕ → ℕ → List ℕ
again_next zero (suc zero) = 1 ∷ []
again_next (suc zero) (suc zero) = 1 ∷ []
again_next _ _ = []

abbrev is_one : ℕ → Bool
is_one (suc zero) = true
is_one _ = false

abbrev pub again : Automaton
again = record { states = 2; next = again_next; accepts = is_one }

again_steps : (q r x : ℕ) → In (again_next q x) r → (q < 2) × (r < 2)
again_steps zero r (suc zero) (inl e) = (omega arith, omega (arith, e))
again_steps zero r (suc zero) (inr h) = absurd h
again_steps (suc zero) r (suc zero) (inl e) = (omega arith, omega (arith, e))
again_steps (suc zero) r (suc zero) (inr h) = absurd h
again_steps _ _ _ h = absurd h

again_is : IsAutomaton again
again_is = record {
  some = omega arith;
  from_below = λ q r x h. (again_steps q r x (contains_in (again_next q x) r h)).0;
  below = λ q r x h. (again_steps q r x (contains_in (again_next q x) r h)).1;
}

-- one link or more, whichever
abbrev any_next : ℕ → ℕ → List ℕ
any_next q x = 1 ∷ []

abbrev pub any : Automaton
any = record { states = 2; next = any_next; accepts = is_one }

-- any header
abbrev all_next : ℕ → ℕ → List ℕ
all_next zero x = 0 ∷ []
all_next (suc q) x = []

abbrev pub anything : Automaton
anything = record { states = 1; next = all_next; accepts = λ q. true }

all_steps : (q r x : ℕ) → In (all_next q x) r → (q < 1) × (r < 1)
all_steps zero r x (inl e) = (omega arith, omega (arith, e))
all_steps zero r x (inr h) = absurd h
all_steps (suc q) r x h = absurd h

anything_is : IsAutomaton anything
anything_is = record {
  some = omega arith;
  from_below = λ q r x h. (all_steps q r x (contains_in (all_next q x) r h)).0;
  below = λ q r x h. (all_steps q r x (contains_in (all_next q x) r h)).1;
}

pub all_walks : (xs : List ℕ) → Walks anything 0 xs 0
all_walks [] = refl
all_walks (x ∷ xs) = (0, in_contains (0 ∷ []) 0 (inl refl), all_walks xs)

-- s10 ip1 at first, such a path, and the like header at last; packets arrive, and there is no term
abbrev pub encoding : Net → Bounds → Automaton → Encoding
encoding net bounds path = record {
  net = net;
  bounds = bounds;
  first = two_labels;
  first_before = two_before;
  path = path;
  last = two_labels;
  drops = false;
  terms = 0;
  first_share = λ e. [];
  step_share = λ e t step. [];
  end_share = λ e t end. [];
}

-- the link from a to b again and again, where nothing fails
abbrev pub along : Encoding
along = encoding base (at_most 0) again

-- all that the laws ask for can be had
pub along_is : IsEncoding along
along_is = record {
  net = base_network;
  bounds = record { down = refl; up = refl; apart = refl };
  first = two_labels_is;
  first_turned = two_turned;
  path = again_is;
  last = two_labels_is;
  any_last = λ drops. cc;
  first_length = λ e. refl;
  step_length = λ e t step. refl;
  end_length = λ e t end. refl;
}

-- packets that are dropped at b by the second of two pops
abbrev pub lost : Encoding
lost = record along { net = popped_twice; last = anything; drops = true }

pub lost_is : IsEncoding lost
lost_is = record {
  net = popped_twice_network;
  bounds = record { down = refl; up = refl; apart = refl };
  first = two_labels_is;
  first_turned = two_turned;
  path = again_is;
  last = anything_is;
  any_last = λ drops xs known. (0, all_walks xs, refl);
  first_length = λ e. refl;
  step_length = λ e t step. refl;
  end_length = λ e t end. refl;
}
