-- The rules of a pushdown system (Schwoon 2002) whose goal runs are the moving runs that match a query. The encoding is that
-- of AalWiNes (CoNEXT 2020): the first header is made from the bottom up, the packet travels, the last header is read from the
-- top down; where packets are dropped, that is the header that a packet has then. Symbol 0 is the bottom of the stack, and symbol
-- n + 1 is label n.
use Rattle.std.specs.Prelude.{◌≡◌, ℕ, zero, suc, ◌+◌, ◌<◌, Bool, true, false, not, ◌&&◌, nat_lt, if◌then◌else◌, List, [], ◌∷◌, ◌++◌, length, map, take, replicate, slice_get, Option, Some, None}
use Rattle.std.specs.List.{Contains, filter, flat_map, list_all, range_with_len}
use Rattle.std.specs.Option.{option_map_or, option_and_then}
use Rattle.wi_labels.specs.declared.label.Label.{Label}
use Rattle.wi_labels.specs.declared.label.Class.TheVariants.{Ip}
use Rattle.wi_labels.specs.declared.ops.Op.{Op}
use Rattle.wi_labels.specs.declared.ops.Op.TheVariants.{Swap, Push, Pop}
use Rattle.wi_labels.specs.Header.{allowed, same_class}
use Rattle.wi_net.specs.declared.parts.LinkId.{LinkId}
use Rattle.wi_net.specs.declared.parts.Member.{Member}
use Rattle.wi_net.specs.declared.bounds.Bounds.{Bounds}
use Rattle.wi_net.specs.LinkSet.{has}
use Rattle.wi_net.specs.Tables.{all_members, group_members, members_before}
use Rattle.wi_net.specs.Net.{Net, entry, before, links_where}
use Rattle.wi_net.specs.Network.{IsNetwork}
use Rattle.wi_world.specs.declared.run.Step.{Step}
use Rattle.wi_world.specs.declared.run.End.{End}
use Rattle.wi_world.specs.declared.run.End.TheVariants.{Arrives, Inactive, Undefined}
use Rattle.wi_world.specs.Moves.{AreBounds, may_be_down, may_be_up}
use Rattle.wi_pds.specs.declared.rule.Word2.{Word2}
use Rattle.wi_pds.specs.declared.rule.Word2.TheVariants.{Empty, One, Two}
use Rattle.wi_rules.specs.declared.spot.Origin.{Origin}
use Rattle.wi_rules.specs.declared.spot.Origin.TheVariants.{Pushed, SetOut, Hop, Operation, Ending, Nothing}
use Rattle.wi_rules.specs.declared.spot.Spot.{Spot}
use Rattle.wi_rules.specs.declared.spot.Spot.TheVariants.{Start, Done, Build, Close, OnLink, Mid, Drop}

-- an automaton: how many states it has, the states that come after one by a symbol, and which accept; 0 is the start. The rules
-- of a head come in the order of these lists, which is to be a rising one.
pub record Automaton : Type 0 where
  pub states : ℕ
  pub next : ℕ → ℕ → List ℕ
  pub accepts : ℕ → Bool

-- what the rules are made of: a network, what may fail in it, the automata of the first header, of the links and of the last
-- header, the states that come before one of the first automaton by a symbol, whether packets are dropped or arrive, and what a
-- first link, a step and an end add to each of so many terms
pub record Encoding : Type 0 where
  pub net : Net
  pub bounds : Bounds
  pub first : Automaton
  pub first_before : ℕ → ℕ → List ℕ
  pub path : Automaton
  pub last : Automaton
  pub drops : Bool
  pub terms : ℕ
  pub first_share : LinkId → List ℕ
  pub step_share : LinkId → Label → Step → List ℕ
  pub end_share : LinkId → Label → End → List ℕ

-- a rule of a head, a spot with the symbol on top: where it leads, what it writes in the place of that symbol, what it adds to
-- each term, and what it stands for
pub record SpotRule : Type 0 where
  pub to : Spot
  pub word : Word2
  pub share : List ℕ
  pub origin : Origin

abbrev pub zeros : Encoding → List ℕ
zeros s = replicate s.terms 0

-- a rule that adds nothing to any term, and stands for nothing
abbrev pub plain : Encoding → Spot → Word2 → SpotRule
plain s to word = record { to = to; word = word; share = zeros s; origin = Nothing }

-- a rule that does a further operation of a member
abbrev pub working : Encoding → ℕ → ℕ → Spot → Word2 → SpotRule
working s m i to word = record { to = to; word = word; share = zeros s; origin = Operation m i }

-- a rule that ends a run on a link, with a label on top
abbrev pub ending : Encoding → LinkId → Label → End → Spot → Word2 → SpotRule
ending s e l end to word = record { to = to; word = word; share = s.end_share e l end; origin = Ending end }

-- a rule that pushes a label of the first header on a symbol
abbrev pub pushing : Encoding → ℕ → ℕ → ℕ → SpotRule
pushing s l g q = record { to = Build q; word = Two (suc l) g; share = zeros s; origin = Pushed (record { 0 = l }) }

-- what a list has for each element, given with its place, which is counted from i on
abbrev pub each_at : {X Y : Type 0} → (ℕ → X → List Y) → ℕ → List X → List Y
each_at f i [] = []
each_at f i (x ∷ xs) = f i x ++ each_at f (i + 1) xs

-- the network has a label of this number
abbrev pub is_label : Net → ℕ → Bool
is_label net n = nat_lt n (length net.classes)

-- what an operation writes in the place of a symbol
abbrev pub word_of : Op → ℕ → Word2
word_of (Swap l c) g = One (suc l.0)
word_of (Push l c) g = Two (suc l.0) g
word_of Pop g = Empty

-- what it writes over a label, where it is defined there
abbrev pub word_over : Net → Op → ℕ → Option Word2
word_over net op n = option_and_then (λ class. if allowed op class then Some (word_of op (suc n)) else None) (slice_get net.classes n)

-- what a member's first operation writes over a label; the label itself, where there is none
abbrev pub first_word_over : Net → List Op → ℕ → Option Word2
first_word_over net [] n = Some (One (suc n))
first_word_over net (op ∷ ops) n = word_over net op n

-- the number of a member of an entry among all members of the tables
abbrev pub member_number : Net → LinkId → Label → Step → ℕ
member_number net e l step = members_before net.rows e l + (group_members (take step.group (entry net e l)) + step.member)

-- where the first i operations of a member lead
abbrev pub on_way : Member → ℕ → ℕ → ℕ → Spot
on_way member m i q = if nat_lt i (length member.ops) then Mid m i q else OnLink member.link q

-- what the groups before a group need may be down, and the member's link up
abbrev pub may_use : Net → Bounds → List (List Member) → ℕ → LinkId → Bool
may_use net bounds groups j e = may_be_down net bounds (before net groups j) && may_be_up bounds (before net groups j) e

-- the rules for one member of an entry: one for each state that comes after by its link
abbrev pub hop_rules : Encoding → LinkId → ℕ → Label → Step → Member → List SpotRule
hop_rules s e q l step member =
    if may_use s.net s.bounds (entry s.net e l) step.group member.link
    then option_map_or (λ word. map (λ r. record {
      to = on_way member (member_number s.net e l step) 1 r;
      word = word;
      share = s.step_share e l step;
      origin = Hop step;
    }) (s.path.next q member.link.0)) (first_word_over s.net member.ops l.0) []
    else []

-- what groups have for each of their members
abbrev pub each_member : {Y : Type 0} → (Step → Member → List Y) → List (List Member) → List Y
each_member f groups = each_at (λ j group. each_at (λ i member. f (record { group = j; member = i }) member) 0 group) 0 groups

-- the rules for each member of an entry
abbrev pub entry_rules : Encoding → LinkId → ℕ → Label → List SpotRule
entry_rules s e q l = each_member (hop_rules s e q l) (entry s.net e l)

-- the rule for a packet that is dropped since no group is active
abbrev pub inactive_rules : Encoding → LinkId → Label → List SpotRule
inactive_rules s e l =
    if may_be_down s.net s.bounds (before s.net (entry s.net e l) (length (entry s.net e l)))
    then ending s e l Inactive (Close 0) (One (suc l.0)) ∷ []
    else []

-- where an operation of a member leads a packet that is dropped on the way through it, and what it writes: where it isn't defined, to
-- where the header is read; else on, if it isn't the last
abbrev pub lost_by : Net → List Op → ℕ → ℕ → ℕ → Option (Spot × Word2)
lost_by net ops m i n =
    option_and_then (λ op. option_map_or (λ word. if nat_lt (suc i) (length ops) then Some (Drop m (suc i), word) else None)
    (word_over net op n) (Some (Close 0, One (suc n)))) (slice_get ops i)

-- the rule for a packet that is dropped on the way through a member, by its first operation
abbrev pub undefined_rules : Encoding → LinkId → Label → Step → Member → List SpotRule
undefined_rules s e l step member =
    if may_use s.net s.bounds (entry s.net e l) step.group member.link
    then option_map_or (λ way. ending s e l (Undefined step) way.0 way.1 ∷ []) (lost_by s.net member.ops (member_number s.net e l step) 0 l.0) []
    else []

-- and by a further one
abbrev pub lost_rules : Encoding → ℕ → ℕ → ℕ → Member → List SpotRule
lost_rules s m i n member = option_map_or (λ way. working s m i way.0 way.1 ∷ []) (lost_by s.net member.ops m i n) []

-- the rules that end a run: the packet arrives, or it is dropped
abbrev pub end_rules : Encoding → LinkId → Label → List SpotRule
end_rules s e l =
    if s.drops
    then inactive_rules s e l ++ each_member (undefined_rules s e l) (entry s.net e l)
    else ending s e l Arrives (Close 0) (One (suc l.0)) ∷ []

-- the rule for a member's next operation
abbrev pub next_op_rules : Encoding → ℕ → ℕ → ℕ → ℕ → Member → List SpotRule
next_op_rules s m i q n member =
    option_map_or (λ op. option_map_or (λ word. working s m i (on_way member m (suc i) q) word ∷ []) (word_over s.net op n) []) (slice_get member.ops i) []

-- a label may be pushed on a symbol where a header is made from the bottom up
abbrev pub may_build : Net → ℕ → ℕ → Bool
may_build net l zero = option_map_or (λ class. same_class class Ip) (slice_get net.classes l) false
may_build net l (suc n) = option_map_or (λ class. option_map_or (λ top. allowed (Push (record { 0 = l }) class) top) (slice_get net.classes n) false) (slice_get net.classes l) false

-- the rules that push a label: one for each state that comes before by it
abbrev pub build_rules : Encoding → ℕ → ℕ → ℕ → List SpotRule
build_rules s q g l = if may_build s.net l g then map (λ r. pushing s l g r) (s.first_before q l) else []

-- the rules for a first link: one for each state that comes after the start by it
abbrev pub set_out_rules : Encoding → ℕ → LinkId → List SpotRule
set_out_rules s n e = map (λ q. record { to = OnLink e q; word = One (suc n); share = s.first_share e; origin = SetOut e }) (s.path.next 0 e.0)

-- the rules on a link: those of the entry, and last, in an accepting state, those that end a run
abbrev pub on_link_rules : Encoding → LinkId → ℕ → Label → List SpotRule
on_link_rules s e q l = entry_rules s e q l ++ (if s.path.accepts q then end_rules s e l else [])

-- the rules of a head, in order; there are none where the symbol is no label of the network and not the bottom
abbrev pub rules_of : Encoding → Spot → ℕ → List SpotRule
rules_of s Start zero = map (λ q. plain s (Build q) (One 0)) (filter (λ q. s.first.accepts q) (range_with_len 0 s.first.states))
rules_of s (Build (suc q)) g = flat_map (build_rules s (suc q) g) (range_with_len 0 (length s.net.classes))
rules_of s (Build zero) (suc n) =
    if is_label s.net n then flat_map (set_out_rules s n) (links_where s.net (λ e. not (has s.bounds.down e))) else []
rules_of s (OnLink e q) (suc n) = if is_label s.net n then on_link_rules s e q (record { 0 = n }) else []
rules_of s (Mid m (suc i) q) (suc n) = option_map_or (next_op_rules s m (suc i) q n) (slice_get (all_members s.net.rows) m) []
rules_of s (Drop m (suc i)) (suc n) = if is_label s.net n then option_map_or (lost_rules s m (suc i) n) (slice_get (all_members s.net.rows) m) [] else []
rules_of s (Close q) (suc n) = if is_label s.net n then map (λ r. plain s (Close r) Empty) (s.last.next q n) else []
rules_of s (Close q) zero = if s.last.accepts q then plain s Done Empty ∷ [] else []
rules_of s _ _ = []

-- there is a state, and symbols lead only from and to states that there are
pub record IsAutomaton (a : Automaton) : Type 0 where
  pub some : 0 < a.states
  pub from_below : (q r x : ℕ) → Contains (a.next q x) r → q < a.states
  pub below : (q r x : ℕ) → Contains (a.next q x) r → r < a.states

-- what comes before a state is what comes after, turned round; nothing leads to the start
pub record IsTurned (a : Automaton) (back : ℕ → ℕ → List ℕ) : Type 0 where
  pub turned : (q r x : ℕ) → Contains (a.next q x) r → Contains (back r x) q
  pub returned : (q r x : ℕ) → Contains (back r x) q → Contains (a.next q x) r
  pub start : (q x : ℕ) → Contains (a.next q x) 0 → ⊥

-- an automaton goes from one state to another by a word
abbrev pub Walks : Automaton → ℕ → List ℕ → ℕ → Type 0
Walks a q [] r = q ≡ r
Walks a q (x ∷ xs) r = (m : ℕ) × Contains (a.next q x) m × Walks a m xs r

abbrev pub Accepts : Automaton → List ℕ → Type 0
Accepts a xs = (q : ℕ) × Walks a 0 xs q × (a.accepts q ≡ true)

-- the network and the bounds are such, the automata are such, a packet may be dropped with any header, and each share has its terms
pub record IsEncoding (s : Encoding) : Type 0 where
  pub net : IsNetwork s.net
  pub bounds : AreBounds s.net s.bounds
  pub first : IsAutomaton s.first
  pub first_turned : IsTurned s.first s.first_before
  pub path : IsAutomaton s.path
  pub last : IsAutomaton s.last
  pub any_last : s.drops ≡ true → (xs : List ℕ) → list_all (is_label s.net) xs ≡ true → Accepts s.last xs
  pub first_length : (e : LinkId) → length (s.first_share e) ≡ s.terms
  pub step_length : (e : LinkId) (l : Label) (step : Step) → length (s.step_share e l step) ≡ s.terms
  pub end_length : (e : LinkId) (l : Label) (end : End) → length (s.end_share e l end) ≡ s.terms
