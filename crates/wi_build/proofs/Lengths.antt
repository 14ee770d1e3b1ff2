-- How long lists can be.
use Rattle.std.proofs.Common.{◌≡◌, ℕ, ◌+◌, ◌*◌, ◌<◌, ◌≤◌, Bool, true, false, List, [], ◌∷◌, Option, Some, None, length, refl, arith, length-append}
use Rattle.std.specs.Prelude.{if◌then◌else◌}
use Rattle.std.specs.List.{Contains, filter, flat_map}
use Rattle.std.specs.List.Sorted.{IsStrictlyIncreasing}
use Rattle.std.specs.Option.{option_map_or}
use Rattle.std.proofs.lemmas.List.Elements.{All-contains_itself}
use Rattle.std.proofs.lemmas.Map.Keys.{sorted_from_strictly_increasing}
use Rattle.std.proofs.lemmas.Map.Views.{length-le_from_below}
use Rattle.wi_labels.specs.declared.label.Label.{Label}
use Rattle.wi_net.specs.declared.parts.LinkId.{LinkId}
use Rattle.wi_net.specs.declared.parts.Member.{Member}
use Rattle.wi_net.specs.declared.parts.TableRow.{TableRow}
use Rattle.wi_net.specs.Tables.{is_row, groups_in, group_members, row_members}
use Rattle.wi_world.specs.declared.run.Step.{Step}
use Rattle.wi_rules.specs.Rules.{each_at, each_member}

pub filter_length : {X : Type 0} (p : X → Bool) (xs : List X) → length (filter p xs) ≤ length xs
filter_length p [] = omega arith
filter_length p (x ∷ xs) = go (p x) refl (filter_length p xs)
  where
    go : (b : Bool) → p x ≡ b → length (filter p xs) ≤ length xs → length (filter p (x ∷ xs)) ≤ length (x ∷ xs)
    go true e ih = rw e (omega (arith, ih))
    go false e ih = rw e (omega (arith, ih))

-- a rising list of numbers below a bound
pub rising_length : (xs : List ℕ) (n : ℕ) → IsStrictlyIncreasing xs → ((t : ℕ) → Contains xs t → t < n) → length xs ≤ n
rising_length xs n rises below = length-le_from_below n xs (sorted_from_strictly_increasing xs rises) (λ k d lt. below _ (All-contains_itself xs k d lt))

-- lists put together of lists that aren't longer than a bound
pub flat_length : {X Y : Type 0} (f : X → List Y) (n : ℕ) (xs : List X) → ((x : X) → length (f x) ≤ n) → length (flat_map f xs) ≤ length xs * n
flat_length f n [] each = omega arith
flat_length f n (x ∷ xs) each = omega (arith, length-append (f x) (flat_map f xs), each x, flat_length f n xs each)

pub each_length : {X Y : Type 0} (f : ℕ → X → List Y) (n i : ℕ) (xs : List X) → ((j : ℕ) (x : X) → length (f j x) ≤ n) → length (each_at f i xs) ≤ length xs * n
each_length f n i [] each = omega arith
each_length f n i (x ∷ xs) each = omega (arith, length-append (f i x) (each_at f (i + 1) xs), each i x, each_length f n (i + 1) xs each)

-- and of lists that have so much for each member of a group
pub groups_length : {Y : Type 0} (f : ℕ → List Member → List Y) (n i : ℕ) (groups : List (List Member)) → ((j : ℕ) (group : List Member) → length (f j group) ≤ length group * n) → length (each_at f i groups) ≤ group_members groups * n
groups_length f n i [] each = omega arith
groups_length f n i (group ∷ groups) each = omega (arith, length-append (f i group) (each_at f (i + 1) groups), each i group, groups_length f n (i + 1) groups each)

pub members_length : {Y : Type 0} (f : Step → Member → List Y) (n : ℕ) (groups : List (List Member)) → ((step : Step) (member : Member) → length (f step member) ≤ n) → length (each_member f groups) ≤ group_members groups * n
members_length f n groups each =
    groups_length (λ (j : ℕ) (group : List Member). each_at (λ (i : ℕ) (member : Member). f (record { group = j; member = i }) member) 0 group) n 0 groups
    (λ j group. each_length (λ (i : ℕ) (member : Member). f (record { group = j; member = i }) member) n 0 group (λ i member. each (record { group = j; member = i }) member))

-- an entry has no more members than all rows
pub entry_members : (rows : List TableRow) (e : LinkId) (l : Label) → group_members (groups_in rows e l) ≤ row_members rows
entry_members [] e l = omega arith
entry_members (row ∷ rows) e l = go (is_row e l row) refl (entry_members rows e l)
  where
    go : (b : Bool) → is_row e l row ≡ b → group_members (groups_in rows e l) ≤ row_members rows → group_members (groups_in (row ∷ rows) e l) ≤ row_members (row ∷ rows)
    go true b ih = rw b (omega arith)
    go false b ih = rw b (omega (arith, ih))

-- a list that is there only under a test, or for what an option has
pub if_length : {X : Type 0} (b : Bool) (xs : List X) (n : ℕ) → length xs ≤ n → length (if b then xs else []) ≤ n
if_length true xs n h = h
if_length false xs n h = omega arith

pub option_length : {X Y : Type 0} (f : X → List Y) (o : Option X) (n : ℕ) → ((x : X) → length (f x) ≤ n) → length (option_map_or f o []) ≤ n
option_length f None n each = omega arith
option_length f (Some x) n each = each x
