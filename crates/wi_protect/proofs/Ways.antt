-- A packet's only way on, hop by hop.
use Rattle.std.proofs.Common.{◌≡◌, ℕ, zero, suc, true, false, not, nat_eq, List, [], ◌∷◌, ◌++◌, slice_get, Some, refl, sym, ap, ◌∙◌}
use Rattle.std.specs.Option.{option_map_or}
use Rattle.std.proofs.lemmas.Bool.{and_parts, and_from, and_left, and_right, eqb-true, eq-eqb, true≢false}
use Rattle.wi_net.specs.declared.parts.LinkId.{LinkId}
use Rattle.wi_net.specs.declared.parts.Member.{Member}
use Rattle.wi_net.specs.LinkSet.{has}
use Rattle.wi_net.specs.Net.{Net, first_active}
use Rattle.wi_world.specs.declared.run.Step.{Step}
use Rattle.wi_world.specs.Moves.{Location, groups_at, through, moved, by_link, is_usable, follows}
use Rattle.wi_world.specs.Runs.{locations, last_header}
use Rattle.wi_protect.specs.OneWay.{IsPrefix}

-- a place has one usable step, which leads to the next
pub record Hop (net : Net) (fails : List LinkId) (at next : Location) : Type 0 where
  pub step : Step
  pub usable : is_usable net fails at step ≡ true
  pub moves : moved net at step ≡ Some next
  pub same : (s : Step) → is_usable net fails at s ≡ true → s ≡ step

-- from a place there is one way, by these places
abbrev pub Way : Net → List LinkId → Location → List Location → Type 0
Way net fails at [] = (s : Step) → is_usable net fails at s ≡ false
Way net fails at (next ∷ later) = Hop net fails at next × Way net fails next later

abbrev pub last_at : Location → List Location → Location
last_at at [] = at
last_at at (next ∷ later) = last_at next later

-- what such a way comes to
pub record Goes (net : Net) (fails : List LinkId) (at : Location) (later : List Location) : Type 0 where
  pub steps : List Step
  pub follow : follows net (is_usable net fails) (λ place. true) at steps ≡ true
  pub along : locations net at steps ≡ at ∷ later
  pub ends : last_header net at steps ≡ (last_at at later).1
  pub stays : (s : Step) → follows net (is_usable net fails) (λ place. true) at (steps ++ s ∷ []) ≡ false
  pub begun : (others : List Step) → follows net (is_usable net fails) (λ place. true) at others ≡ true → IsPrefix others steps

follow_parts : (net : Net) (fails : List LinkId) (at : Location) (s : Step) (steps : List Step) → follows net (is_usable net fails) (λ place. true) at (s ∷ steps) ≡ true
    → (is_usable net fails at s ≡ true) × (option_map_or (λ (next : Location). follows net (is_usable net fails) (λ place. true) next steps) (moved net at s) false ≡ true)
follow_parts net fails at s steps h = and_parts (is_usable net fails at s) (option_map_or (λ (next : Location). follows net (is_usable net fails) (λ place. true) next steps) (moved net at s) false) h

pub goes : (net : Net) (fails : List LinkId) (at : Location) (later : List Location) → Way net fails at later → Goes net fails at later
goes net fails at [] way = record {
  steps = [];
  follow = refl;
  along = refl;
  ends = refl;
  stays = λ s. and_left (is_usable net fails at s) (option_map_or (λ (next : Location). true) (moved net at s) false) (way s);
  begun = begun;
}
  where
    begun : (others : List Step) → follows net (is_usable net fails) (λ place. true) at others ≡ true → IsPrefix others []
    begun [] h = ([], refl)
    begun (s ∷ others) h = absurd (true≢false (sym (follow_parts net fails at s others h).0 ∙ way s))
goes net fails at (next ∷ later) (hop, way) = go (goes net fails next later way)
  where
    go : Goes net fails next later → Goes net fails at (next ∷ later)
    go g = record {
      steps = hop.step ∷ g.steps;
      follow = and_from (is_usable net fails at hop.step) (option_map_or (λ (n : Location). follows net (is_usable net fails) (λ place. true) n g.steps) (moved net at hop.step) false) hop.usable (rw hop.moves g.follow);
      along = rw hop.moves (ap (λ ps. at ∷ ps) g.along);
      ends = rw hop.moves g.ends;
      stays = λ s. and_right (is_usable net fails at hop.step) (option_map_or (λ (n : Location). follows net (is_usable net fails) (λ place. true) n (g.steps ++ s ∷ [])) (moved net at hop.step) false) (rw hop.moves (g.stays s));
      begun = begun;
    }
      where
        begun : (others : List Step) → follows net (is_usable net fails) (λ place. true) at others ≡ true → IsPrefix others (hop.step ∷ g.steps)
        begun [] h = (hop.step ∷ g.steps, refl)
        begun (s ∷ others) h =
            let parts = follow_parts net fails at s others h in
            let same : s ≡ hop.step = hop.same s parts.0 in
            let rest : follows net (is_usable net fails) (λ place. true) next others ≡ true = rw (same, hop.moves) at parts.1 in
            let shorter = g.begun others rest in
            (shorter.0, cc (shorter.1, same))

abbrev step_of : ℕ → ℕ → Step
step_of j k = record { group = j; member = k }

-- the first group that is active has one member: the only usable step
pub one_step : (net : Net) (fails : List LinkId) (at next : Location) (j : ℕ) (m : Member)
    → first_active fails (groups_at net at.0 at.1) ≡ Some j → slice_get (groups_at net at.0 at.1) j ≡ Some (m ∷ []) → has fails m.link ≡ false → through at.1 m ≡ Some next → Hop net fails at next
one_step net fails at next j m first group up leads = record {
  step = record { group = j; member = 0 };
  usable = rw (first, group) (and_from (nat_eq j j) (not (has fails m.link)) (eq j) (rw up refl));
  moves = rw group leads;
  same = same;
}
  where
    eq : (n : ℕ) → nat_eq n n ≡ true
    eq n = eq-eqb n n refl

    zero_only : (k : ℕ) → option_map_or (λ (m : Member). not (has fails m.link)) (slice_get (m ∷ []) k) false ≡ true → k ≡ 0
    zero_only zero h = refl
    zero_only (suc k) h = cc

    same : (s : Step) → is_usable net fails at s ≡ true → s ≡ record { group = j; member = 0 }
    same s h =
        let parts = and_parts (option_map_or (λ i. nat_eq i s.group) (first_active fails (groups_at net at.0 at.1)) false) (by_link net at s (λ e. not (has fails e))) h in
        let g1 : nat_eq j s.group ≡ true = rw first at parts.0 in
        let g2 : j ≡ s.group = eqb-true j s.group g1 in
        let m1 = rw (← g2, group) at parts.1 in
        let m2 : s.member ≡ 0 = zero_only s.member m1 in
        ap (λ k. step_of k s.member) (sym g2) ∙ ap (λ k. step_of j k) m2
