-- Steps that each pass a test, and lead to a place that passes one.
use Rattle.std.proofs.Common.{◌≡◌, Bool, true, false, List, [], ◌∷◌, Option, Some, None, refl}
use Rattle.std.proofs.lemmas.Bool.{and_parts, and_from}
use Rattle.std.specs.Option.{option_map_or}
use Rattle.wi_net.specs.Net.{Net}
use Rattle.wi_net.specs.declared.bounds.Bounds.{Bounds}
use Rattle.wi_world.specs.declared.run.Step.{Step}
use Rattle.wi_world.specs.declared.run.End.{End}
use Rattle.wi_world.specs.Moves.{Location, moved, is_possible, can_end, follows}

-- the first of such steps passes, and the others go on from where it leads
pub record Onward (net : Net) (test : Location → Step → Bool) (last : Location → Bool) (at : Location) (step : Step) (steps : List Step) : Type 0 where
  pub next : Location
  pub moves : moved net at step ≡ Some next
  pub passes : test at step ≡ true
  pub rest : follows net test last next steps ≡ true

pub onward : (net : Net) (test : Location → Step → Bool) (last : Location → Bool) (at : Location) (step : Step) (steps : List Step) → follows net test last at (step ∷ steps) ≡ true → Onward net test last at step steps
onward net test last at step steps h = go (moved net at step) refl
  where
    parts : (test at step ≡ true) × (option_map_or (λ (n : Location). follows net test last n steps) (moved net at step) false ≡ true)
    parts = and_parts (test at step) (option_map_or (λ (n : Location). follows net test last n steps) (moved net at step) false) h

    go : (o : Option Location) → moved net at step ≡ o → Onward net test last at step steps
    go None m = let none : false ≡ true = rw m at parts.1 in cc
    go (Some next) m = record { next = next; moves = m; passes = parts.0; rest = rw m at parts.1 }

pub follows_from : (net : Net) (test : Location → Step → Bool) (last : Location → Bool) (at : Location) (step : Step) (next : Location) (steps : List Step) → moved net at step ≡ Some next → test at step ≡ true → follows net test last next steps ≡ true → follows net test last at (step ∷ steps) ≡ true
follows_from net test last at step next steps m passes rest =
    and_from (test at step) (option_map_or (λ (n : Location). follows net test last n steps) (moved net at step) false) passes (rw m rest)

-- tests that others imply
pub follows_weaken : (net : Net) (p q : Location → Step → Bool) (l m : Location → Bool) (at : Location) (steps : List Step) → ((at : Location) (step : Step) → p at step ≡ true → q at step ≡ true) → ((at : Location) → l at ≡ true → m at ≡ true) → follows net p l at steps ≡ true → follows net q m at steps ≡ true
follows_weaken net p q l m at [] each last h = last at h
follows_weaken net p q l m at (step ∷ steps) each last h =
    let o = onward net p l at step steps h in
    follows_from net q m at step o.next steps o.moves (each at step o.passes) (follows_weaken net p q l m o.next steps each last o.rest)

-- a way of possible hops, and an end that can be
abbrev pub goes : Net → Bounds → End → Location → List Step → Bool
goes net b end at steps = follows net (is_possible net b) (λ place. can_end net b place end) at steps

pub goes_on : (net : Net) (b : Bounds) (end : End) (at : Location) (step : Step) (steps : List Step) → goes net b end at (step ∷ steps) ≡ true → Onward net (is_possible net b) (λ place. can_end net b place end) at step steps
goes_on net b end at step steps h = onward net (is_possible net b) (λ place. can_end net b place end) at step steps h
