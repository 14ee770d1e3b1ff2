-- A walk along a run, step by step.
use Rattle.std.proofs.Common.{◌≡◌, ℕ, ◌+◌, List, [], ◌∷◌, Some, None, map, drop, slice_get, append_assoc, refl, ap, sym, ◌∙◌, ◌++◌}
use Rattle.std.proofs.lemmas.List.{map-append}
use Rattle.wi_labels.specs.Header.{Entry}
use Rattle.wi_labels.proofs.HeaderLemmas.{drop_at}
use Rattle.wi_regex.specs.declared.atom.Symbol.{Symbol}
use Rattle.wi_nfa.specs.Sets.{symbols}
use Rattle.wi_net.specs.Net.{Net}
use Rattle.wi_world.specs.declared.run.Step.{Step}
use Rattle.wi_net.specs.declared.parts.LinkId.{LinkId}
use Rattle.wi_world.specs.Moves.{Location, moved}
use Rattle.wi_world.specs.Runs.{locations, last_header}

pub links_on : (net : Net) (at : Location) (step : Step) (steps : List Step) (next : Location) → moved net at step ≡ Some next
    → map (λ (e : LinkId). e.0) (map (λ (place : Location). place.0) (locations net at (step ∷ steps))) ≡ at.0.0 ∷ map (λ (e : LinkId). e.0) (map (λ (place : Location). place.0) (locations net next steps))
links_on net at step steps next m = rw m refl

pub links_off : (net : Net) (at : Location) (step : Step) (steps : List Step) → moved net at step ≡ None
    → map (λ (e : LinkId). e.0) (map (λ (place : Location). place.0) (locations net at (step ∷ steps))) ≡ at.0.0 ∷ []
links_off net at step steps m = rw m refl

pub header_on : (net : Net) (at : Location) (step : Step) (steps : List Step) (next : Location) → moved net at step ≡ Some next → last_header net at (step ∷ steps) ≡ last_header net next steps
header_on net at step steps next m = rw m refl

pub header_off : (net : Net) (at : Location) (step : Step) (steps : List Step) → moved net at step ≡ None → last_header net at (step ∷ steps) ≡ []
header_off net at step steps m = rw m refl

pub ruleset travel_laws = (links_on, links_off, header_on, header_off)

-- one more label of a header
pub label_next : (old items : List Symbol) (header : List Entry) (i : ℕ) (l : Entry) (whole : List ℕ) → items ≡ old ++ record { 0 = l.0.0 } ∷ [] → slice_get header i ≡ Some l
    → symbols old ++ map (λ (x : Entry). x.0.0) (drop i header) ≡ whole → symbols items ++ map (λ (x : Entry). x.0.0) (drop (i + 1) header) ≡ whole
label_next old items header i l whole is at so_far =
    ap (λ (xs : List Symbol). symbols xs ++ map (λ (x : Entry). x.0.0) (drop (i + 1) header)) is
    ∙ ap (λ (xs : List ℕ). xs ++ map (λ (x : Entry). x.0.0) (drop (i + 1) header)) (map-append (λ (s : Symbol). s.0) old (record { 0 = l.0.0 } ∷ []))
    ∙ append_assoc (symbols old) (l.0.0 ∷ []) (map (λ (x : Entry). x.0.0) (drop (i + 1) header))
    ∙ ap (λ (xs : List Entry). symbols old ++ map (λ (x : Entry). x.0.0) xs) (sym (drop_at header i l at))
    ∙ so_far
