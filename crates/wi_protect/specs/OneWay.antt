-- A packet's only way under a set of failed links, by the traces of AalWiNes (CoNEXT 2020); and where facility backup (RFC
-- 4090, 3.2) is to lead it.
use Rattle.std.specs.Prelude.{◌≡◌, ◌==◌, Bool, true, false, not, ◌||◌, if◌then◌else◌, List, [], ◌∷◌, ◌++◌, Option}
use Rattle.std.specs.Option.{option_map_or}
use Rattle.std.specs.List.{filter, find}
use Rattle.wi_labels.specs.Header.{Entry}
use Rattle.wi_net.specs.declared.parts.LinkId.{LinkId}
use Rattle.wi_net.specs.LinkSet.{has, is_apart}
use Rattle.wi_net.specs.Net.{Net}
use Rattle.wi_plan.specs.declared.plan.Bypass.{Bypass}
use Rattle.wi_world.specs.declared.run.Step.{Step}
use Rattle.wi_world.specs.declared.run.Run.{Run}
use Rattle.wi_world.specs.declared.run.End.TheVariants.{Arrives}
use Rattle.wi_world.specs.Moves.{is_trace}
use Rattle.wi_world.specs.Runs.{links_of, last_header}

-- the first list begins the second
abbrev pub IsPrefix : List Step → List Step → Type 0
IsPrefix steps all = (rest : List Step) × (all ≡ steps ++ rest)

-- the run of a packet that sets out on a link with a header, and isn't dropped
abbrev pub run_of : LinkId → List Entry → List Step → Run
run_of e header steps = record { first = e; header = header; steps = steps; end = Arrives }

-- a packet that sets out with a header on the first of some links has one trace that can't be continued: it goes along these links,
-- and ends with a header. Every trace from there on which it isn't dropped begins it
pub record GoesOnly (net : Net) (fails : List LinkId) (e : LinkId) (header : List Entry) (links : List LinkId) (last : List Entry) : Type 0 where
  pub steps : List Step
  pub trace : is_trace net fails (run_of e header steps) ≡ true
  pub along : links_of net (run_of e header steps) ≡ links
  pub ends : last_header net (e, header) steps ≡ last
  pub stays : (step : Step) → is_trace net fails (run_of e header (steps ++ step ∷ [])) ≡ false
  pub begun : (others : List Step) → is_trace net fails (run_of e header others) ≡ true → IsPrefix others steps

-- the links of a list that failed
abbrev pub failed_of : List LinkId → List LinkId → List LinkId
failed_of links fails = filter (λ e. has fails e) links

-- the links between the first and the last
abbrev pub without_last : List LinkId → List LinkId
without_last [] = []
without_last (e ∷ []) = []
without_last (e ∷ f ∷ links) = e ∷ without_last (f ∷ links)

abbrev pub inner : List LinkId → List LinkId
inner [] = []
inner (e ∷ links) = without_last links

-- links with one of them replaced by others
abbrev pub replaced : List LinkId → LinkId → List LinkId → List LinkId
replaced [] e via = []
replaced (f ∷ links) e via = if f.0 == e.0 then via ++ links else f ∷ replaced links e via

-- a bypass of a link
abbrev pub bypass_for : List Bypass → LinkId → Option Bypass
bypass_for bypasses e = find (λ (b : Bypass). b.link.0 == e.0) bypasses

-- a link is up, or has a bypass of which no link failed
abbrev pub is_saved : List Bypass → List LinkId → LinkId → Bool
is_saved bypasses fails e = not (has fails e) || option_map_or (λ (b : Bypass). is_apart b.via fails) (bypass_for bypasses e) false

-- links with each that failed replaced by its bypass
abbrev pub rerouted : List Bypass → List LinkId → List LinkId → List LinkId
rerouted bypasses fails [] = []
rerouted bypasses fails (e ∷ links) =
    (if has fails e then option_map_or (λ (b : Bypass). b.via) (bypass_for bypasses e) [] else e ∷ []) ++ rerouted bypasses fails links
