-- What a run needs, gathered step by step, and at its end.
use Rattle.std.proofs.Common.{◌≡◌, Bool, true, false, ◌&&◌, ◌||◌, List, [], ◌∷◌, length, Option, Some, None, refl, ap, inl, inr, sym, ◌∙◌}
use Rattle.std.proofs.lemmas.Bool.{or_cases, and_parts, and_from}
use Rattle.std.specs.List.{list_any}
use Rattle.std.specs.Option.{option_map_or}
use Rattle.wi_net.specs.declared.parts.LinkId.{LinkId}
use Rattle.wi_net.specs.declared.bounds.Bounds.{Bounds}
use Rattle.wi_net.specs.LinkSet.{has, is_rising}
use Rattle.wi_net.specs.RiskGroups.{union}
use Rattle.wi_net.specs.Net.{Net, is_link, same_risk}
use Rattle.wi_net.proofs.SetLemmas.{has-links_where, union_link}
use Rattle.wi_net.proofs.CountLemmas.{bool_same}
use Rattle.wi_net.proofs.RisingLemmas.{rising_same}
use Rattle.wi_net.proofs.WidenLemmas.{has-union, union_keeps_rising, union_rising, or_assoc, or_comm}
use Rattle.wi_world.specs.declared.run.Step.{Step}
use Rattle.wi_world.specs.declared.run.Run.{Run}
use Rattle.wi_world.specs.declared.run.End.{End}
use Rattle.wi_world.specs.Moves.{Location, groups_at, moved, needed, needed_to_end, AreBounds}
use Rattle.wi_world.specs.Runs.{is_needed, needs}
use Rattle.wi_world.proofs.Allowed.{before_union}
use Rattle.wi_world.proofs.EndLemmas.{end_union}
use Rattle.wi_trace.specs.private.Hops.{gathered}

has-gathered : (net : Net) (s : List LinkId) (end : End) (at : Location) (steps : List Step) (e : LinkId) → has (gathered net s end at steps) e ≡ (has s e || is_needed net e end at steps)
has-gathered net s end at [] e = has-union s (needed_to_end net at end) e
has-gathered net s end at (step ∷ steps) e = go (moved net at step) refl (λ next. has-gathered net (union s (needed net at step)) end next steps e)
  where
    go : (o : Option Location) → moved net at step ≡ o → ((next : Location) → has (gathered net (union s (needed net at step)) end next steps) e ≡ (has (union s (needed net at step)) e || is_needed net e end next steps)) → has (gathered net s end at (step ∷ steps)) e ≡ (has s e || is_needed net e end at (step ∷ steps))
    go None m ih = rw m (has-union s (needed net at step) e ∙ ap (λ b. has s e || b) (or_comm false (has (needed net at step) e)))
    go (Some next) m ih = rw m (ih next ∙ ap (λ b. b || is_needed net e end next steps) (has-union s (needed net at step) e) ∙ sym (or_assoc (has s e) (has (needed net at step) e) (is_needed net e end next steps)))

gathered_rising : (net : Net) (s : List LinkId) (end : End) (at : Location) (steps : List Step) → is_rising s ≡ true → is_rising (gathered net s end at steps) ≡ true
gathered_rising net s end at [] r = union_keeps_rising s (needed_to_end net at end) r
gathered_rising net s end at (step ∷ steps) r = go (moved net at step) refl (λ next. gathered_rising net (union s (needed net at step)) end next steps (union_keeps_rising s (needed net at step) r))
  where
    go : (o : Option Location) → moved net at step ≡ o → ((next : Location) → is_rising (gathered net (union s (needed net at step)) end next steps) ≡ true) → is_rising (gathered net s end at (step ∷ steps)) ≡ true
    go None m ih = rw m (union_keeps_rising s (needed net at step) r)
    go (Some next) m ih = rw m (ih next)

needed_link : (net : Net) (end : End) (at : Location) (steps : List Step) (e : LinkId) → is_needed net e end at steps ≡ true → is_link net e ≡ true
needed_link net end at [] e h = union_link net (needed_to_end net at end) e (end_union net at end) h
needed_link net end at (step ∷ steps) e h =
    elim (or_cases (has (needed net at step) e) (option_map_or (λ (n : Location). is_needed net e end n steps) (moved net at step) false) h) [
      | inl now ↦ union_link net (needed net at step) e (before_union net (groups_at net at.0 at.1) step.group) now
      | inr later ↦ carry (moved net at step) (λ n. needed_link net end n steps e) later
    ]
  where
    carry : (o : Option Location) → ((n : Location) → is_needed net e end n steps ≡ true → is_link net e ≡ true) → option_map_or (λ (n : Location). is_needed net e end n steps) o false ≡ true → is_link net e ≡ true
    carry None ih i = cc
    carry (Some n) ih i = ih n i

-- both lists rise, and have the same links
pub needs_gathered : (net : Net) (b : Bounds) (run : Run) → AreBounds net b → gathered net b.down run.end (run.first, run.header) run.steps ≡ needs net b run
needs_gathered net b run kb = rising_same all (needs net b run) (gathered_rising net b.down run.end (run.first, run.header) run.steps down_rising) (union_rising p (length net.links)) same
  where
    all : List LinkId
    all = gathered net b.down run.end (run.first, run.header) run.steps

    by_run : LinkId → Bool
    by_run e = is_needed net e run.end (run.first, run.header) run.steps

    p : LinkId → Bool
    p e = has b.down e || by_run e

    down_rising : is_rising b.down ≡ true
    down_rising = ap (λ t. is_rising t) (sym kb.down) ∙ union_rising (λ e. list_any (λ d. same_risk net d e) b.down) (length net.links)

    same : (e : LinkId) → has all e ≡ has (needs net b run) e
    same e =
        has-gathered net b.down run.end (run.first, run.header) run.steps e
        ∙ bool_same (p e) (is_link net e && p e)
        (λ h. and_from (is_link net e) (p e) (elim (or_cases (has b.down e) (by_run e) h) [ inl d ↦ union_link net b.down e kb.down d | inr n ↦ needed_link net run.end (run.first, run.header) run.steps e n ]) h)
        (λ h. (and_parts (is_link net e) (p e) h).1)
        ∙ sym (has-links_where net p e)
