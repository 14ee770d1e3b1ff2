-- Reports that are put together piece by piece.
use Rattle.std.proofs.Common.{◌≡◌, ℕ, ◌+◌, ◌<◌, List, [], ◌∷◌, ◌++◌, length, drop, get_or, Option, Some, None, Result, Err, true, refl, append_assoc, arith}
use Rattle.std.specs.Prelude.{codes}
use Rattle.std.specs.List.{list_all}
use Rattle.std.proofs.lemmas.List.{drop_more}
use Rattle.wi_labels.specs.declared.ops.Op.{Op}
use Rattle.wi_labels.specs.Header.{Entry, after_op, outcome}
use Rattle.wi_net.specs.declared.parts.LinkId.{LinkId}
use Rattle.wi_net.specs.declared.bounds.Bounds.{Bounds}
use Rattle.wi_net.specs.Net.{Net, is_link}
use Rattle.wi_world.specs.declared.run.Run.{Run}
use Rattle.wi_world.specs.declared.run.Step.{Step}
use Rattle.wi_world.specs.declared.run.End.{End}
use Rattle.wi_world.specs.Moves.{Location, moved}
use Rattle.wi_world.specs.Runs.{needs}
use Rattle.wi_script.proofs.PlayLemmas.{where_links}
use Rattle.wi_faults.specs.Shown.{place_shown}
use Rattle.wi_report.specs.Reports.{step_shown, steps_shown}

-- a step is shown, and those after it are left with the end
pub steps_left : (net : Net) (end : End) (at next : Location) (steps : List Step) (i : ℕ) (d : Step) (text whole new : List ℕ) → i < length steps → moved net at (get_or steps i d) ≡ Some next
    → text ++ steps_shown net end at (drop i steps) ≡ whole → new ≡ text ++ (place_shown net next ++ step_shown (get_or steps i d) ++ codes "\n") → new ++ steps_shown net end next (drop (i + 1) steps) ≡ whole
steps_left net end at next steps i d text whole new within to all put =
    let line : List ℕ = place_shown net next ++ step_shown (get_or steps i d) ++ codes "\n" in
    let after : List ℕ = steps_shown net end next (drop (i + 1) steps) in
    let here : steps_shown net end at (drop i steps) ≡ line ++ after = rw (drop_more steps i d within, to) refl in
    rw (put, append_assoc text line after, ← here) all

-- the operation that isn't defined is one of them
pub undefined_within : (at : ℕ) (ops : List Op) (header : List Entry) (i : ℕ) → outcome at ops header ≡ Err i → i < at + length ops
undefined_within at [] header i is = cc
undefined_within at (op ∷ ops) header i is = go (after_op op header) refl (λ next. undefined_within (at + 1) ops next i)
  where
    go : (o : Option (List Entry)) → after_op op header ≡ o → ((next : List Entry) → outcome (at + 1) ops next ≡ Err i → i < at + 1 + length ops) → i < at + length (op ∷ ops)
    go None none later = let same : ◌≡◌ {A = Result (List Entry) ℕ} (Err at) (Err i) = rw (none, outcome) at is in let here : at ≡ i = cc in omega (arith, here)
    go (Some next) some later = let within : i < at + 1 + length ops = later next (rw (some, outcome) at is) in omega (arith, within)

-- the links that a run needs are the network's
pub needs_known : (net : Net) (bounds : Bounds) (run : Run) (s : List LinkId) → s ≡ needs net bounds run → list_all (is_link net) s ≡ true
needs_known net bounds run s is = rw is (where_links net _)
