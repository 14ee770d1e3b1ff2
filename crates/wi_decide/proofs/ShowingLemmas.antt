-- An answer as a certificate shows it is the answer again, and has a text.
use Rattle.std.proofs.Common.{◌≡◌, ℕ, ◌+◌, ◌-◌, ◌<◌, ◌≤◌, ◌^◌, Bool, true, false, ◌&&◌, not, List, [], ◌∷◌, ◌++◌, map, take, drop, length, slice_get, Option, Some, None, refl, sym, ap, ◌∙◌, arith, subst, append_assoc, ◌⊎◌, inl, inr}
use Rattle.std.specs.Prelude.{option_map, IfSome, is_some, slice_index}
use Rattle.std.specs.List.{All}
use Rattle.std.proofs.lemmas.Bool.{and_parts, ltb-true}
use Rattle.std.proofs.lemmas.List.{length-map}
use Rattle.std.proofs.lemmas.List.Elements.{All-nil, All-cons, All-map, All-weaker}
use Rattle.wi_labels.specs.Header.{Entry, is_valid_header}
use Rattle.wi_labels.proofs.HeaderLemmas.{drop_at}
use Rattle.wi_weight.specs.Weights.{EachBelow}
use Rattle.wi_net.specs.declared.parts.LinkId.{LinkId}
use Rattle.wi_net.specs.LinkSet.{has}
use Rattle.wi_net.specs.Net.{Net, entry, is_link, label_known, labels_known}
use Rattle.wi_net.specs.Network.{IsNetwork}
use Rattle.wi_net.specs.Tables.{group_members, members_before}
use Rattle.wi_world.specs.declared.run.Step.{Step}
use Rattle.wi_world.specs.declared.run.Run.{Run}
use Rattle.wi_world.specs.declared.run.End.{End}
use Rattle.wi_world.specs.declared.run.End.TheVariants.{Arrives, Inactive, Undefined}
use Rattle.wi_world.specs.declared.answer.Word.{Word}
use Rattle.wi_world.specs.declared.answer.Word.TheVariants as words
use Rattle.wi_world.specs.declared.answer.Verdict.{Verdict}
use Rattle.wi_world.specs.declared.answer.Verdict.TheVariants.{Fits, Exceeds, UsesFailed}
use Rattle.wi_world.specs.Holds.{Holds, IsInconclusive, is_dropped}
use Rattle.wi_world.specs.Moves.{Location, is_possible, is_undefined, can_end, is_start}
use Rattle.wi_world.specs.Moving.{IsMovingRun}
use Rattle.wi_world.specs.Runs.{verdict_of}
use Rattle.wi_world.proofs.Allowed.{Names, possible_parts}
use Rattle.wi_world.proofs.HoldsLaws.{yes_moves}
use Rattle.wi_world.proofs.MovingLaws.{moving_possible}
use Rattle.wi_world.proofs.Steps.{goes, goes_on}
use Rattle.wi_quantity.specs.Weighing.{components}
use Rattle.wi_trace.specs.declared.answer.Answer.{Answer}
use Rattle.wi_rules.proofs.Lists.{get_below}
use Rattle.wi_build.specs.Problems.{Problem, IsProblem, asks, weighs}
use Rattle.wi_build.specs.Systems.{weight}
use Rattle.wi_build.proofs.HopLemmas.{group_room, cons_same}
use Rattle.wi_cert.specs.declared.shown.Claim.{Claim}
use Rattle.wi_cert.specs.declared.shown.Claim.TheVariants as claims
use Rattle.wi_cert.specs.Shown.{is_no, IsShown, MayBeDropped}
use Rattle.wi_accept.specs.Answers.{IsDecided, word_of, padded, labels_of, steps_of, end_of, run_of, answer_of}
use Rattle.wi_accept.specs.Causes.{bound_of}
use Rattle.wi_accept.proofs.UnusedTerms.{run_weighs, take_at}
use Rattle.wi_decide.specs.Showing.{Weight, claim_for, shown_weight, first_numbers, step_numbers, dropped_at, dropped_by, shown_by, IsSmallStep, IsSmallEnd, IsSmallRun}
use Rattle.wi_decide.proofs.SpellingLemmas.{classed_is, known_there}
use Rattle.wi_decide.proofs.WrittenLemmas.{HasTerms, padded_written, written_length}

-- a label's number is put, and those below it are left
pub label_more : (h : List Entry) (i : ℕ) (l : Entry) (ns new whole : List ℕ) → slice_get h i ≡ Some l → ns ++ map (λ (e : Entry). e.0.0) (drop i h) ≡ whole
    → new ≡ ns ++ l.0.0 ∷ [] → new ++ map (λ (e : Entry). e.0.0) (drop (i + 1) h) ≡ whole
label_more h i l ns new whole is all put =
    let here : ns ++ map (λ (e : Entry). e.0.0) (l ∷ drop (i + 1) h) ≡ whole = rw (drop_at h i l is) at all in
    rw (put, append_assoc ns (l.0.0 ∷ []) (map (λ (e : Entry). e.0.0) (drop (i + 1) h))) here

-- the steps of a moving run, and the member that it ends at, are in the tables, so that their numbers are small
module _ (problem : Problem) (k : IsProblem problem) where
  step_at : (e : LinkId) (header : List Entry) (step : Step) → Names problem.net (e, header) step → IsSmallStep step
  step_at e [] step n = let none : None ≡ Some n.group = n.group_is in cc
  step_at e (top ∷ below) step n =
      let first = members_before problem.net.rows e top.0 + group_members (take step.group (entry problem.net e top.0)) in
      let room = group_room problem (record { link = e; state = 0; top = top.0 }) step.group first n.group k.network (record { group = n.group_is; first_is = refl }) in
      let low = get_below n.group step.member n.member n.member_is in
      (omega (arith, room.few_groups), omega (arith, room.few_members, low))

  small_end : (at : Location) (end : End) → can_end problem.net problem.bounds at end ≡ true → IsSmallEnd end
  small_end at Arrives h = tt
  small_end at Inactive h = tt
  small_end at (Undefined step) h =
      let p = and_parts (is_possible problem.net problem.bounds at step) (is_undefined problem.net at step) h in
      step_at at.0 at.1 step (possible_parts problem.net problem.bounds at step p.0).named

  small_steps : (end : End) (at : Location) (steps : List Step) → goes problem.net problem.bounds end at steps ≡ true → All IsSmallStep steps × IsSmallEnd end
  small_steps end at [] h = (All-nil IsSmallStep, small_end at end h)
  small_steps end at (step ∷ steps) h =
      let o = goes_on problem.net problem.bounds end at step steps h in
      let rest = small_steps end o.next steps o.rest in
      (All-cons IsSmallStep step steps (step_at at.0 at.1 step (possible_parts problem.net problem.bounds at step o.passes).named) rest.0, rest.1)

  pub small_run : (run : Run) → IsMovingRun problem.net problem.bounds run → IsSmallRun run
  small_run run moving =
      small_steps run.end (run.first, run.header) run.steps
      (and_parts (is_start problem.net problem.bounds.down run.first run.header) (goes problem.net problem.bounds run.end (run.first, run.header) run.steps)
      (moving_possible problem.net problem.bounds run k.network k.bounds_of moving)).1

-- an answer that shows nothing, and one that shows a run
abbrev pub nothing : Answer
nothing = record { word = words.No; weight = None; run = None; verdict = None }

abbrev pub shown_run : Problem → Word → Weight → Run → Answer
shown_run problem word w r = record { word = word; weight = Some w; run = Some r; verdict = Some (verdict_of problem.net problem.bounds r) }

pub record ShowsRun (problem : Problem) (a : Answer) : Type 0 where
  pub word : Word
  pub w : Weight
  pub r : Run
  pub shows : is_no (claim_for word) ≡ false
  pub is : shown_run problem word w r ≡ a
  pub moving : IsMovingRun problem.net problem.bounds r
  pub drops : is_dropped r.end ≡ (asks problem).drops
  pub weight : weighs problem r ≡ components w

-- an answer that holds is one of them
module _ (problem : Problem) (k : IsProblem problem) where
  inconclusive : (w : Weight) (r : Run) (v : Verdict) → IsInconclusive problem.net (asks problem) (weighs problem) (components w) r v
      → ShowsRun problem (record { word = words.Inconclusive; weight = Some w; run = Some r; verdict = Some v })
  inconclusive w r v h = record {
    word = words.Inconclusive;
    w = w;
    r = r;
    shows = refl;
    is = ap (λ (x : Verdict). record { word = words.Inconclusive; weight = Some w; run = Some r; verdict = Some x }) h.verdict;
    moving = h.moving;
    drops = h.matches.end;
    weight = h.weight;
  }

  by_word : (word : Word) (weight : Option Weight) (run : Option Run) (verdict : Option Verdict) → Holds problem.net (asks problem) (weighs problem) word (option_map components weight) run verdict
      → (nothing ≡ record { word = word; weight = weight; run = run; verdict = verdict }) ⊎ ShowsRun problem (record { word = word; weight = weight; run = run; verdict = verdict })
  by_word words.No None None None h = inl refl
  by_word words.No None None (Some v) h = absurd h
  by_word words.No None (Some r) v h = absurd h
  by_word words.No (Some w) r v h = absurd h
  by_word words.Yes None r v h = absurd h
  by_word words.Yes (Some w) None v h = absurd h
  by_word words.Yes (Some w) (Some r) None h = absurd h
  by_word words.Yes (Some w) (Some r) (Some (Fits fails)) h = inr (record {
    word = words.Yes;
    w = w;
    r = r;
    shows = refl;
    is = ap (λ (x : Verdict). record { word = words.Yes; weight = Some w; run = Some r; verdict = Some x }) h.verdict;
    moving = yes_moves problem.net (asks problem) k.network k.bounds_of (weighs problem) (components w) r fails h;
    drops = h.matches.end;
    weight = h.weight;
  })
  by_word words.Yes (Some w) (Some r) (Some (Exceeds n)) h = absurd h
  by_word words.Yes (Some w) (Some r) (Some (UsesFailed e)) h = absurd h
  by_word words.Inconclusive None r v h = absurd h
  by_word words.Inconclusive (Some w) None v h = absurd h
  by_word words.Inconclusive (Some w) (Some r) None h = absurd h
  by_word words.Inconclusive (Some w) (Some r) (Some (Fits fails)) h = absurd h
  by_word words.Inconclusive (Some w) (Some r) (Some (Exceeds n)) h = inr (inconclusive w r (Exceeds n) h)
  by_word words.Inconclusive (Some w) (Some r) (Some (UsesFailed e)) h = inr (inconclusive w r (UsesFailed e) h)

  pub either : (a : Answer) → IsDecided problem a → (nothing ≡ a) ⊎ ShowsRun problem a
  either a h = by_word a.word a.weight a.run a.verdict h

  -- and the numbers of its run are small
  pub small_either : (a : Answer) → (nothing ≡ a) ⊎ ShowsRun problem a → IfSome a.run IsSmallRun
  small_either a h = elim h [
    | inl e ↦ subst (λ (x : Answer). IfSome x.run IsSmallRun) e tt
    | inr f ↦ subst (λ (x : Answer). IfSome x.run IsSmallRun) f.is (small_run problem k f.r f.moving)
  ]

  pub small_answer : (a : Answer) → IsDecided problem a → IfSome a.run IsSmallRun
  small_answer a h = small_either a (either a h)

-- numbers are read back as what they were written for
labels_back : (net : Net) (h : List Entry) → labels_known net h ≡ true → labels_of net (map (λ (l : Entry). l.0.0) h) ≡ h
labels_back net [] known = refl
labels_back net (l ∷ h) known =
    let p = and_parts (label_known net.classes l) (labels_known net h) known in
    cons_same (classed_is net l p.0) (labels_back net h p.1)

one_back : (s : Step) → record { group = s.group + 1 - 1; member = s.member + 1 - 1 } ≡ s
one_back s =
    let g : s.group + 1 - 1 ≡ s.group = omega arith in
    let m : s.member + 1 - 1 ≡ s.member = omega arith in
    ap (λ n. record { group = n; member = s.member + 1 - 1 }) g ∙ ap (λ n. record { group = s.group; member = n }) m

steps_back : (steps : List Step) → steps_of (step_numbers steps) ≡ steps
steps_back [] = refl
steps_back (s ∷ steps) = cons_same (one_back s) (steps_back steps)

-- so is the end of a run, where its packet is dropped just if that is asked for
dropped_back : (end : End) → is_dropped end ≡ true → end_of (Some (dropped_at end)) ≡ end
dropped_back Arrives h = let none : false ≡ true = h in cc
dropped_back Inactive h = refl
dropped_back (Undefined s) h = ap Undefined (one_back s)

arrives_back : (end : End) → is_dropped end ≡ false → Arrives ≡ end
arrives_back Arrives h = refl
arrives_back Inactive h = let none : true ≡ false = h in cc
arrives_back (Undefined s) h = let none : true ≡ false = h in cc

end_back : (drops : Bool) (r : Run) → is_dropped r.end ≡ drops → end_of (dropped_by drops (Some r)) ≡ r.end
end_back true r h = dropped_back r.end h
end_back false r h = arrives_back r.end h

-- how a packet is dropped may be shown so: of a run that is shown its end, of a no none
may_be_dropped : (claim : Claim) (end : End) → is_no claim ≡ false → is_dropped end ≡ true → MayBeDropped claim (Some (dropped_at end))
may_be_dropped claim Arrives shows h = let none : false ≡ true = h in cc
may_be_dropped claim Inactive shows h = shows
may_be_dropped claim (Undefined s) shows h = (shows, omega arith, omega arith)

run_may_be_dropped : (claim : Claim) (drops : Bool) (r : Run) → is_no claim ≡ false → is_dropped r.end ≡ drops → MayBeDropped claim (dropped_by drops (Some r))
run_may_be_dropped claim true r shows h = may_be_dropped claim r.end shows h
run_may_be_dropped claim false r shows h = tt

no_may_be_dropped : (drops : Bool) → MayBeDropped claims.No (dropped_by drops None)
no_may_be_dropped true = refl
no_may_be_dropped false = tt

-- a certificate says how packets are dropped exactly where this is asked for
about_drops : (drops : Bool) (run : Option Run) → is_some (dropped_by drops run) ≡ drops
about_drops true run = refl
about_drops false run = refl

pub about_asked : (problem : Problem) (a : Answer) → is_some (shown_by problem a).dropped ≡ (asks problem).drops
about_asked problem a = about_drops (asks problem).drops a.run

word_back : (word : Word) → word_of (claim_for word) ≡ word
word_back words.Yes = refl
word_back words.No = refl
word_back words.Inconclusive = refl

some_label : (h : List Entry) → is_valid_header h ≡ true → 0 < length h
some_label [] v = let none : false ≡ true = v in cc
some_label (l ∷ h) v = omega arith

labels_below : (net : Net) (h : List Entry) → IsNetwork net → labels_known net h ≡ true → EachBelow (2 ^ 32) (map (λ (l : Entry). l.0.0) h)
labels_below net [] k known = tt
labels_below net (l ∷ h) k known =
    let p = and_parts (label_known net.classes l) (labels_known net h) known in
    let low = known_there net l k p.0 in
    (omega (arith, low, k.few_labels), labels_below net h k p.1)

-- what is kept of a run that is shown
record IsKept (net : Net) (r : Run) : Type 0 where
  link : r.first.0 < length net.links
  some : 0 < length r.header
  known : labels_known net r.header ≡ true

kept_run : (problem : Problem) (r : Run) → IsMovingRun problem.net problem.bounds r → IsKept problem.net r
kept_run problem r moving =
    let p1 = and_parts (is_link problem.net r.first && not (has problem.bounds.down r.first) && is_valid_header r.header) (labels_known problem.net r.header) moving.start in
    let p2 = and_parts (is_link problem.net r.first && not (has problem.bounds.down r.first)) (is_valid_header r.header) p1.0 in
    let p3 = and_parts (is_link problem.net r.first) (not (has problem.bounds.down r.first)) p2.0 in
    record { link = ltb-true r.first.0 (length problem.net.links) p3.0; some = some_label r.header p2.1; known = p1.1 }

-- what holds of an answer as a certificate shows it
pub record Shows (problem : Problem) (a : Answer) : Type 0 where
  pub back : answer_of problem (shown_by problem a) ≡ a
  pub shown : IsShown (shown_by problem a)
  pub bound : bound_of (shown_by problem a) ≡ option_map components a.weight

module _ (problem : Problem) (k : IsProblem problem) (few : length problem.vector ≤ 5) where
  shows_nothing : Shows problem nothing
  shows_nothing = record {
    back = refl;
    shown = record {
      terms = few;
      weight = refl;
      first = refl;
      no_steps = λ e. refl;
      steps = All-nil (λ x. (0 < x.0) × (0 < x.1));
      dropped = no_may_be_dropped (asks problem).drops;
    };
    bound = refl;
  }

  -- the terms that the vector hasn't are 0
  run_terms : (w : Weight) (r : Run) → weighs problem r ≡ components w → HasTerms (length problem.vector) w
  run_terms w r e i past low = take_at 5 (components w) i (ap (λ xs. slice_index xs i) (sym e) ∙ run_weighs problem r i past low)

  run_back : (word : Word) (w : Weight) (r : Run) → IsKept problem.net r → is_dropped r.end ≡ (asks problem).drops → run_of problem.net (shown_by problem (shown_run problem word w r)) ≡ r
  run_back word w r kept drops =
      let end = end_of (dropped_by (asks problem).drops (Some r)) in
      ap (λ (h : List Entry). record { first = r.first; header = h; steps = steps_of (step_numbers r.steps); end = end }) (labels_back problem.net r.header kept.known)
      ∙ ap (λ (xs : List Step). record { first = r.first; header = r.header; steps = xs; end = end }) (steps_back r.steps)
      ∙ ap (λ (x : End). record { first = r.first; header = r.header; steps = r.steps; end = x }) (end_back (asks problem).drops r drops)

  shows_run : (word : Word) (w : Weight) (r : Run) → is_no (claim_for word) ≡ false → IsMovingRun problem.net problem.bounds r → is_dropped r.end ≡ (asks problem).drops → weighs problem r ≡ components w
      → Shows problem (shown_run problem word w r)
  shows_run word w r shows moving drops e = record {
    back = rw shows back;
    shown = record {
      terms = few;
      weight = rw shows (written_length (length problem.vector) w few);
      first = rw shows long;
      no_steps = λ no. let none : false ≡ true = sym shows ∙ no in cc;
      steps = All-map (λ x. (0 < x.0) × (0 < x.1)) (λ s. (s.group + 1, s.member + 1)) r.steps (All-weaker IsSmallStep (λ (s : Step). (0 < s.group + 1) × (0 < s.member + 1)) (λ s h. (omega arith, omega arith)) r.steps small);
      dropped = run_may_be_dropped (claim_for word) (asks problem).drops r shows drops;
    };
    bound = rw shows (ap (λ x. Some x) (padded_written (length problem.vector) w few terms));
  }
    where
      kept : IsKept problem.net r
      kept = kept_run problem r moving

      terms : HasTerms (length problem.vector) w
      terms = run_terms w r e

      small : All IsSmallStep r.steps
      small = (small_run problem k r moving).0

      long : 1 < length (first_numbers r.first r.header)
      long = omega (arith, kept.some, length-map r.header (λ (l : Entry). l.0.0))

      back : record {
        word = word_of (claim_for word);
        weight = Some (weight (padded (length problem.vector) (shown_weight (length problem.vector) w)));
        run = Some (run_of problem.net (shown_by problem (shown_run problem word w r)));
        verdict = Some (verdict_of problem.net problem.bounds (run_of problem.net (shown_by problem (shown_run problem word w r))));
      } ≡ shown_run problem word w r
      back =
          let make : Word → List ℕ → Run → Answer = λ v x y. record { word = v; weight = Some (weight x); run = Some y; verdict = Some (verdict_of problem.net problem.bounds y) } in
          let written_run = run_of problem.net (shown_by problem (shown_run problem word w r)) in
          ap (λ v. make v (padded (length problem.vector) (shown_weight (length problem.vector) w)) written_run) (word_back word)
          ∙ ap (λ x. make word x written_run) (padded_written (length problem.vector) w few terms)
          ∙ ap (λ y. make word (components w) y) (run_back word w r kept drops)

  -- an answer that shows nothing is shown, and one that shows a run
  pub shows_either : (a : Answer) → (nothing ≡ a) ⊎ ShowsRun problem a → Shows problem a
  shows_either a h = elim h [
    | inl e ↦ subst (λ (x : Answer). Shows problem x) e shows_nothing
    | inr f ↦ subst (λ (x : Answer). Shows problem x) f.is (shows_run f.word f.w f.r f.shows f.moving f.drops f.weight)
  ]

  -- so one that holds is
  pub shows : (a : Answer) → IsDecided problem a → Shows problem a
  shows a h = shows_either a (either problem k a h)
