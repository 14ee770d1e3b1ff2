-- Goal runs are the moving runs that match, of the same weights, and stand for them.
use Rattle.std.proofs.Common.{◌≡◌, ℕ, suc, ◌+◌, ◌≤◌, true, false, not, ◌&&◌, List, [], ◌∷◌, ◌++◌, length, map, reverse, refl, arith, ap, sym, ◌∙◌, subst, append_assoc}
use Rattle.std.proofs.lemmas.List.{reverse-append}
use Rattle.std.proofs.lemmas.Bool.{and_parts, and_from, not-true, not_from_false}
use Rattle.wi_labels.specs.Header.{Entry, is_valid_header}
use Rattle.wi_net.specs.LinkSet.{has}
use Rattle.wi_net.specs.Net.{is_link, labels_known}
use Rattle.wi_weight.specs.Weights.{plus}
use Rattle.wi_weight.specs.lemmas.Sums.{length-plus}
use Rattle.wi_world.specs.declared.run.Run.{Run}
use Rattle.wi_world.specs.Moves.{is_start, is_possible_run}
use Rattle.wi_world.specs.Moving.{IsMovingRun}
use Rattle.wi_world.specs.Runs.{effort_of}
use Rattle.wi_world.specs.Holds.{Matches}
use Rattle.wi_world.proofs.MovingLaws.{moving_possible, possible_moving}
use Rattle.wi_world.proofs.Steps.{goes}
use Rattle.wi_rules.specs.declared.spot.Origin.{Origin}
use Rattle.wi_rules.specs.declared.spot.Origin.TheVariants.{Pushed, SetOut}
use Rattle.wi_rules.specs.declared.spot.Spot.TheVariants.{Start, Build, OnLink}
use Rattle.wi_rules.specs.Rules.{Encoding, SpotRule, Walks, Accepts, IsEncoding}
use Rattle.wi_rules.specs.Goals.{rules_weight, IsGoalRun, HasGoalRun, origins_of, origins_for, pushes_of, question_of, shares, IsMatch}
use Rattle.wi_rules.proofs.Ends.{Ends, stack}
use Rattle.wi_rules.proofs.Header.{labels_of}
use Rattle.wi_rules.proofs.Made.{pushes, Begun, SetsOut, start_forward, start_backward, out_forward, out_backward}
use Rattle.wi_rules.proofs.Journey.{later, links_later, shares_length, count_from, told_from, Journey, journey_forward, journey_backward}
use Rattle.wi_rules.proofs.Bridge.{Spelled, ends_rewrites, Counted, rewrites_ends}

tell_append : (a b : List Entry) → map (λ (l : Entry). Pushed l.0) (a ++ b) ≡ map (λ (l : Entry). Pushed l.0) a ++ map (λ (l : Entry). Pushed l.0) b
tell_append [] b = refl
tell_append (x ∷ a) b = ap (λ (r : List Origin). Pushed x.0 ∷ r) (tell_append a b)

-- what is pushed for a header is its labels from the bottom
pushes_are : (h : List Entry) (os : List Origin) → pushes h os ≡ pushes_of h ++ os
pushes_are [] os = refl
pushes_are (l ∷ h) os =
    let one : reverse (l ∷ h) ≡ reverse h ++ (l ∷ []) = reverse-append (l ∷ []) h in
    pushes_are h (Pushed l.0 ∷ os)
    ∙ sym (append_assoc (pushes_of h) (Pushed l.0 ∷ []) os)
    ∙ ap (λ (r : List Origin). r ++ os) (sym (tell_append (reverse h) (l ∷ [])))
    ∙ ap (λ (r : List Entry). map (λ (x : Entry). Pushed x.0) r ++ os) (sym one)

module _ (s : Encoding) (k : IsEncoding s) where
  -- the number of all rules is the effort
  effort_is : (run : Run) → suc (length run.header + suc (count_from s k run.end (run.first, run.header) run.steps)) ≡ effort_of s.net run
  effort_is run = omega arith

  begins : (run : Run) (l : Entry) (h : List Entry) → run.header ≡ l ∷ h → IsMovingRun s.net s.bounds run → Matches s.net (question_of s) run
      → Ends s Start (0 ∷ []) (plus (s.first_share run.first) (shares s run.end (run.first, run.header) run.steps)) (pushes run.header (SetOut run.first ∷ told_from s k run.end run.steps)) (effort_of s.net run)
  begins run l h is m a =
      let possible : is_possible_run s.net s.bounds run ≡ true = moving_possible s.net s.bounds run k.net k.bounds m in
      let p0 = and_parts (is_start s.net s.bounds.down run.first run.header) (goes s.net s.bounds run.end (run.first, run.header) run.steps) possible in
      let p1 = and_parts (is_link s.net run.first && not (has s.bounds.down run.first) && is_valid_header run.header) (labels_known s.net run.header) p0.0 in
      let p2 = and_parts (is_link s.net run.first && not (has s.bounds.down run.first)) (is_valid_header run.header) p1.0 in
      let p3 = and_parts (is_link s.net run.first) (not (has s.bounds.down run.first)) p2.0 in
      let path : Accepts s.path (run.first.0 ∷ later s.net (run.first, run.header) run.steps) = subst (λ (x : List ℕ). Accepts s.path x) (links_later s.net run.steps (run.first, run.header)) a.path in
      let walk : Walks s.path 0 (run.first.0 ∷ later s.net (run.first, run.header) run.steps) path.0 = path.1 in
      let goes : Ends s (OnLink run.first walk.0) (stack run.header) (shares s run.end (run.first, run.header) run.steps) (told_from s k run.end run.steps) (count_from s k run.end (run.first, run.header) run.steps) =
      journey_forward s k run.end a.end run.steps run.first run.header walk.0 path.0 p2.1 p1.1 p0.1 walk.2 path.2 a.last in
      let long : length (shares s run.end (run.first, run.header) run.steps) ≡ s.terms = shares_length s k run.end run.steps (run.first, run.header) in
      let out : Ends s (Build 0) (stack (l ∷ h)) (plus (s.first_share run.first) (shares s run.end (run.first, run.header) run.steps)) (SetOut run.first ∷ told_from s k run.end run.steps) (suc (count_from s k run.end (run.first, run.header) run.steps)) =
      out_forward s k l h run.first walk.0 (shares s run.end (run.first, run.header) run.steps) (told_from s k run.end run.steps) (count_from s k run.end (run.first, run.header) run.steps) (subst (λ (x : List Entry). labels_known s.net x ≡ true) is p1.1) p3.0 (not-true (has s.bounds.down run.first) p3.1) walk.1
      (subst (λ (x : List Entry). Ends s (OnLink run.first walk.0) (stack x) (shares s run.end (run.first, run.header) run.steps) (told_from s k run.end run.steps) (count_from s k run.end (run.first, run.header) run.steps)) is goes) long in
      let all : Ends s Start (0 ∷ []) (plus (s.first_share run.first) (shares s run.end (run.first, run.header) run.steps)) (pushes (l ∷ h) (SetOut run.first ∷ told_from s k run.end run.steps)) (suc (length (l ∷ h) + suc (count_from s k run.end (run.first, run.header) run.steps))) =
      start_forward s k l h (plus (s.first_share run.first) (shares s run.end (run.first, run.header) run.steps)) (SetOut run.first ∷ told_from s k run.end run.steps) (suc (count_from s k run.end (run.first, run.header) run.steps))
      (subst (λ (x : List Entry). is_valid_header x ≡ true) is p2.1) (subst (λ (x : List Entry). labels_known s.net x ≡ true) is p1.1) (subst (λ (x : List Entry). Accepts s.first (labels_of x)) is a.first)
      out (length-plus s.terms (s.first_share run.first) (shares s run.end (run.first, run.header) run.steps) (k.first_length run.first) long) in
      let number : suc (length (l ∷ h) + suc (count_from s k run.end (run.first, run.header) run.steps)) ≡ effort_of s.net run = ap (λ (x : List Entry). suc (length x + suc (count_from s k run.end (run.first, run.header) run.steps))) (sym is) ∙ effort_is run in
      subst (λ (x : List Entry). Ends s Start (0 ∷ []) (plus (s.first_share run.first) (shares s run.end (run.first, run.header) run.steps)) (pushes x (SetOut run.first ∷ told_from s k run.end run.steps)) (effort_of s.net run)) (sym is)
      (subst (λ (x : ℕ). Ends s Start (0 ∷ []) (plus (s.first_share run.first) (shares s run.end (run.first, run.header) run.steps)) (pushes (l ∷ h) (SetOut run.first ∷ told_from s k run.end run.steps)) x) number all)

  pub goal_of_match : (w : List ℕ) (run : Run) → IsMatch s w run → (rs : List SpotRule) × IsGoalRun s rs × (rules_weight s rs ≡ w) × (origins_of rs ≡ origins_for run)
  goal_of_match w run m = go run.header refl
    where
      valid : is_valid_header run.header ≡ true
      valid =
          let possible : is_possible_run s.net s.bounds run ≡ true = moving_possible s.net s.bounds run k.net k.bounds m.moving in
          let p0 = and_parts (is_start s.net s.bounds.down run.first run.header) (goes s.net s.bounds run.end (run.first, run.header) run.steps) possible in
          let p1 = and_parts (is_link s.net run.first && not (has s.bounds.down run.first) && is_valid_header run.header) (labels_known s.net run.header) p0.0 in
          (and_parts (is_link s.net run.first && not (has s.bounds.down run.first)) (is_valid_header run.header) p1.0).1

      go : (x : List Entry) → run.header ≡ x → (rs : List SpotRule) × IsGoalRun s rs × (rules_weight s rs ≡ w) × (origins_of rs ≡ origins_for run)
      go [] is = let no : false ≡ true = rw is at valid in cc
      go (l ∷ h) is =
          let r : Spelled s k Start (0 ∷ []) (plus (s.first_share run.first) (shares s run.end (run.first, run.header) run.steps)) (pushes run.header (SetOut run.first ∷ told_from s k run.end run.steps)) (effort_of s.net run) =
          ends_rewrites s k (effort_of s.net run) Start (0 ∷ []) (plus (s.first_share run.first) (shares s run.end (run.first, run.header) run.steps)) (pushes run.header (SetOut run.first ∷ told_from s k run.end run.steps)) (begins run l h is m.moving m.matches) in
          (r.rules, r.run, r.weight ∙ m.weight, r.tells ∙ pushes_are run.header (SetOut run.first ∷ told_from s k run.end run.steps))

  pub match_of_goal : (rs : List SpotRule) → IsGoalRun s rs → (run : Run) × IsMatch s (rules_weight s rs) run × (origins_of rs ≡ origins_for run)
  match_of_goal rs g =
      let c : Counted s k Start (0 ∷ []) (origins_of rs) (rules_weight s rs) = rewrites_ends s k rs Start (0 ∷ []) g in
      let b : Begun s k c.share (origins_of rs) c.count = start_backward s k c.share (origins_of rs) c.count c.ends in
      let o : SetsOut s k b.header c.share b.told b.count = out_backward s k b.header c.share b.told b.count b.part b.ends in
      let le : o.count ≤ o.count = omega arith in
      let j : Journey s k o.link o.state b.header o.rest o.told o.count = journey_backward s k o.count o.link o.state b.header o.rest o.told o.count le b.known o.ends in
      let run : Run = record { first = o.link; header = b.header; steps = j.steps; end = j.end } in
      let starts : is_start s.net s.bounds.down o.link b.header ≡ true =
      and_from (is_link s.net o.link && not (has s.bounds.down o.link) && is_valid_header b.header) (labels_known s.net b.header)
      (and_from (is_link s.net o.link && not (has s.bounds.down o.link)) (is_valid_header b.header) (and_from (is_link s.net o.link) (not (has s.bounds.down o.link)) o.is_there (not_from_false (has s.bounds.down o.link) o.is_up)) o.valid) b.known in
      let possible : is_possible_run s.net s.bounds run ≡ true = and_from (is_start s.net s.bounds.down o.link b.header) (goes s.net s.bounds j.end (o.link, b.header) j.steps) starts j.possible in
      let walked : Accepts s.path (o.link.0 ∷ later s.net (o.link, b.header) j.steps) = (j.state, (o.state, o.path, j.walks), j.accepts) in
      let share : plus (s.first_share o.link) (shares s j.end (o.link, b.header) j.steps) ≡ c.share = ap (λ (x : List ℕ). plus (s.first_share o.link) x) (sym j.share) ∙ sym o.share in
      let number : effort_of s.net run ≡ c.count =
      sym (effort_is run) ∙ ap (λ (x : ℕ). suc (length b.header + suc x)) (sym j.number) ∙ ap (λ (x : ℕ). suc (length b.header + x)) (sym o.number) ∙ sym b.number in (
        run,
        record {
          moving = possible_moving s.net s.bounds run k.net k.bounds possible;
          matches = record {
            first = b.accepted;
            path = subst (λ (x : List ℕ). Accepts s.path x) (sym (links_later s.net j.steps (o.link, b.header))) walked;
            last = j.last;
            end = j.dropped;
          };
          weight = ap (λ (x : List ℕ). x ++ effort_of s.net run ∷ []) share ∙ ap (λ (x : ℕ). c.share ++ x ∷ []) number ∙ sym c.weight;
        },
        b.tells ∙ ap (λ (x : List Origin). pushes b.header x) o.tells ∙ ap (λ (x : List Origin). pushes b.header (SetOut o.link ∷ x)) j.tells ∙ pushes_are b.header (SetOut o.link ∷ told_from s k j.end j.steps),
      )

  pub has_goal : (w : List ℕ) (run : Run) → IsMatch s w run → HasGoalRun s w
  has_goal w run m = let g = goal_of_match w run m in (g.0, g.1, g.2)

  pub has_match : (w : List ℕ) → HasGoalRun s w → (run : Run) × IsMatch s w run
  has_match w g =
      let m = match_of_goal g.0 g.1 in
      (m.0, subst (λ (x : List ℕ). IsMatch s x m.0) g.2 m.1)
