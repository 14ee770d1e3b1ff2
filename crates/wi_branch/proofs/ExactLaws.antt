-- Once all branches were opened, the best run is the answer, and what was opened is the tree that shows it.
use Rattle.std.proofs.Common.{◌≡◌, ℕ, ◌<◌, ◌≤◌, true, false, List, [], ◌∷◌, length, map, Option, Some, None, IfSome, option_map, ◌⊎◌, inl, inr, refl, arith, ap, sym, ◌∙◌, subst}
use Rattle.std.proofs.lemmas.List.{length-map}
use Rattle.wi_net.specs.declared.bounds.Bounds.{Bounds}
use Rattle.wi_net.specs.Network.{IsNetwork}
use Rattle.wi_world.specs.declared.answer.Word.TheVariants.{Yes}
use Rattle.wi_world.specs.declared.answer.Verdict.{Verdict}
use Rattle.wi_world.specs.Moves.{AreBounds}
use Rattle.wi_world.specs.Runs.{needs, verdict_of}
use Rattle.wi_quantity.specs.Weighing.{components}
use Rattle.wi_trace.specs.declared.answer.Answer.{Answer}
use Rattle.wi_trees.specs.Branches.{IsBranch}
use Rattle.wi_trees.specs.Trees.{NoRunBelow, NoTraceBelow, IsExactYes, HoldsExactly}
use Rattle.wi_trees.proofs.BranchLaws.{root}
use Rattle.wi_trees.proofs.TreeLaws.{tree_covers, least_from, no_from, yes_from}
use Rattle.wi_trees.proofs.NodeLaws.{nodes_tree}
use Rattle.wi_world.specs.Moving.{IsMovingRun}
use Rattle.wi_world.proofs.RunLaws.{trace_moving}
use Rattle.wi_cert.specs.declared.shown.Shown.{Shown}
use Rattle.wi_cert.specs.declared.tree.Node.{Node}
use Rattle.wi_cert.specs.declared.tree.TreeCertificate.{TreeCertificate}
use Rattle.wi_cert.specs.Trees.{is_inconclusive, makes_trees}
use Rattle.wi_build.specs.Problems.{Problem, IsProblem, asks, weighs, within}
use Rattle.wi_accept.specs.Trees.{IsDecidedExactly, IsTreeAccepted, IsTreeMaker}
use Rattle.wi_accept.proofs.Visits.{matches_whole}
use Rattle.wi_accept.proofs.MadeTrees.{nothing_against_tree}
use Rattle.wi_decide.specs.Showing.{claim_for, shown_by}
use Rattle.wi_decide.proofs.ShowingLemmas.{about_asked, nothing, Shows, ShowsRun, shows_either, small_run}
use Rattle.wi_decide.specs.declared.searching.LeastRun.{LeastRun}
use Rattle.wi_branch.specs.declared.opened.Opened.{Opened}
use Rattle.wi_branch.specs.Walks.{IsWalk}
use Rattle.wi_branch.specs.Exactly.{IsAnsweredExactly, IsExact, node_under}
use Rattle.wi_branch.specs.private.Courses.{CanBeShown, IsBest, Opening, cut_of, kept, IsDone, answer_with}
use Rattle.wi_branch.proofs.TreeMaking.{odd_nodes, walk_leaves, walk_made, walk_whole}
use Rattle.wi_branch.proofs.WalkLaws.{fits_as, split_in, walk_nodes}

-- a best run, if there is one, is a matching moving run of a branch, which it fits
abbrev HasBest : Problem → Option LeastRun → Type 0
HasBest problem best = IfSome best (λ found. (branch : Bounds) × IsBranch problem.net problem.bounds branch × IsBest (within problem branch) found)

module _ (problem : Problem) (k : IsNetwork problem.net) (kw : AreBounds problem.net problem.bounds) where
  -- no matching trace is below the last cut
  none_below : (limit : ℕ) (done : Opening) → IsDone problem limit done → NoTraceBelow problem.net (asks problem) (weighs problem) (cut_of done.best) problem.bounds
  none_below limit done h =
      let P : List Bounds → Type 0 = λ l. IsWalk problem None h.0.opened (problem.bounds ∷ []) (cut_of done.best) l in
      let nodes = walk_nodes problem k kw None h.0.opened (problem.bounds ∷ []) (cut_of done.best) (root problem.net problem.bounds kw, tt) (subst P h.1 h.0.walk) in
      let tree = nodes_tree (NoRunBelow problem.net (asks problem) (weighs problem) (cut_of done.best)) problem.net (map split_in h.0.opened) problem.bounds nodes in
      tree_covers problem.net (asks problem) (weighs problem) k (cut_of done.best) problem.bounds tree.0 kw tree.1

  -- the best run is a yes
  yes_of : (found : LeastRun) (branch : Bounds) → IsBranch problem.net problem.bounds branch → IsBest (within problem branch) found
      → NoTraceBelow problem.net (asks problem) (weighs problem) (Some (components found.weight)) problem.bounds
      → IsExactYes problem.net (asks problem) (weighs problem) (weighs problem found.run) found.run (needs problem.net problem.bounds found.run)
  yes_of found branch b best none =
      let fits = fits_as (verdict_of problem.net branch found.run) best.fitting in
      let P : List ℕ → Type 0 = λ w. NoTraceBelow problem.net (asks problem) (weighs problem) (Some w) problem.bounds in
      let least = least_from problem.net (asks problem) (weighs problem) k (weighs problem found.run) (subst P (sym best.answers.weight) none) in
      yes_from problem.net (asks problem) (weighs problem) k branch found.run fits.0 kw b best.answers.moving (matches_whole problem branch found.run best.answers.matches) fits.1 least

  -- so it is a moving run within the whole
  whole_moving : (found : LeastRun) (branch : Bounds) → IsBranch problem.net problem.bounds branch → IsBest (within problem branch) found
      → NoTraceBelow problem.net (asks problem) (weighs problem) (Some (components found.weight)) problem.bounds → IsMovingRun problem.net problem.bounds found.run
  whole_moving found branch b best none =
      let yes = yes_of found branch b best none in
      trace_moving problem.net problem.bounds (needs problem.net problem.bounds found.run) found.run k kw yes.allowed yes.trace

  yes_with : (found : LeastRun) (branch : Bounds) → IsBranch problem.net problem.bounds branch → IsBest (within problem branch) found
      → NoTraceBelow problem.net (asks problem) (weighs problem) (Some (components found.weight)) problem.bounds
      → HoldsExactly problem.net (asks problem) (weighs problem) Yes (Some (components found.weight)) (Some found.run) (Some (verdict_of problem.net problem.bounds found.run))
  yes_with found branch b best none =
      let yes = yes_of found branch b best none in
      let Q : Verdict → Type 0 = λ v. HoldsExactly problem.net (asks problem) (weighs problem) Yes (Some (components found.weight)) (Some found.run) (Some v) in
      let R : List ℕ → Type 0 = λ w. IsExactYes problem.net (asks problem) (weighs problem) w found.run (needs problem.net problem.bounds found.run) in
      subst Q (sym yes.verdict) (subst R best.answers.weight yes)

  holds_with : (best : Option LeastRun) → HasBest problem best → NoTraceBelow problem.net (asks problem) (weighs problem) (cut_of best) problem.bounds
      → IsDecidedExactly problem (answer_with problem.net problem.bounds best)
  holds_with None h none = no_from problem.net (asks problem) (weighs problem) k none
  holds_with (Some found) h none = yes_with found h.0 h.1 h.2 none

  cut_with : (best : Option LeastRun) → option_map components (answer_with problem.net problem.bounds best).weight ≡ cut_of best
  cut_with None = refl
  cut_with (Some found) = refl

  -- the answer shows nothing, or its run
  shows_with : (best : Option LeastRun) → HasBest problem best → NoTraceBelow problem.net (asks problem) (weighs problem) (cut_of best) problem.bounds
      → (nothing ≡ answer_with problem.net problem.bounds best) ⊎ ShowsRun problem (answer_with problem.net problem.bounds best)
  shows_with None h none = inl refl
  shows_with (Some found) h none = inr (record {
    word = Yes;
    w = found.weight;
    r = found.run;
    shows = refl;
    is = refl;
    moving = whole_moving found h.0 h.1 h.2 none;
    drops = h.2.answers.matches.end;
    weight = h.2.answers.weight;
  })

  not_inconclusive : (best : Option LeastRun) → is_inconclusive (claim_for (answer_with problem.net problem.bounds best).word) ≡ false
  not_inconclusive None = refl
  not_inconclusive (Some found) = refl

-- the tree that shows this, of these nodes
abbrev tree_of : Shown → List Opened → TreeCertificate
tree_of s opened = record { shown = s; nodes = map (node_under s) opened }

tree_same : (t : TreeCertificate) (s : Shown) (opened : List Opened) → t.shown ≡ s → t.nodes ≡ map (node_under t.shown) opened → t ≡ tree_of s opened
tree_same t s opened shown_is nodes_are =
    let P : List Node → Type 0 = λ xs. record { shown = t.shown; nodes = xs } ≡ tree_of t.shown opened in
    subst P (sym nodes_are) refl ∙ ap (λ (x : Shown). tree_of x opened) shown_is

module _ (problem : Problem) (k : IsProblem problem) where
  can_show : (best : Option LeastRun) → HasBest problem best → NoTraceBelow problem.net (asks problem) (weighs problem) (cut_of best) problem.bounds
      → CanBeShown (answer_with problem.net problem.bounds best)
  can_show None h none = (tt, tt)
  can_show (Some found) h none = (h.2.small, small_run problem k found.run (whole_moving problem k.network k.bounds_of found h.0 h.1 h.2 none))

  -- the answer with the best run can be shown
  pub best_shown : (limit : ℕ) (done : Opening) → IsDone problem limit done → CanBeShown (answer_with problem.net problem.bounds done.best)
  best_shown limit done h = can_show done.best h.0.best (none_below problem k.network k.bounds_of limit done h)

  -- nothing speaks against the tree of an exact answer
  pub exact_accepted : (limit : ℕ) (a : Answer) (t : TreeCertificate) → IsExact problem limit a t → IsTreeAccepted problem t
  exact_accepted limit a t exact = nothing_against_tree problem a t k exact.holds exact.made

  module _ (limit : ℕ) (done : Opening) (h : IsDone problem limit done) (few : length problem.vector ≤ 5) (room : limit ≤ 10000) where
    abbrev answer : Answer
    answer = answer_with problem.net problem.bounds done.best

    abbrev shown : Shown
    shown = shown_by problem answer

    abbrev nodes : List Node
    nodes = map (node_under shown) h.0.opened

    abbrev tree : TreeCertificate
    tree = tree_of shown h.0.opened

    seen : Shows problem answer
    seen = shows_either problem k few answer (shows_with problem k.network k.bounds_of done.best h.0.best (none_below problem k.network k.bounds_of limit done h))

    last : Option (List ℕ)
    last = cut_of done.best

    walk : IsWalk problem None h.0.opened (problem.bounds ∷ []) (cut_of done.best) []
    walk = subst (λ (l : List Bounds). IsWalk problem None h.0.opened (problem.bounds ∷ []) (cut_of done.best) l) h.1 h.0.walk

    whole : makes_trees 1 nodes ≡ true
    whole = walk_whole problem shown seen.shown refl few None h.0.opened (problem.bounds ∷ []) (cut_of done.best) walk

    few_nodes : length nodes < 10000
    few_nodes =
        let odd = odd_nodes 1 nodes whole in
        omega (arith, odd.1, room, h.0.few, length-map h.0.opened (node_under shown))

    made : IsTreeMaker problem answer tree
    made = record {
      writable = record {
        shown = seen.shown;
        decided = not_inconclusive problem k.network k.bounds_of done.best;
        few = few_nodes;
        whole = whole;
        leaves = walk_leaves problem shown seen.shown refl few None h.0.opened (problem.bounds ∷ []) (cut_of done.best) walk;
      };
      about = about_asked problem answer;
      terms = refl;
      shows = seen.back;
      nodes = walk_made problem shown seen.shown refl few k.network k.bounds_of (cut_of done.best) (seen.bound ∙ cut_with problem k.network k.bounds_of done.best) None h.0.opened (problem.bounds ∷ []) tt
          (root problem.net problem.bounds k.bounds_of, tt) walk;
    }

    exact : IsExact problem limit answer tree
    exact = record {
      holds = holds_with problem k.network k.bounds_of done.best h.0.best (none_below problem k.network k.bounds_of limit done h);
      made = made;
      opened = h.0.opened;
      walk = subst (λ (c : Option (List ℕ)). IsWalk problem None h.0.opened (problem.bounds ∷ []) c []) (sym (cut_with problem k.network k.bounds_of done.best)) walk;
      nodes = refl;
      few = h.0.few;
    }

    -- whatever is equal to that answer and that tree is exact
    pub exact_is : done.keeps ≡ true → (a : Answer) → a ≡ answer → (t : TreeCertificate) → t.shown ≡ shown_by problem a → t.nodes ≡ map (node_under t.shown) done.nodes → IsExact problem limit a t
    exact_is keep a answer_is t shown_is tree_nodes =
        let nodes_are : done.nodes ≡ h.0.opened = h.0.nodes ∙ ap (λ b. kept b h.0.opened) keep in
        let tree_is : t ≡ tree = tree_same t shown h.0.opened (shown_is ∙ ap (shown_by problem) answer_is) (tree_nodes ∙ ap (map (node_under t.shown)) nodes_are) in
        subst (λ x. IsExact problem limit x t) (sym answer_is) (subst (λ x. IsExact problem limit answer x) (sym tree_is) exact)

    -- so many nodes has the tree
    pub answered_is : (best : Option LeastRun) → best ≡ done.best → (count : ℕ) → count ≡ done.count → (a : Answer) → a ≡ answer_with problem.net problem.bounds best
        → IsAnsweredExactly problem limit a count
    answered_is best best_is count count_is a answer_is =
        let a_is : a ≡ answer = answer_is ∙ ap (answer_with problem.net problem.bounds) best_is in
        let counted : count ≡ length nodes = count_is ∙ h.0.count ∙ sym (length-map h.0.opened (node_under shown)) in
        subst (λ x. IsAnsweredExactly problem limit x count) (sym a_is) (record { tree = tree; exact = exact; accepted = exact_accepted limit answer tree exact; counted = counted })
