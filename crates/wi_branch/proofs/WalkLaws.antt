-- Branches opened one after the other: what they show once none is left.
use Rattle.std.proofs.Common.{◌≡◌, ℕ, ◌+◌, ◌<◌, ◌≤◌, Bool, true, false, not, ◌&&◌, nat_eq, nat_lt, List, [], ◌∷◌, ◌++◌, length, map, Option, Some, None, IsSome, ◌⊎◌, refl, arith, ap, inl, inr, sym, ◌∙◌, subst, length-append}
use Rattle.std.proofs.lemmas.Bool.{and_parts, and_from, or_cases, or_left, or_right, eqb-true, eq-eqb, ltb-true, lt-ltb, true≢false, false_from_ne_true}
use Rattle.std.specs.List.{find}
use Rattle.wi_net.specs.declared.parts.LinkId.{LinkId}
use Rattle.wi_net.specs.declared.bounds.Bounds.{Bounds}
use Rattle.wi_net.specs.LinkSet.{has}
use Rattle.wi_net.specs.Net.{Net}
use Rattle.wi_net.specs.Network.{IsNetwork}
use Rattle.wi_world.specs.declared.run.Run.{Run}
use Rattle.wi_world.specs.declared.answer.Verdict.{Verdict}
use Rattle.wi_world.specs.declared.answer.Verdict.TheVariants as verdicts
use Rattle.wi_world.specs.Moves.{AreBounds}
use Rattle.wi_world.specs.Moving.{IsMovingRun}
use Rattle.wi_world.specs.Runs.{is_less, needs, verdict_of}
use Rattle.wi_trees.specs.Branches.{fits_branch, CanSplit, with_down, with_up, split_of}
use Rattle.wi_trees.specs.Trees.{IsBelow, NoRunBelow}
use Rattle.wi_trees.specs.Nodes.{AreNodes}
use Rattle.wi_trees.proofs.BranchLaws.{root, child_down, child_up}
use Rattle.wi_trees.proofs.FitLaws.{fits_verdict, split_there}
use Rattle.wi_quantity.specs.Weighing.{components}
use Rattle.wi_build.specs.Problems.{Problem, asks, weighs, within}
use Rattle.wi_branch.specs.declared.opened.Opened.{Opened}
use Rattle.wi_branch.specs.declared.opened.Opened.TheVariants as opened
use Rattle.wi_branch.specs.declared.refused.AnswerRefused.{AnswerRefused}
use Rattle.wi_branch.specs.declared.refused.ExactRefused.{ExactRefused}
use Rattle.wi_branch.specs.declared.finding.Told.{Told}
use Rattle.wi_branch.specs.declared.finding.Told.TheVariants.{Nothing, Fitting, Splitting}
use Rattle.wi_accept.proofs.Visits.{matches_within}
use Rattle.wi_decide.specs.declared.refused.SearchRefused.{SearchRefused}
use Rattle.wi_decide.specs.declared.refused.SearchRefused.TheVariants.{Overflow, TooLong, Memory}
use Rattle.wi_decide.specs.Searches.{IsSearchRefused}
use Rattle.wi_branch.specs.Walks.{is_fitting, IsNode, cut_after, left_after, IsWalk}
use Rattle.wi_branch.specs.Exactly.{IsAnswerRefused, IsExactRefused, IsNext, refusal_of, refused_with}
use Rattle.wi_branch.specs.private.Courses.{node_of, IsToldWell, Opening, cut_of, kept, after_told, AreBranches, IsOpening, IsOpenedAt}

-- the order of weights is transitive
pub less_trans : (a b c : List ℕ) → is_less a b ≡ true → is_less b c ≡ true → is_less a c ≡ true
less_trans [] b c h i = cc
less_trans (x ∷ a) [] c h i = cc
less_trans (x ∷ a) (y ∷ b) [] h i = cc
less_trans (x ∷ a) (y ∷ b) (z ∷ c) h i =
    elim (or_cases (nat_lt x y) (nat_eq x y && is_less a b) h) [
      | inl xy ↦
          (let lt = ltb-true x y xy in
          elim (or_cases (nat_lt y z) (nat_eq y z && is_less b c) i) [
            | inl yz ↦ (let lt2 = ltb-true y z yz in or_left (nat_lt x z) (nat_eq x z && is_less a c) (lt-ltb x z (omega (arith, lt, lt2))))
            | inr both ↦ (let eq = eqb-true y z ((and_parts (nat_eq y z) (is_less b c) both).0) in or_left (nat_lt x z) (nat_eq x z && is_less a c) (lt-ltb x z (omega (arith, lt, eq))))
          ])
      | inr first ↦
          (let p = and_parts (nat_eq x y) (is_less a b) first in
          let eq = eqb-true x y p.0 in
          elim (or_cases (nat_lt y z) (nat_eq y z && is_less b c) i) [
            | inl yz ↦ (let lt2 = ltb-true y z yz in or_left (nat_lt x z) (nat_eq x z && is_less a c) (lt-ltb x z (omega (arith, eq, lt2))))
            | inr both ↦
                (let q = and_parts (nat_eq y z) (is_less b c) both in
                let eq2 = eqb-true y z q.0 in
                or_right (nat_lt x z) (nat_eq x z && is_less a c) (and_from (nat_eq x z) (is_less a c) (eq-eqb x z (eq ∙ eq2)) (less_trans a b c p.1 q.1)))
          ])
    ]

below_less : (cut : Option (List ℕ)) (w x : List ℕ) → IsBelow cut w → is_less x w ≡ true → IsBelow cut x
below_less None w x h i = tt
below_less (Some c) w x h i = less_trans x w c i h

-- a verdict that a run fits says what is needed
pub fits_as : (v : Verdict) → is_fitting v ≡ true → (fails : List LinkId) × (v ≡ verdicts.Fits fails)
fits_as (verdicts.Fits fails) h = (fails, refl)
fits_as (verdicts.Exceeds n) h = cc
fits_as (verdicts.UsesFailed e) h = cc

-- a run that doesn't fit tells a link to split by
pub unfit_splits : (net : Net) (branch : Bounds) (run : Run) → IsNetwork net → AreBounds net branch → IsMovingRun net branch run → is_fitting (verdict_of net branch run) ≡ false
    → (e : LinkId) × (split_of net branch run ≡ Some e) × CanSplit net branch e
unfit_splits net branch run k kb moving unfit =
    let b = root net branch kb in
    let none : fits_branch net branch branch run ≡ false =
    false_from_ne_true (fits_branch net branch branch run) (λ f. true≢false (sym (ap is_fitting (fits_verdict net run branch branch b f)) ∙ unfit)) in
    split_there net run branch branch b k moving none

pub can_split : (net : Net) (branch : Bounds) (run : Run) (e : LinkId) → IsNetwork net → AreBounds net branch → IsMovingRun net branch run → is_fitting (verdict_of net branch run) ≡ false
    → split_of net branch run ≡ Some e → CanSplit net branch e
can_split net branch run e k kb moving unfit is =
    let s = unfit_splits net branch run k kb moving unfit in
    let same : Some s.0 ≡ Some e = sym s.1 ∙ is in
    let link : s.0 ≡ e = cc in
    let P : LinkId → Type 0 = λ d. CanSplit net branch d in
    subst P link s.2

-- where none was opened, none is kept
kept_none : (keeps : Bool) → [] ≡ kept keeps []
kept_none true = refl
kept_none false = refl

-- one node more is kept, where nodes are
kept_more : (keeps : Bool) (now nodes : List Opened) (node : Opened) → now ≡ kept keeps nodes → now ++ kept keeps (node ∷ []) ≡ kept keeps (nodes ++ node ∷ [])
kept_more true now nodes node is = ap (λ xs. xs ++ node ∷ []) is
kept_more false now nodes node is = ap (λ xs. xs ++ []) is

-- a leaf, or the link of a split
abbrev pub split_in : Opened → Option LinkId
split_in (opened.Closed leaf) = None
split_in (opened.Fits w leaf) = None
split_in (opened.Split e) = Some e

module _ (problem : Problem) where
  -- one node more
  pub walk_more : (cut : Option (List ℕ)) (nodes : List Opened) (left : List Bounds) (last : Option (List ℕ)) (branch : Bounds) (rest : List Bounds) (node : Opened)
      → IsWalk problem cut nodes left last (branch ∷ rest) → IsNode (within problem branch) last node
      → IsWalk problem cut (nodes ++ node ∷ []) left (cut_after last node) (left_after problem.net branch node rest)
  walk_more cut [] left last branch rest node h is =
      let P : Option (List ℕ) → Type 0 = λ c. IsWalk problem c (node ∷ []) left (cut_after last node) (left_after problem.net branch node rest) in
      let Q : List Bounds → Type 0 = λ l. IsWalk problem last (node ∷ []) l (cut_after last node) (left_after problem.net branch node rest) in
      subst P (sym h.0) (subst Q (sym h.1) (is, (refl, refl)))
  walk_more cut (x ∷ nodes) [] last branch rest node h is = absurd h
  walk_more cut (x ∷ nodes) (y ∷ left) last branch rest node h is = (h.0, walk_more (cut_after cut x) nodes (left_after problem.net y x left) last branch rest node h.1 is)

  -- the cut only falls
  pub falls : (cut : Option (List ℕ)) (nodes : List Opened) (left : List Bounds) (last : Option (List ℕ)) (rest : List Bounds) → IsWalk problem cut nodes left last rest → (x : List ℕ) → IsBelow last x → IsBelow cut x
  falls cut [] left last rest h x below = let P : Option (List ℕ) → Type 0 = λ c. IsBelow c x in subst P (sym h.0) below
  falls cut (node ∷ nodes) [] last rest h x below = absurd h
  falls cut (opened.Closed leaf ∷ nodes) (branch ∷ left) last rest h x below = falls cut nodes left last rest h.1 x below
  falls cut (opened.Fits w leaf ∷ nodes) (branch ∷ left) last rest h x below =
      below_less cut (components w) x h.0.1.1.least.below (falls (Some (components w)) nodes left last rest h.1 x below)
  falls cut (opened.Split e ∷ nodes) (branch ∷ left) last rest h x below = falls cut nodes (with_down problem.net branch e ∷ with_up problem.net branch e ∷ left) last rest h.1 x below

  module _ (k : IsNetwork problem.net) (kw : AreBounds problem.net problem.bounds) where
    -- once none is left, the nodes are those of whole trees, and no run at a leaf is below the last cut
    pub walk_nodes : (cut : Option (List ℕ)) (nodes : List Opened) (left : List Bounds) (last : Option (List ℕ)) → AreBranches problem.net problem.bounds left → IsWalk problem cut nodes left last []
        → AreNodes (NoRunBelow problem.net (asks problem) (weighs problem) last) problem.net (map split_in nodes) left
    walk_nodes cut [] [] last b h = tt
    walk_nodes cut [] (branch ∷ left) last b h = let no : (branch ∷ left) ≡ [] = h.1 in cc
    walk_nodes cut (node ∷ nodes) [] last b h = absurd h
    walk_nodes cut (opened.Closed leaf ∷ nodes) (branch ∷ left) last b h = (
      λ run moving matches below. h.0.1 run moving (matches_within problem branch run matches) (falls cut nodes left last [] h.1 (weighs problem run) below),
      walk_nodes cut nodes left last b.1 h.1,
    )
    walk_nodes cut (opened.Fits w leaf ∷ nodes) (branch ∷ left) last b h = (
      λ run moving matches below. true≢false (sym (falls (Some (components w)) nodes left last [] h.1 (weighs problem run) below) ∙ h.0.1.1.least.least run moving (matches_within problem branch run matches)),
      walk_nodes (Some (components w)) nodes left last b.1 h.1,
    )
    walk_nodes cut (opened.Split e ∷ nodes) (branch ∷ left) last b h =
        let s = h.0.1 in
        let can = can_split problem.net branch s.1 e k b.0.bounds s.2.least.answers.moving s.2.fitting s.3 in (
          can,
          walk_nodes cut nodes (with_down problem.net branch e ∷ with_up problem.net branch e ∷ left) last
              (child_down problem.net problem.bounds branch e b.0 can k, (child_up problem.net problem.bounds branch e b.0 can, b.1)) h.1,
        )

    -- nothing is opened yet
    pub opening_first : (limit : ℕ) (keeps : Bool) → IsOpening problem limit (record { best = None; count = 0; keeps = keeps; nodes = []; left = problem.bounds ∷ [] })
    opening_first limit keeps =
        record { opened = []; count = refl; nodes = kept_none keeps; walk = (refl, refl); branches = (root problem.net problem.bounds kw, tt); best = tt; few = omega arith }

    -- where nodes are kept, they are those before a refusal
    pub kept_refused : (limit : ℕ) (now : Opening) (h : IsOpening problem limit now) (refused : AnswerRefused) → IsExactRefused problem limit (refused_with h.opened refused) → now.keeps ≡ true
        → IsExactRefused problem limit (refused_with now.nodes refused)
    kept_refused limit now h refused is keep =
        let all : now.nodes ≡ h.opened = h.nodes ∙ ap (λ b. kept b h.opened) keep in
        subst (λ nodes. IsExactRefused problem limit (refused_with nodes refused)) (sym all) is

    -- one branch more
    module _ (limit : ℕ) (now : Opening) (branch : Bounds) (h : IsOpening problem limit (record now { left = branch ∷ now.left })) (room : now.count < limit) where
      few_to : (node : Opened) → length (h.opened ++ node ∷ []) ≤ limit
      few_to node = omega (arith, room, h.count, length-append h.opened (node ∷ []))

      count_to : (node : Opened) → now.count + 1 ≡ length (h.opened ++ node ∷ [])
      count_to node = omega (arith, h.count, length-append h.opened (node ∷ []))

      opening_told : (told : Told) → IsNode (within problem branch) (cut_of now.best) (node_of told) → IsToldWell (within problem branch) told → IsOpening problem limit (after_told problem.net now branch told)
      opening_told (Nothing leaf) node well = record {
        opened = h.opened ++ opened.Closed leaf ∷ [];
        count = count_to (opened.Closed leaf);
        nodes = kept_more now.keeps now.nodes h.opened (opened.Closed leaf) h.nodes;
        walk = walk_more None h.opened (problem.bounds ∷ []) (cut_of now.best) branch now.left (opened.Closed leaf) h.walk node;
        branches = h.branches.1;
        best = h.best;
        few = few_to (opened.Closed leaf);
      }
      opening_told (Fitting found leaf) node well = record {
        opened = h.opened ++ opened.Fits found.weight leaf ∷ [];
        count = count_to (opened.Fits found.weight leaf);
        nodes = kept_more now.keeps now.nodes h.opened (opened.Fits found.weight leaf) h.nodes;
        walk = walk_more None h.opened (problem.bounds ∷ []) (cut_of now.best) branch now.left (opened.Fits found.weight leaf) h.walk node;
        branches = h.branches.1;
        best = (branch, h.branches.0, well);
        few = few_to (opened.Fits found.weight leaf);
      }
      opening_told (Splitting e) node can = record {
        opened = h.opened ++ opened.Split e ∷ [];
        count = count_to (opened.Split e);
        nodes = kept_more now.keeps now.nodes h.opened (opened.Split e) h.nodes;
        walk = walk_more None h.opened (problem.bounds ∷ []) (cut_of now.best) branch now.left (opened.Split e) h.walk node;
        branches = (child_down problem.net problem.bounds branch e h.branches.0 can k, (child_up problem.net problem.bounds branch e h.branches.0 can, h.branches.1));
        best = h.best;
        few = few_to (opened.Split e);
      }

      pub opening_next : (after : Opening) → IsOpenedAt problem branch now after → IsOpening problem limit after
      opening_next after o = subst (IsOpening problem limit) (sym o.after_is) (opening_told o.told o.node o.well)

      abbrev next : IsNext problem h.opened
      next = record { cut = cut_of now.best; branch = branch; left = now.left; walk = h.walk }

      -- the branch that is next can't be searched
      pub stopped_next : (refused : SearchRefused) → IsSearchRefused (within problem branch) (cut_of now.best) refused → IsExactRefused problem limit (refused_with h.opened (refusal_of refused))
      stopped_next (Overflow o) s = (omega (arith, room, h.count), (next, s))
      stopped_next (TooLong n) s = (omega (arith, room, h.count), (next, s))
      stopped_next Memory s = tt

      -- nor are the nodes others then, where they are kept
      pub stopped_kept : (after : Opening) (refused : SearchRefused) → IsSearchRefused (within problem branch) (cut_of now.best) refused → (refused ≡ Memory) ⊎ (after ≡ now) → now.keeps ≡ true
          → IsExactRefused problem limit (refused_with after.nodes (refusal_of refused))
      stopped_kept after refused s (inl is) keep = subst (λ r. IsExactRefused problem limit (refused_with after.nodes (refusal_of r))) (sym is) tt
      stopped_kept after refused s (inr is) keep =
          subst (λ (a : Opening). IsExactRefused problem limit (refused_with a.nodes (refusal_of refused))) (sym is) (kept_refused limit (record now { left = branch ∷ now.left }) h (refusal_of refused) (stopped_next refused s) keep)

  -- what held before the next branch was taken
  pub opening_of : (limit : ℕ) (old now : Opening) → old ≡ now → IsOpening problem limit old → IsOpening problem limit now
  opening_of limit old now is h = subst (IsOpening problem limit) is h

  -- one node more was opened, and whether nodes are kept is as before
  pub opened_more : (branch : Bounds) (now after : Opening) → IsOpenedAt problem branch now after → (after.count ≡ now.count + 1) × (after.keeps ≡ now.keeps)
  opened_more branch now after o = (ap (λ (s : Opening). s.count) o.after_is ∙ (go o.told).0, ap (λ (s : Opening). s.keeps) o.after_is ∙ (go o.told).1)
    where
      go : (told : Told) → ((after_told problem.net now branch told).count ≡ now.count + 1) × ((after_told problem.net now branch told).keeps ≡ now.keeps)
      go (Nothing leaf) = (refl, refl)
      go (Fitting found leaf) = (refl, refl)
      go (Splitting e) = (refl, refl)

-- a refusal whose nodes are left out
pub left_out : (problem : Problem) (limit : ℕ) (refused : ExactRefused) (opened : List Opened) (left : AnswerRefused) → refused ≡ refused_with opened left → IsExactRefused problem limit refused → IsAnswerRefused problem limit left
left_out problem limit refused opened left is h = (opened, subst (IsExactRefused problem limit) is h)

-- what the code computes tells whether a run fits
pub told_some : (net : Net) (branch : Bounds) (run : Run) (v : Verdict) (fits : Bool) (s : List LinkId) (o : Option LinkId) → IsNetwork net → AreBounds net branch → IsMovingRun net branch run
    → v ≡ verdict_of net branch run → fits ≡ is_fitting v → fits ≡ false → s ≡ needs net branch run → o ≡ find (λ e. not (has branch.down e) && not (has branch.up e)) s
    → (e : LinkId) × (o ≡ Some e) × (is_fitting (verdict_of net branch run) ≡ false) × (split_of net branch run ≡ Some e) × CanSplit net branch e
told_some net branch run v fits s o k kb moving is fits_is unfit needs_is found_is =
    let no : is_fitting (verdict_of net branch run) ≡ false = ap is_fitting (sym is) ∙ sym fits_is ∙ unfit in
    let there = unfit_splits net branch run k kb moving no in
    let same : o ≡ split_of net branch run = found_is ∙ ap (λ t. find (λ e. not (has branch.down e) && not (has branch.up e)) t) needs_is in
    (there.0, same ∙ there.1, no, there.1, there.2)

pub told_link : (net : Net) (branch : Bounds) (run : Run) (v : Verdict) (fits : Bool) (s : List LinkId) (o : Option LinkId) (e : LinkId) → IsNetwork net → AreBounds net branch → IsMovingRun net branch run
    → v ≡ verdict_of net branch run → fits ≡ is_fitting v → fits ≡ false → s ≡ needs net branch run → o ≡ find (λ d. not (has branch.down d) && not (has branch.up d)) s → o ≡ Some e
    → (is_fitting (verdict_of net branch run) ≡ false) × (split_of net branch run ≡ Some e) × CanSplit net branch e
told_link net branch run v fits s o e k kb moving is fits_is unfit needs_is found_is o_is =
    let t = told_some net branch run v fits s o k kb moving is fits_is unfit needs_is found_is in
    let both : Some t.0 ≡ Some e = sym t.1 ∙ o_is in
    let link : t.0 ≡ e = cc in
    let P : LinkId → Type 0 = λ d. (is_fitting (verdict_of net branch run) ≡ false) × (split_of net branch run ≡ Some d) × CanSplit net branch d in
    subst P link (t.2, t.3, t.4)

pub told_is_some : (net : Net) (branch : Bounds) (run : Run) (v : Verdict) (fits : Bool) (s : List LinkId) (o : Option LinkId) → IsNetwork net → AreBounds net branch → IsMovingRun net branch run
    → v ≡ verdict_of net branch run → fits ≡ is_fitting v → fits ≡ false → s ≡ needs net branch run → o ≡ find (λ d. not (has branch.down d) && not (has branch.up d)) s → IsSome o
told_is_some net branch run v fits s o k kb moving is fits_is unfit needs_is found_is =
    let t = told_some net branch run v fits s o k kb moving is fits_is unfit needs_is found_is in
    let P : Option LinkId → Type 0 = λ x. IsSome x in
    subst P (sym t.1) refl
