-- Runs that fit a branch, and the link to split by where a run doesn't.
use Rattle.std.proofs.Common.{◌≡◌, ℕ, zero, suc, ◌+◌, ◌<◌, ◌≤◌, Bool, true, false, not, if◌then◌else◌, ◌&&◌, ◌||◌, nat_eq, nat_lt, nat_le, List, [], ◌∷◌, Option, Some, None, refl, arith, ap, inl, inr, sym, ◌∙◌, subst}
use Rattle.std.proofs.Math.Path.{fun_ext}
use Rattle.std.proofs.lemmas.Bool.{eq-eqb, leb-true, le-leb, and_parts, and_from, not-true, not_from_false, or_cases, or_left, or_right, false_from_ne_true, true≢false}
use Rattle.std.proofs.lemmas.Bool.Decides.{nat_tests}
use Rattle.std.specs.List.{filter, find, list_all}
use Rattle.wi_labels.specs.Header.{is_valid_header}
use Rattle.wi_net.specs.declared.parts.LinkId.{LinkId}
use Rattle.wi_net.specs.declared.bounds.Bounds.{Bounds}
use Rattle.wi_net.specs.LinkSet.{has, is_within, outside}
use Rattle.wi_net.specs.Net.{Net, all_links, is_link, labels_known, risk_count}
use Rattle.wi_net.specs.Network.{IsNetwork}
use Rattle.wi_net.proofs.SetLemmas.{has-all_links, has_where, where_has, union_link, within_has, within_from, all_at, all_from}
use Rattle.wi_net.proofs.CountLemmas.{count_within, filter_same, bool_same}
use Rattle.wi_world.specs.declared.run.Run.{Run}
use Rattle.wi_world.specs.declared.answer.Verdict.TheVariants.{Fits, Exceeds}
use Rattle.wi_world.specs.Moves.{is_start, is_possible_run, AreBounds}
use Rattle.wi_world.specs.Moving.{IsMovingRun}
use Rattle.wi_world.specs.Runs.{is_needed, needs, used_by, judged, verdict_of}
use Rattle.wi_world.proofs.Steps.{goes}
use Rattle.wi_world.proofs.MovingLaws.{moving_possible}
use Rattle.wi_world.proofs.RunLaws.{fit_parts, find_none, none_found, alive_along, needs_union, needed_up, zero_fits}
use Rattle.wi_trees.specs.Branches.{IsBranch, branch_needs, fits_branch, CanSplit, split_of}
use Rattle.wi_trees.proofs.BranchLaws.{split_count, outside_nothing}

-- what is found first among the links that pass a test is the first that passes both
find_filter : (p q : LinkId → Bool) (xs : List LinkId) → find p (filter q xs) ≡ find (λ x. q x && p x) xs
find_filter p q [] = refl
find_filter p q (x ∷ xs) = go (q x) (p x) refl refl (find_filter p q xs)
  where
    go : (b c : Bool) → q x ≡ b → p x ≡ c → find p (filter q xs) ≡ find (λ y. q y && p y) xs
        → find p (filter q (x ∷ xs)) ≡ find (λ y. q y && p y) (x ∷ xs)
    go true true eb ec ih = rw (eb, ec) refl
    go true false eb ec ih = rw (eb, ec) ih
    go false c eb ec ih = rw eb ih

-- it is there, and passes the test
found_in : (p : LinkId → Bool) (xs : List LinkId) (x : LinkId) → find p xs ≡ Some x → (has xs x ≡ true) × (p x ≡ true)
found_in p [] x h = cc
found_in p (y ∷ xs) x h = go (p y) refl (found_in p xs x)
  where
    go : (c : Bool) → p y ≡ c → (find p xs ≡ Some x → (has xs x ≡ true) × (p x ≡ true)) → (has (y ∷ xs) x ≡ true) × (p x ≡ true)
    go true c ih =
        let e : Some y ≡ Some x = rw c at h in
        let is : y ≡ x = cc in
        let P : LinkId → Type 0 = λ z. (has (y ∷ xs) z ≡ true) × (p z ≡ true) in
        subst P is (or_left (nat_eq y.0 y.0) (has xs y) (eq-eqb y.0 y.0 refl), c)
    go false c ih = let r = ih (rw c at h) in (or_right (nat_eq y.0 x.0) (has xs x) r.0, r.1)

-- a link that a branch has neither down nor up isn't down in the whole, so both need it alike
same_free : (own wide up n : Bool) → (wide ≡ true → own ≡ true)
    → ((own || n) && (not own && not up)) ≡ ((wide || n) && (not own && not up))
same_free true true up n within = refl
same_free true false up true within = refl
same_free true false up false within = refl
same_free false true up n within = absurd (true≢false (sym (within refl)))
same_free false false up n within = refl

module _ (net : Net) (run : Run) where
  abbrev is_used : LinkId → Bool
  is_used e = is_needed net e run.end (run.first, run.header) run.steps

  abbrev needs_link : Bounds → LinkId → Bool
  needs_link b e = has b.down e || is_used e

  abbrev crosses : LinkId → Bool
  crosses e = has (used_by net run) e

  needs_down : (b : Bounds) → AreBounds net b → is_within b.down (needs net b run) ≡ true
  needs_down b kb = within_from b.down (needs net b run)
      (λ e d. has_where net (needs_link b) e (union_link net b.down e kb.down d) (or_left (has b.down e) (is_used e) d))

  -- a verdict that fits, put together
  fits_from : (b : Bounds) → risk_count net (outside (needs net b run) b.down) ≤ b.k
      → ((e : LinkId) → crosses e ≡ true → has (needs net b run) e ≡ false) → verdict_of net b run ≡ Fits (needs net b run)
  fits_from b few spared =
      let n : ℕ = risk_count net (outside (needs net b run) b.down) in
      let none = none_found (λ e. has (needs net b run) e) (used_by net run) spared in
      let room : nat_lt b.k n ≡ false = grind (arith, nat_tests) in
      ap (λ o. judged b.k n (needs net b run) o) none ∙ ap (λ c. if c then Exceeds n else Fits (needs net b run)) room

  -- and taken apart
  fits_few : (b : Bounds) (fails : List LinkId) → verdict_of net b run ≡ Fits fails
      → risk_count net (outside (needs net b run) b.down) ≤ b.k
  fits_few b fails h = leb-true (risk_count net (outside (needs net b run) b.down)) b.k (fit_parts net b run fails h).few

  fits_spare : (b : Bounds) (fails : List LinkId) → verdict_of net b run ≡ Fits fails
      → (e : LinkId) → crosses e ≡ true → has (needs net b run) e ≡ false
  fits_spare b fails h e i = find_none (λ x. has (needs net b run) x) (used_by net run) e (fit_parts net b run fails h).free i

  module _ (whole branch : Bounds) (b : IsBranch net whole branch) where
    abbrev own_needs : List LinkId
    own_needs = needs net branch run

    -- what a run needs in the branch is what it needs in the whole, and what is down in the branch
    needs_whole : (e : LinkId) → has (needs net whole run) e ≡ true → has own_needs e ≡ true
    needs_whole e h =
        let w = where_has net (needs_link whole) e h in
        has_where net (needs_link branch) e w.0 (elim (or_cases (has whole.down e) (is_used e) w.1) [
          | inl d ↦ or_left (has branch.down e) (is_used e) (within_has whole.down branch.down e b.down d)
          | inr i ↦ or_right (has branch.down e) (is_used e) i
        ])

    used_whole : (e : LinkId) → is_link net e ≡ true → is_used e ≡ true → has (needs net whole run) e ≡ true
    used_whole e known i = has_where net (needs_link whole) e known (or_right (has whole.down e) (is_used e) i)

    same_needs : branch_needs net whole branch run ≡ own_needs
    same_needs =
        filter_same (λ e. has (needs net whole run) e || has branch.down e) (needs_link branch) (all_links net)
        (λ e listed. bool_same (has (needs net whole run) e || has branch.down e) (needs_link branch e)
        (λ h. elim (or_cases (has (needs net whole run) e) (has branch.down e) h) [
          | inl n ↦ (where_has net (needs_link branch) e (needs_whole e n)).1
          | inr d ↦ or_left (has branch.down e) (is_used e) d
        ])
        (λ h. elim (or_cases (has branch.down e) (is_used e) h) [
          | inl d ↦ or_right (has (needs net whole run) e) (has branch.down e) d
          | inr i ↦ or_left (has (needs net whole run) e) (has branch.down e) (used_whole e (sym (has-all_links net e) ∙ listed) i)
        ]))

    counted : risk_count net (outside own_needs whole.down) + branch.k ≡ risk_count net (outside own_needs branch.down) + whole.k
    counted = split_count net whole branch own_needs b (needs_union net branch run b.bounds) (needs_down branch b.bounds)

    -- whether what is needed may fail at once, and spares the links that the run uses
    abbrev may_fail : List LinkId → Bool
    may_fail s = nat_le (risk_count net (outside s whole.down)) whole.k

    abbrev is_spared : List LinkId → Bool
    is_spared s = list_all (λ e. not (has s e)) (used_by net run)

    pub fits_verdict : fits_branch net whole branch run ≡ true → verdict_of net branch run ≡ Fits own_needs
    fits_verdict h =
        let here : (may_fail own_needs && is_spared own_needs) ≡ true = ap (λ s. may_fail s && is_spared s) (sym same_needs) ∙ h in
        let p = and_parts (may_fail own_needs) (is_spared own_needs) here in
        let most = leb-true (risk_count net (outside own_needs whole.down)) whole.k p.0 in
        fits_from branch (omega (arith, counted, most))
        (λ e i. not-true (has own_needs e) (all_at (λ x. not (has own_needs x)) (used_by net run) e p.1 i))

    pub verdict_fits : (fails : List LinkId) → verdict_of net branch run ≡ Fits fails → fits_branch net whole branch run ≡ true
    verdict_fits fails h =
        let few = fits_few branch fails h in
        let most = le-leb (risk_count net (outside own_needs whole.down)) whole.k (omega (arith, counted, few)) in
        let spared = all_from (λ x. not (has own_needs x)) (used_by net run)
        (λ e i. not_from_false (has own_needs e) (fits_spare branch fails h e i)) in
        ap (λ s. may_fail s && is_spared s) same_needs ∙ and_from (may_fail own_needs) (is_spared own_needs) most spared

    -- what fits the branch fits the whole
    pub verdict_whole : AreBounds net whole → (fails : List LinkId) → verdict_of net branch run ≡ Fits fails
        → verdict_of net whole run ≡ Fits (needs net whole run)
    verdict_whole kw fails h =
        let few = fits_few branch fails h in
        let less = count_within net (needs net whole run) own_needs whole.down (needs_union net whole run kw) (needs_union net branch run b.bounds)
        (λ e n no_down. needs_whole e n) in
        fits_from whole (omega (arith, counted, few, less))
        (λ e i. false_from_ne_true (has (needs net whole run) e)
        (λ n. true≢false (sym (needs_whole e n) ∙ fits_spare branch fails h e i)))

    -- the link to split by is one that the run needs within the whole
    abbrev is_free : LinkId → Bool
    is_free e = not (has branch.down e) && not (has branch.up e)

    pub split_whole : split_of net branch run ≡ find is_free (needs net whole run)
    split_whole =
        find_filter is_free (needs_link branch) (all_links net) ∙ ap (λ t. find t (all_links net)) (fun_ext alike)
        ∙ sym (find_filter is_free (needs_link whole) (all_links net))
      where
        alike : (e : LinkId) → (needs_link branch e && is_free e) ≡ (needs_link whole e && is_free e)
        alike e =
            same_free (has branch.down e) (has whole.down e) (has branch.up e) (is_used e)
            (within_has whole.down branch.down e b.down)

    -- where a moving run doesn't fit, some link that it needs is neither down nor up, and one more may fail
    module _ (k : IsNetwork net) (moving : IsMovingRun net branch run) (unfit : fits_branch net whole branch run ≡ false) where
      possible : is_possible_run net branch run ≡ true
      possible = moving_possible net branch run k b.bounds moving

      hops : goes net branch run.end (run.first, run.header) run.steps ≡ true
      hops =
          (and_parts (is_start net branch.down run.first run.header)
          (goes net branch run.end (run.first, run.header) run.steps) possible).1

      alive : has branch.down run.first ≡ false
      alive =
          let sound : Bool = is_link net run.first && not (has branch.down run.first) in
          let p = and_parts (sound && is_valid_header run.header) (labels_known net run.header) moving.start in
          let q = and_parts sound (is_valid_header run.header) p.0 in
          not-true (has branch.down run.first) (and_parts (is_link net run.first) (not (has branch.down run.first)) q.0).1

      never : (fails : List LinkId) → verdict_of net branch run ≡ Fits fails → ⊥
      never fails v = true≢false (sym (verdict_fits fails v) ∙ unfit)

      room : (n : ℕ) → branch.k ≡ n → 0 < branch.k
      room zero e = absurd (never branch.down (zero_fits net branch run k b.bounds e possible))
      room (suc n) e = omega (arith, e)

      -- were all that is needed down, the run would fit
      not_all_down : ((e : LinkId) → has own_needs e ≡ true → has branch.down e ≡ true) → ⊥
      not_all_down each =
          let none = outside_nothing net branch.down in
          let less = count_within net own_needs branch.down branch.down (needs_union net branch run b.bounds) b.bounds.down
          (λ e n no_down. each e n) in
          let spared : (e : LinkId) → crosses e ≡ true → has branch.down e ≡ false
          = λ e i. alive_along net branch run.end (run.first, run.header) run.steps e alive hops i in
          never own_needs (fits_from branch (omega (arith, none, less))
          (λ e i. false_from_ne_true (has own_needs e) (λ n. true≢false (sym (each e n) ∙ spared e i))))

      -- where none that is needed is free, all are down, since what hops need isn't up
      down_if_none : split_of net branch run ≡ None → (e : LinkId) → has own_needs e ≡ true → has branch.down e ≡ true
      down_if_none s e n = elim (or_cases (has branch.down e) (is_used e) (where_has net (needs_link branch) e n).1) [
        | inl d ↦ d
        | inr i ↦
            go (has branch.down e) refl (needed_up net branch run.end (run.first, run.header) run.steps e hops i)
            (find_none is_free own_needs e s n)
      ]
        where
          go : (d : Bool) → has branch.down e ≡ d → has branch.up e ≡ false → is_free e ≡ false → has branch.down e ≡ true
          go true d up bound = d
          go false d up bound = let free : is_free e ≡ true = rw (d, up) refl in absurd (true≢false (sym free ∙ bound))

      can_split : (e : LinkId) → split_of net branch run ≡ Some e → CanSplit net branch e
      can_split e s =
          let f = found_in is_free own_needs e s in
          let p = and_parts (not (has branch.down e)) (not (has branch.up e)) f.1 in
          record {
            known = (where_has net (needs_link branch) e f.0).0;
            down = not-true (has branch.down e) p.0;
            up = not-true (has branch.up e) p.1;
            room = room branch.k refl;
          }

      pub split_there : (e : LinkId) × (split_of net branch run ≡ Some e) × CanSplit net branch e
      split_there = go (split_of net branch run) refl
        where
          go : (o : Option LinkId) → split_of net branch run ≡ o
              → (e : LinkId) × (split_of net branch run ≡ Some e) × CanSplit net branch e
          go None s = absurd (not_all_down (down_if_none s))
          go (Some e) s = (e, s, can_split e s)
