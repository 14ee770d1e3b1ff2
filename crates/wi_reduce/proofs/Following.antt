-- Following a head, a pair, a pop or a swap keeps what a search keeps.
use Rattle.std.specs.Prelude.{◌≡◌, ℕ, ◌+◌, true, false, List, [], length, map, Option, Some, None, MatchOption}
use Rattle.std.specs.List.{Contains}
use Rattle.std.proofs.Common.{sym, ap, subst, arith}
use Rattle.std.proofs.lemmas.List.Elements.{Contains-append_left}
use Rattle.wi_pds.specs.declared.rule.Rule.{Rule}
use Rattle.wi_pds.specs.LeastClosed.{IsReached}
use Rattle.wi_reduce.specs.declared.search.Search.{Search}
use Rattle.wi_reduce.specs.private.Worklists.{seconds, IsTaken}
use Rattle.wi_reduce.specs.private.Searches.{noted_all, pair_followed, pop_followed, swap_followed}
use Rattle.wi_reduce.specs.private.Kept.{Work, Has, Done, followed, IsSearch, IsStep}
use Rattle.wi_reduce.proofs.Keys.{IsMore, more_self, more_added_all, has_added_all, only_added_all, taken_kept, taken_was, was_found, taken_length, has_second, from_second, has_mapped, from_mapped}
use Rattle.wi_reduce.proofs.Steps.{AreMore, more_noted_all, AreKept, are_noted, within_noted_all, moves_more, moves_taken, joins_step, Follows, heads_step}

abbrev Never : ℕ × ℕ → Type 0
Never k = ⊥

-- what a call that may take a key ensures, once its answer is known
pub at_some : {X : Type 0} (A : Type 0) (B : X → Type 0) {o : Option X} {x : X} → MatchOption o A B → o ≡ Some x → B x
at_some A B h is = subst (λ y. MatchOption y A B) is h

pub at_none : {X : Type 0} (A : Type 0) (B : X → Type 0) {o : Option X} → MatchOption o A B → o ≡ None → A
at_none A B h is = subst (λ y. MatchOption y A B) is h

-- a key that is taken was found
pub taken_found : (old mid : Work) (k : ℕ × ℕ) → IsTaken old mid k → Has mid k
taken_found old mid k taken = taken_kept old mid k taken k (was_found old mid k taken)

-- what was followed was found
pub left : (w : Work) (k : ℕ × ℕ) → Done w k → Has w k
left w k h = Contains-append_left w.0 w.1 k h

-- what has as many keys that were followed
same_count : (old new : Work) → new.0 ≡ old.0 → length new.0 ≡ length old.0
same_count old new e = ap length e

module _ {W : Type 0} (rules : ℕ → ℕ → List (Rule W)) (start : ℕ × ℕ) where
  -- a head that is taken is reached
  pub taken_reached : (s : Search) (w : Work) (k : ℕ × ℕ) → IsSearch rules start s → IsTaken s.heads w k → IsReached rules start k.0 k.1
  taken_reached s w k i taken hs ps closed = (i.within hs ps closed).heads k (was_found s.heads w k taken)

  module _ (s : Search) (k : ℕ × ℕ) (w : Work) (i : IsSearch rules start s) where
    -- a head: its rules are noted
    pub head_step : (t : Search) → IsTaken s.heads w k → t ≡ noted_all (record { heads = w; pairs = s.pairs; pops = s.pops; swaps = s.swaps }) k.1 (rules k.0 k.1) → IsStep rules start s t true
    head_step t taken is = subst (λ y. IsStep rules start s y true) (sym is) (whole, total)
      where
        mid : Search
        mid = record { heads = w; pairs = s.pairs; pops = s.pops; swaps = s.swaps }

        new : Search
        new = noted_all (record { heads = w; pairs = s.pairs; pops = s.pops; swaps = s.swaps }) k.1 (rules k.0 k.1)

        more : AreMore mid new
        more = more_noted_all mid k.1 (rules k.0 k.1)

        heads_kept : (q : ℕ × ℕ) → Has s.heads q → Has new.heads q
        heads_kept q h = more.heads.kept q (taken_kept s.heads w k taken q h)

        kept : AreKept s new
        kept = record { heads = heads_kept; pairs = more.pairs.kept; pops = more.pops.kept; swaps = more.swaps.kept }

        whole : IsSearch rules start new
        whole = record {
          begins = heads_kept start i.begins;
          heads = heads_step rules (λ q. k ≡ q) s new i.heads (moves_taken s.heads w new.heads k taken more.heads) kept
              (λ q e. subst (λ y. Follows rules new y) e (are_noted mid k.1 (rules k.0 k.1)));
          pops = joins_step Never Never s.pops s.pairs s.heads new.pops new.pairs new.heads i.pops (moves_more _ more.pops) (moves_more _ more.pairs) heads_kept (λ q n. absurd n) (λ q n. absurd n);
          swaps = joins_step Never Never s.swaps s.pairs s.pairs new.swaps new.pairs new.pairs i.swaps (moves_more _ more.swaps) (moves_more _ more.pairs) more.pairs.kept (λ q n. absurd n) (λ q n. absurd n);
          within = λ hs ps closed.
              let old = i.within hs ps closed in
              within_noted_all hs ps mid k.1 (rules k.0 k.1) (λ r at. closed.each k.0 k.1 r (old.heads k (was_found s.heads w k taken)) at)
              (record { heads = λ q h. old.heads q (taken_was s.heads w k taken q h); pairs = old.pairs; pops = old.pops; swaps = old.swaps });
        }

        total : followed new ≡ followed s + 1
        total = omega (arith, same_count mid.heads new.heads more.heads.done, same_count mid.pairs new.pairs more.pairs.done, same_count mid.pops new.pops more.pops.done, same_count mid.swaps new.swaps more.swaps.done, taken_length s.heads w k taken)

    -- a pair: what stands on it, after a pop of its upper symbol or with another in its place
    pub pair_step : (h : Work) (t : Search) → h ≡ s.heads → IsTaken s.pairs w k
        → t ≡ pair_followed (record { heads = h; pairs = w; pops = s.pops; swaps = s.swaps }) k.0 k.1 → IsStep rules start s t true
    pair_step h t same taken is =
        subst (λ y. IsStep rules start s y true) (sym (subst (λ y. t ≡ pair_followed (record { heads = y; pairs = w; pops = s.pops; swaps = s.swaps }) k.0 k.1) same is)) (whole, total)
      where
        states : List (ℕ × ℕ)
        states = map (λ to. (to, k.1)) (seconds k.0 s.pops.0)

        uppers : List (ℕ × ℕ)
        uppers = map (λ v. (v, k.1)) (seconds k.0 s.swaps.0)

        new : Search
        new = pair_followed (record { heads = s.heads; pairs = w; pops = s.pops; swaps = s.swaps }) k.0 k.1

        heads : IsMore s.heads new.heads
        heads = more_added_all s.heads states

        pairs : IsMore w new.pairs
        pairs = more_added_all w uppers

        pairs_kept : (q : ℕ × ℕ) → Has s.pairs q → Has new.pairs q
        pairs_kept q h = pairs.kept q (taken_kept s.pairs w k taken q h)

        kept : AreKept s new
        kept = record { heads = heads.kept; pairs = pairs_kept; pops = λ q h. h; swaps = λ q h. h }

        popped : (to : ℕ) → Done s.pops (k.0, to) → Has new.heads (to, k.1)
        popped to h = has_added_all s.heads states (to, k.1) (has_mapped (λ x. (x, k.1)) (seconds k.0 s.pops.0) to (has_second k.0 to s.pops.0 h))

        swapped : (v : ℕ) → Done s.swaps (k.0, v) → Has new.pairs (v, k.1)
        swapped v h = has_added_all w uppers (v, k.1) (has_mapped (λ x. (x, k.1)) (seconds k.0 s.swaps.0) v (has_second k.0 v s.swaps.0 h))

        whole : IsSearch rules start new
        whole = record {
          begins = heads.kept start i.begins;
          heads = heads_step rules Never s new i.heads (moves_more _ heads) kept (λ q n. absurd n);
          pops = joins_step Never (λ q. k ≡ q) s.pops s.pairs s.heads s.pops new.pairs new.heads i.pops (moves_more _ (more_self s.pops)) (moves_taken s.pairs w new.pairs k taken pairs) heads.kept
              (λ q n. absurd n) (λ q e. subst (λ y. (to : ℕ) → Done s.pops (y.0, to) → Has new.heads (to, y.1)) e popped);
          swaps = joins_step Never (λ q. k ≡ q) s.swaps s.pairs s.pairs s.swaps new.pairs new.pairs i.swaps (moves_more _ (more_self s.swaps)) (moves_taken s.pairs w new.pairs k taken pairs) pairs_kept
              (λ q n. absurd n) (λ q e. subst (λ y. (v : ℕ) → Done s.swaps (y.0, v) → Has new.pairs (v, y.1)) e swapped);
          within = λ hs ps closed.
              let old = i.within hs ps closed in
              let pair : Contains ps k = old.pairs k (was_found s.pairs w k taken) in
              record {
                heads = only_added_all (Contains hs) s.heads states old.heads
                    (from_mapped (Contains hs) (λ to. (to, k.1)) (seconds k.0 s.pops.0) (λ to at. old.pops (k.0, to) (left s.pops (k.0, to) (from_second k.0 to s.pops.0 at)) k.1 pair));
                pairs = only_added_all (Contains ps) w uppers (λ q h. old.pairs q (taken_was s.pairs w k taken q h))
                    (from_mapped (Contains ps) (λ v. (v, k.1)) (seconds k.0 s.swaps.0) (λ v at. old.swaps (k.0, v) (left s.swaps (k.0, v) (from_second k.0 v s.swaps.0 at)) k.1 pair));
                pops = old.pops;
                swaps = old.swaps;
              };
        }

        total : followed new ≡ followed s + 1
        total = omega (arith, same_count s.heads new.heads heads.done, same_count w new.pairs pairs.done, taken_length s.pairs w k taken)

    -- a pop: its state with what stands below its symbol
    pub pop_step : (h p : Work) (t : Search) → h ≡ s.heads → p ≡ s.pairs → IsTaken s.pops w k
        → t ≡ pop_followed (record { heads = h; pairs = p; pops = w; swaps = s.swaps }) k.0 k.1 → IsStep rules start s t true
    pop_step h p t same_heads same_pairs taken is = subst (λ y. IsStep rules start s y true) (sym at) (whole, total)
      where
        at : t ≡ pop_followed (record { heads = s.heads; pairs = s.pairs; pops = w; swaps = s.swaps }) k.0 k.1
        at = subst (λ y. t ≡ pop_followed (record { heads = y; pairs = s.pairs; pops = w; swaps = s.swaps }) k.0 k.1) same_heads
            (subst (λ y. t ≡ pop_followed (record { heads = h; pairs = y; pops = w; swaps = s.swaps }) k.0 k.1) same_pairs is)

        lowers : List (ℕ × ℕ)
        lowers = map (λ x. (k.1, x)) (seconds k.0 s.pairs.0)

        new : Search
        new = pop_followed (record { heads = s.heads; pairs = s.pairs; pops = w; swaps = s.swaps }) k.0 k.1

        heads : IsMore s.heads new.heads
        heads = more_added_all s.heads lowers

        kept : AreKept s new
        kept = record { heads = heads.kept; pairs = λ q h. h; pops = taken_kept s.pops w k taken; swaps = λ q h. h }

        popped : (x : ℕ) → Done s.pairs (k.0, x) → Has new.heads (k.1, x)
        popped x h = has_added_all s.heads lowers (k.1, x) (has_mapped (λ y. (k.1, y)) (seconds k.0 s.pairs.0) x (has_second k.0 x s.pairs.0 h))

        whole : IsSearch rules start new
        whole = record {
          begins = heads.kept start i.begins;
          heads = heads_step rules Never s new i.heads (moves_more _ heads) kept (λ q n. absurd n);
          pops = joins_step (λ q. k ≡ q) Never s.pops s.pairs s.heads w s.pairs new.heads i.pops (moves_taken s.pops w w k taken (more_self w)) (moves_more _ (more_self s.pairs)) heads.kept
              (λ q e. subst (λ y. (x : ℕ) → Done s.pairs (y.0, x) → Has new.heads (y.1, x)) e popped) (λ q n. absurd n);
          swaps = i.swaps;
          within = λ hs ps closed.
              let old = i.within hs ps closed in
              let pop = old.pops k (was_found s.pops w k taken) in
              record {
                heads = only_added_all (Contains hs) s.heads lowers old.heads
                    (from_mapped (Contains hs) (λ x. (k.1, x)) (seconds k.0 s.pairs.0) (λ x at. pop x (old.pairs (k.0, x) (left s.pairs (k.0, x) (from_second k.0 x s.pairs.0 at)))));
                pairs = old.pairs;
                pops = λ q h. old.pops q (taken_was s.pops w k taken q h);
                swaps = old.swaps;
              };
        }

        total : followed new ≡ followed s + 1
        total = omega (arith, same_count s.heads new.heads heads.done, taken_length s.pops w k taken)

    -- a swap: its new symbol over what stands below its old one
    pub swap_step : (h p o : Work) (t : Search) → h ≡ s.heads → p ≡ s.pairs → o ≡ s.pops → IsTaken s.swaps w k
        → t ≡ swap_followed (record { heads = h; pairs = p; pops = o; swaps = w }) k.0 k.1 → IsStep rules start s t true
    swap_step h p o t same_heads same_pairs same_pops taken is = subst (λ y. IsStep rules start s y true) (sym at) (whole, total)
      where
        at : t ≡ swap_followed (record { heads = s.heads; pairs = s.pairs; pops = s.pops; swaps = w }) k.0 k.1
        at = subst (λ y. t ≡ swap_followed (record { heads = y; pairs = s.pairs; pops = s.pops; swaps = w }) k.0 k.1) same_heads
            (subst (λ y. t ≡ swap_followed (record { heads = h; pairs = y; pops = s.pops; swaps = w }) k.0 k.1) same_pairs
            (subst (λ y. t ≡ swap_followed (record { heads = h; pairs = p; pops = y; swaps = w }) k.0 k.1) same_pops is))

        lowers : List (ℕ × ℕ)
        lowers = map (λ x. (k.1, x)) (seconds k.0 s.pairs.0)

        new : Search
        new = swap_followed (record { heads = s.heads; pairs = s.pairs; pops = s.pops; swaps = w }) k.0 k.1

        pairs : IsMore s.pairs new.pairs
        pairs = more_added_all s.pairs lowers

        kept : AreKept s new
        kept = record { heads = λ q h. h; pairs = pairs.kept; pops = λ q h. h; swaps = taken_kept s.swaps w k taken }

        swapped : (x : ℕ) → Done new.pairs (k.0, x) → Has new.pairs (k.1, x)
        swapped x h = has_added_all s.pairs lowers (k.1, x)
            (has_mapped (λ y. (k.1, y)) (seconds k.0 s.pairs.0) x (has_second k.0 x s.pairs.0 (subst (λ l. Contains l (k.0, x)) pairs.done h)))

        whole : IsSearch rules start new
        whole = record {
          begins = i.begins;
          heads = heads_step rules Never s new i.heads (moves_more _ (more_self s.heads)) kept (λ q n. absurd n);
          pops = joins_step Never Never s.pops s.pairs s.heads s.pops new.pairs s.heads i.pops (moves_more _ (more_self s.pops)) (moves_more _ pairs) (λ q h. h) (λ q n. absurd n) (λ q n. absurd n);
          swaps = joins_step (λ q. k ≡ q) Never s.swaps s.pairs s.pairs w new.pairs new.pairs i.swaps (moves_taken s.swaps w w k taken (more_self w)) (moves_more _ pairs) pairs.kept
              (λ q e. subst (λ y. (x : ℕ) → Done new.pairs (y.0, x) → Has new.pairs (y.1, x)) e swapped) (λ q n. absurd n);
          within = λ hs ps closed.
              let old = i.within hs ps closed in
              let swap = old.swaps k (was_found s.swaps w k taken) in
              record {
                heads = old.heads;
                pairs = only_added_all (Contains ps) s.pairs lowers old.pairs
                    (from_mapped (Contains ps) (λ x. (k.1, x)) (seconds k.0 s.pairs.0) (λ x at. swap x (old.pairs (k.0, x) (left s.pairs (k.0, x) (from_second k.0 x s.pairs.0 at)))));
                pops = old.pops;
                swaps = λ q h. old.swaps q (taken_was s.swaps w k taken q h);
              };
        }

        total : followed new ≡ followed s + 1
        total = omega (arith, same_count s.pairs new.pairs pairs.done, taken_length s.swaps w k taken)

  -- where nothing is taken the search is as it was
  pub all_followed : (s : Search) {h p o w : Work} → IsSearch rules start s → (h ≡ s.heads) × (s.heads.1 ≡ []) → (p ≡ s.pairs) × (s.pairs.1 ≡ [])
      → (o ≡ s.pops) × (s.pops.1 ≡ []) → (w ≡ s.swaps) × (s.swaps.1 ≡ []) → IsStep rules start s (record { heads = h; pairs = p; pops = o; swaps = w }) false
  all_followed s {h} {p} {o} {w} i a b c d =
      subst (λ y. IsStep rules start s (record { heads = y; pairs = p; pops = o; swaps = w }) false) (sym a.0)
      (subst (λ y. IsStep rules start s (record { heads = s.heads; pairs = y; pops = o; swaps = w }) false) (sym b.0)
      (subst (λ y. IsStep rules start s (record { heads = s.heads; pairs = s.pairs; pops = y; swaps = w }) false) (sym c.0)
      (subst (λ y. IsStep rules start s (record { heads = s.heads; pairs = s.pairs; pops = s.pops; swaps = y }) false) (sym d.0)
      (i, a.1, b.1, c.1, d.1))))
