-- A search, when a candidate is taken out and when a row comes in.
use Rattle.std.specs.Prelude.{◌≡◌, ℕ, ◌+◌, ◌<◌, ◌≤◌, ◌⊎◌, List, [], ◌∷◌, ◌++◌, Option, Some, None, length, slice_get, get_or, true, false, refl, IsPermutation, IsTrue, ◌↔◌}
use Rattle.std.specs.List.{Contains, All}
use Rattle.std.proofs.Common.{sym, ap, ◌∙◌, subst, inl, inr, arith, length-append}
use Rattle.std.proofs.lemmas.List.Sorted.{Contains-permutation, IsPermutation-sym}
use Rattle.std.proofs.lemmas.List.Elements.{All-contains}
use Rattle.std.proofs.lemmas.Option.{slice_get_within, slice_get-get_or}
use Rattle.wi_weight.specs.Weights.{Scale, WeightLaws, IsWeight, AtMost, plus}
use Rattle.wi_pds.specs.declared.rule.Word2.{Word2}
use Rattle.wi_pds.specs.declared.rule.Word2.TheVariants.{Empty, One, Two}
use Rattle.wi_pds.specs.declared.rule.Rule.{Rule}
use Rattle.std.specs.List.Sorted.{IsStrictlySortedBy}
use Rattle.wi_pds.specs.Pairs.{pair_cmp}
use Rattle.wi_pds.specs.Runs.{symbols}
use Rattle.wi_pds.specs.Closed.{Chain}
use Rattle.wi_saturate.specs.declared.row.Row.{Row}
use Rattle.wi_saturate.specs.declared.heap.Candidate.{Candidate}
use Rattle.wi_saturate.specs.declared.rules.Ruled.{Ruled}
use Rattle.wi_saturate.specs.declared.index.Index.{Index}
use Rattle.wi_saturate.specs.declared.waits.Wait.{Wait}
use Rattle.wi_saturate.specs.declared.waits.Waits.{Waits}
use Rattle.wi_saturate.specs.declared.search.Search.{Search}
use Rattle.wi_saturate.specs.private.Chains.{ChainsView}
use Rattle.wi_saturate.specs.Rows.{summaries, Settled}
use Rattle.wi_saturate.specs.private.Candidates.{BestAtMost, IsBeaten, IsOpen, IsCandidate, IsSeen}
use Rattle.wi_saturate.specs.private.Indexes.{IsIndex}
use Rattle.wi_saturate.specs.declared.frontier.Frontier.{Frontier}
use Rattle.wi_saturate.specs.private.Lightest.{Noted, weight_at, Covers, Lightens}
use Rattle.wi_saturate.specs.private.Frontiers.{Offers}
use Rattle.wi_saturate.proofs.Lowering.{covers_lighter}
use Rattle.wi_saturate.specs.private.Searches.{ArePair, IsSum, IsHeld, Adds, HasOne, HasTwo, HasPops, IsCovered, AreHeld, AreRowPlaces, AreWaits, AreHalves, HasWait, EndsThere, IsRowOf, Begins, IsSearch}
use Rattle.std.specs.List.{sum_by}
use Rattle.std.proofs.lemmas.List.Sums.{sum_by-append}
use Rattle.wi_saturate.specs.private.Tries.{of_head, all_begun, begun, IsMore}
use Rattle.wi_saturate.proofs.Counts.{sum_same, sum_both, begun_more}
use Rattle.wi_saturate.proofs.Elements.{same_some, same_item, get_push, get_front, get_before, get_last, before_or_not, contains_from_get, some_there, false_when}
use Rattle.wi_saturate.proofs.Lookups.{ruled_named, ruled_all, once}
use Rattle.wi_weight.specs.lemmas.Order.{at_most_trans, plus_at_most_right}
use Rattle.wi_saturate.proofs.Pushes.{here_or_there, contains_there, adds_one, adds_both, covers_kept, held_kept, two_weighs}
use Rattle.wi_saturate.proofs.RuleRows.{seen_empty, seen_one, seen_two, made_at}

-- what is settled stays so with one row more, which is settled too
pub settled_before : {W : Type 0} (rows : List (Row W)) (b : Row W) (p g q : ℕ) → Settled rows p g q → Settled (rows ++ b ∷ []) p g q
settled_before rows b p g q s = (s.0, s.1, get_before rows b s.0 s.1 s.2, s.3)

pub settled_last : {W : Type 0} (rows : List (Row W)) (b : Row W) → Settled (rows ++ b ∷ []) b.p b.g b.q
settled_last rows b = (length rows, b, get_last rows b, (refl, refl, refl))

pub taken_there : {X : Type 0} (old new : List X) (t : X) → IsPermutation old (t ∷ new) → Contains old t
taken_there old new t taken = Contains-permutation (t ∷ new) old t (IsPermutation-sym old (t ∷ new) taken) (contains_from_get (t ∷ new) 0 t refl)

-- a candidate is taken off the heap, and what it makes is settled
module _ {W : Type 0} (m : Scale) (c : W → List ℕ) (heads : List (ℕ × ℕ)) (flat : List (Ruled W)) (rows settled settled' : List (Row W)) (more : (p g q : ℕ) → Settled settled p g q → Settled settled' p g q)
    (t : Candidate W) (old new : Frontier W) (taken : IsPermutation old.heap (t ∷ new.heap)) (same : new.offered ≡ old.offered) (b : Row W) (done : Settled settled' b.p b.g b.q) (of : IsRowOf m c heads flat rows t b) where
  before : (x : Candidate W) → Contains new.heap x → Contains old.heap x
  before x at = Contains-permutation (t ∷ new.heap) old.heap x (IsPermutation-sym old.heap (t ∷ new.heap) taken) (contains_there new.heap t x at)

  covers_still : (head q : ℕ) (w : List ℕ) → Covers m c old.offered head q w → Covers m c new.offered head q w
  covers_still head q w h = subst (λ z. Covers m c z head q w) (sym same) h

  covered_still : (head to : ℕ) (x : List ℕ) (word : Word2) → IsCovered m c rows old head to x word → IsCovered m c rows new head to x word
  covered_still head to x Empty h = covers_still head to x h
  covered_still head to x (One u) h = λ i r at from symbol. covers_still head r.q _ (h i r at from symbol)
  covered_still head to x (Two u v) h = λ i j r s at at' pair. covers_still head s.q _ (h i j r s at at' pair)

  -- what the candidate makes is settled
  taken_settled : (head p g q : ℕ) (x : W) → slice_get heads head ≡ Some (p, g) → (is : IsHeld flat old.heap head q x) → t ≡ is.0 → Settled settled' p g q
  taken_settled head p g q x at is e =
      let by = of.by is.1 (subst (λ (z : Candidate W). slice_get flat z.rule ≡ Some is.1) (sym e) is.3) in
      let pair : (b.p, b.g) ≡ (p, g) = same_some (sym by.0 ∙ ap (λ n. slice_get heads n) is.4 ∙ at) in
      let end : b.q ≡ q = of.end ∙ ap (λ (z : Candidate W). z.q) e ∙ is.5 in
      subst (λ z. Settled settled' z g q) (ap (λ z. z.0) pair) (subst (λ z. Settled settled' b.p z q) (ap (λ z. z.1) pair) (subst (λ z. Settled settled' b.p b.g z) end done))

  held_still : AreHeld heads flat settled old → AreHeld heads flat settled' new
  held_still held head p g q x at here = elim (held head p g q x (subst (λ z. weight_at z head q ≡ Some x) same at) here) [
    | inl s ↦ inl (more p g q s)
    | inr is ↦ elim (here_or_there new.heap t is.0 (Contains-permutation old.heap (t ∷ new.heap) is.0 taken is.2)) [
      | inl e ↦ inl (taken_settled head p g q x here is e)
      | inr there ↦ inr (is.0, is.1, there, is.3, is.4, is.5, is.6)
    ]
  ]

  pub taken_out : (search search' : Search W) → search.frontier ≡ old → search'.frontier ≡ new → search'.rows ≡ search.rows → search'.waits ≡ search.waits → search'.halves ≡ search.halves
      → IsSearch m c heads flat rows settled search → IsSearch m c heads flat rows settled' search'
  taken_out search search' e e' r ws hs h = record {
    sound = λ x at. h.sound x (subst (λ (z : Frontier W). Contains z.heap x) (sym e) (before x (subst (λ (z : Frontier W). Contains z.heap x) e' at)));
    covered = λ k f at.
        subst (λ z. IsCovered m c rows z f.head f.rule.to (c f.rule.weight) f.rule.word) (sym e')
        (covered_still f.head f.rule.to (c f.rule.weight) f.rule.word (subst (λ z. IsCovered m c rows z f.head f.rule.to (c f.rule.weight) f.rule.word) e (h.covered k f at)));
    held = subst (λ z. AreHeld heads flat settled' z) (sym e') (held_still (subst (λ z. AreHeld heads flat settled z) e h.held));
    places = subst (λ z. AreRowPlaces heads rows z) (sym r) h.places;
    waits = subst (λ z. AreWaits heads flat rows z) (sym ws) h.waits;
    halves = subst (λ z. AreHalves c flat rows search'.waits z) (sym hs) (subst (λ z. AreHalves c flat rows z search.halves) (sym ws) h.halves);
    waiting = subst (λ z. (k i : ℕ) → HasWait m c heads flat rows z k i) (sym hs) h.waiting;
    counted = λ F. subst (λ (z : Waits). sum_by (of_head F heads) z.places.places ≤ sum_by (λ f. all_begun F rows f.rule.to f.rule.word) flat) (sym ws) (h.counted F);
  }

module _ {W : Type 0} (m : Scale) (c : W → List ℕ) (laws : WeightLaws m) (admitted : (w : W) → IsWeight m (c w)) (rules : ℕ → ℕ → List (Rule W)) (index : Index W) (indexed : IsIndex c rules index) (rows : List (Row W)) where
  abbrev all_heads : List (ℕ × ℕ)
  all_heads = index.rules.heads

  -- the place of a rule's head
  pub head_within : (k : ℕ) (f : Ruled W) → slice_get index.rules.items k ≡ Some f → f.head < length all_heads
  head_within k f at =
      let is = ruled_named rules all_heads k f (subst (λ z. slice_get z k ≡ Some f) indexed.listed at) in
      slice_get_within all_heads f.head is.0 is.1

  best_most : (best : Option (Row W)) (v : W) (w : List ℕ) → IsWeight m w → AtMost m (c v) w → BestAtMost m c best (c v) → BestAtMost m c best w
  best_most None v w weight more h = h
  best_most (Some b) v w weight more h = at_most_trans laws (c b.weight) (c v) w (admitted b.weight) (admitted v) weight h more

  -- what the rules make is beaten by what none of the candidates is lighter than
  module _ (search : Search W) (is : IsSearch m c all_heads index.rules.items rows rows search) (best : Option (Row W))
      (lightest : (x : Candidate W) → Contains search.frontier.heap x → BestAtMost m c best (c x.weight)) where
    beaten : (head p g q : ℕ) (w : List ℕ) → slice_get all_heads head ≡ Some (p, g) → IsWeight m w → Covers m c search.frontier.offered head q w → IsBeaten m c rows best p g q w
    beaten head p g q w at weight h = elim (is.held head p g q h.0 h.1 at) [
      | inl s ↦ inl s
      | inr held ↦ inr (best_most best h.0 w weight h.2 (subst (λ (z : W). BestAtMost m c best (c z)) held.6 (lightest held.0 held.2)))
    ]

    seen_word : (head p g : ℕ) (rule : Rule W) (word : Word2) → slice_get all_heads head ≡ Some (p, g) → IsCovered m c rows search.frontier head rule.to (c rule.weight) word
        → (q : ℕ) (w : List ℕ) → Chain m (summaries c rows) rule.to (symbols word) q w → IsBeaten m c rows best p g q (plus (c rule.weight) w)
    seen_word head p g rule Empty at h = seen_empty m c laws admitted rows p g 0 rule best (beaten head p g rule.to (c rule.weight) at (admitted rule.weight) h)
    seen_word head p g rule (One u) at h =
        seen_one m c laws admitted rows p g 0 rule best u (λ i r there from symbol. beaten head p g r.q _ at (laws.sum (c rule.weight) (c r.weight) (admitted rule.weight) (admitted r.weight)) (h i r there from symbol))
    seen_word head p g rule (Two u v) at h =
        seen_two m c laws admitted rows p g 0 rule best u v
        (λ i j r s there from symbol there' next symbol'. beaten head p g s.q _ at
        (laws.sum (plus (c rule.weight) (c r.weight)) (c s.weight) (laws.sum (c rule.weight) (c r.weight) (admitted rule.weight) (admitted r.weight)) (admitted s.weight)) (h i j r s there there' (from, symbol, next, symbol')))

    pub all_seen : IsSeen m c rules all_heads rows best
    all_seen p g rule head at q w chain =
        let named = ruled_all rules all_heads p g rule head at in
        let there : slice_get index.rules.items named.0 ≡ Some named.1 = subst (λ z. slice_get z named.0 ≡ Some named.1) (sym indexed.listed) named.2 in
        seen_word named.1.head p g rule rule.word named.3
        (subst (λ (z : Rule W). IsCovered m c rows search.frontier named.1.head z.to (c z.weight) z.word) named.4 (is.covered named.0 named.1 there)) q w chain

  -- nothing is left
  pub none_seen : (search : Search W) → search.frontier.heap ≡ [] → IsSearch m c all_heads index.rules.items rows rows search → IsSeen m c rules all_heads rows None
  none_seen search e h = all_seen search h None (λ x at. let none : Contains [] x = subst (λ z. Contains z x) e at in let within : none.0 < 0 = none.1 in absurd (omega arith))

  module _ (t : Candidate W) (b : Row W) (of : IsRowOf m c all_heads index.rules.items rows t b) where
    -- the lightest is taken out
    pub lightest_seen : (search : Search W) → All (λ (x : Candidate W). AtMost m (c t.weight) (c x.weight)) search.frontier.heap → IsSearch m c all_heads index.rules.items rows rows search → IsSeen m c rules all_heads rows (Some b)
    lightest_seen search least h =
        all_seen search h (Some b) (λ x at. subst (λ (z : W). AtMost m (c z) (c x.weight)) (sym of.weight) (All-contains (λ (x : Candidate W). AtMost m (c t.weight) (c x.weight)) search.frontier.heap x least at))

    pub open_candidate : (f : Ruled W) → slice_get index.rules.items t.rule ≡ Some f → IsOpen rows b → IsCandidate m c rules all_heads rows b
    open_candidate f at unsettled =
        let by = of.by f at in
        let is = ruled_named rules all_heads t.rule f (subst (λ z. slice_get z t.rule ≡ Some f) indexed.listed at) in
        let pair : is.0 ≡ (b.p, b.g) = same_item all_heads f.head is.0 (b.p, b.g) is.1 by.0 in
        let made = made_at m c rules rows b.p b.g f.at f.rule b (subst (λ (z : ℕ × ℕ). slice_get (rules z.0 z.1) f.at ≡ Some f.rule) pair is.2) by.1 in
        (contains_from_get all_heads f.head (b.p, b.g) by.0, made.2, unsettled)

-- whether a row at a place ends in a state, by a walk along the rows at the place
module _ {W : Type 0} (rows : List (Row W)) (places : List ℕ) (same : length places ≡ length rows) (place q : ℕ) where
  row_at : (i : ℕ) (d : Row W) → slice_get places i ≡ Some place → slice_get rows i ≡ Some (get_or rows i d)
  row_at i d at = slice_get-get_or rows i d (let within = slice_get_within places i place at in omega (arith, within))

  pub settled_here : (i : ℕ) (d : Row W) → slice_get places i ≡ Some place → (get_or rows i d).q ≡ q → IsTrue true ↔ EndsThere rows places place q
  settled_here i d at to = (λ _. (i, get_or rows i d, row_at i d at, at, to), λ _. refl)

  pub other_row : (i : ℕ) (d : Row W) → slice_get places i ≡ Some place → ((get_or rows i d).q ≡ q → ⊥) → (r : Row W) → slice_get rows i ≡ Some r → r.q ≡ q → ⊥
  other_row i d at other r there to = other (ap (λ (z : Row W). z.q) (same_item rows i (get_or rows i d) r (row_at i d at) there) ∙ to)

  pub unsettled : ((i : ℕ) → slice_get places i ≡ Some place → (r : Row W) → slice_get rows i ≡ Some r → r.q ≡ q → ⊥) → IsTrue false ↔ EndsThere rows places place q
  unsettled none = false_when (λ s. none s.0 s.3 s.1 s.2 s.4)

-- a row at the place of a head is for the head
module _ {W : Type 0} (heads : List (ℕ × ℕ)) (rise : IsStrictlySortedBy pair_cmp heads) (rows : List (Row W)) (places : ChainsView) (stand : AreRowPlaces heads rows places) (place p g q : ℕ)
    (head : slice_get heads place ≡ Some (p, g)) where
  pub settled_there : EndsThere rows places.places place q → Settled rows p g q
  settled_there ends =
      let same : (ends.1.p, ends.1.g) ≡ (p, g) = same_some (sym (stand.each ends.0 place ends.1 ends.2 ends.3) ∙ head) in
      (ends.0, ends.1, ends.2, (ap (λ z. z.0) same, ap (λ z. z.1) same, ends.4))

  pub ends_there : Settled rows p g q → EndsThere rows places.places place q
  ends_there s =
      let within : s.0 < length rows = slice_get_within rows s.0 s.1 s.2 in
      let at = some_there places.places s.0 (omega (arith, stand.count)) in
      let there : slice_get heads at.0 ≡ Some (p, g) = stand.each s.0 at.0 s.1 s.2 at.1 ∙ ap (λ x. Some (x, s.1.g)) s.3.0 ∙ ap (λ x. Some (p, x)) s.3.1 in
      (s.0, s.1, s.2, subst (λ n. slice_get places.places s.0 ≡ Some n) (once heads rise at.0 place p g there head) at.1, s.3.2)

-- the candidates of rules that take their symbol off
module _ {W : Type 0} (m : Scale) (c : W → List ℕ) (laws : WeightLaws m) (admitted : (w : W) → IsWeight m (c w)) (flat : List (Ruled W)) (k : ℕ) (f : Ruled W) (at : slice_get flat k ≡ Some f) where
  pub pop_pushed : (old new : Frontier W) → f.rule.word ≡ Empty → Offers m c f.head (record { weight = f.rule.weight; q = f.rule.to; rule = k; left = 0; right = 0 }) old new → Adds m c flat [] old new × HasPops m c flat new k
  pop_pushed old new word offered = (
    adds_one m c laws admitted flat [] old new (record { weight = f.rule.weight; q = f.rule.to; rule = k; left = 0; right = 0 }) f at
        (subst (λ z. IsSum c [] f.rule.to (c f.rule.weight) z 0 0 f.rule.to (c f.rule.weight)) (sym word) (refl, refl)) offered,
    λ g there _. subst (λ (z : Ruled W). Covers m c new.offered z.head z.rule.to (c z.rule.weight)) (same_item flat k f g at there) offered.covers,
  )

  pub no_pop : (frontier : Frontier W) → (f.rule.word ≡ Empty → ⊥) → HasPops m c flat frontier k
  no_pop frontier none g there word = absurd (none (ap (λ (z : Ruled W). z.rule.word) (same_item flat k f g at there) ∙ word))

pub pops_kept : {W : Type 0} (m : Scale) (c : W → List ℕ) (laws : WeightLaws m) (admitted : (w : W) → IsWeight m (c w)) (flat : List (Ruled W)) (k : ℕ) (old new : Frontier W) → Adds m c flat [] old new → HasPops m c flat old k → HasPops m c flat new k
pops_kept m c laws admitted flat k old new adds h g there word = covers_kept m c laws admitted flat [] old new adds g.head g.rule.to (c g.rule.weight) (admitted g.rule.weight) (h g there word)

-- a search begins
module _ {W : Type 0} (m : Scale) (c : W → List ℕ) (flat : List (Ruled W)) where
  pub begins_none : (frontier : Frontier W) → frontier.heap ≡ [] → ((head q : ℕ) → weight_at frontier.offered head q ≡ None) → Begins m c flat frontier
  begins_none frontier none unoffered = record {
    sound = λ t h. let is : Contains [] t = subst (λ z. Contains z t) none h in let within : is.0 < 0 = is.1 in absurd (omega arith);
    held = λ head q x at. let off : None ≡ Some x = sym (unoffered head q) ∙ at in cc;
  }

  pub begins_more : (old new : Frontier W) → Begins m c flat old → Adds m c flat [] old new → Begins m c flat new
  begins_more old new begins adds = record {
    sound = λ t h. elim (adds.sound t h) [
      | inl before ↦ begins.sound t before
      | inr sound ↦ sound
    ];
    held = λ head q x at. elim (adds.held head q x at) [
      | inl before ↦ let is = begins.held head q x before in (is.0, is.1, adds.keeps is.0 is.2, is.3, is.4, is.5, is.6)
      | inr is ↦ is
    ];
  }

module _ {W : Type 0} (m : Scale) (c : W → List ℕ) (heads : List (ℕ × ℕ)) (flat : List (Ruled W)) where
  first_covered : (frontier : Frontier W) (head to : ℕ) (x : List ℕ) (word : Word2) → (word ≡ Empty → Covers m c frontier.offered head to x) → IsCovered m c [] frontier head to x word
  first_covered frontier head to x Empty h = h refl
  first_covered frontier head to x (One u) h = λ i r at from symbol. cc
  first_covered frontier head to x (Two u v) h = λ i j r s at at' pair. cc

  pub search_begins : (search : Search W) (count : ℕ) → count ≡ length heads → Begins m c flat search.frontier → ((k : ℕ) → HasPops m c flat search.frontier k)
      → search.rows ≡ record { count = count; places = [] } → search.waits.items.items ≡ [] → search.waits.places ≡ record { count = count; places = [] } → ((head to : ℕ) → weight_at search.halves head to ≡ None) → IsSearch m c heads flat [] [] search
  search_begins search count room begins has rows items places none_noted = record {
    sound = begins.sound;
    covered = λ k f at. first_covered search.frontier f.head f.rule.to (c f.rule.weight) f.rule.word (has k f at);
    held = λ head p g q x at here. inr (begins.held head q x at);
    places = record {
      room = ap (λ v. v.count) rows ∙ room;
      count = ap (λ v. length v.places) rows;
      each = λ i place r at. cc;
    };
    waits = record {
      room = ap (λ v. v.count) places ∙ room;
      count = ap (λ v. length v.places) places ∙ sym (ap length items);
      each = λ n place w at. let none : slice_get {X = Wait} [] n ≡ Some w = subst (λ ws. slice_get ws n ≡ Some w) items at in cc;
    };
    halves = λ head place x at. let off : None ≡ Some x = sym (none_noted head place) ∙ at in cc;
    waiting = λ k i u v place f r at word row. cc;
    counted = λ F. let none : sum_by (of_head F heads) search.waits.places.places ≡ 0 = ap (λ (v : ChainsView). sum_by (of_head F heads) v.places) places in omega arith;
  }

-- a row comes in
module _ {W : Type 0} (c : W → List ℕ) (heads : List (ℕ × ℕ)) (flat : List (Ruled W)) (earlier : List (Row W)) (row : Row W) where
  -- what was so of the rows before it
  sum_longer : (to : ℕ) (x : List ℕ) (word : Word2) (i j q : ℕ) (w : List ℕ) → IsSum c earlier to x word i j q w → IsSum c (earlier ++ row ∷ []) to x word i j q w
  sum_longer to x Empty i j q w h = h
  sum_longer to x (One u) i j q w h = (h.0, get_before earlier row i h.0 h.1, h.2, h.3, h.4, h.5)
  sum_longer to x (Two u v) i j q w h = (h.0, h.1, get_before earlier row i h.0 h.2, get_before earlier row j h.1 h.3, h.4, h.5, h.6)

  pub waits_longer : (rows : List (Row W)) → rows ≡ earlier ++ row ∷ [] → (waits : Waits) → AreWaits heads flat earlier waits → AreWaits heads flat rows waits
  waits_longer rows pushed waits are = subst (λ z. AreWaits heads flat z waits) (sym pushed) (record {
    room = are.room;
    count = are.count;
    each = λ n place w at there.
        let is = are.each n place w at there in
        (is.0, is.1, is.2, is.3, is.4, is.5, get_before earlier row w.row is.1 is.6, is.7, is.8, is.9);
  })

  pub halves_longer : (rows : List (Row W)) → rows ≡ earlier ++ row ∷ [] → (waits : Waits) (halves : Noted W) → AreHalves c flat earlier waits halves → AreHalves c flat rows waits halves
  halves_longer rows pushed waits halves are head place x at =
      let is = are head place x at in
      (is.0, is.1, is.2, is.3, is.4, is.5, is.6, is.7, subst (λ z. slice_get z is.1.row ≡ Some is.3) (sym pushed) (get_before earlier row is.1.row is.3 is.8), is.9)

  pub places_longer : (rows : List (Row W)) → rows ≡ earlier ++ row ∷ [] → (old new : ChainsView) (place : ℕ) → new ≡ record { count = old.count; places = old.places ++ place ∷ [] } → slice_get heads place ≡ Some (row.p, row.g)
      → AreRowPlaces heads earlier old → AreRowPlaces heads rows new
  places_longer rows pushed old new place more head are = subst (λ z. AreRowPlaces heads z new) (sym pushed) (subst (λ z. AreRowPlaces heads (earlier ++ row ∷ []) z) (sym more) (record {
    room = are.room;
    count = omega (arith, length-append old.places (place ∷ []), length-append earlier (row ∷ []), are.count);
    each = λ i place' r at at'. elim (get_push earlier row i r at) [
      | inl x ↦ elim (get_push old.places place i place' at') [
        | inl y ↦ are.each i place' r x.1 y.1
        | inr y ↦ let low : i < length earlier = x.0 in let high : i ≡ length old.places = y.0 in absurd (omega (arith, are.count))
      ]
      | inr x ↦ elim (get_push old.places place i place' at') [
        | inl y ↦ let low : i < length old.places = y.0 in let high : i ≡ length earlier = x.0 in absurd (omega (arith, are.count))
        | inr y ↦ subst (λ z. slice_get heads z ≡ Some (r.p, r.g)) y.1 (subst (λ (z : Row W). slice_get heads place ≡ Some (z.p, z.g)) x.1 head)
      ]
    ];
  }))

  pub last_head : (rows : List (Row W)) → rows ≡ earlier ++ row ∷ [] → (last place : ℕ) → last ≡ length earlier → slice_get heads place ≡ Some (row.p, row.g)
      → (r : Row W) → slice_get rows last ≡ Some r → slice_get heads place ≡ Some (r.p, r.g)
  last_head rows pushed last place same head r at =
      let alike : row ≡ r = same_item (earlier ++ row ∷ []) (length earlier) row r (get_last earlier row) (subst (λ n. slice_get (earlier ++ row ∷ []) n ≡ Some r) same (subst (λ z. slice_get z last ≡ Some r) pushed at)) in
      subst (λ (z : Row W). slice_get heads place ≡ Some (z.p, z.g)) alike head

  pub last_there : (rows : List (Row W)) → rows ≡ earlier ++ row ∷ [] → (last : ℕ) → last ≡ length earlier → slice_get rows last ≡ Some row
  last_there rows pushed last same = subst (λ z. slice_get z last ≡ Some row) (sym pushed) (subst (λ n. slice_get (earlier ++ row ∷ []) n ≡ Some row) (sym same) (get_last earlier row))

  module _ (rows : List (Row W)) (pushed : rows ≡ earlier ++ row ∷ []) (last place : ℕ) (same : last ≡ length earlier) (head : slice_get heads place ≡ Some (row.p, row.g))
      (once : (i j p g : ℕ) → slice_get heads i ≡ Some (p, g) → slice_get heads j ≡ Some (p, g) → i ≡ j) (old new : Search W) (m : Scale) (laws : WeightLaws m) (admitted : (w : W) → IsWeight m (c w)) (old_stands : IsSearch m c heads flat earlier rows old) (h1 h2 : Frontier W)
      (adds1 : Adds m c flat rows old.frontier h1) (adds2 : Adds m c flat rows h1 h2) (adds3 : Adds m c flat rows h2 new.frontier)
      (ended : (n : ℕ) (w : Wait) → slice_get old.waits.items.items n ≡ Some w → slice_get old.waits.places.places n ≡ Some place → HasTwo m c flat rows h1 w.rule w.row last)
      (ones : (k : ℕ) → HasOne m c flat rows h2 k last)
      (more : (n : ℕ) (w : Wait) → slice_get old.waits.items.items n ≡ Some w → slice_get new.waits.items.items n ≡ Some w)
      (lightens : Lightens m c old.halves new.halves) (waiting : (k : ℕ) → HasWait m c heads flat rows new.halves k last) (halves : AreHalves c flat rows new.waits new.halves)
      (from : ℕ) (at_end : from ≡ length old.waits.items.items)
      (started : (n : ℕ) (w : Wait) (place j : ℕ) → from ≤ n → slice_get new.waits.items.items n ≡ Some w → slice_get new.waits.places.places n ≡ Some place → slice_get new.rows.places j ≡ Some place → HasTwo m c flat rows new.frontier w.rule w.row j)
      (places : AreRowPlaces heads rows new.rows) (waits : AreWaits heads flat rows new.waits)
      (further : IsMore heads old.waits.places.places new.waits.places.places (λ F. sum_by (λ f. begun F row f.rule.to f.rule.word) flat)) where
    adds : Adds m c flat rows old.frontier new.frontier
    adds = adds_both m c laws admitted flat rows old.frontier h2 new.frontier (adds_both m c laws admitted flat rows old.frontier h1 h2 adds1 adds2) adds3

    covers_more : (head q : ℕ) (w : List ℕ) → IsWeight m w → Covers m c old.frontier.offered head q w → Covers m c new.frontier.offered head q w
    covers_more = covers_kept m c laws admitted flat rows old.frontier new.frontier adds

    -- a row is an earlier one, or the last
    which : (i : ℕ) (r : Row W) → slice_get rows i ≡ Some r → (slice_get earlier i ≡ Some r) ⊎ ((i ≡ last) × (row ≡ r))
    which i r at = elim (get_push earlier row i r (subst (λ z. slice_get z i ≡ Some r) pushed at)) [
      | inl x ↦ inl x.1
      | inr x ↦ inr (x.0 ∙ sym same, x.1)
    ]

    last_at : slice_get rows last ≡ Some row
    last_at = subst (λ z. slice_get z last ≡ Some row) (sym pushed) (subst (λ n. slice_get (earlier ++ row ∷ []) n ≡ Some row) (sym same) (get_last earlier row))

    -- what waits at a place for the last row, where it came before that
    waited_ends : (n place' : ℕ) (w : Wait) (f : Ruled W) (r : Row W) → slice_get old.waits.items.items n ≡ Some w → slice_get old.waits.places.places n ≡ Some place' → place' ≡ place
        → slice_get flat w.rule ≡ Some f → slice_get rows w.row ≡ Some r → Covers m c new.frontier.offered f.head row.q (plus (plus (c f.rule.weight) (c r.weight)) (c row.weight))
    waited_ends n place' w f r at here e rule there =
        let is = old_stands.waits.each n place' w at here in
        let f_is : is.0 ≡ f = same_item flat w.rule is.0 f is.4 rule in
        let r_is : is.1 ≡ r = same_item rows w.row is.1 r (subst (λ z. slice_get z w.row ≡ Some is.1) (sym pushed) (get_before earlier row w.row is.1 is.6)) there in
        let meets : (is.1.q, is.3) ≡ (row.p, row.g) = same_some (sym is.9 ∙ ap (λ z. slice_get heads z) e ∙ head) in
        let pair : ArePair is.0.rule.to is.2 is.3 is.1 row = (is.7, is.8, sym (ap (λ z. z.0) meets), sym (ap (λ z. z.1) meets)) in
        let pair' : ArePair f.rule.to is.2 is.3 r row =
        subst (λ (z : Row W). ArePair f.rule.to is.2 is.3 z row) r_is (subst (λ (z : Ruled W). ArePair z.rule.to is.2 is.3 is.1 row) f_is pair) in
        covers_kept m c laws admitted flat rows h1 new.frontier (adds_both m c laws admitted flat rows h1 h2 new.frontier adds2 adds3) f.head row.q _ (two_weighs m c laws admitted flat rows f.rule.weight r.weight row.weight)
        (ended n w at (subst (λ z. slice_get old.waits.places.places n ≡ Some z) e here) is.2 is.3 f r row rule (ap (λ (z : Ruled W). z.rule.word) (sym f_is) ∙ is.5) there last_at pair')

    -- what is as light as something makes what is as light
    lighter_whole : (head' q : ℕ) (x : W) (f g : Ruled W) (r r' s : Row W) → f.head ≡ head' → c x ≡ plus (c f.rule.weight) (c r.weight) → AtMost m (c x) (plus (c g.rule.weight) (c r'.weight))
        → Covers m c new.frontier.offered f.head q (plus (plus (c f.rule.weight) (c r.weight)) (c s.weight)) → Covers m c new.frontier.offered head' q (plus (plus (c g.rule.weight) (c r'.weight)) (c s.weight))
    lighter_whole head' q x f g r r' s same sum low h =
        let half : IsWeight m (plus (c f.rule.weight) (c r.weight)) = laws.sum (c f.rule.weight) (c r.weight) (admitted f.rule.weight) (admitted r.weight) in
        let half' : IsWeight m (plus (c g.rule.weight) (c r'.weight)) = laws.sum (c g.rule.weight) (c r'.weight) (admitted g.rule.weight) (admitted r'.weight) in
        let whole : AtMost m (plus (plus (c f.rule.weight) (c r.weight)) (c s.weight)) (plus (plus (c g.rule.weight) (c r'.weight)) (c s.weight)) =
        plus_at_most_right laws (plus (c f.rule.weight) (c r.weight)) (plus (c g.rule.weight) (c r'.weight)) (c s.weight) half half' (admitted s.weight) (subst (λ z. AtMost m z (plus (c g.rule.weight) (c r'.weight))) sum low) in
        (h.0, subst (λ z. weight_at new.frontier.offered z q ≡ Some h.0) same h.1, at_most_trans laws (c h.0) _ _ (admitted h.0) (two_weighs m c laws admitted flat rows f.rule.weight r.weight s.weight) (two_weighs m c laws admitted flat rows g.rule.weight r'.weight s.weight) h.2 whole)

    -- the first row is an earlier one and the second the last
    ends_here : (k i u v : ℕ) (f : Ruled W) (r : Row W) → slice_get flat k ≡ Some f → f.rule.word ≡ Two u v → slice_get earlier i ≡ Some r → slice_get rows i ≡ Some r → ArePair f.rule.to u v r row
        → Covers m c new.frontier.offered f.head row.q (plus (plus (c f.rule.weight) (c r.weight)) (c row.weight))
    ends_here k i u v f r at word there here pair =
        let meets : slice_get heads place ≡ Some (r.q, v) = head ∙ ap (λ x. Some (x, row.g)) pair.2 ∙ ap (λ x. Some (r.q, x)) pair.3 in
        let noted = old_stands.waiting k i u v place f r at word there pair.0 pair.1 meets in
        let is = old_stands.halves f.head place noted.0 noted.1 in
        lighter_whole f.head row.q noted.0 is.2 f is.3 r row is.7 is.9 noted.2
        (waited_ends is.0 place is.1 is.2 is.3 is.4 is.5 refl is.6 (subst (λ z. slice_get z is.1.row ≡ Some is.3) (sym pushed) (get_before earlier row is.1.row is.3 is.8)))

    -- what waited before the last row came, and an earlier one
    waited_before : (n place' j : ℕ) (w : Wait) (f : Ruled W) (r s : Row W) → slice_get old.waits.items.items n ≡ Some w → slice_get old.waits.places.places n ≡ Some place' → slice_get flat w.rule ≡ Some f
        → slice_get rows w.row ≡ Some r → slice_get earlier j ≡ Some s → slice_get heads place' ≡ Some (s.p, s.g) → Covers m c new.frontier.offered f.head s.q (plus (plus (c f.rule.weight) (c r.weight)) (c s.weight))
    waited_before n place' j w f r s at here rule there second stands =
        let is = old_stands.waits.each n place' w at here in
        let f_is : is.0 ≡ f = same_item flat w.rule is.0 f is.4 rule in
        let r_is : is.1 ≡ r = same_item rows w.row is.1 r (subst (λ z. slice_get z w.row ≡ Some is.1) (sym pushed) (get_before earlier row w.row is.1 is.6)) there in
        let meets : (is.1.q, is.3) ≡ (s.p, s.g) = same_some (sym is.9 ∙ stands) in
        let pair : ArePair is.0.rule.to is.2 is.3 is.1 s = (is.7, is.8, sym (ap (λ z. z.0) meets), sym (ap (λ z. z.1) meets)) in
        let covered : IsCovered m c earlier old.frontier is.0.head is.0.rule.to (c is.0.rule.weight) (Two is.2 is.3) =
        subst (λ z. IsCovered m c earlier old.frontier is.0.head is.0.rule.to (c is.0.rule.weight) z) is.5 (old_stands.covered w.rule is.0 is.4) in
        subst (λ (z : Ruled W). Covers m c new.frontier.offered z.head s.q (plus (plus (c z.rule.weight) (c r.weight)) (c s.weight))) f_is
        (subst (λ (z : Row W). Covers m c new.frontier.offered is.0.head s.q (plus (plus (c is.0.rule.weight) (c z.weight)) (c s.weight))) r_is
        (covers_more is.0.head s.q _ (two_weighs m c laws admitted flat rows is.0.rule.weight is.1.weight s.weight) (covered w.row j is.1 s is.6 second pair)))

    -- what waited before has the place that it has now
    old_place : (n place' : ℕ) → n < length old.waits.items.items → slice_get new.waits.places.places n ≡ Some place' → slice_get old.waits.places.places n ≡ Some place'
    old_place n place' low at =
        let there = some_there old.waits.places.places n (omega (arith, low, old_stands.waits.count)) in
        let kept : slice_get new.waits.places.places n ≡ Some there.0 = subst (λ z. slice_get z n ≡ Some there.0) (sym further.1) (get_front old.waits.places.places further.0 n there.0 there.1) in
        there.1 ∙ sym kept ∙ at

    -- what waits meets a row of its head
    waits_meet : (n place' j : ℕ) (w : Wait) (f : Ruled W) (r s : Row W) → slice_get new.waits.items.items n ≡ Some w → slice_get new.waits.places.places n ≡ Some place' → slice_get flat w.rule ≡ Some f
        → slice_get rows w.row ≡ Some r → slice_get rows j ≡ Some s → slice_get new.rows.places j ≡ Some place' → slice_get heads place' ≡ Some (s.p, s.g)
        → Covers m c new.frontier.offered f.head s.q (plus (plus (c f.rule.weight) (c r.weight)) (c s.weight))
    waits_meet n place' j w f r s at here rule there second spot stands = elim (before_or_not n from) [
      | inl early ↦
          let low : n < length old.waits.items.items = omega (arith, early, at_end) in
          let old_w = some_there old.waits.items.items n low in
          let w_is : old_w.0 ≡ w = same_item new.waits.items.items n old_w.0 w (more n old_w.0 old_w.1) at in
          let old_at : slice_get old.waits.items.items n ≡ Some w = subst (λ (z : Wait). slice_get old.waits.items.items n ≡ Some z) w_is old_w.1 in
          let old_here = old_place n place' low here in
          elim (which j s second) [
            | inl before ↦ waited_before n place' j w f r s old_at old_here rule there before stands
            | inr is ↦
                let e : place' ≡ place = once place' place row.p row.g (subst (λ (z : Row W). slice_get heads place' ≡ Some (z.p, z.g)) (sym is.1) stands) head in
                subst (λ (z : Row W). Covers m c new.frontier.offered f.head z.q (plus (plus (c f.rule.weight) (c r.weight)) (c z.weight))) is.1
                (waited_ends n place' w f r old_at old_here e rule there)
          ]
      | inr late ↦
          let is = waits.each n place' w at here in
          let f_is : is.0 ≡ f = same_item flat w.rule is.0 f is.4 rule in
          let r_is : is.1 ≡ r = same_item rows w.row is.1 r is.6 there in
          let meets : (is.1.q, is.3) ≡ (s.p, s.g) = same_some (sym is.9 ∙ stands) in
          let pair : ArePair is.0.rule.to is.2 is.3 is.1 s = (is.7, is.8, sym (ap (λ z. z.0) meets), sym (ap (λ z. z.1) meets)) in
          subst (λ (z : Ruled W). Covers m c new.frontier.offered z.head s.q (plus (plus (c z.rule.weight) (c r.weight)) (c s.weight))) f_is
          (subst (λ (z : Row W). Covers m c new.frontier.offered is.0.head s.q (plus (plus (c is.0.rule.weight) (c z.weight)) (c s.weight))) r_is
          (started n w place' j late at here spot is.2 is.3 is.0 is.1 s is.4 is.5 is.6 second pair))
    ]

    -- the first row is the last
    begins_here : (k j u v : ℕ) (f : Ruled W) (s : Row W) → slice_get flat k ≡ Some f → f.rule.word ≡ Two u v → slice_get rows j ≡ Some s → ArePair f.rule.to u v row s
        → Covers m c new.frontier.offered f.head s.q (plus (plus (c f.rule.weight) (c row.weight)) (c s.weight))
    begins_here k j u v f s at word there pair =
        let spot = some_there new.rows.places j (let within = slice_get_within rows j s there in omega (arith, within, places.count)) in
        let here : slice_get heads spot.0 ≡ Some (s.p, s.g) = places.each j spot.0 s there spot.1 in
        let stands : slice_get heads spot.0 ≡ Some (row.q, v) = here ∙ ap (λ x. Some (x, s.g)) pair.2 ∙ ap (λ x. Some (row.q, x)) pair.3 in
        let noted = waiting k u v spot.0 f row at word last_at pair.0 pair.1 stands in
        let is = halves f.head spot.0 noted.0 noted.1 in
        lighter_whole f.head s.q noted.0 is.2 f is.3 row s is.7 is.9 noted.2 (waits_meet is.0 spot.0 j is.1 is.2 is.3 s is.4 is.5 is.6 is.8 there spot.1 here)

    covered_with : (k : ℕ) (f : Ruled W) → slice_get flat k ≡ Some f → (word : Word2) → f.rule.word ≡ word
        → IsCovered m c earlier old.frontier f.head f.rule.to (c f.rule.weight) word → IsCovered m c rows new.frontier f.head f.rule.to (c f.rule.weight) word
    covered_with k f at Empty word h = covers_more f.head f.rule.to (c f.rule.weight) (admitted f.rule.weight) h
    covered_with k f at (One u) word h = λ i r there from symbol. elim (which i r there) [
      | inl before ↦ covers_more f.head r.q _ (laws.sum (c f.rule.weight) (c r.weight) (admitted f.rule.weight) (admitted r.weight)) (h i r before from symbol)
      | inr here ↦
          covers_kept m c laws admitted flat rows h2 new.frontier adds3 f.head r.q _ (laws.sum (c f.rule.weight) (c r.weight) (admitted f.rule.weight) (admitted r.weight))
          (ones k u f r at word (subst (λ n. slice_get rows n ≡ Some r) here.0 there) from symbol)
    ]
    covered_with k f at (Two u v) word h = λ i j r s there there' pair. elim (which i r there) [
      | inl before ↦ elim (which j s there') [
        | inl before' ↦ covers_more f.head s.q _ (two_weighs m c laws admitted flat rows f.rule.weight r.weight s.weight) (h i j r s before before' pair)
        | inr here ↦
            subst (λ (z : Row W). Covers m c new.frontier.offered f.head z.q (plus (plus (c f.rule.weight) (c r.weight)) (c z.weight))) here.1
            (ends_here k i u v f r at word before there (subst (λ (z : Row W). ArePair f.rule.to u v r z) (sym here.1) pair))
      ]
      | inr here ↦
          subst (λ (z : Row W). Covers m c new.frontier.offered f.head s.q (plus (plus (c f.rule.weight) (c z.weight)) (c s.weight))) here.1
          (begins_here k j u v f s at word there' (subst (λ (z : Row W). ArePair f.rule.to u v z s) (sym here.1) pair))
    ]

    held_now : AreHeld heads flat rows new.frontier
    held_now head p g q x at here = elim (adds.held head q x at) [
      | inl before ↦ elim (old_stands.held head p g q x before here) [
        | inl s ↦ inl s
        | inr is ↦ inr (held_kept m c laws admitted flat rows old.frontier.heap new.frontier.heap adds.keeps head q x is)
      ]
      | inr is ↦ inr is
    ]

    waiting_now : (k i : ℕ) → HasWait m c heads flat rows new.halves k i
    waiting_now k i u v spot f r at word there p g meets = elim (which i r there) [
      | inl before ↦
          covers_lighter m c laws admitted old.halves new.halves lightens f.head spot (plus (c f.rule.weight) (c r.weight)) (laws.sum (c f.rule.weight) (c r.weight) (admitted f.rule.weight) (admitted r.weight))
          (old_stands.waiting k i u v spot f r at word before p g meets)
      | inr here ↦ waiting k u v spot f r at word (subst (λ n. slice_get rows n ≡ Some r) here.0 there) p g meets
    ]

    counted_now : (F : ℕ → ℕ → ℕ) → sum_by (of_head F heads) new.waits.places.places ≤ sum_by (λ f. all_begun F rows f.rule.to f.rule.word) flat
    counted_now F =
        let all : sum_by (of_head F heads) new.waits.places.places ≡ sum_by (of_head F heads) old.waits.places.places + sum_by (of_head F heads) further.0 =
        ap (λ xs. sum_by (of_head F heads) xs) further.1 ∙ sum_by-append (of_head F heads) old.waits.places.places further.0 in
        let whole : sum_by (λ f. all_begun F rows f.rule.to f.rule.word) flat ≡ sum_by (λ f. all_begun F earlier f.rule.to f.rule.word) flat + sum_by (λ f. begun F row f.rule.to f.rule.word) flat =
        ap (λ rs. sum_by (λ f. all_begun F rs f.rule.to f.rule.word) flat) pushed
        ∙ sum_same (λ f. all_begun F (earlier ++ row ∷ []) f.rule.to f.rule.word) (λ f. all_begun F earlier f.rule.to f.rule.word + begun F row f.rule.to f.rule.word) flat (λ f. begun_more F earlier row f.rule.to f.rule.word)
        ∙ sum_both (λ f. all_begun F earlier f.rule.to f.rule.word) (λ f. begun F row f.rule.to f.rule.word) flat in
        omega (arith, all, whole, old_stands.counted F, further.2 F)

    pub row_taken_in : IsSearch m c heads flat rows rows new
    row_taken_in = record {
      sound = λ t h. elim (adds.sound t h) [
        | inl before ↦
            let is = old_stands.sound t before in
            (is.0, is.1, subst (λ z. IsSum c z is.0.rule.to (c is.0.rule.weight) is.0.rule.word t.left t.right t.q (c t.weight)) (sym pushed) (sum_longer is.0.rule.to (c is.0.rule.weight) is.0.rule.word t.left t.right t.q (c t.weight) is.2))
        | inr sound ↦ sound
      ];
      covered = λ k f at. covered_with k f at f.rule.word refl (old_stands.covered k f at);
      held = held_now;
      places = places;
      waits = waits;
      halves = halves;
      waiting = waiting_now;
      counted = counted_now;
    }
