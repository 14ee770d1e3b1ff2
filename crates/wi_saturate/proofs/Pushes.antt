-- Heaps that get candidates of rules and rows.
use Rattle.std.proofs.lemmas.Bool.{false≢true}
use Rattle.std.proofs.lemmas.List.Sorted.{Contains-permutation, IsPermutation-sym}
use Rattle.std.specs.Prelude.{IsPermutation, ◌≡◌, Bool, false, ℕ, zero, suc, ◌+◌, ◌<◌, ◌≤◌, ◌^◌, ◌⊎◌, List, ◌∷◌, Some, length, slice_get, get_or, refl}
use Rattle.std.specs.List.{Contains}
use Rattle.std.proofs.Common.{sym, ap, ◌∙◌, subst, inl, inr, arith}
use Rattle.std.proofs.lemmas.Option.{slice_get_within, slice_get_read}
use Rattle.wi_weight.specs.Weights.{Scale, WeightLaws, IsWeight, EachBelow, plus}
use Rattle.wi_weight.specs.lemmas.Sums.{each_below_more, each_below_plus}
use Rattle.wi_pds.specs.declared.rule.Word2.{Word2}
use Rattle.wi_pds.specs.declared.rule.Word2.TheVariants.{Empty, One, Two}
use Rattle.wi_saturate.specs.declared.row.Row.{Row}
use Rattle.wi_saturate.specs.declared.heap.Candidate.{Candidate}
use Rattle.wi_saturate.specs.declared.rules.Ruled.{Ruled}
use Rattle.wi_saturate.specs.declared.index.Index.{Index}
use Rattle.wi_saturate.specs.declared.waits.Wait.{Wait}
use Rattle.wi_saturate.specs.declared.waits.Waits.{Waits}
use Rattle.wi_saturate.specs.private.Chains.{ChainsView}
use Rattle.wi_saturate.specs.private.Candidates.{AllFit}
use Rattle.wi_saturate.specs.private.Indexes.{IsPlace, BeginsAt, IsIndexed}
use Rattle.wi_saturate.specs.declared.turn.Turn.{Turn}
use Rattle.wi_saturate.specs.declared.frontier.Frontier.{Frontier}
use Rattle.wi_saturate.specs.private.Lightest.{Covers, Lowers}
use Rattle.wi_saturate.specs.private.Frontiers.{Offers}
use Rattle.wi_saturate.proofs.Lowering.{lightens_none, lightens_both, covers_lighter}
use Rattle.wi_saturate.specs.private.Searches.{ArePair, IsSum, IsSound, IsHeld, Adds, IsFirst, IsOne, IsTwo, HasOne, HasTwo, AreWaits, AreRowPlaces}
use Rattle.wi_saturate.specs.private.Turns.{heads_of, rules_of, rows_of, IsTurn, IsFirstOf, ArePushed}
use Rattle.wi_saturate.proofs.Lookups.{once}
use Rattle.wi_saturate.proofs.Elements.{same_some, get_from_contains, contains_from_get, read_there, got_there, some_there}

pub contains_there : {X : Type 0} (xs : List X) (t x : X) → Contains xs x → Contains (t ∷ xs) x
contains_there xs t x h = let at = get_from_contains xs x h in contains_from_get (t ∷ xs) (suc at.0) x at.1

pub here_or_there : {X : Type 0} (xs : List X) (t x : X) → Contains (t ∷ xs) x → (t ≡ x) ⊎ Contains xs x
here_or_there {X} xs t x h = let at = get_from_contains (t ∷ xs) x h in go at.0 at.1
  where
    go : (i : ℕ) → slice_get (t ∷ xs) i ≡ Some x → (t ≡ x) ⊎ Contains xs x
    go zero e = inl (same_some e)
    go (suc i) e = inr (contains_from_get xs i x e)

-- a candidate was offered: one that is as light had been before, or it is on the heap now
module _ {W : Type 0} (m : Scale) (c : W → List ℕ) (head : ℕ) (t : Candidate W) (old new : Frontier W) (is_lighter : Bool) (lowers : Lowers m c head t.q t.weight old.offered new.offered is_lighter) where
  pub offered_before : new.heap ≡ old.heap → is_lighter ≡ false → Offers m c head t old new
  offered_before same heavier = record {
    covers = lowers.covers;
    keeps = λ x h. subst (λ z. Contains z x) (sym same) h;
    only = λ x h. inl (subst (λ z. Contains z x) same h);
    lightens = lowers.lightens;
    held = λ place q x at. elim (lowers.only place q x at) [
      | inl before ↦ inl before
      | inr is ↦ absurd (false≢true (sym heavier ∙ is.0))
    ];
  }

  pub offered_now : IsPermutation (t ∷ old.heap) new.heap → Offers m c head t old new
  offered_now moved = record {
    covers = lowers.covers;
    keeps = λ x h. Contains-permutation (t ∷ old.heap) new.heap x moved (contains_there old.heap t x h);
    only = λ x h. elim (here_or_there old.heap t x (Contains-permutation new.heap (t ∷ old.heap) x (IsPermutation-sym (t ∷ old.heap) new.heap moved) h)) [
      | inl same ↦ inr same
      | inr before ↦ inl before
    ];
    lightens = lowers.lightens;
    held = λ place q x at. elim (lowers.only place q x at) [
      | inl before ↦ inl before
      | inr is ↦ inr (is.1, is.2, is.3, Contains-permutation (t ∷ old.heap) new.heap t moved (contains_from_get (t ∷ old.heap) 0 t refl))
    ];
  }

module _ {W : Type 0} (m : Scale) (c : W → List ℕ) (laws : WeightLaws m) (admitted : (w : W) → IsWeight m (c w)) (flat : List (Ruled W)) (rows : List (Row W)) where
  pub adds_none : (frontier : Frontier W) → Adds m c flat rows frontier frontier
  adds_none frontier = record {
    keeps = λ t h. h;
    sound = λ t h. inl h;
    lightens = lightens_none m c laws admitted frontier.offered;
    held = λ head q x at. inl at;
  }

  -- what was offered as light stays so
  pub covers_kept : (old new : Frontier W) → Adds m c flat rows old new → (head q : ℕ) (w : List ℕ) → IsWeight m w → Covers m c old.offered head q w → Covers m c new.offered head q w
  covers_kept old new adds = covers_lighter m c laws admitted old.offered new.offered adds.lightens

  pub held_kept : (old new : List (Candidate W)) → ((t : Candidate W) → Contains old t → Contains new t) → (head q : ℕ) (x : W) → IsHeld flat old head q x → IsHeld flat new head q x
  held_kept old new keeps head q x h = (h.0, h.1, keeps h.0 h.2, h.3, h.4, h.5, h.6)

  pub adds_both : (a b d : Frontier W) → Adds m c flat rows a b → Adds m c flat rows b d → Adds m c flat rows a d
  adds_both a b d first second = record {
    keeps = λ t h. second.keeps t (first.keeps t h);
    sound = λ t h. elim (second.sound t h) [
      | inl old ↦ first.sound t old
      | inr sound ↦ inr sound
    ];
    lightens = lightens_both m c laws admitted a.offered b.offered d.offered first.lightens second.lightens;
    held = λ head q x at. elim (second.held head q x at) [
      | inl old ↦ elim (first.held head q x old) [
        | inl older ↦ inl older
        | inr is ↦ inr (held_kept b.heap d.heap second.keeps head q x is)
      ]
      | inr is ↦ inr is
    ];
  }

  -- a sound candidate was offered
  pub adds_one : (old new : Frontier W) (t : Candidate W) (f : Ruled W) → slice_get flat t.rule ≡ Some f → IsSum c rows f.rule.to (c f.rule.weight) f.rule.word t.left t.right t.q (c t.weight)
      → Offers m c f.head t old new → Adds m c flat rows old new
  adds_one old new t f at sum offered = record {
    keeps = offered.keeps;
    sound = λ x h. elim (offered.only x h) [
      | inl before ↦ inl before
      | inr same ↦ inr (subst (λ z. IsSound c flat rows z) same (f, at, sum))
    ];
    lightens = offered.lightens;
    held = λ head q x h. elim (offered.held head q x h) [
      | inl before ↦ inl before
      | inr is ↦ inr (t, f, is.3, at, sym is.0, sym is.1, sym is.2)
    ];
  }

  pub one_kept : (old new : Frontier W) → Adds m c flat rows old new → (k i : ℕ) → HasOne m c flat rows old k i → HasOne m c flat rows new k i
  one_kept old new adds k i h u f r at word row p g =
      covers_kept old new adds f.head r.q _ (laws.sum (c f.rule.weight) (c r.weight) (admitted f.rule.weight) (admitted r.weight)) (h u f r at word row p g)

  pub two_weighs : (x y z : W) → IsWeight m (plus (plus (c x) (c y)) (c z))
  two_weighs x y z = laws.sum (plus (c x) (c y)) (c z) (laws.sum (c x) (c y) (admitted x) (admitted y)) (admitted z)

  pub two_kept : (old new : Frontier W) → Adds m c flat rows old new → (k i j : ℕ) → HasTwo m c flat rows old k i j → HasTwo m c flat rows new k i j
  two_kept old new adds k i j h u v f r s at word row row' pair =
      covers_kept old new adds f.head s.q _ (two_weighs f.rule.weight r.weight s.weight) (h u v f r s at word row row' pair)

  -- the candidate of a rule and a row
  module _ (k i : ℕ) (f : Ruled W) (r : Row W) (at : slice_get flat k ≡ Some f) (row : slice_get rows i ≡ Some r) where
    one_added : (old new : Frontier W) (x : W) → c x ≡ plus (c f.rule.weight) (c r.weight) → IsOne flat rows k i
        → Offers m c f.head (record { weight = x; q = r.q; rule = k; left = i; right = 0 }) old new → Adds m c flat rows old new × HasOne m c flat rows new k i
    one_added old new x sum one offered =
        let same : one.0 ≡ f = same_some (sym one.3 ∙ at) in
        let same' : one.1 ≡ r = same_some (sym one.5 ∙ row) in (
          adds_one old new (record { weight = x; q = r.q; rule = k; left = i; right = 0 }) f at
              (subst (λ z. IsSum c rows f.rule.to (c f.rule.weight) z i 0 r.q (c x)) (sym (ap (λ (z : Ruled W). z.rule.word) (sym same) ∙ one.4))
              (r, row, ap (λ (z : Row W). z.p) (sym same') ∙ one.6 ∙ ap (λ (z : Ruled W). z.rule.to) same, ap (λ (z : Row W). z.g) (sym same') ∙ one.7, refl, sum)) offered,
          λ u g s at' word row' p q.
              let alike : f ≡ g = same_some (sym at ∙ at') in
              let alike' : r ≡ s = same_some (sym row ∙ row') in
              subst (λ (z : Ruled W). Covers m c new.offered z.head s.q (plus (c z.rule.weight) (c s.weight))) alike
              (subst (λ (z : Row W). Covers m c new.offered f.head z.q (plus (c f.rule.weight) (c z.weight))) alike'
              (subst (λ w. Covers m c new.offered f.head r.q w) sum offered.covers)),
        )

    -- the candidate of a rule and two rows
    two_added : (j : ℕ) (s : Row W) → slice_get rows j ≡ Some s → (old new : Frontier W) (x : W) → c x ≡ plus (plus (c f.rule.weight) (c r.weight)) (c s.weight) → IsTwo flat rows k i j
        → Offers m c f.head (record { weight = x; q = s.q; rule = k; left = i; right = j }) old new → Adds m c flat rows old new × HasTwo m c flat rows new k i j
    two_added j s second old new x sum two offered =
        let same : two.0 ≡ f = same_some (sym two.5 ∙ at) in
        let same' : two.1 ≡ r = same_some (sym two.7 ∙ row) in
        let same'' : two.2 ≡ s = same_some (sym two.8 ∙ second) in
        let pair : ArePair f.rule.to two.3 two.4 r s =
        subst (λ (z : Row W). ArePair f.rule.to two.3 two.4 r z) same'' (subst (λ (z : Row W). ArePair f.rule.to two.3 two.4 z two.2) same' (subst (λ (z : Ruled W). ArePair z.rule.to two.3 two.4 two.1 two.2) same two.9)) in (
          adds_one old new (record { weight = x; q = s.q; rule = k; left = i; right = j }) f at
              (subst (λ z. IsSum c rows f.rule.to (c f.rule.weight) z i j s.q (c x)) (sym (ap (λ (z : Ruled W). z.rule.word) (sym same) ∙ two.6)) (r, s, row, second, pair, refl, sum)) offered,
          λ u v g r' s' at' word row' second' pair'.
              let alike : f ≡ g = same_some (sym at ∙ at') in
              let alike' : r ≡ r' = same_some (sym row ∙ row') in
              let alike'' : s ≡ s' = same_some (sym second ∙ second') in
              subst (λ (z : Ruled W). Covers m c new.offered z.head s'.q (plus (plus (c z.rule.weight) (c r'.weight)) (c s'.weight))) alike
              (subst (λ (z : Row W). Covers m c new.offered f.head s'.q (plus (plus (c f.rule.weight) (c z.weight)) (c s'.weight))) alike'
              (subst (λ (z : Row W). Covers m c new.offered f.head z.q (plus (plus (c f.rule.weight) (c r.weight)) (c z.weight))) alike''
              (subst (λ w. Covers m c new.offered f.head s.q w) sum offered.covers))),
        )

  -- the same, at what the code reads
  pub one_pushed : (k i : ℕ) (f : Ruled W) (d : Row W) → f ≡ get_or flat k f → (old new : Frontier W) (x : W) → c x ≡ plus (c f.rule.weight) (c (get_or rows i d).weight) → IsOne flat rows k i
      → Offers m c f.head (record { weight = x; q = (get_or rows i d).q; rule = k; left = i; right = 0 }) old new → Adds m c flat rows old new × HasOne m c flat rows new k i
  one_pushed k i f d is old new x sum one offered = one_added k i f (get_or rows i d) (read_there flat k f one.0 one.3 is) (got_there rows i d one.1 one.5) old new x sum one offered

  pub two_pushed : (k i j : ℕ) (f : Ruled W) (d e : Row W) → f ≡ get_or flat k f → (old new : Frontier W) (x h : W) → c h ≡ plus (c f.rule.weight) (c (get_or rows i d).weight)
      → c x ≡ plus (c h) (c (get_or rows j e).weight) → IsTwo flat rows k i j → Offers m c f.head (record { weight = x; q = (get_or rows j e).q; rule = k; left = i; right = j }) old new
      → Adds m c flat rows old new × HasTwo m c flat rows new k i j
  two_pushed k i j f d e is old new x h half sum two offered =
      two_added k i f (get_or rows i d) (read_there flat k f two.0 two.5 is) (got_there rows i d two.1 two.7) j (get_or rows j e) (got_there rows j e two.2 two.8) old new x
      (sum ∙ ap (λ w. plus w (c (get_or rows j e).weight)) half) two offered

-- nothing was pushed, or something and then more
module _ {W : Type 0} (m : Scale) (c : W → List ℕ) (laws : WeightLaws m) (admitted : (w : W) → IsWeight m (c w)) (turn : Turn W) where
  pub pushed_none : (frontier : Frontier W) (n : ℕ) → ArePushed m c turn frontier frontier n n
  pushed_none frontier n = record { adds = adds_none m c laws admitted (rules_of turn) (rows_of turn) frontier; lengths = refl }

  pub pushed_both : (a b d : Frontier W) (l k n : ℕ) → ArePushed m c turn a b l k → ArePushed m c turn b d k n → ArePushed m c turn a d l n
  pushed_both a b d l k n first second = record {
    adds = adds_both m c laws admitted (rules_of turn) (rows_of turn) a b d first.adds second.adds;
    lengths = let h : length b.heap + l ≡ length a.heap + k = first.lengths in let i : length d.heap + k ≡ length b.heap + n = second.lengths in omega arith;
  }

-- the sums can be made
module _ {W : Type 0} (c : W → List ℕ) (flat : List (Ruled W)) (rows : List (Row W)) (small : (k : ℕ) (f : Ruled W) → slice_get flat k ≡ Some f → EachBelow (2 ^ 64) (c f.rule.weight)) (fit : AllFit c rows) where
  pub rule_fits : (k : ℕ) (f g : Ruled W) → slice_get flat k ≡ Some g → f ≡ get_or flat k f → EachBelow (2 ^ 120) (c f.rule.weight)
  rule_fits k f g at is = each_below_more (2 ^ 64) (2 ^ 120) (omega arith) (c f.rule.weight) (small k f (read_there flat k f g at is))

  pub row_fits : (i : ℕ) (d r : Row W) → slice_get rows i ≡ Some r → EachBelow (2 ^ 120) (c (get_or rows i d).weight)
  row_fits i d r at = each_below_more (2 ^ 64) (2 ^ 120) (omega arith) (c (get_or rows i d).weight) (fit i (get_or rows i d) (got_there rows i d r at))

  pub both_fit : (k i : ℕ) (f g : Ruled W) (d r : Row W) (x : W) → slice_get flat k ≡ Some g → f ≡ get_or flat k f → slice_get rows i ≡ Some r → c x ≡ plus (c f.rule.weight) (c (get_or rows i d).weight) → EachBelow (2 ^ 120) (c x)
  both_fit k i f g d r x at is row sum =
      subst (λ z. EachBelow (2 ^ 120) z) (sym sum)
      (each_below_more (2 ^ 64 + 2 ^ 64) (2 ^ 120) (omega arith) _
      (each_below_plus (2 ^ 64) (2 ^ 64) (c f.rule.weight) (c (get_or rows i d).weight) (small k f (read_there flat k f g at is)) (fit i (get_or rows i d) (got_there rows i d r row))))

module _ {W : Type 0} (heads : List (ℕ × ℕ)) (to place : ℕ) (r : Row W) (at : slice_get heads place ≡ Some (r.p, r.g)) where
  low : place < length heads
  low = slice_get_within heads place _ at

  same_head : (before u there : ℕ) → before ≤ length heads → there ≡ place + before → IsPlace heads before to u there → (r.p ≡ to) × (r.g ≡ u)
  same_head before u there less behind h = elim h [
    | inl is ↦
        let here : place ≡ is.0 = omega (arith, behind, is.2) in
        let same : (r.p, r.g) ≡ (to, u) = same_some (sym at ∙ ap (λ n. slice_get heads n) here ∙ is.1) in
        (ap (λ z. z.0) same, ap (λ z. z.1) same)
    | inr past ↦ absurd (omega (arith, low, less, behind, past.0))
  ]

  -- a place for rules that write two symbols is none for rules that write one
  apart_from_two : {A : Type 0} → (u : ℕ) → IsPlace heads (length heads) to u place → A
  apart_from_two u h = elim h [ inl is ↦ absurd (omega (arith, low, is.2)) | inr past ↦ absurd (omega (arith, low, past.0)) ]

  apart_from_one : {A : Type 0} → (u : ℕ) → IsPlace heads 0 to u (place + length heads) → A
  apart_from_one u h = elim h [
    | inl is ↦ let less = slice_get_within heads is.0 _ is.1 in absurd (omega (arith, less, is.2))
    | inr past ↦ absurd (omega (arith, low, past.0))
  ]

  -- a rule at the place of a row's head is for that row
  pub first_at : (word : Word2) → BeginsAt heads to word place → IsFirst to word r
  first_at Empty h = tt
  first_at (One u) h = same_head 0 u place (omega arith) (omega arith) h
  first_at (Two u v) h = apart_from_two u h

  pub first_behind : (word : Word2) → BeginsAt heads to word (place + length heads) → IsFirst to word r
  first_behind Empty h = tt
  first_behind (One u) h = apart_from_one u h
  first_behind (Two u v) h = same_head (length heads) u (place + length heads) (omega arith) refl h

-- the last row's place is that of a head
pub place_within : {W : Type 0} (c : W → List ℕ) (turn : Turn W) → IsTurn c turn → turn.place < length (heads_of turn)
place_within c turn is = let r = some_there (rows_of turn) turn.last is.within in slice_get_within (heads_of turn) turn.place _ (is.head r.0 r.1)

-- the last row can go into the rules that begin at its head's place
pub first_of : {W : Type 0} (c : W → List ℕ) (turn : Turn W) → IsTurn c turn → (k : ℕ) → slice_get turn.index.now.begins.places k ≡ Some turn.place → IsFirstOf turn k
first_of c turn is k begins f r at row = first_at (heads_of turn) f.rule.to turn.place r (is.head r row) f.rule.word (is.index.begins.each k turn.place f at begins)

pub first_of_two : {W : Type 0} (c : W → List ℕ) (turn : Turn W) → IsTurn c turn → (k : ℕ) → slice_get turn.index.now.begins.places k ≡ Some (turn.place + length (heads_of turn)) → IsFirstOf turn k
first_of_two c turn is k begins f r at row = first_behind (heads_of turn) f.rule.to turn.place r (is.head r row) f.rule.word (is.index.begins.each k (turn.place + length (heads_of turn)) f at begins)

pub one_first : {W : Type 0} (flat : List (Ruled W)) (rows : List (Row W)) (k i u : ℕ) (f : Ruled W) → k < length flat → i < length rows → f ≡ get_or flat k f
    → ((f : Ruled W) (r : Row W) → slice_get flat k ≡ Some f → slice_get rows i ≡ Some r → IsFirst f.rule.to f.rule.word r) → f.rule.word ≡ One u → IsOne flat rows k i
one_first flat rows k i u f within within' is first word =
    let r = some_there rows i within' in
    let at : slice_get flat k ≡ Some f = slice_get_read flat (length flat) k f refl within is in
    let parts : IsFirst f.rule.to (One u) r.0 = subst (λ w. IsFirst f.rule.to w r.0) word (first f r.0 at r.1) in
    (f, r.0, u, at, word, r.1, parts.0, parts.1)

-- where the rule isn't one of one symbol
pub no_one : {W : Type 0} (m : Scale) (c : W → List ℕ) (flat : List (Ruled W)) (rows : List (Row W)) (frontier : Frontier W) (k i : ℕ) (f : Ruled W) → k < length flat → f ≡ get_or flat k f
    → ((u : ℕ) → f.rule.word ≡ One u → ⊥) → HasOne m c flat rows frontier k i
no_one m c flat rows frontier k i f within is none u g r at word row p q =
    let same : f ≡ g = same_some (sym (slice_get_read flat (length flat) k f refl within is) ∙ at) in
    absurd (none u (ap (λ (z : Ruled _). z.rule.word) same ∙ word))

module _ {W : Type 0} (c : W → List ℕ) (index : Index W) (indexed : IsIndexed c index) where
  abbrev all_heads : List (ℕ × ℕ)
  all_heads = index.rules.heads

  at_place : (k before to u place there : ℕ) → there ≡ place + before → slice_get all_heads place ≡ Some (to, u) → (is : ℕ) → slice_get index.begins.places k ≡ Some is → IsPlace all_heads before to u is → slice_get index.begins.places k ≡ Some there
  at_place k before to u place there behind at is begins h = elim h [
    | inl here ↦
        let same : here.0 ≡ place = once all_heads indexed.rise here.0 place to u here.1 at in
        begins ∙ ap (λ n. Some n) (omega (arith, same, behind, here.2))
    | inr past ↦ absurd (past.1 (contains_from_get all_heads place (to, u) at))
  ]

  begin_place : (k : ℕ) (f : Ruled W) → slice_get index.rules.items k ≡ Some f → (is : ℕ) × (slice_get index.begins.places k ≡ Some is) × BeginsAt all_heads f.rule.to f.rule.word is
  begin_place k f at =
      let within : k < length index.rules.items = slice_get_within index.rules.items k f at in
      let place = some_there index.begins.places k (omega (arith, indexed.begins.count)) in
      (place.0, place.1, indexed.begins.each k place.0 f at place.1)

  -- a rule whose first symbol is that of a listed head stands at the place for it
  pub one_begins : (k u place : ℕ) (f : Ruled W) → slice_get index.rules.items k ≡ Some f → f.rule.word ≡ One u → slice_get all_heads place ≡ Some (f.rule.to, u) → slice_get index.begins.places k ≡ Some place
  one_begins k u place f at word head =
      let is = begin_place k f at in
      at_place k 0 f.rule.to u place place (omega arith) head is.0 is.1 (subst (λ w. BeginsAt all_heads f.rule.to w is.0) word is.2)

  pub two_begins : (k u v place : ℕ) (f : Ruled W) → slice_get index.rules.items k ≡ Some f → f.rule.word ≡ Two u v → slice_get all_heads place ≡ Some (f.rule.to, u) → slice_get index.begins.places k ≡ Some (place + length all_heads)
  two_begins k u v place f at word head =
      let is = begin_place k f at in
      at_place k (length all_heads) f.rule.to u place (place + length all_heads) refl head is.0 is.1 (subst (λ w. BeginsAt all_heads f.rule.to w is.0) word is.2)

-- the head of a row is the one that a rule leads to
pub head_of : {W : Type 0} (heads : List (ℕ × ℕ)) (place to u : ℕ) (r : Row W) → slice_get heads place ≡ Some (r.p, r.g) → r.p ≡ to → r.g ≡ u → slice_get heads place ≡ Some (to, u)
head_of heads place to u r at p g = at ∙ ap (λ x. Some (x, r.g)) p ∙ ap (λ x. Some (to, x)) g

-- what waits at the place of a row's head is for that row
pub wait_ends : {W : Type 0} (heads : List (ℕ × ℕ)) (flat : List (Ruled W)) (rows : List (Row W)) (waits : Waits) → AreWaits heads flat rows waits → (n place last : ℕ) (w : Wait) → slice_get waits.items.items n ≡ Some w
    → slice_get waits.places.places n ≡ Some place → (s : Row W) → slice_get rows last ≡ Some s → slice_get heads place ≡ Some (s.p, s.g) → IsTwo flat rows w.rule w.row last
wait_ends heads flat rows waits are n place last w at there s row head =
    let is = are.each n place w at there in
    let same : (s.p, s.g) ≡ (is.1.q, is.3) = same_some (sym head ∙ is.9) in
    (is.0, is.1, s, is.2, is.3, is.4, is.5, is.6, row, (is.7, is.8, ap (λ z. z.0) same, ap (λ z. z.1) same))

-- what waits was read
pub wait_there : (waits : Waits) (n : ℕ) (w : Wait) → n < length waits.items.items → w ≡ get_or waits.items.items n w → slice_get waits.items.items n ≡ Some w
wait_there waits n w within is = slice_get_read waits.items.items (length waits.items.items) n w refl within is

-- what waits at a place, and a row of that head
pub wait_meets : {W : Type 0} (heads : List (ℕ × ℕ)) (flat : List (Ruled W)) (rows : List (Row W)) (waits : Waits) (places : ChainsView) → AreWaits heads flat rows waits → AreRowPlaces heads rows places
    → (n place j : ℕ) (w : Wait) → slice_get waits.items.items n ≡ Some w → slice_get waits.places.places n ≡ Some place → slice_get places.places j ≡ Some place → IsTwo flat rows w.rule w.row j
wait_meets heads flat rows waits places are stand n place j w at there here =
    let within : j < length places.places = slice_get_within places.places j place here in
    let s = some_there rows j (omega (arith, stand.count)) in
    wait_ends heads flat rows waits are n place j w at there s.0 s.1 (stand.each j place s.0 s.1 here)
