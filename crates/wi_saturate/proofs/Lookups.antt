-- The rules of all heads, and the places of heads.
use Rattle.std.specs.Prelude.{◌≡◌, ℕ, zero, suc, ◌+◌, ◌<◌, ◌≤◌, ◌⊎◌, List, [], ◌∷◌, ◌++◌, Some, Result, length, slice_get, drop, MatchOption, false, refl, slice_index_or, get_or}
use Rattle.std.specs.List.{All, Contains}
use Rattle.std.proofs.lemmas.List.Elements.{All-get_or, All-same}
use Rattle.wi_pds.specs.Rules.{IsOf}
use Rattle.std.specs.Result.{result_ok}
use Rattle.std.specs.List.Sorted.{IsStrictlySortedBy, IsBinarySearchResult, IsSearchInRange}
use Rattle.std.specs.declared.cmp.Ordering.TheVariants.{Less}
use Rattle.std.specs.declared.result.Result.TheVariants.{Ok, Err}
use Rattle.std.proofs.Common.{sym, ap, ◌∙◌, subst, inl, inr, arith, append_assoc, add-one, zero-add, add-zero, append-nil}
use Rattle.std.proofs.lemmas.Bool.{cases_lt, cases_eq, false≢true}
use Rattle.std.proofs.lemmas.Option.{slice_get_within, slice_get-get_or, get_or_from_slice_get}
use Rattle.std.proofs.lemmas.List.{length-append}
use Rattle.std.proofs.lemmas.Map.Keys.{Less-from_sorted}
use Rattle.wi_pds.specs.declared.rule.Word2.{Word2}
use Rattle.wi_pds.specs.declared.rule.Word2.TheVariants.{Empty, One, Two}
use Rattle.wi_pds.specs.declared.rule.Rule.{Rule}
use Rattle.wi_pds.specs.Pairs.{pair_cmp}
use Rattle.wi_pds.proofs.PairOrder.{pair_exact, pair_tied, search_finds}
use Rattle.wi_saturate.specs.declared.rules.Ruled.{Ruled}
use Rattle.wi_saturate.specs.declared.index.Index.{Index}
use Rattle.wi_saturate.specs.LeastTables.{AreReady}
use Rattle.wi_saturate.specs.private.Chains.{ChainsView}
use Rattle.wi_saturate.specs.private.Indexes.{ruled_from, ruled, IsPlace, BeginsAt, AreBegins, IsIndex}
use Rattle.wi_saturate.proofs.Elements.{same_some, get_from_contains, contains_from_get, get_push, some_there}

-- an element of two lists, one behind the other, is of one of them
get_append : {X : Type 0} (xs ys : List X) (k : ℕ) (x : X) → slice_get (xs ++ ys) k ≡ Some x → (slice_get xs k ≡ Some x) ⊎ ((n : ℕ) × (slice_get ys n ≡ Some x))
get_append [] ys k x h = inr (k, h)
get_append (z ∷ xs) ys zero x h = inl h
get_append (z ∷ xs) ys (suc k) x h = get_append xs ys k x h

pub get_first : {X : Type 0} (xs ys : List X) (k : ℕ) (x : X) → slice_get xs k ≡ Some x → slice_get (xs ++ ys) k ≡ Some x
get_first [] ys k x h = cc
get_first (z ∷ xs) ys zero x h = h
get_first (z ∷ xs) ys (suc k) x h = get_first xs ys k x h

get_second : {X : Type 0} (xs ys : List X) (k : ℕ) (x : X) → slice_get ys k ≡ Some x → (n : ℕ) × (slice_get (xs ++ ys) n ≡ Some x)
get_second [] ys k x h = (k, h)
get_second (z ∷ xs) ys k x h = let at = get_second xs ys k x h in (suc at.0, at.1)

drop_get : {X : Type 0} (xs : List X) (i : ℕ) (x : X) → slice_get xs i ≡ Some x → drop i xs ≡ x ∷ drop (suc i) xs
drop_get [] i x h = cc
drop_get (z ∷ xs) zero x h = ap (λ y. y ∷ xs) (same_some h)
drop_get (z ∷ xs) (suc i) x h = drop_get xs i x h

drop_past : {X : Type 0} (n : ℕ) (xs : List X) → length xs ≤ n → drop n xs ≡ []
drop_past zero [] h = refl
drop_past zero (x ∷ xs) h = absurd (omega arith)
drop_past (suc n) [] h = refl
drop_past (suc n) (x ∷ xs) h = drop_past n xs (omega arith)

module _ {W : Type 0} where
  -- the rule at a place of those of a head
  from_named : (head at : ℕ) (rs : List (Rule W)) (k : ℕ) (f : Ruled W) → slice_get (ruled_from head at rs) k ≡ Some f → (f.head ≡ head) × (f.at ≡ at + k) × (slice_get rs k ≡ Some f.rule)
  from_named head at [] k f h = cc
  from_named head at (r ∷ rs) zero f h =
      let same : record { head = head; at = at; rule = r } ≡ f = same_some h in
      (sym (ap (λ z. z.head) same), (let k : at ≡ f.at = ap (λ z. z.at) same in omega arith), ap (λ z. Some z.rule) same)
  from_named head at (r ∷ rs) (suc k) f h =
      let rest = from_named head (suc at) rs k f h in
      (rest.0, (let e : f.at ≡ suc at + k = rest.1 in omega arith), rest.2)

  from_all : (head at : ℕ) (rs : List (Rule W)) (m : ℕ) (r : Rule W) → slice_get rs m ≡ Some r → (f : Ruled W) × (slice_get (ruled_from head at rs) m ≡ Some f) × (f.head ≡ head) × (f.rule ≡ r)
  from_all head at [] m r h = cc
  from_all head at (x ∷ rs) zero r h = (record { head = head; at = at; rule = x }, refl, refl, same_some h)
  from_all head at (x ∷ rs) (suc m) r h = from_all head (suc at) rs m r h

  module _ (rules : ℕ → ℕ → List (Rule W)) where
    pub ruled_step : (done : List (Ruled W)) (head : ℕ) (heads : List (ℕ × ℕ)) (h : ℕ × ℕ) → slice_get heads head ≡ Some h
        → (done ++ ruled_from head 0 (rules h.0 h.1)) ++ ruled rules (head + 1) (drop (head + 1) heads) ≡ done ++ ruled rules head (drop head heads)
    ruled_step done head heads h at =
        append_assoc done (ruled_from head 0 (rules h.0 h.1)) (ruled rules (head + 1) (drop (head + 1) heads))
        ∙ ap (λ n. done ++ (ruled_from head 0 (rules h.0 h.1) ++ ruled rules n (drop n heads))) (add-one head)
        ∙ ap (λ xs. done ++ ruled rules head xs) (sym (drop_get heads head h at))

    pub head_added : (flat flat' whole : List (Ruled W)) (head : ℕ) (rs rs' : List (Rule W)) (heads : List (ℕ × ℕ)) (h : ℕ × ℕ) → slice_get heads head ≡ Some h → rs' ≡ rs → rs ≡ rules h.0 h.1
        → flat' ≡ flat ++ ruled_from head 0 rs' → flat ++ ruled rules head (drop head heads) ≡ whole → flat' ++ ruled rules (head + 1) (drop (head + 1) heads) ≡ whole
    head_added flat flat' whole head rs rs' heads h at lent of more left =
        ap (λ fs. fs ++ ruled rules (head + 1) (drop (head + 1) heads)) (more ∙ ap (λ xs. flat ++ ruled_from head 0 xs) (lent ∙ of)) ∙ ruled_step flat head heads h at ∙ left

    pub heads_done : (flat : List (Ruled W)) (head : ℕ) (listed heads : List (ℕ × ℕ)) → listed ≡ heads → length listed ≤ head
        → flat ++ ruled rules head (drop head listed) ≡ ruled rules 0 listed → flat ≡ ruled rules 0 heads
    heads_done flat head listed heads same past left =
        sym (append-nil flat) ∙ ap (λ hs. flat ++ ruled rules head hs) (sym (drop_past head listed past)) ∙ left ∙ ap (λ hs. ruled rules 0 hs) same

    named : (head : ℕ) (hs : List (ℕ × ℕ)) (k : ℕ) (f : Ruled W) → slice_get (ruled rules head hs) k ≡ Some f
        → (n : ℕ) × (h : ℕ × ℕ) × (f.head ≡ head + n) × (slice_get hs n ≡ Some h) × (slice_get (rules h.0 h.1) f.at ≡ Some f.rule)
    named head [] k f at = cc
    named head (h ∷ hs) k f at = elim (get_append (ruled_from head 0 (rules h.0 h.1)) (ruled rules (suc head) hs) k f at) [
      | inl here ↦
          let is = from_named head 0 (rules h.0 h.1) k f here in
          (0, h, is.0 ∙ sym (add-zero head), refl, subst (λ n. slice_get (rules h.0 h.1) n ≡ Some f.rule) (sym (is.1 ∙ zero-add k)) is.2)
      | inr later ↦
          let rest = named (suc head) hs later.0 f later.1 in
          (suc rest.0, rest.1, (let e : f.head ≡ suc head + rest.0 = rest.2 in omega arith), rest.3, rest.4)
    ]

    -- what a place of the list names
    pub ruled_named : (heads : List (ℕ × ℕ)) (k : ℕ) (f : Ruled W) → slice_get (ruled rules 0 heads) k ≡ Some f
        → (h : ℕ × ℕ) × (slice_get heads f.head ≡ Some h) × (slice_get (rules h.0 h.1) f.at ≡ Some f.rule)
    ruled_named heads k f at =
        let is = named 0 heads k f at in
        (is.1, subst (λ n. slice_get heads n ≡ Some is.1) (sym (is.2 ∙ zero-add is.0)) is.3, is.4)

    all : (head : ℕ) (hs : List (ℕ × ℕ)) (n m : ℕ) (h : ℕ × ℕ) (r : Rule W) → slice_get hs n ≡ Some h → slice_get (rules h.0 h.1) m ≡ Some r
        → (k : ℕ) × (f : Ruled W) × (slice_get (ruled rules head hs) k ≡ Some f) × (f.head ≡ head + n) × (f.rule ≡ r)
    all head [] n m h r at is = cc
    all head (x ∷ hs) zero m h r at is =
        let same : x ≡ h = same_some at in
        let there : slice_get (rules x.0 x.1) m ≡ Some r = subst (λ (z : ℕ × ℕ). slice_get (rules z.0 z.1) m ≡ Some r) (sym same) is in
        let f = from_all head 0 (rules x.0 x.1) m r there in
        (m, f.0, get_first (ruled_from head 0 (rules x.0 x.1)) (ruled rules (suc head) hs) m f.0 f.1, f.2 ∙ sym (add-zero head), f.3)
    all head (x ∷ hs) (suc n) m h r at is =
        let rest = all (suc head) hs n m h r at is in
        let there = get_second (ruled_from head 0 (rules x.0 x.1)) (ruled rules (suc head) hs) rest.0 rest.1 rest.2 in
        (there.0, rest.1, there.1, (let e : rest.1.head ≡ suc head + n = rest.3 in omega arith), rest.4)

    -- each rule of a listed head is in the list
    pub ruled_all : (heads : List (ℕ × ℕ)) (p g : ℕ) (r : Rule W) → Contains heads (p, g) → Contains (rules p g) r
        → (k : ℕ) × (f : Ruled W) × (slice_get (ruled rules 0 heads) k ≡ Some f) × (slice_get heads f.head ≡ Some (p, g)) × (f.rule ≡ r)
    ruled_all heads p g r head at =
        let h = get_from_contains heads (p, g) head in
        let i = get_from_contains (rules p g) r at in
        let is = all 0 heads h.0 i.0 (p, g) r h.1 i.1 in
        (is.0, is.1, is.2, subst (λ n. slice_get heads n ≡ Some (p, g)) (sym (is.3 ∙ zero-add h.0)) h.1, is.4)

-- the head of a rule of those at a place
pub rule_named : {W : Type 0} (heads : List (ℕ × ℕ)) (head at : ℕ) (rs : List (Rule W)) (r : Rule W) → head < length heads → ((p g : ℕ) → slice_get heads head ≡ Some (p, g) → All (IsOf p g) rs)
    → at < length rs → r ≡ get_or rs at r → slice_get heads head ≡ Some (r.from, r.top)
rule_named heads head at rs r within named below is =
    let h = some_there heads head within in
    let of : IsOf h.0.0 h.0.1 r = subst (λ (x : Rule _). IsOf h.0.0 h.0.1 x) (sym is) (All-get_or (IsOf h.0.0 h.0.1) rs at r below (named h.0.0 h.0.1 h.1)) in
    h.1 ∙ ap (λ x. Some (x, h.0.1)) (sym of.0) ∙ ap (λ x. Some (r.from, x)) (sym of.1)

-- the rules of the head at a place name it
pub all_named : {W : Type 0} (rules : ℕ → ℕ → List (Rule W)) → ((p g : ℕ) → All (IsOf p g) (rules p g)) → (listed heads : List (ℕ × ℕ)) (head : ℕ) → head < length listed → listed ≡ heads
    → (rs : List (Rule W)) → rs ≡ rules (get_or listed head (0, 0)).0 (get_or listed head (0, 0)).1 → (p g : ℕ) → slice_get heads head ≡ Some (p, g) → All (IsOf p g) rs
all_named rules law listed heads head within same rs is p g at =
    let h : get_or listed head (0, 0) ≡ (p, g) = same_some (sym (slice_get-get_or listed head (0, 0) within) ∙ ap (λ hs. slice_get hs head) same ∙ at) in
    All-same (IsOf p g) rs (rules p g) (is ∙ ap (λ (z : ℕ × ℕ). rules z.0 z.1) h) (law p g)

-- a head of a list that rises is listed once
pub once : (heads : List (ℕ × ℕ)) → IsStrictlySortedBy pair_cmp heads → (i j p g : ℕ) → slice_get heads i ≡ Some (p, g) → slice_get heads j ≡ Some (p, g) → i ≡ j
once heads rise i j p g at at' = elim (cases_eq i j) [
  | inl same ↦ same
  | inr other ↦ elim (cases_lt i j) [
    | inl less ↦ absurd (not_both i j less at at')
    | inr more ↦ let less : j < i = grind arith in absurd (not_both j i less at' at)
  ]
]
  where
    not_both : (i j : ℕ) → i < j → slice_get heads i ≡ Some (p, g) → slice_get heads j ≡ Some (p, g) → ⊥
    not_both i j less at at' =
        let low : slice_index_or heads i (p, g) ≡ (p, g) = get_or_from_slice_get heads i (p, g) (p, g) at in
        let high : slice_index_or heads j (p, g) ≡ (p, g) = get_or_from_slice_get heads j (p, g) (p, g) at' in
        let under : pair_cmp (slice_index_or heads i (p, g)) (slice_index_or heads j (p, g)) ≡ Less = Less-from_sorted pair_cmp heads i j (p, g) rise less (slice_get_within heads j (p, g) at') in
        let tie : pair_cmp (p, g) (p, g) ≡ Less = subst (λ z. pair_cmp (p, g) z ≡ Less) high (subst (λ z. pair_cmp z (slice_index_or heads j (p, g)) ≡ Less) low under) in
        cc (tie, pair_tied (p, g))

-- what a binary search finds
pub place_found : (xs ys : List (ℕ × ℕ)) (x : ℕ × ℕ) (r : Result ℕ ℕ) → ys ≡ xs → IsStrictlySortedBy pair_cmp xs
    → IsSearchInRange r (length ys) → IsBinarySearchResult (λ y. pair_cmp y x) ys r → MatchOption (result_ok r) (Contains xs x → ⊥) (λ i. slice_get xs i ≡ Some x)
place_found xs ys x (Ok i) same rise within at = subst (λ z. slice_get z i ≡ Some x) same (slice_get-get_or ys i x within ∙ ap (λ z. Some z) (pair_exact _ _ (at x)))
place_found xs ys x (Err i) same rise within at = λ has. false≢true ((search_finds xs ys x (Err i) false same rise within at refl).1 has)

place_within_all : (heads : List (ℕ × ℕ)) (before p g place : ℕ) → before ≤ length heads → IsPlace heads before p g place → place < length heads + length heads + 1
place_within_all heads before p g place less h = elim h [
  | inl is ↦ let within = slice_get_within heads is.0 _ is.1 in omega (arith, less, within, is.2)
  | inr past ↦ let same : place ≡ length heads + length heads = past.0 in omega arith
]

pub begins_within : (heads : List (ℕ × ℕ)) (to : ℕ) (word : Word2) (place : ℕ) → BeginsAt heads to word place → place < length heads + length heads + 1
begins_within heads to Empty place h = let same : place ≡ length heads + length heads = h in omega arith
begins_within heads to (One u) place h = place_within_all heads 0 to u place (omega arith) h
begins_within heads to (Two u v) place h = place_within_all heads (length heads) to u place (omega arith) h

-- one more rule, at its place
pub begins_more : {W : Type 0} (heads : List (ℕ × ℕ)) (flat : List (Ruled W)) (begins : ChainsView) (f : Ruled W) (place : ℕ) → AreBegins heads flat begins → BeginsAt heads f.rule.to f.rule.word place
    → AreBegins heads (flat ++ f ∷ []) (record { count = begins.count; places = begins.places ++ place ∷ [] })
begins_more heads flat begins f place are is = record {
  room = are.room;
  count = length-append begins.places (place ∷ []) ∙ ap (λ n. n + 1) are.count ∙ sym (length-append flat (f ∷ []));
  each = λ k at g ruled there. elim (get_push flat f k g ruled) [
    | inl before ↦ elim (get_push begins.places place k at there) [
      | inl earlier ↦ are.each k at g before.1 earlier.1
      | inr last ↦ absurd (omega (arith, before.0, last.0, are.count))
    ]
    | inr last ↦ elim (get_push begins.places place k at there) [
      | inl earlier ↦ absurd (omega (arith, earlier.0, last.0, are.count))
      | inr end ↦ subst (λ (h : Ruled _). BeginsAt heads h.rule.to h.rule.word at) last.1 (subst (λ n. BeginsAt heads f.rule.to f.rule.word n) end.1 is)
    ]
  ];
}

-- the index is right where its rules and begins are
pub indexes : {W : Type 0} (c : W → List ℕ) (rules : ℕ → ℕ → List (Rule W)) (index : Index W) → AreReady c rules index.rules.heads → IsStrictlySortedBy pair_cmp index.rules.heads
    → index.rules.items ≡ ruled rules 0 index.rules.heads → AreBegins index.rules.heads index.rules.items index.begins → IsIndex c rules index
indexes c rules index ready rise listed begins = record {
  listed = listed;
  indexed = record {
    begins = begins;
    rise = rise;
    small = λ k f at.
        let is = ruled_named rules index.rules.heads k f (subst (λ z. slice_get z k ≡ Some f) listed at) in
        ready.small is.0.0 is.0.1 f.rule (contains_from_get index.rules.heads f.head is.0 is.1) (contains_from_get (rules is.0.0 is.0.1) f.at f.rule is.2);
  };
}
