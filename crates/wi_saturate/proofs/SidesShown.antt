-- What is kept of right-hand sides, with further weights and further sides.
use Rattle.std.specs.Prelude.{◌≡◌, ℕ, zero, suc, ◌==◌, Bool, false, true, List, [], ◌∷◌, ◌++◌, Some, length, map, option_map, slice_get, slice_index_or, refl}
use Rattle.std.specs.List.{All}
use Rattle.std.proofs.Common.{sym, ap, subst, ◌∙◌, arith, length-append, ◌+◌}
use Rattle.std.proofs.Math.ListN.{get_or-append}
use Rattle.std.proofs.lemmas.Bool.{and_parts, eqb-true}
use Rattle.std.proofs.lemmas.List.{append-nil, length-map, map-append}
use Rattle.std.proofs.lemmas.List.Elements.{All-append, All-head, All-tail}
use Rattle.std.proofs.lemmas.Option.{get_or_from_slice_get, slice_get-map, slice_get_within}
use Rattle.wi_pds.specs.declared.rule.Word2.{Word2}
use Rattle.wi_pds.specs.declared.rule.Word2.TheVariants.{Empty, One, Two}
use Rattle.std.specs.contracts.prelude.BoolPartialEq.TheImpl as bool
use Rattle.wi_pds.specs.contracts.rule.Word2PartialEq.TheImpl as word
use Rattle.wi_saturate.specs.contracts.sides.SmallSidePartialEq.TheImpl.{eq-value}
use Rattle.wi_saturate.specs.declared.sides.Side.{Side}
use Rattle.wi_saturate.specs.declared.sides.SmallSide.{SmallSide}
use Rattle.wi_saturate.specs.private.Sides.{SidesView}
use Rattle.wi_saturate.specs.private.SmallSides.{side_of, IsWithin}
use Rattle.wi_saturate.proofs.Elements.{get_last}

-- the side that is kept so, with its weight written out
abbrev pub made : {W : Type 0} → SmallSide → W → Side W
made small weight = record { weight = weight; to = small.to; tag = small.tag; at = small.at; word = small.word; keeps_top = small.keeps_top }

-- sides
abbrev pub seen : {W : Type 0} → W → List (Side W) → SidesView W
seen unit items = record { items = items; unit = unit }

one_within : {X : Type 0} (P : X → Type 0) (x : X) → P x → All P (x ∷ [])
one_within P x h zero d low = h
one_within P x h (suc k) d low = absurd (omega (arith, low))

same_bool : (a b : Bool) → bool.ghosts.eq a b ≡ true → a ≡ b
same_bool false false h = refl
same_bool false true h = cc
same_bool true false h = cc
same_bool true true h = refl

same_word : (a b : Word2) → word.eq-value.it a b ≡ true → a ≡ b
same_word Empty Empty h = refl
same_word Empty (One u) h = cc
same_word Empty (Two u v) h = cc
same_word (One u) Empty h = cc
same_word (One u) (One x) h = ap (λ (n : ℕ). One n) (eqb-true u x h)
same_word (One u) (Two x y) h = cc
same_word (Two u v) Empty h = cc
same_word (Two u v) (One x) h = cc
same_word (Two u v) (Two x y) h =
    let parts = and_parts (u == x) _ h in
    ap (λ (n : ℕ). Two n v) (eqb-true u x parts.0) ∙ ap (λ (n : ℕ). Two x n) (eqb-true v y parts.1)

-- sides of which `==` is true are the same
pub same_small : (x y : SmallSide) → eq-value.it x y ≡ true → x ≡ y
same_small x y h =
    let make : ℕ → ℕ → ℕ → ℕ → Word2 → Bool → SmallSide = λ to tag weight at word keeps. record { to = to; tag = tag; weight = weight; at = at; word = word; keeps_top = keeps } in
    let a = and_parts (x.to == y.to) _ h in
    let b = and_parts (x.tag == y.tag) _ a.1 in
    let d = and_parts (x.weight == y.weight) _ b.1 in
    let e = and_parts (x.at == y.at) _ d.1 in
    let f = and_parts (word.eq-value.it x.word y.word) _ e.1 in
    ap (λ n. make n x.tag x.weight x.at x.word x.keeps_top) (eqb-true x.to y.to a.0)
    ∙ ap (λ n. make y.to n x.weight x.at x.word x.keeps_top) (eqb-true x.tag y.tag b.0)
    ∙ ap (λ n. make y.to y.tag n x.at x.word x.keeps_top) (eqb-true x.weight y.weight d.0)
    ∙ ap (λ n. make y.to y.tag y.weight n x.word x.keeps_top) (eqb-true x.at y.at e.0)
    ∙ ap (λ w. make y.to y.tag y.weight y.at w x.keeps_top) (same_word x.word y.word f.0)
    ∙ ap (make y.to y.tag y.weight y.at y.word) (same_bool x.keeps_top y.keeps_top f.1)

module _ {W : Type 0} (unit : W) (weights more whole : List W) (grown : whole ≡ weights ++ more) where
  longer : length whole ≡ length weights + length more
  longer = ap length grown ∙ length-append weights more

  all_longer : (smalls : List SmallSide) → All (IsWithin weights) smalls → All (IsWithin whole) smalls
  all_longer smalls all k d low = let h = all k d low in omega (arith, h, longer)

  -- what is kept shows the same with further weights
  same_side : (small : SmallSide) → IsWithin weights small → side_of whole unit small ≡ side_of weights unit small
  same_side small within = ap (made small) (ap (λ ws. slice_index_or ws small.weight unit) grown ∙ get_or-append weights more unit small.weight within)

  all_same : (smalls : List SmallSide) → All (IsWithin weights) smalls → map (side_of whole unit) smalls ≡ map (side_of weights unit) smalls
  all_same [] all = refl
  all_same (x ∷ xs) all =
      ap (λ y. y ∷ map (side_of whole unit) xs) (same_side x (All-head (IsWithin weights) x xs all))
      ∙ ap (λ ys. side_of weights unit x ∷ ys) (all_same xs (All-tail (IsWithin weights) x xs all))

  module _ (old : List SmallSide) (now : SidesView W) (is_now : seen unit (map (side_of weights unit) old) ≡ now) (all : All (IsWithin weights) old) where
    -- no further side
    pub none_added : (new : List SmallSide) → new ≡ old → (x : List (Side W)) × (seen unit (map (side_of whole unit) new) ≡ record { items = now.items ++ x; unit = now.unit })
    none_added new is = (
      [],
      ap (λ ss. seen unit (map (side_of whole unit) ss)) is ∙ ap (seen unit) (all_same old all) ∙ is_now ∙ ap (λ (xs : List (Side W)). seen now.unit xs) (sym (append-nil now.items)),
    )

    module _ (small : SmallSide) (side : Side W) (weight : slice_get whole small.weight ≡ Some side.weight) (is : made small side.weight ≡ side) where
      shown_so : side_of whole unit small ≡ side
      shown_so = ap (made small) (get_or_from_slice_get whole small.weight side.weight unit weight) ∙ is

      -- the side is one of those that are kept
      pub there_before : (n : ℕ) → slice_get old n ≡ Some small → slice_get (map (side_of whole unit) old) n ≡ Some side
      there_before n at = slice_get-map (side_of whole unit) old n ∙ ap (option_map (side_of whole unit)) at ∙ ap (λ s. Some s) shown_so

      module _ (new : List SmallSide) (added : new ≡ old ++ small ∷ []) where
        items_added : map (side_of whole unit) new ≡ map (side_of weights unit) old ++ side ∷ []
        items_added =
            ap (map (side_of whole unit)) added ∙ map-append (side_of whole unit) old (small ∷ [])
            ∙ ap (λ ys. ys ++ side_of whole unit small ∷ []) (all_same old all)
            ∙ ap (λ y. map (side_of weights unit) old ++ y ∷ []) shown_so

        pub one_added : (x : List (Side W)) × (seen unit (map (side_of whole unit) new) ≡ record { items = now.items ++ x; unit = now.unit })
        one_added = (side ∷ [], ap (seen unit) items_added ∙ ap (λ (v : SidesView W). seen v.unit (v.items ++ side ∷ [])) is_now)

        pub there_now : slice_get (map (side_of whole unit) new) (length old) ≡ Some side
        there_now =
            ap (λ ys. slice_get ys (length old)) items_added
            ∙ ap (slice_get (map (side_of weights unit) old ++ side ∷ [])) (sym (length-map old (side_of weights unit)))
            ∙ get_last (map (side_of weights unit) old) side

        pub all_within : All (IsWithin whole) new
        all_within = subst (All (IsWithin whole)) (sym added) (All-append (IsWithin whole) old (small ∷ []) (all_longer old all) (one_within (IsWithin whole) small (slice_get_within whole small.weight side.weight weight)))
