-- The row that a candidate makes.
use Rattle.std.specs.Prelude.{◌≡◌, ℕ, ◌<◌, List, Option, Some, None, length, slice_get, get_or, refl}
use Rattle.std.proofs.Common.{sym, subst}
use Rattle.wi_weight.specs.Weights.{Scale, WeightLaws, IsWeight}
use Rattle.wi_pds.specs.declared.rule.Word2.{Word2}
use Rattle.wi_pds.specs.declared.rule.Word2.TheVariants.{Empty, One, Two}
use Rattle.wi_saturate.specs.declared.row.Row.{Row}
use Rattle.wi_saturate.specs.declared.heap.Candidate.{Candidate}
use Rattle.wi_saturate.specs.declared.rules.Ruled.{Ruled}
use Rattle.wi_saturate.specs.private.Candidates.{IsRowBy}
use Rattle.wi_saturate.specs.private.Searches.{ArePair, IsSum, IsSound, IsRowOf}
use Rattle.wi_saturate.proofs.Elements.{same_item, read_there}
use Rattle.wi_saturate.proofs.RuleRows.{row_with, row_empty, row_one, row_two}
use Rattle.std.proofs.lemmas.Option.{slice_get-get_or}

-- the place of the head of a rule that is read is there
pub head_there : {W : Type 0} (heads lent : List (ℕ × ℕ)) (flat : List (Ruled W)) (k : ℕ) (f g : Ruled W) → lent ≡ heads → f ≡ get_or flat k f → slice_get flat k ≡ Some g → g.head < length heads → f.head < length lent
head_there heads lent flat k f g same is at within =
    let alike : g ≡ f = same_item flat k g f at (read_there flat k f g at is) in
    subst (λ hs. f.head < length hs) (sym same) (subst (λ (z : Ruled _). z.head < length heads) alike within)

module _ {W : Type 0} (m : Scale) (c : W → List ℕ) (laws : WeightLaws m) (admitted : (w : W) → IsWeight m (c w)) (heads lent : List (ℕ × ℕ)) (flat : List (Ruled W)) (t : Candidate W) (f : Ruled W)
    (same : lent ≡ heads) (is : f ≡ get_or flat t.rule f) (within : f.head < length lent) (rows : List (Row W)) (sound : IsSound c flat rows t) where
  at : slice_get flat t.rule ≡ Some f
  at = read_there flat t.rule f sound.0 sound.1 is

  sum : (word : Word2) → f.rule.word ≡ word → IsSum c rows f.rule.to (c f.rule.weight) word t.left t.right t.q (c t.weight)
  sum word e =
      subst (λ z. IsSum c rows f.rule.to (c f.rule.weight) z t.left t.right t.q (c t.weight)) e
      (subst (λ (z : Ruled W). IsSum c rows z.rule.to (c z.rule.weight) z.rule.word t.left t.right t.q (c t.weight)) (same_item flat t.rule sound.0 f sound.1 at) sound.2)

  abbrev head : ℕ × ℕ
  head = get_or lent f.head (0, 0)

  made : (left right : Option ℕ) → IsRowBy m c rows head.0 head.1 f.at f.rule (row_with m c laws admitted rows head.0 head.1 f.at f.rule t.weight t.q left right)
      → IsRowOf m c heads flat rows t (row_with m c laws admitted rows head.0 head.1 f.at f.rule t.weight t.q left right)
  made left right by = record {
    weight = refl;
    end = refl;
    by = λ g there.
        let b = row_with m c laws admitted rows head.0 head.1 f.at f.rule t.weight t.q left right in
        subst (λ (z : Ruled W). (slice_get heads z.head ≡ Some (b.p, b.g)) × IsRowBy m c rows b.p b.g z.at z.rule b) (same_item flat t.rule f g at there)
        (subst (λ hs. slice_get hs f.head ≡ Some head) same (slice_get-get_or lent f.head (0, 0) within), by);
  }

  pub made_empty : f.rule.word ≡ Empty → IsRowOf m c heads flat rows t (row_with m c laws admitted rows head.0 head.1 f.at f.rule t.weight t.q None None)
  made_empty word =
      let parts = sum Empty word in
      made None None (subst (λ q. IsRowBy m c rows head.0 head.1 f.at f.rule (row_with m c laws admitted rows head.0 head.1 f.at f.rule t.weight q None None)) (sym parts.0)
      (row_empty m c laws admitted rows _ _ f.at f.rule t.weight word parts.1))

  pub made_one : (u : ℕ) → f.rule.word ≡ One u → IsRowOf m c heads flat rows t (row_with m c laws admitted rows head.0 head.1 f.at f.rule t.weight t.q (Some t.left) None)
  made_one u word =
      let parts = sum (One u) word in
      made (Some t.left) None (row_one m c laws admitted rows _ _ f.at f.rule t.weight u t.left t.q parts.0 word parts.1 parts.2 parts.3 (sym parts.4) parts.5)

  pub made_two : (u v : ℕ) → f.rule.word ≡ Two u v → IsRowOf m c heads flat rows t (row_with m c laws admitted rows head.0 head.1 f.at f.rule t.weight t.q (Some t.left) (Some t.right))
  made_two u v word =
      let parts = sum (Two u v) word in
      let pair : ArePair f.rule.to u v parts.0 parts.1 = parts.4 in
      made (Some t.left) (Some t.right) (row_two m c laws admitted rows _ _ f.at f.rule t.weight u v t.left t.right t.q parts.0 parts.1 word parts.2 parts.3 pair.0 pair.1 pair.2 pair.3 (sym parts.5) parts.6)
