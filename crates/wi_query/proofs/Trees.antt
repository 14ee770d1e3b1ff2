-- Trees of atoms, trees of sets, and expressions.
use Rattle.std.proofs.Common.{◌≡◌, ℕ, ◌+◌, ◌<◌, ◌≤◌, Bool, true, List, [], ◌∷◌, length, drop, slice_get, Option, Some, None, refl, sym, ap, subst, ◌∙◌, arith}
use Rattle.std.proofs.lemmas.Bool.{and_parts, and_from}
use Rattle.wi_regex.specs.declared.regex.Regex.{Regex}
use Rattle.wi_regex.specs.declared.regex.Regex.TheVariants as regex
use Rattle.wi_regex.specs.Matching.{position_count}
use Rattle.wi_syntax.specs.declared.written.Sign.{Sign}
use Rattle.wi_syntax.specs.declared.written.Sign.TheVariants as sign
use Rattle.wi_syntax.specs.Trees.{Tree, Leaf, Starred, Plussed, Optional, Grouped, Then, Or, Level, AnItem, ASequence, AnExpression, is_tree, signs_of, IsExpression}
use Rattle.wi_query.specs.Sets.{SymbolMarks, holds}
use Rattle.wi_query.specs.Compiled.{IsWithin}
use Rattle.wi_query.specs.Meaning.{IsRegexOf, AreSignsOf}
use Rattle.wi_query.specs.Faults.{atom_count}
use Rattle.wi_query.specs.private.Frames.{SetTree, TreeReading, finished, set_sign, set_signs, after_sign, after_signs, at_start, IsOperand, IsReading}
use Rattle.wi_query.specs.declared.tree.Reading.{Reading}
use Rattle.wi_query.proofs.Lists.{left_at, nothing_after}
use Rattle.wi_query.proofs.Running.{tree_is_read}

abbrev set_tree : {A : Type 0} → (A → SymbolMarks) → Tree A → Tree SymbolMarks
set_tree m (Leaf a) = Leaf (m a)
set_tree m (Starred t) = Starred (set_tree m t)
set_tree m (Plussed t) = Plussed (set_tree m t)
set_tree m (Optional t) = Optional (set_tree m t)
set_tree m (Grouped t) = Grouped (set_tree m t)
set_tree m (Then a b) = Then (set_tree m a) (set_tree m b)
set_tree m (Or a b) = Or (set_tree m a) (set_tree m b)

module _ {A : Type 0} (m : A → SymbolMarks) where
  set_tree_signs : (t : Tree A) (rest : List (Sign A)) → signs_of (set_tree m t) (set_signs m rest) ≡ set_signs m (signs_of t rest)
  set_tree_signs (Leaf a) rest = refl
  set_tree_signs (Starred t) rest = set_tree_signs t (sign.Star ∷ rest)
  set_tree_signs (Plussed t) rest = set_tree_signs t (sign.Plus ∷ rest)
  set_tree_signs (Optional t) rest = set_tree_signs t (sign.Maybe ∷ rest)
  set_tree_signs (Grouped t) rest = ap (λ signs. sign.Open ∷ signs) (set_tree_signs t (sign.Close ∷ rest))
  set_tree_signs (Then a b) rest = ap (λ signs. signs_of (set_tree m a) signs) (set_tree_signs b rest) ∙ set_tree_signs a (signs_of b rest)
  set_tree_signs (Or a b) rest = ap (λ signs. signs_of (set_tree m a) (sign.Or ∷ signs)) (set_tree_signs b rest) ∙ set_tree_signs a (sign.Or ∷ signs_of b rest)

  set_tree_is : (level : Level) (t : Tree A) → is_tree (λ a. true) level t ≡ true → is_tree (λ a. true) level (set_tree m t) ≡ true
  set_tree_is level (Leaf a) h = refl
  set_tree_is level (Starred t) h = set_tree_is AnItem t h
  set_tree_is level (Plussed t) h = set_tree_is AnItem t h
  set_tree_is level (Optional t) h = set_tree_is AnItem t h
  set_tree_is level (Grouped t) h = set_tree_is AnExpression t h
  set_tree_is AnItem (Then a b) h = h
  set_tree_is ASequence (Then a b) h =
      let parts = and_parts (is_tree (λ a. true) ASequence a) (is_tree (λ a. true) AnItem b) h in
      and_from (is_tree (λ a. true) ASequence (set_tree m a)) (is_tree (λ a. true) AnItem (set_tree m b)) (set_tree_is ASequence a parts.0) (set_tree_is AnItem b parts.1)
  set_tree_is AnExpression (Then a b) h =
      let parts = and_parts (is_tree (λ a. true) ASequence a) (is_tree (λ a. true) AnItem b) h in
      and_from (is_tree (λ a. true) ASequence (set_tree m a)) (is_tree (λ a. true) AnItem (set_tree m b)) (set_tree_is ASequence a parts.0) (set_tree_is AnItem b parts.1)
  set_tree_is AnItem (Or a b) h = h
  set_tree_is ASequence (Or a b) h = h
  set_tree_is AnExpression (Or a b) h =
      let parts = and_parts (is_tree (λ a. true) AnExpression a) (is_tree (λ a. true) ASequence b) h in
      and_from (is_tree (λ a. true) AnExpression (set_tree m a)) (is_tree (λ a. true) ASequence (set_tree m b)) (set_tree_is AnExpression a parts.0) (set_tree_is ASequence b parts.1)

  -- the sets of a tree's atoms are what the atoms mean
  set_tree_regex : (t : Tree A) (r : Regex SymbolMarks) → IsRegexOf holds (set_tree m t) r → IsRegexOf (λ a x. holds (m a) x) t r
  set_tree_regex (Leaf a) (regex.Atom set) h = h
  set_tree_regex (Starred t) (regex.Star' p r) h = set_tree_regex t r h
  set_tree_regex (Plussed t) (regex.Plus' p r) h = set_tree_regex t r h
  set_tree_regex (Optional t) (regex.Maybe' p r) h = set_tree_regex t r h
  set_tree_regex (Grouped t) r h = set_tree_regex t r h
  set_tree_regex (Then a b) (regex.Concat' p r q s) h = (set_tree_regex a r h.0, set_tree_regex b s h.1)
  set_tree_regex (Or a b) (regex.Either' p r q s) h = (set_tree_regex a r h.0, set_tree_regex b s h.1)
  set_tree_regex t r h = absurd h

  -- what was read of the signs of an expression
  finished_read : (signs : List (Sign A)) (e : IsExpression (λ a. true) signs) (r : TreeReading SymbolMarks) → r ≡ after_signs at_start (set_signs m signs) → finished r.current ≡ Some (set_tree m e.0)
  finished_read signs e r is =
      ap (λ (s : TreeReading SymbolMarks). finished s.current) (is ∙ ap (λ s. after_signs at_start s) (ap (λ s. set_signs m s) (sym e.2) ∙ sym (set_tree_signs e.0 [])))
      ∙ tree_is_read (set_tree m e.0) (set_tree_is AnExpression e.0 e.1)

  -- what was read so far, and what the signs that are left make of it
  abbrev Reads : List (Sign A) → ℕ → Reading → Type 0
  Reads signs i r = (t : TreeReading SymbolMarks) × IsReading t r × (after_signs t (set_signs m (drop i signs)) ≡ after_signs at_start (set_signs m signs))

  -- one sign more
  pub sign_read : (signs : List (Sign A)) (i : ℕ) (s : Sign A) (set : Sign SymbolMarks) (old new : Reading)
      → ((t : TreeReading SymbolMarks) × IsReading t old × (after_signs t (set_signs m (drop i signs)) ≡ after_signs at_start (set_signs m signs)))
      → slice_get signs i ≡ Some s → set ≡ set_sign m s → ((t : TreeReading SymbolMarks) → IsReading t old → IsReading (after_sign t set) new)
      → (t : TreeReading SymbolMarks) × IsReading t new × (after_signs t (set_signs m (drop (i + 1) signs)) ≡ after_signs at_start (set_signs m signs))
  sign_read signs i s set old new so_far there made step = (
    after_sign so_far.0 set,
    step so_far.0 so_far.1,
    rw made (sym (ap (λ left. after_signs so_far.0 (set_signs m left)) (left_at signs i s there)) ∙ so_far.2),
  )

  -- all of them
  all_read : (signs : List (Sign A)) (i : ℕ) (r : Reading) → Reads signs i r → length signs ≤ i → (t : TreeReading SymbolMarks) × IsReading t r × (t ≡ after_signs at_start (set_signs m signs))
  all_read signs i r so_far past = (so_far.0, so_far.1, sym (ap (λ left. after_signs so_far.0 (set_signs m left)) (nothing_after signs i past)) ∙ so_far.2)

  pub regex_is_read : (signs : List (Sign A)) (e : IsExpression (λ a. true) signs) (i : ℕ) (r : Reading) (part : Option (Regex SymbolMarks)) (made : Regex SymbolMarks)
      → ((t : TreeReading SymbolMarks) × IsReading t r × (after_signs t (set_signs m (drop i signs)) ≡ after_signs at_start (set_signs m signs)))
      → length signs ≤ i → ((t : TreeReading SymbolMarks) → IsReading t r → IsOperand (finished t.current) part) → part ≡ Some made → AreSignsOf (λ a x. holds (m a) x) signs made
  regex_is_read signs e i r part made so_far past held is =
      let all = all_read signs i r so_far past in
      let P : Option SetTree → Option (Regex SymbolMarks) → Type 0 = IsOperand in
      let first : IsOperand (finished (all.0).current) (Some made) = subst (λ p. P (finished (all.0).current) p) is (held all.0 all.1) in
      let whole : IsOperand (Some (set_tree m e.0)) (Some made) = subst (λ o. P o (Some made)) (finished_read signs e all.0 all.2) first in
      (e.0, e.1, e.2, set_tree_regex e.0 made whole)

  pub something_is_read : (signs : List (Sign A)) (e : IsExpression (λ a. true) signs) (i : ℕ) (r : Reading) (part : Option (Regex SymbolMarks))
      → ((t : TreeReading SymbolMarks) × IsReading t r × (after_signs t (set_signs m (drop i signs)) ≡ after_signs at_start (set_signs m signs)))
      → length signs ≤ i → ((t : TreeReading SymbolMarks) → IsReading t r → IsOperand (finished t.current) part) → part ≡ None → ⊥
  something_is_read signs e i r part so_far past held is =
      let all = all_read signs i r so_far past in
      let P : Option SetTree → Option (Regex SymbolMarks) → Type 0 = IsOperand in
      let first : IsOperand (finished (all.0).current) None = subst (λ p. P (finished (all.0).current) p) is (held all.0 all.1) in
      let whole : IsOperand (Some (set_tree m e.0)) None = subst (λ o. P o None) (finished_read signs e all.0 all.2) first in whole

module _ {A : Type 0} where
  -- trees whose atoms pass any test
  pub any_tree : (p : A → Bool) (level : Level) (t : Tree A) → is_tree p level t ≡ true → is_tree (λ a. true) level t ≡ true
  any_tree p level (Leaf a) h = refl
  any_tree p level (Starred t) h = any_tree p AnItem t h
  any_tree p level (Plussed t) h = any_tree p AnItem t h
  any_tree p level (Optional t) h = any_tree p AnItem t h
  any_tree p level (Grouped t) h = any_tree p AnExpression t h
  any_tree p AnItem (Then a b) h = h
  any_tree p ASequence (Then a b) h =
      let parts = and_parts (is_tree p ASequence a) (is_tree p AnItem b) h in
      and_from (is_tree (λ a. true) ASequence a) (is_tree (λ a. true) AnItem b) (any_tree p ASequence a parts.0) (any_tree p AnItem b parts.1)
  any_tree p AnExpression (Then a b) h =
      let parts = and_parts (is_tree p ASequence a) (is_tree p AnItem b) h in
      and_from (is_tree (λ a. true) ASequence a) (is_tree (λ a. true) AnItem b) (any_tree p ASequence a parts.0) (any_tree p AnItem b parts.1)
  any_tree p AnItem (Or a b) h = h
  any_tree p ASequence (Or a b) h = h
  any_tree p AnExpression (Or a b) h =
      let parts = and_parts (is_tree p AnExpression a) (is_tree p ASequence b) h in
      and_from (is_tree (λ a. true) AnExpression a) (is_tree (λ a. true) ASequence b) (any_tree p AnExpression a parts.0) (any_tree p ASequence b parts.1)

  pub any_expression : (p : A → Bool) (signs : List (Sign A)) → IsExpression p signs → IsExpression (λ a. true) signs
  any_expression p signs e = (e.0, any_tree p AnExpression e.0 e.1, e.2)

  -- what atoms mean, symbol by symbol
  same_regex : (f g : A → ℕ → Bool) → ((a : A) (x : ℕ) → f a x ≡ g a x) → (t : Tree A) (r : Regex SymbolMarks) → IsRegexOf f t r → IsRegexOf g t r
  same_regex f g same (Leaf a) (regex.Atom set) h = λ x. h x ∙ same a x
  same_regex f g same (Starred t) (regex.Star' p r) h = same_regex f g same t r h
  same_regex f g same (Plussed t) (regex.Plus' p r) h = same_regex f g same t r h
  same_regex f g same (Optional t) (regex.Maybe' p r) h = same_regex f g same t r h
  same_regex f g same (Grouped t) r h = same_regex f g same t r h
  same_regex f g same (Then a b) (regex.Concat' p r q s) h = (same_regex f g same a r h.0, same_regex f g same b s h.1)
  same_regex f g same (Or a b) (regex.Either' p r q s) h = (same_regex f g same a r h.0, same_regex f g same b s h.1)
  same_regex f g same t r h = absurd h

  pub same_meaning : (f g : A → ℕ → Bool) (signs : List (Sign A)) (r : Regex SymbolMarks) → ((a : A) (x : ℕ) → f a x ≡ g a x) → AreSignsOf f signs r → AreSignsOf g signs r
  same_meaning f g signs r same h = (h.0, h.1, h.2, same_regex f g same h.0 r h.3)

  -- symbols below a number
  within_tree : (means : A → ℕ → Bool) (n : ℕ) → ((a : A) (x : ℕ) → means a x ≡ true → x < n) → (t : Tree A) (r : Regex SymbolMarks) → IsRegexOf means t r → IsWithin n r
  within_tree means n low (Leaf a) (regex.Atom set) h = λ x e. low a x (sym (h x) ∙ e)
  within_tree means n low (Starred t) (regex.Star' p r) h = within_tree means n low t r h
  within_tree means n low (Plussed t) (regex.Plus' p r) h = within_tree means n low t r h
  within_tree means n low (Optional t) (regex.Maybe' p r) h = within_tree means n low t r h
  within_tree means n low (Grouped t) r h = within_tree means n low t r h
  within_tree means n low (Then a b) (regex.Concat' p r q s) h = (within_tree means n low a r h.0, within_tree means n low b s h.1)
  within_tree means n low (Or a b) (regex.Either' p r q s) h = (within_tree means n low a r h.0, within_tree means n low b s h.1)
  within_tree means n low t r h = absurd h

  pub within_signs : (means : A → ℕ → Bool) (n : ℕ) (signs : List (Sign A)) (r : Regex SymbolMarks) → ((a : A) (x : ℕ) → means a x ≡ true → x < n) → AreSignsOf means signs r → IsWithin n r
  within_signs means n signs r low h = within_tree means n low h.0 r h.3

  -- positions are occurrences of atoms
  counted : (means : A → ℕ → Bool) (t : Tree A) (r : Regex SymbolMarks) (rest : List (Sign A)) → IsRegexOf means t r → atom_count (signs_of t rest) ≡ position_count r + atom_count rest
  counted means (Leaf a) (regex.Atom set) rest h = omega arith
  counted means (Starred t) (regex.Star' p r) rest h = counted means t r (sign.Star ∷ rest) h
  counted means (Plussed t) (regex.Plus' p r) rest h = counted means t r (sign.Plus ∷ rest) h
  counted means (Optional t) (regex.Maybe' p r) rest h = counted means t r (sign.Maybe ∷ rest) h
  counted means (Grouped t) r rest h = counted means t r (sign.Close ∷ rest) h
  counted means (Then a b) (regex.Concat' p r q s) rest h = omega (arith, counted means a r (signs_of b rest) h.0, counted means b s rest h.1)
  counted means (Or a b) (regex.Either' p r q s) rest h = omega (arith, counted means a r (sign.Or ∷ signs_of b rest) h.0, counted means b s rest h.1)
  counted means t r rest h = absurd h

  pub position_count_is : (means : A → ℕ → Bool) (signs : List (Sign A)) (r : Regex SymbolMarks) → AreSignsOf means signs r → position_count r ≡ atom_count signs
  position_count_is means signs r h = omega (arith, ap atom_count h.2, counted means h.0 r [] h.3)

  atoms_among : (signs : List (Sign A)) → atom_count signs ≤ length signs
  atoms_among [] = omega arith
  atoms_among (s ∷ signs) = one s (atoms_among signs)
    where
      one : (s : Sign A) → atom_count signs ≤ length signs → atom_count (s ∷ signs) ≤ length (s ∷ signs)
      one (sign.Atom a) h = omega arith
      one s h = omega arith

  pub few_positions : (means : A → ℕ → Bool) (signs : List (Sign A)) (r : Regex SymbolMarks) → AreSignsOf means signs r → position_count r ≤ length signs
  few_positions means signs r h = omega (arith, position_count_is means signs r h, atoms_among signs)
