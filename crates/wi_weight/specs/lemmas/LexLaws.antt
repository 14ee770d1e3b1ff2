-- The laws of lists of numbers of one length, in dictionary order.
use Rattle.std.specs.Prelude.{◌≡◌, ℕ, zero, suc, ◌+◌, ◌≢◌, List, [], ◌∷◌, length, refl}
use Rattle.std.specs.declared.cmp.Ordering.TheVariants.{Equal, Greater}
use Rattle.std.specs.Ordering.{nat_cmp}
use Rattle.std.specs.Cmp.Lexicographic.{slice_cmp}
use Rattle.std.proofs.lemmas.Cmp.{nat_list_cmp_total}
use Rattle.std.proofs.lemmas.Bool.Decides.{nat_tests}
use Rattle.std.proofs.Common.{◌∙◌, arith}
use Rattle.wi_weight.specs.Weights.{WeightLaws, plus}
use Rattle.wi_weight.specs.Kinds.{lex_scale}
use Rattle.wi_weight.specs.lemmas.Then.{then_same, equal_parts, not_greater}
use Rattle.wi_weight.specs.lemmas.Sums.{same_cons, plus_assoc, plus_comm, length-plus, zero_plus, plus_zero}

nat_tied : (x : ℕ) → nat_cmp x x ≡ Equal
nat_tied x = grind (arith, nat_tests)

nat_same : (x y : ℕ) → nat_cmp x y ≡ Equal → x ≡ y
nat_same x y h = grind (arith, nat_tests)

nat_plus : (x y z : ℕ) → nat_cmp (x + z) (y + z) ≡ nat_cmp x y
nat_plus x y z = grind (arith, nat_tests)

nat_grows : (x z : ℕ) → nat_cmp x (x + z) ≢ Greater
nat_grows x z h = grind (arith, nat_tests)

lex_tied : (a : List ℕ) → slice_cmp nat_cmp a a ≡ Equal
lex_tied [] = refl
lex_tied (x ∷ a) = then_same (nat_tied x) (lex_tied a)

lex_same : (a b : List ℕ) → slice_cmp nat_cmp a b ≡ Equal → a ≡ b
lex_same [] [] h = refl
lex_same [] (y ∷ b) h = cc
lex_same (x ∷ a) [] h = cc
lex_same (x ∷ a) (y ∷ b) h =
    let parts : (nat_cmp x y ≡ Equal) × (slice_cmp nat_cmp a b ≡ Equal) = equal_parts _ _ h in
    same_cons (nat_same x y parts.0) (lex_same a b parts.1)

lex_plus : (n : ℕ) (a b c : List ℕ) → length a ≡ n → length b ≡ n → length c ≡ n → slice_cmp nat_cmp (plus a c) (plus b c) ≡ slice_cmp nat_cmp a b
lex_plus n [] [] c h k l = lex_tied c
lex_plus n [] (y ∷ b) c h k l = absurd (omega arith)
lex_plus n (x ∷ a) [] c h k l = absurd (omega arith)
lex_plus n (x ∷ a) (y ∷ b) [] h k l = absurd (omega arith)
lex_plus zero (x ∷ a) (y ∷ b) (z ∷ c) h k l = absurd (omega arith)
lex_plus (suc n) (x ∷ a) (y ∷ b) (z ∷ c) h k l = then_same (nat_plus x y z) (lex_plus n a b c (omega arith) (omega arith) (omega arith))

lex_grows : (a c : List ℕ) → slice_cmp nat_cmp a (plus a c) ≢ Greater
lex_grows [] [] h = cc
lex_grows [] (z ∷ c) h = cc
lex_grows (x ∷ a) [] h = cc (lex_tied (x ∷ a), h)
lex_grows (x ∷ a) (z ∷ c) h = not_greater _ _ (nat_grows x z) (lex_grows a c) h

-- n numbers in dictionary order keep the laws
pub lex_laws : (n : ℕ) → WeightLaws (lex_scale n)
lex_laws n = record {
  sum = λ a b h k. length-plus n a b h k;
  assoc = λ a b c _ _ _. plus_assoc a b c;
  unit_left = λ a h. zero_plus n a h;
  unit_right = λ a h. plus_zero n a h;
  antisymm = λ a b _ _. nat_list_cmp_total.antisymm a b;
  trans = λ a b c _ _ _. nat_list_cmp_total.trans a b c;
  same = λ a b _ _ e. lex_same a b e;
  strict_right = λ a b c ha hb hc l. lex_plus n a b c ha hb hc ∙ l;
  strict_left = λ a b c ha hb hc l. rw (plus_comm c a, plus_comm c b) (lex_plus n a b c ha hb hc ∙ l);
  grows = λ a c _ _. lex_grows a c;
}
