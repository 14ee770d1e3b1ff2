-- Names of a letter and a number are names, and no two are the same.
use Rattle.std.proofs.Common.{◌≡◌, ℕ, zero, suc, ◌+◌, ◌%◌, ◌^◌, ◌<◌, ◌≤◌, true, false, nat_eq, nat_lt, List, [], ◌∷◌, ◌++◌, length, map, refl, ap, ◌∙◌, arith}
use Rattle.std.specs.List.{list_any, list_all, range_with_len, position_or_len}
use Rattle.std.specs.Fmt.{decimal}
use Rattle.std.specs.Str.{bytes_eq}
use Rattle.std.proofs.lemmas.Bool.{and_from, and_left, lt-ltb, le-leb, false_from_ne_true}
use Rattle.std.proofs.lemmas.Bool.Decides.{nat_tests}
use Rattle.std.proofs.lemmas.Fmt.{decimal_by_steps, decimal_injective, length-decimal-le}
use Rattle.std.proofs.lemmas.List.Folds.{list_all-append}
use Rattle.std.proofs.lemmas.Slice.Eq.{bytes_eq-Decides}
use Rattle.wi_text.specs.Characters.{is_name_byte}
use Rattle.wi_net.specs.Names.{is_name}
use Rattle.wi_gen.specs.Ring.{numbered}
use Rattle.wi_gen.proofs.RangeLemmas.{none_in_range}

-- digits are bytes of names
digit : (n : ℕ) → n < 10 → is_name_byte (48 + n) ≡ true
digit n small = grind (arith, nat_tests)

decimal_bytes : (n : ℕ) → n < 2 ^ 64 → list_all is_name_byte (decimal n) ≡ true
decimal_bytes n small = decimal_by_steps (λ _ ds. list_all is_name_byte ds ≡ true) one more n small
  where
    one : (n : ℕ) → n < 10 → list_all is_name_byte ((48 + n) ∷ []) ≡ true
    one n low = and_from (is_name_byte (48 + n)) true (digit n low) refl

    more : (n : ℕ) (ds : List ℕ) → 10 ≤ n → list_all is_name_byte ds ≡ true → list_all is_name_byte (ds ++ ((48 + n % 10) ∷ [])) ≡ true
    more n ds high all =
        list_all-append is_name_byte ds ((48 + n % 10) ∷ [])
        ∙ and_from (list_all is_name_byte ds) (list_all is_name_byte ((48 + n % 10) ∷ [])) all (one (n % 10) (omega arith))

-- a letter and a number are a name
pub numbered_is_name : (letter i : ℕ) → is_name_byte letter ≡ true → i ≤ 2000 → is_name (letter ∷ decimal i) ≡ true
numbered_is_name letter i good small =
    let short : length (decimal i) ≤ 4 = length-decimal-le 4 i (omega arith) (omega arith) (omega arith) in
    and_from (nat_lt 0 (suc (length (decimal i)))) _ (lt-ltb 0 (suc (length (decimal i))) (omega arith))
    (and_from _ _ (le-leb (suc (length (decimal i))) 32 (omega arith))
    (and_from (is_name_byte letter) (list_all is_name_byte (decimal i)) good (decimal_bytes i (omega arith))))

-- two numbers make two names
pub numbered_apart : (letter i j : ℕ) → i ≤ 2000 → j ≤ 2000 → (i ≡ j → ⊥) → bytes_eq (letter ∷ decimal i) (letter ∷ decimal j) ≡ false
numbered_apart letter i j small other apart =
    false_from_ne_true (bytes_eq (letter ∷ decimal i) (letter ∷ decimal j))
    (λ e. let same : letter ∷ decimal i ≡ letter ∷ decimal j = (bytes_eq-Decides (letter ∷ decimal i) (letter ∷ decimal j)).0 e in
    apart (decimal_injective i j (omega arith) (omega arith) (cc)))

-- a number's name isn't among those of lower numbers
pub no_lower : (letter at n i : ℕ) → at + n ≤ i → i ≤ 2000
    → list_any (bytes_eq (letter ∷ decimal i)) (map (numbered (letter ∷ [])) (range_with_len at n)) ≡ false
no_lower letter at n i high small =
    none_in_range (bytes_eq (letter ∷ decimal i)) (numbered (letter ∷ [])) at n
    (λ j from to. numbered_apart letter i j small (omega arith) (λ e. absurd (omega arith)))

-- nor is one of another letter
pub no_other : (letter other at n : ℕ) (ds : List ℕ) → nat_eq letter other ≡ false
    → list_any (bytes_eq (letter ∷ ds)) (map (numbered (other ∷ [])) (range_with_len at n)) ≡ false
no_other letter other at n ds apart =
    none_in_range (bytes_eq (letter ∷ ds)) (numbered (other ∷ [])) at n (λ j from to. and_left (nat_eq letter other) (bytes_eq ds (decimal j)) apart)

-- where a number's name stands among names of numbers
pub numbered_at : (letter at n k i : ℕ) → k < n → i ≡ at + k → i ≤ 2000
    → position_or_len (bytes_eq (letter ∷ decimal i)) (map (numbered (letter ∷ [])) (range_with_len at n)) ≡ k
numbered_at letter at zero k i low is small = absurd (omega arith)
numbered_at letter at (suc n) zero i low is small =
    let here : i ≡ at = omega arith in
    let same : bytes_eq (letter ∷ decimal i) (letter ∷ decimal at) ≡ true = (bytes_eq-Decides (letter ∷ decimal i) (letter ∷ decimal at)).1 (ap (λ m. letter ∷ decimal m) here) in
    rw same refl
numbered_at letter at (suc n) (suc k) i low is small =
    let apart : bytes_eq (letter ∷ decimal i) (letter ∷ decimal at) ≡ false = numbered_apart letter i at small (omega arith) (λ e. absurd (omega arith)) in
    rw apart (ap (λ m. 1 + m) (numbered_at letter (at + 1) n k i (omega arith) (omega arith) small) ∙ omega arith)
