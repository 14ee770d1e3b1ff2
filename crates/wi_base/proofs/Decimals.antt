-- Decimals are read as they are written.
use Rattle.std.specs.Prelude.{◌≡◌, ◌≢◌, ℕ, ◌+◌, ◌-◌, ◌*◌, ◌/◌, ◌%◌, ◌^◌, ◌<◌, ◌≤◌, true, false, ◌&&◌, List, [], ◌∷◌, ◌++◌, Option, Some, None, IfSome, refl, nat_lt, option_and_then}
use Rattle.std.specs.Char.{is_ascii_digit}
use Rattle.std.specs.Fmt.{decimal}
use Rattle.std.proofs.Common.{sym, ap, ◌∙◌, arith, append_assoc, append-nil, lit<}
use Rattle.std.proofs.lemmas.Bool.Decides.{nat_tests}
use Rattle.std.proofs.lemmas.Fmt.{decimal_by_steps_wide, decimal_step_wide, decimal_digit}
use Rattle.wi_base.proofs.Cases.{by_test, nothing}
use Rattle.wi_base.specs.private.Decimal.{number_after, number_in}

some_same : (x y : ℕ) → Some x ≡ Some y → x ≡ y
some_same x y h = cc

wide : (n : ℕ) → n < 2 ^ 128 → n < 10 ^ 64
wide n h =
    let top : 2 ^ 128 < 10 ^ 64 = lit< tt in
    omega arith

first_digit : (b : ℕ) → 48 ≤ b → b < 58 → number_after None b ≡ Some (b - 48)
first_digit b low high = let e : is_ascii_digit b ≡ true = grind (arith, nat_tests) in rw e refl

next_digit : (m b n : ℕ) → 48 ≤ b → b < 58 → 0 < m → 10 * m + (b - 48) ≡ n → n < 2 ^ 128 → number_after (Some m) b ≡ Some n
next_digit m b n low high pos is fits =
    let e : is_ascii_digit b ≡ true = grind (arith, nat_tests) in
    let p : nat_lt 0 m ≡ true = grind (arith, nat_tests) in
    let f : nat_lt n (2 ^ 128) ≡ true = grind (arith, nat_tests) in
    rw (is, e, p, f) refl

-- a digit's step
number_step : (so_far : Option ℕ) (b n : ℕ) (rest : List ℕ) → number_after so_far b ≡ Some n → number_in so_far (b ∷ rest) ≡ number_in (Some n) rest
number_step so_far b n rest h = rw h refl

-- what is written is read
number_in-decimal : (n : ℕ) → n < 2 ^ 128 → (rest : List ℕ) → number_in None (decimal n ++ rest) ≡ number_in (Some n) rest
number_in-decimal n h = decimal_by_steps_wide P one more n (wide n h) h
  where
    P : ℕ → List ℕ → Type 0
    P n ds = n < 2 ^ 128 → (rest : List ℕ) → number_in None (ds ++ rest) ≡ number_in (Some n) rest

    one : (n : ℕ) → n < 10 → P n ((48 + n) ∷ [])
    one n lt h rest = number_step None (48 + n) n rest (first_digit (48 + n) (omega arith) (omega arith) ∙ ap Some (omega arith))

    more : (n : ℕ) (ds : List ℕ) → 10 ≤ n → P (n / 10) ds → P n (ds ++ ((48 + n % 10) ∷ []))
    more n ds ge ih h rest =
        let d : ℕ = 48 + n % 10 in
        let step : number_after (Some (n / 10)) d ≡ Some n = next_digit (n / 10) d n (omega arith) (omega arith) (omega arith) (omega arith) h in
        ap (λ bs. number_in None bs) (append_assoc ds (d ∷ []) rest) ∙ ih (omega arith) (d ∷ rest) ∙ number_step (Some (n / 10)) d n rest step

pub decimal_is_read : (n : ℕ) (text : List ℕ) → n < 2 ^ 128 → text ≡ decimal n → number_in None text ≡ Some n
decimal_is_read n text h e = ap (λ bs. number_in None bs) (e ∙ sym (append-nil (decimal n))) ∙ number_in-decimal n h []

first_parts : (b m : ℕ) → number_after None b ≡ Some m → (m < 10) × (b ≡ 48 + m)
first_parts b m h = by_test (is_ascii_digit b)
    (λ (e : is_ascii_digit b ≡ true).
    let low : 48 ≤ b = grind (arith, nat_tests) in
    let high : b < 58 = grind (arith, nat_tests) in
    let k : b - 48 ≡ m = some_same (b - 48) m (rw e at h) in
    (omega arith, omega arith))
    (λ (e : is_ascii_digit b ≡ false). nothing m (rw e at h))

-- m is n with one more digit
record IsLonger (n b m : ℕ) : Type 0 where
  ten : 10 ≤ m
  fits : m < 2 ^ 128
  front : m / 10 ≡ n
  digit : 48 + m % 10 ≡ b

next_parts : (n b m : ℕ) → number_after (Some n) b ≡ Some m → IsLonger n b m
next_parts n b m h = by_test (is_ascii_digit b && nat_lt 0 n && nat_lt (10 * n + (b - 48)) (2 ^ 128))
    (λ (e : (is_ascii_digit b && nat_lt 0 n && nat_lt (10 * n + (b - 48)) (2 ^ 128)) ≡ true).
    let low : 48 ≤ b = grind (arith, nat_tests) in
    let high : b < 58 = grind (arith, nat_tests) in
    let pos : 0 < n = grind (arith, nat_tests) in
    let small : 10 * n + (b - 48) < 2 ^ 128 = grind (arith, nat_tests) in
    let k : 10 * n + (b - 48) ≡ m = some_same (10 * n + (b - 48)) m (rw e at h) in
    record { ten = omega arith; fits = omega arith; front = omega arith; digit = omega arith })
    (λ (e : (is_ascii_digit b && nat_lt 0 n && nat_lt (10 * n + (b - 48)) (2 ^ 128)) ≡ false). nothing m (rw e at h))

longer : (n b m : ℕ) → IsLonger n b m → decimal n ++ b ∷ [] ≡ decimal m
longer n b m h = sym (decimal_step_wide m h.ten (wide m h.fits) ∙ ap (λ x. decimal x ++ ((48 + m % 10) ∷ [])) h.front ∙ ap (λ x. decimal n ++ x ∷ []) h.digit)

-- a step of a read that comes to a number
by_step : {G : Type 0} (bs : List ℕ) (n : ℕ) (o : Option ℕ) → option_and_then (λ (m : ℕ). number_in (Some m) bs) o ≡ Some n → ((m : ℕ) → o ≡ Some m → number_in (Some m) bs ≡ Some n → G) → G
by_step bs n None h f = nothing n h
by_step bs n (Some m) h f = f m refl h

-- the bytes after a decimal continue it
goes_on : (bs : List ℕ) (m n : ℕ) → number_in (Some m) bs ≡ Some n → decimal m ++ bs ≡ decimal n
goes_on [] m n h = append-nil (decimal m) ∙ ap decimal (some_same m n h)
goes_on (b ∷ bs) m n h = by_step bs n (number_after (Some m) b) h (λ k e j.
    sym (append_assoc (decimal m) (b ∷ []) bs) ∙ ap (λ x. x ++ bs) (longer m b k (next_parts m b k e)) ∙ goes_on bs k n j)

-- what is read is written
pub read_is_decimal : (text : List ℕ) (n : ℕ) → number_in None text ≡ Some n → text ≡ decimal n
read_is_decimal [] n h = nothing n h
read_is_decimal (b ∷ bs) n h = by_step bs n (number_after None b) h (λ m e j.
    let parts = first_parts b m e in
    let small : m < 10 = parts.0 in
    ap (λ x. x ∷ bs) parts.1 ∙ ap (λ x. x ++ bs) (sym (decimal_digit m small)) ∙ goes_on bs m n j)

-- the two halves, as a reader's clauses say them
pub some_is_decimal : (text : List ℕ) (r : Option ℕ) → number_in None text ≡ r → IfSome r (λ n. text ≡ decimal n)
some_is_decimal text None e = tt
some_is_decimal text (Some n) e = read_is_decimal text n e

pub none_is_decimal : (text : List ℕ) (r : Option ℕ) → number_in None text ≡ r → r ≡ None → (n : ℕ) → n < 2 ^ 128 → text ≢ decimal n
none_is_decimal text r e none n h is = nothing n (sym none ∙ sym e ∙ decimal_is_read n text h is)
