-- Lines of numbers are read as they are written.
use Rattle.std.specs.Prelude.{◌≡◌, ℕ, ◌+◌, ◌-◌, ◌*◌, ◌/◌, ◌%◌, ◌^◌, ◌<◌, ◌≤◌, true, false, ◌&&◌, ◌==◌, List, [], ◌∷◌, ◌++◌, Option, Some, None, length, refl, nat_lt, option_and_then}
use Rattle.std.specs.Char.{is_ascii_digit}
use Rattle.std.specs.Fmt.{decimal}
use Rattle.std.proofs.Common.{sym, ap, ◌∙◌, subst, arith, append_assoc}
use Rattle.std.proofs.lemmas.Bool.Decides.{nat_tests}
use Rattle.std.proofs.lemmas.Fmt.{decimal_by_steps, decimal_step, decimal_digit}
use Rattle.wi_weight.specs.Weights.{EachBelow}
use Rattle.wi_cert.specs.Numbers.{digit_after, scan, numbers_in, printed, spaced}
use Rattle.wi_cert.proofs.Cases.{by_test, nothing, some_same}

first_digit : (b : ℕ) → 48 ≤ b → b < 58 → digit_after None b ≡ Some (b - 48)
first_digit b low high = let e : is_ascii_digit b ≡ true = grind (arith, nat_tests) in rw e refl

next_digit : (m b n : ℕ) → 48 ≤ b → b < 58 → 0 < m → 10 * m + (b - 48) ≡ n → n < 2 ^ 64 → digit_after (Some m) b ≡ Some n
next_digit m b n low high pos is fits =
    let e : is_ascii_digit b ≡ true = grind (arith, nat_tests) in
    let p : nat_lt 0 m ≡ true = grind (arith, nat_tests) in
    let f : nat_lt n (2 ^ 64) ≡ true = grind (arith, nat_tests) in
    rw (is, e, p, f) refl

scan_first : (before : List ℕ) (b n : ℕ) (rest : List ℕ) → digit_after None b ≡ Some n → scan before None (b ∷ rest) ≡ scan before (Some n) rest
scan_first before b n rest h = rw h refl

scan_next : (before : List ℕ) (m b n : ℕ) (rest : List ℕ) → (b == 32) ≡ false → digit_after (Some m) b ≡ Some n → scan before (Some m) (b ∷ rest) ≡ scan before (Some n) rest
scan_next before m b n rest k h = rw (k, h) refl

pub scan_decimal : (n : ℕ) → n < 2 ^ 64 → (before rest : List ℕ) → scan before None (decimal n ++ rest) ≡ scan before (Some n) rest
scan_decimal n h = decimal_by_steps P one more n h h
  where
    P : ℕ → List ℕ → Type 0
    P n ds = n < 2 ^ 64 → (before rest : List ℕ) → scan before None (ds ++ rest) ≡ scan before (Some n) rest

    one : (n : ℕ) → n < 10 → P n ((48 + n) ∷ [])
    one n lt h before rest = scan_first before (48 + n) n rest (first_digit (48 + n) (omega arith) (omega arith) ∙ ap Some (omega arith))

    more : (n : ℕ) (ds : List ℕ) → 10 ≤ n → P (n / 10) ds → P n (ds ++ ((48 + n % 10) ∷ []))
    more n ds ge ih h before rest =
        let d : ℕ = 48 + n % 10 in
        let apart : (d == 32) ≡ false = grind (arith, nat_tests) in
        let step : digit_after (Some (n / 10)) d ≡ Some n = next_digit (n / 10) d n (omega arith) (omega arith) (omega arith) (omega arith) h in
        ap (λ bs. scan before None bs) (append_assoc ds (d ∷ []) rest) ∙ ih (omega arith) before (d ∷ rest) ∙ scan_next before (n / 10) d n rest apart step

pub scan_spaced : (ns : List ℕ) (before : List ℕ) (n : ℕ) → EachBelow (2 ^ 64) ns → scan before (Some n) (spaced ns) ≡ Some (before ++ n ∷ ns)
scan_spaced [] before n h = refl
scan_spaced (x ∷ xs) before n h = scan_decimal x h.0 (before ++ n ∷ []) (spaced xs) ∙ scan_spaced xs (before ++ n ∷ []) x h.1 ∙ ap Some (append_assoc before (n ∷ []) (x ∷ xs))

-- what is written is read
pub numbers_printed : (n : ℕ) (ns : List ℕ) → EachBelow (2 ^ 64) (n ∷ ns) → numbers_in (printed (n ∷ ns)) ≡ Some (n ∷ ns)
numbers_printed n ns h = scan_decimal n h.0 [] (spaced ns) ∙ scan_spaced ns [] n h.1

-- what stands before the bytes where a word has begun
abbrev pub word_text : Option ℕ → List ℕ
word_text None = []
word_text (Some n) = decimal n

abbrev pub FitsWord : Option ℕ → Type 0
FitsWord None = Unit {0}
FitsWord (Some n) = n < 2 ^ 64

-- the bytes after the front spell the numbers after those before
pub record Spells (before front bs ns : List ℕ) : Type 0 where
  pub tail : List ℕ
  pub whole : ns ≡ before ++ tail
  pub text : front ++ bs ≡ printed tail
  pub fit : EachBelow (2 ^ 64) tail
  pub some : 0 < length tail

first_parts : (b m : ℕ) → digit_after None b ≡ Some m → (48 ≤ b) × (b < 58) × (b ≡ 48 + m)
first_parts b m h = by_test (is_ascii_digit b)
    (λ (e : is_ascii_digit b ≡ true). let low : 48 ≤ b = grind (arith, nat_tests) in let high : b < 58 = grind (arith, nat_tests) in let k : b - 48 ≡ m = some_same (b - 48) m (rw e at h) in (low, high, omega arith))
    (λ (e : is_ascii_digit b ≡ false). nothing m (rw e at h))

digit_parts : (n b m : ℕ) → digit_after (Some n) b ≡ Some m → (48 ≤ b) × (b < 58) × (0 < n) × (10 * n + (b - 48) ≡ m) × (m < 2 ^ 64)
digit_parts n b m h = by_test (is_ascii_digit b && nat_lt 0 n && nat_lt (10 * n + (b - 48)) (2 ^ 64))
    (λ (e : (is_ascii_digit b && nat_lt 0 n && nat_lt (10 * n + (b - 48)) (2 ^ 64)) ≡ true).
    let low : 48 ≤ b = grind (arith, nat_tests) in
    let high : b < 58 = grind (arith, nat_tests) in
    let pos : 0 < n = grind (arith, nat_tests) in
    let small : 10 * n + (b - 48) < 2 ^ 64 = grind (arith, nat_tests) in
    let k : 10 * n + (b - 48) ≡ m = some_same (10 * n + (b - 48)) m (rw e at h) in (low, high, pos, k, omega arith))
    (λ (e : (is_ascii_digit b && nat_lt 0 n && nat_lt (10 * n + (b - 48)) (2 ^ 64)) ≡ false). nothing m (rw e at h))

-- the step of a digit
by_digit : {G : Type 0} (before bs ns : List ℕ) (o : Option ℕ) → option_and_then (λ (s : List ℕ × Option ℕ). scan s.0 s.1 bs) (option_and_then (λ m. Some (before, Some m)) o) ≡ Some ns → ((m : ℕ) → o ≡ Some m → scan before (Some m) bs ≡ Some ns → G) → G
by_digit before bs ns None h f = nothing ns h
by_digit before bs ns (Some m) h f = f m refl h

longer : (n b m : ℕ) (bs : List ℕ) → (48 ≤ b) × (b < 58) × (0 < n) × (10 * n + (b - 48) ≡ m) × (m < 2 ^ 64) → decimal n ++ b ∷ bs ≡ decimal m ++ bs
longer n b m bs h =
    let low : 48 ≤ b = h.0 in
    let high : b < 58 = h.1 in
    let pos : 0 < n = h.2 in
    let is : 10 * n + (b - 48) ≡ m = h.3 in
    let ten : 10 ≤ m = omega arith in
    let quotient : m / 10 ≡ n = omega arith in
    let digit : 48 + m % 10 ≡ b = omega arith in
    let e : decimal m ≡ decimal (m / 10) ++ ((48 + m % 10) ∷ []) = decimal_step m ten h.4 in
    sym (append_assoc (decimal n) (b ∷ []) bs) ∙ ap (λ x. x ++ bs) (sym (e ∙ ap (λ x. decimal x ++ ((48 + m % 10) ∷ [])) quotient ∙ ap (λ x. decimal n ++ x ∷ []) digit))

-- what is read is written
pub scan_spells : (bs before : List ℕ) (word : Option ℕ) (ns : List ℕ) → FitsWord word → scan before word bs ≡ Some ns → Spells before (word_text word) bs ns
scan_spells [] before None ns k h = nothing ns h
scan_spells [] before (Some n) ns k h = record { tail = n ∷ []; whole = same h; text = refl; fit = (k, tt); some = omega arith }
  where
    same : Some (before ++ n ∷ []) ≡ Some ns → ns ≡ before ++ n ∷ []
    same h = cc
scan_spells (b ∷ bs) before None ns k h = by_digit before bs ns (digit_after None b) h (λ m e j.
    let parts = first_parts b m e in
    let low : 48 ≤ b = parts.0 in
    let high : b < 58 = parts.1 in
    let is : b ≡ 48 + m = parts.2 in
    let rest = scan_spells bs before (Some m) ns (omega arith) j in
    record { tail = rest.tail; whole = rest.whole; text = ap (λ x. x ∷ bs) is ∙ ap (λ x. x ++ bs) (sym (decimal_digit m (omega arith))) ∙ rest.text; fit = rest.fit; some = rest.some })
scan_spells (b ∷ bs) before (Some n) ns k h = by_test (b == 32)
    (λ (e : (b == 32) ≡ true).
    let is : b ≡ 32 = grind (arith, nat_tests) in
    spaced_on n b before bs ns is k (scan_spells bs (before ++ n ∷ []) None ns tt (rw e at h)))
    (λ (e : (b == 32) ≡ false). by_digit before bs ns (digit_after (Some n) b) (rw e at h) (λ m j i.
    let parts = digit_parts n b m j in
    let rest = scan_spells bs before (Some m) ns parts.4 i in
    record { tail = rest.tail; whole = rest.whole; text = longer n b m bs parts ∙ rest.text; fit = rest.fit; some = rest.some }))
  where
    after_space : (n : ℕ) (tail bs : List ℕ) → 0 < length tail → bs ≡ printed tail → 32 ∷ bs ≡ spaced tail
    after_space n [] bs some e = absurd (omega arith)
    after_space n (x ∷ xs) bs some e = ap (λ y. 32 ∷ y) e

    spaced_on : (n b : ℕ) (before bs ns : List ℕ) → b ≡ 32 → n < 2 ^ 64 → Spells (before ++ n ∷ []) [] bs ns → Spells before (decimal n) (b ∷ bs) ns
    spaced_on n b before bs ns is k rest = record {
      tail = n ∷ rest.tail;
      whole = rest.whole ∙ append_assoc before (n ∷ []) rest.tail;
      text = ap (λ x. decimal n ++ x ∷ bs) is ∙ ap (λ x. decimal n ++ x) (after_space n rest.tail bs rest.some rest.text);
      fit = (k, rest.fit);
      some = omega arith;
    }

-- The numbers of a line spell it.
pub numbers_spell : (line ns : List ℕ) → numbers_in line ≡ Some ns → (line ≡ printed ns) × EachBelow (2 ^ 64) ns × (0 < length ns)
numbers_spell line ns h =
    let s = scan_spells line [] None ns tt h in
    let same : s.tail ≡ ns = sym s.whole in
    (s.text ∙ ap printed same, subst (EachBelow (2 ^ 64)) same s.fit, subst (λ x. 0 < length x) same s.some)
