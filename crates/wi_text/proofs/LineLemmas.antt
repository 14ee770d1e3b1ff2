-- Where bytes are cut, and lines one after another.
use Rattle.std.proofs.Common.{◌≡◌, ℕ, zero, suc, ◌+◌, ◌<◌, ◌≤◌, Bool, true, false, cond, not, ◌-◌, add-one, nat_eq, nat_lt, take, drop, List, [], ◌∷◌, ◌++◌, Some, None, length, position, refl, sym, ap, ap₂, subst, ◌∙◌, arith}
use Rattle.std.specs.Prelude.{◌==◌}
use Rattle.std.specs.List.{position_or_len}
use Rattle.std.proofs.lemmas.Bool.{true≢false, eqb-true, ltb-true, ltb-false}
use Rattle.std.proofs.lemmas.List.{append_assoc, take_rest}
use Rattle.std.proofs.lemmas.Option.{none-some, cond_some}
use Rattle.wi_text.specs.Lines.{AreLines, lines_bytes, is_one_line}

-- ---- a line

abbrev feed : ℕ → Bool
feed b = b == 10

found : (bytes : List ℕ) (n : ℕ) → position_or_len feed bytes ≡ n → n < length bytes → (bytes ≡ take n bytes ++ 10 ∷ drop (suc n) bytes) × (is_one_line (take n bytes) ≡ true)
found [] n is within = absurd (omega arith)
found (b ∷ bytes) n is within = by (nat_eq b 10) refl n is within (found bytes (position_or_len feed bytes) refl)
  where
    by : (t : Bool) → nat_eq b 10 ≡ t → (n : ℕ) → cond (not t) (1 + position_or_len feed bytes) 0 ≡ n → n < length (b ∷ bytes)
        → (position_or_len feed bytes < length bytes → (bytes ≡ take (position_or_len feed bytes) bytes ++ 10 ∷ drop (suc (position_or_len feed bytes)) bytes) × (is_one_line (take (position_or_len feed bytes) bytes) ≡ true))
        → (b ∷ bytes ≡ take n (b ∷ bytes) ++ 10 ∷ drop (suc n) (b ∷ bytes)) × (is_one_line (take n (b ∷ bytes)) ≡ true)
    by true here zero is within below = (ap (λ x. x ∷ bytes) (eqb-true b 10 here), refl)
    by true here (suc n) is within below = absurd (omega arith)
    by false here zero is within below = absurd (omega arith)
    by false here (suc n) is within below =
        let same : position_or_len feed bytes ≡ n = omega arith in
        let more = rw same at (below (omega arith)) in
        (ap (λ x. b ∷ x) more.0, rw here more.1)

unfound : (bytes : List ℕ) → length bytes ≤ position_or_len feed bytes → is_one_line bytes ≡ true
unfound [] past = refl
unfound (b ∷ bytes) past = by (nat_eq b 10) refl past (unfound bytes)
  where
    by : (t : Bool) → nat_eq b 10 ≡ t → length (b ∷ bytes) ≤ cond (not t) (1 + position_or_len feed bytes) 0 → (length bytes ≤ position_or_len feed bytes → is_one_line bytes ≡ true) → is_one_line (b ∷ bytes) ≡ true
    by true here past below = absurd (omega arith)
    by false here past below = rw here (below (omega arith))

pub cut_none : (bytes : List ℕ) → None ≡ position feed bytes → is_one_line bytes ≡ true
cut_none bytes e = by (nat_lt (position_or_len feed bytes) (length bytes)) refl e
  where
    by : (t : Bool) → nat_lt (position_or_len feed bytes) (length bytes) ≡ t → None ≡ cond t (Some (position_or_len feed bytes)) None → is_one_line bytes ≡ true
    by true is e = absurd (none-some (position_or_len feed bytes) e)
    by false is e = unfound bytes (ltb-false (position_or_len feed bytes) (length bytes) is)

pub cut_some : (bytes : List ℕ) (n : ℕ) → Some n ≡ position feed bytes → (bytes ≡ take n bytes ++ 10 ∷ take (length bytes - (n + 1)) (drop (n + 1) bytes)) × (is_one_line (take n bytes) ≡ true)
cut_some bytes n e =
    let parts : (nat_lt (position_or_len feed bytes) (length bytes) ≡ true) × (position_or_len feed bytes ≡ n) = cond_some (nat_lt (position_or_len feed bytes) (length bytes)) (position_or_len feed bytes) n (sym e) in
    let cut = found bytes n parts.1 (subst (λ x. x < length bytes) parts.1 (ltb-true (position_or_len feed bytes) (length bytes) parts.0)) in
    (cut.0 ∙ ap (λ x. take n bytes ++ 10 ∷ x) (rw (← add-one n) (sym (take_rest bytes (n + 1)))), cut.1)

-- ---- lists of lines

pub lines_append : (before : List (List ℕ)) (line : List ℕ) → AreLines before → is_one_line line ≡ true → AreLines (before ++ line ∷ [])
lines_append [] line are is = (is, tt)
lines_append (first ∷ before) line are is = (are.0, lines_append before line are.1 is)

pub bytes_append : (before : List (List ℕ)) (line rest : List ℕ) → lines_bytes (before ++ line ∷ []) ++ rest ≡ lines_bytes before ++ (line ++ 10 ∷ rest)
bytes_append [] line rest = append_assoc line (10 ∷ []) rest
bytes_append (first ∷ before) line rest =
    append_assoc first (10 ∷ lines_bytes (before ++ line ∷ [])) rest
    ∙ ap (λ x. first ++ 10 ∷ x) (bytes_append before line rest)
    ∙ sym (append_assoc first (10 ∷ lines_bytes before) (line ++ 10 ∷ rest))

-- ---- there is one way to cut

pub not_nothing : (line rest : List ℕ) → [] ≡ line ++ 10 ∷ rest → ⊥
not_nothing [] rest e = cc
not_nothing (b ∷ line) rest e = cc

pub no_feed : (left right : List ℕ) → is_one_line (left ++ 10 ∷ right) ≡ true → ⊥
no_feed [] right is = cc
no_feed (b ∷ left) right is = by (nat_eq b 10) refl (no_feed left right)
  where
    by : (t : Bool) → nat_eq b 10 ≡ t → (is_one_line (left ++ 10 ∷ right) ≡ true → ⊥) → ⊥
    by true here below = true≢false (sym (rw here at is))
    by false here below = below (rw here at is)

-- a line ends at the first line feed
pub ends : (a b r s : List ℕ) → is_one_line a ≡ true → is_one_line b ≡ true → a ++ 10 ∷ r ≡ b ++ 10 ∷ s → (a ≡ b) × (r ≡ s)
ends [] [] r s one other e = (refl, cc)
ends [] (y ∷ b) r s one other e = let feed : 10 ≡ y = cc in let bad : false ≡ true = rw (← feed) at other in absurd (true≢false (sym bad))
ends (x ∷ a) [] r s one other e = let feed : x ≡ 10 = cc in let bad : false ≡ true = rw feed at one in absurd (true≢false (sym bad))
ends (x ∷ a) (y ∷ b) r s one other e =
    let rest = ends a b r s (later x a one) (later y b other) cc in
    let same : x ≡ y = cc in
    (rw (same, rest.0) refl, rest.1)
  where
    later : (x : ℕ) (a : List ℕ) → is_one_line (x ∷ a) ≡ true → is_one_line a ≡ true
    later x a one = by (nat_eq x 10) refl
      where
        by : (t : Bool) → nat_eq x 10 ≡ t → is_one_line a ≡ true
        by true here = absurd (true≢false (sym (rw here at one)))
        by false here = rw here at one

-- lines that begin a text begin its lines
pub lines_begin : (all before : List (List ℕ)) (left : List ℕ) → AreLines all → AreLines before → lines_bytes all ≡ lines_bytes before ++ left → (more : List (List ℕ)) × (all ≡ before ++ more) × (left ≡ lines_bytes more) × AreLines more
lines_begin all [] left are some e = (all, refl, sym e, are)
lines_begin [] (y ∷ before) left are some e = absurd (not_nothing y (lines_bytes before ++ left) (e ∙ append_assoc y (10 ∷ lines_bytes before) left))
lines_begin (x ∷ all) (y ∷ before) left are some e =
    let cut = ends x y (lines_bytes all) (lines_bytes before ++ left) are.0 some.0 (e ∙ append_assoc y (10 ∷ lines_bytes before) left) in
    let later = lines_begin all before left are.1 some.1 cut.1 in
    (later.0, ap₂ (λ (z : List ℕ) (zs : List (List ℕ)). z ∷ zs) cut.0 later.1, later.2, later.3)

-- of two ways to begin a text with lines, either the lines are the same, or those of one go on where the other's end
pub record GoOn (before longer : List (List ℕ)) (left : List ℕ) : Type 0 where
  pub line : List ℕ
  pub after : List (List ℕ)
  pub rest : List ℕ
  pub longer_is : longer ≡ before ++ line ∷ after
  pub left_is : left ≡ line ++ 10 ∷ rest
  pub one : is_one_line line ≡ true

go_on : (x y : List ℕ) (before longer : List (List ℕ)) (left : List ℕ) → x ≡ y → GoOn before longer left → GoOn (x ∷ before) (y ∷ longer) left
go_on x y before longer left same g = record {
  line = g.line;
  after = g.after;
  rest = g.rest;
  longer_is = ap₂ (λ (z : List ℕ) (zs : List (List ℕ)). z ∷ zs) (sym same) g.longer_is;
  left_is = g.left_is;
  one = g.one;
}

pub data Begun (a b : List (List ℕ)) (r s : List ℕ) : Type 0 where
  Same : a ≡ b → r ≡ s → Begun a b r s
  Shorter : GoOn a b r → Begun a b r s
  Longer : GoOn b a s → Begun a b r s

begun_more : (x y : List ℕ) (a b : List (List ℕ)) (r s : List ℕ) → x ≡ y → Begun a b r s → Begun (x ∷ a) (y ∷ b) r s
begun_more x y a b r s same (Same lines left) = Same (ap₂ (λ (z : List ℕ) (zs : List (List ℕ)). z ∷ zs) same lines) left
begun_more x y a b r s same (Shorter g) = Shorter (go_on x y a b r same g)
begun_more x y a b r s same (Longer g) = Longer (go_on y x b a s (sym same) g)

pub begun : (a b : List (List ℕ)) (r s : List ℕ) → AreLines a → AreLines b → lines_bytes a ++ r ≡ lines_bytes b ++ s → Begun a b r s
begun [] [] r s one other e = Same refl e
begun [] (y ∷ b) r s one other e = Shorter (record { line = y; after = b; rest = lines_bytes b ++ s; longer_is = refl; left_is = e ∙ append_assoc y (10 ∷ lines_bytes b) s; one = other.0 })
begun (x ∷ a) [] r s one other e = Longer (record { line = x; after = a; rest = lines_bytes a ++ r; longer_is = refl; left_is = sym e ∙ append_assoc x (10 ∷ lines_bytes a) r; one = one.0 })
begun (x ∷ a) (y ∷ b) r s one other e =
    let cut = ends x y (lines_bytes a ++ r) (lines_bytes b ++ s) one.0 other.0 (sym (append_assoc x (10 ∷ lines_bytes a) r) ∙ e ∙ append_assoc y (10 ∷ lines_bytes b) s) in
    begun_more x y a b r s cut.0 (begun a b r s one.1 other.1 cut.1)
