-- Where a line is cut.
use Rattle.std.proofs.Common.{◌≡◌, ◌≢◌, ℕ, zero, suc, ◌+◌, ◌-◌, ◌<◌, ◌≤◌, Bool, true, false, not, ◌&&◌, cond, nat_eq, List, [], ◌∷◌, ◌++◌, Option, Some, None, length, take, drop, get_or, refl, sym, ap, subst, ◌∙◌, arith, Bor, add-one, option_map, codes}
use Rattle.std.specs.Prelude.{reverse}
use Rattle.std.specs.List.{prefix_len}
use Rattle.std.specs.Option.{MatchOption}
use Rattle.std.specs.Str.{IsUtf8, IsCharBoundary, bytes_eq}
use Rattle.std.specs.Str.Pattern.{FindsTextPrefix, StripsPrefix, FindsChar}
use Rattle.std.proofs.lemmas.Bool.{eq-eqb, ne_eqb}
use Rattle.std.proofs.lemmas.Bool.Decides.{nat_tests}
use Rattle.std.proofs.lemmas.List.{length-reverse, get_or-reverse, reverse-append, reverse-reverse, take-append-drop, length-drop}
use Rattle.std.proofs.lemmas.List.Sums.{prefix_len-le-length, prefix_len_passes}
use Rattle.std.proofs.lemmas.Option.{none-some, same_Some}
use Rattle.std.proofs.lemmas.Slice.Eq.{bytes_eq-Decides}
use Rattle.std.proofs.lemmas.Str.{IsCharBoundary-start, IsCharBoundary-end, IsCharBoundary-after_ascii, IsCharBoundary-before_ascii}
use Rattle.std.proofs.lemmas.Str.Pattern.{find_char}
use Rattle.std.proofs.Math.Seq.{take-append_seam, drop-append_seam}
use Rattle.wi_text.specs.Characters.{is_plain, begins_with}
use Rattle.wi_world.specs.declared.answer.Word.{Word}
use Rattle.wi_world.specs.declared.answer.Word.TheVariants.{Yes, No}
use Rattle.wi_policy.specs.Line.{is_blank, after_blanks, behind, worded, cut}

-- ---- what is blank

blank_ascii : (b : ℕ) → is_blank b ≡ true → b < 128
blank_ascii b blank = grind (arith, nat_tests)

one_more : (n : ℕ) → 1 + n ≡ suc n
one_more n = omega arith

after_dropped : (text : List ℕ) → drop (prefix_len is_blank text) text ≡ after_blanks text
after_dropped [] = refl
after_dropped (b ∷ text) = by (is_blank b) refl (after_dropped text)
  where
    by : (t : Bool) → is_blank b ≡ t → drop (prefix_len is_blank text) text ≡ after_blanks text → drop (cond t (1 + prefix_len is_blank text) 0) (b ∷ text) ≡ cond t (after_blanks text) (b ∷ text)
    by true here below = rw (one_more (prefix_len is_blank text)) below
    by false here below = refl

pub after_is : (text bytes rest : List ℕ) (n : ℕ) → bytes ≡ text → n ≡ prefix_len is_blank bytes → rest ≡ drop n text → rest ≡ after_blanks text
after_is text bytes rest n same counted left = left ∙ ap (λ k. drop k text) (counted ∙ ap (prefix_len is_blank) same) ∙ after_dropped text

-- a text may be cut behind what is blank
pub cut_after : (text bytes : List ℕ) (n : ℕ) → bytes ≡ text → n ≡ prefix_len is_blank bytes → IsUtf8 text → IsCharBoundary text n
cut_after text bytes n same counted utf8 = subst (IsCharBoundary text) (sym (counted ∙ ap (prefix_len is_blank) same)) (by (prefix_len is_blank text) refl)
  where
    by : (k : ℕ) → prefix_len is_blank text ≡ k → IsCharBoundary text k
    by zero is = IsCharBoundary-start text utf8
    by (suc k) is =
        let within : prefix_len is_blank text ≤ length text = prefix_len-le-length is_blank text in
        let blank : is_blank (get_or text k 0) ≡ true = prefix_len_passes is_blank text k 0 (omega arith) in
        rw (← add-one k) (IsCharBoundary-after_ascii text k utf8 (omega arith) (blank_ascii (get_or text k 0) blank))

-- what is left where as many bytes are taken off the end
reverse_dropped : (text : List ℕ) (k : ℕ) → k ≤ length text → reverse (drop (length text - k) (reverse text)) ≡ take k text
reverse_dropped text k within =
    let front : List ℕ = take k text in
    let back : List ℕ = drop k text in
    let many : length (reverse back) ≡ length text - k = length-reverse back ∙ length-drop k text in
    let turned : reverse text ≡ reverse back ++ reverse front = ap reverse (sym (take-append-drop k text)) ∙ reverse-append front back in
    ap reverse (ap (drop (length text - k)) turned ∙ ap (λ n. drop n (reverse back ++ reverse front)) (sym many) ∙ drop-append_seam (reverse back) (reverse front))
    ∙ reverse-reverse front

pub fewer : (text bytes : List ℕ) (n : ℕ) → bytes ≡ text → n ≡ prefix_len is_blank (reverse bytes) → n ≤ length text
fewer text bytes n same counted =
    let within : prefix_len is_blank (reverse text) ≤ length (reverse text) = prefix_len-le-length is_blank (reverse text) in
    let is : n ≡ prefix_len is_blank (reverse text) = counted ∙ ap (λ (b : List ℕ). prefix_len is_blank (reverse b)) same in
    omega (arith, length-reverse text)

pub before_is : (text bytes front : List ℕ) (n : ℕ) → bytes ≡ text → n ≡ prefix_len is_blank (reverse bytes) → front ≡ take (length text - n) text → front ≡ reverse (after_blanks (reverse text))
before_is text bytes front n same counted left =
    let within : n ≤ length text = fewer text bytes n same counted in
    let back : length text - (length text - n) ≡ n = omega arith in
    let few : length text - n ≤ length text = omega arith in
    let is : n ≡ prefix_len is_blank (reverse text) = counted ∙ ap (λ (b : List ℕ). prefix_len is_blank (reverse b)) same in
    left ∙ sym (reverse_dropped text (length text - n) few)
    ∙ ap (λ k. reverse (drop k (reverse text))) (back ∙ is)
    ∙ ap reverse (after_dropped (reverse text))

-- a text may be cut before what is blank at its end
pub cut_before : (text bytes : List ℕ) (n : ℕ) → bytes ≡ text → n ≡ prefix_len is_blank (reverse bytes) → IsCharBoundary text (length text - n)
cut_before text bytes n same counted = by n (counted ∙ ap (λ (b : List ℕ). prefix_len is_blank (reverse b)) same) (fewer text bytes n same counted)
  where
    by : (k : ℕ) → k ≡ prefix_len is_blank (reverse text) → k ≤ length text → IsCharBoundary text (length text - k)
    by zero is within = let whole : length text ≡ length text - 0 = omega arith in subst (IsCharBoundary text) whole (IsCharBoundary-end text)
    by (suc k) is within =
        let blank : is_blank (get_or (reverse text) k 0) ≡ true = prefix_len_passes is_blank (reverse text) k 0 (omega arith) in
        let at : length text - 1 - k ≡ length text - suc k = omega arith in
        let same_byte : get_or (reverse text) k 0 ≡ get_or text (length text - suc k) 0 = get_or-reverse text k 0 (omega arith) ∙ ap (λ i. get_or text i 0) at in
        IsCharBoundary-before_ascii text (length text - suc k) (omega arith) (subst (λ b. b < 128) same_byte (blank_ascii (get_or (reverse text) k 0) blank))

-- ---- where the query begins

cut_off : (text : List ℕ) → ((i : ℕ) → i < length text → get_or text i 0 ≢ 60) → cut text ≡ None
cut_off [] other = refl
cut_off (b ∷ text) other =
    let first : b ≢ 60 = other 0 (omega arith) in
    let below : (i : ℕ) → i < length text → get_or text i 0 ≢ 60 = λ i h. other (suc i) (omega arith) in
    rw (ne_eqb b 60 first, cut_off text below) refl

cut_on : (text : List ℕ) (k : ℕ) → k < length text → get_or text k 0 ≡ 60 → ((i : ℕ) → i < k → get_or text i 0 ≢ 60) → cut text ≡ Some (take k text, drop k text)
cut_on [] k within here other = absurd (omega arith)
cut_on (b ∷ text) zero within here other = rw (eq-eqb b 60 here) refl
cut_on (b ∷ text) (suc k) within here other =
    let first : b ≢ 60 = other 0 (omega arith) in
    let below : (i : ℕ) → i < k → get_or text i 0 ≢ 60 = λ i h. other (suc i) (omega arith) in
    rw (ne_eqb b 60 first, cut_on text k (omega arith) here below) refl

abbrev pub Finds : List ℕ → Option ℕ → Type 0
Finds text r = MatchOption r (FindsChar 60 text None) (λ i. (j : ℕ) × FindsChar 60 text (Some (i, j)) × (i ≤ j) × IsCharBoundary text i × IsCharBoundary text j)

pub cut_none : (text : List ℕ) → Finds text None → None ≡ cut text
cut_none text found = sym (cut_off text (find_char 60 text None found (omega arith)))

pub cut_some : (text front back : List ℕ) (k : ℕ) → Finds text (Some k) → front ≡ take k text → back ≡ drop k text → Some (front, back) ≡ cut text
cut_some text front back k found f b =
    let at : (k < length text) × (get_or text k 0 ≡ 60) × ((i : ℕ) → i < k → get_or text i 0 ≢ 60) = find_char 60 text (Some k) found (omega arith) in
    rw (f, b) (sym (cut_on text k at.0 at.1 at.2))

-- ---- words

word_off : (word text : List ℕ) → ((rest : List ℕ) → text ≢ word ++ rest) → behind word text ≡ None
word_off word text lacks = by (bytes_eq (take (length word) text) word) refl
  where
    by : (t : Bool) → bytes_eq (take (length word) text) word ≡ t → cond (t && not (begins_with is_plain (drop (length word) text))) (Some (drop (length word) text)) None ≡ None
    by true is =
        let same : take (length word) text ≡ word = (bytes_eq-Decides (take (length word) text) word).0 is in
        absurd (lacks (drop (length word) text) (sym (take-append-drop (length word) text) ∙ ap (λ w. w ++ drop (length word) text) same))
    by false is = refl

word_on : (word rest : List ℕ) (t : Bool) → begins_with is_plain rest ≡ t → behind word (word ++ rest) ≡ cond t None (Some rest)
word_on word rest true plain = rw (drop-append_seam word rest, plain, and_no (bytes_eq (take (length word) (word ++ rest)) word)) refl
  where
    and_no : (b : Bool) → (b && false) ≡ false
    and_no true = refl
    and_no false = refl
word_on word rest false plain = rw (drop-append_seam word rest, take-append_seam word rest, plain, (bytes_eq-Decides word word).1 refl) refl

abbrev pub Strips : List ℕ → List ℕ → Option (Bor (List ℕ)) → Type 0
Strips word text r = MatchOption r (FindsTextPrefix word text None) (λ x. StripsPrefix (FindsTextPrefix word) text x.now)

pub behind_none : (word text : List ℕ) → Strips word text None → None ≡ behind word text
behind_none word text lacks = sym (word_off word text lacks)

pub behind_some : (word text : List ℕ) (x : Bor (List ℕ)) (t : Bool) → Strips word text (Some x) → t ≡ begins_with is_plain x.now → cond t None (Some x.now) ≡ behind word text
behind_some word text x t strips plain =
    let is : text ≡ word ++ x.now = strips.1.1 ∙ ap (λ s. word ++ s) (sym strips.2) in
    sym (ap (behind word) is ∙ word_on word x.now t (sym plain))

-- ---- what is left is no longer than the line

after_shorter : (text : List ℕ) → length (after_blanks text) ≤ length text
after_shorter [] = omega arith
after_shorter (b ∷ text) = by (is_blank b) (after_shorter text)
  where
    by : (t : Bool) → length (after_blanks text) ≤ length text → length (cond t (after_blanks text) (b ∷ text)) ≤ length (b ∷ text)
    by true below = omega arith
    by false below = omega arith

behind_shorter : (word text rest : List ℕ) → behind word text ≡ Some rest → length rest ≤ length text
behind_shorter word text rest is = by (bytes_eq (take (length word) text) word && not (begins_with is_plain (drop (length word) text))) is
  where
    by : (t : Bool) → cond t (Some (drop (length word) text)) None ≡ Some rest → length rest ≤ length text
    by true is = let same : drop (length word) text ≡ rest = same_Some (drop (length word) text) rest is in omega (arith, length-drop (length word) text, ap length same)
    by false is = absurd (none-some rest is)

worded_shorter : (text : List ℕ) (word : Word) (rest : List ℕ) → worded text ≡ Some (word, rest) → length rest ≤ length text
worded_shorter text word rest is = by (behind (codes "yes") text) refl (behind (codes "no") text) refl is
  where
    by : (o : Option (List ℕ)) → behind (codes "yes") text ≡ o → (p : Option (List ℕ)) → behind (codes "no") text ≡ p
        → ◌≡◌ {A = Option (Word × List ℕ)} (elim o [ Some r ↦ Some (Yes, r) | None ↦ option_map (λ r. (No, r)) p ]) (Some (word, rest)) → length rest ≤ length text
    by (Some r) a p b e = behind_shorter (codes "yes") text rest (a ∙ ap (λ (q : Word × List ℕ). Some q.1) (same_Some (Yes, r) (word, rest) e))
    by None a (Some r) b e = behind_shorter (codes "no") text rest (b ∙ ap (λ (q : Word × List ℕ). Some q.1) (same_Some (No, r) (word, rest) e))
    by None a None b e = absurd (none-some (word, rest) e)

cut_shorter : (text : List ℕ) (parts : List ℕ × List ℕ) → cut text ≡ Some parts → length parts.1 ≤ length text
cut_shorter [] parts is = cc
cut_shorter (b ∷ text) parts is = by (nat_eq b 60) (cut text) (cut_shorter text) is
  where
    by : (t : Bool) (o : Option (List ℕ × List ℕ)) → ((p : List ℕ × List ℕ) → o ≡ Some p → length p.1 ≤ length text) → cond t (Some ([], b ∷ text)) (option_map (λ p. (b ∷ p.0, p.1)) o) ≡ Some parts → length parts.1 ≤ length (b ∷ text)
    by true o below e = subst (λ (p : List ℕ × List ℕ). length p.1 ≤ length (b ∷ text)) (same_Some ([], b ∷ text) parts e) (omega arith)
    by false None below e = absurd (none-some parts e)
    by false (Some q) below e =
        let short : length q.1 ≤ length text = below q refl in
        subst (λ (p : List ℕ × List ℕ). length p.1 ≤ length (b ∷ text)) (same_Some (b ∷ q.0, q.1) parts e) (omega arith)

pub query_within : (line left rest front query : List ℕ) (word : Word) → left ≡ after_blanks line → Some (word, rest) ≡ worded left → Some (front, query) ≡ cut rest → length query ≤ length line
query_within line left rest front query word a w c =
    let one : length left ≤ length line = subst (λ l. length l ≤ length line) (sym a) (after_shorter line) in
    let two : length rest ≤ length left = worded_shorter left word rest (sym w) in
    let three : length query ≤ length rest = cut_shorter rest (front, query) (sym c) in
    omega arith
