-- What the bytes tell: the lines of a text, or the first bad line, whatever the form.
use Rattle.std.specs.Prelude.{◌≡◌, ℕ, ◌+◌, ◌-◌, true, false, ◌==◌, List, [], ◌∷◌, ◌++◌, Option, Some, None, Result, Ok, Err, if◌then◌else◌, length, refl, Contains, option_and_then}
use Rattle.std.specs.List.{flat_map, position}
use Rattle.std.specs.Option.{option_map_or}
use Rattle.std.proofs.Common.{sym, ap, ◌∙◌, subst, arith, take, drop, append_assoc, append-nil, length-append}
use Rattle.std.proofs.lemmas.Bool.Decides.{nat_tests}
use Rattle.std.proofs.lemmas.Grind.{flat_map-append}
use Rattle.std.proofs.lemmas.List.Elements.{Contains-append_left, Contains-push}
use Rattle.wi_cert.specs.private.Ends.{is_free}
use Rattle.wi_cert.specs.Reading.{Form, Reading, unread, fed, with_byte, finished, decoded, filled}
use Rattle.wi_cert.specs.Text.{ended, BeginsBadly, IsBadLine}
use Rattle.wi_cert.proofs.Cases.{by_test, both, bind_some, some_same, nothing}
use Rattle.wi_cert.proofs.EndLemmas.{all_free, no_end_in, free_without, whole_where_free, free_where_whole, all_free-append, is_free-append, first_line_same, cut_at, free_where_none}
use Rattle.wi_cert.proofs.ReadingLemmas.{fed_err, plain_byte, holds, after_end, line_end}

-- whole lines that make a text
pub record IsWhole {S C : Type 0} (form : Form S C) (bytes : List ℕ) (c : C) : Type 0 where
  pub lines : List (List ℕ)
  pub sheet : S
  pub is : bytes ≡ flat_map ended lines
  pub whole : all_free lines ≡ true
  pub good : filled form form.blank lines ≡ Some sheet
  pub made : form.made sheet ≡ Some c

module _ {S C : Type 0} (form : Form S C) where
  filled_more : (o : Option S) (xs ys : List (List ℕ)) → ((s : S) → filled form s (xs ++ ys) ≡ option_and_then (λ t. filled form t ys) (filled form s xs))
      → option_and_then (λ s. filled form s (xs ++ ys)) o ≡ option_and_then (λ t. filled form t ys) (option_and_then (λ s. filled form s xs) o)
  filled_more None xs ys h = refl
  filled_more (Some s) xs ys h = h s

  pub filled_append : (s : S) (xs ys : List (List ℕ)) → filled form s (xs ++ ys) ≡ option_and_then (λ t. filled form t ys) (filled form s xs)
  filled_append s [] ys = refl
  filled_append s (x ∷ xs) ys = filled_more (form.asked s x) xs ys (λ t. filled_append t xs ys)

  filled_line : (s t : S) (lines : List (List ℕ)) (line : List ℕ) (u : S) → filled form s lines ≡ Some t → form.asked t line ≡ Some u → filled form s (lines ++ line ∷ []) ≡ Some u
  filled_line s t lines line u h e = filled_append s lines (line ∷ []) ∙ ap (option_and_then (λ x. filled form x (line ∷ []))) h ∙ ap (option_and_then (λ x. filled form x [])) e

  regroup : (line f rest : List ℕ) → (line ++ 10 ∷ []) ++ f ++ rest ≡ line ++ 10 ∷ (f ++ rest)
  regroup line f rest = simp append_assoc refl

  -- whole lines that are taken
  pub fed_lines : (lines : List (List ℕ)) (n : ℕ) (s t : S) (rest : List ℕ) → all_free lines ≡ true → filled form s lines ≡ Some t
      → fed form (Ok (record { lines = n; held = []; sheet = s })) (flat_map ended lines ++ rest) ≡ fed form (Ok (record { lines = n + length lines; held = []; sheet = t })) rest
  fed_lines [] n s t rest f h =
      let same : s ≡ t = some_same s t h in
      let none : n ≡ n + 0 = omega arith in
      ap (λ k. fed form (Ok (record { lines = k; held = []; sheet = s })) rest) none ∙ ap (λ x. fed form (Ok (record { lines = n + 0; held = []; sheet = x })) rest) same
  fed_lines (line ∷ lines) n s t rest f h =
      let b = both (is_free line) (all_free lines) f in
      let r = bind_some (λ u. filled form u lines) (form.asked s line) t h in
      let count : n + 1 + length lines ≡ n + length (line ∷ lines) = omega arith in
      ap (fed form (Ok (record { lines = n; held = []; sheet = s }))) (regroup line (flat_map ended lines) rest)
      ∙ line_end form n [] line (flat_map ended lines ++ rest) s (Some r.0) b.0 r.1
      ∙ fed_lines lines (n + 1) r.0 t rest b.1 r.2
      ∙ ap (λ k. fed form (Ok (record { lines = k; held = []; sheet = t })) rest) count

  abbrev Tells : List ℕ → Result C ℕ → Type 0
  Tells bytes (Ok c) = IsWhole form bytes c
  Tells bytes (Err n) = IsBadLine form bytes n

  empty_is : (held : List ℕ) → (length held == 0) ≡ true → held ≡ []
  empty_is [] h = refl
  empty_is (x ∷ xs) h = absurd (let k : length (x ∷ xs) ≡ 0 = grind (arith, nat_tests, h) in omega arith)

  no_line_in : {G : Type 0} (held line after : List ℕ) → is_free held ≡ true → held ++ [] ≡ (line ++ 10 ∷ []) ++ after → G
  no_line_in held line after f h = absurd (no_end_in held f (subst (λ x. Contains x 10) (sym h ∙ append-nil held) (within line after)))
    where
      within : (line after : List ℕ) → Contains ((line ++ 10 ∷ []) ++ after) 10
      within line after = Contains-append_left (line ++ 10 ∷ []) after 10 (Contains-push line 10)

  -- the next line is missing, or has no end
  ends_badly : (held : List ℕ) (lines : List (List ℕ)) (s : S) → is_free held ≡ true → all_free lines ≡ true → filled form form.blank lines ≡ Some s → ((c : C) → form.made s ≡ Some c → held ≡ [] → ⊥) → IsBadLine form (flat_map ended lines ++ (held ++ [])) (length lines + 1)
  ends_badly held lines s f a h e = record {
    lines = lines;
    rest = held ++ [];
    sheet = s;
    is = refl;
    whole = whole_where_free lines a;
    number = refl;
    good = h;
    bad = λ line after i k. no_line_in held line after f i;
    unfinished = λ c m i. e c m (sym (append-nil held) ∙ i);
  }

  -- what a text tells that ends here
  at_end : (held : List ℕ) (lines : List (List ℕ)) (s : S) (o : Option C) → form.made s ≡ o → is_free held ≡ true → all_free lines ≡ true → filled form form.blank lines ≡ Some s
      → Tells (flat_map ended lines ++ (held ++ [])) (option_map_or (λ c. if length held == 0 then Ok c else Err (length lines + 1)) o (Err (length lines + 1)))
  at_end held lines s None e f a h = ends_badly held lines s f a h (λ c m i. nothing c (sym e ∙ m))
  at_end held lines s (Some c) e f a h = by_test (length held == 0)
      (λ (k : (length held == 0) ≡ true). rw k (record { lines = lines; sheet = s; is = ap (λ x. flat_map ended lines ++ (x ++ [])) (empty_is held k) ∙ append-nil (flat_map ended lines); whole = a; good = h; made = e }))
      (λ (k : (length held == 0) ≡ false). rw k (ends_badly held lines s f a h (λ d m i. some_left held k i)))
    where
      some_left : {G : Type 0} (xs : List ℕ) → (length xs == 0) ≡ false → xs ≡ [] → G
      some_left xs k i = cc

  moved : (x y : List ℕ) (r q : Result C ℕ) → x ≡ y → r ≡ q → Tells x r → Tells y q
  moved x y r q e k h = subst (Tells y) k (subst (λ z. Tells z r) e h)

  same_first : (held bs line after : List ℕ) (b : ℕ) → b ≡ 10 → is_free held ≡ true → (Contains line 10 → ⊥) → held ++ b ∷ bs ≡ (line ++ 10 ∷ []) ++ after → held ≡ line
  same_first held bs line after b e f k h = first_line_same held line bs after f (free_without line k) (sym (ap (λ z. held ++ z ∷ bs) e) ∙ h ∙ append_assoc line (10 ∷ []) after)

  -- the line that ends here isn't of the form asked
  line_is_bad : (held bs : List ℕ) (b : ℕ) (lines : List (List ℕ)) (s : S) → b ≡ 10 → is_free held ≡ true → all_free lines ≡ true → filled form form.blank lines ≡ Some s → form.asked s held ≡ None → IsBadLine form (flat_map ended lines ++ (held ++ b ∷ bs)) (length lines + 1)
  line_is_bad held bs b lines s e f a h none = record {
    lines = lines;
    rest = held ++ b ∷ bs;
    sheet = s;
    is = refl;
    whole = whole_where_free lines a;
    number = refl;
    good = h;
    bad = λ line after i k. ap (form.asked s) (sym (same_first held bs line after b e f k i)) ∙ none;
    unfinished = λ c m i. no_end held bs b i;
  }
    where
      no_end : {G : Type 0} (held bs : List ℕ) (b : ℕ) → held ++ b ∷ bs ≡ [] → G
      no_end [] bs b h = cc
      no_end (x ∷ xs) bs b h = cc

  line_over : (lines : List (List ℕ)) (held bs : List ℕ) → flat_map ended (lines ++ held ∷ []) ++ bs ≡ flat_map ended lines ++ (held ++ 10 ∷ bs)
  line_over lines held bs = simp (flat_map-append, append_assoc, append-nil) refl

  -- what a line's end tells, by what the line leaves
  by_line : (o : Option S) (held bs : List ℕ) (b : ℕ) (lines : List (List ℕ)) (s : S) → form.asked s held ≡ o → b ≡ 10 → is_free held ≡ true → all_free lines ≡ true → filled form form.blank lines ≡ Some s
      → ((t : S) → all_free (lines ++ held ∷ []) ≡ true → filled form form.blank (lines ++ held ∷ []) ≡ Some t → Tells (flat_map ended (lines ++ held ∷ []) ++ ([] ++ bs)) (finished form (fed form (Ok (record { lines = length (lines ++ held ∷ []); held = []; sheet = t })) bs)))
      → Tells (flat_map ended lines ++ (held ++ b ∷ bs)) (finished form (fed form (after_end form (length lines) o) bs))
  by_line None held bs b lines s e ten f a h ih = subst (Tells (flat_map ended lines ++ (held ++ b ∷ bs))) (ap (finished form) (sym (fed_err form (length lines + 1) bs))) (line_is_bad held bs b lines s ten f a h e)
  by_line (Some t) held bs b lines s e ten f a h ih =
      moved (flat_map ended (lines ++ held ∷ []) ++ bs) (flat_map ended lines ++ (held ++ b ∷ bs)) (finished form (fed form (Ok (record { lines = length (lines ++ held ∷ []); held = []; sheet = t })) bs)) (finished form (fed form (Ok (record { lines = length lines + 1; held = []; sheet = t })) bs))
      (line_over lines held bs ∙ ap (λ z. flat_map ended lines ++ (held ++ z ∷ bs)) (sym ten))
      (ap (λ k. finished form (fed form (Ok (record { lines = k; held = []; sheet = t })) bs)) (length-append lines (held ∷ [])))
      (ih t (all_free-append lines (held ∷ []) a (rw f refl)) (filled_line form.blank s lines held t h e))

  tells : (bytes held : List ℕ) (lines : List (List ℕ)) (s : S) → is_free held ≡ true → all_free lines ≡ true → filled form form.blank lines ≡ Some s
      → Tells (flat_map ended lines ++ (held ++ bytes)) (finished form (fed form (Ok (record { lines = length lines; held = held; sheet = s })) bytes))
  tells [] held lines s f a h = at_end held lines s (form.made s) refl f a h
  tells (b ∷ bs) held lines s f a h = by_test (b == 10)
      (λ (e : (b == 10) ≡ true).
      let ten : b ≡ 10 = grind (arith, nat_tests, e) in
      subst (λ r. Tells (flat_map ended lines ++ (held ++ b ∷ bs)) (finished form (fed form r bs))) (sym (ends_line (record { lines = length lines; held = held; sheet = s }) b e))
      (by_line (form.asked s held) held bs b lines s refl ten f a h (λ t i k. tells bs [] (lines ++ held ∷ []) t refl i k)))
      (λ (e : (b == 10) ≡ false).
      moved (flat_map ended lines ++ ((held ++ b ∷ []) ++ bs)) (flat_map ended lines ++ (held ++ b ∷ bs)) (finished form (fed form (Ok (record { lines = length lines; held = held ++ b ∷ []; sheet = s })) bs)) (finished form (fed form (with_byte form (record { lines = length lines; held = held; sheet = s }) b) bs))
      (ap (λ x. flat_map ended lines ++ x) (append_assoc held (b ∷ []) bs))
      (ap (λ r. finished form (fed form r bs)) (sym (plain_byte form (record { lines = length lines; held = held; sheet = s }) b e)))
      (tells bs (held ++ b ∷ []) lines s (is_free-append held (b ∷ []) f (not_end b e)) a h))
    where
      ends_line : (r : Reading S) (b : ℕ) → (b == 10) ≡ true → with_byte form r b ≡ after_end form r.lines (form.asked r.sheet r.held)
      ends_line r b e = rw e refl

      not_end : (b : ℕ) → (b == 10) ≡ false → is_free (b ∷ []) ≡ true
      not_end b e = rw e refl

  told : (bytes : List ℕ) → Tells bytes (decoded form bytes)
  told bytes = tells bytes [] [] form.blank refl refl refl

  pub whole_lines : (bytes : List ℕ) (c : C) → decoded form bytes ≡ Ok c → IsWhole form bytes c
  whole_lines bytes c h = subst (Tells bytes) h (told bytes)

  pub bad_line : (bytes : List ℕ) (n : ℕ) → decoded form bytes ≡ Err n → IsBadLine form bytes n
  bad_line bytes n h = subst (Tells bytes) h (told bytes)

  -- whole lines are read
  pub lines_read : (lines : List (List ℕ)) (s : S) (c : C) → all_free lines ≡ true → filled form form.blank lines ≡ Some s → form.made s ≡ Some c → decoded form (flat_map ended lines) ≡ Ok c
  lines_read lines s c f h made =
      ap (λ x. finished form (fed form (unread form) x)) (sym (append-nil (flat_map ended lines)))
      ∙ ap (finished form) (fed_lines lines 0 form.blank s [] f h)
      ∙ ap (λ (o : Option C). option_map_or (λ c. Ok c) o (Err (0 + length lines + 1))) made

  -- a reading that stands before a bad line
  bad_rest : (n : ℕ) (s : S) (rest : List ℕ) → BeginsBadly form s rest → ((c : C) → form.made s ≡ Some c → rest ≡ [] → ⊥) → finished form (fed form (Ok (record { lines = n; held = []; sheet = s })) rest) ≡ Err (n + 1)
  bad_rest n s rest bad unfinished = by_end (position (λ b. b == 10) rest) refl
    where
      not_made : (o : Option C) → form.made s ≡ o → option_map_or (λ c. if length rest == 0 then Ok c else Err (n + 1)) o (Err (n + 1)) ≡ Err (n + 1)
      not_made None e = refl
      not_made (Some c) e = by_test (length rest == 0)
          (λ (k : (length rest == 0) ≡ true). absurd (unfinished c e (empty_is rest k)))
          (λ (k : (length rest == 0) ≡ false). rw k refl)

      no_end_here : is_free rest ≡ true → finished form (fed form (Ok (record { lines = n; held = []; sheet = s })) rest) ≡ Err (n + 1)
      no_end_here free =
          let kept : fed form (Ok (record { lines = n; held = []; sheet = s })) rest ≡ Ok (record { lines = n; held = rest; sheet = s }) = ap (fed form (Ok (record { lines = n; held = []; sheet = s }))) (sym (append-nil rest)) ∙ holds form n [] rest [] s free in
          ap (finished form) kept ∙ not_made (form.made s) refl

      by_end : (o : Option ℕ) → position (λ b. b == 10) rest ≡ o → finished form (fed form (Ok (record { lines = n; held = []; sheet = s })) rest) ≡ Err (n + 1)
      by_end None e = no_end_here (free_where_none rest e)
      by_end (Some i) e =
          let cut = cut_at rest i e in
          let line = take i rest in
          let behind = take (length rest - (i + 1)) (drop (i + 1) rest) in
          let lost = bad line behind (cut.0 ∙ sym (append_assoc line (10 ∷ []) behind)) (no_end_in line cut.1) in
          ap (λ x. finished form (fed form (Ok (record { lines = n; held = []; sheet = s })) x)) cut.0
          ∙ ap (finished form) (line_end form n [] line behind s None cut.1 lost ∙ fed_err form (n + 1) behind)

  -- the first bad line is told
  pub bad_line_told : (bytes : List ℕ) (n : ℕ) → IsBadLine form bytes n → decoded form bytes ≡ Err n
  bad_line_told bytes n b =
      ap (λ x. finished form (fed form (unread form) x)) b.is
      ∙ ap (finished form) (fed_lines b.lines 0 form.blank b.sheet b.rest (free_where_whole b.lines b.whole) b.good)
      ∙ bad_rest (0 + length b.lines) b.sheet b.rest b.bad b.unfinished
      ∙ ap Err (count (length b.lines) ∙ sym b.number)
    where
      count : (k : ℕ) → 0 + k + 1 ≡ k + 1
      count k = omega arith
