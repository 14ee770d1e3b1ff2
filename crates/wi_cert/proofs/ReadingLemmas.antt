-- Reading bytes, line by line, whatever the form of the text.
use Rattle.std.specs.Prelude.{◌≡◌, ℕ, ◌+◌, Bool, true, false, ◌==◌, if◌then◌else◌, List, [], ◌∷◌, ◌++◌, Option, Some, None, Result, Ok, Err, IfOk, is_some, refl}
use Rattle.std.specs.Option.{option_map_or}
use Rattle.std.proofs.Common.{sym, ap, ◌∙◌, append_assoc, append-nil}
use Rattle.wi_cert.specs.private.Ends.{is_free}
use Rattle.wi_cert.specs.Reading.{Form, Reading, Fed, fed, and_then, with_byte}
use Rattle.wi_cert.specs.private.Marks.{reading, fed_so_far}
use Rattle.wi_cert.proofs.Cases.{by_test}

module _ {S C : Type 0} (form : Form S C) where
  -- Bytes in pieces are bytes.
  pub fed_append : (r : Fed S) (xs ys : List ℕ) → fed form r (xs ++ ys) ≡ fed form (fed form r xs) ys
  fed_append r [] ys = refl
  fed_append r (x ∷ xs) ys = fed_append (and_then (λ reading. with_byte form reading x) r) xs ys

  -- a bad line stays
  pub fed_err : (n : ℕ) (bytes : List ℕ) → fed form (Err n) bytes ≡ Err n
  fed_err n [] = refl
  fed_err n (b ∷ bs) = fed_err n bs

  pub plain_byte : (r : Reading S) (b : ℕ) → (b == 10) ≡ false → with_byte form r b ≡ Ok (record r { held = r.held ++ b ∷ [] })
  plain_byte r b e = rw e refl

  -- bytes that end no line are held
  pub holds : (n : ℕ) (held line rest : List ℕ) (s : S) → is_free line ≡ true → fed form (Ok (record { lines = n; held = held; sheet = s })) (line ++ rest) ≡ fed form (Ok (record { lines = n; held = held ++ line; sheet = s })) rest
  holds n held [] rest s h = ap (λ x. fed form (Ok (record { lines = n; held = x; sheet = s })) rest) (sym (append-nil held))
  holds n held (b ∷ bs) rest s h = by_test (b == 10)
      (λ (e : (b == 10) ≡ true). clash (rw e at h))
      (λ (e : (b == 10) ≡ false).
      ap (λ r. fed form r (bs ++ rest)) (plain_byte (record { lines = n; held = held; sheet = s }) b e)
      ∙ holds n (held ++ b ∷ []) bs rest s (rw e at h)
      ∙ ap (λ x. fed form (Ok (record { lines = n; held = x; sheet = s })) rest) (append_assoc held (b ∷ []) bs))
    where
      clash : {G : Type 0} → false ≡ true → G
      clash h = cc

  -- what the end of a line leaves
  abbrev pub after_end : ℕ → Option S → Fed S
  after_end n o = option_map_or (λ t. Ok (record { lines = n + 1; held = []; sheet = t })) o (Err (n + 1))

  pub line_end : (n : ℕ) (held line rest : List ℕ) (s : S) (o : Option S) → is_free line ≡ true → form.asked s (held ++ line) ≡ o
      → fed form (Ok (record { lines = n; held = held; sheet = s })) (line ++ 10 ∷ rest) ≡ fed form (after_end n o) rest
  line_end n held line rest s o h e = holds n held line (10 ∷ rest) s h ∙ ap (λ x. fed form (after_end n x) rest) e

  count_moves : (n m : ℕ) (t : S) (rest : List ℕ) → n ≡ m → fed form (Ok (record { lines = m; held = []; sheet = t })) rest ≡ fed form (Ok (record { lines = n; held = []; sheet = t })) rest
  count_moves n m t rest e = ap (λ k. fed form (Ok (record { lines = k; held = []; sheet = t })) rest) (sym e)

  -- a line that is taken, with what was held before it; each line that is taken counts
  pub taken_on : (count : S → ℕ) (held line rest text : List ℕ) (s t : S) (taken : Bool) → (if taken then Some t else None) ≡ form.asked s (held ++ line) → taken ≡ true → count t ≡ count s + 1 → text ≡ line ++ 10 ∷ rest → is_free line ≡ true
      → fed form (Ok (reading count [] t)) rest ≡ fed form (Ok (reading count held s)) text
  taken_on count held line rest text s t taken h yes_taken more is free =
      let found : form.asked s (held ++ line) ≡ Some t = sym h ∙ ap (λ b. if b then Some t else None) yes_taken in
      count_moves (count s + 1) (count t) t rest (sym more)
      ∙ sym (line_end (count s) held line rest s (Some t) free found)
      ∙ ap (fed form (Ok (reading count held s))) (sym is)

  -- a line that isn't of the form asked
  pub refused_at : (count : S → ℕ) (held line rest text : List ℕ) (s t : S) (taken : Bool) → (if taken then Some t else None) ≡ form.asked s (held ++ line) → taken ≡ false → count t ≡ count s → text ≡ line ++ 10 ∷ rest → is_free line ≡ true
      → fed form (Ok (reading count held s)) text ≡ Err (count t + 1)
  refused_at count held line rest text s t taken h not_taken same is free =
      let lost : form.asked s (held ++ line) ≡ None = sym h ∙ ap (λ b. if b then Some t else None) not_taken in
      ap (fed form (Ok (reading count held s))) is
      ∙ line_end (count s) held line rest s None free lost
      ∙ fed_err (count s + 1) rest
      ∙ ap (λ k. Err (k + 1)) (sym same)

  -- no line ends
  pub held_on : (count : S → ℕ) (held bytes : List ℕ) (s : S) → is_free bytes ≡ true → fed form (Ok (reading count held s)) bytes ≡ Ok (reading count (held ++ bytes) s)
  held_on count held bytes s free = ap (fed form (Ok (reading count held s))) (sym (append-nil bytes)) ∙ holds (count s) held bytes [] s free

  -- the same, where the line was put together behind what was held
  pub held_taken_on : (count : S → ℕ) (held line rest text whole : List ℕ) (s t : S) (taken : Bool) → (if taken then Some t else None) ≡ form.asked s whole → whole ≡ held ++ line → taken ≡ true → count t ≡ count s + 1 → text ≡ line ++ 10 ∷ rest → is_free line ≡ true
      → fed form (Ok (reading count held s)) text ≡ fed form (Ok (reading count [] t)) rest
  held_taken_on count held line rest text whole s t taken h joined yes_taken more is free = sym (taken_on count held line rest text s t taken (h ∙ ap (form.asked s) joined) yes_taken more is free)

  pub held_refused_at : (count : S → ℕ) (held line rest text whole : List ℕ) (s t : S) (taken : Bool) → (if taken then Some t else None) ≡ form.asked s whole → whole ≡ held ++ line → taken ≡ false → count t ≡ count s → text ≡ line ++ 10 ∷ rest → is_free line ≡ true
      → fed form (Ok (reading count held s)) text ≡ Err (count t + 1)
  held_refused_at count held line rest text whole s t taken h joined not_taken same is free = refused_at count held line rest text s t taken (h ∙ ap (form.asked s) joined) not_taken same is free

  -- after a bad line all stays as it is
  pub stays_bad : (count : S → ℕ) (bad : Option ℕ) (held : List ℕ) (s : S) (f : Fed S) (line : ℕ) (piece : List ℕ) → fed_so_far count bad held s ≡ f → bad ≡ Some line → (f ≡ fed form f piece) × (f ≡ Err line)
  stays_bad count bad held s f line piece h e =
      let is : f ≡ Err line = sym h ∙ ap (λ b. fed_so_far count b held s) e in
      (is ∙ sym (fed_err line piece) ∙ ap (λ r. fed form r piece) (sym is), is)

  pub stays_told : (count : S → ℕ) (bad : Option ℕ) (held : List ℕ) (s : S) (f : Fed S) (piece : List ℕ) → fed_so_far count bad held s ≡ f → is_some bad ≡ true → f ≡ fed form f piece
  stays_told count None held s f piece h e = cc
  stays_told count (Some line) held s f piece h e = (stays_bad count (Some line) held s f line piece h refl).0

  -- a piece that was taken in
  pub takes_in : (count : S → ℕ) (bad : Option ℕ) (held more : List ℕ) (s t : S) (f : Fed S) (piece : List ℕ) (good : Bool) → fed_so_far count bad held s ≡ f → bad ≡ None → good ≡ true
      → fed form (Ok (reading count held s)) piece ≡ (if good then Ok (reading count more t) else Err (count t + 1))
      → (fed_so_far count bad more t ≡ fed form f piece) × ((x : Reading S) × (fed_so_far count bad more t ≡ Ok x))
  takes_in count bad held more s t f piece good h none is_good on =
      let was : f ≡ Ok (reading count held s) = sym h ∙ ap (λ b. fed_so_far count b held s) none in
      let now : fed_so_far count bad more t ≡ Ok (reading count more t) = ap (λ b. fed_so_far count b more t) none in
      (now ∙ ap (λ b. if b then Ok (reading count more t) else Err (count t + 1)) (sym is_good) ∙ sym on ∙ ap (λ r. fed form r piece) (sym was), (reading count more t, now))

pub carried : {S E : Type 0} (r : Result Bool E) (a b x : Fed S) (y : ℕ) → a ≡ b → IfOk r (λ good. b ≡ (if good then x else Err y)) → IfOk r (λ good. a ≡ (if good then x else Err y))
carried (Ok good) a b x y e h = e ∙ h
carried (Err why) a b x y e h = tt
