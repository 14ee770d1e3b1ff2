-- The lines of a certificate are taken; those of its parts are taken in any form that asks for them.
use Rattle.std.specs.Prelude.{◌≡◌, ℕ, ◌+◌, ◌-◌, ◌^◌, ◌<◌, ◌≤◌, ◌%◌, Bool, true, false, ◌&&◌, ◌==◌, if◌then◌else◌, List, [], ◌∷◌, ◌++◌, Option, Some, None, length, refl, MatchBool, codes, map, nat_lt, nat_le, option_and_then, option_map}
use Rattle.std.specs.List.{All, list_all}
use Rattle.std.specs.Option.{option_map_or}
use Rattle.std.specs.Str.{bytes_eq}
use Rattle.std.specs.Fmt.{decimal}
use Rattle.std.proofs.Common.{sym, ap, ◌∙◌, subst, arith, append_assoc, append-nil}
use Rattle.std.proofs.lemmas.Bool.Decides.{nat_tests}
use Rattle.std.proofs.lemmas.Fmt.{decimal_by_steps}
use Rattle.std.proofs.lemmas.List.Elements.{All-head, All-tail}
use Rattle.wi_weight.specs.Weights.{EachBelow}
use Rattle.wi_cert.specs.declared.certificate.Certificate.{Certificate}
use Rattle.wi_cert.specs.declared.certificate.Place.TheVariants as places
use Rattle.wi_cert.specs.declared.row.Row.{Row}
use Rattle.wi_cert.specs.declared.shown.Claim.{Claim}
use Rattle.wi_cert.specs.declared.shown.Claim.TheVariants.{Yes, No, Inconclusive}
use Rattle.wi_cert.specs.declared.shown.Dropped.{Dropped}
use Rattle.wi_cert.specs.declared.shown.Dropped.TheVariants.{Nowhere, Inactive, Undefined}
use Rattle.wi_cert.specs.declared.shown.Shown.{Shown}
use Rattle.wi_cert.specs.declared.shown.ShownPlace.{ShownPlace}
use Rattle.wi_cert.specs.declared.shown.ShownPlace.TheVariants.{Terms, Answer, Weight, First, StepCount, Step, Dropped as DroppedAt}
use Rattle.wi_cert.specs.declared.closed.Closed.{Closed}
use Rattle.wi_cert.specs.declared.closed.ClosedPlace.{ClosedPlace}
use Rattle.wi_cert.specs.declared.closed.ClosedPlace.TheVariants.{HeadCount, Head, PairCount, Pair, RowCount, Row as RowAt}
use Rattle.wi_cert.specs.private.Ends.{is_free}
use Rattle.wi_cert.specs.Numbers.{printed, spaced, numbers_in, one_number, numbers_after, count_after, count_line}
use Rattle.wi_cert.specs.Order.{pair_below, row_below, is_next, EachAdded}
use Rattle.wi_cert.specs.Shown.{is_no, answer_line, weight_line, first_line, pair_line, dropped_line, dropped_lines, certificate_front, title_line, shown_lines, MayBeDropped, IsShown, HasDroppedRanges, HasShownRanges, step_of, claim_of, steps_left, dropped_of, titled, blank_shown, asked_shown}
use Rattle.wi_cert.specs.Closed.{row_line, closed_lines, IsRow, IsClosed, HasRowRanges, HasClosedRanges, head_of, pair_of, row_of, with_next, is_lighter, heads_after, pairs_after, rows_after, heads_left, pairs_left, rows_left, blank_closed, asked_closed}
use Rattle.wi_cert.specs.Sheets.{sheet, blank, certificates}
use Rattle.wi_cert.specs.Reading.{Form, filled}
use Rattle.wi_cert.specs.Text.{lines_of, IsWritable, HasRanges}
use Rattle.wi_cert.proofs.Cases.{by_test, nothing}
use Rattle.wi_cert.proofs.LineLemmas.{after_whole, titled_by}
use Rattle.wi_cert.proofs.NumberLemmas.{numbers_printed}
use Rattle.wi_cert.proofs.EndLemmas.{all_free, all_free-append, is_free-append}
use Rattle.wi_cert.proofs.FormLemmas.{AnyStep, IsStep, IsNextPair, IsHeadRange, IsPairRange, same_bytes}
use Rattle.wi_cert.proofs.TellingLemmas.{filled_append}

free_digit : (d : ℕ) → d < 10 → is_free ((48 + d) ∷ []) ≡ true
free_digit d h = let e : (48 + d == 10) ≡ false = grind (arith, nat_tests) in rw e refl

free_decimal : (n : ℕ) → n < 2 ^ 64 → is_free (decimal n) ≡ true
free_decimal n h = decimal_by_steps (λ n ds. is_free ds ≡ true) (λ n lt. free_digit n lt) (λ n ds ge ih. is_free-append ds ((48 + n % 10) ∷ []) ih (free_digit (n % 10) (omega arith))) n h

free_spaced : (ns : List ℕ) → EachBelow (2 ^ 64) ns → is_free (spaced ns) ≡ true
free_spaced [] h = refl
free_spaced (n ∷ ns) h = is_free-append (32 ∷ decimal n) (spaced ns) (is_free-append (32 ∷ []) (decimal n) refl (free_decimal n h.0)) (free_spaced ns h.1)

free_printed : (ns : List ℕ) → EachBelow (2 ^ 64) ns → is_free (printed ns) ≡ true
free_printed [] h = refl
free_printed (n ∷ ns) h = is_free-append (decimal n) (spaced ns) (free_decimal n h.0) (free_spaced ns h.1)

pub free_count : (front : List ℕ) (n : ℕ) → is_free front ≡ true → n < 2 ^ 64 → is_free (count_line front n) ≡ true
free_count front n h k = is_free-append front (decimal n) h (free_decimal n k)

-- the lines lead from one sheet to the other, and none has an end within
pub record Leads {S C : Type 0} (form : Form S C) (s : S) (lines : List (List ℕ)) (t : S) : Type 0 where
  pub fills : filled form s lines ≡ Some t
  pub free : all_free lines ≡ true

module _ {S C : Type 0} (form : Form S C) where
  pub leads_none : (s : S) → Leads form s [] s
  leads_none s = record { fills = refl; free = refl }

  pub leads_then : (s t u : S) (a b : List (List ℕ)) → Leads form s a t → Leads form t b u → Leads form s (a ++ b) u
  leads_then s t u a b h k = record {
    fills = filled_append form s a b ∙ ap (option_and_then (λ x. filled form x b)) h.fills ∙ k.fills;
    free = all_free-append a b h.free k.free;
  }

  pub leads_first : (s : S) (line : List ℕ) (t u : S) (lines : List (List ℕ)) → is_free line ≡ true → form.asked s line ≡ Some t → Leads form t lines u → Leads form s (line ∷ lines) u
  leads_first s line t u lines f e k = record {
    fills = ap (option_and_then (λ next. filled form next lines)) e ∙ k.fills;
    free = rw (f, k.free) refl;
  }

-- the items of a list, one after the other
module _ {S C P X A : Type 0} (form : Form S C) (at : P → X → S) (left item : ℕ → P) (with : List A → X) (MayFollow : List A → A → Type 0) (Range : A → Type 0) (line_of : A → List ℕ)
    (is_item : (n : ℕ) → left (n + 1) ≡ item (n + 1))
    (free : (x : A) → Range x → is_free (line_of x) ≡ true)
    (takes : (xs : List A) (x : A) (n : ℕ) → MayFollow xs x → Range x → form.asked (at (item (n + 1)) (with xs)) (line_of x) ≡ Some (at (left n) (with (xs ++ x ∷ [])))) where
  leads_items : (before xs : List A) (n : ℕ) → n ≡ length xs → EachAdded MayFollow before xs → All Range xs → Leads form (at (left n) (with before)) (map line_of xs) (at (left 0) (with (before ++ xs)))
  leads_items before [] n e h r = subst (λ k. Leads form (at (left k) (with before)) [] (at (left 0) (with (before ++ [])))) (sym e) (subst (λ ys. Leads form (at (left 0) (with before)) [] (at (left 0) (with ys))) (sym (append-nil before)) (leads_none form (at (left 0) (with before))))
  leads_items before (x ∷ xs) n e h r =
      let more : n ≡ length xs + 1 = omega arith in
      let range = All-head Range x xs r in
      subst (λ k. Leads form (at k (with before)) (map line_of (x ∷ xs)) (at (left 0) (with (before ++ x ∷ xs)))) (sym (ap left more ∙ is_item (length xs)))
      (subst (λ ys. Leads form (at (item (length xs + 1)) (with before)) (map line_of (x ∷ xs)) (at (left 0) (with ys))) (append_assoc before (x ∷ []) xs)
      (leads_first form (at (item (length xs + 1)) (with before)) (line_of x) (at (left (length xs)) (with (before ++ x ∷ []))) (at (left 0) (with ((before ++ x ∷ []) ++ xs))) (map line_of xs) (free x range) (takes before x (length xs) h.0 range)
      (leads_items (before ++ x ∷ []) xs (length xs) refl h.1 (All-tail Range x xs r))))

after_reads : (front ns : List ℕ) → 0 < length ns → EachBelow (2 ^ 64) ns → numbers_after front (front ++ printed ns) ≡ Some ns
after_reads front [] h k = absurd (omega arith)
after_reads front (n ∷ ns) h k = ap (λ o. option_and_then numbers_in o) (after_whole front (printed (n ∷ ns))) ∙ numbers_printed n ns k

pub count_reads : (front : List ℕ) (n : ℕ) → n < 2 ^ 64 → count_after front (count_line front n) ≡ Some n
count_reads front n h =
    ap (λ line. count_after front (front ++ line)) (sym (append-nil (decimal n)))
    ∙ ap (λ o. option_and_then one_number o) (after_reads front (n ∷ []) (omega arith) (h, tt))

back : (n : ℕ) → n + 1 - 1 ≡ n
back n = omega arith

step_reads : (x : ℕ × ℕ) → IsStep x → option_and_then step_of (numbers_in (pair_line x)) ≡ Some x
step_reads x h =
    let a : 0 < x.0 = h.0 in
    let b : 0 < x.1 = h.1 in
    let c : x.0 < 2 ^ 32 = h.2 in
    let d : x.1 < 2 ^ 32 = h.3 in
    let test : (nat_lt 0 x.0 && nat_lt x.0 (2 ^ 32) && nat_lt 0 x.1 && nat_lt x.1 (2 ^ 32)) ≡ true = grind (arith, nat_tests) in
    ap (λ o. option_and_then step_of o) (numbers_printed x.0 (x.1 ∷ []) (omega arith, (omega arith, tt))) ∙ rw test refl

heads_read : (xs : List (ℕ × ℕ)) (x : ℕ × ℕ) → IsNextPair xs x → IsHeadRange x → heads_after xs (pair_line x) ≡ Some (xs ++ x ∷ [])
heads_read xs x k h =
    let d : x.1 < 2 ^ 32 = h.1 in
    let test : nat_lt x.1 (2 ^ 32) ≡ true = grind (arith, nat_tests) in
    ap (λ o. with_next (is_next pair_below) xs (option_and_then head_of o)) (numbers_printed x.0 (x.1 ∷ []) (h.0, (omega arith, tt))) ∙ rw (test, k) refl

pairs_read : (xs : List (ℕ × ℕ)) (x : ℕ × ℕ) → IsNextPair xs x → IsPairRange x → pairs_after xs (pair_line x) ≡ Some (xs ++ x ∷ [])
pairs_read xs x k h =
    let b : x.0 < 2 ^ 32 = h.0 in
    let d : x.1 < 2 ^ 32 = h.1 in
    let test : (nat_lt x.0 (2 ^ 32) && nat_lt x.1 (2 ^ 32)) ≡ true = grind (arith, nat_tests) in
    ap (λ o. with_next (is_next pair_below) xs (option_and_then pair_of o)) (numbers_printed x.0 (x.1 ∷ []) (omega arith, (omega arith, tt))) ∙ rw (test, k) refl

rows_read : (s : Shown) (xs : List Row) (x : Row) → IsRow s xs x → HasRowRanges x → rows_after s xs (row_line x) ≡ Some (xs ++ x ∷ [])
rows_read s xs x k h =
    let g : x.g < 2 ^ 32 = h.1 in
    let l : length x.weight ≡ s.terms + 1 = k.weight in
    let test : (nat_lt x.g (2 ^ 32) && length x.weight == s.terms + 1) ≡ true = grind (arith, nat_tests) in
    ap (λ o. with_next (λ before y. is_next row_below before y && is_lighter s y) xs (option_and_then (λ ns. row_of s.terms ns) o)) (numbers_printed x.p (x.g ∷ x.q ∷ x.weight) (h.0, (omega arith, (h.2, h.3)))) ∙ rw (test, k.next, k.lighter) refl

free_pair : (x : ℕ × ℕ) → x.0 < 2 ^ 64 → x.1 < 2 ^ 64 → is_free (pair_line x) ≡ true
free_pair x a b = free_printed (x.0 ∷ x.1 ∷ []) (a, (b, tt))

weight_reads : (no : Bool) (terms : ℕ) (w : List ℕ) → length w ≡ (if no then 0 else terms + 1) → EachBelow (2 ^ 64) w
    → (if no then if bytes_eq (if no then codes "weight none" else codes "weight " ++ printed w) (codes "weight none") then Some [] else None else option_and_then (λ ns. if length ns == terms + 1 then Some ns else None) (numbers_after (codes "weight ") (if no then codes "weight none" else codes "weight " ++ printed w))) ≡ Some w
weight_reads true terms [] h k = refl
weight_reads true terms (n ∷ ns) h k = absurd (omega arith)
weight_reads false terms w h k =
    let test : (length w == terms + 1) ≡ true = grind (arith, nat_tests) in
    ap (λ o. option_and_then (λ (ns : List ℕ). if length ns == terms + 1 then Some ns else None) o) (after_reads (codes "weight ") w (omega arith) k) ∙ rw test refl

free_weight : (no : Bool) (w : List ℕ) → EachBelow (2 ^ 64) w → is_free (if no then codes "weight none" else codes "weight " ++ printed w) ≡ true
free_weight true w h = refl
free_weight false w h = is_free-append (codes "weight ") (printed w) refl (free_printed w h)

all_longer : (ns : List ℕ) → EachBelow (2 ^ 32) ns → EachBelow (2 ^ 64) ns
all_longer [] h = tt
all_longer (n ∷ ns) h = let lt : n < 2 ^ 32 = h.0 in (omega arith, all_longer ns h.1)

all_short : (ns : List ℕ) → EachBelow (2 ^ 32) ns → list_all (λ n. nat_lt n (2 ^ 32)) ns ≡ true
all_short [] h = refl
all_short (n ∷ ns) h = let lt : n < 2 ^ 32 = h.0 in let test : nat_lt n (2 ^ 32) ≡ true = grind (arith, nat_tests) in rw test (all_short ns h.1)

first_reads : (no : Bool) (f : List ℕ) → MatchBool no (f ≡ []) (1 < length f) → EachBelow (2 ^ 32) f
    → (if no then if bytes_eq (if no then codes "first none" else codes "first " ++ printed f) (codes "first none") then Some [] else None else option_and_then (λ ns. if nat_lt 1 (length ns) && list_all (λ n. nat_lt n (2 ^ 32)) ns then Some ns else None) (numbers_after (codes "first ") (if no then codes "first none" else codes "first " ++ printed f))) ≡ Some f
first_reads true f h k = ap Some (sym h)
first_reads false f h k =
    let long : 1 < length f = h in
    let test : nat_lt 1 (length f) ≡ true = grind (arith, nat_tests) in
    ap (λ o. option_and_then (λ (ns : List ℕ). if nat_lt 1 (length ns) && list_all (λ n. nat_lt n (2 ^ 32)) ns then Some ns else None) o) (after_reads (codes "first ") f (omega arith) (all_longer f k)) ∙ rw (test, all_short f k) refl

free_first : (no : Bool) (f : List ℕ) → EachBelow (2 ^ 32) f → is_free (if no then codes "first none" else codes "first " ++ printed f) ≡ true
free_first true f h = refl
free_first false f h = is_free-append (codes "first ") (printed f) refl (free_printed f (all_longer f h))

claim_reads : (w : Claim) → claim_of (answer_line w) ≡ Some w
claim_reads Yes = refl
claim_reads No = refl
claim_reads Inconclusive = refl

free_answer : (w : Claim) → is_free (answer_line w) ≡ true
free_answer Yes = refl
free_answer No = refl
free_answer Inconclusive = refl

none_first : (no : Bool) (xs : List (ℕ × ℕ)) → (no ≡ true → xs ≡ []) → (no && nat_lt 0 (length xs)) ≡ false
none_first true xs h = ap (λ ys. nat_lt 0 (length ys)) (h refl)
none_first false xs h = refl

-- before the line that says how the packet is dropped
abbrev pub begun : Option Dropped → Option Dropped
begun dropped = option_map (λ d. Nowhere) dropped

abbrev pub begun_shown : Option Dropped → Shown
begun_shown dropped = record blank_shown { dropped = begun dropped }

pub title_reads : (front : List ℕ) (dropped : Option Dropped) → titled front (title_line front dropped) ≡ Some (begun dropped)
title_reads front None = titled_by front (front ++ codes "1") (codes "1") (after_whole front (codes "1"))
title_reads front (Some d) = titled_by front (front ++ codes "2") (codes "2") (after_whole front (codes "2"))

pub free_title : (front : List ℕ) (dropped : Option Dropped) → is_free front ≡ true → is_free (title_line front dropped) ≡ true
free_title front None h = is_free-append front (codes "1") h refl
free_title front (Some d) h = is_free-append front (codes "2") h refl

free_dropped : (d : Dropped) → HasDroppedRanges (Some d) → is_free (dropped_line d) ≡ true
free_dropped Nowhere h = refl
free_dropped Inactive h = refl
free_dropped (Undefined j m) h =
    let a : j < 2 ^ 32 = h.0 in
    let b : m < 2 ^ 32 = h.1 in
    is_free-append (codes "drop ") (printed (j ∷ m ∷ [])) refl (free_printed (j ∷ m ∷ []) (omega arith, (omega arith, tt)))

-- numbers aren't the word
not_inactive : (j m : ℕ) → j < 2 ^ 32 → m < 2 ^ 32 → bytes_eq (codes "drop " ++ printed (j ∷ m ∷ [])) (codes "drop inactive") ≡ false
not_inactive j m a b = by_test (bytes_eq (printed (j ∷ m ∷ [])) (codes "inactive"))
    (λ (e : bytes_eq (printed (j ∷ m ∷ [])) (codes "inactive") ≡ true).
    nothing (j ∷ m ∷ []) (ap numbers_in (sym (same_bytes (printed (j ∷ m ∷ [])) (codes "inactive") e)) ∙ numbers_printed j (m ∷ []) (omega arith, (omega arith, tt))))
    (λ (e : bytes_eq (printed (j ∷ m ∷ [])) (codes "inactive") ≡ false). e)

undefined_reads : (j m : ℕ) → IsStep (j, m) → option_map (λ x. Undefined x.0 x.1) (option_and_then step_of (numbers_after (codes "drop ") (codes "drop " ++ printed (j ∷ m ∷ [])))) ≡ Some (Undefined j m)
undefined_reads j m h = ap (option_map (λ (x : ℕ × ℕ). Undefined x.0 x.1)) (step_reads (j, m) h)

dropped_reads : (claim : Claim) (d : Dropped) → MayBeDropped claim (Some d) → HasDroppedRanges (Some d) → dropped_of claim (dropped_line d) ≡ Some d
dropped_reads claim Nowhere h r = rw h refl
dropped_reads claim Inactive h r = rw h refl
dropped_reads claim (Undefined j m) h r = rw (h.0, not_inactive j m r.0 r.1) (undefined_reads j m (h.1, h.2, r.0, r.1))

abbrev with_steps : Shown → List (ℕ × ℕ) → Shown
with_steps s xs = record s { steps = xs; dropped = begun s.dropped }

any_steps : (before xs : List (ℕ × ℕ)) → EachAdded AnyStep before xs
any_steps before [] = tt
any_steps before (x ∷ xs) = (tt, any_steps (before ++ x ∷ []) xs)

one_more : (n : ℕ) → (n + 1 == 0) ≡ false
one_more n = grind (arith, nat_tests)

both_all : {A : Type 0} (P Q R : A → Type 0) → ((x : A) → P x → Q x → R x) → (xs : List A) → All P xs → All Q xs → All R xs
both_all P Q R f xs h k i d lt = f _ (h i d lt) (k i d lt)

-- the lines that show an answer, in any form that asks for them: where they lead, and what claims it allows
module _ {S C : Type 0} (form : Form S C) (at : Option ShownPlace → Shown → S) (Allows : Claim → Type 0)
    (takes : (p : ShownPlace) (x y : Shown) (line : List ℕ) (next : Option ShownPlace) → Allows y.claim → asked_shown p x line ≡ Some (next, y) → form.asked (at (Some p) x) line ≡ Some (at next y))
    (no : Allows No) (s : Shown) (h : IsShown s) (r : HasShownRanges s) (claim : Allows s.claim) where
  all_steps : All IsStep s.steps
  all_steps = both_all (λ (x : ℕ × ℕ). (0 < x.0) × (0 < x.1)) (λ (x : ℕ × ℕ). (x.0 < 2 ^ 32) × (x.1 < 2 ^ 32)) IsStep (λ x p q. (p.0, p.1, q.0, q.1)) s.steps h.steps r.steps

  step_list : Leads form (at (steps_left (begun s.dropped) (length s.steps)) (with_steps s [])) (map pair_line s.steps) (at (steps_left (begun s.dropped) 0) (with_steps s s.steps))
  step_list = leads_items form at (steps_left (begun s.dropped)) (λ n. Some (Step n)) (with_steps s) AnyStep IsStep pair_line
      (λ n. rw (one_more n) refl)
      (λ x i. let a : x.0 < 2 ^ 32 = i.2 in let b : x.1 < 2 ^ 32 = i.3 in free_pair x (omega arith) (omega arith))
      (λ xs x n f i. takes (Step (n + 1)) (with_steps s xs) (with_steps s (xs ++ x ∷ [])) (pair_line x) (steps_left (begun s.dropped) n) claim
      (ap (λ o. option_map (λ (y : ℕ × ℕ). (steps_left (begun s.dropped) (n + 1 - 1), with_steps s (xs ++ y ∷ []))) o) (step_reads x i)
      ∙ ap (λ k. Some (steps_left (begun s.dropped) k, with_steps s (xs ++ x ∷ []))) (back n)))
      [] s.steps (length s.steps) refl (any_steps [] s.steps) all_steps

  drop_list : (o : Option Dropped) → MayBeDropped s.claim o → HasDroppedRanges o → Leads form (at (steps_left (begun o) 0) (record s { dropped = begun o })) (dropped_lines o) (at None (record s { dropped = o }))
  drop_list None may range = leads_none form (at None (record s { dropped = None }))
  drop_list (Some d) may range =
      leads_first form (at (Some DroppedAt) (record s { dropped = Some Nowhere })) (dropped_line d) (at None (record s { dropped = Some d })) (at None (record s { dropped = Some d })) [] (free_dropped d range)
      (takes DroppedAt (record s { dropped = Some Nowhere }) (record s { dropped = Some d }) (dropped_line d) None claim
      (ap (option_map (λ (e : Dropped). (None, record s { dropped = Some e }))) (dropped_reads s.claim d may range)))
      (leads_none form (at None (record s { dropped = Some d })))

  pub shown_leads : Leads form (at (Some Terms) (begun_shown s.dropped)) (shown_lines s) (at None s)
  shown_leads =
      let few : s.terms ≤ 5 = h.terms in
      let short : nat_le s.terms 5 ≡ true = grind (arith, nat_tests) in
      let terms_fit : s.terms < 2 ^ 64 = omega arith in
      leads_first form (at (Some Terms) (begun_shown s.dropped)) (count_line (codes "terms ") s.terms) (at (Some Answer) (record (begun_shown s.dropped) { terms = s.terms })) _ _
      (free_count (codes "terms ") s.terms refl terms_fit)
      (takes Terms (begun_shown s.dropped) (record (begun_shown s.dropped) { terms = s.terms }) (count_line (codes "terms ") s.terms) (Some Answer) no
      (ap (λ o. option_and_then (λ n. if nat_le n 5 then Some (Some Answer, record (begun_shown s.dropped) { terms = n }) else None) o) (count_reads (codes "terms ") s.terms terms_fit) ∙ rw short refl))
      (leads_first form (at (Some Answer) (record (begun_shown s.dropped) { terms = s.terms })) (answer_line s.claim) (at (Some Weight) (record (begun_shown s.dropped) { terms = s.terms; claim = s.claim })) _ _
      (free_answer s.claim)
      (takes Answer (record (begun_shown s.dropped) { terms = s.terms }) (record (begun_shown s.dropped) { terms = s.terms; claim = s.claim }) (answer_line s.claim) (Some Weight) claim
      (ap (λ o. option_map (λ w. (Some Weight, record (begun_shown s.dropped) { terms = s.terms; claim = w })) o) (claim_reads s.claim)))
      (leads_first form (at (Some Weight) (record (begun_shown s.dropped) { terms = s.terms; claim = s.claim })) (weight_line s) (at (Some First) (record (with_steps s []) { first = [] })) _ _
      (free_weight (is_no s.claim) s.weight r.weight)
      (takes Weight (record (begun_shown s.dropped) { terms = s.terms; claim = s.claim }) (record (with_steps s []) { first = [] }) (weight_line s) (Some First) claim
      (ap (λ o. option_map (λ w. (Some First, record (begun_shown s.dropped) { terms = s.terms; claim = s.claim; weight = w })) o) (weight_reads (is_no s.claim) s.terms s.weight h.weight r.weight)))
      (leads_first form (at (Some First) (record (with_steps s []) { first = [] })) (first_line s) (at (Some StepCount) (with_steps s [])) _ _
      (free_first (is_no s.claim) s.first r.first)
      (takes First (record (with_steps s []) { first = [] }) (with_steps s []) (first_line s) (Some StepCount) claim
      (ap (λ o. option_map (λ f. (Some StepCount, record (with_steps s []) { first = f })) o) (first_reads (is_no s.claim) s.first h.first r.first)))
      (leads_first form (at (Some StepCount) (with_steps s [])) (count_line (codes "steps ") (length s.steps)) (at (steps_left (begun s.dropped) (length s.steps)) (with_steps s [])) _ _
      (free_count (codes "steps ") (length s.steps) refl r.count)
      (takes StepCount (with_steps s []) (with_steps s []) (count_line (codes "steps ") (length s.steps)) (steps_left (begun s.dropped) (length s.steps)) claim
      (ap (λ o. option_and_then (λ n. if is_no s.claim && nat_lt 0 n then None else Some (steps_left (begun s.dropped) n, with_steps s [])) o) (count_reads (codes "steps ") (length s.steps) r.count)
      ∙ rw (none_first (is_no s.claim) s.steps h.no_steps) refl))
      (leads_then form _ _ _ (map pair_line s.steps) (dropped_lines s.dropped) step_list (drop_list s.dropped h.dropped r.dropped))))))

abbrev with_lists : List (ℕ × ℕ) → List (ℕ × ℕ) → List Row → Closed
with_lists h p r = record { heads = h; pairs = p; rows = r }

-- the lines that bound every run, in any form that asks for them
module _ {S C : Type 0} (form : Form S C) (at : Option ClosedPlace → Closed → S) (s : Shown)
    (takes : (p : ClosedPlace) (x y : Closed) (line : List ℕ) (next : Option ClosedPlace) → asked_closed s p x line ≡ Some (next, y) → form.asked (at (Some p) x) line ≡ Some (at next y))
    (c : Closed) (h : IsClosed s c) (r : HasClosedRanges c) where
  head_list : Leads form (at (Some (heads_left (length c.heads))) (with_lists [] [] [])) (map pair_line c.heads) (at (Some PairCount) (with_lists c.heads [] []))
  head_list = leads_items form at (λ n. Some (heads_left n)) (λ n. Some (Head n)) (λ xs. with_lists xs [] []) IsNextPair IsHeadRange pair_line
      (λ n. rw (one_more n) refl)
      (λ x i. let b : x.1 < 2 ^ 32 = i.1 in free_pair x i.0 (omega arith))
      (λ xs x n f i. takes (Head (n + 1)) (with_lists xs [] []) (with_lists (xs ++ x ∷ []) [] []) (pair_line x) (Some (heads_left n))
      (ap (λ o. option_map (λ (ys : List (ℕ × ℕ)). (Some (heads_left (n + 1 - 1)), with_lists ys [] [])) o) (heads_read xs x f i)
      ∙ ap (λ k. Some (Some (heads_left k), with_lists (xs ++ x ∷ []) [] [])) (back n)))
      [] c.heads (length c.heads) refl h.heads r.heads

  pair_list : Leads form (at (Some (pairs_left (length c.pairs))) (with_lists c.heads [] [])) (map pair_line c.pairs) (at (Some RowCount) (with_lists c.heads c.pairs []))
  pair_list = leads_items form at (λ n. Some (pairs_left n)) (λ n. Some (Pair n)) (λ xs. with_lists c.heads xs []) IsNextPair IsPairRange pair_line
      (λ n. rw (one_more n) refl)
      (λ x i. let a : x.0 < 2 ^ 32 = i.0 in let b : x.1 < 2 ^ 32 = i.1 in free_pair x (omega arith) (omega arith))
      (λ xs x n f i. takes (Pair (n + 1)) (with_lists c.heads xs []) (with_lists c.heads (xs ++ x ∷ []) []) (pair_line x) (Some (pairs_left n))
      (ap (λ o. option_map (λ (ys : List (ℕ × ℕ)). (Some (pairs_left (n + 1 - 1)), with_lists c.heads ys [])) o) (pairs_read xs x f i)
      ∙ ap (λ k. Some (Some (pairs_left k), with_lists c.heads (xs ++ x ∷ []) [])) (back n)))
      [] c.pairs (length c.pairs) refl h.pairs r.pairs

  row_list : Leads form (at (rows_left (length c.rows)) (with_lists c.heads c.pairs [])) (map row_line c.rows) (at None (with_lists c.heads c.pairs c.rows))
  row_list = leads_items form at rows_left (λ n. Some (RowAt n)) (λ xs. with_lists c.heads c.pairs xs) (IsRow s) HasRowRanges row_line
      (λ n. rw (one_more n) refl)
      (λ x i. let g : x.g < 2 ^ 32 = i.1 in free_printed (x.p ∷ x.g ∷ x.q ∷ x.weight) (i.0, (omega arith, (i.2, i.3))))
      (λ xs x n f i. takes (RowAt (n + 1)) (with_lists c.heads c.pairs xs) (with_lists c.heads c.pairs (xs ++ x ∷ [])) (row_line x) (rows_left n)
      (ap (λ o. option_map (λ (ys : List Row). (rows_left (n + 1 - 1), with_lists c.heads c.pairs ys)) o) (rows_read s xs x f i)
      ∙ ap (λ k. Some (rows_left k, with_lists c.heads c.pairs (xs ++ x ∷ []))) (back n)))
      [] c.rows (length c.rows) refl h.rows r.rows

  pub closed_leads : Leads form (at (Some HeadCount) blank_closed) (closed_lines c) (at None c)
  closed_leads =
      leads_first form (at (Some HeadCount) blank_closed) (count_line (codes "heads ") (length c.heads)) (at (Some (heads_left (length c.heads))) (with_lists [] [] [])) _ _
      (free_count (codes "heads ") (length c.heads) refl r.head_count)
      (takes HeadCount blank_closed blank_closed (count_line (codes "heads ") (length c.heads)) (Some (heads_left (length c.heads)))
      (ap (λ o. option_map (λ n. (Some (heads_left n), blank_closed)) o) (count_reads (codes "heads ") (length c.heads) r.head_count)))
      (leads_then form _ _ _ (map pair_line c.heads) _ head_list
      (leads_first form (at (Some PairCount) (with_lists c.heads [] [])) (count_line (codes "pairs ") (length c.pairs)) (at (Some (pairs_left (length c.pairs))) (with_lists c.heads [] [])) _ _
      (free_count (codes "pairs ") (length c.pairs) refl r.pair_count)
      (takes PairCount (with_lists c.heads [] []) (with_lists c.heads [] []) (count_line (codes "pairs ") (length c.pairs)) (Some (pairs_left (length c.pairs)))
      (ap (λ o. option_map (λ n. (Some (pairs_left n), with_lists c.heads [] [])) o) (count_reads (codes "pairs ") (length c.pairs) r.pair_count)))
      (leads_then form _ _ _ (map pair_line c.pairs) _ pair_list
      (leads_first form (at (Some RowCount) (with_lists c.heads c.pairs [])) (count_line (codes "rows ") (length c.rows)) (at (rows_left (length c.rows)) (with_lists c.heads c.pairs [])) _ _
      (free_count (codes "rows ") (length c.rows) refl r.row_count)
      (takes RowCount (with_lists c.heads c.pairs []) (with_lists c.heads c.pairs []) (count_line (codes "rows ") (length c.rows)) (rows_left (length c.rows))
      (ap (λ o. option_map (λ n. (rows_left n, with_lists c.heads c.pairs [])) o) (count_reads (codes "rows ") (length c.rows) r.row_count)))
      row_list))))

-- The lines of a certificate lead to it.
pub all_lines : (c : Certificate) → IsWritable c → HasRanges c → Leads certificates blank (lines_of c) (sheet places.Done c)
all_lines c w r =
    leads_first certificates blank (title_line certificate_front c.shown.dropped) (sheet (places.Shown Terms) (record { shown = begun_shown c.shown.dropped; closed = blank_closed })) _ _ (free_title certificate_front c.shown.dropped refl)
    (ap (option_map (λ (dropped : Option Dropped). sheet (places.Shown Terms) (record { shown = record blank_shown { dropped = dropped }; closed = blank_closed }))) (title_reads certificate_front c.shown.dropped))
    (leads_then certificates _ _ _ (shown_lines c.shown) _
    (shown_leads certificates (λ next s. sheet (option_map_or places.Shown next (places.Closed HeadCount)) (record { shown = s; closed = blank_closed })) (λ claim. Unit {0})
    (λ p x y line next ok e. ap (option_map (λ (s : Option ShownPlace × Shown). sheet (option_map_or places.Shown s.0 (places.Closed HeadCount)) (record { shown = s.1; closed = blank_closed }))) e)
    tt c.shown w.shown r.shown tt)
    (leads_then certificates _ _ _ (closed_lines c.closed) _
    (closed_leads certificates (λ next d. sheet (option_map_or places.Closed next places.End) (record { shown = c.shown; closed = d })) c.shown
    (λ p x y line next e. ap (option_map (λ (s : Option ClosedPlace × Closed). sheet (option_map_or places.Closed s.0 places.End) (record { shown = c.shown; closed = s.1 }))) e)
    c.closed w.closed r.closed)
    (leads_first certificates (sheet places.End c) (codes "end") (sheet places.Done c) (sheet places.Done c) [] refl refl (leads_none certificates (sheet places.Done c)))))
