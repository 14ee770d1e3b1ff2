-- What a line that is taken leaves of the marks: the lists go on, those still to come stay empty, and there is one line more.
use Rattle.std.specs.Prelude.{◌≡◌, ℕ, ◌+◌, ◌-◌, ◌≤◌, Bool, true, false, ◌==◌, ◌&&◌, if◌then◌else◌, List, [], ◌∷◌, ◌++◌, Option, Some, None, length, take, refl, codes, nat_le, nat_lt, option_and_then, option_map}
use Rattle.std.specs.Option.{option_map_or}
use Rattle.std.specs.Str.{bytes_eq}
use Rattle.std.proofs.Common.{sym, ap, ◌∙◌, subst, arith, append_assoc, append-nil, length-append}
use Rattle.std.proofs.lemmas.List.{take-append-le, take_all}
use Rattle.wi_cert.specs.declared.certificate.Certificate.{Certificate}
use Rattle.wi_cert.specs.declared.certificate.Place.{Place}
use Rattle.wi_cert.specs.declared.certificate.Place.TheVariants as places
use Rattle.wi_cert.specs.declared.draft.Mark.{Mark}
use Rattle.wi_cert.specs.declared.row.Row.{Row}
use Rattle.wi_cert.specs.declared.shown.Dropped.{Dropped}
use Rattle.wi_cert.specs.declared.shown.Shown.{Shown}
use Rattle.wi_cert.specs.declared.shown.ShownPlace.{ShownPlace}
use Rattle.wi_cert.specs.declared.shown.ShownPlace.TheVariants.{Terms, Answer, Weight, First, StepCount, Step, Dropped as DroppedAt}
use Rattle.wi_cert.specs.declared.closed.Closed.{Closed}
use Rattle.wi_cert.specs.declared.closed.ClosedPlace.{ClosedPlace}
use Rattle.wi_cert.specs.declared.closed.ClosedPlace.TheVariants as closed_places
use Rattle.wi_cert.specs.Numbers.{numbers_in, count_after}
use Rattle.wi_cert.specs.Order.{pair_below, row_below, is_next}
use Rattle.wi_cert.specs.Shown.{is_no, certificate_front, titled, asked_shown, steps_left, step_of, claim_of, weight_of, first_of, dropped_of}
use Rattle.wi_cert.specs.Closed.{asked_closed, heads_left, pairs_left, rows_left, heads_after, pairs_after, rows_after, head_of, pair_of, row_of, with_next, is_lighter}
use Rattle.wi_cert.specs.Sheets.{Sheet, sheet, asked}
use Rattle.wi_cert.specs.Reading.{Fed}
use Rattle.wi_cert.specs.private.Marks.{shown_rank, closed_rank, dropped_count, rank, line_count, fed_so_far, mark_of, back, IsFront, FollowsShown, FollowsClosed, Follows, IsUnreadShown, IsUnread}
use Rattle.wi_cert.proofs.Cases.{by_test, bind_some, map_some, if_some, unless_some, nothing}

pub front_same : {A : Type 0} (xs : List A) → IsFront xs xs
front_same xs = record { rest = []; is = sym (append-nil xs) }

pub front_more : {A : Type 0} (xs ys : List A) → IsFront xs (xs ++ ys)
front_more xs ys = record { rest = ys; is = refl }

front_trans : {A : Type 0} {xs ys zs : List A} → IsFront xs ys → IsFront ys zs → IsFront xs zs
front_trans {xs = xs} a b = record { rest = a.rest ++ b.rest; is = b.is ∙ ap (λ l. l ++ b.rest) a.is ∙ append_assoc xs a.rest b.rest }

front_none : {A : Type 0} {xs : List A} (ys : List A) → xs ≡ [] → IsFront xs ys
front_none ys e = record { rest = ys; is = ap (λ l. l ++ ys) (sym e) }

take_front : {A : Type 0} (xs ys : List A) → take (length xs) (xs ++ ys) ≡ xs
take_front xs ys = let within : length xs ≤ length xs = omega arith in rw take-append-le (take_all (length xs) xs within)

pub front_taken : {A : Type 0} {xs ys : List A} → IsFront xs ys → take (length xs) ys ≡ xs
front_taken {xs = xs} a = ap (take (length xs)) a.is ∙ take_front xs a.rest

shown_same : (s : Shown) → FollowsShown s s
shown_same s = record { weight = front_same s.weight; first = front_same s.first; steps = front_same s.steps }

closed_same : (c : Closed) → FollowsClosed c c
closed_same c = record { heads = front_same c.heads; pairs = front_same c.pairs; rows = front_same c.rows }

pub follows_same : (s : Sheet) → Follows s s
follows_same s = record { shown = shown_same s.certificate.shown; closed = closed_same s.certificate.closed }

pub follows_trans : (s t u : Sheet) → Follows s t → Follows t u → Follows s u
follows_trans s t u a b = record {
  shown = record { weight = front_trans a.shown.weight b.shown.weight; first = front_trans a.shown.first b.shown.first; steps = front_trans a.shown.steps b.shown.steps };
  closed = record { heads = front_trans a.closed.heads b.closed.heads; pairs = front_trans a.closed.pairs b.closed.pairs; rows = front_trans a.closed.rows b.closed.rows };
}

abbrev with_lists : Sheet → List ℕ → List ℕ → List (ℕ × ℕ) → List (ℕ × ℕ) → List (ℕ × ℕ) → List Row → Sheet
with_lists s w f x h p r = sheet s.place (record {
  shown = record { terms = s.certificate.shown.terms; claim = s.certificate.shown.claim; weight = w; first = f; steps = x; dropped = s.certificate.shown.dropped };
  closed = record { heads = h; pairs = p; rows = r };
})

same_lists : (s : Sheet) {w f : List ℕ} {x h p : List (ℕ × ℕ)} {r : List Row} → w ≡ s.certificate.shown.weight → f ≡ s.certificate.shown.first → x ≡ s.certificate.shown.steps
    → h ≡ s.certificate.closed.heads → p ≡ s.certificate.closed.pairs → r ≡ s.certificate.closed.rows → with_lists s w f x h p r ≡ s
same_lists s a b c d e g = rw (a, b, c, d, e, g) refl

-- going back to the mark of a sheet gives the sheet
pub back_at : (s t : Sheet) → Follows s t → back (mark_of s) t ≡ s
back_at s t h = same_lists s (front_taken h.shown.weight) (front_taken h.shown.first) (front_taken h.shown.steps) (front_taken h.closed.heads) (front_taken h.closed.pairs) (front_taken h.closed.rows)

abbrev pub after_shown : Option ShownPlace → Place
after_shown next = option_map_or places.Shown next (places.Closed closed_places.HeadCount)

abbrev pub after_closed : Option ClosedPlace → Place
after_closed next = option_map_or places.Closed next places.End

pub record ShownGoes (p : ShownPlace) (s : Shown) (x : Option ShownPlace × Shown) : Type 0 where
  pub unread : IsUnreadShown p s → IsUnread (after_shown x.0) x.1
  pub follows : IsUnreadShown p s → FollowsShown s x.1
  pub count : rank (after_shown x.0) x.1.dropped + length x.1.steps ≡ shown_rank p + length s.steps + 1

steps_rank : (dropped : Option Dropped) (n : ℕ) → rank (after_shown (steps_left dropped n)) dropped ≡ 6
steps_rank None n = by_test (n == 0) (λ (e : (n == 0) ≡ true). rw e refl) (λ (e : (n == 0) ≡ false). rw e refl)
steps_rank (Some d) n = by_test (n == 0) (λ (e : (n == 0) ≡ true). rw e refl) (λ (e : (n == 0) ≡ false). rw e refl)

steps_unread : (dropped : Option Dropped) (n : ℕ) (s : Shown) → IsUnread (after_shown (steps_left dropped n)) s
steps_unread None n s = by_test (n == 0) (λ (e : (n == 0) ≡ true). rw e tt) (λ (e : (n == 0) ≡ false). rw e tt)
steps_unread (Some d) n s = by_test (n == 0) (λ (e : (n == 0) ≡ true). rw e tt) (λ (e : (n == 0) ≡ false). rw e tt)

pub shown_goes : (p : ShownPlace) (s : Shown) (line : List ℕ) (x : Option ShownPlace × Shown) → asked_shown p s line ≡ Some x → ShownGoes p s x
shown_goes Terms s line x h =
    let r = bind_some (λ n. if nat_le n 5 then Some (Some Answer, record s { terms = n }) else None) (count_after (codes "terms ") line) x h in
    let k = if_some (nat_le r.0 5) (Some Answer, record s { terms = r.0 }) x r.2 in
    subst (ShownGoes Terms s) k.1 (record { unread = λ u. u; follows = λ u. record { weight = front_same s.weight; first = front_same s.first; steps = front_same s.steps }; count = omega arith })
shown_goes Answer s line x h =
    let r = map_some (λ claim. (Some Weight, record s { claim = claim })) (claim_of line) x h in
    subst (ShownGoes Answer s) r.2 (record { unread = λ u. u; follows = λ u. record { weight = front_same s.weight; first = front_same s.first; steps = front_same s.steps }; count = omega arith })
shown_goes Weight s line x h =
    let r = map_some (λ w. (Some First, record s { weight = w })) (weight_of s.claim s.terms line) x h in
    subst (ShownGoes Weight s) r.2 (record { unread = λ u. u.1; follows = λ u. record { weight = front_none r.0 u.0; first = front_same s.first; steps = front_same s.steps }; count = omega arith })
shown_goes First s line x h =
    let r = map_some (λ ns. (Some StepCount, record s { first = ns })) (first_of s.claim line) x h in
    subst (ShownGoes First s) r.2 (record { unread = λ u. tt; follows = λ u. record { weight = front_same s.weight; first = front_none r.0 u; steps = front_same s.steps }; count = omega arith })
shown_goes StepCount s line x h =
    let r = bind_some (λ n. if is_no s.claim && nat_lt 0 n then None else Some (steps_left s.dropped n, s)) (count_after (codes "steps ") line) x h in
    let k = unless_some (is_no s.claim && nat_lt 0 r.0) (steps_left s.dropped r.0, s) x r.2 in
    subst (ShownGoes StepCount s) k.1 (record { unread = λ u. steps_unread s.dropped r.0 s; follows = λ u. shown_same s; count = omega (arith, steps_rank s.dropped r.0) })
shown_goes (Step n) s line x h =
    let r = map_some (λ y. (steps_left s.dropped (n - 1), record s { steps = s.steps ++ y ∷ [] })) (option_and_then step_of (numbers_in line)) x h in
    subst (ShownGoes (Step n) s) r.2 (record {
      unread = λ u. steps_unread s.dropped (n - 1) (record s { steps = s.steps ++ r.0 ∷ [] });
      follows = λ u. record { weight = front_same s.weight; first = front_same s.first; steps = front_more s.steps (r.0 ∷ []) };
      count = omega (arith, steps_rank s.dropped (n - 1), length-append s.steps (r.0 ∷ []));
    })
shown_goes DroppedAt s line x h =
    let r = map_some (λ d. (None, record s { dropped = Some d })) (dropped_of s.claim line) x h in
    subst (ShownGoes DroppedAt s) r.2 (record { unread = λ u. tt; follows = λ u. record { weight = front_same s.weight; first = front_same s.first; steps = front_same s.steps }; count = omega arith })

pub record ClosedGoes (p : ClosedPlace) (c : Closed) (x : Option ClosedPlace × Closed) : Type 0 where
  pub follows : FollowsClosed c x.1
  pub count : (dropped : Option Dropped) → rank (after_closed x.0) dropped + length x.1.heads + length x.1.pairs + length x.1.rows ≡ closed_rank p + dropped_count dropped + length c.heads + length c.pairs + length c.rows + 1

heads_rank : (n : ℕ) (dropped : Option Dropped) → rank (after_closed (Some (heads_left n))) dropped ≡ 7 + dropped_count dropped
heads_rank n dropped = by_test (n == 0) (λ (e : (n == 0) ≡ true). rw e refl) (λ (e : (n == 0) ≡ false). rw e refl)

pairs_rank : (n : ℕ) (dropped : Option Dropped) → rank (after_closed (Some (pairs_left n))) dropped ≡ 8 + dropped_count dropped
pairs_rank n dropped = by_test (n == 0) (λ (e : (n == 0) ≡ true). rw e refl) (λ (e : (n == 0) ≡ false). rw e refl)

rows_rank : (n : ℕ) (dropped : Option Dropped) → rank (after_closed (rows_left n)) dropped ≡ 9 + dropped_count dropped
rows_rank n dropped = by_test (n == 0) (λ (e : (n == 0) ≡ true). rw e refl) (λ (e : (n == 0) ≡ false). rw e refl)

-- one more item, which may follow
pub next_is : {A : Type 0} (may_follow : List A → A → Bool) (xs : List A) (o : Option A) (ys : List A) → with_next may_follow xs o ≡ Some ys → (x : A) × (o ≡ Some x) × (may_follow xs x ≡ true) × (xs ++ x ∷ [] ≡ ys)
next_is may_follow xs None ys h = nothing ys h
next_is may_follow xs (Some x) ys h = let r = if_some (may_follow xs x) (xs ++ x ∷ []) ys h in (x, refl, r.0, r.1)

pub closed_goes : (s : Shown) (p : ClosedPlace) (c : Closed) (line : List ℕ) (x : Option ClosedPlace × Closed) → asked_closed s p c line ≡ Some x → ClosedGoes p c x
closed_goes s closed_places.HeadCount c line x h =
    let r = map_some (λ n. (Some (heads_left n), c)) (count_after (codes "heads ") line) x h in
    subst (ClosedGoes closed_places.HeadCount c) r.2 (record { follows = closed_same c; count = λ dropped. omega (arith, heads_rank r.0 dropped) })
closed_goes s (closed_places.Head n) c line x h =
    let r = map_some (λ xs. (Some (heads_left (n - 1)), record c { heads = xs })) (heads_after c.heads line) x h in
    let k = next_is (is_next pair_below) c.heads (option_and_then head_of (numbers_in line)) r.0 r.1 in
    let e : length r.0 ≡ length c.heads + 1 = ap length (sym k.3) ∙ length-append c.heads (k.0 ∷ []) in
    subst (ClosedGoes (closed_places.Head n) c) r.2 (record { follows = record { heads = record { rest = k.0 ∷ []; is = sym k.3 }; pairs = front_same c.pairs; rows = front_same c.rows }; count = λ dropped. omega (arith, heads_rank (n - 1) dropped, e) })
closed_goes s closed_places.PairCount c line x h =
    let r = map_some (λ n. (Some (pairs_left n), c)) (count_after (codes "pairs ") line) x h in
    subst (ClosedGoes closed_places.PairCount c) r.2 (record { follows = closed_same c; count = λ dropped. omega (arith, pairs_rank r.0 dropped) })
closed_goes s (closed_places.Pair n) c line x h =
    let r = map_some (λ xs. (Some (pairs_left (n - 1)), record c { pairs = xs })) (pairs_after c.pairs line) x h in
    let k = next_is (is_next pair_below) c.pairs (option_and_then pair_of (numbers_in line)) r.0 r.1 in
    let e : length r.0 ≡ length c.pairs + 1 = ap length (sym k.3) ∙ length-append c.pairs (k.0 ∷ []) in
    subst (ClosedGoes (closed_places.Pair n) c) r.2 (record { follows = record { heads = front_same c.heads; pairs = record { rest = k.0 ∷ []; is = sym k.3 }; rows = front_same c.rows }; count = λ dropped. omega (arith, pairs_rank (n - 1) dropped, e) })
closed_goes s closed_places.RowCount c line x h =
    let r = map_some (λ n. (rows_left n, c)) (count_after (codes "rows ") line) x h in
    subst (ClosedGoes closed_places.RowCount c) r.2 (record { follows = closed_same c; count = λ dropped. omega (arith, rows_rank r.0 dropped) })
closed_goes s (closed_places.Row n) c line x h =
    let r = map_some (λ xs. (rows_left (n - 1), record c { rows = xs })) (rows_after s c.rows line) x h in
    let k = next_is (λ before x. is_next row_below before x && is_lighter s x) c.rows (option_and_then (λ ns. row_of s.terms ns) (numbers_in line)) r.0 r.1 in
    let e : length r.0 ≡ length c.rows + 1 = ap length (sym k.3) ∙ length-append c.rows (k.0 ∷ []) in
    subst (ClosedGoes (closed_places.Row n) c) r.2 (record { follows = record { heads = front_same c.heads; pairs = front_same c.pairs; rows = record { rest = k.0 ∷ []; is = sym k.3 } }; count = λ dropped. omega (arith, rows_rank (n - 1) dropped, e) })

-- what a line that is taken leaves
pub record Goes (p : Place) (c : Certificate) (t : Sheet) : Type 0 where
  pub unread : IsUnread p c.shown → IsUnread t.place t.certificate.shown
  pub follows : IsUnread p c.shown → Follows (sheet p c) t
  pub count : line_count t ≡ line_count (sheet p c) + 1

closed_unread : (next : Option ClosedPlace) (s : Shown) → IsUnread (after_closed next) s
closed_unread None s = tt
closed_unread (Some p) s = tt

pub goes : (p : Place) (c : Certificate) (line : List ℕ) (t : Sheet) → asked p c line ≡ Some t → Goes p c t
goes places.Title c line t h =
    let r = map_some (λ dropped. sheet (places.Shown Terms) (record c { shown = record c.shown { dropped = dropped } })) (titled certificate_front line) t h in
    subst (Goes places.Title c) r.2 (record { unread = λ u. u; follows = λ u. record { shown = record { weight = front_same c.shown.weight; first = front_same c.shown.first; steps = front_same c.shown.steps }; closed = closed_same c.closed }; count = omega arith })
goes (places.Shown p) c line t h =
    let r = map_some (λ s. sheet (option_map_or places.Shown s.0 (places.Closed closed_places.HeadCount)) (record c { shown = s.1 })) (asked_shown p c.shown line) t h in
    let g = shown_goes p c.shown line r.0 r.1 in
    subst (Goes (places.Shown p) c) r.2 (record { unread = g.unread; follows = λ u. record { shown = g.follows u; closed = closed_same c.closed }; count = omega (arith, g.count) })
goes (places.Closed p) c line t h =
    let r = map_some (λ s. sheet (option_map_or places.Closed s.0 places.End) (record c { closed = s.1 })) (asked_closed c.shown p c.closed line) t h in
    let g = closed_goes c.shown p c.closed line r.0 r.1 in
    subst (Goes (places.Closed p) c) r.2 (record { unread = λ u. closed_unread r.0.0 c.shown; follows = λ u. record { shown = shown_same c.shown; closed = g.follows }; count = omega (arith, g.count c.shown.dropped) })
goes places.End c line t h =
    let r = if_some (bytes_eq line (codes "end")) (sheet places.Done c) t h in
    subst (Goes places.End c) r.1 (record { unread = λ u. u; follows = λ u. record { shown = shown_same c.shown; closed = closed_same c.closed }; count = omega arith })
goes places.Done c line t h = nothing t h

-- the same, as the code finds the place of the next line
pub place_goes : (p : Place) (c d : Certificate) (line : List ℕ) (found : Option Place) (next : Place) → option_map (λ n. sheet n d) found ≡ asked p c line → found ≡ Some next → Goes p c (sheet next d)
place_goes p c d line found next h e = goes p c line (sheet next d) (sym h ∙ ap (option_map (λ n. sheet n d)) e)

-- a piece that was undone
pub undone : (bad : Option ℕ) (held grown cut : List ℕ) (s t u : Sheet) (m : Mark) (n : ℕ) (f : Fed Sheet) → fed_so_far line_count bad held s ≡ f → m ≡ mark_of s → Follows s t → u ≡ back m t → n ≡ length held → IsFront held grown → cut ≡ take n grown → fed_so_far line_count bad cut u ≡ f
undone bad held grown cut s t u m n f h mark follows at long front is =
    ap (λ x. fed_so_far line_count bad cut x) (at ∙ ap (λ x. back x t) mark ∙ back_at s t follows)
    ∙ ap (λ x. fed_so_far line_count bad x s) (is ∙ ap (λ x. take x grown) long ∙ front_taken front)
    ∙ h
