-- Lines are read as they are written, and nothing else is.
use Rattle.std.proofs.Common.{◌≡◌, ◌≢◌, ℕ, ◌<◌, Bool, true, false, ◌&&◌, not, cond, nat_eq, nat_lt, List, [], ◌∷◌, ◌++◌, Option, Some, None, length, codes, refl, sym, ap, subst, ◌∙◌, arith}
use Rattle.std.specs.Prelude.{option_and_then, option_map, ◌||◌}
use Rattle.std.specs.List.{list_all}
use Rattle.std.proofs.lemmas.Bool.{and_parts, and_from, eqb-true, ne_eqb, true≢false, ltb-true, lt-ltb, eqb-false}
use Rattle.std.proofs.lemmas.List.{append_assoc, append-nil}
use Rattle.std.proofs.lemmas.Option.{none-some, same_Some, cond_some, option_and_then_some}
use Rattle.wi_text.specs.Characters.{is_digit, is_number}
use Rattle.wi_script.specs.Lines.{Name, Joint, Line, At, Fail, Repair, Hop, joint_bytes, labels_bytes, line_bytes, is_name, is_joint, is_count, is_line}
use Rattle.wi_script.specs.private.Reading.{past, until, joint_in, whole_in, labels_in, placed_in, start_in, hop_in, event_in}
use Rattle.wi_script.proofs.Fronts.{past_some, until_on, until_some, all_other}
use Rattle.wi_script.proofs.Names.{IsRead, joint_some, joint_on}
use Rattle.wi_script.proofs.Labels.{AreRead, labels_some, labels_on, label_ends, option_map_some}

-- the text is written as the line is, and the line is of its form
pub record IsWritten (first : Bool) (text : List ℕ) (line : Line) : Type 0 where
  pub form : is_line first line ≡ true
  pub bytes : text ≡ line_bytes line

-- ---- a link and no more

record IsWhole (text : List ℕ) (j : Joint) : Type 0 where
  written : text ≡ joint_bytes j
  is : is_joint j ≡ true

whole_some : (text : List ℕ) (j : Joint) → whole_in text ≡ Some j → IsWhole text j
unfolding whole_in
whole_some text j e =
    option_and_then_some _ (joint_in text) j e (λ joint is e1.
    let parts : (nat_eq (length joint.1) 0 ≡ true) × (joint.0 ≡ j) = cond_some (nat_eq (length joint.1) 0) joint.0 j e1 in
    let read : IsRead joint_bytes is_joint text joint = joint_some text joint is in
    subst (IsWhole text) parts.1 (record { written = ends joint.1 (eqb-true (length joint.1) 0 parts.0) read.written; is = read.is }))
  where
    ends : {front : List ℕ} (rest : List ℕ) → length rest ≡ 0 → text ≡ front ++ rest → text ≡ front
    ends [] none is = is ∙ append-nil _
    ends (b ∷ rest) none is = absurd (omega arith)

whole_on : (j : Joint) → is_joint j ≡ true → whole_in (joint_bytes j) ≡ Some j
unfolding whole_in
whole_on j is = rw (ap joint_in (sym (append-nil (joint_bytes j))) ∙ joint_on j [] is refl) refl

-- ---- the first line

pub start_some : (text : List ℕ) (start : Joint × List Name) → start_in text ≡ Some start → IsWritten true text (At start.0 start.1)
unfolding start_in placed_in
start_some text start e =
    option_and_then_some _ (placed_in text) start e (λ joint is e1.
    option_and_then_some _ (labels_in (length joint.1) joint.1) start e1 (λ labels are e2.
    let parts : (length labels ≢ 0) × (◌≡◌ {A = Joint × List Name} (joint.0, labels) start) = some_labels (nat_eq (length labels) 0) refl labels joint e2 in
    option_and_then_some _ (past (codes "at ") text) joint is (λ rest at e3.
    let read : IsRead joint_bytes is_joint rest joint = joint_some rest joint e3 in
    let more : AreRead joint.1 labels = labels_some (length joint.1) joint.1 labels are in
    subst (λ (s : Joint × List Name). IsWritten true text (At s.0 s.1)) parts.1
    (record {
      form = and_from _ _ read.is (and_from _ _ (lt-ltb 0 (length labels) (let some : length labels ≢ 0 = parts.0 in omega arith)) more.are);
      bytes = past_some (codes "at ") text rest at ∙ ap (λ x. codes "at " ++ x) (read.written ∙ ap (λ x. joint_bytes joint.0 ++ x) more.written) ∙ sym (append_assoc (codes "at ") (joint_bytes joint.0) (labels_bytes labels));
    }))))
  where
    some_labels : (t : Bool) {n : ℕ} → t ≡ nat_eq n 0 → (labels : List Name) (joint : Joint × List ℕ) → ◌≡◌ {A = Option (Joint × List Name)} (cond t None (Some (joint.0, labels))) (Some start) → (n ≢ 0) × (◌≡◌ {A = Joint × List Name} (joint.0, labels) start)
    some_labels true is labels joint e = absurd (none-some start e)
    some_labels false is labels joint e = (eqb-false _ 0 (sym is), same_Some (joint.0, labels) start e)

pub start_on : (j : Joint) (labels : List Name) → is_line true (At j labels) ≡ true → start_in (line_bytes (At j labels)) ≡ Some (j, labels)
unfolding start_in placed_in past
start_on j labels form =
    let a : (is_joint j ≡ true) × ((nat_lt 0 (length labels) && list_all is_name labels) ≡ true) = and_parts (is_joint j) (nat_lt 0 (length labels) && list_all is_name labels) form in
    let b : (nat_lt 0 (length labels) ≡ true) × (list_all is_name labels ≡ true) = and_parts (nat_lt 0 (length labels)) (list_all is_name labels) a.1 in
    let some : 0 < length labels = ltb-true 0 (length labels) b.0 in
    rw (joint_on j (labels_bytes labels) a.0 (label_ends labels))
    (rw (labels_on (length (labels_bytes labels)) labels b.1 (omega arith))
    (rw (ne_eqb (length labels) 0 (λ none. omega arith)) refl))

-- ---- the other lines

hop_some : (text : List ℕ) (line : Line) → hop_in text ≡ Some line → IsWritten false (codes "hop " ++ text) line
unfolding hop_in
hop_some text line e =
    option_and_then_some _ (until 32 text) line e (λ r is e1.
    let parts : ((is_count r.0 && is_count r.1) ≡ true) × (Hop r.0 r.1 ≡ line) = cond_some (is_count r.0 && is_count r.1) (Hop r.0 r.1) line e1 in
    subst (IsWritten false (codes "hop " ++ text)) parts.1
    (record { form = parts.0; bytes = ap (λ x. codes "hop " ++ x) (until_some 32 text r is ∙ sym (append_assoc r.0 (codes " ") r.1)) ∙ grouped r.0 r.1 }))
  where
    grouped : (g m : List ℕ) → codes "hop " ++ ((g ++ codes " ") ++ m) ≡ codes "hop " ++ g ++ codes " " ++ m
    grouped g m = refl

pub count_digits : (s : List ℕ) → is_count s ≡ true → list_all is_digit s ≡ true
count_digits [] is = cc
count_digits (b ∷ s) is =
    let number = and_parts (is_number (b ∷ s)) _ is in
    let outer = and_parts (is_digit b) (list_all is_digit s && (not (nat_eq b 48) || nat_lt (length s) 1)) number.0 in
    let inner = and_parts (list_all is_digit s) (not (nat_eq b 48) || nat_lt (length s) 1) outer.1 in
    and_from (is_digit b) (list_all is_digit s) outer.0 inner.0

hop_on : (group member : List ℕ) → is_line false (Hop group member) ≡ true → hop_in (group ++ 32 ∷ member) ≡ Some (Hop group member)
unfolding hop_in
hop_on group member form =
    let parts : (is_count group ≡ true) × (is_count member ≡ true) = and_parts (is_count group) (is_count member) form in
    rw (until_on 32 group member (all_other is_digit 32 group (count_digits group parts.0) refl), form) refl

pub event_some : (text : List ℕ) (line : Line) → event_in text ≡ Some line → IsWritten false text line
unfolding event_in
event_some text line e = by_fail (past (codes "fail ") text) refl e
  where
    of_link : (word : List ℕ) (make : Joint → Line) → ((j : Joint) → is_joint j ≡ true → IsWritten false (word ++ joint_bytes j) (make j)) → (rest : List ℕ) → past word text ≡ Some rest → option_map make (whole_in rest) ≡ Some line → IsWritten false text line
    of_link word make writes rest is e =
        let joint = option_map_some make (whole_in rest) line e in
        let whole : IsWhole rest joint.0 = whole_some rest joint.0 joint.1 in
        let all : text ≡ word ++ joint_bytes joint.0 = past_some word text rest is ∙ ap (λ x. word ++ x) whole.written in
        subst (IsWritten false text) joint.2 (subst (λ x. IsWritten false x (make joint.0)) (sym all) (writes joint.0 whole.is))

    of_hop : option_and_then hop_in (past (codes "hop ") text) ≡ Some line → IsWritten false text line
    of_hop e = option_and_then_some hop_in (past (codes "hop ") text) line e (λ rest is e1. subst (λ x. IsWritten false x line) (sym (past_some (codes "hop ") text rest is)) (hop_some rest line e1))

    by_repair : (o : Option (List ℕ)) → past (codes "repair ") text ≡ o → elim o [ Some rest ↦ option_map Repair (whole_in rest) | None ↦ option_and_then hop_in (past (codes "hop ") text) ] ≡ Some line → IsWritten false text line
    by_repair None is e = of_hop e
    by_repair (Some rest) is e = of_link (codes "repair ") Repair (λ j k. record { form = k; bytes = refl }) rest is e

    by_fail : (o : Option (List ℕ)) → past (codes "fail ") text ≡ o
        → elim o [ Some rest ↦ option_map Fail (whole_in rest) | None ↦ elim (past (codes "repair ") text) [ Some rest ↦ option_map Repair (whole_in rest) | None ↦ option_and_then hop_in (past (codes "hop ") text) ] ] ≡ Some line
        → IsWritten false text line
    by_fail None is e = by_repair (past (codes "repair ") text) refl e
    by_fail (Some rest) is e = of_link (codes "fail ") Fail (λ j k. record { form = k; bytes = refl }) rest is e

pub event_on : (line : Line) → is_line false line ≡ true → event_in (line_bytes line) ≡ Some line
unfolding event_in past
event_on (At j labels) form = cc
event_on (Fail j) form = ap (option_map Fail) (whole_on j form)
event_on (Repair j) form = ap (option_map Repair) (whole_on j form)
event_on (Hop group member) form = ap hop_in (append_assoc group (codes " ") member) ∙ hop_on group member form

-- ---- a text is written as one line only

pub one_way : (first : Bool) (text : List ℕ) (v w : Line) → IsWritten first text v → IsWritten first text w → v ≡ w
one_way true text (At i ms) (At j ns) a b =
    let same : ◌≡◌ {A = Joint × List Name} (i, ms) (j, ns) = same_Some (i, ms) (j, ns) (sym (start_on i ms a.form) ∙ ap start_in (sym a.bytes ∙ b.bytes) ∙ start_on j ns b.form) in
    ap (λ (s : Joint × List Name). At s.0 s.1) same
one_way true text (Fail j) w a b = absurd (true≢false (sym a.form))
one_way true text (Repair j) w a b = absurd (true≢false (sym a.form))
one_way true text (Hop g m) w a b = absurd (true≢false (sym a.form))
one_way true text v (Fail j) a b = absurd (true≢false (sym b.form))
one_way true text v (Repair j) a b = absurd (true≢false (sym b.form))
one_way true text v (Hop g m) a b = absurd (true≢false (sym b.form))
one_way false text v w a b = same_Some v w (sym (event_on v a.form) ∙ ap event_in (sym a.bytes ∙ b.bytes) ∙ event_on w b.form)
