-- Names and links are read as they are written, and nothing else is.
use Rattle.std.proofs.Common.{◌≡◌, ℕ, Bool, true, false, ◌&&◌, cond, nat_eq, nat_lt, List, [], ◌∷◌, ◌++◌, Option, Some, None, length, take, drop, codes, refl, sym, ap, subst, ◌∙◌, arith}
use Rattle.std.specs.List.{list_all, prefix_len}
use Rattle.std.proofs.lemmas.Bool.{and_parts, and_from, ne_eqb}
use Rattle.std.proofs.lemmas.Bool.Decides.{nat_tests}
use Rattle.std.proofs.lemmas.List.{append_assoc, take-append-drop, take_at, drop_at}
use Rattle.std.proofs.lemmas.List.Folds.{length-prefix_len}
use Rattle.std.proofs.lemmas.Option.{none-some, same_Some, cond_some, option_and_then_some}
use Rattle.wi_text.specs.Characters.{is_name_byte, is_plain, begins_with}
use Rattle.wi_script.specs.Lines.{Name, Joint, name_bytes, joint_bytes, is_name, is_joint}
use Rattle.wi_script.specs.private.Reading.{past, until, quoted, quoted_in, plain_in, name_in, joint_in}
use Rattle.wi_script.proofs.Fronts.{past_some, until_on, until_some, all_other, prefix_on, prefix_all}

-- what was read is written so, and it is of its form
pub record IsRead {X : Type 0} (bytes : X → List ℕ) (form : X → Bool) (text : List ℕ) (r : X × List ℕ) : Type 0 where
  pub written : text ≡ bytes r.0 ++ r.1
  pub is : form r.0 ≡ true

-- ---- names

named : (q : List ℕ × List ℕ) (text : List ℕ) → text ≡ q.0 ++ 34 ∷ q.1 → (nat_lt 0 (length q.0) && list_all is_name_byte q.0) ≡ true → IsRead name_bytes is_name (34 ∷ text) (record { quoted = true; text = q.0 }, q.1)
named q text is form = record { written = ap (λ x. 34 ∷ x) (is ∙ sym (append_assoc q.0 (34 ∷ []) q.1)); is = form }

quoted_some : (text : List ℕ) (r : Name × List ℕ) → quoted_in text ≡ Some r → IsRead name_bytes is_name (34 ∷ text) r
unfolding quoted_in
quoted_some text r e =
    option_and_then_some quoted (until 34 text) r e (λ q is k.
    let parts : ((nat_lt 0 (length q.0) && list_all is_name_byte q.0) ≡ true) × (◌≡◌ {A = Name × List ℕ} (record { quoted = true; text = q.0 }, q.1) r) = cond_some (nat_lt 0 (length q.0) && list_all is_name_byte q.0) (record { quoted = true; text = q.0 }, q.1) r k in
    subst (IsRead name_bytes is_name (34 ∷ text)) parts.1 (named q text (until_some 34 text q is) parts.0))

plain_some : (text : List ℕ) (r : Name × List ℕ) → plain_in text ≡ Some r → IsRead name_bytes is_name text r
unfolding plain_in
plain_some text r e = by (nat_eq (prefix_len is_plain text) 0) refl e
  where
    by : (t : Bool) → nat_eq (prefix_len is_plain text) 0 ≡ t
        → ◌≡◌ {A = Option (Name × List ℕ)} (cond t None (Some (record { quoted = false; text = take (prefix_len is_plain text) text }, drop (prefix_len is_plain text) text))) (Some r)
        → IsRead name_bytes is_name text r
    by true none e = absurd (none-some r e)
    by false some e =
        let long : nat_lt 0 (length (take (prefix_len is_plain text) text)) ≡ true = rw (length-prefix_len is_plain text) (grind (arith, nat_tests)) in
        subst (IsRead name_bytes is_name text) (same_Some (record { quoted = false; text = take (prefix_len is_plain text) text }, drop (prefix_len is_plain text) text) r e)
        (record { written = sym (take-append-drop (prefix_len is_plain text) text); is = and_from _ _ long (prefix_all is_plain text) })

pub name_some : (text : List ℕ) (r : Name × List ℕ) → name_in text ≡ Some r → IsRead name_bytes is_name text r
unfolding name_in
name_some text r e = by (past (34 ∷ []) text) refl e
  where
    by : (o : Option (List ℕ)) → past (34 ∷ []) text ≡ o → elim o [ Some rest ↦ quoted_in rest | None ↦ plain_in text ] ≡ Some r → IsRead name_bytes is_name text r
    by None is e = plain_some text r e
    by (Some rest) is e = subst (λ t. IsRead name_bytes is_name t r) (sym (past_some (34 ∷ []) text rest is)) (quoted_some rest r e)

plain_not_quote : (b : ℕ) → is_plain b ≡ true → nat_eq b 34 ≡ false
plain_not_quote b plain = grind (arith, nat_tests)

no_quote : (b : ℕ) (text : List ℕ) → is_plain b ≡ true → past (34 ∷ []) (b ∷ text) ≡ None
unfolding past
no_quote b text plain = rw (plain_not_quote b plain) refl

unquoted : (text : List ℕ) → past (34 ∷ []) text ≡ None → name_in text ≡ plain_in text
unfolding name_in
unquoted text none = rw (none, name_in) refl

plain_cut : (s rest : List ℕ) → prefix_len is_plain (s ++ rest) ≡ length s → nat_eq (length s) 0 ≡ false → plain_in (s ++ rest) ≡ Some (record { quoted = false; text = s }, rest)
unfolding plain_in
plain_cut s rest long some = rw (long, some, take_at s rest (length s) refl, drop_at s rest (length s) refl) refl

plain_on : (s rest : List ℕ) → (nat_lt 0 (length s) && list_all is_plain s) ≡ true → begins_with is_plain rest ≡ false → name_in (s ++ rest) ≡ Some (record { quoted = false; text = s }, rest)
plain_on [] rest form ends = cc
plain_on (b ∷ s) rest form ends =
    let parts : (nat_lt 0 (length (b ∷ s)) ≡ true) × (list_all is_plain (b ∷ s) ≡ true) = and_parts (nat_lt 0 (length (b ∷ s))) (list_all is_plain (b ∷ s)) form in
    let first : (is_plain b ≡ true) × (list_all is_plain s ≡ true) = and_parts (is_plain b) (list_all is_plain s) parts.1 in
    unquoted ((b ∷ s) ++ rest) (no_quote b (s ++ rest) first.0) ∙ plain_cut (b ∷ s) rest (prefix_on is_plain (b ∷ s) rest parts.1 ends) (ne_eqb (length (b ∷ s)) 0 (λ e. omega arith))

quoted_on : (s rest : List ℕ) → (nat_lt 0 (length s) && list_all is_name_byte s) ≡ true → quoted_in (s ++ 34 ∷ rest) ≡ Some (record { quoted = true; text = s }, rest)
unfolding quoted_in
quoted_on s rest form =
    let parts : (nat_lt 0 (length s) ≡ true) × (list_all is_name_byte s ≡ true) = and_parts (nat_lt 0 (length s)) (list_all is_name_byte s) form in
    rw (until_on 34 s rest (all_other is_name_byte 34 s parts.1 refl), form) refl

by_marks : (q : Bool) (s rest : List ℕ) → is_name (record { quoted = q; text = s }) ≡ true → begins_with is_plain rest ≡ false → name_in (name_bytes (record { quoted = q; text = s }) ++ rest) ≡ Some (record { quoted = q; text = s }, rest)
unfolding name_in past
by_marks true s rest form ends = ap quoted_in (append_assoc s (34 ∷ []) rest) ∙ quoted_on s rest form
by_marks false s rest form ends = plain_on s rest form ends

-- a name that stands before no plain character
pub name_on : (n : Name) (rest : List ℕ) → is_name n ≡ true → begins_with is_plain rest ≡ false → name_in (name_bytes n ++ rest) ≡ Some (n, rest)
name_on n rest form ends = by_marks n.quoted n.text rest form ends

-- ---- links

joined : (from out to into rest : List ℕ) → (from ++ (46 ∷ (out ++ (35 ∷ (to ++ (46 ∷ (into ++ rest)))))))
    ≡ (from ++ codes "." ++ out ++ codes "#" ++ to ++ codes "." ++ into) ++ rest
joined from out to into rest = simp append_assoc

pub joint_some : (text : List ℕ) (r : Joint × List ℕ) → joint_in text ≡ Some r → IsRead joint_bytes is_joint text r
unfolding joint_in
joint_some text r e =
    option_and_then_some _ (name_in text) r e (λ from a e1.
    option_and_then_some _ (past (codes ".") from.1) r e1 (λ dot b e2.
    option_and_then_some _ (name_in dot) r e2 (λ out c e3.
    option_and_then_some _ (past (codes "#") out.1) r e3 (λ hash d e4.
    option_and_then_some _ (name_in hash) r e4 (λ to f e5.
    option_and_then_some _ (past (codes ".") to.1) r e5 (λ point g e6.
    option_and_then_some _ (name_in point) r e6 (λ into h e7.
    let one : IsRead name_bytes is_name text from = name_some text from a in
    let two : IsRead name_bytes is_name dot out = name_some dot out c in
    let three : IsRead name_bytes is_name hash to = name_some hash to f in
    let four : IsRead name_bytes is_name point into = name_some point into h in
    subst (IsRead joint_bytes is_joint text) (same_Some (record { from = from.0; out = out.0; to = to.0; into = into.0 }, into.1) r e7)
    (record {
      written = along text from dot out hash to point into one.written (past_some (codes ".") from.1 dot b) two.written (past_some (codes "#") out.1 hash d) three.written (past_some (codes ".") to.1 point g) four.written;
      is = and_from _ _ one.is (and_from _ _ two.is (and_from _ _ three.is four.is));
    }))))))))
  where
    along : (text : List ℕ) (from : Name × List ℕ) (dot : List ℕ) (out : Name × List ℕ) (hash : List ℕ) (to : Name × List ℕ) (point : List ℕ) (into : Name × List ℕ)
        → text ≡ name_bytes from.0 ++ from.1 → from.1 ≡ 46 ∷ dot → dot ≡ name_bytes out.0 ++ out.1 → out.1 ≡ 35 ∷ hash → hash ≡ name_bytes to.0 ++ to.1 → to.1 ≡ 46 ∷ point → point ≡ name_bytes into.0 ++ into.1
        → text ≡ joint_bytes (record { from = from.0; out = out.0; to = to.0; into = into.0 }) ++ into.1
    along text from dot out hash to point into a b c d f g h =
        a ∙ ap (λ x. name_bytes from.0 ++ x) (b ∙ ap (λ x. 46 ∷ x) (c ∙ ap (λ x. name_bytes out.0 ++ x) (d ∙ ap (λ x. 35 ∷ x) (f ∙ ap (λ x. name_bytes to.0 ++ x) (g ∙ ap (λ x. 46 ∷ x) h)))))
        ∙ joined (name_bytes from.0) (name_bytes out.0) (name_bytes to.0) (name_bytes into.0) into.1

by_names : (j : Joint) (rest : List ℕ) → is_name j.from ≡ true → is_name j.out ≡ true → is_name j.to ≡ true → is_name j.into ≡ true → begins_with is_plain rest ≡ false
    → joint_in (name_bytes j.from ++ (46 ∷ (name_bytes j.out ++ (35 ∷ (name_bytes j.to ++ (46 ∷ (name_bytes j.into ++ rest))))))) ≡ Some (j, rest)
unfolding joint_in past
by_names j rest a b c d ends =
    rw (name_on j.from (46 ∷ (name_bytes j.out ++ (35 ∷ (name_bytes j.to ++ (46 ∷ (name_bytes j.into ++ rest)))))) a refl)
    (rw (name_on j.out (35 ∷ (name_bytes j.to ++ (46 ∷ (name_bytes j.into ++ rest)))) b refl)
    (rw (name_on j.to (46 ∷ (name_bytes j.into ++ rest)) c refl)
    (rw (name_on j.into rest d ends) refl)))

pub joint_on : (j : Joint) (rest : List ℕ) → is_joint j ≡ true → begins_with is_plain rest ≡ false → joint_in (joint_bytes j ++ rest) ≡ Some (j, rest)
joint_on j rest form ends =
    let a : (is_name j.from ≡ true) × ((is_name j.out && (is_name j.to && is_name j.into)) ≡ true) = and_parts (is_name j.from) (is_name j.out && (is_name j.to && is_name j.into)) form in
    let b : (is_name j.out ≡ true) × ((is_name j.to && is_name j.into) ≡ true) = and_parts (is_name j.out) (is_name j.to && is_name j.into) a.1 in
    let c : (is_name j.to ≡ true) × (is_name j.into ≡ true) = and_parts (is_name j.to) (is_name j.into) b.1 in
    ap joint_in (sym (joined (name_bytes j.from) (name_bytes j.out) (name_bytes j.to) (name_bytes j.into) rest)) ∙ by_names j rest a.0 b.0 c.0 c.1 ends
