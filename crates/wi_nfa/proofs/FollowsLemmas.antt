-- What may follow what in a larger expression, and what is left to a loop around it.
use Rattle.std.proofs.Common.{◌≡◌, ℕ, ◌+◌, Bool, true, false, ◌⊎◌, ◌↔◌, List, Vec, Contains, refl, sym, ap, ◌∙◌, inl, inr, subst}
use Rattle.std.specs.Prelude.{◌&&◌, Box}
use Rattle.std.specs.declared.alloc.Global.{Global}
use Rattle.wi_regex.specs.declared.regex.Regex.{Regex}
use Rattle.wi_regex.specs.declared.regex.Regex.TheVariants.{Concat', Either'}
use Rattle.wi_regex.specs.Matching.{position_count, is_empty_word_in}
use Rattle.wi_nfa.specs.declared.ends.Ends.{Ends}
use Rattle.wi_nfa.specs.private.Marks.{AddsMarks}
use Rattle.wi_nfa.specs.private.Ends.{AreEnds, AddsFollows}

-- two parts after each other, of which the first leaves L1 and the second L2 to what gets L: M1 and M2 are marked after each
chained : {O M1 M2 F1 F2 L1 L2 L : Type 0} → (M1 ⊎ L1) ↔ (O ⊎ (F1 ⊎ L1)) → (M2 ⊎ L2) ↔ (M1 ⊎ (F2 ⊎ L2)) → (L1 → L) → (L2 → L) →
    (M2 ⊎ L) ↔ (O ⊎ ((F1 ⊎ F2) ⊎ L))
chained {O} {M1} {M2} {F1} {F2} {L1} {L2} {L} first second to1 to2 = (
  λ h. elim h as (λ _. O ⊎ ((F1 ⊎ F2) ⊎ L)) [
    | inl m ↦ elim (second.0 (inl m)) as (λ _. O ⊎ ((F1 ⊎ F2) ⊎ L)) [
      | inl m1 ↦ elim (first.0 (inl m1)) as (λ _. O ⊎ ((F1 ⊎ F2) ⊎ L)) [
        | inl o ↦ inl o
        | inr g ↦ elim g as (λ _. O ⊎ ((F1 ⊎ F2) ⊎ L)) [ inl f ↦ inr (inl (inl f)) | inr l ↦ inr (inr (to1 l)) ]
      ]
      | inr g ↦ elim g as (λ _. O ⊎ ((F1 ⊎ F2) ⊎ L)) [ inl f ↦ inr (inl (inr f)) | inr l ↦ inr (inr (to2 l)) ]
    ]
    | inr l ↦ inr (inr l)
  ],
  λ h. elim h as (λ _. M2 ⊎ L) [
    | inl o ↦ on (inl o)
    | inr g ↦ elim g as (λ _. M2 ⊎ L) [
      | inl f ↦ elim f as (λ _. M2 ⊎ L) [ inl f1 ↦ on (inr (inl f1)) | inr f2 ↦ last (inr (inl f2)) ]
      | inr l ↦ inr l
    ]
  ],
)
  where
    last : M1 ⊎ (F2 ⊎ L2) → M2 ⊎ L
    last g = elim (second.1 g) as (λ _. M2 ⊎ L) [ inl m ↦ inl m | inr l ↦ inr (to2 l) ]

    on : O ⊎ (F1 ⊎ L1) → M2 ⊎ L
    on g = elim (first.1 g) as (λ _. M2 ⊎ L) [ inl m ↦ last (inl m) | inr l ↦ inr (to1 l) ]

-- more marks, of X
linked : {O M1 M2 F1 F2 X L : Type 0} → (M1 ⊎ L) ↔ (O ⊎ ((F1 ⊎ F2) ⊎ L)) → M2 ↔ (M1 ⊎ X) → (M2 ⊎ L) ↔ (O ⊎ ((F1 ⊎ (F2 ⊎ X)) ⊎ L))
linked {O} {M1} {M2} {F1} {F2} {X} {L} before adds = (
  λ h. elim h as (λ _. O ⊎ ((F1 ⊎ (F2 ⊎ X)) ⊎ L)) [
    | inl m ↦ elim (adds.0 m) as (λ _. O ⊎ ((F1 ⊎ (F2 ⊎ X)) ⊎ L)) [ inl m1 ↦ wider (before.0 (inl m1)) | inr x ↦ inr (inl (inr (inr x))) ]
    | inr l ↦ inr (inr l)
  ],
  λ h. elim h as (λ _. M2 ⊎ L) [
    | inl o ↦ on (inl o)
    | inr g ↦ elim g as (λ _. M2 ⊎ L) [
      | inl f ↦ elim f as (λ _. M2 ⊎ L) [
        | inl f1 ↦ on (inr (inl (inl f1)))
        | inr k ↦ elim k as (λ _. M2 ⊎ L) [ inl f2 ↦ on (inr (inl (inr f2))) | inr x ↦ inl (adds.1 (inr x)) ]
      ]
      | inr l ↦ inr l
    ]
  ],
)
  where
    wider : O ⊎ ((F1 ⊎ F2) ⊎ L) → O ⊎ ((F1 ⊎ (F2 ⊎ X)) ⊎ L)
    wider g = elim g as (λ _. O ⊎ ((F1 ⊎ (F2 ⊎ X)) ⊎ L)) [
      | inl o ↦ inl o
      | inr k ↦ elim k as (λ _. O ⊎ ((F1 ⊎ (F2 ⊎ X)) ⊎ L)) [
        | inl f ↦ elim f as (λ _. O ⊎ ((F1 ⊎ (F2 ⊎ X)) ⊎ L)) [ inl f1 ↦ inr (inl (inl f1)) | inr f2 ↦ inr (inl (inr (inl f2))) ]
        | inr l ↦ inr (inr l)
      ]
    ]

    on : O ⊎ ((F1 ⊎ F2) ⊎ L) → M2 ⊎ L
    on g = elim (before.1 g) as (λ _. M2 ⊎ L) [ inl m ↦ inl (adds.1 (inl m)) | inr l ↦ inr l ]

and_true : (a b : Bool) → (a && b) ≡ true → (a ≡ true) × (b ≡ true)
and_true true b e = (refl, e)
and_true false b e = cc

add_as : {M N X Y : Type 0} → M ↔ (N ⊎ X) → X ↔ Y → M ↔ (N ⊎ Y)
add_as {M} {N} {X} {Y} adds same = (
  λ m. elim (adds.0 m) as (λ _. N ⊎ Y) [ inl n ↦ inl n | inr x ↦ inr (same.0 x) ],
  λ g. adds.1 (elim g as (λ _. N ⊎ X) [ inl n ↦ inl n | inr y ↦ inr (same.1 y) ]),
)

module _ {A : Type 0} where
  concat_follows : (n : ℕ) (looped la lb : Bool) (a b : Regex A) (i j : Box (Unit {0}) Global) (old mid last new : List (Vec Bool Global)) (e1 e2 : Ends) (s1 s2 : List ℕ) →
      la ≡ (looped && is_empty_word_in b) → lb ≡ (looped && e1.empty) → AreEnds n a e1 → AreEnds (n + e1.count) b e2 →
      AddsFollows la n a old mid → AddsFollows lb (n + e1.count) b mid last → s1 ≡ e1.ends.items → s2 ≡ e2.begins.items →
      AddsMarks last new (λ p q. Contains s1 p × Contains s2 q) → AddsFollows looped n (Concat' i a j b) old new
  concat_follows n looped la lb a b i j old mid last new e1 e2 s1 s2 is_la is_lb are_a are_b' first second' is1 is2 links =
      let at : n + e1.count ≡ n + position_count a = ap (λ z. n + z) are_a.count in
      let are_b = subst (λ z. AreEnds z b e2) at are_b' in
      let second = subst (λ z. AddsFollows lb z b mid last) at second' in
      record {
        marks = λ p q. linked
            (chained (first.marks p q) (second.marks p q)
            (λ l. (let both = and_true looped _ (sym is_la ∙ l.0) in (both.0, (inr (both.1, l.1.0), inl l.1.1))))
            (λ l. (let both = and_true looped _ (sym is_lb ∙ l.0) in (both.0, (inl l.1.0, inr (sym are_a.empty ∙ both.1, l.1.1))))))
            (add_as (links.marks p q) (
              λ h. ((are_a.ends p).0 (subst (λ z. Contains z p) is1 h.0), (are_b.begins q).0 (subst (λ z. Contains z q) is2 h.1)),
              λ h. (subst (λ z. Contains z p) (sym is1) ((are_a.ends p).1 h.0), subst (λ z. Contains z q) (sym is2) ((are_b.begins q).1 h.1)),
            ));
      }

  either_follows : (n : ℕ) (looped : Bool) (a b : Regex A) (i j : Box (Unit {0}) Global) (old mid new : List (Vec Bool Global)) (e1 : Ends) →
      AreEnds n a e1 → AddsFollows looped n a old mid → AddsFollows looped (n + e1.count) b mid new → AddsFollows looped n (Either' i a j b) old new
  either_follows n looped a b i j old mid new e1 are_a first second' =
      let second = subst (λ z. AddsFollows looped z b mid new) (ap (λ z. n + z) are_a.count) second' in
      record { marks = λ p q. chained (first.marks p q) (second.marks p q) (λ l. (l.0, (inl l.1.0, inl l.1.1))) (λ l. (l.0, (inr l.1.0, inr l.1.1))) }

  -- the same, as the code has it: b is read twice
  pub concat_follows_at : (r : Regex A) (n : ℕ) (looped la lb : Bool) (a b a' b' b'' : Regex A) (i j : Box (Unit {0}) Global) (old mid last new : List (Vec Bool Global)) (e1 e2 : Ends) (s1 s2 : List ℕ) →
      r ≡ Concat' i a j b → a' ≡ a → b' ≡ b → b'' ≡ b → la ≡ (looped && is_empty_word_in b'') → lb ≡ (looped && e1.empty) →
      AreEnds n a' e1 → AreEnds (n + e1.count) b' e2 → AddsFollows la n a' old mid → AddsFollows lb (n + e1.count) b' mid last → s1 ≡ e1.ends.items → s2 ≡ e2.begins.items →
      AddsMarks last new (λ p q. Contains s1 p × Contains s2 q) → AddsFollows looped n r old new
  concat_follows_at r n looped la lb a b a' b' b'' i j old mid last new e1 e2 s1 s2 is is_a is_b is_b'' is_la is_lb are_a are_b first second is1 is2 links =
      let R : Regex A → Type 0 = λ z. AddsFollows looped n z old new in
      subst R (ap (λ z. Concat' i z j b') is_a ∙ ap (λ z. Concat' i a j z) is_b ∙ sym is)
      (concat_follows n looped la lb a' b' i j old mid last new e1 e2 s1 s2 (is_la ∙ ap (λ z. looped && is_empty_word_in z) (is_b'' ∙ sym is_b)) is_lb are_a are_b first second is1 is2 links)

  pub either_follows_at : (r : Regex A) (n : ℕ) (looped : Bool) (a b a' b' : Regex A) (i j : Box (Unit {0}) Global) (old mid new : List (Vec Bool Global)) (e1 : Ends) →
      r ≡ Either' i a j b → a' ≡ a → b' ≡ b → AreEnds n a' e1 → AddsFollows looped n a' old mid → AddsFollows looped (n + e1.count) b' mid new → AddsFollows looped n r old new
  either_follows_at r n looped a b a' b' i j old mid new e1 is is_a is_b are_a first second =
      let R : Regex A → Type 0 = λ z. AddsFollows looped n z old new in
      subst R (ap (λ z. Either' i z j b') is_a ∙ ap (λ z. Either' i a j z) is_b ∙ sym is)
      (either_follows n looped a' b' i j old mid new e1 are_a first second)
