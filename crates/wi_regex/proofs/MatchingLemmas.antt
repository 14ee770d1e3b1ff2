-- Lemmas on matching.
use Rattle.std.proofs.Common.{◌≡◌, ℕ, Bool, true, false, ◌⊎◌, ◌↔◌, IsTrue, List, [], ◌∷◌, ◌++◌, refl, sym, ◌∙◌, inl, inr}
use Rattle.std.specs.Prelude.{◌&&◌, ◌||◌}
use Rattle.wi_regex.specs.declared.regex.Regex.{Regex}
use Rattle.wi_regex.specs.declared.regex.Regex.TheVariants.{Atom, Concat', Either', Star', Plus', Maybe'}
use Rattle.wi_regex.specs.Matching.{IsJoined, IsRepeated, Matches, SplitsOff, is_empty_word_in}

pub front_empty : (u v : List ℕ) → [] ≡ u ++ v → (u ≡ []) × (v ≡ [])
front_empty [] v e = (refl, sym e)
front_empty (x ∷ u) v e = cc

and_true : (a b : Bool) → (a && b) ≡ true → (a ≡ true) × (b ≡ true)
and_true true b e = (refl, e)
and_true false b e = cc

or_true : (a b : Bool) → (a || b) ≡ true → (a ≡ true) ⊎ (b ≡ true)
or_true true b e = inl refl
or_true false b e = inr e

and_both : (a b : Bool) → a ≡ true → b ≡ true → (a && b) ≡ true
and_both true b e f = f
and_both false b e f = e

or_first : (a b : Bool) → a ≡ true → (a || b) ≡ true
or_first true b e = refl
or_first false b e = cc

or_second : (a b : Bool) → b ≡ true → (a || b) ≡ true
or_second true b e = refl
or_second false b e = e

-- the test tells of the empty word
module _ {A : Type 0} (set : A → ℕ → Bool) where
  pub matches_empty : (r : Regex A) → is_empty_word_in r ≡ true → Matches set r []
  matches_empty (Atom a) h = cc
  matches_empty (Concat' p a q b) h =
      let both = and_true _ _ h in ([], [], matches_empty a both.0, matches_empty b both.1, refl)
  matches_empty (Either' p a q b) h =
      elim (or_true _ _ h) [ inl e ↦ inl (matches_empty a e) | inr e ↦ inr (matches_empty b e) ]
  matches_empty (Star' p a) h = ([], refl)
  matches_empty (Plus' p a) h = ([], [], matches_empty a h, ([], refl), refl)
  matches_empty (Maybe' p a) h = inl refl

  matched : (r : Regex A) (w : List ℕ) → [] ≡ w → Matches set r w → Matches set r []
  matched r w e h = let P : List ℕ → Type 0 = λ z. Matches set r z in rw e h

  pub empty_matched : (r : Regex A) → Matches set r [] → is_empty_word_in r ≡ true
  empty_matched (Atom a) h = let e = h.2 in cc
  empty_matched (Concat' p a q b) h =
      let both = front_empty h.0 h.1 h.4 in
      and_both _ _ (empty_matched a (matched a h.0 (sym both.0) h.2)) (empty_matched b (matched b h.1 (sym both.1) h.3))
  empty_matched (Either' p a q b) h =
      elim h [ inl m ↦ or_first _ _ (empty_matched a m) | inr m ↦ or_second _ _ (empty_matched b m) ]
  empty_matched (Star' p a) h = refl
  empty_matched (Plus' p a) h =
      let both = front_empty h.0 h.1 h.4 in empty_matched a (matched a h.0 (sym both.0) h.2)
  empty_matched (Maybe' p a) h = refl

  pub empty_word : (r : Regex A) (b : Bool) → b ≡ is_empty_word_in r → IsTrue b ↔ Matches set r []
  empty_word r b e = (λ h. matches_empty r (sym e ∙ h), λ m. e ∙ empty_matched r m)

split_off : (P : List ℕ → Type 0) (w : List ℕ) (parts : List (List ℕ)) → IsJoined P parts w → (w ≡ []) ⊎ SplitsOff P w
split_off P w [] h = inl h
split_off P w (part ∷ parts) h = inr (part, h.0, h.1, h.2, (parts, h.4), h.3)

pub repeated_split : (P : List ℕ → Type 0) (w : List ℕ) → IsRepeated P w ↔ ((w ≡ []) ⊎ SplitsOff P w)
repeated_split P w = (
  λ h. split_off P w h.0 h.1,
  elim [ inl e ↦ ([], e) | inr s ↦ (s.0 ∷ s.4.0, (s.1, s.2, s.3, s.5, s.4.1)) ],
)
