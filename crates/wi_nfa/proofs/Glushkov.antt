-- A position automaton accepts what its expression matches.
use Rattle.std.proofs.Common.{◌≡◌, ℕ, ◌+◌, Bool, true, ◌⊎◌, List, [], ◌∷◌, ◌++◌, refl, sym, ap, ◌∙◌, inl, inr, arith}
use Rattle.wi_regex.specs.declared.regex.Regex.{Regex}
use Rattle.wi_regex.specs.declared.regex.Regex.TheVariants.{Atom, Concat', Either', Star', Plus', Maybe'}
use Rattle.wi_regex.specs.Matching.{IsJoined, IsRepeated, Matches, position_count, is_empty_word_in}
use Rattle.wi_regex.proofs.MatchingLemmas.{front_empty, matches_empty, empty_matched}
use Rattle.wi_nfa.specs.Positions.{BeginsAt, EndsAt, Follows, Agrees}
use Rattle.wi_nfa.proofs.Ranges.{Within, apart, begins_within, follows_within, within_left, within_right}

-- what may be read after the position p
abbrev pub After : {A : Type 0} → (A → ℕ → Bool) → ℕ → Regex A → ℕ → List ℕ → Type 0
After set n (Atom a) p w = (p ≡ n + 1) × (w ≡ [])
After set n (Concat' _ a _ b) p w =
    ((u v : List ℕ) × After set n a p u × Matches set b v × (w ≡ u ++ v)) ⊎ After set (n + position_count a) b p w
After set n (Either' _ a _ b) p w = After set n a p w ⊎ After set (n + position_count a) b p w
After set n (Star' _ a) p w = (u v : List ℕ) × After set n a p u × IsRepeated (Matches set a) v × (w ≡ u ++ v)
After set n (Plus' _ a) p w = (u v : List ℕ) × After set n a p u × IsRepeated (Matches set a) v × (w ≡ u ++ v)
After set n (Maybe' _ a) p w = After set n a p w

-- the symbol leads into the expression, to a position after which the word may be read
pub record Enters {A : Type 0} (set : A → ℕ → Bool) (reads : ℕ → ℕ → Bool) (n : ℕ) (r : Regex A) (x : ℕ) (w : List ℕ) : Type 0 where
  pub at : ℕ
  pub begins : BeginsAt n r at
  pub reads_it : reads at x ≡ true
  pub after : After set n r at w

-- the symbol leads on
pub record Goes {A : Type 0} (set : A → ℕ → Bool) (reads : ℕ → ℕ → Bool) (n : ℕ) (r : Regex A) (p x : ℕ) (w : List ℕ) : Type 0 where
  pub at : ℕ
  pub follows : Follows n r p at
  pub reads_it : reads at x ≡ true
  pub after : After set n r at w

module _ {A : Type 0} (set : A → ℕ → Bool) where
  matched_as : (r : Regex A) (v w : List ℕ) → v ≡ w → Matches set r v → Matches set r w
  matched_as r v w e h = let P : List ℕ → Type 0 = λ z. Matches set r z in rw (sym e) h

  after_as : (n : ℕ) (r : Regex A) (p : ℕ) (v w : List ℕ) → v ≡ w → After set n r p v → After set n r p w
  after_as n r p v w e h = let P : List ℕ → Type 0 = λ z. After set n r p z in rw (sym e) h

  pub after_within : (n : ℕ) (r : Regex A) (p : ℕ) (w : List ℕ) → After set n r p w → Within n (position_count r) p
  after_within n (Atom a) p w h = let e = h.0 in record { above = omega arith; upto = omega arith }
  after_within n (Concat' _ a _ b) p w h =
      elim h [ inl e ↦ within_left _ _ _ _ (after_within n a p e.0 e.2) | inr e ↦ within_right _ _ _ _ (after_within (n + position_count a) b p w e) ]
  after_within n (Either' _ a _ b) p w h =
      elim h [ inl e ↦ within_left _ _ _ _ (after_within n a p w e) | inr e ↦ within_right _ _ _ _ (after_within (n + position_count a) b p w e) ]
  after_within n (Star' _ a) p w h = after_within n a p h.0 h.2
  after_within n (Plus' _ a) p w h = after_within n a p h.0 h.2
  after_within n (Maybe' _ a) p w h = after_within n a p w h

  -- after a position where a word may end the empty word may be read
  pub after_end : (n : ℕ) (r : Regex A) (p : ℕ) → EndsAt n r p → After set n r p []
  after_end n (Atom a) p h = (h, refl)
  after_end n (Concat' _ a _ b) p h =
      elim h [ inl e ↦ inr (after_end (n + position_count a) b p e) | inr e ↦ inl ([], [], after_end n a p e.1, matches_empty set b e.0, refl) ]
  after_end n (Either' _ a _ b) p h =
      elim h [ inl e ↦ inl (after_end n a p e) | inr e ↦ inr (after_end (n + position_count a) b p e) ]
  after_end n (Star' _ a) p h = ([], [], after_end n a p h, ([], refl), refl)
  after_end n (Plus' _ a) p h = ([], [], after_end n a p h, ([], refl), refl)
  after_end n (Maybe' _ a) p h = after_end n a p h

  pub end_after : (n : ℕ) (r : Regex A) (p : ℕ) → After set n r p [] → EndsAt n r p
  end_after n (Atom a) p h = h.0
  end_after n (Concat' _ a _ b) p h =
      elim h [
        | inl e ↦ let both = front_empty e.0 e.1 e.4 in
            inr (empty_matched set b (matched_as b e.1 [] both.1 e.3), end_after n a p (after_as n a p e.0 [] both.0 e.2))
        | inr e ↦ inl (end_after (n + position_count a) b p e)
      ]
  end_after n (Either' _ a _ b) p h =
      elim h [ inl e ↦ inl (end_after n a p e) | inr e ↦ inr (end_after (n + position_count a) b p e) ]
  end_after n (Star' _ a) p h = let both = front_empty h.0 h.1 h.4 in end_after n a p (after_as n a p h.0 [] both.0 h.2)
  end_after n (Plus' _ a) p h = let both = front_empty h.0 h.1 h.4 in end_after n a p (after_as n a p h.0 [] both.0 h.2)
  end_after n (Maybe' _ a) p h = end_after n a p h

  module _ (reads : ℕ → ℕ → Bool) where
    reads_as : (q x y : ℕ) → x ≡ y → reads q y ≡ true → reads q x ≡ true
    reads_as q x y e h = ap (reads q) e ∙ h

    abbrev Entering : ℕ → Regex A → Type 0
    Entering n r = (x : ℕ) (w : List ℕ) → Matches set r (x ∷ w) → Enters set reads n r x w

    -- what a word of words of a begins with
    enter_parts : (n : ℕ) (a : Regex A) → Entering n a →
        (x : ℕ) (w : List ℕ) (parts : List (List ℕ)) → IsJoined (Matches set a) parts (x ∷ w) →
        (q : ℕ) × BeginsAt n a q × (reads q x ≡ true) × ((u v : List ℕ) × After set n a q u × IsRepeated (Matches set a) v × (w ≡ u ++ v))
    enter_parts n a enter x w [] h = cc
    enter_parts n a enter x w ([] ∷ parts) h = absurd (h.1 refl)
    enter_parts n a enter x w ((y ∷ u) ∷ parts) h =
        let same : x ≡ y = (let e = h.3 in cc) in
        let rest : w ≡ u ++ h.0 = (let e = h.3 in cc) in
        let by = enter y u h.2 in
        (by.at, by.begins, reads_as by.at x y same by.reads_it, (u, h.0, by.after, (parts, h.4), rest))

    enter_concat : (n j : ℕ) (a b : Regex A) → Agrees set reads n a → Entering n a → Entering j b → (x : ℕ) (w u v : List ℕ) →
        Matches set a u → Matches set b v → x ∷ w ≡ u ++ v →
        (q : ℕ) × (reads q x ≡ true) × ((BeginsAt n a q × ((s t : List ℕ) × After set n a q s × Matches set b t × (w ≡ s ++ t)))
        ⊎ ((is_empty_word_in a ≡ true) × BeginsAt j b q × After set j b q w))
    enter_concat n j a b agrees enter_a enter_b x w [] v ma mb e =
        let by = enter_b x w (matched_as b v (x ∷ w) (sym e) mb) in
        (by.at, by.reads_it, inr (empty_matched set a ma, by.begins, by.after))
    enter_concat n j a b agrees enter_a enter_b x w (y ∷ u) v ma mb e =
        let same : x ≡ y = cc in
        let by = enter_a y u ma in
        (by.at, reads_as by.at x y same by.reads_it, inl (by.begins, (u, v, by.after, mb, (let r : w ≡ u ++ v = cc in r))))

    enter_plus : (n : ℕ) (a : Regex A) → Entering n a → (x : ℕ) (w u v : List ℕ) →
        Matches set a u → IsRepeated (Matches set a) v → x ∷ w ≡ u ++ v →
        (q : ℕ) × BeginsAt n a q × (reads q x ≡ true) × ((s t : List ℕ) × After set n a q s × IsRepeated (Matches set a) t × (w ≡ s ++ t))
    enter_plus n a enter x w [] v ma mb e =
        let P : List ℕ → Type 0 = λ z. IsJoined (Matches set a) mb.0 z in
        enter_parts n a enter x w mb.0 (rw e mb.1)
    enter_plus n a enter x w (y ∷ u) v ma mb e =
        let same : x ≡ y = cc in
        let by = enter y u ma in
        (by.at, by.begins, reads_as by.at x y same by.reads_it, (u, v, by.after, mb, (let r : w ≡ u ++ v = cc in r)))

    -- a symbol that begins a word leads to a position, after which the rest may be read
    pub enter : (n : ℕ) (r : Regex A) → Agrees set reads n r → Entering n r
    enter n (Atom a) agrees x w h =
        let same : x ≡ h.0 = (let e = h.2 in cc) in
        let none : w ≡ [] = (let e = h.2 in cc) in
        record { at = n + 1; begins = refl; reads_it = agrees x ∙ ap (set a) same ∙ h.1; after = (refl, none) }
    enter n (Concat' _ a _ b) agrees x w h =
        let by = enter_concat n (n + position_count a) a b agrees.0 (enter n a agrees.0) (enter (n + position_count a) b agrees.1) x w h.0 h.1 h.2 h.3 h.4 in
        elim by.2 [
          | inl e ↦ record { at = by.0; begins = inl e.0; reads_it = by.1; after = inl e.1 }
          | inr e ↦ record { at = by.0; begins = inr (e.0, e.1); reads_it = by.1; after = inr e.2 }
        ]
    enter n (Either' _ a _ b) agrees x w h =
        elim h [
          | inl m ↦ let by = enter n a agrees.0 x w m in record { at = by.at; begins = inl by.begins; reads_it = by.reads_it; after = inl by.after }
          | inr m ↦ let by = enter (n + position_count a) b agrees.1 x w m in
              record { at = by.at; begins = inr by.begins; reads_it = by.reads_it; after = inr by.after }
        ]
    enter n (Star' _ a) agrees x w h =
        let by = enter_parts n a (enter n a agrees) x w h.0 h.1 in record { at = by.0; begins = by.1; reads_it = by.2; after = by.3 }
    enter n (Plus' _ a) agrees x w h =
        let by = enter_plus n a (enter n a agrees) x w h.0 h.1 h.2 h.3 h.4 in record { at = by.0; begins = by.1; reads_it = by.2; after = by.3 }
    enter n (Maybe' _ a) agrees x w h =
        elim h [
          | inl e ↦ cc
          | inr m ↦ let by = enter n a agrees x w m in record { at = by.at; begins = by.begins; reads_it = by.reads_it; after = by.after }
        ]

    -- one more word of a in front
    pub one_more : (a : Regex A) (x : ℕ) (w u v : List ℕ) → Matches set a (x ∷ u) → IsRepeated (Matches set a) v → w ≡ u ++ v → IsRepeated (Matches set a) (x ∷ w)
    one_more a x w u v ma mb e = ((x ∷ u) ∷ mb.0, (v, (λ none. cc), ma, ap (λ z. x ∷ z) e, mb.1))

    -- the other way
    pub entered : (n : ℕ) (r : Regex A) → Agrees set reads n r → (q x : ℕ) (w : List ℕ) →
        BeginsAt n r q → reads q x ≡ true → After set n r q w → Matches set r (x ∷ w)
    entered n (Atom a) agrees q x w begins reads_it after =
        (x, sym (agrees x) ∙ reads_as_at q (n + 1) x begins reads_it, ap (λ z. x ∷ z) after.1)
      where
        reads_as_at : (q p x : ℕ) → q ≡ p → reads q x ≡ true → reads p x ≡ true
        reads_as_at q p x e h = ap (λ z. reads z x) (sym e) ∙ h
    entered n (Concat' p a p' b) agrees q x w begins reads_it after =
        elim begins [
          | inl f ↦ elim after as (λ _. Matches set (Concat' p a p' b) (x ∷ w)) [
            | inl g ↦ (x ∷ g.0, g.1, entered n a agrees.0 q x g.0 f reads_it g.2, g.3, ap (λ z. x ∷ z) g.4)
            | inr g ↦ apart n _ _ q (begins_within n a q f) (after_within (n + position_count a) b q w g)
          ]
          | inr f ↦ elim after as (λ _. Matches set (Concat' p a p' b) (x ∷ w)) [
            | inl g ↦ apart n _ _ q (after_within n a q g.0 g.2) (begins_within (n + position_count a) b q f.1)
            | inr g ↦ ([], x ∷ w, matches_empty set a f.0, entered (n + position_count a) b agrees.1 q x w f.1 reads_it g, refl)
          ]
        ]
    entered n (Either' _ a _ b) agrees q x w begins reads_it after =
        elim begins [
          | inl f ↦ elim after as (λ _. Matches set a (x ∷ w) ⊎ Matches set b (x ∷ w)) [
            | inl g ↦ inl (entered n a agrees.0 q x w f reads_it g)
            | inr g ↦ apart n _ _ q (begins_within n a q f) (after_within (n + position_count a) b q w g)
          ]
          | inr f ↦ elim after as (λ _. Matches set a (x ∷ w) ⊎ Matches set b (x ∷ w)) [
            | inl g ↦ apart n _ _ q (after_within n a q w g) (begins_within (n + position_count a) b q f)
            | inr g ↦ inr (entered (n + position_count a) b agrees.1 q x w f reads_it g)
          ]
        ]
    entered n (Star' _ a) agrees q x w begins reads_it after =
        one_more a x w after.0 after.1 (entered n a agrees q x after.0 begins reads_it after.2) after.3 after.4
    entered n (Plus' _ a) agrees q x w begins reads_it after =
        (x ∷ after.0, after.1, entered n a agrees q x after.0 begins reads_it after.2, after.3, ap (λ z. x ∷ z) after.4)
    entered n (Maybe' _ a) agrees q x w begins reads_it after = inr (entered n a agrees q x w begins reads_it after)

    -- how a repeated part goes on
    leave : (n : ℕ) (a : Regex A) → Agrees set reads n a →
        ((p x : ℕ) (w : List ℕ) → After set n a p (x ∷ w) → Goes set reads n a p x w) →
        (p x : ℕ) (w u v : List ℕ) → After set n a p u → IsRepeated (Matches set a) v → x ∷ w ≡ u ++ v →
        (q : ℕ) × (Follows n a p q ⊎ (EndsAt n a p × BeginsAt n a q)) × (reads q x ≡ true)
        × ((s t : List ℕ) × After set n a q s × IsRepeated (Matches set a) t × (w ≡ s ++ t))
    leave n a agrees go p x w [] v after rep e =
        let P : List ℕ → Type 0 = λ z. IsJoined (Matches set a) rep.0 z in
        let by = enter_parts n a (enter n a agrees) x w rep.0 (rw e rep.1) in
        (by.0, inr (end_after n a p after, by.1), by.2, by.3)
    leave n a agrees go p x w (y ∷ u) v after rep e =
        let same : x ≡ y = cc in
        let by = go p y u after in
        (by.at, inl by.follows, reads_as by.at x y same by.reads_it, (u, v, by.after, rep, (let r : w ≡ u ++ v = cc in r)))

    leave_first : (n j : ℕ) (a b : Regex A) → Agrees set reads j b →
        ((p x : ℕ) (w : List ℕ) → After set n a p (x ∷ w) → Goes set reads n a p x w) →
        (p x : ℕ) (w u v : List ℕ) → After set n a p u → Matches set b v → x ∷ w ≡ u ++ v →
        (q : ℕ) × (reads q x ≡ true) × ((Follows n a p q × ((s t : List ℕ) × After set n a q s × Matches set b t × (w ≡ s ++ t)))
        ⊎ (EndsAt n a p × BeginsAt j b q × After set j b q w))
    leave_first n j a b agrees go p x w [] v after mb e =
        let by = enter j b agrees x w (matched_as b v (x ∷ w) (sym e) mb) in
        (by.at, by.reads_it, inr (end_after n a p after, by.begins, by.after))
    leave_first n j a b agrees go p x w (y ∷ u) v after mb e =
        let same : x ≡ y = cc in
        let by = go p y u after in
        (by.at, reads_as by.at x y same by.reads_it, inl (by.follows, (u, v, by.after, mb, (let r : w ≡ u ++ v = cc in r))))

    -- a symbol that may be read after a position leads to a next one
    pub goes : (n : ℕ) (r : Regex A) → Agrees set reads n r → (p x : ℕ) (w : List ℕ) → After set n r p (x ∷ w) → Goes set reads n r p x w
    goes n (Atom a) agrees p x w h = let e = h.1 in cc
    goes n (Concat' _ a _ b) agrees p x w h =
        elim h [
          | inl g ↦ let by = leave_first n (n + position_count a) a b agrees.1 (goes n a agrees.0) p x w g.0 g.1 g.2 g.3 g.4 in
              elim by.2 [
                | inl f ↦ record { at = by.0; follows = inl f.0; reads_it = by.1; after = inl f.1 }
                | inr f ↦ record { at = by.0; follows = inr (inr (f.0, f.1)); reads_it = by.1; after = inr f.2 }
              ]
          | inr g ↦ let by = goes (n + position_count a) b agrees.1 p x w g in
              record { at = by.at; follows = inr (inl by.follows); reads_it = by.reads_it; after = inr by.after }
        ]
    goes n (Either' _ a _ b) agrees p x w h =
        elim h [
          | inl g ↦ let by = goes n a agrees.0 p x w g in record { at = by.at; follows = inl by.follows; reads_it = by.reads_it; after = inl by.after }
          | inr g ↦ let by = goes (n + position_count a) b agrees.1 p x w g in
              record { at = by.at; follows = inr by.follows; reads_it = by.reads_it; after = inr by.after }
        ]
    goes n (Star' _ a) agrees p x w h =
        let by = leave n a agrees (goes n a agrees) p x w h.0 h.1 h.2 h.3 h.4 in record { at = by.0; follows = by.1; reads_it = by.2; after = by.3 }
    goes n (Plus' _ a) agrees p x w h =
        let by = leave n a agrees (goes n a agrees) p x w h.0 h.1 h.2 h.3 h.4 in record { at = by.0; follows = by.1; reads_it = by.2; after = by.3 }
    goes n (Maybe' _ a) agrees p x w h =
        let by = goes n a agrees p x w h in record { at = by.at; follows = by.follows; reads_it = by.reads_it; after = by.after }

    -- the other way
    again : (n : ℕ) (a : Regex A) → Agrees set reads n a →
        ((p q x : ℕ) (w : List ℕ) → Follows n a p q → reads q x ≡ true → After set n a q w → After set n a p (x ∷ w)) →
        (p q x : ℕ) (w : List ℕ) → Follows n a p q ⊎ (EndsAt n a p × BeginsAt n a q) → reads q x ≡ true →
        ((u v : List ℕ) × After set n a q u × IsRepeated (Matches set a) v × (w ≡ u ++ v)) →
        (u v : List ℕ) × After set n a p u × IsRepeated (Matches set a) v × (x ∷ w ≡ u ++ v)
    again n a agrees back p q x w (inl f) reads_it h = (x ∷ h.0, h.1, back p q x h.0 f reads_it h.2, h.3, ap (λ z. x ∷ z) h.4)
    again n a agrees back p q x w (inr f) reads_it h =
        ([], x ∷ w, after_end n a p f.0, one_more a x w h.0 h.1 (entered n a agrees q x h.0 f.1 reads_it h.2) h.3 h.4, refl)

    pub gone : (n : ℕ) (r : Regex A) → Agrees set reads n r → (p q x : ℕ) (w : List ℕ) →
        Follows n r p q → reads q x ≡ true → After set n r q w → After set n r p (x ∷ w)
    gone n (Atom a) agrees p q x w f reads_it after = absurd f
    gone n (Concat' i a j b) agrees p q x w f reads_it after =
        elim f [
          | inl g ↦ elim after as (λ _. After set n (Concat' i a j b) p (x ∷ w)) [
            | inl k ↦ inl (x ∷ k.0, k.1, gone n a agrees.0 p q x k.0 g reads_it k.2, k.3, ap (λ z. x ∷ z) k.4)
            | inr k ↦ apart n _ _ q (follows_within n a p q g).1 (after_within (n + position_count a) b q w k)
          ]
          | inr h ↦ elim h as (λ _. After set n (Concat' i a j b) p (x ∷ w)) [
            | inl g ↦ elim after as (λ _. After set n (Concat' i a j b) p (x ∷ w)) [
              | inl k ↦ apart n _ _ q (after_within n a q k.0 k.2) (follows_within (n + position_count a) b p q g).1
              | inr k ↦ inr (gone (n + position_count a) b agrees.1 p q x w g reads_it k)
            ]
            | inr g ↦ elim after as (λ _. After set n (Concat' i a j b) p (x ∷ w)) [
              | inl k ↦ apart n _ _ q (after_within n a q k.0 k.2) (begins_within (n + position_count a) b q g.1)
              | inr k ↦ inl ([], x ∷ w, after_end n a p g.0, entered (n + position_count a) b agrees.1 q x w g.1 reads_it k, refl)
            ]
          ]
        ]
    gone n (Either' i a j b) agrees p q x w f reads_it after =
        elim f [
          | inl g ↦ elim after as (λ _. After set n a p (x ∷ w) ⊎ After set (n + position_count a) b p (x ∷ w)) [
            | inl k ↦ inl (gone n a agrees.0 p q x w g reads_it k)
            | inr k ↦ apart n _ _ q (follows_within n a p q g).1 (after_within (n + position_count a) b q w k)
          ]
          | inr g ↦ elim after as (λ _. After set n a p (x ∷ w) ⊎ After set (n + position_count a) b p (x ∷ w)) [
            | inl k ↦ apart n _ _ q (after_within n a q w k) (follows_within (n + position_count a) b p q g).1
            | inr k ↦ inr (gone (n + position_count a) b agrees.1 p q x w g reads_it k)
          ]
        ]
    gone n (Star' _ a) agrees p q x w f reads_it after = again n a agrees (gone n a agrees) p q x w f reads_it after
    gone n (Plus' _ a) agrees p q x w f reads_it after = again n a agrees (gone n a agrees) p q x w f reads_it after
    gone n (Maybe' _ a) agrees p q x w f reads_it after = gone n a agrees p q x w f reads_it after
