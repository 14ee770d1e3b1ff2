-- The signs of an expression that is being read are those of trees, bracket by bracket.
use Rattle.std.proofs.Common.{◌≡◌, ℕ, zero, suc, ◌+◌, ◌-◌, Bool, true, false, List, [], ◌∷◌, ◌++◌, length, Option, Some, None, refl, sym, ap, ◌∙◌, subst, arith}
use Rattle.std.specs.Prelude.{◌&&◌, ◌==◌, not, is_some}
use Rattle.std.proofs.lemmas.Bool.{and_parts, and_from, eqb-true}
use Rattle.wi_syntax.specs.declared.token.Mark.{Mark}
use Rattle.wi_syntax.specs.declared.token.Mark.TheVariants.{Less, Greater, OpenRound, CloseRound, OpenSquare, CloseSquare, Hash, Dot, Comma, Caret, Star, Plus, Question, Bar}
use Rattle.wi_syntax.specs.declared.written.Sign.{Sign}
use Rattle.wi_syntax.specs.declared.written.Sign.TheVariants as sign
use Rattle.wi_syntax.specs.Trees.{Tree, Leaf, Starred, Plussed, Optional, Grouped, Then, Or, Level, AnItem, ASequence, AnExpression, signs_of, is_tree, IsExpression}
use Rattle.wi_syntax.specs.private.Parsing.{Phrasing, no_phrasing, is_whole, with_atom, if_behind, after_sign}
use Rattle.wi_syntax.proofs.Options.{if_some}

module _ {A : Type 0} (p : A → Bool) where
  -- signs after more signs
  pub signs_more : (t : Tree A) (xs ys : List (Sign A)) → signs_of t (xs ++ ys) ≡ signs_of t xs ++ ys
  signs_more (Leaf a) xs ys = refl
  signs_more (Starred t) xs ys = signs_more t (sign.Star ∷ xs) ys
  signs_more (Plussed t) xs ys = signs_more t (sign.Plus ∷ xs) ys
  signs_more (Optional t) xs ys = signs_more t (sign.Maybe ∷ xs) ys
  signs_more (Grouped t) xs ys = ap (λ z. sign.Open ∷ z) (signs_more t (sign.Close ∷ xs) ys)
  signs_more (Then a b) xs ys = ap (signs_of a) (signs_more b xs ys) ∙ signs_more a (signs_of b xs) ys
  signs_more (Or a b) xs ys = ap (λ z. signs_of a (sign.Or ∷ z)) (signs_more b xs ys) ∙ signs_more a (sign.Or ∷ signs_of b xs) ys

  -- what stands since a bracket: what was closed by `|`, the items before the last one, and the last one
  pub record Frame : Type 0 where
    pub alternatives : Option (Tree A)
    pub sequence : Option (Tree A)
    pub item : Option (Tree A)

  abbrev pub opt : Option (Tree A) → List (Sign A) → List (Sign A)
  opt None rest = rest
  opt (Some t) rest = signs_of t rest

  abbrev pub opt_or : Option (Tree A) → List (Sign A) → List (Sign A)
  opt_or None rest = rest
  opt_or (Some t) rest = signs_of t (sign.Or ∷ rest)

  abbrev pub frame_signs : Frame → List (Sign A) → List (Sign A)
  frame_signs f rest = opt_or f.alternatives (opt f.sequence (opt f.item rest))

  abbrev pub stack_signs : Frame → List Frame → List (Sign A) → List (Sign A)
  stack_signs f [] rest = frame_signs f rest
  stack_signs f (g ∷ fs) rest = stack_signs g fs (sign.Open ∷ frame_signs f rest)

  opt_more : (o : Option (Tree A)) (xs ys : List (Sign A)) → opt o (xs ++ ys) ≡ opt o xs ++ ys
  opt_more None xs ys = refl
  opt_more (Some t) xs ys = signs_more t xs ys

  opt_or_more : (o : Option (Tree A)) (xs ys : List (Sign A)) → opt_or o (xs ++ ys) ≡ opt_or o xs ++ ys
  opt_or_more None xs ys = refl
  opt_or_more (Some t) xs ys = signs_more t (sign.Or ∷ xs) ys

  frame_more : (f : Frame) (xs ys : List (Sign A)) → frame_signs f (xs ++ ys) ≡ frame_signs f xs ++ ys
  frame_more f xs ys =
      ap (λ z. opt_or f.alternatives (opt f.sequence z)) (opt_more f.item xs ys)
      ∙ ap (opt_or f.alternatives) (opt_more f.sequence (opt f.item xs) ys)
      ∙ opt_or_more f.alternatives (opt f.sequence (opt f.item xs)) ys

  stack_more : (f : Frame) (fs : List Frame) (xs ys : List (Sign A)) → stack_signs f fs (xs ++ ys) ≡ stack_signs f fs xs ++ ys
  stack_more f [] xs ys = frame_more f xs ys
  stack_more f (g ∷ fs) xs ys = ap (λ z. stack_signs g fs (sign.Open ∷ z)) (frame_more f xs ys) ∙ stack_more g fs (sign.Open ∷ frame_signs f xs) ys

  abbrev pub IsOpt : Level → Option (Tree A) → Type 0
  IsOpt level None = Unit {0}
  IsOpt level (Some t) = is_tree p level t ≡ true

  pub record IsFrame (f : Frame) : Type 0 where
    pub alternatives : IsOpt AnExpression f.alternatives
    pub sequence : IsOpt ASequence f.sequence
    pub item : IsOpt AnItem f.item

  abbrev pub AreFrames : List Frame → Type 0
  AreFrames [] = Unit {0}
  AreFrames (f ∷ fs) = IsFrame f × AreFrames fs

  -- an expression that is being read has the signs of frames, as many as brackets are open and one more
  pub record IsPhrase (e : Phrasing A) : Type 0 where
    pub top : Frame
    pub below : List Frame
    pub frame : IsFrame top
    pub frames : AreFrames below
    pub signs : stack_signs top below [] ≡ e.signs
    pub depth : length below ≡ e.depth
    pub behind : is_some top.item ≡ e.behind
    -- behind a bracket or `|` no item stands
    pub firm : e.behind ≡ false → top.sequence ≡ None

  abbrev blank : Frame
  blank = record { alternatives = None; sequence = None; item = None }

  pub phrase_none : IsPhrase no_phrasing
  phrase_none = record { top = blank; below = []; frame = record { alternatives = tt; sequence = tt; item = tt }; frames = tt; signs = refl; depth = refl; behind = refl; firm = λ e. refl }

  item_sequence : (t : Tree A) → is_tree p AnItem t ≡ true → is_tree p ASequence t ≡ true
  item_sequence (Leaf a) h = h
  item_sequence (Starred t) h = h
  item_sequence (Plussed t) h = h
  item_sequence (Optional t) h = h
  item_sequence (Grouped t) h = h
  item_sequence (Then a b) h = cc
  item_sequence (Or a b) h = cc

  sequence_expression : (t : Tree A) → is_tree p ASequence t ≡ true → is_tree p AnExpression t ≡ true
  sequence_expression (Leaf a) h = h
  sequence_expression (Starred t) h = h
  sequence_expression (Plussed t) h = h
  sequence_expression (Optional t) h = h
  sequence_expression (Grouped t) h = h
  sequence_expression (Then a b) h = h
  sequence_expression (Or a b) h = cc

  -- the items with the last one, and the whole of a frame
  abbrev folded : Option (Tree A) → Option (Tree A) → Option (Tree A)
  folded None item = item
  folded (Some s) None = Some s
  folded (Some s) (Some t) = Some (Then s t)

  folded_signs : (s i : Option (Tree A)) (rest : List (Sign A)) → opt (folded s i) rest ≡ opt s (opt i rest)
  folded_signs None i rest = refl
  folded_signs (Some s) None rest = refl
  folded_signs (Some s) (Some t) rest = refl

  folded_opt : (s i : Option (Tree A)) → IsOpt ASequence s → IsOpt AnItem i → IsOpt ASequence (folded s i)
  folded_opt None None h k = tt
  folded_opt None (Some t) h k = item_sequence t k
  folded_opt (Some s) None h k = h
  folded_opt (Some s) (Some t) h k = and_from (is_tree p ASequence s) (is_tree p AnItem t) h k

  abbrev pushed : Tree A → Frame → Frame
  pushed t f = record { alternatives = f.alternatives; sequence = folded f.sequence f.item; item = Some t }

  pushed_frame : (t : Tree A) (f : Frame) → is_tree p AnItem t ≡ true → IsFrame f → IsFrame (pushed t f)
  pushed_frame t f h k = record { alternatives = k.alternatives; sequence = folded_opt f.sequence f.item k.sequence k.item; item = h }

  pushed_signs : (t : Tree A) (f : Frame) (rest : List (Sign A)) → frame_signs (pushed t f) rest ≡ frame_signs f (signs_of t rest)
  pushed_signs t f rest = ap (opt_or f.alternatives) (folded_signs f.sequence f.item (signs_of t rest))

  stack_top : (f g : Frame) (fs : List Frame) (xs ys : List (Sign A)) → frame_signs f xs ≡ frame_signs g ys → stack_signs f fs xs ≡ stack_signs g fs ys
  stack_top f g [] xs ys e = e
  stack_top f g (h ∷ fs) xs ys e = ap (λ z. stack_signs h fs (sign.Open ∷ z)) e

  abbrev total : Option (Tree A) → Option (Tree A) → Tree A → Tree A
  total None None t = t
  total None (Some s) t = Then s t
  total (Some a) None t = Or a t
  total (Some a) (Some s) t = Or a (Then s t)

  total_signs : (a s : Option (Tree A)) (t : Tree A) (rest : List (Sign A)) → opt_or a (opt s (signs_of t rest)) ≡ signs_of (total a s t) rest
  total_signs None None t rest = refl
  total_signs None (Some s) t rest = refl
  total_signs (Some a) None t rest = refl
  total_signs (Some a) (Some s) t rest = refl

  total_tree : (a s : Option (Tree A)) (t : Tree A) → IsOpt AnExpression a → IsOpt ASequence s → is_tree p AnItem t ≡ true → is_tree p AnExpression (total a s t) ≡ true
  total_tree None None t h k l = sequence_expression t (item_sequence t l)
  total_tree None (Some s) t h k l = and_from (is_tree p ASequence s) (is_tree p AnItem t) k l
  total_tree (Some a) None t h k l = and_from (is_tree p AnExpression a) (is_tree p ASequence t) h (item_sequence t l)
  total_tree (Some a) (Some s) t h k l = and_from (is_tree p AnExpression a) (is_tree p ASequence (Then s t)) h (and_from (is_tree p ASequence s) (is_tree p AnItem t) k l)

  -- with signs that make an item of a frame
  with_item : (e : Phrasing A) (s : Sign A) (f : Frame) (t : Tree A) → (h : IsPhrase e) → is_tree p AnItem t ≡ true → IsFrame f → h.top.alternatives ≡ f.alternatives → h.top.sequence ≡ f.sequence
      → ((rest : List (Sign A)) → opt h.top.item (s ∷ rest) ≡ signs_of t rest) → IsPhrase (record { signs = e.signs ++ s ∷ []; depth = e.depth; behind = true })
  with_item e s f t h item frame a q is = record {
    top = record { alternatives = h.top.alternatives; sequence = h.top.sequence; item = Some t };
    below = h.below;
    frame = record { alternatives = h.frame.alternatives; sequence = h.frame.sequence; item = item };
    frames = h.frames;
    signs = stack_top (record { alternatives = h.top.alternatives; sequence = h.top.sequence; item = Some t }) h.top h.below [] (s ∷ []) (ap (λ z. opt_or h.top.alternatives (opt h.top.sequence z)) (sym (is []))) ∙ stack_more h.top h.below [] (s ∷ []) ∙ ap (λ z. z ++ s ∷ []) h.signs;
    depth = h.depth;
    behind = refl;
    firm = λ no. cc;
  }

  pub phrase_atom : (e : Phrasing A) (a : A) → p a ≡ true → IsPhrase e → IsPhrase (with_atom e a)
  phrase_atom e a ok h = record {
    top = pushed (Leaf a) h.top;
    below = h.below;
    frame = pushed_frame (Leaf a) h.top ok h.frame;
    frames = h.frames;
    signs = stack_top (pushed (Leaf a) h.top) h.top h.below [] (sign.Atom a ∷ []) (pushed_signs (Leaf a) h.top []) ∙ stack_more h.top h.below [] (sign.Atom a ∷ []) ∙ ap (λ z. z ++ sign.Atom a ∷ []) h.signs;
    depth = h.depth;
    behind = refl;
    firm = λ no. cc;
  }

  abbrev opened : Phrasing A → Phrasing A
  opened e = record { signs = e.signs ++ sign.Open ∷ []; depth = e.depth + 1; behind = false }

  phrase_open : (e : Phrasing A) → IsPhrase e → IsPhrase (opened e)
  phrase_open e h = record {
    top = blank;
    below = h.top ∷ h.below;
    frame = record { alternatives = tt; sequence = tt; item = tt };
    frames = (h.frame, h.frames);
    signs = stack_more h.top h.below [] (sign.Open ∷ []) ∙ ap (λ z. z ++ sign.Open ∷ []) h.signs;
    depth = (let d = h.depth in omega arith);
    behind = refl;
    firm = λ no. refl;
  }

  -- the item that stands last, where one does
  there : (o : Option (Tree A)) (b : Bool) → is_some o ≡ b → b ≡ true → (t : Tree A) × (o ≡ Some t)
  there None b e f = cc
  there (Some t) b e f = (t, refl)

  item_is : (o : Option (Tree A)) (t : Tree A) → o ≡ Some t → IsOpt AnItem o → is_tree p AnItem t ≡ true
  item_is o t e k = subst (IsOpt AnItem) e k

  phrase_close : (e : Phrasing A) → e.behind ≡ true → (h : IsPhrase e) → (fs : List Frame) → h.below ≡ fs → (e.depth == 0) ≡ false → IsPhrase (record { signs = e.signs ++ sign.Close ∷ []; depth = e.depth - 1; behind = true })
  phrase_close e b h [] is deep = (let none : length h.below ≡ 0 = ap length is in let d = h.depth in let zero_deep : e.depth ≡ 0 = omega arith in absurd (zero_not e.depth zero_deep deep))
    where
      zero_not : (n : ℕ) → n ≡ 0 → (n == 0) ≡ false → ⊥
      zero_not zero k l = cc
      zero_not (suc n) k l = cc
  phrase_close e b h (g ∷ fs) is deep =
      let last : (t : Tree A) × (h.top.item ≡ Some t) = there h.top.item e.behind h.behind b in
      let t = last.0 in
      let inside : Tree A = total h.top.alternatives h.top.sequence t in
      let inside_tree : is_tree p AnExpression inside ≡ true = total_tree h.top.alternatives h.top.sequence t h.frame.alternatives h.frame.sequence (item_is h.top.item t last.1 h.frame.item) in
      let frames : AreFrames (g ∷ fs) = subst AreFrames is h.frames in
      let top_is : (rest : List (Sign A)) → frame_signs h.top rest ≡ signs_of inside rest = λ rest. ap (λ z. opt_or h.top.alternatives (opt h.top.sequence (opt z rest))) last.1 ∙ total_signs h.top.alternatives h.top.sequence t rest in
      record {
        top = pushed (Grouped inside) g;
        below = fs;
        frame = pushed_frame (Grouped inside) g inside_tree frames.0;
        frames = frames.1;
        signs =
            stack_top (pushed (Grouped inside) g) g fs [] (sign.Open ∷ frame_signs h.top (sign.Close ∷ [])) (pushed_signs (Grouped inside) g [] ∙ ap (λ z. frame_signs g (sign.Open ∷ z)) (sym (top_is (sign.Close ∷ []))))
            ∙ ap (λ z. stack_signs h.top z (sign.Close ∷ [])) (sym is)
            ∙ stack_more h.top h.below [] (sign.Close ∷ []) ∙ ap (λ z. z ++ sign.Close ∷ []) h.signs;
        depth = (let many : length h.below ≡ suc (length fs) = ap length is in let d = h.depth in omega arith);
        behind = refl;
        firm = λ no. cc;
      }

  -- a sign behind an item
  phrase_postfix : (e : Phrasing A) (s : Sign A) (made : Tree A → Tree A) → ((t : Tree A) → is_tree p AnItem t ≡ true → is_tree p AnItem (made t) ≡ true)
      → ((t : Tree A) (rest : List (Sign A)) → signs_of (made t) rest ≡ signs_of t (s ∷ rest)) → e.behind ≡ true → IsPhrase e
      → IsPhrase (record { signs = e.signs ++ s ∷ []; depth = e.depth; behind = true })
  phrase_postfix e s made keeps signs b h =
      let last : (t : Tree A) × (h.top.item ≡ Some t) = there h.top.item e.behind h.behind b in
      with_item e s h.top (made last.0) h (keeps last.0 (item_is h.top.item last.0 last.1 h.frame.item)) h.frame refl refl
      (λ rest. ap (λ z. opt z (s ∷ rest)) last.1 ∙ sym (signs last.0 rest))

  phrase_bar : (e : Phrasing A) → e.behind ≡ true → IsPhrase e → IsPhrase (record { signs = e.signs ++ sign.Or ∷ []; depth = e.depth; behind = false })
  phrase_bar e b h =
      let last : (t : Tree A) × (h.top.item ≡ Some t) = there h.top.item e.behind h.behind b in
      let t = last.0 in
      let inside : Tree A = total h.top.alternatives h.top.sequence t in
      let after : Frame = record { alternatives = Some inside; sequence = None; item = None } in
      record {
        top = after;
        below = h.below;
        frame = record { alternatives = total_tree h.top.alternatives h.top.sequence t h.frame.alternatives h.frame.sequence (item_is h.top.item t last.1 h.frame.item); sequence = tt; item = tt };
        frames = h.frames;
        signs =
            stack_top after h.top h.below [] (sign.Or ∷ []) (sym (ap (λ z. opt_or h.top.alternatives (opt h.top.sequence (opt z (sign.Or ∷ [])))) last.1 ∙ total_signs h.top.alternatives h.top.sequence t (sign.Or ∷ [])))
            ∙ stack_more h.top h.below [] (sign.Or ∷ []) ∙ ap (λ z. z ++ sign.Or ∷ []) h.signs;
        depth = h.depth;
        behind = refl;
        firm = λ no. refl;
      }

  behind_is : (e f : Phrasing A) (s : Sign A) (b : Bool) → if_behind e s b ≡ Some f → (e.behind ≡ true) × (record { signs = e.signs ++ s ∷ []; depth = e.depth; behind = b } ≡ f)
  behind_is e f s b h = if_some e.behind (record { signs = e.signs ++ s ∷ []; depth = e.depth; behind = b }) f h

  pub phrase_sign : (e f : Phrasing A) (m : Mark) → after_sign e m ≡ Some f → IsPhrase e → IsPhrase f
  phrase_sign e f OpenRound is h = subst IsPhrase (let same : opened e ≡ f = cc in same) (phrase_open e h)
  phrase_sign e f CloseRound is h =
      let parts = if_some (e.behind && not (e.depth == 0)) (record { signs = e.signs ++ sign.Close ∷ []; depth = e.depth - 1; behind = true }) f is in
      let both : (e.behind ≡ true) × (not (e.depth == 0) ≡ true) = and_parts e.behind (not (e.depth == 0)) parts.0 in
      subst IsPhrase parts.1 (phrase_close e both.0 h h.below refl (not_true (e.depth == 0) both.1))
    where
      not_true : (b : Bool) → not b ≡ true → b ≡ false
      not_true true k = cc
      not_true false k = refl
  phrase_sign e f Star is h = let parts = behind_is e f sign.Star true is in subst IsPhrase parts.1 (phrase_postfix e sign.Star Starred (λ t k. k) (λ t rest. refl) parts.0 h)
  phrase_sign e f Plus is h = let parts = behind_is e f sign.Plus true is in subst IsPhrase parts.1 (phrase_postfix e sign.Plus Plussed (λ t k. k) (λ t rest. refl) parts.0 h)
  phrase_sign e f Question is h = let parts = behind_is e f sign.Maybe true is in subst IsPhrase parts.1 (phrase_postfix e sign.Maybe Optional (λ t k. k) (λ t rest. refl) parts.0 h)
  phrase_sign e f Bar is h = let parts = behind_is e f sign.Or false is in subst IsPhrase parts.1 (phrase_bar e parts.0 h)
  phrase_sign e f Less is h = cc
  phrase_sign e f Greater is h = cc
  phrase_sign e f OpenSquare is h = cc
  phrase_sign e f CloseSquare is h = cc
  phrase_sign e f Hash is h = cc
  phrase_sign e f Dot is h = cc
  phrase_sign e f Comma is h = cc
  phrase_sign e f Caret is h = cc

  -- with no bracket open, and an item last, they are those of an expression
  pub phrase_whole : (e : Phrasing A) → is_whole e ≡ true → IsPhrase e → IsExpression p e.signs
  phrase_whole e w h = go h.below refl
    where
      parts : (e.behind ≡ true) × ((e.depth == 0) ≡ true)
      parts = and_parts e.behind (e.depth == 0) w

      last : (t : Tree A) × (h.top.item ≡ Some t)
      last = there h.top.item e.behind h.behind parts.0

      go : (fs : List Frame) → h.below ≡ fs → IsExpression p e.signs
      go [] is = (
        total h.top.alternatives h.top.sequence last.0,
        total_tree h.top.alternatives h.top.sequence last.0 h.frame.alternatives h.frame.sequence (item_is h.top.item last.0 last.1 h.frame.item),
        sym (ap (λ z. opt_or h.top.alternatives (opt h.top.sequence (opt z []))) last.1 ∙ total_signs h.top.alternatives h.top.sequence last.0 [])
            ∙ ap (λ z. stack_signs h.top z []) (sym is) ∙ h.signs,
      )
      go (g ∷ fs) is = (let many : length h.below ≡ suc (length fs) = ap length is in let d = h.depth in let none : e.depth ≡ 0 = eqb-true e.depth 0 parts.1 in absurd (omega arith))
