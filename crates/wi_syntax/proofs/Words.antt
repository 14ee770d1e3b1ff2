-- What words may come next, and what begins them.
use Rattle.std.proofs.Common.{◌≡◌, ◌≢◌, ℕ, ◌<◌, Bool, true, false, ◌⊎◌, inl, inr, List, [], ◌∷◌, ◌++◌, length, take, Some, refl, sym, ap, ◌∙◌, arith}
use Rattle.std.specs.Prelude.{codes, not, ◌&&◌, ◌||◌, ◌==◌, nat_lt, if◌then◌else◌}
use Rattle.std.specs.List.{list_all}
use Rattle.std.specs.Str.{bytes_eq}
use Rattle.std.proofs.lemmas.Bool.{and_parts, and_from, ltb-true}
use Rattle.std.proofs.lemmas.Slice.Eq.{bytes_eq-Decides}
use Rattle.wi_text.specs.Characters.{is_digit, is_number}
use Rattle.wi_syntax.specs.Names.{Named}
use Rattle.wi_syntax.specs.declared.token.Mark.{Mark}
use Rattle.wi_syntax.specs.declared.token.Mark.TheVariants.{Less, Greater, OpenRound, CloseRound, OpenSquare, CloseSquare, Hash, Dot, Comma, Caret, Star, Plus, Question, Bar}
use Rattle.wi_syntax.specs.declared.token.Token.TheVariants as token
use Rattle.wi_syntax.specs.declared.places.NamePlace.{NamePlace}
use Rattle.wi_syntax.specs.declared.places.NamePlace.TheVariants as name
use Rattle.wi_syntax.specs.declared.places.PairPlace.{PairPlace}
use Rattle.wi_syntax.specs.declared.places.PairPlace.TheVariants as pair
use Rattle.wi_syntax.specs.declared.parser.Stage.{Stage}
use Rattle.wi_syntax.specs.declared.parser.Stage.TheVariants as stage
use Rattle.wi_syntax.specs.private.Lists.{after_name, after_pair, is_end_due}
use Rattle.wi_syntax.specs.private.Parsing.{Parse, is_whole, is_keyword, after_before_up, after_at, after, takes_ends, token_of}
use Rattle.wi_syntax.specs.private.Reading.{is_name_due, is_word_due, takes_names, begins, may_begin, admits, longer}
use Rattle.wi_syntax.proofs.Options.{if_some, map_some}

name_due : (l : NamePlace) (n : Named) (q : NamePlace) → after_name l (token.Word n) ≡ Some q → is_name_due l ≡ true
name_due name.Opened n q e = refl
name_due name.Due n q e = refl
name_due (name.Whole m) n q e = cc

word_due : (l : PairPlace) (n : Named) (q : PairPlace) → after_pair l (token.Word n) ≡ Some q → is_word_due l ≡ true
word_due pair.Opened n q e = refl
word_due pair.Due n q e = refl
word_due (pair.FromRouter m) n q e = cc
word_due (pair.FromInterfaceDue m) n q e = refl
word_due (pair.HashDue from) n q e = cc
word_due (pair.ToDue from) n q e = refl
word_due (pair.ToRouter from m) n q e = cc
word_due (pair.ToInterfaceDue from m) n q e = refl
word_due (pair.Whole w) n q e = cc

-- what begins a number is one
number_front : (s t : List ℕ) → s ≢ [] → is_number (s ++ t) ≡ true → is_number s ≡ true
number_front [] t some e = absurd (some refl)
number_front (b ∷ s) t some e =
    let first : (is_digit b ≡ true) × ((list_all is_digit (s ++ t) && (not (b == 48) || nat_lt (length (s ++ t)) 1)) ≡ true) = and_parts (is_digit b) (list_all is_digit (s ++ t) && (not (b == 48) || nat_lt (length (s ++ t)) 1)) e in
    let parts : (list_all is_digit (s ++ t) ≡ true) × ((not (b == 48) || nat_lt (length (s ++ t)) 1) ≡ true) = and_parts (list_all is_digit (s ++ t)) (not (b == 48) || nat_lt (length (s ++ t)) 1) first.1 in
    and_from (is_digit b) (list_all is_digit s && (not (b == 48) || nat_lt (length s) 1)) first.0
    (and_from (list_all is_digit s) (not (b == 48) || nat_lt (length s) 1) (digits s parts.0) (short (not (b == 48)) s parts.1))
  where
    digits : (s : List ℕ) → list_all is_digit (s ++ t) ≡ true → list_all is_digit s ≡ true
    digits [] h = refl
    digits (c ∷ s) h = let parts = and_parts (is_digit c) (list_all is_digit (s ++ t)) h in and_from (is_digit c) (list_all is_digit s) parts.0 (digits s parts.1)

    short : (z : Bool) (s : List ℕ) → (z || nat_lt (length (s ++ t)) 1) ≡ true → (z || nat_lt (length s) 1) ≡ true
    short true s h = refl
    short false [] h = refl
    short false (c ∷ s) h = (let few : length (c ∷ (s ++ t)) < 1 = ltb-true (length (c ∷ (s ++ t))) 1 h in absurd (omega arith))

begins_self : (s : List ℕ) → bytes_eq s s ≡ true
begins_self s = (bytes_eq-Decides s s).1 refl

take_front : (s t : List ℕ) → take (length s) (s ++ t) ≡ s
take_front [] t = refl
take_front (b ∷ s) t = ap (λ z. b ∷ z) (take_front s t)

begins_front : (s t word : List ℕ) → s ++ t ≡ word → begins s word ≡ true
begins_front s t word e = ap (bytes_eq s) (ap (take (length s)) (sym e) ∙ take_front s t) ∙ begins_self s

not_true : (b : Bool) → not b ≡ true → b ≡ false
not_true true k = cc
not_true false k = refl

keyword : (n : Named) (word : List ℕ) → is_keyword n word ≡ true → (n.quoted ≡ false) × (n.text ≡ word)
keyword n word e =
    let parts : (not n.quoted ≡ true) × (bytes_eq n.text word ≡ true) = and_parts (not n.quoted) (bytes_eq n.text word) e in
    (not_true n.quoted parts.0, (bytes_eq-Decides n.text word).0 parts.1)

-- a word that may come next: any name, or one that the stage asks for
abbrev pub Next : Stage → Parse → Named → Type 0
Next at p n = (takes_names p at ≡ true) ⊎ ((n.quoted ≡ false) × ((s t : List ℕ) → s ≢ [] → s ++ t ≡ n.text → may_begin p at s ≡ true))

up_next : (p q : Parse) (n : Named) → after_before_up p (token.Word n) ≡ Some q → (n.quoted ≡ false) × (n.text ≡ codes "up")
up_next p q n e = keyword n (codes "up") (if_some (is_keyword n (codes "up")) (record p { stage = stage.UpDue; word_at = n.at }) q e).0

or_left : (a b : Bool) → a ≡ true → (a || b) ≡ true
or_left a b e = rw e refl

or_right : (a b : Bool) → b ≡ true → (a || b) ≡ true
or_right true b e = refl
or_right false b e = e

next_at : (at : Stage) (p q : Parse) (n : Named) → after_at at p (token.Word n) ≡ Some q → Next at p n
next_at stage.Start p q n e = cc
next_at (stage.Labels h) p q n e = inl refl
next_at (stage.LabelList h) p q n e =
    let outer = map_some _ _ q e in
    let inner = map_some _ _ outer.0 outer.1 in
    inl (name_due p.names.place n inner.0 inner.1)
next_at stage.Links p q n e =
    let found = if_some (is_whole p.path && is_keyword n (codes "drop")) _ q e in
    let parts : (is_whole p.path ≡ true) × (is_keyword n (codes "drop") ≡ true) = and_parts (is_whole p.path) (is_keyword n (codes "drop")) found.0 in
    let is = keyword n (codes "drop") parts.1 in
    inr (is.0, λ s t some f. and_from (is_whole p.path) (begins s (codes "drop")) parts.0 (begins_front s t (codes "drop") (f ∙ is.1)))
next_at (stage.LinkList o) p q n e =
    let outer = map_some _ _ q e in
    let inner = map_some _ _ outer.0 outer.1 in
    inl (word_due p.pairs.place n inner.0 inner.1)
next_at stage.Number p q n e =
    let found = if_some (not n.quoted && is_number n.text) _ q e in
    let parts : (not n.quoted ≡ true) × (is_number n.text ≡ true) = and_parts (not n.quoted) (is_number n.text) found.0 in
    inr (not_true n.quoted parts.0, λ s t some is. number_front s t some (ap is_number is ∙ parts.1))
next_at stage.BehindNumber p q n e = go (is_keyword n (codes "down")) refl
  where
    go : (b : Bool) → is_keyword n (codes "down") ≡ b → Next stage.BehindNumber p n
    go true k = let is = keyword n (codes "down") k in inr (is.0, λ s t some f. or_left (begins s (codes "down")) (begins s (codes "up")) (begins_front s t (codes "down") (f ∙ is.1)))
    go false k =
        let is = up_next p q n (sym (ap (λ z. if z then Some (record p { stage = stage.DownDue; word_at = n.at }) else after_before_up p (token.Word n)) k) ∙ e) in
        inr (is.0, λ s t some f. or_right (begins s (codes "down")) (begins s (codes "up")) (begins_front s t (codes "up") (f ∙ is.1)))
next_at stage.DownDue p q n e = cc
next_at stage.BehindDown p q n e = let is = up_next p q n e in inr (is.0, λ s t some f. begins_front s t (codes "up") (f ∙ is.1))
next_at stage.UpDue p q n e = cc
next_at stage.BehindUp p q n e = cc

-- where a name may come next, what begins it is admitted: at least one character of it, or its quotation mark
pub admits_front : (p q : Parse) (n : Named) (t : List ℕ) → after p (token.Word (longer n t)) ≡ Some q → (n.quoted ≡ true) ⊎ (n.text ≢ []) → admits p n ≡ true
admits_front p q n t e begun = go (next_at p.stage p q (longer n t) e)
  where
    by_text : (n.quoted ≡ true) ⊎ (n.text ≢ []) → n.quoted ≡ false → n.text ≢ []
    by_text (inl h) k = cc
    by_text (inr h) k = h

    go : Next p.stage p (longer n t) → admits p n ≡ true
    go (inl h) = or_left (takes_names p p.stage) (not n.quoted && may_begin p p.stage n.text) h
    go (inr h) =
        or_right (takes_names p p.stage) (not n.quoted && may_begin p p.stage n.text)
        (and_from (not n.quoted) (may_begin p p.stage n.text) (ap not h.0) (h.1 n.text t (by_text begun h.0) refl))

-- ---- dots

-- a dot leads on where no end of a pair may begin, and such an end where one may
no_end : (l q : PairPlace) → after_pair l (token.Mark Dot) ≡ Some q → is_end_due l ≡ false
no_end pair.Opened q e = cc
no_end pair.Due q e = cc
no_end (pair.FromRouter m) q e = refl
no_end (pair.FromInterfaceDue m) q e = refl
no_end (pair.HashDue from) q e = refl
no_end (pair.ToDue from) q e = cc
no_end (pair.ToRouter from m) q e = refl
no_end (pair.ToInterfaceDue from m) q e = refl
no_end (pair.Whole w) q e = refl

end_due : (l q : PairPlace) (at : ℕ) → after_pair l (token.AnyEnd at) ≡ Some q → is_end_due l ≡ true
end_due pair.Opened q at e = refl
end_due pair.Due q at e = refl
end_due (pair.FromRouter m) q at e = cc
end_due (pair.FromInterfaceDue m) q at e = cc
end_due (pair.HashDue from) q at e = cc
end_due (pair.ToDue from) q at e = refl
end_due (pair.ToRouter from m) q at e = cc
end_due (pair.ToInterfaceDue from m) q at e = cc
end_due (pair.Whole w) q at e = cc

no_name : (l q : NamePlace) (at : ℕ) → after_name l (token.AnyEnd at) ≡ Some q → ⊥
no_name name.Opened q at e = cc
no_name name.Due q at e = cc
no_name (name.Whole m) q at e = cc

dot_at : (st : Stage) (p q : Parse) → after_at st p (token.Mark Dot) ≡ Some q → takes_ends p st ≡ false
dot_at (stage.LinkList o) p q e =
    let outer = map_some _ _ q e in
    let inner = map_some _ _ outer.0 outer.1 in
    no_end p.pairs.place inner.0 inner.1
dot_at stage.Start p q e = refl
dot_at (stage.Labels h) p q e = refl
dot_at (stage.LabelList h) p q e = refl
dot_at stage.Links p q e = refl
dot_at stage.Number p q e = refl
dot_at stage.BehindNumber p q e = refl
dot_at stage.DownDue p q e = refl
dot_at stage.BehindDown p q e = refl
dot_at stage.UpDue p q e = refl
dot_at stage.BehindUp p q e = refl

end_at : (st : Stage) (p q : Parse) (at : ℕ) → after_at st p (token.AnyEnd at) ≡ Some q → takes_ends p st ≡ true
end_at (stage.LinkList o) p q at e =
    let outer = map_some _ _ q e in
    let inner = map_some _ _ outer.0 outer.1 in
    end_due p.pairs.place inner.0 at inner.1
end_at (stage.LabelList h) p q at e =
    let outer = map_some _ _ q e in
    let inner = map_some _ _ outer.0 outer.1 in
    absurd (no_name p.names.place inner.0 at inner.1)
end_at stage.Start p q at e = cc
end_at (stage.Labels h) p q at e = cc
end_at stage.Links p q at e = cc
end_at stage.Number p q at e = cc
end_at stage.BehindNumber p q at e = cc
end_at stage.DownDue p q at e = cc
end_at stage.BehindDown p q at e = cc
end_at stage.UpDue p q at e = cc
end_at stage.BehindUp p q at e = cc

-- the token that a mark is at a byte, where that token leads on
pub mark_there : (p q : Parse) (at : ℕ) (m : Mark) → after p (token.Mark m) ≡ Some q → token_of p at m ≡ token.Mark m
mark_there p q at Dot e = ap (λ z. if z then token.AnyEnd at else token.Mark Dot) (dot_at p.stage p q e)
mark_there p q at Less e = refl
mark_there p q at Greater e = refl
mark_there p q at OpenRound e = refl
mark_there p q at CloseRound e = refl
mark_there p q at OpenSquare e = refl
mark_there p q at CloseSquare e = refl
mark_there p q at Hash e = refl
mark_there p q at Comma e = refl
mark_there p q at Caret e = refl
mark_there p q at Star e = refl
mark_there p q at Plus e = refl
mark_there p q at Question e = refl
mark_there p q at Bar e = refl

pub end_there : (p q : Parse) (at : ℕ) → after p (token.AnyEnd at) ≡ Some q → token_of p at Dot ≡ token.AnyEnd at
end_there p q at e = ap (λ z. if z then token.AnyEnd at else token.Mark Dot) (end_at p.stage p q at e)
