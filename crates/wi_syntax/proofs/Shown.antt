-- What was read of a query, as tokens: each step adds its token, and at an end they are those of the query.
use Rattle.std.proofs.Common.{◌≡◌, ℕ, ◌+◌, ◌<◌, Bool, true, false, List, [], ◌∷◌, ◌++◌, length, Option, Some, None, refl, sym, ap, ◌∙◌, subst}
use Rattle.std.specs.Prelude.{codes, nat_lt, not, ◌&&◌, if◌then◌else◌}
use Rattle.std.specs.Option.{option_map}
use Rattle.std.specs.Str.{bytes_eq}
use Rattle.std.proofs.lemmas.Bool.{and_parts, lt-ltb}
use Rattle.std.proofs.lemmas.Slice.Eq.{bytes_eq-Decides}
use Rattle.wi_text.specs.Characters.{is_number}
use Rattle.wi_syntax.specs.Names.{Named}
use Rattle.wi_syntax.specs.declared.token.Mark.{Mark}
use Rattle.wi_syntax.specs.declared.token.Mark.TheVariants.{Less, Greater, OpenRound, CloseRound, OpenSquare, CloseSquare, Hash, Dot, Comma, Caret, Star, Plus, Question, Bar}
use Rattle.wi_syntax.specs.declared.token.Token.{Token}
use Rattle.wi_syntax.specs.declared.token.Token.TheVariants as token
use Rattle.wi_syntax.specs.declared.written.LabelAtom.{LabelAtom}
use Rattle.wi_syntax.specs.declared.written.LabelAtom.TheVariants as label
use Rattle.wi_syntax.specs.declared.written.LinkAtom.{LinkAtom}
use Rattle.wi_syntax.specs.declared.written.LinkAtom.TheVariants as link
use Rattle.wi_syntax.specs.declared.written.Sign.{Sign}
use Rattle.wi_syntax.specs.declared.written.Sign.TheVariants as sign
use Rattle.wi_syntax.specs.declared.written.Written.{Written}
use Rattle.wi_syntax.specs.declared.parser.Stage.{Stage}
use Rattle.wi_syntax.specs.declared.parser.Stage.TheVariants as stage
use Rattle.wi_syntax.specs.declared.parser.Header.{Header}
use Rattle.wi_syntax.specs.declared.parser.Header.TheVariants.{First, Last}
use Rattle.wi_syntax.specs.declared.parser.Owner.{Owner}
use Rattle.wi_syntax.specs.declared.parser.Owner.TheVariants as owner
use Rattle.wi_syntax.specs.Atoms.{Writer, label_tokens, link_tokens, pair_tokens, name_tokens, listed, is_label_atom, is_link_atom}
use Rattle.wi_syntax.specs.Trees.{sign_tokens, signs_tokens}
use Rattle.wi_syntax.specs.Grammar.{plain, known_tokens, last_tokens, tokens_of, IsKnown, IsLast, IsNumber, IsWritten}
use Rattle.wi_syntax.specs.private.Lists.{NameListing, PairListing, no_names, no_pairs, no_known, after_in_names, after_in_pairs, after_name, after_pair, whole_name, whole_pair, is_opened_name, is_opened_pair}
use Rattle.wi_syntax.specs.declared.places.NamePlace.TheVariants as name
use Rattle.wi_syntax.specs.declared.places.PairPlace.TheVariants as pair
use Rattle.wi_syntax.specs.private.Parsing.{Phrasing, Parse, start, no_phrasing, is_whole, with_atom, if_behind, after_sign, phrase_of, with_phrase, with_path, with_names, with_pairs, stage_after, is_keyword, after_in_labels, after_in_links, after_at_number, after_before_up, after_before_down, after_word, after_start, after_at, after, after_all, last_of, may_end, finish}
use Rattle.wi_syntax.proofs.Options.{if_some, map_some, then_some}
use Rattle.wi_syntax.proofs.Phrases.{IsPhrase, phrase_none, phrase_atom, phrase_sign, phrase_whole}
use Rattle.wi_syntax.proofs.Listings.{listing_tokens, IsListing, Goes, goes, name_begun, pair_begun, name_places, pair_places, no_names_listing, no_pairs_listing, no_known_listing}

-- ---- signs

signs_push : {A : Type 0} (write : Writer A) (xs : List (Sign A)) (s : Sign A) (rest : List Token) → signs_tokens write (xs ++ s ∷ []) rest ≡ signs_tokens write xs (sign_tokens write s rest)
signs_push write [] s rest = refl
signs_push write (x ∷ xs) s rest = ap (sign_tokens write x) (signs_push write xs s rest)

module _ {A : Type 0} (write : Writer A) where
  abbrev SignsGo : Phrasing A → Mark → Phrasing A → Type 0
  SignsGo e m f = (rest : List Token) → signs_tokens write f.signs rest ≡ signs_tokens write e.signs (token.Mark m ∷ rest)

  with_sign : (e : Phrasing A) (m : Mark) (s : Sign A) (d : ℕ) (b : Bool) → ((rest : List Token) → sign_tokens write s rest ≡ token.Mark m ∷ rest) → (f : Phrasing A) → record { signs = e.signs ++ s ∷ []; depth = d; behind = b } ≡ f → SignsGo e m f
  with_sign e m s d b is f same = subst (SignsGo e m) same (λ rest. signs_push write e.signs s rest ∙ ap (signs_tokens write e.signs) (is rest))

  behind_sign : (e f : Phrasing A) (m : Mark) (s : Sign A) (b : Bool) → ((rest : List Token) → sign_tokens write s rest ≡ token.Mark m ∷ rest) → if_behind e s b ≡ Some f → SignsGo e m f
  behind_sign e f m s b is h = with_sign e m s e.depth b is f (if_some e.behind (record { signs = e.signs ++ s ∷ []; depth = e.depth; behind = b }) f h).1

  pub sign_goes : (e f : Phrasing A) (m : Mark) → after_sign e m ≡ Some f → SignsGo e m f
  sign_goes e f OpenRound h = with_sign e OpenRound sign.Open (e.depth + 1) false (λ rest. refl) f (let same : record { signs = e.signs ++ sign.Open ∷ []; depth = e.depth + 1; behind = false } ≡ f = cc in same)
  sign_goes e f CloseRound h = with_sign e CloseRound sign.Close _ true (λ rest. refl) f (if_some _ _ f h).1
  sign_goes e f Star h = behind_sign e f Star sign.Star true (λ rest. refl) h
  sign_goes e f Plus h = behind_sign e f Plus sign.Plus true (λ rest. refl) h
  sign_goes e f Question h = behind_sign e f Question sign.Maybe true (λ rest. refl) h
  sign_goes e f Bar h = behind_sign e f Bar sign.Or false (λ rest. refl) h
  sign_goes e f Less h = cc
  sign_goes e f Greater h = cc
  sign_goes e f OpenSquare h = cc
  sign_goes e f CloseSquare h = cc
  sign_goes e f Hash h = cc
  sign_goes e f Dot h = cc
  sign_goes e f Comma h = cc
  sign_goes e f Caret h = cc

-- ---- what was read, before what is left

abbrev pub before_path : Parse → List Token → List Token
before_path p rest = token.Mark Less ∷ signs_tokens label_tokens p.first.signs (token.Mark Greater ∷ rest)

abbrev pub before_last : Parse → List Token → List Token
before_last p rest = before_path p (signs_tokens link_tokens p.path.signs (token.Mark Less ∷ rest))

abbrev pub before_number : Parse → List Token → List Token
before_number p rest = before_path p (signs_tokens link_tokens p.path.signs (last_tokens (last_of p.drop_at p.last) rest))

abbrev pub number_tokens : Option Named → List Token → List Token
number_tokens None rest = rest
number_tokens (Some n) rest = token.Word n ∷ rest

abbrev pub before_words : Parse → List Token → List Token
before_words p rest = before_number p (number_tokens p.number (known_tokens (codes "down") p.down (known_tokens (codes "up") p.up rest)))

abbrev pub before_phrase : Header → Parse → List Token → List Token
before_phrase First p rest = token.Mark Less ∷ rest
before_phrase Last p rest = before_last p rest

abbrev pub word : Parse → List ℕ → Token
word p s = token.Word (plain p.word_at s)

abbrev pub names_tokens : NameListing → List Token → List Token
names_tokens l rest = listing_tokens name_tokens name_begun l rest

abbrev pub pairs_tokens : PairListing → List Token → List Token
pairs_tokens l rest = listing_tokens pair_tokens pair_begun l rest

abbrev pub before_list : Owner → Parse → List Token → List Token
before_list owner.Path p rest = before_path p (signs_tokens link_tokens p.path.signs rest)
before_list owner.Down p rest = before_words p (word p (codes "down") ∷ rest)
before_list owner.Up p rest = before_words p (word p (codes "up") ∷ rest)

abbrev pub shown_at : Stage → Parse → List Token → List Token
shown_at stage.Start p rest = rest
shown_at (stage.Labels h) p rest = before_phrase h p (signs_tokens label_tokens (phrase_of h p).signs rest)
shown_at (stage.LabelList h) p rest = before_phrase h p (signs_tokens label_tokens (phrase_of h p).signs (names_tokens p.names rest))
shown_at stage.Links p rest = before_path p (signs_tokens link_tokens p.path.signs rest)
shown_at (stage.LinkList o) p rest = before_list o p (pairs_tokens p.pairs rest)
shown_at stage.Number p rest = before_number p rest
shown_at stage.BehindNumber p rest = before_words p rest
shown_at stage.DownDue p rest = before_words p (word p (codes "down") ∷ rest)
shown_at stage.BehindDown p rest = before_words p rest
shown_at stage.UpDue p rest = before_words p (word p (codes "up") ∷ rest)
shown_at stage.BehindUp p rest = before_words p rest

-- ---- what is so at each stage

-- no list of links that are known was read
abbrev pub NoWords : Parse → Type 0
NoWords p = (p.down ≡ None) × (p.up ≡ None)

-- nor `drop` in place of the last header
abbrev pub NoDrop : Parse → Type 0
NoDrop p = (p.drop_at ≡ None) × NoWords p

-- the first expression was read to its end, and the path, and the last one or the word in its place, and the number
abbrev pub FirstRead : Parse → Type 0
FirstRead p = is_whole p.first ≡ true

abbrev pub PathRead : Parse → Type 0
PathRead p = (is_whole p.first ≡ true) × (is_whole p.path ≡ true)

abbrev pub EndRead : Option ℕ → Phrasing LabelAtom → Type 0
EndRead None header = is_whole header ≡ true
EndRead (Some at) header = Unit {0}

abbrev pub LastRead : Parse → Type 0
LastRead p = (is_whole p.first ≡ true) × (is_whole p.path ≡ true) × EndRead p.drop_at p.last

abbrev pub NumberRead : Parse → Type 0
NumberRead p = LastRead p × ((n : Named) × (p.number ≡ Some n) × IsNumber n)

-- a list of pairs that began without `^`
abbrev pub IsPlainList : PairListing → Type 0
IsPlainList l = IsListing is_opened_pair l × (is_opened_pair l.place ≡ false) × (l.except ≡ false)

abbrev pub HeaderRead : Header → Parse → Type 0
HeaderRead First p = (p.path ≡ no_phrasing) × (p.last ≡ no_phrasing) × NoDrop p
HeaderRead Last p = PathRead p × NoDrop p

abbrev pub LinksRead : Parse → Type 0
LinksRead p = FirstRead p × (p.last ≡ no_phrasing) × NoDrop p

abbrev pub DownRead : Parse → Type 0
DownRead p = NumberRead p × IsKnown p.down × (p.up ≡ None)

abbrev pub OwnerRead : Owner → Parse → Type 0
OwnerRead owner.Path p = IsListing is_opened_pair p.pairs × LinksRead p
OwnerRead owner.Down p = IsPlainList p.pairs × NumberRead p × NoWords p
OwnerRead owner.Up p = IsPlainList p.pairs × DownRead p

abbrev pub IsRead : Stage → Parse → Type 0
IsRead stage.Start p = (p.first ≡ no_phrasing) × HeaderRead First p
IsRead (stage.Labels h) p = HeaderRead h p
IsRead (stage.LabelList h) p = IsListing is_opened_name p.names × HeaderRead h p
IsRead stage.Links p = LinksRead p
IsRead (stage.LinkList o) p = OwnerRead o p
IsRead stage.Number p = LastRead p × NoWords p
IsRead stage.BehindNumber p = NumberRead p × NoWords p
IsRead stage.DownDue p = NumberRead p × NoWords p
IsRead stage.BehindDown p = DownRead p
IsRead stage.UpDue p = DownRead p
IsRead stage.BehindUp p = NumberRead p × IsKnown p.down × IsKnown p.up

pub record Good (at : Stage) (p : Parse) : Type 0 where
  pub first : IsPhrase is_label_atom p.first
  pub path : IsPhrase is_link_atom p.path
  pub last : IsPhrase is_label_atom p.last
  pub read : IsRead at p

-- a step adds its token
pub record Adds (at : Stage) (p : Parse) (t : Token) (q : Parse) : Type 0 where
  pub shown : (rest : List Token) → shown_at q.stage q rest ≡ shown_at at p (t ∷ rest)
  pub good : Good q.stage q

to : (at : Stage) (p q r : Parse) (t : Token) → Some q ≡ Some r → Adds at p t q → Adds at p t r
to at p q r t e h = let is : q ≡ r = cc in subst (Adds at p t) is h

-- ---- tests

lt_true : (n : ℕ) → 0 < n → nat_lt 0 n ≡ true
lt_true n h = lt-ltb 0 n h

not_true : (b : Bool) → not b ≡ true → b ≡ false
not_true true k = cc
not_true false k = refl

named : (n : Named) (s : List ℕ) → n.quoted ≡ false → n.text ≡ s → n ≡ plain n.at s
named n s q e = ap (λ (z : Bool). record { at = n.at; quoted = z; text = n.text }) q ∙ ap (λ (z : List ℕ). record { at = n.at; quoted = false; text = z }) e

bytes_are : (a b : List ℕ) → bytes_eq a b ≡ true → a ≡ b
bytes_are a b e = (bytes_eq-Decides a b).0 e

-- a keyword is its word
keyword_is : (n : Named) (s : List ℕ) → is_keyword n s ≡ true → n ≡ plain n.at s
keyword_is n s e =
    let both : (not n.quoted ≡ true) × (bytes_eq n.text s ≡ true) = and_parts (not n.quoted) (bytes_eq n.text s) e in
    named n s (not_true n.quoted both.0) (bytes_are n.text s both.1)

last_whole : (drop_at : Option ℕ) (header : Phrasing LabelAtom) → EndRead drop_at header → IsPhrase is_label_atom header → IsLast (last_of drop_at header)
last_whole None header w h = phrase_whole is_label_atom header w h
last_whole (Some at) header w h = tt

ended : (p : Parse) (w : Written) → NumberRead p → IsKnown p.down → IsKnown p.up → IsPhrase is_label_atom p.first → IsPhrase is_link_atom p.path → IsPhrase is_label_atom p.last
    → option_map (λ n. record { first = p.first.signs; path = p.path.signs; last = last_of p.drop_at p.last; number = n; down = p.down; up = p.up }) p.number ≡ Some w → (tokens_of w ≡ before_words p []) × IsWritten w
ended p w n d u a b c e =
    let found = map_some (λ n. record { first = p.first.signs; path = p.path.signs; last = last_of p.drop_at p.last; number = n; down = p.down; up = p.up }) p.number w e in
    let same : Some found.0 ≡ Some n.1.0 = sym found.1 ∙ n.1.1 in
    let is : found.0 ≡ n.1.0 = cc in
    subst (λ z. (tokens_of z ≡ before_words p []) × IsWritten z) found.2 (
      ap (λ z. before_number p (number_tokens z (known_tokens (codes "down") p.down (known_tokens (codes "up") p.up [])))) (sym found.1),
      record {
        first = phrase_whole is_label_atom p.first n.0.0 a;
        path = phrase_whole is_link_atom p.path n.0.1 b;
        last = last_whole p.drop_at p.last n.0.2 c;
        number = subst IsNumber (sym is) n.1.2;
        down = d;
        up = u;
      },
    )

-- ---- in an expression over labels

labels_add : (h : Header) (p : Parse) (t : Token) (e : Phrasing LabelAtom) → Good (stage.Labels h) p → IsPhrase is_label_atom e
    → ((rest : List Token) → signs_tokens label_tokens e.signs rest ≡ signs_tokens label_tokens (phrase_of h p).signs (t ∷ rest)) → Adds (stage.Labels h) p t (with_phrase h p e)
labels_add First p t e g ok is = record { shown = λ rest. ap (λ z. token.Mark Less ∷ z) (is rest); good = record { first = ok; path = g.path; last = g.last; read = g.read } }
labels_add Last p t e g ok is = record { shown = λ rest. ap (before_last p) (is rest); good = record { first = g.first; path = g.path; last = ok; read = g.read } }

phrase_good : (h : Header) (at : Stage) (p : Parse) → Good at p → IsPhrase is_label_atom (phrase_of h p)
phrase_good First at p g = g.first
phrase_good Last at p g = g.last

label_atom : (h : Header) (p : Parse) (t : Token) (a : LabelAtom) → is_label_atom a ≡ true → ((rest : List Token) → label_tokens a rest ≡ t ∷ rest) → Good (stage.Labels h) p
    → Adds (stage.Labels h) p t (with_phrase h p (with_atom (phrase_of h p) a))
label_atom h p t a ok is g =
    labels_add h p t (with_atom (phrase_of h p) a) g (phrase_atom is_label_atom (phrase_of h p) a ok (phrase_good h (stage.Labels h) p g))
    (λ rest. signs_push label_tokens (phrase_of h p).signs (sign.Atom a) rest ∙ ap (signs_tokens label_tokens (phrase_of h p).signs) (is rest))

label_sign : (h : Header) (p q : Parse) (m : Mark) → Good (stage.Labels h) p → option_map (with_phrase h p) (after_sign (phrase_of h p) m) ≡ Some q → Adds (stage.Labels h) p (token.Mark m) q
label_sign h p q m g e =
    let found = map_some (with_phrase h p) (after_sign (phrase_of h p) m) q e in
    subst (Adds (stage.Labels h) p (token.Mark m)) found.2
    (labels_add h p (token.Mark m) found.0 g (phrase_sign is_label_atom (phrase_of h p) found.0 m found.1 (phrase_good h (stage.Labels h) p g)) (sign_goes label_tokens (phrase_of h p) found.0 m found.1))

label_list : (h : Header) (p : Parse) → Good (stage.Labels h) p → Adds (stage.Labels h) p (token.Mark OpenSquare) (record p { stage = stage.LabelList h; names = no_names })
label_list First p g = record { shown = λ rest. refl; good = record { first = g.first; path = g.path; last = g.last; read = (no_names_listing, g.read) } }
label_list Last p g = record { shown = λ rest. refl; good = record { first = g.first; path = g.path; last = g.last; read = (no_names_listing, g.read) } }

labels_end : (h : Header) (p : Parse) → is_whole (phrase_of h p) ≡ true → Good (stage.Labels h) p → Adds (stage.Labels h) p (token.Mark Greater) (record p { stage = stage_after h })
labels_end First p w g = record {
  shown = λ rest. ap (λ z. before_path p (signs_tokens link_tokens z.signs rest)) g.read.0;
  good = record { first = g.first; path = g.path; last = g.last; read = (w, g.read.1, g.read.2) };
}
labels_end Last p w g = record {
  shown = λ rest. ap (λ z. before_path p (signs_tokens link_tokens p.path.signs (last_tokens (last_of z p.last) rest))) g.read.1.0;
  good = record { first = g.first; path = g.path; last = g.last; read = ((g.read.0.0, g.read.0.1, subst (λ z. EndRead z p.last) (sym g.read.1.0) w), g.read.1.1) };
}

in_labels : (h : Header) (p q : Parse) (t : Token) → Good (stage.Labels h) p → after_in_labels h p t ≡ Some q → Adds (stage.Labels h) p t q
in_labels h p q (token.AnyEnd at) g e = cc
in_labels h p q (token.Word n) g e = to (stage.Labels h) p (with_phrase h p (with_atom (phrase_of h p) (label.Name n))) q (token.Word n) e (label_atom h p (token.Word n) (label.Name n) refl (λ rest. refl) g)
in_labels h p q (token.Mark Dot) g e = to (stage.Labels h) p (with_phrase h p (with_atom (phrase_of h p) label.Any)) q (token.Mark Dot) e (label_atom h p (token.Mark Dot) label.Any refl (λ rest. refl) g)
in_labels h p q (token.Mark OpenSquare) g e = to (stage.Labels h) p (record p { stage = stage.LabelList h; names = no_names }) q (token.Mark OpenSquare) e (label_list h p g)
in_labels h p q (token.Mark Greater) g e =
    let found = if_some (is_whole (phrase_of h p)) (record p { stage = stage_after h }) q e in
    subst (Adds (stage.Labels h) p (token.Mark Greater)) found.1 (labels_end h p found.0 g)
in_labels h p q (token.Mark Less) g e = label_sign h p q Less g e
in_labels h p q (token.Mark OpenRound) g e = label_sign h p q OpenRound g e
in_labels h p q (token.Mark CloseRound) g e = label_sign h p q CloseRound g e
in_labels h p q (token.Mark CloseSquare) g e = label_sign h p q CloseSquare g e
in_labels h p q (token.Mark Hash) g e = label_sign h p q Hash g e
in_labels h p q (token.Mark Comma) g e = label_sign h p q Comma g e
in_labels h p q (token.Mark Caret) g e = label_sign h p q Caret g e
in_labels h p q (token.Mark Star) g e = label_sign h p q Star g e
in_labels h p q (token.Mark Plus) g e = label_sign h p q Plus g e
in_labels h p q (token.Mark Question) g e = label_sign h p q Question g e
in_labels h p q (token.Mark Bar) g e = label_sign h p q Bar g e

-- ---- in a list of names

names_on : (h : Header) (p : Parse) (t : Token) (l : NameListing) → Good (stage.LabelList h) p → ((rest : List Token) → names_tokens l rest ≡ names_tokens p.names (t ∷ rest)) → IsListing is_opened_name l
    → p.stage ≡ stage.LabelList h → Adds (stage.LabelList h) p t (record p { names = l })
names_on First p t l g is ok at = record {
  shown = λ rest. ap (λ z. shown_at z (record p { names = l }) rest) at ∙ ap (λ z. before_phrase First p (signs_tokens label_tokens p.first.signs z)) (is rest);
  good = subst (λ z. Good z (record p { names = l })) (sym at) (record { first = g.first; path = g.path; last = g.last; read = (ok, g.read.1) });
}
names_on Last p t l g is ok at = record {
  shown = λ rest. ap (λ z. shown_at z (record p { names = l }) rest) at ∙ ap (λ z. before_phrase Last p (signs_tokens label_tokens p.last.signs z)) (is rest);
  good = subst (λ z. Good z (record p { names = l })) (sym at) (record { first = g.first; path = g.path; last = g.last; read = (ok, g.read.1) });
}

names_end : (h : Header) (p : Parse) (t : Token) (l : NameListing) → Good (stage.LabelList h) p → ((rest : List Token) → listed name_tokens l.except l.items rest ≡ names_tokens p.names (t ∷ rest)) → 0 < length l.items
    → Adds (stage.LabelList h) p t (with_names h p (l, true))
names_end First p t l g is some = record {
  shown = λ rest. ap (λ z. token.Mark Less ∷ z) (signs_push label_tokens p.first.signs (sign.Atom (label.List l.except l.items)) rest ∙ ap (signs_tokens label_tokens p.first.signs) (is rest));
  good = record { first = phrase_atom is_label_atom p.first (label.List l.except l.items) (lt_true (length l.items) some) g.first; path = g.path; last = g.last; read = g.read.1 };
}
names_end Last p t l g is some = record {
  shown = λ rest. ap (before_last p) (signs_push label_tokens p.last.signs (sign.Atom (label.List l.except l.items)) rest ∙ ap (signs_tokens label_tokens p.last.signs) (is rest));
  good = record { first = g.first; path = g.path; last = phrase_atom is_label_atom p.last (label.List l.except l.items) (lt_true (length l.items) some) g.last; read = g.read.1 };
}

in_names : (h : Header) (p q : Parse) (t : Token) → p.stage ≡ stage.LabelList h → Good (stage.LabelList h) p → option_map (with_names h p) (after_in_names p.names t) ≡ Some q → Adds (stage.LabelList h) p t q
in_names h p q t at g e =
    let found = map_some (with_names h p) (after_in_names p.names t) q e in
    subst (Adds (stage.LabelList h) p t) found.2 (go found.0 (goes name_tokens name_begun after_name whole_name is_opened_name name.Due name_places p.names t found.0 g.read.0 found.1))
  where
    go : (r : NameListing × Bool) → Goes name_tokens name_begun after_name whole_name is_opened_name name.Due name_places p.names t r → Adds (stage.LabelList h) p t (with_names h p r)
    go (l, false) k = let on = k.on refl in names_on h p t l g on.0 on.1 at
    go (l, true) k = let ends = k.ends refl in names_end h p t l g ends.0 ends.1

-- ---- in the expression over links

links_add : (p : Parse) (t : Token) (e : Phrasing LinkAtom) → Good stage.Links p → IsPhrase is_link_atom e
    → ((rest : List Token) → signs_tokens link_tokens e.signs rest ≡ signs_tokens link_tokens p.path.signs (t ∷ rest)) → Adds stage.Links p t (with_path p e)
links_add p t e g ok is = record {
  shown = λ rest. ap (before_path p) (is rest);
  good = record { first = g.first; path = ok; last = g.last; read = g.read };
}

link_sign : (p q : Parse) (m : Mark) → Good stage.Links p → option_map (with_path p) (after_sign p.path m) ≡ Some q → Adds stage.Links p (token.Mark m) q
link_sign p q m g e =
    let found = map_some (with_path p) (after_sign p.path m) q e in
    subst (Adds stage.Links p (token.Mark m)) found.2 (links_add p (token.Mark m) found.0 g (phrase_sign is_link_atom p.path found.0 m found.1 g.path) (sign_goes link_tokens p.path found.0 m found.1))

in_links : (p q : Parse) (t : Token) → Good stage.Links p → after_in_links p t ≡ Some q → Adds stage.Links p t q
in_links p q (token.AnyEnd at) g e = cc
in_links p q (token.Word n) g e =
    let found = if_some (is_whole p.path && is_keyword n (codes "drop")) (record p { stage = stage.Number; drop_at = Some n.at }) q e in
    let both : (is_whole p.path ≡ true) × (is_keyword n (codes "drop") ≡ true) = and_parts (is_whole p.path) (is_keyword n (codes "drop")) found.0 in
    subst (Adds stage.Links p (token.Word n)) found.1 (record {
      shown = λ rest. ap (λ z. before_path p (signs_tokens link_tokens p.path.signs (token.Word z ∷ rest))) (sym (keyword_is n (codes "drop") both.1));
      good = record { first = g.first; path = g.path; last = g.last; read = ((g.read.0, both.0, tt), g.read.2.1) };
    })
in_links p q (token.Mark Dot) g e =
    to stage.Links p (with_path p (with_atom p.path link.Any)) q (token.Mark Dot) e
    (links_add p (token.Mark Dot) (with_atom p.path link.Any) g (phrase_atom is_link_atom p.path link.Any refl g.path) (λ rest. signs_push link_tokens p.path.signs (sign.Atom link.Any) rest))
in_links p q (token.Mark OpenSquare) g e =
    to stage.Links p (record p { stage = stage.LinkList owner.Path; pairs = no_pairs }) q (token.Mark OpenSquare) e
    (record { shown = λ rest. refl; good = record { first = g.first; path = g.path; last = g.last; read = (no_pairs_listing, g.read) } })
in_links p q (token.Mark Less) g e =
    let found = if_some (is_whole p.path) (record p { stage = stage.Labels Last }) q e in
    subst (Adds stage.Links p (token.Mark Less)) found.1 (record {
      shown = λ rest. ap (λ z. before_last p (signs_tokens label_tokens z.signs rest)) g.read.1;
      good = record { first = g.first; path = g.path; last = g.last; read = ((g.read.0, found.0), g.read.2) };
    })
in_links p q (token.Mark Greater) g e = link_sign p q Greater g e
in_links p q (token.Mark OpenRound) g e = link_sign p q OpenRound g e
in_links p q (token.Mark CloseRound) g e = link_sign p q CloseRound g e
in_links p q (token.Mark CloseSquare) g e = link_sign p q CloseSquare g e
in_links p q (token.Mark Hash) g e = link_sign p q Hash g e
in_links p q (token.Mark Comma) g e = link_sign p q Comma g e
in_links p q (token.Mark Caret) g e = link_sign p q Caret g e
in_links p q (token.Mark Star) g e = link_sign p q Star g e
in_links p q (token.Mark Plus) g e = link_sign p q Plus g e
in_links p q (token.Mark Question) g e = link_sign p q Question g e
in_links p q (token.Mark Bar) g e = link_sign p q Bar g e

-- ---- in a list of pairs

pairs_read : (o : Owner) (p : Parse) (l : PairListing) → IsListing is_opened_pair l → is_opened_pair l.place ≡ false → (is_opened_pair p.pairs.place ≡ false → l.except ≡ p.pairs.except) → OwnerRead o p → OwnerRead o (record p { pairs = l })
pairs_read owner.Path p l ok left same r = (ok, r.1)
pairs_read owner.Down p l ok left same r = ((ok, left, same r.0.1 ∙ r.0.2), r.1, r.2)
pairs_read owner.Up p l ok left same r = ((ok, left, same r.0.1 ∙ r.0.2), r.1)

before_list_pairs : (o : Owner) (p : Parse) (l : PairListing) (rest : List Token) → before_list o (record p { pairs = l }) rest ≡ before_list o p rest
before_list_pairs owner.Path p l rest = refl
before_list_pairs owner.Down p l rest = refl
before_list_pairs owner.Up p l rest = refl

pairs_on : (o : Owner) (p : Parse) (t : Token) (l : PairListing) → Good (stage.LinkList o) p → ((rest : List Token) → pairs_tokens l rest ≡ pairs_tokens p.pairs (t ∷ rest)) → OwnerRead o (record p { pairs = l })
    → p.stage ≡ stage.LinkList o → Adds (stage.LinkList o) p t (record p { pairs = l })
pairs_on o p t l g is ok at = record {
  shown = λ rest. ap (λ z. shown_at z (record p { pairs = l }) rest) at ∙ before_list_pairs o p l (pairs_tokens l rest) ∙ ap (before_list o p) (is rest);
  good = subst (λ z. Good z (record p { pairs = l })) (sym at) (record { first = g.first; path = g.path; last = g.last; read = ok });
}

-- a list that is known, after its word
known_is : (l : PairListing) (s : List ℕ) (at : ℕ) (rest : List Token) → l.except ≡ false → known_tokens s (Some (record { at = at; pairs = l.items })) rest ≡ token.Word (plain at s) ∷ listed pair_tokens l.except l.items rest
known_is l s at rest e = ap (λ z. token.Word (plain at s) ∷ listed pair_tokens z l.items rest) (sym e)

pairs_end : (o : Owner) (p : Parse) (t : Token) (l : PairListing) → Good (stage.LinkList o) p → ((rest : List Token) → listed pair_tokens l.except l.items rest ≡ pairs_tokens p.pairs (t ∷ rest)) → 0 < length l.items
    → (is_opened_pair p.pairs.place ≡ false → l.except ≡ p.pairs.except) → Adds (stage.LinkList o) p t (with_pairs o p (l, true))
pairs_end owner.Path p t l g is some same = record {
  shown = λ rest. ap (before_path p) (signs_push link_tokens p.path.signs (sign.Atom (link.List l.except l.items)) rest ∙ ap (signs_tokens link_tokens p.path.signs) (is rest));
  good = record { first = g.first; path = phrase_atom is_link_atom p.path (link.List l.except l.items) (lt_true (length l.items) some) g.path; last = g.last; read = g.read.1 };
}
pairs_end owner.Down p t l g is some same = record {
  shown = λ rest.
      ap (λ z. before_number p (number_tokens p.number (known_tokens (codes "down") (Some (record { at = p.word_at; pairs = l.items })) (known_tokens (codes "up") z rest)))) g.read.2.1
      ∙ ap (λ z. before_number p (number_tokens p.number z)) (known_is l (codes "down") p.word_at rest (same g.read.0.1 ∙ g.read.0.2) ∙ ap (λ z. word p (codes "down") ∷ z) (is rest))
      ∙ sym (ap (λ z. before_number p (number_tokens p.number (known_tokens (codes "down") z (known_tokens (codes "up") p.up (word p (codes "down") ∷ pairs_tokens p.pairs (t ∷ rest)))))) g.read.2.0
      ∙ ap (λ z. before_number p (number_tokens p.number (known_tokens (codes "up") z (word p (codes "down") ∷ pairs_tokens p.pairs (t ∷ rest))))) g.read.2.1);
  good = record { first = g.first; path = g.path; last = g.last; read = (g.read.1, some, g.read.2.1) };
}
pairs_end owner.Up p t l g is some same = record {
  shown = λ rest.
      ap (λ z. before_number p (number_tokens p.number (known_tokens (codes "down") p.down z))) (known_is l (codes "up") p.word_at rest (same g.read.0.1 ∙ g.read.0.2) ∙ ap (λ z. word p (codes "up") ∷ z) (is rest))
      ∙ sym (ap (λ z. before_number p (number_tokens p.number (known_tokens (codes "down") p.down (known_tokens (codes "up") z (word p (codes "up") ∷ pairs_tokens p.pairs (t ∷ rest)))))) g.read.1.2);
  good = record { first = g.first; path = g.path; last = g.last; read = (g.read.1.0, g.read.1.1, some) };
}

in_pairs : (o : Owner) (p q : Parse) (t : Token) → p.stage ≡ stage.LinkList o → Good (stage.LinkList o) p → option_map (with_pairs o p) (after_in_pairs p.pairs t) ≡ Some q → Adds (stage.LinkList o) p t q
in_pairs o p q t at g e =
    let found = map_some (with_pairs o p) (after_in_pairs p.pairs t) q e in
    subst (Adds (stage.LinkList o) p t) found.2 (go found.0 (goes pair_tokens pair_begun after_pair whole_pair is_opened_pair pair.Due pair_places p.pairs t found.0 (listing o g.read) found.1))
  where
    listing : (o : Owner) → OwnerRead o p → IsListing is_opened_pair p.pairs
    listing owner.Path r = r.0
    listing owner.Down r = r.0.0
    listing owner.Up r = r.0.0

    go : (r : PairListing × Bool) → Goes pair_tokens pair_begun after_pair whole_pair is_opened_pair pair.Due pair_places p.pairs t r → Adds (stage.LinkList o) p t (with_pairs o p r)
    go (l, false) k = let on = k.on refl in pairs_on o p t l g on.0 (pairs_read o p l on.1 on.2 on.3 g.read) at
    go (l, true) k = let ends = k.ends refl in pairs_end o p t l g ends.0 ends.1 ends.2

-- ---- the number and what follows it

at_number : (p q : Parse) (t : Token) → Good stage.Number p → after_at_number p t ≡ Some q → Adds stage.Number p t q
at_number p q (token.Mark m) g e = cc
at_number p q (token.AnyEnd at) g e = cc
at_number p q (token.Word n) g e =
    let found = if_some (not n.quoted && is_number n.text) (record p { stage = stage.BehindNumber; number = Some n }) q e in
    let both : (not n.quoted ≡ true) × (is_number n.text ≡ true) = and_parts (not n.quoted) (is_number n.text) found.0 in
    subst (Adds stage.Number p (token.Word n)) found.1 (record {
      shown = λ rest. ap (λ z. before_number p (token.Word n ∷ known_tokens (codes "down") z (known_tokens (codes "up") p.up rest))) g.read.1.0 ∙ ap (λ z. before_number p (token.Word n ∷ known_tokens (codes "up") z rest)) g.read.1.1;
      good = record { first = g.first; path = g.path; last = g.last; read = ((g.read.0, (n, refl, (not_true n.quoted both.0, both.1))), g.read.1) };
    })

behind_up_word : (at : Stage) (p q : Parse) (n : Named) → ((rest : List Token) → shown_at at p rest ≡ before_words p rest) → Good at p → DownRead p → after_before_up p (token.Word n) ≡ Some q → Adds at p (token.Word n) q
behind_up_word at p q n is g r e =
    let found = if_some (is_keyword n (codes "up")) (record p { stage = stage.UpDue; word_at = n.at }) q e in
    subst (Adds at p (token.Word n)) found.1 (record {
      shown = λ rest. ap (λ z. before_words p (token.Word z ∷ rest)) (sym (keyword_is n (codes "up") found.0)) ∙ sym (is (token.Word n ∷ rest));
      good = record { first = g.first; path = g.path; last = g.last; read = r };
    })

before_up : (at : Stage) (p q : Parse) (t : Token) → ((rest : List Token) → shown_at at p rest ≡ before_words p rest) → Good at p → DownRead p → after_before_up p t ≡ Some q → Adds at p t q
before_up at p q (token.Mark m) is g r e = cc
before_up at p q (token.AnyEnd n) is g r e = cc
before_up at p q (token.Word n) is g r e = behind_up_word at p q n is g r e

before_down : (p q : Parse) (t : Token) → Good stage.BehindNumber p → after_before_down p t ≡ Some q → Adds stage.BehindNumber p t q
before_down p q (token.Mark m) g e = cc
before_down p q (token.AnyEnd at) g e = cc
before_down p q (token.Word n) g e = go (is_keyword n (codes "down")) refl
  where
    go : (b : Bool) → is_keyword n (codes "down") ≡ b → Adds stage.BehindNumber p (token.Word n) q
    go true k =
        to stage.BehindNumber p (record p { stage = stage.DownDue; word_at = n.at }) q (token.Word n)
        (sym (ap (λ z. if z then Some (record p { stage = stage.DownDue; word_at = n.at }) else after_before_up p (token.Word n)) k) ∙ e)
        (record {
          shown = λ rest. ap (λ z. before_words p (token.Word z ∷ rest)) (sym (keyword_is n (codes "down") k));
          good = record { first = g.first; path = g.path; last = g.last; read = g.read };
        })
    go false k =
        before_up stage.BehindNumber p q (token.Word n) (λ rest. refl) g (g.read.0, subst IsKnown (sym g.read.1.0) tt, g.read.1.1)
        (sym (ap (λ z. if z then Some (record p { stage = stage.DownDue; word_at = n.at }) else after_before_up p (token.Word n)) k) ∙ e)

behind_down_word : (p q : Parse) (t : Token) → Good stage.DownDue p → after_word owner.Down p t ≡ Some q → Adds stage.DownDue p t q
behind_down_word p q (token.Mark OpenSquare) g e =
    to stage.DownDue p (record p { stage = stage.LinkList owner.Down; pairs = no_known }) q (token.Mark OpenSquare) e
    (record { shown = λ rest. refl; good = record { first = g.first; path = g.path; last = g.last; read = ((no_known_listing, refl, refl), g.read.0, g.read.1) } })
behind_down_word p q (token.AnyEnd at) g e = cc
behind_down_word p q (token.Word n) g e = cc
behind_down_word p q (token.Mark Less) g e = cc
behind_down_word p q (token.Mark Greater) g e = cc
behind_down_word p q (token.Mark OpenRound) g e = cc
behind_down_word p q (token.Mark CloseRound) g e = cc
behind_down_word p q (token.Mark CloseSquare) g e = cc
behind_down_word p q (token.Mark Hash) g e = cc
behind_down_word p q (token.Mark Dot) g e = cc
behind_down_word p q (token.Mark Comma) g e = cc
behind_down_word p q (token.Mark Caret) g e = cc
behind_down_word p q (token.Mark Star) g e = cc
behind_down_word p q (token.Mark Plus) g e = cc
behind_down_word p q (token.Mark Question) g e = cc
behind_down_word p q (token.Mark Bar) g e = cc

behind_up_list : (p q : Parse) (t : Token) → Good stage.UpDue p → after_word owner.Up p t ≡ Some q → Adds stage.UpDue p t q
behind_up_list p q (token.Mark OpenSquare) g e =
    to stage.UpDue p (record p { stage = stage.LinkList owner.Up; pairs = no_known }) q (token.Mark OpenSquare) e
    (record { shown = λ rest. refl; good = record { first = g.first; path = g.path; last = g.last; read = ((no_known_listing, refl, refl), g.read) } })
behind_up_list p q (token.AnyEnd at) g e = cc
behind_up_list p q (token.Word n) g e = cc
behind_up_list p q (token.Mark Less) g e = cc
behind_up_list p q (token.Mark Greater) g e = cc
behind_up_list p q (token.Mark OpenRound) g e = cc
behind_up_list p q (token.Mark CloseRound) g e = cc
behind_up_list p q (token.Mark CloseSquare) g e = cc
behind_up_list p q (token.Mark Hash) g e = cc
behind_up_list p q (token.Mark Dot) g e = cc
behind_up_list p q (token.Mark Comma) g e = cc
behind_up_list p q (token.Mark Caret) g e = cc
behind_up_list p q (token.Mark Star) g e = cc
behind_up_list p q (token.Mark Plus) g e = cc
behind_up_list p q (token.Mark Question) g e = cc
behind_up_list p q (token.Mark Bar) g e = cc

at_start : (p q : Parse) (t : Token) → Good stage.Start p → after_start p t ≡ Some q → Adds stage.Start p t q
at_start p q (token.Mark Less) g e =
    to stage.Start p (record p { stage = stage.Labels First }) q (token.Mark Less) e
    (record { shown = λ rest. ap (λ z. token.Mark Less ∷ signs_tokens label_tokens z.signs rest) g.read.0; good = record { first = g.first; path = g.path; last = g.last; read = g.read.1 } })
at_start p q (token.AnyEnd at) g e = cc
at_start p q (token.Word n) g e = cc
at_start p q (token.Mark Greater) g e = cc
at_start p q (token.Mark OpenRound) g e = cc
at_start p q (token.Mark CloseRound) g e = cc
at_start p q (token.Mark OpenSquare) g e = cc
at_start p q (token.Mark CloseSquare) g e = cc
at_start p q (token.Mark Hash) g e = cc
at_start p q (token.Mark Dot) g e = cc
at_start p q (token.Mark Comma) g e = cc
at_start p q (token.Mark Caret) g e = cc
at_start p q (token.Mark Star) g e = cc
at_start p q (token.Mark Plus) g e = cc
at_start p q (token.Mark Question) g e = cc
at_start p q (token.Mark Bar) g e = cc

-- ---- each step, and all of them

step_at : (at : Stage) (p q : Parse) (t : Token) → p.stage ≡ at → Good at p → after_at at p t ≡ Some q → Adds at p t q
step_at stage.Start p q t at g e = at_start p q t g e
step_at (stage.Labels h) p q t at g e = in_labels h p q t g e
step_at (stage.LabelList h) p q t at g e = in_names h p q t at g e
step_at stage.Links p q t at g e = in_links p q t g e
step_at (stage.LinkList o) p q t at g e = in_pairs o p q t at g e
step_at stage.Number p q t at g e = at_number p q t g e
step_at stage.BehindNumber p q t at g e = before_down p q t g e
step_at stage.DownDue p q t at g e = behind_down_word p q t g e
step_at stage.BehindDown p q t at g e = before_up stage.BehindDown p q t (λ rest. refl) g g.read e
step_at stage.UpDue p q t at g e = behind_up_list p q t g e
step_at stage.BehindUp p q t at g e = cc

pub step : (p q : Parse) (t : Token) → Good p.stage p → after p t ≡ Some q → Adds p.stage p t q
step p q t g e = step_at p.stage p q t refl g e

pub start_good : Good stage.Start start
start_good = record {
  first = phrase_none is_label_atom;
  path = phrase_none is_link_atom;
  last = phrase_none is_label_atom;
  read = (refl, (refl, refl, (refl, (refl, refl))));
}

-- after tokens, what was read is what was read before and the tokens
pub all_shown : (p q : Parse) (ts : List Token) → Good p.stage p → after_all p ts ≡ Some q → ((rest : List Token) → shown_at q.stage q rest ≡ shown_at p.stage p (ts ++ rest)) × Good q.stage q
all_shown p q [] g e = let is : p ≡ q = cc in subst (λ z. ((rest : List Token) → shown_at z.stage z rest ≡ shown_at p.stage p rest) × Good z.stage z) is ((λ rest. refl), g)
all_shown p q (t ∷ ts) g e =
    let found = then_some (λ r. after_all r ts) (after p t) q e in
    let one = step p found.0 t g found.1 in
    let more = all_shown found.0 q ts one.good found.2 in
    ((λ rest. more.0 rest ∙ one.shown (ts ++ rest)), more.1)

-- at an end the tokens are the query's, and it is of its form
finish_at : (at : Stage) (p : Parse) (w : Written) → Good at p → (if may_end at then option_map (λ n. record { first = p.first.signs; path = p.path.signs; last = last_of p.drop_at p.last; number = n; down = p.down; up = p.up }) p.number else None) ≡ Some w
    → (tokens_of w ≡ shown_at at p []) × IsWritten w
finish_at stage.BehindNumber p w g e = ended p w g.read.0 (subst IsKnown (sym g.read.1.0) tt) (subst IsKnown (sym g.read.1.1) tt) g.first g.path g.last e
finish_at stage.BehindDown p w g e = ended p w g.read.0 g.read.1 (subst IsKnown (sym g.read.2) tt) g.first g.path g.last e
finish_at stage.BehindUp p w g e = ended p w g.read.0 g.read.1 g.read.2 g.first g.path g.last e
finish_at stage.Start p w g e = cc
finish_at (stage.Labels h) p w g e = cc
finish_at (stage.LabelList h) p w g e = cc
finish_at stage.Links p w g e = cc
finish_at (stage.LinkList o) p w g e = cc
finish_at stage.Number p w g e = cc
finish_at stage.DownDue p w g e = cc
finish_at stage.UpDue p w g e = cc

pub finished_is : (p : Parse) (w : Written) → Good p.stage p → finish p ≡ Some w → (tokens_of w ≡ shown_at p.stage p []) × IsWritten w
finished_is p w g e = finish_at p.stage p w g e
