-- The tokens of a query lead to the query.
use Rattle.std.proofs.Common.{◌≡◌, ℕ, suc, ◌+◌, ◌-◌, ◌<◌, Bool, true, false, List, [], ◌∷◌, ◌++◌, length, Option, Some, None, refl, sym, ap, ◌∙◌, arith}
use Rattle.std.specs.Prelude.{codes, ◌==◌}
use Rattle.std.specs.Option.{option_and_then}
use Rattle.std.proofs.lemmas.Bool.{and_parts, ltb-true, ne_eqb}
use Rattle.std.proofs.lemmas.List.{append_assoc}
use Rattle.wi_syntax.specs.Names.{Named}
use Rattle.wi_syntax.specs.declared.token.Mark.{Mark}
use Rattle.wi_syntax.specs.declared.token.Mark.TheVariants.{Greater, OpenRound, CloseRound, CloseSquare, Hash, Comma, Star, Plus, Question, Bar}
use Rattle.wi_syntax.specs.declared.token.Token.{Token}
use Rattle.wi_syntax.specs.declared.token.Token.TheVariants as token
use Rattle.wi_syntax.specs.declared.written.LabelAtom.{LabelAtom}
use Rattle.wi_syntax.specs.declared.written.LabelAtom.TheVariants as label
use Rattle.wi_syntax.specs.declared.written.LinkAtom.{LinkAtom}
use Rattle.wi_syntax.specs.declared.written.LinkAtom.TheVariants as link
use Rattle.wi_syntax.specs.declared.written.End.{End}
use Rattle.wi_syntax.specs.declared.written.End.TheVariants as end
use Rattle.wi_syntax.specs.declared.written.Pair.{Pair}
use Rattle.wi_syntax.specs.declared.written.Known.{Known}
use Rattle.wi_syntax.specs.declared.written.Last.{Last as LastPart}
use Rattle.wi_syntax.specs.declared.written.Last.TheVariants as ending
use Rattle.wi_syntax.specs.declared.written.Sign.{Sign}
use Rattle.wi_syntax.specs.declared.written.Sign.TheVariants as sign
use Rattle.wi_syntax.specs.declared.written.Written.{Written}
use Rattle.wi_syntax.specs.declared.parser.Stage.{Stage}
use Rattle.wi_syntax.specs.declared.parser.Stage.TheVariants as stage
use Rattle.wi_syntax.specs.declared.parser.Header.{Header}
use Rattle.wi_syntax.specs.declared.parser.Header.TheVariants.{First, Last}
use Rattle.wi_syntax.specs.declared.parser.Owner.{Owner}
use Rattle.wi_syntax.specs.declared.parser.Owner.TheVariants as owner
use Rattle.wi_syntax.specs.Atoms.{Writer, label_tokens, link_tokens, pair_tokens, end_tokens, name_tokens, separated, listed, is_label_atom, is_link_atom}
use Rattle.wi_syntax.specs.Trees.{Tree, Leaf, Starred, Plussed, Optional, Grouped, Then, Or, Level, AnItem, ASequence, AnExpression, signs_of, is_tree, IsExpression, sign_tokens, signs_tokens}
use Rattle.wi_syntax.specs.Grammar.{known_tokens, last_tokens, tokens_of, IsKnown, IsLast, IsNumber, IsWritten}
use Rattle.wi_syntax.specs.private.Lists.{NameListing, PairListing, no_names, no_pairs, no_known}
use Rattle.wi_syntax.specs.declared.places.NamePlace.{NamePlace}
use Rattle.wi_syntax.specs.declared.places.NamePlace.TheVariants as name
use Rattle.wi_syntax.specs.declared.places.PairPlace.{PairPlace}
use Rattle.wi_syntax.specs.declared.places.PairPlace.TheVariants as pair
use Rattle.wi_syntax.specs.private.Parsing.{Phrasing, Parse, start, no_phrasing, with_atom, with_names, with_pairs, after, after_all, last_of, finish}
use Rattle.wi_syntax.proofs.Phrases.{signs_more}

-- ---- expressions

abbrev more : {A : Type 0} → Phrasing A → List (Sign A) → Bool → Phrasing A
more e xs b = record { signs = e.signs ++ xs; depth = e.depth; behind = b }

-- a way of reading an expression within a query
record Reads {A : Type 0} (p : A → Bool) (write : Writer A) (at : Phrasing A → Parse) : Type 0 where
  atom : (e : Phrasing A) (a : A) (rest : List Token) → p a ≡ true → after_all (at e) (write a rest) ≡ after_all (at (with_atom e a)) rest
  opens : (e : Phrasing A) → after (at e) (token.Mark OpenRound) ≡ Some (at (record { signs = e.signs ++ sign.Open ∷ []; depth = e.depth + 1; behind = false }))
  closes : (e : Phrasing A) → e.behind ≡ true → (d : ℕ) → e.depth ≡ suc d → after (at e) (token.Mark CloseRound) ≡ Some (at (record { signs = e.signs ++ sign.Close ∷ []; depth = d; behind = true }))
  star : (e : Phrasing A) → e.behind ≡ true → after (at e) (token.Mark Star) ≡ Some (at (more e (sign.Star ∷ []) true))
  plus : (e : Phrasing A) → e.behind ≡ true → after (at e) (token.Mark Plus) ≡ Some (at (more e (sign.Plus ∷ []) true))
  maybe : (e : Phrasing A) → e.behind ≡ true → after (at e) (token.Mark Question) ≡ Some (at (more e (sign.Maybe ∷ []) true))
  bar : (e : Phrasing A) → e.behind ≡ true → after (at e) (token.Mark Bar) ≡ Some (at (more e (sign.Or ∷ []) false))

one : (p q : Parse) (t : Token) (rest : List Token) → after p t ≡ Some q → after_all p (t ∷ rest) ≡ after_all q rest
one p q t rest e = ap (option_and_then (λ r. after_all r rest)) e

module _ {A : Type 0} (p : A → Bool) (write : Writer A) (at : Phrasing A → Parse) (reads : Reads p write at) where
  abbrev Runs : Tree A → Type 0
  Runs t = (e : Phrasing A) (ss : List (Sign A)) (rest : List Token) → after_all (at e) (signs_tokens write (signs_of t ss) rest) ≡ after_all (at (more e (signs_of t []) true)) (signs_tokens write ss rest)

  -- a sign behind a tree
  pushed : (t : Tree A) (e : Phrasing A) (s : Sign A) (b : Bool) → more (more e (signs_of t []) true) (s ∷ []) b ≡ more e (signs_of t (s ∷ [])) b
  pushed t e s b = ap (λ z. record { signs = z; depth = e.depth; behind = b }) (append_assoc e.signs (signs_of t []) (s ∷ []) ∙ ap (λ z. e.signs ++ z) (sym (signs_more p t [] (s ∷ []))))

  postfix : (t : Tree A) (s : Sign A) (m : Mark) → ((rest : List Token) → sign_tokens write s rest ≡ token.Mark m ∷ rest) → ((e : Phrasing A) → e.behind ≡ true → after (at e) (token.Mark m) ≡ Some (at (more e (s ∷ []) true)))
      → Runs t → (e : Phrasing A) (ss : List (Sign A)) (rest : List Token) → after_all (at e) (signs_tokens write (signs_of t (s ∷ ss)) rest) ≡ after_all (at (more e (signs_of t (s ∷ [])) true)) (signs_tokens write ss rest)
  postfix t s m shown goes run e ss rest =
      run e (s ∷ ss) rest
      ∙ ap (after_all (at (more e (signs_of t []) true))) (shown (signs_tokens write ss rest))
      ∙ one (at (more e (signs_of t []) true)) (at (more (more e (signs_of t []) true) (s ∷ []) true)) (token.Mark m) (signs_tokens write ss rest) (goes (more e (signs_of t []) true) refl)
      ∙ ap (λ z. after_all (at z) (signs_tokens write ss rest)) (pushed t e s true)

  opened : Phrasing A → Phrasing A
  opened e = record { signs = e.signs ++ sign.Open ∷ []; depth = e.depth + 1; behind = false }

  group : (t : Tree A) → Runs t → Runs (Grouped t)
  group t run e ss rest =
      one (at e) (at (record { signs = e.signs ++ sign.Open ∷ []; depth = e.depth + 1; behind = false })) (token.Mark OpenRound) (signs_tokens write (signs_of t (sign.Close ∷ ss)) rest) (reads.opens e)
      ∙ run (record { signs = e.signs ++ sign.Open ∷ []; depth = e.depth + 1; behind = false }) (sign.Close ∷ ss) rest
      ∙ one (at inside) (at outside) (token.Mark CloseRound) (signs_tokens write ss rest) (reads.closes inside refl e.depth (omega arith))
      ∙ ap (λ z. after_all (at (record { signs = z; depth = e.depth; behind = true })) (signs_tokens write ss rest)) same
    where
      inside : Phrasing A
      inside = record { signs = (e.signs ++ sign.Open ∷ []) ++ signs_of t []; depth = e.depth + 1; behind = true }

      outside : Phrasing A
      outside = record { signs = ((e.signs ++ sign.Open ∷ []) ++ signs_of t []) ++ sign.Close ∷ []; depth = e.depth; behind = true }

      same : ((e.signs ++ sign.Open ∷ []) ++ signs_of t []) ++ sign.Close ∷ [] ≡ e.signs ++ sign.Open ∷ signs_of t (sign.Close ∷ [])
      same =
          append_assoc (e.signs ++ sign.Open ∷ []) (signs_of t []) (sign.Close ∷ [])
          ∙ ap (λ z. (e.signs ++ sign.Open ∷ []) ++ z) (sym (signs_more p t [] (sign.Close ∷ [])))
          ∙ append_assoc e.signs (sign.Open ∷ []) (signs_of t (sign.Close ∷ []))

  both : (a b : Tree A) → Runs a → Runs b → Runs (Then a b)
  both a b f g e ss rest =
      f e (signs_of b ss) rest
      ∙ g (more e (signs_of a []) true) ss rest
      ∙ ap (λ z. after_all (at (record { signs = z; depth = e.depth; behind = true })) (signs_tokens write ss rest)) (append_assoc e.signs (signs_of a []) (signs_of b []) ∙ ap (λ z. e.signs ++ z) (sym (signs_more p a [] (signs_of b []))))

  either : (a b : Tree A) → Runs a → Runs b → Runs (Or a b)
  either a b f g e ss rest =
      f e (sign.Or ∷ signs_of b ss) rest
      ∙ one (at (more e (signs_of a []) true)) (at (more (more e (signs_of a []) true) (sign.Or ∷ []) false)) (token.Mark Bar) (signs_tokens write (signs_of b ss) rest) (reads.bar (more e (signs_of a []) true) refl)
      ∙ ap (λ z. after_all (at z) (signs_tokens write (signs_of b ss) rest)) (pushed a e sign.Or false)
      ∙ g (more e (signs_of a (sign.Or ∷ [])) false) ss rest
      ∙ ap (λ z. after_all (at (record { signs = z; depth = e.depth; behind = true })) (signs_tokens write ss rest)) (append_assoc e.signs (signs_of a (sign.Or ∷ [])) (signs_of b []) ∙ ap (λ z. e.signs ++ z) (sym (signs_more p a (sign.Or ∷ []) (signs_of b []))))

  runs : (t : Tree A) (level : Level) → is_tree p level t ≡ true → Runs t
  runs (Leaf a) level ok e ss rest = reads.atom e a (signs_tokens write ss rest) ok
  runs (Starred t) level ok e ss rest = postfix t sign.Star Star (λ r. refl) reads.star (runs t AnItem ok) e ss rest
  runs (Plussed t) level ok e ss rest = postfix t sign.Plus Plus (λ r. refl) reads.plus (runs t AnItem ok) e ss rest
  runs (Optional t) level ok e ss rest = postfix t sign.Maybe Question (λ r. refl) reads.maybe (runs t AnItem ok) e ss rest
  runs (Grouped t) level ok e ss rest = group t (runs t AnExpression ok) e ss rest
  runs (Then a b) AnItem ok e ss rest = cc
  runs (Then a b) ASequence ok e ss rest = let parts = and_parts (is_tree p ASequence a) (is_tree p AnItem b) ok in both a b (runs a ASequence parts.0) (runs b AnItem parts.1) e ss rest
  runs (Then a b) AnExpression ok e ss rest = let parts = and_parts (is_tree p ASequence a) (is_tree p AnItem b) ok in both a b (runs a ASequence parts.0) (runs b AnItem parts.1) e ss rest
  runs (Or a b) AnItem ok e ss rest = cc
  runs (Or a b) ASequence ok e ss rest = cc
  runs (Or a b) AnExpression ok e ss rest = let parts = and_parts (is_tree p AnExpression a) (is_tree p ASequence b) ok in either a b (runs a AnExpression parts.0) (runs b ASequence parts.1) e ss rest

  -- a whole expression, from none on
  expression : (signs : List (Sign A)) (rest : List Token) → IsExpression p signs → after_all (at no_phrasing) (signs_tokens write signs rest) ≡ after_all (at (record { signs = signs; depth = 0; behind = true })) rest
  expression signs rest h =
      ap (λ z. after_all (at no_phrasing) (signs_tokens write z rest)) (sym h.2) ∙ runs h.0 AnExpression h.1 no_phrasing [] rest
      ∙ ap (λ z. after_all (at (record { signs = z; depth = 0; behind = true })) rest) h.2

-- ---- lists of names

-- what follows the bracket of a list
abbrev drop_open : List Token → List Token
drop_open [] = []
drop_open (t ∷ ts) = ts

-- `up` may come next
abbrev may_take_up : Stage → Bool
may_take_up stage.BehindNumber = true
may_take_up stage.BehindDown = true
may_take_up _ = false

abbrev in_names : Header → Parse → NameListing → Parse
in_names h p l = record p { stage = stage.LabelList h; names = l }

abbrev names_at : Bool → List Named → NamePlace → NameListing
names_at e items place = record { except = e; items = items; place = place }

abbrev names_end : Header → Parse → Bool → List Named → Parse
names_end h p e items = with_names h (in_names h p no_names) (names_at e items name.Due, true)

-- names from one on that may come next
names_go : (h : Header) (p : Parse) (e : Bool) (items : List Named) (place : NamePlace) (x : Named) (xs : List Named) (rest : List Token)
    → after (in_names h p (names_at e items place)) (token.Word x) ≡ Some (in_names h p (names_at e items (name.Whole x)))
    → after_all (in_names h p (names_at e items place)) (separated name_tokens (x ∷ xs) (token.Mark CloseSquare ∷ rest)) ≡ after_all (names_end h p e (items ++ x ∷ xs)) rest
names_go h p e items place x [] rest first =
    one (in_names h p (names_at e items place)) (in_names h p (names_at e items (name.Whole x))) (token.Word x) (token.Mark CloseSquare ∷ rest) first
    ∙ closes h
  where
    closes : (h : Header) → after_all (in_names h p (names_at e items (name.Whole x))) (token.Mark CloseSquare ∷ rest) ≡ after_all (names_end h p e (items ++ x ∷ [])) rest
    closes First = refl
    closes Last = refl
names_go h p e items place x (y ∷ xs) rest first =
    one (in_names h p (names_at e items place)) (in_names h p (names_at e items (name.Whole x))) (token.Word x) (token.Mark Comma ∷ separated name_tokens (y ∷ xs) (token.Mark CloseSquare ∷ rest)) first
    ∙ names_go h p e (items ++ x ∷ []) name.Due y xs rest refl
    ∙ ap (λ z. after_all (names_end h p e z) rest) (append_assoc items (x ∷ []) (y ∷ xs))

names_all : (h : Header) (p : Parse) (e : Bool) (xs : List Named) (rest : List Token) → 0 < length xs
    → after_all (in_names h p no_names) (drop_open (listed name_tokens e xs rest)) ≡ after_all (names_end h p e xs) rest
names_all h p e [] rest some = absurd (omega arith)
names_all h p true (x ∷ xs) rest some = names_go h p true [] name.Due x xs rest refl
names_all h p false (x ∷ xs) rest some = names_go h p false [] name.Opened x xs rest refl

-- ---- lists of pairs

abbrev in_pairs : Owner → Parse → PairListing → Parse
in_pairs o p l = record p { stage = stage.LinkList o; pairs = l }

abbrev pairs_at : Bool → List Pair → PairPlace → PairListing
pairs_at e items place = record { except = e; items = items; place = place }

abbrev pairs_end : Owner → Parse → Bool → List Pair → Parse
pairs_end o p e items = with_pairs o (in_pairs o p no_pairs) (pairs_at e items pair.Due, true)

-- the place behind a pair
abbrev behind_pair : End → End → PairPlace
behind_pair from (end.Any at) = pair.Whole (record { from = from; to = end.Any at })
behind_pair from (end.Router n) = pair.ToRouter from n
behind_pair from (end.Interface n i) = pair.Whole (record { from = from; to = end.Interface n i })

to_end : (o : Owner) (p : Parse) (e : Bool) (items : List Pair) (from to : End) (rest : List Token)
    → after_all (in_pairs o p (pairs_at e items (pair.ToDue from))) (end_tokens to rest) ≡ after_all (in_pairs o p (pairs_at e items (behind_pair from to))) rest
to_end o p e items from (end.Any at) rest = refl
to_end o p e items from (end.Router n) rest = refl
to_end o p e items from (end.Interface n i) rest = refl

from_due : (o : Owner) (p : Parse) (e : Bool) (items : List Pair) (from : End) (rest : List Token)
    → after_all (in_pairs o p (pairs_at e items pair.Due)) (end_tokens from (token.Mark Hash ∷ rest)) ≡ after_all (in_pairs o p (pairs_at e items (pair.ToDue from))) rest
from_due o p e items (end.Any at) rest = refl
from_due o p e items (end.Router n) rest = refl
from_due o p e items (end.Interface n i) rest = refl

from_opened : (o : Owner) (p : Parse) (e : Bool) (items : List Pair) (from : End) (rest : List Token)
    → after_all (in_pairs o p (pairs_at e items pair.Opened)) (end_tokens from (token.Mark Hash ∷ rest)) ≡ after_all (in_pairs o p (pairs_at e items (pair.ToDue from))) rest
from_opened o p e items (end.Any at) rest = refl
from_opened o p e items (end.Router n) rest = refl
from_opened o p e items (end.Interface n i) rest = refl

pair_comma : (o : Owner) (p : Parse) (e : Bool) (items : List Pair) (from to : End) (rest : List Token)
    → after_all (in_pairs o p (pairs_at e items (behind_pair from to))) (token.Mark Comma ∷ rest) ≡ after_all (in_pairs o p (pairs_at e (items ++ record { from = from; to = to } ∷ []) pair.Due)) rest
pair_comma o p e items from (end.Any at) rest = refl
pair_comma o p e items from (end.Router n) rest = refl
pair_comma o p e items from (end.Interface n i) rest = refl

pair_close : (o : Owner) (p : Parse) (e : Bool) (items : List Pair) (from to : End) (rest : List Token)
    → after_all (in_pairs o p (pairs_at e items (behind_pair from to))) (token.Mark CloseSquare ∷ rest) ≡ after_all (pairs_end o p e (items ++ record { from = from; to = to } ∷ [])) rest
pair_close owner.Path p e items from (end.Any at) rest = refl
pair_close owner.Path p e items from (end.Router n) rest = refl
pair_close owner.Path p e items from (end.Interface n i) rest = refl
pair_close owner.Down p e items from (end.Any at) rest = refl
pair_close owner.Down p e items from (end.Router n) rest = refl
pair_close owner.Down p e items from (end.Interface n i) rest = refl
pair_close owner.Up p e items from (end.Any at) rest = refl
pair_close owner.Up p e items from (end.Router n) rest = refl
pair_close owner.Up p e items from (end.Interface n i) rest = refl

pairs_go : (o : Owner) (p : Parse) (e : Bool) (items : List Pair) (place : PairPlace) (x : Pair) (xs : List Pair) (rest : List Token)
    → ((from : End) (more : List Token) → after_all (in_pairs o p (pairs_at e items place)) (end_tokens from (token.Mark Hash ∷ more)) ≡ after_all (in_pairs o p (pairs_at e items (pair.ToDue from))) more)
    → after_all (in_pairs o p (pairs_at e items place)) (separated pair_tokens (x ∷ xs) (token.Mark CloseSquare ∷ rest)) ≡ after_all (pairs_end o p e (items ++ x ∷ xs)) rest
pairs_go o p e items place x [] rest first =
    first x.from (end_tokens x.to (token.Mark CloseSquare ∷ rest))
    ∙ to_end o p e items x.from x.to (token.Mark CloseSquare ∷ rest)
    ∙ pair_close o p e items x.from x.to rest
pairs_go o p e items place x (y ∷ xs) rest first =
    first x.from (end_tokens x.to (token.Mark Comma ∷ separated pair_tokens (y ∷ xs) (token.Mark CloseSquare ∷ rest)))
    ∙ to_end o p e items x.from x.to (token.Mark Comma ∷ separated pair_tokens (y ∷ xs) (token.Mark CloseSquare ∷ rest))
    ∙ pair_comma o p e items x.from x.to (separated pair_tokens (y ∷ xs) (token.Mark CloseSquare ∷ rest))
    ∙ pairs_go o p e (items ++ x ∷ []) pair.Due y xs rest (from_due o p e (items ++ x ∷ []))
    ∙ ap (λ z. after_all (pairs_end o p e z) rest) (append_assoc items (x ∷ []) (y ∷ xs))

pairs_all : (o : Owner) (p : Parse) (e : Bool) (xs : List Pair) (rest : List Token) → 0 < length xs
    → after_all (in_pairs o p no_pairs) (drop_open (listed pair_tokens e xs rest)) ≡ after_all (pairs_end o p e xs) rest
pairs_all o p e [] rest some = absurd (omega arith)
pairs_all o p true (x ∷ xs) rest some = pairs_go o p true [] pair.Due x xs rest (from_due o p true [])
pairs_all o p false (x ∷ xs) rest some = pairs_go o p false [] pair.Opened x xs rest (from_opened o p false [])

-- the same of links that are known, where no `^` may come
known_all : (o : Owner) (p : Parse) (xs : List Pair) (rest : List Token) → 0 < length xs
    → after_all (in_pairs o p no_known) (drop_open (listed pair_tokens false xs rest)) ≡ after_all (pairs_end o p false xs) rest
known_all o p [] rest some = absurd (omega arith)
known_all o p (x ∷ xs) rest some = pairs_go o p false [] pair.Due x xs rest (from_due o p false [])

-- ---- the whole

abbrev made : Stage → Phrasing LabelAtom → Phrasing LinkAtom → Phrasing LabelAtom → Option ℕ → Option Named → ℕ → Option Known → Option Known → Parse
made st a b c k n w d u = record { stage = st; first = a; path = b; last = c; drop_at = k; names = no_names; pairs = no_pairs; number = n; word_at = w; down = d; up = u }

abbrev whole : {A : Type 0} → List (Sign A) → Phrasing A
whole signs = record { signs = signs; depth = 0; behind = true }

abbrev first_at : Phrasing LabelAtom → Parse
first_at e = made (stage.Labels First) e no_phrasing no_phrasing None None 0 None None

abbrev path_at : List (Sign LabelAtom) → Phrasing LinkAtom → Parse
path_at first e = made stage.Links (whole first) e no_phrasing None None 0 None None

abbrev last_at : List (Sign LabelAtom) → List (Sign LinkAtom) → Phrasing LabelAtom → Parse
last_at first path e = made (stage.Labels Last) (whole first) (whole path) e None None 0 None None

close_of : (d n : ℕ) → d ≡ suc n → (d == 0) ≡ false
close_of d n e = ne_eqb d 0 (λ z. (let k : d ≡ 0 = z in omega arith))

minus_of : (d n : ℕ) → d ≡ suc n → d - 1 ≡ n
minus_of d n e = omega arith

first_reads : Reads is_label_atom label_tokens first_at
first_reads = record {
  atom = atom;
  opens = λ e. refl;
  closes = λ e b d h. rw (b, close_of e.depth d h, minus_of e.depth d h) refl;
  star = λ e b. rw b refl;
  plus = λ e b. rw b refl;
  maybe = λ e b. rw b refl;
  bar = λ e b. rw b refl;
}
  where
    atom : (e : Phrasing LabelAtom) (a : LabelAtom) (rest : List Token) → is_label_atom a ≡ true → after_all (first_at e) (label_tokens a rest) ≡ after_all (first_at (with_atom e a)) rest
    atom e label.Any rest ok = refl
    atom e (label.Name n) rest ok = refl
    atom e (label.List except names) rest ok = names_all First (first_at e) except names rest (ltb-true 0 (length names) ok)

path_reads : (first : List (Sign LabelAtom)) → Reads is_link_atom link_tokens (path_at first)
path_reads first = record {
  atom = atom;
  opens = λ e. refl;
  closes = λ e b d h. rw (b, close_of e.depth d h, minus_of e.depth d h) refl;
  star = λ e b. rw b refl;
  plus = λ e b. rw b refl;
  maybe = λ e b. rw b refl;
  bar = λ e b. rw b refl;
}
  where
    atom : (e : Phrasing LinkAtom) (a : LinkAtom) (rest : List Token) → is_link_atom a ≡ true → after_all (path_at first e) (link_tokens a rest) ≡ after_all (path_at first (with_atom e a)) rest
    atom e link.Any rest ok = refl
    atom e (link.List except pairs) rest ok = pairs_all owner.Path (path_at first e) except pairs rest (ltb-true 0 (length pairs) ok)

last_reads : (first : List (Sign LabelAtom)) (path : List (Sign LinkAtom)) → Reads is_label_atom label_tokens (last_at first path)
last_reads first path = record {
  atom = atom;
  opens = λ e. refl;
  closes = λ e b d h. rw (b, close_of e.depth d h, minus_of e.depth d h) refl;
  star = λ e b. rw b refl;
  plus = λ e b. rw b refl;
  maybe = λ e b. rw b refl;
  bar = λ e b. rw b refl;
}
  where
    atom : (e : Phrasing LabelAtom) (a : LabelAtom) (rest : List Token) → is_label_atom a ≡ true → after_all (last_at first path e) (label_tokens a rest) ≡ after_all (last_at first path (with_atom e a)) rest
    atom e label.Any rest ok = refl
    atom e (label.Name n) rest ok = refl
    atom e (label.List except names) rest ok = names_all Last (last_at first path e) except names rest (ltb-true 0 (length names) ok)

module _ (first : List (Sign LabelAtom)) (path : List (Sign LinkAtom)) (last : Phrasing LabelAtom) (drop_at : Option ℕ) where
  abbrev rest_at : Stage → Option Named → ℕ → Option Known → Option Known → Parse
  rest_at st n w d u = made st (whole first) (whole path) last drop_at n w d u

  number_goes : (n : Named) (rest : List Token) → IsNumber n → after_all (rest_at stage.Number None 0 None None) (token.Word n ∷ rest) ≡ after_all (rest_at stage.BehindNumber (Some n) 0 None None) rest
  number_goes n rest h = rw (h.0, h.1) refl

  abbrev ends : Option Parse → Written → Type 0
  ends o w = (q : Parse) × (o ≡ Some q) × (finish q ≡ Some w)

  up_goes : (st : Stage) (n : Named) (w : ℕ) (d u : Option Known) → may_take_up st ≡ true → IsKnown u
      → ends (after_all (rest_at st (Some n) w d None) (known_tokens (codes "up") u [])) (record { first = first; path = path; last = last_of drop_at last; number = n; down = d; up = u })
  up_goes stage.BehindNumber n w d None ok h = (rest_at stage.BehindNumber (Some n) w d None, refl, refl)
  up_goes stage.BehindDown n w d None ok h = (rest_at stage.BehindDown (Some n) w d None, refl, refl)
  up_goes stage.BehindNumber n w d (Some k) ok h = (rest_at stage.BehindUp (Some n) k.at d (Some k), known_all owner.Up (rest_at stage.UpDue (Some n) k.at d None) k.pairs [] h, refl)
  up_goes stage.BehindDown n w d (Some k) ok h = (rest_at stage.BehindUp (Some n) k.at d (Some k), known_all owner.Up (rest_at stage.UpDue (Some n) k.at d None) k.pairs [] h, refl)
  up_goes stage.Start n w d u ok h = cc
  up_goes (stage.Labels g) n w d u ok h = cc
  up_goes (stage.LabelList g) n w d u ok h = cc
  up_goes stage.Links n w d u ok h = cc
  up_goes (stage.LinkList o) n w d u ok h = cc
  up_goes stage.Number n w d u ok h = cc
  up_goes stage.DownDue n w d u ok h = cc
  up_goes stage.UpDue n w d u ok h = cc
  up_goes stage.BehindUp n w d u ok h = cc

  down_goes : (n : Named) (d u : Option Known) → IsKnown d → IsKnown u
      → ends (after_all (rest_at stage.BehindNumber (Some n) 0 None None) (known_tokens (codes "down") d (known_tokens (codes "up") u []))) (record { first = first; path = path; last = last_of drop_at last; number = n; down = d; up = u })
  down_goes n None u h k = up_goes stage.BehindNumber n 0 None u refl k
  down_goes n (Some d) u h k =
      let later = up_goes stage.BehindDown n d.at (Some d) u refl k in
      (later.0, known_all owner.Down (rest_at stage.DownDue (Some n) d.at None None) d.pairs (known_tokens (codes "up") u []) h ∙ later.1, later.2)

-- how the last header is kept, or the word in its place
abbrev header_of : LastPart → Phrasing LabelAtom
header_of (ending.Header signs) = whole signs
header_of (ending.Dropped at) = no_phrasing

abbrev drop_of : LastPart → Option ℕ
drop_of (ending.Header signs) = None
drop_of (ending.Dropped at) = Some at

last_kept : (l : LastPart) → last_of (drop_of l) (header_of l) ≡ l
last_kept (ending.Header signs) = refl
last_kept (ending.Dropped at) = refl

last_goes : (first : List (Sign LabelAtom)) (path : List (Sign LinkAtom)) (l : LastPart) (rest : List Token) → IsLast l
    → after_all (path_at first (whole path)) (last_tokens l rest) ≡ after_all (rest_at first path (header_of l) (drop_of l) stage.Number None 0 None None) rest
last_goes first path (ending.Header signs) rest h = expression is_label_atom label_tokens (last_at first path) (last_reads first path) signs (token.Mark Greater ∷ rest) h
last_goes first path (ending.Dropped at) rest h = refl

-- the tokens of a query lead to it
pub query_leads : (w : Written) → IsWritten w → (q : Parse) × (after_all start (tokens_of w) ≡ Some q) × (finish q ≡ Some w)
query_leads w h =
    let later = down_goes w.first w.path (header_of w.last) (drop_of w.last) w.number w.down w.up h.down h.up in (
      later.0,
      (expression is_label_atom label_tokens first_at first_reads w.first (token.Mark Greater ∷ after_first) h.first
          ∙ expression is_link_atom link_tokens (path_at w.first) (path_reads w.first) w.path after_path h.path
          ∙ last_goes w.first w.path w.last after_last h.last
          ∙ number_goes w.first w.path (header_of w.last) (drop_of w.last) w.number words h.number
          ∙ later.1),
      later.2 ∙ ap (λ (l : LastPart). Some (record w { last = l })) (last_kept w.last),
    )
  where
    words : List Token
    words = known_tokens (codes "down") w.down (known_tokens (codes "up") w.up [])

    after_last : List Token
    after_last = token.Word w.number ∷ words

    after_path : List Token
    after_path = last_tokens w.last after_last

    after_first : List Token
    after_first = signs_tokens link_tokens w.path after_path
