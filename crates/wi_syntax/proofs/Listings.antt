-- What was read of a list between brackets, as tokens.
use Rattle.std.proofs.Common.{◌≡◌, ◌+◌, ◌<◌, Bool, true, false, List, [], ◌∷◌, ◌++◌, length, Option, Some, refl, sym, ap, ◌∙◌, subst, arith}
use Rattle.std.specs.Prelude.{if◌then◌else◌}
use Rattle.std.specs.Option.{option_map}
use Rattle.std.proofs.lemmas.List.{length-append}
use Rattle.wi_syntax.specs.Names.{Named}
use Rattle.wi_syntax.specs.declared.token.Mark.TheVariants.{Less, Greater, OpenRound, CloseRound, OpenSquare, CloseSquare, Hash, Dot, Comma, Caret, Star, Plus, Question, Bar}
use Rattle.wi_syntax.specs.declared.token.Token.{Token}
use Rattle.wi_syntax.specs.declared.token.Token.TheVariants.{Mark, AnyEnd, Word}
use Rattle.wi_syntax.specs.declared.written.End.TheVariants as end
use Rattle.wi_syntax.specs.declared.written.Pair.{Pair}
use Rattle.wi_syntax.specs.declared.places.NamePlace.{NamePlace}
use Rattle.wi_syntax.specs.declared.places.NamePlace.TheVariants as name
use Rattle.wi_syntax.specs.declared.places.PairPlace.{PairPlace}
use Rattle.wi_syntax.specs.declared.places.PairPlace.TheVariants as pair
use Rattle.wi_syntax.specs.Atoms.{Writer, separated, listed, name_tokens, end_tokens, pair_tokens}
use Rattle.wi_syntax.specs.private.Lists.{Listing, with_item, after_in, after_name, after_pair, whole_name, whole_pair, is_opened_name, is_opened_pair, no_names, no_pairs, no_known}
use Rattle.wi_syntax.proofs.Options.{if_some, map_some}

-- each with a comma behind it
abbrev pub commas : {X : Type 0} → Writer X → List X → List Token → List Token
commas write [] rest = rest
commas write (x ∷ xs) rest = write x (Mark Comma ∷ commas write xs rest)

pub commas_push : {X : Type 0} (write : Writer X) (xs : List X) (x : X) (rest : List Token) → commas write (xs ++ x ∷ []) rest ≡ commas write xs (write x (Mark Comma ∷ rest))
commas_push write [] x rest = refl
commas_push write (y ∷ xs) x rest = ap (λ z. write y (Mark Comma ∷ z)) (commas_push write xs x rest)

pub separated_push : {X : Type 0} (write : Writer X) (xs : List X) (x : X) (rest : List Token) → separated write (xs ++ x ∷ []) rest ≡ commas write xs (write x rest)
separated_push write [] x rest = refl
separated_push write (y ∷ []) x rest = refl
separated_push write (y ∷ z ∷ xs) x rest = ap (λ w. write y (Mark Comma ∷ w)) (separated_push write (z ∷ xs) x rest)

abbrev pub caret : Bool → List Token → List Token
caret except rest = if except then Mark Caret ∷ rest else rest

-- what was read of a list, before what is left
abbrev pub listing_tokens : {X P : Type 0} → Writer X → Writer P → Listing X P → List Token → List Token
listing_tokens write begun l rest = Mark OpenSquare ∷ caret l.except (commas write l.items (begun l.place rest))

listed_is : {X : Type 0} (write : Writer X) (e : Bool) (xs : List X) (x : X) (rest : List Token) → listed write e (xs ++ x ∷ []) rest ≡ Mark OpenSquare ∷ caret e (commas write xs (write x (Mark CloseSquare ∷ rest)))
listed_is write true xs x rest = ap (λ z. Mark OpenSquare ∷ Mark Caret ∷ z) (separated_push write xs x (Mark CloseSquare ∷ rest))
listed_is write false xs x rest = ap (λ z. Mark OpenSquare ∷ z) (separated_push write xs x (Mark CloseSquare ∷ rest))

-- a list of which nothing was read but its bracket has no element yet
pub record IsListing {X P : Type 0} (opened : P → Bool) (l : Listing X P) : Type 0 where
  pub items : opened l.place ≡ true → l.items ≡ []
  pub except : opened l.place ≡ true → l.except ≡ false

-- an element's places: what was read of it, and how it goes on
pub record ArePlaces {X P : Type 0} (write : Writer X) (begun : Writer P) (next : P → Token → Option P) (whole : P → Option X) (opened : P → Bool) (due : P) : Type 0 where
  pub step : (p q : P) (t : Token) (rest : List Token) → next p t ≡ Some q → begun q rest ≡ begun p (t ∷ rest)
  pub left : (p q : P) (t : Token) → next p t ≡ Some q → opened q ≡ false
  pub is : (p : P) (x : X) (rest : List Token) → whole p ≡ Some x → begun p rest ≡ write x rest
  pub nothing : (rest : List Token) → begun due rest ≡ rest
  pub fresh : (p : P) (rest : List Token) → opened p ≡ true → begun p rest ≡ rest
  pub due_left : opened due ≡ false

module _ {X P : Type 0} (write : Writer X) (begun : Writer P) (next : P → Token → Option P) (whole : P → Option X) (opened : P → Bool) (due : P)
    (places : ArePlaces write begun next whole opened due) where
  -- the list after a token: further in it, or at its end
  pub record Goes (l : Listing X P) (t : Token) (r : Listing X P × Bool) : Type 0 where
    pub on : r.1 ≡ false → ((rest : List Token) → listing_tokens write begun r.0 rest ≡ listing_tokens write begun l (t ∷ rest)) × IsListing opened r.0 × (opened r.0.place ≡ false) × (opened l.place ≡ false → r.0.except ≡ l.except)
    pub ends : r.1 ≡ true → ((rest : List Token) → listed write r.0.except r.0.items rest ≡ listing_tokens write begun l (t ∷ rest)) × (0 < length r.0.items) × (opened l.place ≡ false → r.0.except ≡ l.except)

  closed : (l : Listing X P) → opened l.place ≡ false → IsListing opened l
  closed l shut = record { items = λ k. cc; except = λ k. cc }

  moved : (l : Listing X P) (t : Token) (q : P) → next l.place t ≡ Some q → Goes l t (record { except = l.except; items = l.items; place = q }, false)
  moved l t q e = record {
    on = λ k. ((λ rest. ap (λ z. Mark OpenSquare ∷ caret l.except (commas write l.items z)) (places.step l.place q t rest e)), closed (record { except = l.except; items = l.items; place = q }) (places.left l.place q t e), places.left l.place q t e, (λ k. refl));
    ends = λ k. cc;
  }

  by_next : (l : Listing X P) (t : Token) (r : Listing X P × Bool) → option_map {U = Listing X P × Bool} (λ p. (record { except = l.except; items = l.items; place = p }, false)) (next l.place t) ≡ Some r → Goes l t r
  by_next l t r e =
      let found = map_some (λ p. (record { except = l.except; items = l.items; place = p }, false)) (next l.place t) r e in
      subst (Goes l t) found.2 (moved l t found.0 found.1)

  comma : (l : Listing X P) (x : X) → whole l.place ≡ Some x → Goes l (Mark Comma) (with_item l due x, false)
  comma l x e = record {
    on = λ k. ((λ rest. ap (λ z. Mark OpenSquare ∷ caret l.except z) (commas_push write l.items x (begun due rest) ∙ ap (λ z. commas write l.items (write x (Mark Comma ∷ z))) (places.nothing rest) ∙ ap (commas write l.items) (sym (places.is l.place x (Mark Comma ∷ rest) e)))), closed (with_item l due x) places.due_left, places.due_left, (λ k. refl));
    ends = λ k. cc;
  }

  close : (l : Listing X P) (x : X) → whole l.place ≡ Some x → Goes l (Mark CloseSquare) (with_item l due x, true)
  close l x e = record {
    on = λ k. cc;
    ends = λ k. ((λ rest. listed_is write l.except l.items x rest ∙ ap (λ z. Mark OpenSquare ∷ caret l.except (commas write l.items z)) (sym (places.is l.place x (Mark CloseSquare ∷ rest) e))), (let n : length (l.items ++ x ∷ []) ≡ length l.items + 1 = length-append l.items (x ∷ []) in omega arith), (λ k. refl));
  }

  first_caret : (l : Listing X P) → IsListing opened l → opened l.place ≡ true → Goes l (Mark Caret) (record { except = true; items = l.items; place = due }, false)
  first_caret l is first = record {
    on = λ k. (
      (λ rest. ap (λ z. Mark OpenSquare ∷ Mark Caret ∷ commas write z (begun due rest)) (is.items first) ∙ ap (λ z. Mark OpenSquare ∷ Mark Caret ∷ z) (places.nothing rest)
          ∙ sym (ap (λ z. Mark OpenSquare ∷ caret z (commas write l.items (begun l.place (Mark Caret ∷ rest)))) (is.except first) ∙ ap (λ z. Mark OpenSquare ∷ commas write z (begun l.place (Mark Caret ∷ rest))) (is.items first) ∙ ap (λ z. Mark OpenSquare ∷ z) (places.fresh l.place (Mark Caret ∷ rest) first))),
      closed (record { except = true; items = l.items; place = due }) places.due_left,
      places.due_left,
      (λ k. cc),
    );
    ends = λ k. cc;
  }

  pub goes : (l : Listing X P) (t : Token) (r : Listing X P × Bool) → IsListing opened l → after_in next whole opened due l t ≡ Some r → Goes l t r
  goes l (Word n) r is e = by_next l (Word n) r e
  goes l (AnyEnd at) r is e = by_next l (AnyEnd at) r e
  goes l (Mark Less) r is e = by_next l (Mark Less) r e
  goes l (Mark Greater) r is e = by_next l (Mark Greater) r e
  goes l (Mark OpenRound) r is e = by_next l (Mark OpenRound) r e
  goes l (Mark CloseRound) r is e = by_next l (Mark CloseRound) r e
  goes l (Mark OpenSquare) r is e = by_next l (Mark OpenSquare) r e
  goes l (Mark CloseSquare) r is e = let found = map_some (λ x. (with_item l due x, true)) (whole l.place) r e in subst (Goes l (Mark CloseSquare)) found.2 (close l found.0 found.1)
  goes l (Mark Hash) r is e = by_next l (Mark Hash) r e
  goes l (Mark Dot) r is e = by_next l (Mark Dot) r e
  goes l (Mark Comma) r is e = let found = map_some (λ x. (with_item l due x, false)) (whole l.place) r e in subst (Goes l (Mark Comma)) found.2 (comma l found.0 found.1)
  goes l (Mark Caret) r is e = let found = if_some (opened l.place) (record { except = true; items = l.items; place = due }, false) r e in subst (Goes l (Mark Caret)) found.1 (first_caret l is found.0)
  goes l (Mark Star) r is e = by_next l (Mark Star) r e
  goes l (Mark Plus) r is e = by_next l (Mark Plus) r e
  goes l (Mark Question) r is e = by_next l (Mark Question) r e
  goes l (Mark Bar) r is e = by_next l (Mark Bar) r e

-- names

abbrev pub name_begun : Writer NamePlace
name_begun name.Opened rest = rest
name_begun name.Due rest = rest
name_begun (name.Whole n) rest = Word n ∷ rest

name_step : (p q : NamePlace) (t : Token) → after_name p t ≡ Some q → ((rest : List Token) → name_begun q rest ≡ name_begun p (t ∷ rest)) × (is_opened_name q ≡ false)
name_step name.Opened q (Word n) e = let is : name.Whole n ≡ q = cc in subst (λ z. ((rest : List Token) → name_begun z rest ≡ Word n ∷ rest) × (is_opened_name z ≡ false)) is ((λ rest. refl), refl)
name_step name.Due q (Word n) e = let is : name.Whole n ≡ q = cc in subst (λ z. ((rest : List Token) → name_begun z rest ≡ Word n ∷ rest) × (is_opened_name z ≡ false)) is ((λ rest. refl), refl)
name_step (name.Whole m) q (Word n) e = cc
name_step name.Opened q (AnyEnd at) e = cc
name_step name.Opened q (Mark Less) e = cc
name_step name.Opened q (Mark Greater) e = cc
name_step name.Opened q (Mark OpenRound) e = cc
name_step name.Opened q (Mark CloseRound) e = cc
name_step name.Opened q (Mark OpenSquare) e = cc
name_step name.Opened q (Mark CloseSquare) e = cc
name_step name.Opened q (Mark Hash) e = cc
name_step name.Opened q (Mark Dot) e = cc
name_step name.Opened q (Mark Comma) e = cc
name_step name.Opened q (Mark Caret) e = cc
name_step name.Opened q (Mark Star) e = cc
name_step name.Opened q (Mark Plus) e = cc
name_step name.Opened q (Mark Question) e = cc
name_step name.Opened q (Mark Bar) e = cc
name_step name.Due q (AnyEnd at) e = cc
name_step name.Due q (Mark Less) e = cc
name_step name.Due q (Mark Greater) e = cc
name_step name.Due q (Mark OpenRound) e = cc
name_step name.Due q (Mark CloseRound) e = cc
name_step name.Due q (Mark OpenSquare) e = cc
name_step name.Due q (Mark CloseSquare) e = cc
name_step name.Due q (Mark Hash) e = cc
name_step name.Due q (Mark Dot) e = cc
name_step name.Due q (Mark Comma) e = cc
name_step name.Due q (Mark Caret) e = cc
name_step name.Due q (Mark Star) e = cc
name_step name.Due q (Mark Plus) e = cc
name_step name.Due q (Mark Question) e = cc
name_step name.Due q (Mark Bar) e = cc
name_step (name.Whole m) q (AnyEnd at) e = cc
name_step (name.Whole m) q (Mark Less) e = cc
name_step (name.Whole m) q (Mark Greater) e = cc
name_step (name.Whole m) q (Mark OpenRound) e = cc
name_step (name.Whole m) q (Mark CloseRound) e = cc
name_step (name.Whole m) q (Mark OpenSquare) e = cc
name_step (name.Whole m) q (Mark CloseSquare) e = cc
name_step (name.Whole m) q (Mark Hash) e = cc
name_step (name.Whole m) q (Mark Dot) e = cc
name_step (name.Whole m) q (Mark Comma) e = cc
name_step (name.Whole m) q (Mark Caret) e = cc
name_step (name.Whole m) q (Mark Star) e = cc
name_step (name.Whole m) q (Mark Plus) e = cc
name_step (name.Whole m) q (Mark Question) e = cc
name_step (name.Whole m) q (Mark Bar) e = cc

name_is : (p : NamePlace) (n : Named) (rest : List Token) → whole_name p ≡ Some n → name_begun p rest ≡ name_tokens n rest
name_is name.Opened n rest e = cc
name_is name.Due n rest e = cc
name_is (name.Whole m) n rest e = (let is : m ≡ n = cc in ap (λ z. Word z ∷ rest) is)

name_fresh : (p : NamePlace) (rest : List Token) → is_opened_name p ≡ true → name_begun p rest ≡ rest
name_fresh name.Opened rest e = refl
name_fresh name.Due rest e = cc
name_fresh (name.Whole m) rest e = cc

pub name_places : ArePlaces name_tokens name_begun after_name whole_name is_opened_name name.Due
name_places = record { step = λ p q t rest e. (name_step p q t e).0 rest; left = λ p q t e. (name_step p q t e).1; is = name_is; nothing = λ rest. refl; fresh = name_fresh; due_left = refl }

-- pairs

abbrev pub pair_begun : Writer PairPlace
pair_begun pair.Opened rest = rest
pair_begun pair.Due rest = rest
pair_begun (pair.FromRouter n) rest = Word n ∷ rest
pair_begun (pair.FromInterfaceDue n) rest = Word n ∷ Mark Dot ∷ rest
pair_begun (pair.HashDue from) rest = end_tokens from rest
pair_begun (pair.ToDue from) rest = end_tokens from (Mark Hash ∷ rest)
pair_begun (pair.ToRouter from n) rest = end_tokens from (Mark Hash ∷ Word n ∷ rest)
pair_begun (pair.ToInterfaceDue from n) rest = end_tokens from (Mark Hash ∷ Word n ∷ Mark Dot ∷ rest)
pair_begun (pair.Whole p) rest = pair_tokens p rest

abbrev PairStep : PairPlace → Token → PairPlace → Type 0
PairStep p t q = ((rest : List Token) → pair_begun q rest ≡ pair_begun p (t ∷ rest)) × (is_opened_pair q ≡ false)

to_pair : (p q r : PairPlace) (t : Token) → Some q ≡ Some r → PairStep p t q → PairStep p t r
to_pair p q r t e h = let is : q ≡ r = cc in subst (PairStep p t) is h

pair_step : (p q : PairPlace) (t : Token) → after_pair p t ≡ Some q → PairStep p t q
pair_step pair.Opened q (Word n) e = to_pair pair.Opened (pair.FromRouter n) q (Word n) e ((λ rest. refl), refl)
pair_step pair.Opened q (AnyEnd at) e = to_pair pair.Opened (pair.HashDue (end.Any at)) q (AnyEnd at) e ((λ rest. refl), refl)
pair_step pair.Opened q (Mark Less) e = cc
pair_step pair.Opened q (Mark Greater) e = cc
pair_step pair.Opened q (Mark OpenRound) e = cc
pair_step pair.Opened q (Mark CloseRound) e = cc
pair_step pair.Opened q (Mark OpenSquare) e = cc
pair_step pair.Opened q (Mark CloseSquare) e = cc
pair_step pair.Opened q (Mark Hash) e = cc
pair_step pair.Opened q (Mark Dot) e = cc
pair_step pair.Opened q (Mark Comma) e = cc
pair_step pair.Opened q (Mark Caret) e = cc
pair_step pair.Opened q (Mark Star) e = cc
pair_step pair.Opened q (Mark Plus) e = cc
pair_step pair.Opened q (Mark Question) e = cc
pair_step pair.Opened q (Mark Bar) e = cc
pair_step pair.Due q (Word n) e = to_pair pair.Due (pair.FromRouter n) q (Word n) e ((λ rest. refl), refl)
pair_step pair.Due q (AnyEnd at) e = to_pair pair.Due (pair.HashDue (end.Any at)) q (AnyEnd at) e ((λ rest. refl), refl)
pair_step pair.Due q (Mark Less) e = cc
pair_step pair.Due q (Mark Greater) e = cc
pair_step pair.Due q (Mark OpenRound) e = cc
pair_step pair.Due q (Mark CloseRound) e = cc
pair_step pair.Due q (Mark OpenSquare) e = cc
pair_step pair.Due q (Mark CloseSquare) e = cc
pair_step pair.Due q (Mark Hash) e = cc
pair_step pair.Due q (Mark Dot) e = cc
pair_step pair.Due q (Mark Comma) e = cc
pair_step pair.Due q (Mark Caret) e = cc
pair_step pair.Due q (Mark Star) e = cc
pair_step pair.Due q (Mark Plus) e = cc
pair_step pair.Due q (Mark Question) e = cc
pair_step pair.Due q (Mark Bar) e = cc
pair_step (pair.FromRouter m) q (Word n) e = cc
pair_step (pair.FromRouter m) q (AnyEnd at) e = cc
pair_step (pair.FromRouter m) q (Mark Less) e = cc
pair_step (pair.FromRouter m) q (Mark Greater) e = cc
pair_step (pair.FromRouter m) q (Mark OpenRound) e = cc
pair_step (pair.FromRouter m) q (Mark CloseRound) e = cc
pair_step (pair.FromRouter m) q (Mark OpenSquare) e = cc
pair_step (pair.FromRouter m) q (Mark CloseSquare) e = cc
pair_step (pair.FromRouter m) q (Mark Hash) e = to_pair (pair.FromRouter m) (pair.ToDue (end.Router m)) q (Mark Hash) e ((λ rest. refl), refl)
pair_step (pair.FromRouter m) q (Mark Dot) e = to_pair (pair.FromRouter m) (pair.FromInterfaceDue m) q (Mark Dot) e ((λ rest. refl), refl)
pair_step (pair.FromRouter m) q (Mark Comma) e = cc
pair_step (pair.FromRouter m) q (Mark Caret) e = cc
pair_step (pair.FromRouter m) q (Mark Star) e = cc
pair_step (pair.FromRouter m) q (Mark Plus) e = cc
pair_step (pair.FromRouter m) q (Mark Question) e = cc
pair_step (pair.FromRouter m) q (Mark Bar) e = cc
pair_step (pair.FromInterfaceDue m) q (Word n) e = to_pair (pair.FromInterfaceDue m) (pair.HashDue (end.Interface m n)) q (Word n) e ((λ rest. refl), refl)
pair_step (pair.FromInterfaceDue m) q (AnyEnd at) e = cc
pair_step (pair.FromInterfaceDue m) q (Mark Less) e = cc
pair_step (pair.FromInterfaceDue m) q (Mark Greater) e = cc
pair_step (pair.FromInterfaceDue m) q (Mark OpenRound) e = cc
pair_step (pair.FromInterfaceDue m) q (Mark CloseRound) e = cc
pair_step (pair.FromInterfaceDue m) q (Mark OpenSquare) e = cc
pair_step (pair.FromInterfaceDue m) q (Mark CloseSquare) e = cc
pair_step (pair.FromInterfaceDue m) q (Mark Hash) e = cc
pair_step (pair.FromInterfaceDue m) q (Mark Dot) e = cc
pair_step (pair.FromInterfaceDue m) q (Mark Comma) e = cc
pair_step (pair.FromInterfaceDue m) q (Mark Caret) e = cc
pair_step (pair.FromInterfaceDue m) q (Mark Star) e = cc
pair_step (pair.FromInterfaceDue m) q (Mark Plus) e = cc
pair_step (pair.FromInterfaceDue m) q (Mark Question) e = cc
pair_step (pair.FromInterfaceDue m) q (Mark Bar) e = cc
pair_step (pair.HashDue from) q (Word n) e = cc
pair_step (pair.HashDue from) q (AnyEnd at) e = cc
pair_step (pair.HashDue from) q (Mark Less) e = cc
pair_step (pair.HashDue from) q (Mark Greater) e = cc
pair_step (pair.HashDue from) q (Mark OpenRound) e = cc
pair_step (pair.HashDue from) q (Mark CloseRound) e = cc
pair_step (pair.HashDue from) q (Mark OpenSquare) e = cc
pair_step (pair.HashDue from) q (Mark CloseSquare) e = cc
pair_step (pair.HashDue from) q (Mark Hash) e = to_pair (pair.HashDue from) (pair.ToDue from) q (Mark Hash) e ((λ rest. refl), refl)
pair_step (pair.HashDue from) q (Mark Dot) e = cc
pair_step (pair.HashDue from) q (Mark Comma) e = cc
pair_step (pair.HashDue from) q (Mark Caret) e = cc
pair_step (pair.HashDue from) q (Mark Star) e = cc
pair_step (pair.HashDue from) q (Mark Plus) e = cc
pair_step (pair.HashDue from) q (Mark Question) e = cc
pair_step (pair.HashDue from) q (Mark Bar) e = cc
pair_step (pair.ToDue from) q (Word n) e = to_pair (pair.ToDue from) (pair.ToRouter from n) q (Word n) e ((λ rest. refl), refl)
pair_step (pair.ToDue from) q (AnyEnd at) e = to_pair (pair.ToDue from) (pair.Whole (record { from = from; to = end.Any at })) q (AnyEnd at) e ((λ rest. refl), refl)
pair_step (pair.ToDue from) q (Mark Less) e = cc
pair_step (pair.ToDue from) q (Mark Greater) e = cc
pair_step (pair.ToDue from) q (Mark OpenRound) e = cc
pair_step (pair.ToDue from) q (Mark CloseRound) e = cc
pair_step (pair.ToDue from) q (Mark OpenSquare) e = cc
pair_step (pair.ToDue from) q (Mark CloseSquare) e = cc
pair_step (pair.ToDue from) q (Mark Hash) e = cc
pair_step (pair.ToDue from) q (Mark Dot) e = cc
pair_step (pair.ToDue from) q (Mark Comma) e = cc
pair_step (pair.ToDue from) q (Mark Caret) e = cc
pair_step (pair.ToDue from) q (Mark Star) e = cc
pair_step (pair.ToDue from) q (Mark Plus) e = cc
pair_step (pair.ToDue from) q (Mark Question) e = cc
pair_step (pair.ToDue from) q (Mark Bar) e = cc
pair_step (pair.ToRouter from m) q (Word n) e = cc
pair_step (pair.ToRouter from m) q (AnyEnd at) e = cc
pair_step (pair.ToRouter from m) q (Mark Less) e = cc
pair_step (pair.ToRouter from m) q (Mark Greater) e = cc
pair_step (pair.ToRouter from m) q (Mark OpenRound) e = cc
pair_step (pair.ToRouter from m) q (Mark CloseRound) e = cc
pair_step (pair.ToRouter from m) q (Mark OpenSquare) e = cc
pair_step (pair.ToRouter from m) q (Mark CloseSquare) e = cc
pair_step (pair.ToRouter from m) q (Mark Hash) e = cc
pair_step (pair.ToRouter from m) q (Mark Dot) e = to_pair (pair.ToRouter from m) (pair.ToInterfaceDue from m) q (Mark Dot) e ((λ rest. refl), refl)
pair_step (pair.ToRouter from m) q (Mark Comma) e = cc
pair_step (pair.ToRouter from m) q (Mark Caret) e = cc
pair_step (pair.ToRouter from m) q (Mark Star) e = cc
pair_step (pair.ToRouter from m) q (Mark Plus) e = cc
pair_step (pair.ToRouter from m) q (Mark Question) e = cc
pair_step (pair.ToRouter from m) q (Mark Bar) e = cc
pair_step (pair.ToInterfaceDue from m) q (Word n) e = to_pair (pair.ToInterfaceDue from m) (pair.Whole (record { from = from; to = end.Interface m n })) q (Word n) e ((λ rest. refl), refl)
pair_step (pair.ToInterfaceDue from m) q (AnyEnd at) e = cc
pair_step (pair.ToInterfaceDue from m) q (Mark Less) e = cc
pair_step (pair.ToInterfaceDue from m) q (Mark Greater) e = cc
pair_step (pair.ToInterfaceDue from m) q (Mark OpenRound) e = cc
pair_step (pair.ToInterfaceDue from m) q (Mark CloseRound) e = cc
pair_step (pair.ToInterfaceDue from m) q (Mark OpenSquare) e = cc
pair_step (pair.ToInterfaceDue from m) q (Mark CloseSquare) e = cc
pair_step (pair.ToInterfaceDue from m) q (Mark Hash) e = cc
pair_step (pair.ToInterfaceDue from m) q (Mark Dot) e = cc
pair_step (pair.ToInterfaceDue from m) q (Mark Comma) e = cc
pair_step (pair.ToInterfaceDue from m) q (Mark Caret) e = cc
pair_step (pair.ToInterfaceDue from m) q (Mark Star) e = cc
pair_step (pair.ToInterfaceDue from m) q (Mark Plus) e = cc
pair_step (pair.ToInterfaceDue from m) q (Mark Question) e = cc
pair_step (pair.ToInterfaceDue from m) q (Mark Bar) e = cc
pair_step (pair.Whole w) q (Word n) e = cc
pair_step (pair.Whole w) q (AnyEnd at) e = cc
pair_step (pair.Whole w) q (Mark Less) e = cc
pair_step (pair.Whole w) q (Mark Greater) e = cc
pair_step (pair.Whole w) q (Mark OpenRound) e = cc
pair_step (pair.Whole w) q (Mark CloseRound) e = cc
pair_step (pair.Whole w) q (Mark OpenSquare) e = cc
pair_step (pair.Whole w) q (Mark CloseSquare) e = cc
pair_step (pair.Whole w) q (Mark Hash) e = cc
pair_step (pair.Whole w) q (Mark Dot) e = cc
pair_step (pair.Whole w) q (Mark Comma) e = cc
pair_step (pair.Whole w) q (Mark Caret) e = cc
pair_step (pair.Whole w) q (Mark Star) e = cc
pair_step (pair.Whole w) q (Mark Plus) e = cc
pair_step (pair.Whole w) q (Mark Question) e = cc
pair_step (pair.Whole w) q (Mark Bar) e = cc

pair_is : (p : PairPlace) (x : Pair) (rest : List Token) → whole_pair p ≡ Some x → pair_begun p rest ≡ pair_tokens x rest
pair_is pair.Opened x rest e = cc
pair_is pair.Due x rest e = cc
pair_is (pair.FromRouter m) x rest e = cc
pair_is (pair.FromInterfaceDue m) x rest e = cc
pair_is (pair.HashDue from) x rest e = cc
pair_is (pair.ToDue from) x rest e = cc
pair_is (pair.ToRouter from m) x rest e = (let is : record { from = from; to = end.Router m } ≡ x = cc in ap (λ z. pair_tokens z rest) is)
pair_is (pair.ToInterfaceDue from m) x rest e = cc
pair_is (pair.Whole w) x rest e = (let is : w ≡ x = cc in ap (λ z. pair_tokens z rest) is)

pair_fresh : (p : PairPlace) (rest : List Token) → is_opened_pair p ≡ true → pair_begun p rest ≡ rest
pair_fresh pair.Opened rest e = refl
pair_fresh pair.Due rest e = cc
pair_fresh (pair.FromRouter m) rest e = cc
pair_fresh (pair.FromInterfaceDue m) rest e = cc
pair_fresh (pair.HashDue from) rest e = cc
pair_fresh (pair.ToDue from) rest e = cc
pair_fresh (pair.ToRouter from m) rest e = cc
pair_fresh (pair.ToInterfaceDue from m) rest e = cc
pair_fresh (pair.Whole w) rest e = cc

pub pair_places : ArePlaces pair_tokens pair_begun after_pair whole_pair is_opened_pair pair.Due
pair_places = record { step = λ p q t rest e. (pair_step p q t e).0 rest; left = λ p q t e. (pair_step p q t e).1; is = pair_is; nothing = λ rest. refl; fresh = pair_fresh; due_left = refl }

pub no_names_listing : IsListing is_opened_name no_names
no_names_listing = record { items = λ e. refl; except = λ e. refl }

pub no_pairs_listing : IsListing is_opened_pair no_pairs
no_pairs_listing = record { items = λ e. refl; except = λ e. refl }

pub no_known_listing : IsListing is_opened_pair no_known
no_known_listing = record { items = λ e. refl; except = λ e. refl }
