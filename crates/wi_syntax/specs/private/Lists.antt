-- How a list between brackets is read, element by element.
use Rattle.std.specs.Prelude.{Bool, true, false, if◌then◌else◌, List, [], ◌∷◌, ◌++◌, Option, Some, None}
use Rattle.std.specs.Option.{option_map}
use Rattle.wi_syntax.specs.Names.{Named}
use Rattle.wi_syntax.specs.declared.token.Mark.TheVariants.{CloseSquare, Hash, Dot, Comma, Caret}
use Rattle.wi_syntax.specs.declared.token.Token.{Token}
use Rattle.wi_syntax.specs.declared.token.Token.TheVariants.{Mark, AnyEnd, Word}
use Rattle.wi_syntax.specs.declared.written.End.TheVariants as end
use Rattle.wi_syntax.specs.declared.written.Pair.{Pair}
use Rattle.wi_syntax.specs.declared.places.NamePlace.{NamePlace}
use Rattle.wi_syntax.specs.declared.places.NamePlace.TheVariants as name
use Rattle.wi_syntax.specs.declared.places.Way.{Way}
use Rattle.wi_syntax.specs.declared.places.Way.TheVariants.{On, Ends, Nowhere}
use Rattle.wi_syntax.specs.declared.places.PairPlace.{PairPlace}
use Rattle.wi_syntax.specs.declared.places.PairPlace.TheVariants as pair

-- the place after one more token of a list of names, or of one of pairs; commas and brackets apart
abbrev pub after_name : NamePlace → Token → Option NamePlace
after_name name.Opened (Word n) = Some (name.Whole n)
after_name name.Due (Word n) = Some (name.Whole n)
after_name _ _ = None

abbrev pub after_pair : PairPlace → Token → Option PairPlace
after_pair pair.Opened (AnyEnd at) = Some (pair.HashDue (end.Any at))
after_pair pair.Opened (Word n) = Some (pair.FromRouter n)
after_pair pair.Due (AnyEnd at) = Some (pair.HashDue (end.Any at))
after_pair pair.Due (Word n) = Some (pair.FromRouter n)
after_pair (pair.FromRouter n) (Mark Dot) = Some (pair.FromInterfaceDue n)
after_pair (pair.FromRouter n) (Mark Hash) = Some (pair.ToDue (end.Router n))
after_pair (pair.FromInterfaceDue n) (Word i) = Some (pair.HashDue (end.Interface n i))
after_pair (pair.HashDue from) (Mark Hash) = Some (pair.ToDue from)
after_pair (pair.ToDue from) (AnyEnd at) = Some (pair.Whole (record { from = from; to = end.Any at }))
after_pair (pair.ToDue from) (Word n) = Some (pair.ToRouter from n)
after_pair (pair.ToRouter from n) (Mark Dot) = Some (pair.ToInterfaceDue from n)
after_pair (pair.ToInterfaceDue from n) (Word i) = Some (pair.Whole (record { from = from; to = end.Interface n i }))
after_pair _ _ = None

-- an end of a pair may begin
abbrev pub is_end_due : PairPlace → Bool
is_end_due pair.Opened = true
is_end_due pair.Due = true
is_end_due (pair.ToDue from) = true
is_end_due _ = false

-- the element that is whole at a place
abbrev pub whole_name : NamePlace → Option Named
whole_name (name.Whole n) = Some n
whole_name _ = None

abbrev pub whole_pair : PairPlace → Option Pair
whole_pair (pair.ToRouter from n) = Some (record { from = from; to = end.Router n })
whole_pair (pair.Whole p) = Some p
whole_pair _ = None

-- a list that is being read: whether all but its elements are meant, those that are whole, and the place in the next one
pub record Listing (X P : Type 0) : Type 0 where
  pub except : Bool
  pub items : List X
  pub place : P

abbrev pub NameListing : Type 0
NameListing = Listing Named NamePlace

abbrev pub PairListing : Type 0
PairListing = Listing Pair PairPlace

-- a list with one more element
abbrev pub with_item : {X P : Type 0} → Listing X P → P → X → Listing X P
with_item l due x = record { except = l.except; items = l.items ++ x ∷ []; place = due }

-- the list after one more token, and whether it ends there: next tells where an element goes on, whole what it is at a
-- place where it is whole, opened where nothing was read of the list, and at due the next element begins
abbrev pub after_in : {X P : Type 0} → (P → Token → Option P) → (P → Option X) → (P → Bool) → P → Listing X P → Token → Option (Listing X P × Bool)
after_in next whole opened due l (Mark Comma) = option_map (λ x. (with_item l due x, false)) (whole l.place)
after_in next whole opened due l (Mark CloseSquare) = option_map (λ x. (with_item l due x, true)) (whole l.place)
after_in next whole opened due l (Mark Caret) = if opened l.place then Some (record { except = true; items = l.items; place = due }, false) else None
after_in next whole opened due l t = option_map (λ p. (record { except = l.except; items = l.items; place = p }, false)) (next l.place t)

abbrev pub is_opened_name : NamePlace → Bool
is_opened_name name.Opened = true
is_opened_name _ = false

abbrev pub is_opened_pair : PairPlace → Bool
is_opened_pair pair.Opened = true
is_opened_pair _ = false

abbrev pub after_in_names : NameListing → Token → Option (NameListing × Bool)
after_in_names = after_in after_name whole_name is_opened_name name.Due

abbrev pub after_in_pairs : PairListing → Token → Option (PairListing × Bool)
after_in_pairs = after_in after_pair whole_pair is_opened_pair pair.Due

-- what a way means for a list: it goes on as it is now, or ends so, or nowhere
abbrev pub outcome : {L : Type 0} → L → Way → Option (L × Bool)
outcome l On = Some (l, false)
outcome l Ends = Some (l, true)
outcome l Nowhere = None

-- a list of which nothing was read but its bracket
abbrev pub no_names : NameListing
no_names = record { except = false; items = []; place = name.Opened }

-- the same of pairs, where `^` may come and where it may not
abbrev pub no_pairs : PairListing
no_pairs = record { except = false; items = []; place = pair.Opened }

abbrev pub no_known : PairListing
no_known = record { except = false; items = []; place = pair.Due }
