-- Atoms, and how they are written.
--
--     label atom = "." | name | "[" [ "^" ] name { "," name } "]"
--     link atom  = "." | "[" [ "^" ] pair { "," pair } "]"
--     pair       = end "#" end
--     end        = "." | name [ "." name ]
use Rattle.std.specs.Prelude.{ℕ, Bool, true, nat_lt, List, [], ◌∷◌, length, if◌then◌else◌}
use Rattle.wi_syntax.specs.Names.{Named}
use Rattle.wi_syntax.specs.declared.token.Mark.TheVariants.{OpenSquare, CloseSquare, Hash, Dot, Comma, Caret}
use Rattle.wi_syntax.specs.declared.token.Token.{Token}
use Rattle.wi_syntax.specs.declared.token.Token.TheVariants.{Mark, AnyEnd, Word}
use Rattle.wi_syntax.specs.declared.written.LabelAtom.{LabelAtom}
use Rattle.wi_syntax.specs.declared.written.LabelAtom.TheVariants as label
use Rattle.wi_syntax.specs.declared.written.End.{End}
use Rattle.wi_syntax.specs.declared.written.End.TheVariants as end
use Rattle.wi_syntax.specs.declared.written.Pair.{Pair}
use Rattle.wi_syntax.specs.declared.written.LinkAtom.{LinkAtom}
use Rattle.wi_syntax.specs.declared.written.LinkAtom.TheVariants as link

-- the tokens of something, before other tokens
abbrev pub Writer : Type 0 → Type 0
Writer X = X → List Token → List Token

-- with commas between them
abbrev pub separated : {X : Type 0} → Writer X → List X → List Token → List Token
separated write [] rest = rest
separated write (x ∷ []) rest = write x rest
separated write (x ∷ y ∷ xs) rest = write x (Mark Comma ∷ separated write (y ∷ xs) rest)

-- between brackets, and with `^` in front where all but these are meant
abbrev pub listed : {X : Type 0} → Writer X → Bool → List X → List Token → List Token
listed write except xs rest =
    Mark OpenSquare ∷ (if except then Mark Caret ∷ separated write xs (Mark CloseSquare ∷ rest) else separated write xs (Mark CloseSquare ∷ rest))

abbrev pub name_tokens : Writer Named
name_tokens name rest = Word name ∷ rest

abbrev pub label_tokens : Writer LabelAtom
label_tokens label.Any rest = Mark Dot ∷ rest
label_tokens (label.Name name) rest = Word name ∷ rest
label_tokens (label.List except names) rest = listed name_tokens except names rest

abbrev pub end_tokens : Writer End
end_tokens (end.Any at) rest = AnyEnd at ∷ rest
end_tokens (end.Router router) rest = Word router ∷ rest
end_tokens (end.Interface router interface) rest = Word router ∷ Mark Dot ∷ Word interface ∷ rest

abbrev pub pair_tokens : Writer Pair
pair_tokens pair rest = end_tokens pair.from (Mark Hash ∷ end_tokens pair.to rest)

-- the byte where an end begins, and where a pair does
abbrev pub end_at : End → ℕ
end_at (end.Any at) = at
end_at (end.Router router) = router.at
end_at (end.Interface router interface) = router.at

abbrev pub pair_at : Pair → ℕ
pair_at pair = end_at pair.from

abbrev pub link_tokens : Writer LinkAtom
link_tokens link.Any rest = Mark Dot ∷ rest
link_tokens (link.List except pairs) rest = listed pair_tokens except pairs rest

-- a list has an element
abbrev pub is_label_atom : LabelAtom → Bool
is_label_atom (label.List except names) = nat_lt 0 (length names)
is_label_atom atom = true

abbrev pub is_link_atom : LinkAtom → Bool
is_link_atom (link.List except pairs) = nat_lt 0 (length pairs)
is_link_atom link.Any = true
