-- What lines say, computed.
use Rattle.std.proofs.Common.{◌≡◌, true, false, [], ◌∷◌, ◌++◌, codes, Some, None, refl}
use Rattle.wi_world.specs.declared.answer.Word.TheVariants.{Yes, No}
use Rattle.wi_policy.specs.Line.{says_nothing, statement_in}

-- the query keeps its place, and white space behind it is the query's own
named : statement_in (codes "yes a b <ip> . <ip> 0\r") ≡ Some (record { word = Yes; name = codes "a b"; query = codes "        <ip> . <ip> 0\r" })
named = refl

-- what is blank before the word and around the name is passed over
blanks : statement_in (codes " \tno\ta \t<ip>") ≡ Some (record { word = No; name = codes "a"; query = codes "        <ip>" })
blanks = refl

-- a character of two bytes takes two spaces
past_ascii : statement_in (codes "yes " ++ 195 ∷ 169 ∷ codes "<ip>") ≡ Some (record { word = Yes; name = 195 ∷ 169 ∷ []; query = codes "      <ip>" })
past_ascii = refl

-- the name may be empty, and a word needs nothing behind it that isn't plain
nameless : statement_in (codes "no<ip>") ≡ Some (record { word = No; name = []; query = codes "  <ip>" })
nameless = refl

another_word : statement_in (codes "yesterday <ip>") ≡ None
another_word = refl

no_word : statement_in (codes "maybe <ip>") ≡ None
no_word = refl

no_query : statement_in (codes "yes a") ≡ None
no_query = refl

-- a form feed isn't blank, and no name has one
form_feed : statement_in (codes "yes a\u{c}<ip>") ≡ None
form_feed = refl

nothing : says_nothing (codes " \t\r") ≡ true
nothing = refl

comment : says_nothing (codes " # yes <ip>") ≡ true
comment = refl

something : says_nothing (codes "\u{c}") ≡ false
something = refl
