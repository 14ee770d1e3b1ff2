-- Whether a text is some tokens of a query, with a byte of white space before a token or none, as a test that computes.
use Rattle.std.proofs.Common.{◌≡◌, ℕ, ◌+◌, Bool, true, List, [], ◌∷◌, ◌++◌, length, take, drop, sym, ap, ◌∙◌}
use Rattle.std.specs.Prelude.{◌&&◌, ◌==◌, if◌then◌else◌}
use Rattle.std.specs.List.{list_all}
use Rattle.std.specs.Str.{bytes_eq}
use Rattle.std.proofs.lemmas.Bool.{and_parts, eqb-true}
use Rattle.std.proofs.lemmas.List.{take-append-drop}
use Rattle.std.proofs.lemmas.Slice.Eq.{bytes_eq-Decides}
use Rattle.wi_text.specs.Characters.{is_space, begins_with}
use Rattle.wi_text.specs.Spelling.{Spells}
use Rattle.wi_syntax.specs.declared.token.Token.{Token}
use Rattle.wi_syntax.specs.declared.token.Token.TheVariants as token
use Rattle.wi_syntax.specs.Tokens.{spelling, is_word, IsToken}

-- what a token may be at a byte, before the rest of a text
abbrev pub is_token : ℕ → Token → List ℕ → Bool
is_token at (token.Mark m) rest = true
is_token at (token.AnyEnd n) rest = n == at
is_token at (token.Word n) rest = (n.at == at) && is_word n rest

-- white space, these bytes and the rest begin with a token
abbrev pub stands : ℕ → Token → List ℕ → List ℕ → List ℕ → Bool
stands at t space bytes rest = list_all is_space space && (bytes_eq bytes (spelling t) && is_token (at + length space) t rest)

-- how much white space is taken
abbrev pub gap : List ℕ → ℕ
gap text = if begins_with is_space text then 1 else 0

-- a text without that, and without the token behind it
abbrev pub bared : List ℕ → List ℕ
bared text = drop (gap text) text

abbrev pub past : Token → List ℕ → List ℕ
past t text = drop (length (spelling t)) (bared text)

-- from a byte of the text on it is these tokens
abbrev pub are_tokens : ℕ → List Token → List ℕ → Bool
are_tokens at [] text = list_all is_space text
are_tokens at (t ∷ ts) text =
    stands at t (take (gap text) text) (take (length (spelling t)) (bared text)) (past t text)
    && are_tokens (at + length (take (gap text) text) + length (spelling t)) ts (past t text)

-- ---- the test is right

token_is : (at : ℕ) (t : Token) (rest : List ℕ) → is_token at t rest ≡ true → IsToken at t rest
token_is at (token.Mark m) rest is = tt
token_is at (token.AnyEnd n) rest is = eqb-true n at is
token_is at (token.Word n) rest is = let parts = and_parts (n.at == at) (is_word n rest) is in (eqb-true n.at at parts.0, parts.1)

first_is : (at : ℕ) (t : Token) (ts : List Token) (text space behind bytes rest : List ℕ)
    → space ++ behind ≡ text → bytes ++ rest ≡ behind → stands at t space bytes rest ≡ true
    → Spells spelling IsToken (at + length space + length (spelling t)) ts rest → Spells spelling IsToken at (t ∷ ts) text
first_is at t ts text space behind bytes rest whole split is more =
    let parts = and_parts (list_all is_space space) (bytes_eq bytes (spelling t) && is_token (at + length space) t rest) is in
    let here = and_parts (bytes_eq bytes (spelling t)) (is_token (at + length space) t rest) parts.1 in
    let same : bytes ≡ spelling t = (bytes_eq-Decides bytes (spelling t)).0 here.0 in
    let begins : text ≡ space ++ (spelling t ++ rest) = sym whole ∙ ap (λ z. space ++ z) (sym split ∙ ap (λ z. z ++ rest) same) in
    (space, rest, parts.0, begins, token_is (at + length space) t rest here.1, more)

pub spelled : (ts : List Token) (at : ℕ) (text : List ℕ) → are_tokens at ts text ≡ true → Spells spelling IsToken at ts text
spelled [] at text are = are
spelled (t ∷ ts) at text are =
    let space : List ℕ = take (gap text) text in
    let bytes : List ℕ = take (length (spelling t)) (bared text) in
    let next : ℕ = at + length space + length (spelling t) in
    let parts = and_parts (stands at t space bytes (past t text)) (are_tokens next ts (past t text)) are in
    let whole : space ++ bared text ≡ text = take-append-drop (gap text) text in
    let split : bytes ++ past t text ≡ bared text = take-append-drop (length (spelling t)) (bared text) in
    first_is at t ts text space (bared text) bytes (past t text) whole split parts.0 (spelled ts next (past t text) parts.1)
