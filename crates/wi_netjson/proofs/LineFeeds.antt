-- A line feed at the end of a file changes nothing that is read of it.
use Rattle.std.proofs.Common.{◌≡◌, ℕ, zero, suc, ◌+◌, ◌-◌, ◌<◌, Bool, true, false, not, cond, ◌&&◌, ◌||◌, ◌==◌, nat_eq, nat_lt, List, [], ◌∷◌, ◌++◌, length, drop, get_or, Option, Some, None, option_map, option_and_then, codes, refl, ap, subst, ◌∙◌, arith, length-append, take_at, le-leb}
use Rattle.std.specs.Char.{is_ascii_digit, is_digit, encode_utf8}
use Rattle.std.specs.List.{prefix_len, starts_with, list_all}
use Rattle.std.specs.Str.{IsUtf8, is_utf8}
use Rattle.std.proofs.lemmas.Bool.{and_parts, and_right, not-true}
use Rattle.std.proofs.lemmas.Bool.Decides.{same_from_decides}
use Rattle.std.proofs.lemmas.List.{take-append-le, drop-append-le}
use Rattle.std.proofs.lemmas.List.Sums.{prefix_len-le-length}
use Rattle.std.proofs.lemmas.Str.{IsUtf8-append, IsUtf8-from_ascii, IsUtf8-take, IsCharBoundary-at_seam, IsUtf8-from_is_utf8, is_utf8-from_IsUtf8}
use Rattle.json.specs.Ascii as ascii
use Rattle.json.specs.Token.{Token, boolean, null, bad}
use Rattle.json.specs.Text.{code_unit, short_escape, is_high_surrogate, is_low_surrogate, surrogate_pair, Within, plain, after_backslash, after_u, after_high, prepend, content}
use Rattle.json.specs.Word.{ends_word, after_digits, after_minus, after_sign, after_whole, after_fraction, after_exponent, after_number, number_before, literal, word}
use Rattle.json.specs.Lex.{Lexeme, Class, Mode, token, quote, other, class, string_token, between, in_word, in_string, in_escape, lex_byte, lex}
use Rattle.serde_json.specs.Read.{read}
use Rattle.wi_netjson.specs.File.{json_of, network_of}

abbrev feed : List ℕ
feed = ascii.line_feed ∷ []

abbrev with_feed : List ℕ → List ℕ
with_feed text = text ++ feed

-- what a part of a number leaves of its text, with a line feed behind it
abbrev rest_with_feed : Option (List ℕ) → Option (List ℕ)
rest_with_feed rest = option_map with_feed rest

-- a function of both sides of a test
each_side : {A B : Type 0} (f : A → B) (b : Bool) (x y : A) → cond b (f x) (f y) ≡ f (cond b x y)
each_side f true x y = refl
each_side f false x y = refl

same_sides : {A : Type 0} (b : Bool) (x : A) → cond b x x ≡ x
same_sides true x = refl
same_sides false x = refl

-- ---- UTF-8

feed_is_utf8 : IsUtf8 feed
feed_is_utf8 = IsUtf8-from_ascii feed below
  where
    below : (i : ℕ) → get_or feed i 0 < 128
    below zero = omega arith
    below (suc i) = omega arith

-- a line feed is no part of another character, so that the text may be cut before it
utf8_before_feed : (text : List ℕ) → IsUtf8 (with_feed text) → IsUtf8 text
utf8_before_feed text u =
    let cut = IsCharBoundary-at_seam (with_feed text) text feed refl feed_is_utf8 in
    subst IsUtf8 (take_at text feed (length text) refl) (IsUtf8-take (with_feed text) (length text) u cut)

utf8_fed : (text : List ℕ) → is_utf8 (with_feed text) ≡ is_utf8 text
utf8_fed text =
    same_from_decides (is_utf8 (with_feed text)) (is_utf8 text)
    (λ e. utf8_before_feed text (IsUtf8-from_is_utf8 (with_feed text) e), λ u. is_utf8-from_IsUtf8 (with_feed text) (IsUtf8-append text feed u feed_is_utf8))
    (IsUtf8-from_is_utf8 text, is_utf8-from_IsUtf8 text)

-- ---- numbers: each part takes what it took, and leaves what it left with the line feed behind

-- the end of a text counts as a space, and a line feed is one
ends_word_fed : (text : List ℕ) → ends_word (with_feed text) ≡ ends_word text
ends_word_fed [] = refl
ends_word_fed (x ∷ xs) = refl

digit_count_fed : (text : List ℕ) → prefix_len is_ascii_digit (with_feed text) ≡ prefix_len is_ascii_digit text
digit_count_fed [] = refl
digit_count_fed (x ∷ xs) = ap (λ n. cond (is_ascii_digit x) (1 + n) 0) (digit_count_fed xs)

digits_fed : (text : List ℕ) → after_digits (with_feed text) ≡ rest_with_feed (after_digits text)
digits_fed text =
    let count = prefix_len is_ascii_digit text in
    ap (λ n. cond (n == 0) None (Some (drop n (with_feed text)))) (digit_count_fed text)
    ∙ ap (λ rest. cond (count == 0) None (Some rest)) (drop-append-le count text feed (prefix_len-le-length is_ascii_digit text))
    ∙ each_side rest_with_feed (count == 0) None (Some (drop count text))

minus_fed : (text : List ℕ) → after_minus (with_feed text) ≡ with_feed (after_minus text)
minus_fed [] = refl
minus_fed (x ∷ xs) = each_side with_feed (x == ascii.minus) xs (x ∷ xs)

sign_fed : (text : List ℕ) → after_sign (with_feed text) ≡ with_feed (after_sign text)
sign_fed [] = refl
sign_fed (x ∷ xs) = each_side with_feed ((x == ascii.minus) || (x == ascii.plus)) xs (x ∷ xs)

whole_fed : (text : List ℕ) → after_whole (with_feed text) ≡ rest_with_feed (after_whole text)
whole_fed [] = refl
whole_fed (x ∷ xs) = ap (cond (x == ascii.zero) (Some (with_feed xs))) (digits_fed (x ∷ xs)) ∙ each_side rest_with_feed (x == ascii.zero) (Some xs) (after_digits (x ∷ xs))

fraction_fed : (text : List ℕ) → after_fraction (with_feed text) ≡ rest_with_feed (after_fraction text)
fraction_fed [] = refl
fraction_fed (x ∷ xs) = ap (λ rest. cond (x == ascii.dot) rest (Some (with_feed (x ∷ xs)))) (digits_fed xs) ∙ each_side rest_with_feed (x == ascii.dot) (after_digits xs) (Some (x ∷ xs))

exponent_fed : (text : List ℕ) → after_exponent (with_feed text) ≡ rest_with_feed (after_exponent text)
exponent_fed [] = refl
exponent_fed (x ∷ xs) =
    let has_exponent = (x == ascii.lower_e) || (x == ascii.upper_e) in
    ap (λ rest. cond has_exponent rest (Some (with_feed (x ∷ xs)))) (ap after_digits (sign_fed xs) ∙ digits_fed (after_sign xs))
    ∙ each_side rest_with_feed has_exponent (after_digits (after_sign xs)) (Some (x ∷ xs))

-- a part after what the parts before it left
next_fed : (part : List ℕ → Option (List ℕ)) → ((text : List ℕ) → part (with_feed text) ≡ rest_with_feed (part text))
    → (rest : Option (List ℕ)) → option_and_then part (rest_with_feed rest) ≡ rest_with_feed (option_and_then part rest)
next_fed part same None = refl
next_fed part same (Some rest) = same rest

number_fed : (text : List ℕ) → after_number (with_feed text) ≡ rest_with_feed (after_number text)
unfolding after_number
number_fed text =
    let whole = after_whole (after_minus text) in
    ap (λ rest. option_and_then after_exponent (option_and_then after_fraction rest)) (ap after_whole (minus_fed text) ∙ whole_fed (after_minus text))
    ∙ ap (option_and_then after_exponent) (next_fed after_fraction fraction_fed whole)
    ∙ next_fed after_exponent exponent_fed (option_and_then after_fraction whole)

-- the number has as many bytes as before
number_token_fed : (text : List ℕ) (rest : Option (List ℕ)) → number_before (with_feed text) (rest_with_feed rest) ≡ number_before text rest
number_token_fed text None = refl
number_token_fed text (Some rest) =
    let size : length (with_feed text) - length (with_feed rest) ≡ length text - length rest = omega (arith, length-append text feed, length-append rest feed) in
    rw (ends_word_fed rest, size, take-append-le (length text - length rest) text feed (omega arith)) refl

-- ---- literals: none of their names has a line feed

abbrev has_no_feed : List ℕ → Bool
has_no_feed name = list_all (λ c. not (c == ascii.line_feed)) name

-- the text begins with the name, and a word ends behind it
abbrev is_literal : List ℕ → List ℕ → Bool
is_literal name text = starts_with nat_eq text name && ends_word (drop (length name) text)

after_first : (b p q e f : Bool) → (p && e) ≡ (q && f) → (b && p && e) ≡ (b && q && f)
after_first true p q e f same = same
after_first false p q e f same = refl

is_literal_fed : (name text : List ℕ) → has_no_feed name ≡ true → is_literal name (with_feed text) ≡ is_literal name text
is_literal_fed [] text none = ends_word_fed text
is_literal_fed (c ∷ name) [] none = rw (not-true (c == ascii.line_feed) (and_parts _ _ none).0) refl
is_literal_fed (c ∷ name) (x ∷ xs) none = after_first (c == x) _ _ _ _ (is_literal_fed name xs (and_parts _ _ none).1)

literal_fed : (name text : List ℕ) (t : Token) → has_no_feed name ≡ true → literal name t (with_feed text) ≡ literal name t text
literal_fed name text t none = ap (λ b. cond b t bad) (is_literal_fed name text none)

word_fed : (x : ℕ) (xs : List ℕ) → word (x ∷ with_feed xs) ≡ word (x ∷ xs)
unfolding word
word_fed x xs =
    let text = x ∷ xs in
    let number = ap (number_before (with_feed text)) (number_fed text) ∙ number_token_fed text (after_number text) in
    λ i. cond (x == ascii.lower_t) (literal_fed ascii.true_text text (boolean true) refl i)
    (cond (x == ascii.lower_f) (literal_fed ascii.false_text text (boolean false) refl i)
    (cond (x == ascii.lower_n) (literal_fed ascii.null_text text null refl i) (number i)))

-- ---- strings: one that is not closed is none still, since a line feed is below a space, no hex digit and no escape

code_unit_feed : (a b c : ℕ) → code_unit a b c ascii.line_feed ≡ None
unfolding code_unit
code_unit_feed a b c = rw (and_right (is_digit a 16 && is_digit b 16 && is_digit c 16) (is_digit ascii.line_feed 16) refl) refl

-- The last clause is for what has too few bytes for an escape, with the line feed too.
content_fed : (w : Within) (text : List ℕ) → content w (with_feed text) ≡ content w text
unfolding content short_escape
content_fed plain (x ∷ xs) =
    λ i. cond (x == ascii.quote) (Some []) (cond (x == ascii.backslash) (content_fed after_backslash xs i) (cond (nat_lt x ascii.space) None (prepend (x ∷ []) (content_fed plain xs i))))
content_fed after_backslash (x ∷ xs) = λ i. cond (x == ascii.lower_u) (content_fed after_u xs i) (option_and_then (λ c. prepend (c ∷ []) (content_fed plain xs i)) (short_escape x))
content_fed after_u (a ∷ b ∷ c ∷ []) = rw (code_unit_feed a b c) refl
content_fed after_u (a ∷ b ∷ c ∷ d ∷ xs) =
    λ i. option_and_then (λ u. cond (is_high_surrogate u) (content_fed (after_high u) xs i) (cond (is_low_surrogate u) None (prepend (encode_utf8 u) (content_fed plain xs i)))) (code_unit a b c d)
content_fed (after_high h) (s ∷ u ∷ a ∷ b ∷ c ∷ []) = rw (code_unit_feed a b c) (same_sides ((s == ascii.backslash) && (u == ascii.lower_u)) None)
content_fed (after_high h) (s ∷ u ∷ a ∷ b ∷ c ∷ d ∷ xs) =
    λ i. cond ((s == ascii.backslash) && (u == ascii.lower_u))
    (option_and_then (λ l. cond (is_low_surrogate l) (prepend (encode_utf8 (surrogate_pair h l)) (content_fed plain xs i)) None) (code_unit a b c d)) None
content_fed w text = refl

-- ---- lexemes

-- Only where a string or a word begins does a byte look at what is behind it. The clauses within a word and a string let the last one go class by class.
lex_byte_fed : (m : Mode) (c : Class) (x : ℕ) (xs : List ℕ) (k l : Mode → List Lexeme) → k ≡ l → lex_byte m c x (with_feed xs) k ≡ lex_byte m c x xs l
lex_byte_fed between quote x xs k l same = λ i. token (string_token (content_fed plain xs i)) ∷ same i in_string
lex_byte_fed between other x xs k l same = λ i. token (word_fed x xs i) ∷ same i in_word
lex_byte_fed in_word other x xs k l same = ap (lex_byte in_word other x xs) same
lex_byte_fed in_string other x xs k l same = ap (lex_byte in_string other x xs) same
lex_byte_fed m c x xs k l same = ap (lex_byte m c x xs) same

lex_fed : (m : Mode) (text : List ℕ) → lex m (with_feed text) ≡ lex m text
unfolding lex
lex_fed between [] = refl
lex_fed in_word [] = refl
lex_fed in_string [] = refl
lex_fed in_escape [] = refl
lex_fed m (x ∷ xs) = lex_byte_fed m (class x) x xs (λ next. lex next (with_feed xs)) (λ next. lex next xs) (λ i next. lex_fed next xs i)

-- ---- values and networks

read_fed : (text : List ℕ) → read (with_feed text) ≡ read text
read_fed text = rw (lex_fed between text) refl

-- bytes read as the same value with a line feed at their end
pub json_fed : (bytes : List ℕ) → json_of (bytes ++ codes "\n") ≡ json_of bytes
unfolding json_of
json_fed bytes = λ i. cond (utf8_fed bytes i) (read_fed bytes i) None

-- a network means the same with a line feed at its end, while both are within the limit of bytes
pub network_fed : (bytes : List ℕ) → length bytes < 67108864 → network_of (bytes ++ codes "\n") ≡ network_of bytes
unfolding network_of
network_fed bytes few = rw (le-leb (length (with_feed bytes)) 67108864 (omega (arith, length-append bytes feed)), le-leb (length bytes) 67108864 (omega arith), json_fed bytes) refl
