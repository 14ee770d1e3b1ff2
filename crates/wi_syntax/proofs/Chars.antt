-- What one more character does is what its bytes do.
use Rattle.std.proofs.Common.{◌≡◌, ℕ, ◌+◌, ◌<◌, ◌≤◌, Bool, true, false, nat_lt, ⊎_elim, List, [], ◌∷◌, length, Option, Some, None, refl, sym, ap, ◌∙◌, subst, arith}
use Rattle.std.specs.Prelude.{◌==◌, if◌then◌else◌}
use Rattle.std.specs.Option.{option_and_then}
use Rattle.std.specs.List.{list_all}
use Rattle.std.specs.Char.{encode_utf8, is_ascii_control}
use Rattle.std.proofs.lemmas.Bool.{and_from, cases_lt, cond_both, false_from_ne_true, le-ltb, ne_eqb}
use Rattle.std.proofs.lemmas.Bool.Decides.{nat_tests}
use Rattle.std.proofs.lemmas.List.{append-nil}
use Rattle.std.proofs.lemmas.Str.{encode_ascii}
use Rattle.wi_text.specs.Characters.{is_name_byte, is_space, is_plain}
use Rattle.wi_syntax.specs.Names.{Named}
use Rattle.wi_syntax.specs.declared.token.Token.TheVariants as token
use Rattle.wi_syntax.specs.Grammar.{plain}
use Rattle.wi_syntax.specs.private.Parsing.{Parse, after, token_of}
use Rattle.wi_syntax.specs.private.Reading.{Reading, reading, mark_of, keep, behind, longer, begin, after_plain, end_quoted, after_quoted, after_quoted_char, after_byte, after_char, after_bytes}
use Rattle.wi_syntax.proofs.Bytes.{quoted_go}

-- bytes that are not ASCII
record IsHigh (bs : List ℕ) : Type 0 where
  first : ℕ
  others : List ℕ
  are : bs ≡ first ∷ others
  high : 128 ≤ first
  named : list_all is_name_byte bs ≡ true

named_more : (b : ℕ) (bs : List ℕ) → 128 ≤ b → list_all is_name_byte bs ≡ true → list_all is_name_byte (b ∷ bs) ≡ true
named_more b bs h e = let here : is_name_byte b ≡ true = grind (arith, nat_tests) in and_from (is_name_byte b) (list_all is_name_byte bs) here e

high_two : (a b : ℕ) → 128 ≤ a → 128 ≤ b → IsHigh (a ∷ b ∷ [])
high_two a b p q = record { first = a; others = b ∷ []; are = refl; high = p; named = named_more a (b ∷ []) p (named_more b [] q refl) }

high_three : (a b c : ℕ) → 128 ≤ a → 128 ≤ b → 128 ≤ c → IsHigh (a ∷ b ∷ c ∷ [])
high_three a b c p q r = record { first = a; others = b ∷ c ∷ []; are = refl; high = p; named = named_more a (b ∷ c ∷ []) p (named_more b (c ∷ []) q (named_more c [] r refl)) }

high_four : (a b c d : ℕ) → 128 ≤ a → 128 ≤ b → 128 ≤ c → 128 ≤ d → IsHigh (a ∷ b ∷ c ∷ d ∷ [])
high_four a b c d p q r s = record { first = a; others = b ∷ c ∷ d ∷ []; are = refl; high = p; named = named_more a (b ∷ c ∷ d ∷ []) p (named_more b (c ∷ d ∷ []) q (named_more c (d ∷ []) r (named_more d [] s refl))) }

is_high : (c : ℕ) → 128 ≤ c → IsHigh (encode_utf8 c)
unfolding encode_utf8
is_high c h = rw (le-ltb c 128 h)
    (cond_both (nat_lt c 2048) _ _ IsHigh (λ _. high_two _ _ (omega arith) (omega arith))
    (λ _. cond_both (nat_lt c 65536) _ _ IsHigh (λ _. high_three _ _ _ (omega arith) (omega arith) (omega arith)) (λ _. high_four _ _ _ _ (omega arith) (omega arith) (omega arith) (omega arith))))

high_plain : (b : ℕ) → 128 ≤ b → is_plain b ≡ false
high_plain b h = false_from_ne_true (is_plain b) (λ e. grind (arith, nat_tests))

high_space : (b : ℕ) → 128 ≤ b → is_space b ≡ false
high_space b h = false_from_ne_true (is_space b) (λ e. grind (arith, nat_tests))

high_mark : (b : ℕ) → 128 ≤ b → mark_of b ≡ None
high_mark b h = grind (arith, nat_tests)

not_quote : (b : ℕ) → 128 ≤ b → (b == 34) ≡ false
not_quote b h = ne_eqb b 34 (λ e. (let k : b ≡ 34 = e in omega arith))

-- nothing begins with a character that isn't ASCII
high_begins : (at next : ℕ) (p : Parse) (b : ℕ) → 128 ≤ b → begin at next p b ≡ None
high_begins at next p b h =
    ap (λ z. if z then keep next p (plain at (b ∷ [])) else if is_space b then Some (reading next p None) else if b == 34 then keep next p (record { at = at; quoted = true; text = [] }) else option_and_then (λ m. behind next (after p (token_of p at m))) (mark_of b)) (high_plain b h)
    ∙ ap (λ z. if z then Some (reading next p None) else if b == 34 then keep next p (record { at = at; quoted = true; text = [] }) else option_and_then (λ m. behind next (after p (token_of p at m))) (mark_of b)) (high_space b h)
    ∙ ap (λ z. if z then keep next p (record { at = at; quoted = true; text = [] }) else option_and_then (λ m. behind next (after p (token_of p at m))) (mark_of b)) (not_quote b h)
    ∙ ap (option_and_then (λ m. behind next (after p (token_of p at m)))) (high_mark b h)

high_ends : (at next : ℕ) (p : Parse) (n : Named) (b : ℕ) → 128 ≤ b → after_plain at next p n b ≡ None
high_ends at next p n b h = ap (λ z. if z then keep next p (longer n (b ∷ [])) else option_and_then (λ q. begin at next q b) (after p (token.Word n))) (high_plain b h) ∙ nowhere (after p (token.Word n))
  where
    nowhere : (o : Option Parse) → option_and_then (λ q. begin at next q b) o ≡ None
    nowhere None = refl
    nowhere (Some q) = high_begins at next q b h

-- a character between quotation marks: neither a control character nor a quotation mark
control_named : (c : ℕ) → is_ascii_control c ≡ true → is_name_byte c ≡ false
control_named c e = false_from_ne_true (is_name_byte c) (λ n. grind (arith, nat_tests))

other_named : (c : ℕ) → (c == 34) ≡ false → is_ascii_control c ≡ false → is_name_byte c ≡ true
other_named c q e = grind (arith, nat_tests)

-- what a character does, by its bytes: all of them go on, or its first goes nowhere
abbrev pub Does : Reading → ℕ → Option Reading → Type 0
Does r c (Some t) = after_bytes r (encode_utf8 c) ≡ Some t
Does r c None = (b : ℕ) × (rest : List ℕ) × (encode_utf8 c ≡ b ∷ rest) × (after_byte r b ≡ None)

by_byte : (r : Reading) (c : ℕ) (o : Option Reading) → encode_utf8 c ≡ c ∷ [] → after_byte r c ≡ o → Does r c o
by_byte r c None is e = (c, [], is, e)
by_byte r c (Some t) is e = ap (after_bytes r) is ∙ ap (option_and_then (λ s. after_bytes s [])) e

quoted_same : (next : ℕ) (p : Parse) (n : Named) (c : ℕ) → encode_utf8 c ≡ c ∷ [] → after_quoted next p n c ≡ after_quoted_char next p n c
quoted_same next p n c is = by_quote (c == 34) refl
  where
    by_control : (b : Bool) → is_ascii_control c ≡ b → (c == 34) ≡ false → (if is_name_byte c then Some (reading next p (Some (longer n (c ∷ [])))) else None) ≡ (if b then None else Some (reading next p (Some (longer n (encode_utf8 c)))))
    by_control true e q = ap (λ z. if z then Some (reading next p (Some (longer n (c ∷ [])))) else None) (control_named c e)
    by_control false e q = ap (λ z. if z then Some (reading next p (Some (longer n (c ∷ [])))) else None) (other_named c q e) ∙ ap (λ z. Some (reading next p (Some (longer n z)))) (sym is)

    by_quote : (b : Bool) → (c == 34) ≡ b → (if b then end_quoted next p n else if is_name_byte c then Some (reading next p (Some (longer n (c ∷ [])))) else None) ≡ (if b then end_quoted next p n else if is_ascii_control c then None else Some (reading next p (Some (longer n (encode_utf8 c)))))
    by_quote true e = refl
    by_quote false e = by_control (is_ascii_control c) refl e

ascii_same : (r : Reading) (c : ℕ) → c < 128 → after_byte r c ≡ after_char r c
ascii_same r c h = go r.begun
  where
    is : encode_utf8 c ≡ c ∷ []
    is = encode_ascii c h

    one : r.at + 1 ≡ r.at + length (encode_utf8 c)
    one = ap (λ z. r.at + length z) (sym is)

    by_name : (n : Named) (b : Bool) → (if b then after_quoted (r.at + 1) r.parse n c else after_plain r.at (r.at + 1) r.parse n c) ≡ (if b then after_quoted_char (r.at + length (encode_utf8 c)) r.parse n c else after_plain r.at (r.at + length (encode_utf8 c)) r.parse n c)
    by_name n true = quoted_same (r.at + 1) r.parse n c is ∙ ap (λ z. after_quoted_char z r.parse n c) one
    by_name n false = ap (λ z. after_plain r.at z r.parse n c) one

    go : (o : Option Named)
        → ◌≡◌ {A = Option Reading} (elim o [ None ↦ begin r.at (r.at + 1) r.parse c | Some n ↦ if n.quoted then after_quoted (r.at + 1) r.parse n c else after_plain r.at (r.at + 1) r.parse n c ])
        (elim o [ None ↦ begin r.at (r.at + length (encode_utf8 c)) r.parse c | Some n ↦ if n.quoted then after_quoted_char (r.at + length (encode_utf8 c)) r.parse n c else after_plain r.at (r.at + length (encode_utf8 c)) r.parse n c ])
    go None = ap (λ z. begin r.at z r.parse c) one
    go (Some n) = by_name n n.quoted

high_does : (r : Reading) (c : ℕ) → 128 ≤ c → Does r c (after_char r c)
high_does r c h = go r.begun refl
  where
    k : IsHigh (encode_utf8 c)
    k = is_high c h

    not_control : is_ascii_control c ≡ false
    not_control = false_from_ne_true (is_ascii_control c) (λ e. grind (arith, nat_tests))

    whole : (n : Option Named) → r.begun ≡ n → reading r.at r.parse n ≡ r
    whole n e = ap (λ z. reading r.at r.parse z) (sym e)

    by_quote : (n : Named) → r.begun ≡ Some n → (b : Bool) → n.quoted ≡ b
        → Does r c (if b then after_quoted_char (r.at + length (encode_utf8 c)) r.parse n c else after_plain r.at (r.at + length (encode_utf8 c)) r.parse n c)
    by_quote n e true q =
        subst (Does r c) (sym (ap (λ z. if z then end_quoted (r.at + length (encode_utf8 c)) r.parse n else if is_ascii_control c then None else Some (reading (r.at + length (encode_utf8 c)) r.parse (Some (longer n (encode_utf8 c))))) (not_quote c h)
        ∙ ap (λ z. if z then None else Some (reading (r.at + length (encode_utf8 c)) r.parse (Some (longer n (encode_utf8 c))))) not_control))
        (ap (λ z. after_bytes z (encode_utf8 c)) (sym (whole (Some n) e)) ∙ ap (after_bytes (reading r.at r.parse (Some n))) (sym (append-nil (encode_utf8 c))) ∙ quoted_go r.at r.parse n (encode_utf8 c) [] q k.named)
    by_quote n e false q =
        subst (Does r c) (sym (high_ends r.at (r.at + length (encode_utf8 c)) r.parse n c h)) (
          k.first,
          k.others,
          k.are,
          ap (λ z. after_byte z k.first) (sym (whole (Some n) e)) ∙ ap (λ z. if z then after_quoted (r.at + 1) r.parse n k.first else after_plain r.at (r.at + 1) r.parse n k.first) q ∙ high_ends r.at (r.at + 1) r.parse n k.first k.high,
        )

    go : (o : Option Named) → r.begun ≡ o → Does r c (elim o [ None ↦ begin r.at (r.at + length (encode_utf8 c)) r.parse c | Some n ↦ if n.quoted then after_quoted_char (r.at + length (encode_utf8 c)) r.parse n c else after_plain r.at (r.at + length (encode_utf8 c)) r.parse n c ])
    go None e = subst (Does r c) (sym (high_begins r.at (r.at + length (encode_utf8 c)) r.parse c h)) (k.first, k.others, k.are, ap (λ z. after_byte z k.first) (sym (whole None e)) ∙ high_begins r.at (r.at + 1) r.parse k.first k.high)
    go (Some n) e = by_quote n e n.quoted refl

pub char_does : (r : Reading) (c : ℕ) → Does r c (after_char r c)
char_does r c = ⊎_elim (λ h. by_byte r c (after_char r c) (encode_ascii c h) (ascii_same r c h)) (λ h. high_does r c h) (cases_lt c 128)
