-- The bytes of a text lead where its tokens lead, and lead nowhere else.
use Rattle.std.proofs.Common.{◌≡◌, ◌≢◌, ℕ, suc, ◌+◌, ◌<◌, Bool, true, false, ◌⊎◌, inl, inr, List, [], ◌∷◌, ◌++◌, length, Option, Some, None, refl, sym, ap, ◌∙◌, subst, arith}
use Rattle.std.specs.Prelude.{not, ◌&&◌, ◌==◌, nat_lt, if◌then◌else◌}
use Rattle.std.specs.Option.{option_and_then}
use Rattle.std.specs.List.{list_all}
use Rattle.std.proofs.lemmas.Bool.{and_parts, false_from_ne_true, lt-ltb, ltb-true}
use Rattle.std.proofs.lemmas.Bool.Decides.{nat_tests}
use Rattle.std.proofs.lemmas.List.{append_assoc, append-nil, length-append}
use Rattle.wi_text.specs.Characters.{is_name_byte, is_space, is_plain, is_plain_name, begins_with}
use Rattle.wi_text.specs.Spelling.{Spells}
use Rattle.wi_syntax.specs.Names.{Named}
use Rattle.wi_syntax.specs.declared.token.Mark.{Mark}
use Rattle.wi_syntax.specs.declared.token.Mark.TheVariants.{Less, Greater, OpenRound, CloseRound, OpenSquare, CloseSquare, Hash, Dot, Comma, Caret, Star, Plus, Question, Bar}
use Rattle.wi_syntax.specs.declared.token.Token.{Token}
use Rattle.wi_syntax.specs.declared.token.Token.TheVariants as token
use Rattle.wi_syntax.specs.declared.written.Written.{Written}
use Rattle.wi_syntax.specs.Tokens.{mark_byte, spelling, IsToken}
use Rattle.wi_syntax.specs.Grammar.{plain}
use Rattle.wi_syntax.specs.private.Parsing.{Parse, after, after_all, token_of, finish}
use Rattle.wi_syntax.specs.private.Reading.{Reading, reading, keep, behind, longer, begin, after_plain, end_quoted, after_quoted, after_byte, after_bytes, finished}
use Rattle.wi_syntax.proofs.Options.{then_some}
use Rattle.wi_syntax.proofs.Words.{admits_front, mark_there, end_there}

-- ---- bytes

plain_space : (b : ℕ) → is_space b ≡ true → is_plain b ≡ false
plain_space b e = false_from_ne_true (is_plain b) (λ p. grind (arith, nat_tests))

not_quote : (b : ℕ) → is_name_byte b ≡ true → (b == 34) ≡ false
not_quote b e = grind (arith, nat_tests)

pub space_goes : (at : ℕ) (p : Parse) (b : ℕ) → is_space b ≡ true → after_byte (reading at p None) b ≡ Some (reading (at + 1) p None)
space_goes at p b e = rw (plain_space b e, e) refl

pub mark_goes : (at : ℕ) (p : Parse) (m : Mark) → after_byte (reading at p None) (mark_byte m) ≡ behind (at + 1) (after p (token_of p at m))
mark_goes at p Less = refl
mark_goes at p Greater = refl
mark_goes at p OpenRound = refl
mark_goes at p CloseRound = refl
mark_goes at p OpenSquare = refl
mark_goes at p CloseSquare = refl
mark_goes at p Hash = refl
mark_goes at p Dot = refl
mark_goes at p Comma = refl
mark_goes at p Caret = refl
mark_goes at p Star = refl
mark_goes at p Plus = refl
mark_goes at p Question = refl
mark_goes at p Bar = refl

-- where a text ends
abbrev pub Ends : Option Reading → Written → Type 0
Ends o w = (r : Reading) × (o ≡ Some r) × (finished r ≡ Some w)

pub ends_by : (o p : Option Reading) (w : Written) → o ≡ p → Ends p w → Ends o w
ends_by o p w e h = (h.0, e ∙ h.1, h.2)

pub one_byte : (r s : Reading) (b : ℕ) (rest : List ℕ) → after_byte r b ≡ Some s → after_bytes r (b ∷ rest) ≡ after_bytes s rest
one_byte r s b rest e = ap (option_and_then (λ t. after_bytes t rest)) e

moved : (i j : ℕ) (p : Parse) (o : Option Named) (rest : List ℕ) → i ≡ j → after_bytes (reading i p o) rest ≡ after_bytes (reading j p o) rest
moved i j p o rest e = ap (λ z. after_bytes (reading z p o) rest) e

spaces_go : (at : ℕ) (p : Parse) (space rest : List ℕ) → list_all is_space space ≡ true → after_bytes (reading at p None) (space ++ rest) ≡ after_bytes (reading (at + length space) p None) rest
spaces_go at p [] rest e = moved at (at + 0) p None rest (omega arith)
spaces_go at p (b ∷ space) rest e =
    let parts = and_parts (is_space b) (list_all is_space space) e in
    one_byte (reading at p None) (reading (at + 1) p None) b (space ++ rest) (space_goes at p b parts.0)
    ∙ spaces_go (at + 1) p space rest parts.1
    ∙ moved (at + 1 + length space) (at + suc (length space)) p None rest (omega arith)

-- ---- names without quotation marks

longer_more : (n : Named) (s t : List ℕ) → longer (longer n s) t ≡ longer n (s ++ t)
longer_more n s t = ap (λ z. record { at = n.at; quoted = n.quoted; text = z }) (append_assoc n.text s t)

some_more : (s : List ℕ) (b : ℕ) → s ++ b ∷ [] ≢ []
some_more [] b e = cc
some_more (c ∷ s) b e = cc

kept : (at : ℕ) (p q : Parse) (n : Named) (t : List ℕ) → after p (token.Word (longer n t)) ≡ Some q → (n.quoted ≡ true) ⊎ (n.text ≢ []) → keep at p n ≡ Some (reading at p (Some n))
kept at p q n t e begun = rw (admits_front p q n t e begun) refl

plain_goes : (at : ℕ) (p : Parse) (n : Named) (b : ℕ) → n.quoted ≡ false → is_plain b ≡ true → after_byte (reading at p (Some n)) b ≡ keep (at + 1) p (longer n (b ∷ []))
plain_goes at p n b q e = rw (q, e) refl

pub plains_go : (at : ℕ) (p q : Parse) (n : Named) (s rest : List ℕ) → n.quoted ≡ false → list_all is_plain s ≡ true → after p (token.Word (longer n s)) ≡ Some q
    → after_bytes (reading at p (Some n)) (s ++ rest) ≡ after_bytes (reading (at + length s) p (Some (longer n s))) rest
plains_go at p q n [] rest plain e h = ap (λ z. after_bytes (reading z p (Some n)) rest) (let k : at ≡ at + 0 = omega arith in k) ∙ ap (λ z. after_bytes (reading (at + 0) p (Some (record { at = n.at; quoted = n.quoted; text = z }))) rest) (sym (append-nil n.text))
plains_go at p q n (b ∷ s) rest plain e h =
    let parts = and_parts (is_plain b) (list_all is_plain s) e in
    let next : after p (token.Word (longer (longer n (b ∷ [])) s)) ≡ Some q = ap (λ z. after p (token.Word z)) (longer_more n (b ∷ []) s) ∙ h in
    one_byte (reading at p (Some n)) (reading (at + 1) p (Some (longer n (b ∷ [])))) b (s ++ rest) (plain_goes at p n b plain parts.0 ∙ kept (at + 1) p q (longer n (b ∷ [])) s next (inr (some_more n.text b)))
    ∙ plains_go (at + 1) p q (longer n (b ∷ [])) s rest plain parts.1 next
    ∙ moved (at + 1 + length s) (at + suc (length s)) p (Some (longer (longer n (b ∷ [])) s)) rest (omega arith)
    ∙ ap (λ z. after_bytes (reading (at + suc (length s)) p (Some z)) rest) (longer_more n (b ∷ []) s)

-- behind a name, where the text doesn't go on with it
pub plain_ends : (at : ℕ) (p q : Parse) (n : Named) (rest : List ℕ) (w : Written) → n.quoted ≡ false → after p (token.Word n) ≡ Some q → begins_with is_plain rest ≡ false
    → Ends (after_bytes (reading at q None) rest) w → Ends (after_bytes (reading at p (Some n)) rest) w
plain_ends at p q n [] w quote e h ends = (
  reading at p (Some n),
  refl,
  ap (λ z. if z then None else option_and_then finish (after p (token.Word n))) quote ∙ ap (option_and_then finish) e ∙ (let is : reading at q None ≡ ends.0 = cc in ap finished is ∙ ends.2),
)
plain_ends at p q n (b ∷ rest) w quote e h ends =
    ends_by (after_bytes (reading at p (Some n)) (b ∷ rest)) (after_bytes (reading at q None) (b ∷ rest)) w
    (ap (option_and_then (λ t. after_bytes t rest))
    (ap (λ z. if z then after_quoted (at + 1) p n b else after_plain at (at + 1) p n b) quote
    ∙ ap (λ z. if z then keep (at + 1) p (longer n (b ∷ [])) else option_and_then (λ r. begin at (at + 1) r b) (after p (token.Word n))) h
    ∙ ap (option_and_then (λ r. begin at (at + 1) r b)) e)) ends

-- ---- names between quotation marks

pub quoted_goes : (at : ℕ) (p : Parse) (n : Named) (b : ℕ) → n.quoted ≡ true → is_name_byte b ≡ true → after_byte (reading at p (Some n)) b ≡ Some (reading (at + 1) p (Some (longer n (b ∷ []))))
quoted_goes at p n b q e =
    ap (λ z. if z then after_quoted (at + 1) p n b else after_plain at (at + 1) p n b) q
    ∙ ap (λ z. if z then end_quoted (at + 1) p n else if is_name_byte b then Some (reading (at + 1) p (Some (longer n (b ∷ [])))) else None) (not_quote b e)
    ∙ ap (λ z. if z then Some (reading (at + 1) p (Some (longer n (b ∷ [])))) else None) e

pub quoted_go : (at : ℕ) (p : Parse) (n : Named) (s rest : List ℕ) → n.quoted ≡ true → list_all is_name_byte s ≡ true
    → after_bytes (reading at p (Some n)) (s ++ rest) ≡ after_bytes (reading (at + length s) p (Some (longer n s))) rest
quoted_go at p n [] rest q e = ap (λ z. after_bytes (reading z p (Some n)) rest) (let k : at ≡ at + 0 = omega arith in k) ∙ ap (λ z. after_bytes (reading (at + 0) p (Some (record { at = n.at; quoted = n.quoted; text = z }))) rest) (sym (append-nil n.text))
quoted_go at p n (b ∷ s) rest q e =
    let parts = and_parts (is_name_byte b) (list_all is_name_byte s) e in
    one_byte (reading at p (Some n)) (reading (at + 1) p (Some (longer n (b ∷ [])))) b (s ++ rest) (quoted_goes at p n b q parts.0)
    ∙ quoted_go (at + 1) p (longer n (b ∷ [])) s rest q parts.1
    ∙ moved (at + 1 + length s) (at + suc (length s)) p (Some (longer (longer n (b ∷ [])) s)) rest (omega arith)
    ∙ ap (λ z. after_bytes (reading (at + suc (length s)) p (Some z)) rest) (longer_more n (b ∷ []) s)

pub quote_ends : (at : ℕ) (p q : Parse) (n : Named) → n.quoted ≡ true → 0 < length n.text → after p (token.Word n) ≡ Some q → after_byte (reading at p (Some n)) 34 ≡ Some (reading (at + 1) q None)
quote_ends at p q n quoted some e =
    ap (λ z. if z then after_quoted (at + 1) p n 34 else after_plain at (at + 1) p n 34) quoted
    ∙ ap (λ z. if z then behind (at + 1) (after p (token.Word n)) else None) (lt-ltb 0 (length n.text) some)
    ∙ ap (behind (at + 1)) e

-- ---- from tokens to bytes

abbrev opened : ℕ → Named
opened at = record { at = at; quoted = true; text = [] }

pub token_goes : (at : ℕ) (p q : Parse) (t : Token) (rest : List ℕ) (w : Written) → IsToken at t rest → after p t ≡ Some q → Ends (after_bytes (reading (at + length (spelling t)) q None) rest) w
    → Ends (after_bytes (reading at p None) (spelling t ++ rest)) w
token_goes at p q (token.Mark m) rest w is e ends = ends_by _ _ w (one_byte (reading at p None) (reading (at + 1) q None) (mark_byte m) rest (mark_goes at p m ∙ ap (λ z. behind (at + 1) (after p z)) (mark_there p q at m e) ∙ ap (behind (at + 1)) e)) ends
token_goes at p q (token.AnyEnd n) rest w is e ends = ends_by _ _ w (one_byte (reading at p None) (reading (at + 1) q None) 46 rest (mark_goes at p Dot ∙ ap (λ z. behind (at + 1) (after p z)) (ap (λ z. token_of p z Dot) (sym is) ∙ end_there p q n e) ∙ ap (behind (at + 1)) e)) ends
token_goes at p q (token.Word n) rest w is e ends = by_quote n.quoted refl
  where
    plain_word : n.quoted ≡ false → (s : List ℕ) → n.text ≡ s → is_plain_name s ≡ true → begins_with is_plain rest ≡ false → Ends (after_bytes (reading (at + length s) q None) rest) w → Ends (after_bytes (reading at p None) (s ++ rest)) w
    plain_word plain [] is_s ok apart k = cc
    plain_word plain (b ∷ s) is_s ok apart k =
        let parts : (is_plain b ≡ true) × (list_all is_plain s ≡ true) = and_parts (is_plain b) (list_all is_plain s) (and_parts (nat_lt 0 (length (b ∷ s))) (list_all is_plain (b ∷ s)) ok).1 in
        let begun : Named = record { at = at; quoted = false; text = b ∷ [] } in
        let same : longer begun s ≡ n = ap (λ (z : ℕ). record { at = z; quoted = false; text = b ∷ s }) (sym is.0) ∙ ap (λ (z : Bool). record { at = n.at; quoted = z; text = b ∷ s }) (sym plain) ∙ ap (λ (z : List ℕ). record { at = n.at; quoted = n.quoted; text = z }) (sym is_s) in
        let next : after p (token.Word (longer begun s)) ≡ Some q = ap (λ z. after p (token.Word z)) same ∙ e in
        ends_by _ _ w
        (one_byte (reading at p None) (reading (at + 1) p (Some begun)) b (s ++ rest) (begins at p q begun b s parts.0 refl next)
        ∙ plains_go (at + 1) p q begun s rest refl parts.1 next)
        (plain_ends (at + 1 + length s) p q (longer begun s) rest w refl next apart (ends_by _ _ w (moved (at + 1 + length s) (at + suc (length s)) q None rest (omega arith)) k))
      where
        begins : (at : ℕ) (p q : Parse) (begun : Named) (b : ℕ) (s : List ℕ) → is_plain b ≡ true → begun ≡ record { at = at; quoted = false; text = b ∷ [] } → after p (token.Word (longer begun s)) ≡ Some q → after_byte (reading at p None) b ≡ Some (reading (at + 1) p (Some begun))
        begins at p q begun b s h is next = rw h (ap (λ z. keep (at + 1) p z) (sym is) ∙ kept (at + 1) p q begun s next (inr (λ none. (let f : b ∷ [] ≡ [] = sym (ap (λ z. z.text) is) ∙ none in cc))))

    quoted_word : n.quoted ≡ true → 0 < length n.text → list_all is_name_byte n.text ≡ true → Ends (after_bytes (reading (at + length (34 ∷ (n.text ++ 34 ∷ []))) q None) rest) w → Ends (after_bytes (reading at p None) ((34 ∷ (n.text ++ 34 ∷ [])) ++ rest)) w
    quoted_word quoted some ok k =
        let same : longer (opened at) n.text ≡ n = ap (λ (z : ℕ). record { at = z; quoted = true; text = n.text }) (sym is.0) ∙ ap (λ (z : Bool). record { at = n.at; quoted = z; text = n.text }) (sym quoted) in
        let next : after p (token.Word (longer (opened at) n.text)) ≡ Some q = ap (λ z. after p (token.Word z)) same ∙ e in
        let long : length (n.text ++ 34 ∷ []) ≡ length n.text + 1 = length-append n.text (34 ∷ []) in
        ends_by _ _ w
        (one_byte (reading at p None) (reading (at + 1) p (Some (opened at))) 34 ((n.text ++ 34 ∷ []) ++ rest) (kept (at + 1) p q (opened at) n.text next (inl refl))
        ∙ ap (after_bytes (reading (at + 1) p (Some (opened at)))) (append_assoc n.text (34 ∷ []) rest)
        ∙ quoted_go (at + 1) p (opened at) n.text (34 ∷ rest) refl ok
        ∙ one_byte (reading (at + 1 + length n.text) p (Some (longer (opened at) n.text))) (reading (at + 1 + length n.text + 1) q None) 34 rest (quote_ends (at + 1 + length n.text) p q (longer (opened at) n.text) refl some next)
        ∙ moved (at + 1 + length n.text + 1) (at + suc (length (n.text ++ 34 ∷ []))) q None rest (omega arith))
        k

    by_quote : (b : Bool) → n.quoted ≡ b → Ends (after_bytes (reading at p None) (spelling (token.Word n) ++ rest)) w
    by_quote true h =
        let word : (nat_lt 0 (length n.text) && list_all is_name_byte n.text) ≡ true = sym (ap (λ z. if z then nat_lt 0 (length n.text) && list_all is_name_byte n.text else is_plain_name n.text && not (begins_with is_plain rest)) h) ∙ is.1 in
        let parts = and_parts (nat_lt 0 (length n.text)) (list_all is_name_byte n.text) word in
        let spelt : spelling (token.Word n) ≡ 34 ∷ (n.text ++ 34 ∷ []) = ap (λ z. if z then 34 ∷ (n.text ++ 34 ∷ []) else n.text) h in
        subst (λ z. Ends (after_bytes (reading at p None) (z ++ rest)) w) (sym spelt) (quoted_word h (ltb-true 0 (length n.text) parts.0) parts.1 (subst (λ z. Ends (after_bytes (reading (at + length z) q None) rest) w) spelt ends))
    by_quote false h =
        let word : (is_plain_name n.text && not (begins_with is_plain rest)) ≡ true = sym (ap (λ z. if z then nat_lt 0 (length n.text) && list_all is_name_byte n.text else is_plain_name n.text && not (begins_with is_plain rest)) h) ∙ is.1 in
        let parts = and_parts (is_plain_name n.text) (not (begins_with is_plain rest)) word in
        let spelt : spelling (token.Word n) ≡ n.text = ap (λ z. if z then 34 ∷ (n.text ++ 34 ∷ []) else n.text) h in
        subst (λ z. Ends (after_bytes (reading at p None) (z ++ rest)) w) (sym spelt) (plain_word h n.text refl parts.0 (not_true (begins_with is_plain rest) parts.1) (subst (λ z. Ends (after_bytes (reading (at + length z) q None) rest) w) spelt ends))
      where
        not_true : (b : Bool) → not b ≡ true → b ≡ false
        not_true true k = cc
        not_true false k = refl

pub tokens_lead : (ts : List Token) (at : ℕ) (p q : Parse) (text : List ℕ) (w : Written) → Spells spelling IsToken at ts text → after_all p ts ≡ Some q → finish q ≡ Some w → Ends (after_bytes (reading at p None) text) w
tokens_lead [] at p q text w blank e f =
    ends_by _ _ w (ap (after_bytes (reading at p None)) (sym (append-nil text)) ∙ spaces_go at p text [] blank)
    (reading (at + length text) p None, refl, (let is : p ≡ q = cc in ap finish is ∙ f))
tokens_lead (t ∷ ts) at p q text w h e f =
    let space = h.0 in
    let rest = h.1 in
    let found = then_some (λ r. after_all r ts) (after p t) q e in
    ends_by _ _ w (ap (after_bytes (reading at p None)) h.3 ∙ spaces_go at p space (spelling t ++ rest) h.2)
    (token_goes (at + length space) p found.0 t rest w h.4 found.1 (tokens_lead ts (at + length space + length (spelling t)) found.0 q rest w h.5 found.2 f))
