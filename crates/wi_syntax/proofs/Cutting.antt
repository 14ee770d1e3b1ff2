-- Bytes that lead to the end of a query are those of tokens.
use Rattle.std.proofs.Common.{◌≡◌, ℕ, suc, ◌+◌, ◌<◌, Bool, true, false, List, [], ◌∷◌, ◌++◌, length, Option, Some, None, refl, sym, ap, ◌∙◌, subst, arith}
use Rattle.std.specs.Prelude.{not, ◌==◌, nat_lt, if◌then◌else◌}
use Rattle.std.specs.Option.{option_and_then}
use Rattle.std.specs.List.{list_all}
use Rattle.std.proofs.lemmas.Bool.{and_from, lt-ltb, ltb-true, eqb-true, cond_both}
use Rattle.std.proofs.lemmas.List.{append_assoc, append-nil, length-append}
use Rattle.wi_text.specs.Characters.{is_name_byte, is_space, is_plain, is_plain_name, begins_with}
use Rattle.wi_text.specs.Spelling.{Spells}
use Rattle.wi_syntax.specs.Names.{Named}
use Rattle.wi_syntax.specs.declared.token.Mark.{Mark}
use Rattle.wi_syntax.specs.declared.token.Mark.TheVariants.{Less, Greater, OpenRound, CloseRound, OpenSquare, CloseSquare, Hash, Dot, Comma, Caret, Star, Plus, Question, Bar}
use Rattle.wi_syntax.specs.declared.token.Token.{Token}
use Rattle.wi_syntax.specs.declared.token.Token.TheVariants as token
use Rattle.wi_syntax.specs.declared.written.Written.{Written}
use Rattle.wi_syntax.specs.Tokens.{mark_byte, spelling, IsToken}
use Rattle.wi_syntax.specs.Grammar.{plain}
use Rattle.wi_syntax.specs.private.Parsing.{Parse, after, after_all, takes_ends, token_of, finish}
use Rattle.wi_syntax.specs.private.Reading.{Reading, reading, mark_of, admits, keep, behind, longer, begin, after_plain, end_quoted, after_quoted, after_bytes, finished}
use Rattle.wi_syntax.proofs.Options.{then_some}

-- a text is tokens that lead to the end of a query
pub record Leads (at : ℕ) (p : Parse) (text : List ℕ) (w : Written) : Type 0 where
  pub tokens : List Token
  pub spells : Spells spelling IsToken at tokens text
  pub last : Parse
  pub all : after_all p tokens ≡ Some last
  pub ends : finish last ≡ Some w

-- a text goes on with a name that is begun, and then leads to an end
record Goes (at : ℕ) (p : Parse) (n : Named) (text : List ℕ) (w : Written) : Type 0 where
  more : List ℕ
  rest : List ℕ
  is : text ≡ more ++ rest
  plain : list_all is_plain more ≡ true
  apart : begins_with is_plain rest ≡ false
  next : Parse
  word : after p (token.Word (longer n more)) ≡ Some next
  leads : Leads (at + length more) next rest w

record GoesQuoted (at : ℕ) (p : Parse) (n : Named) (text : List ℕ) (w : Written) : Type 0 where
  more : List ℕ
  rest : List ℕ
  is : text ≡ more ++ 34 ∷ rest
  named : list_all is_name_byte more ≡ true
  some : 0 < length (n.text ++ more)
  next : Parse
  word : after p (token.Word (longer n more)) ≡ Some next
  leads : Leads (at + length more + 1) next rest w

moved : (i j : ℕ) (p : Parse) (text : List ℕ) (w : Written) → i ≡ j → Leads i p text w → Leads j p text w
moved i j p text w e h = subst (λ z. Leads z p text w) e h

no_more : (n : Named) → longer n [] ≡ n
no_more n = ap (λ z. record { at = n.at; quoted = n.quoted; text = z }) (append-nil n.text)

longer_more : (n : Named) (s t : List ℕ) → longer (longer n s) t ≡ longer n (s ++ t)
longer_more n s t = ap (λ z. record { at = n.at; quoted = n.quoted; text = z }) (append_assoc n.text s t)

-- one byte of white space before
space_before : (at b : ℕ) (ts : List Token) (text : List ℕ) → is_space b ≡ true → Spells spelling IsToken (at + 1) ts text → Spells spelling IsToken at ts (b ∷ text)
space_before at b [] text e blank = and_from (is_space b) (list_all is_space text) e blank
space_before at b (t ∷ ts) text e h =
    let same : at + 1 + length h.0 ≡ at + suc (length h.0) = omega arith in
    (b ∷ h.0, h.1, and_from (is_space b) (list_all is_space h.0) e h.2, ap (λ z. b ∷ z) h.3, subst (λ z. IsToken z t h.1) same h.4, subst (λ z. Spells spelling IsToken (z + length (spelling t)) ts h.1) same h.5)

-- a token before
token_before : (at : ℕ) (p q : Parse) (t : Token) (text rest : List ℕ) (w : Written) → text ≡ spelling t ++ rest → IsToken at t rest → after p t ≡ Some q → Leads (at + length (spelling t)) q rest w → Leads at p text w
token_before at p q t text rest w is ok e h = record {
  tokens = t ∷ h.tokens;
  spells = ([], rest, refl, is, subst (λ z. IsToken z t rest) here ok, subst (λ z. Spells spelling IsToken (z + length (spelling t)) h.tokens rest) here h.spells);
  last = h.last;
  all = ap (option_and_then (λ r. after_all r h.tokens)) e ∙ h.all;
  ends = h.ends;
}
  where
    here : at ≡ at + 0
    here = omega arith

-- a name that was begun with a byte, or with a quotation mark
plain_before : (at : ℕ) (p : Parse) (b : ℕ) (text : List ℕ) (w : Written) → is_plain b ≡ true → Goes (at + 1) p (plain at (b ∷ [])) text w → Leads at p (b ∷ text) w
plain_before at p b text w e g =
    token_before at p g.next (token.Word (plain at (b ∷ g.more))) (b ∷ text) g.rest w (ap (λ z. b ∷ z) g.is)
    (refl, and_from (is_plain_name (b ∷ g.more)) (not (begins_with is_plain g.rest)) (and_from (nat_lt 0 (length (b ∷ g.more))) (list_all is_plain (b ∷ g.more)) (lt-ltb 0 (length (b ∷ g.more)) (omega arith)) (and_from (is_plain b) (list_all is_plain g.more) e g.plain)) (ap not g.apart))
    g.word (moved (at + 1 + length g.more) (at + suc (length g.more)) g.next g.rest w (omega arith) g.leads)

abbrev opened : ℕ → Named
opened at = record { at = at; quoted = true; text = [] }

quoted_before : (at : ℕ) (p : Parse) (text : List ℕ) (w : Written) → GoesQuoted (at + 1) p (opened at) text w → Leads at p (34 ∷ text) w
quoted_before at p text w g =
    let long : length (g.more ++ 34 ∷ []) ≡ length g.more + 1 = length-append g.more (34 ∷ []) in
    token_before at p g.next (token.Word (record { at = at; quoted = true; text = g.more })) (34 ∷ text) g.rest w (ap (λ z. 34 ∷ z) (g.is ∙ sym (append_assoc g.more (34 ∷ []) g.rest)))
    (refl, and_from (nat_lt 0 (length g.more)) (list_all is_name_byte g.more) (lt-ltb 0 (length g.more) g.some) g.named)
    g.word (moved (at + 1 + length g.more + 1) (at + suc (length (g.more ++ 34 ∷ []))) g.next g.rest w (omega arith) g.leads)

-- the token that a mark is has its byte alone, and may be there
one_mark : (p : Parse) (at : ℕ) (m : Mark) → spelling (token_of p at m) ≡ mark_byte m ∷ []
one_mark p at Dot = go (takes_ends p p.stage)
  where
    go : (b : Bool) → spelling (if b then token.AnyEnd at else token.Mark Dot) ≡ 46 ∷ []
    go true = refl
    go false = refl
one_mark p at Less = refl
one_mark p at Greater = refl
one_mark p at OpenRound = refl
one_mark p at CloseRound = refl
one_mark p at OpenSquare = refl
one_mark p at CloseSquare = refl
one_mark p at Hash = refl
one_mark p at Comma = refl
one_mark p at Caret = refl
one_mark p at Star = refl
one_mark p at Plus = refl
one_mark p at Question = refl
one_mark p at Bar = refl

is_mark : (p : Parse) (at : ℕ) (m : Mark) (rest : List ℕ) → IsToken at (token_of p at m) rest
is_mark p at Dot rest = go (takes_ends p p.stage)
  where
    go : (b : Bool) → IsToken at (if b then token.AnyEnd at else token.Mark Dot) rest
    go true = refl
    go false = tt
is_mark p at Less rest = tt
is_mark p at Greater rest = tt
is_mark p at OpenRound rest = tt
is_mark p at CloseRound rest = tt
is_mark p at OpenSquare rest = tt
is_mark p at CloseSquare rest = tt
is_mark p at Hash rest = tt
is_mark p at Comma rest = tt
is_mark p at Caret rest = tt
is_mark p at Star rest = tt
is_mark p at Plus rest = tt
is_mark p at Question rest = tt
is_mark p at Bar rest = tt

-- the byte of a mark is the mark
abbrev IsMarkOf : ℕ → Option Mark → Type 0
IsMarkOf b o = (m : Mark) → o ≡ Some m → mark_byte m ≡ b

mark_is : (b n : ℕ) (m : Mark) → mark_byte m ≡ n → (b == n) ≡ true → IsMarkOf b (Some m)
mark_is b n m is e k f = let same : m ≡ k = cc in ap mark_byte (sym same) ∙ is ∙ sym (eqb-true b n e)

marks_are : (b : ℕ) → IsMarkOf b (mark_of b)
marks_are b =
    cond_both (b == 60) _ _ (IsMarkOf b) (mark_is b 60 Less refl)
    (λ _. cond_both (b == 62) _ _ (IsMarkOf b) (mark_is b 62 Greater refl)
    (λ _. cond_both (b == 40) _ _ (IsMarkOf b) (mark_is b 40 OpenRound refl)
    (λ _. cond_both (b == 41) _ _ (IsMarkOf b) (mark_is b 41 CloseRound refl)
    (λ _. cond_both (b == 91) _ _ (IsMarkOf b) (mark_is b 91 OpenSquare refl)
    (λ _. cond_both (b == 93) _ _ (IsMarkOf b) (mark_is b 93 CloseSquare refl)
    (λ _. cond_both (b == 35) _ _ (IsMarkOf b) (mark_is b 35 Hash refl)
    (λ _. cond_both (b == 46) _ _ (IsMarkOf b) (mark_is b 46 Dot refl)
    (λ _. cond_both (b == 44) _ _ (IsMarkOf b) (mark_is b 44 Comma refl)
    (λ _. cond_both (b == 94) _ _ (IsMarkOf b) (mark_is b 94 Caret refl)
    (λ _. cond_both (b == 42) _ _ (IsMarkOf b) (mark_is b 42 Star refl)
    (λ _. cond_both (b == 43) _ _ (IsMarkOf b) (mark_is b 43 Plus refl)
    (λ _. cond_both (b == 63) _ _ (IsMarkOf b) (mark_is b 63 Question refl)
    (λ _. cond_both (b == 124) _ _ (IsMarkOf b) (mark_is b 124 Bar refl)
    (λ _ m f. (let none : None ≡ Some m = f in cc)))))))))))))))

abbrev if_quoted : Bool → Type 0 → Type 0 → Type 0
if_quoted true P Q = Q
if_quoted false P Q = P

-- what is left of a text leads to an end, by what is begun
abbrev Left : ℕ → Parse → Option Named → List ℕ → Written → Type 0
Left at p None text w = Leads at p text w
Left at p (Some n) text w = if_quoted n.quoted (Goes at p n text w) (GoesQuoted at p n text w)

-- the bytes of a text lead on, whatever was read before
abbrev AreLeading : List ℕ → Type 0
AreLeading text = (at : ℕ) (p : Parse) (o : Option Named) (r : Reading) (w : Written) → after_bytes (reading at p o) text ≡ Some r → finished r ≡ Some w → Left at p o text w

-- a byte and what it leads to
abbrev From : Option Reading → List ℕ → Written → Type 0
From o text w = (r : Reading) × (option_and_then (λ t. after_bytes t text) o ≡ Some r) × (finished r ≡ Some w)

as_plain : (at : ℕ) (p : Parse) (n : Named) (text : List ℕ) (w : Written) → n.quoted ≡ false → Left at p (Some n) text w → Goes at p n text w
as_plain at p n text w e h = subst (λ z. if_quoted z (Goes at p n text w) (GoesQuoted at p n text w)) e h

as_quoted : (at : ℕ) (p : Parse) (n : Named) (text : List ℕ) (w : Written) → n.quoted ≡ true → Left at p (Some n) text w → GoesQuoted at p n text w
as_quoted at p n text w e h = subst (λ z. if_quoted z (Goes at p n text w) (GoesQuoted at p n text w)) e h

-- from a name that is kept
from_kept : (at : ℕ) (p : Parse) (n : Named) (text : List ℕ) (w : Written) → AreLeading text → From (keep at p n) text w → Left at p (Some n) text w
from_kept at p n text w ih f = go (admits p n) refl
  where
    go : (b : Bool) → admits p n ≡ b → Left at p (Some n) text w
    go true e = ih at p (Some n) f.0 w (sym (ap (λ z. option_and_then (λ t. after_bytes t text) (if z then Some (reading at p (Some n)) else None)) e) ∙ f.1) f.2
    go false e = (let none : None ≡ Some f.0 = sym (ap (λ z. option_and_then (λ t. after_bytes t text) (if z then Some (reading at p (Some n)) else None)) e) ∙ f.1 in cc)

-- behind a token
from_behind : (at : ℕ) (o : Option Parse) (text : List ℕ) (w : Written) → AreLeading text → From (behind at o) text w → (q : Parse) × (o ≡ Some q) × Leads at q text w
from_behind at None text w ih f = (let none : None ≡ Some f.0 = f.1 in cc)
from_behind at (Some q) text w ih f = (q, refl, ih at q None f.0 w f.1 f.2)

-- where nothing is begun
between : (at : ℕ) (p : Parse) (b : ℕ) (text : List ℕ) (w : Written) → AreLeading text → From (begin at (at + 1) p b) text w → Leads at p (b ∷ text) w
between at p b text w ih f = by_plain (is_plain b) refl
  where
    by_mark : (o : Option Mark) → mark_of b ≡ o → From (option_and_then (λ m. behind (at + 1) (after p (token_of p at m))) o) text w → Leads at p (b ∷ text) w
    by_mark None e g = (let none : None ≡ Some g.0 = g.1 in cc)
    by_mark (Some m) e g =
        let found = from_behind (at + 1) (after p (token_of p at m)) text w ih g in
        let one = one_mark p at m in
        token_before at p found.0 (token_of p at m) (b ∷ text) text w (ap (λ z. z ∷ text) (sym (marks_are b m e)) ∙ ap (λ z. z ++ text) (sym one)) (is_mark p at m text) found.1 (subst (λ z. Leads (at + length z) found.0 text w) (sym one) found.2)

    by_quote : (c : Bool) → (b == 34) ≡ c → From (if c then keep (at + 1) p (opened at) else option_and_then (λ m. behind (at + 1) (after p (token_of p at m))) (mark_of b)) text w → Leads at p (b ∷ text) w
    by_quote true e g = subst (λ z. Leads at p (z ∷ text) w) (sym (eqb-true b 34 e)) (quoted_before at p text w (as_quoted (at + 1) p (opened at) text w refl (from_kept (at + 1) p (opened at) text w ih g)))
    by_quote false e g = by_mark (mark_of b) refl g

    by_space : (c : Bool) → is_space b ≡ c → From (if c then Some (reading (at + 1) p None) else if b == 34 then keep (at + 1) p (opened at) else option_and_then (λ m. behind (at + 1) (after p (token_of p at m))) (mark_of b)) text w → Leads at p (b ∷ text) w
    by_space true e g =
        let later = ih (at + 1) p None g.0 w g.1 g.2 in
        record { tokens = later.tokens; spells = space_before at b later.tokens text e later.spells; last = later.last; all = later.all; ends = later.ends }
    by_space false e g = by_quote (b == 34) refl g

    by_plain : (c : Bool) → is_plain b ≡ c → Leads at p (b ∷ text) w
    by_plain true e =
        plain_before at p b text w e
        (as_plain (at + 1) p (plain at (b ∷ [])) text w refl (from_kept (at + 1) p (plain at (b ∷ [])) text w ih
        (f.0, sym (ap (λ z. option_and_then (λ t. after_bytes t text) (if z then keep (at + 1) p (plain at (b ∷ [])) else if is_space b then Some (reading (at + 1) p None) else if b == 34 then keep (at + 1) p (opened at) else option_and_then (λ m. behind (at + 1) (after p (token_of p at m))) (mark_of b))) e) ∙ f.1, f.2)))
    by_plain false e =
        by_space (is_space b) refl
        (f.0, sym (ap (λ z. option_and_then (λ t. after_bytes t text) (if z then keep (at + 1) p (plain at (b ∷ [])) else if is_space b then Some (reading (at + 1) p None) else if b == 34 then keep (at + 1) p (opened at) else option_and_then (λ m. behind (at + 1) (after p (token_of p at m))) (mark_of b))) e) ∙ f.1, f.2)

-- behind a name without quotation marks
in_plain : (at : ℕ) (p : Parse) (n : Named) (b : ℕ) (text : List ℕ) (w : Written) → n.quoted ≡ false → AreLeading text → From (after_plain at (at + 1) p n b) text w → Goes at p n (b ∷ text) w
in_plain at p n b text w quote ih f = go (is_plain b) refl f
  where
    longer_goes : is_plain b ≡ true → Goes (at + 1) p (longer n (b ∷ [])) text w → Goes at p n (b ∷ text) w
    longer_goes e g = record {
      more = b ∷ g.more;
      rest = g.rest;
      is = ap (λ z. b ∷ z) g.is;
      plain = and_from (is_plain b) (list_all is_plain g.more) e g.plain;
      apart = g.apart;
      next = g.next;
      word = ap (λ z. after p (token.Word z)) (sym (longer_more n (b ∷ []) g.more)) ∙ g.word;
      leads = moved (at + 1 + length g.more) (at + suc (length g.more)) g.next g.rest w (omega arith) g.leads;
    }

    ended : is_plain b ≡ false → (o : Option Parse) → after p (token.Word n) ≡ o → From (option_and_then (λ q. begin at (at + 1) q b) o) text w → Goes at p n (b ∷ text) w
    ended e None h g = (let none : None ≡ Some g.0 = g.1 in cc)
    ended e (Some q) h g = record {
      more = [];
      rest = b ∷ text;
      is = refl;
      plain = refl;
      apart = e;
      next = q;
      word = ap (λ z. after p (token.Word z)) (no_more n) ∙ h;
      leads = moved at (at + 0) q (b ∷ text) w (omega arith) (between at q b text w ih g);
    }

    go : (c : Bool) → is_plain b ≡ c → From (if c then keep (at + 1) p (longer n (b ∷ [])) else option_and_then (λ q. begin at (at + 1) q b) (after p (token.Word n))) text w → Goes at p n (b ∷ text) w
    go true e g = longer_goes e (as_plain (at + 1) p (longer n (b ∷ [])) text w quote (from_kept (at + 1) p (longer n (b ∷ [])) text w ih g))
    go false e g = ended e (after p (token.Word n)) refl g

-- behind a quotation mark
in_quoted : (at : ℕ) (p : Parse) (n : Named) (b : ℕ) (text : List ℕ) (w : Written) → n.quoted ≡ true → AreLeading text → From (after_quoted (at + 1) p n b) text w → GoesQuoted at p n (b ∷ text) w
in_quoted at p n b text w quote ih f = by_quote (b == 34) refl f
  where
    ended : (b == 34) ≡ true → 0 < length n.text → From (behind (at + 1) (after p (token.Word n))) text w → GoesQuoted at p n (b ∷ text) w
    ended e some g =
        let found = from_behind (at + 1) (after p (token.Word n)) text w ih g in
        record {
          more = [];
          rest = text;
          is = ap (λ z. z ∷ text) (eqb-true b 34 e);
          named = refl;
          some = subst (λ z. 0 < length z) (sym (append-nil n.text)) some;
          next = found.0;
          word = ap (λ z. after p (token.Word z)) (no_more n) ∙ found.1;
          leads = moved (at + 1) (at + 0 + 1) found.0 text w (omega arith) found.2;
        }

    by_length : (b == 34) ≡ true → (c : Bool) → nat_lt 0 (length n.text) ≡ c → From (if c then behind (at + 1) (after p (token.Word n)) else None) text w → GoesQuoted at p n (b ∷ text) w
    by_length e true h g = ended e (ltb-true 0 (length n.text) h) g
    by_length e false h g = (let none : None ≡ Some g.0 = g.1 in cc)

    longer_goes : is_name_byte b ≡ true → GoesQuoted (at + 1) p (longer n (b ∷ [])) text w → GoesQuoted at p n (b ∷ text) w
    longer_goes e g = record {
      more = b ∷ g.more;
      rest = g.rest;
      is = ap (λ z. b ∷ z) g.is;
      named = and_from (is_name_byte b) (list_all is_name_byte g.more) e g.named;
      some = subst (λ z. 0 < length z) (append_assoc n.text (b ∷ []) g.more) g.some;
      next = g.next;
      word = ap (λ z. after p (token.Word z)) (sym (longer_more n (b ∷ []) g.more)) ∙ g.word;
      leads = moved (at + 1 + length g.more + 1) (at + suc (length g.more) + 1) g.next g.rest w (omega arith) g.leads;
    }

    by_name : (c : Bool) → is_name_byte b ≡ c → From (if c then Some (reading (at + 1) p (Some (longer n (b ∷ [])))) else None) text w → GoesQuoted at p n (b ∷ text) w
    by_name true e g = longer_goes e (as_quoted (at + 1) p (longer n (b ∷ [])) text w quote (ih (at + 1) p (Some (longer n (b ∷ []))) g.0 w g.1 g.2))
    by_name false e g = (let none : None ≡ Some g.0 = g.1 in cc)

    by_quote : (c : Bool) → (b == 34) ≡ c → From (if c then end_quoted (at + 1) p n else if is_name_byte b then Some (reading (at + 1) p (Some (longer n (b ∷ [])))) else None) text w → GoesQuoted at p n (b ∷ text) w
    by_quote true e g = by_length e (nat_lt 0 (length n.text)) refl g
    by_quote false e g = by_name (is_name_byte b) refl g

-- behind a name that is begun, by whether it stands between quotation marks
behind_name : (at : ℕ) (p : Parse) (n : Named) (b : ℕ) (text : List ℕ) (w : Written) → AreLeading text → (c : Bool) → n.quoted ≡ c → From (if c then after_quoted (at + 1) p n b else after_plain at (at + 1) p n b) text w
    → if_quoted c (Goes at p n (b ∷ text) w) (GoesQuoted at p n (b ∷ text) w)
behind_name at p n b text w ih true e f = in_quoted at p n b text w e ih f
behind_name at p n b text w ih false e f = in_plain at p n b text w e ih f

at_end : (at : ℕ) (p : Parse) (n : Named) (w : Written) (c : Bool) → n.quoted ≡ c → (if c then None else option_and_then finish (after p (token.Word n))) ≡ Some w → if_quoted c (Goes at p n [] w) (GoesQuoted at p n [] w)
at_end at p n w true e f = cc
at_end at p n w false e f =
    let found = then_some finish (after p (token.Word n)) w f in
    record {
      more = [];
      rest = [];
      is = refl;
      plain = refl;
      apart = refl;
      next = found.0;
      word = ap (λ z. after p (token.Word z)) (no_more n) ∙ found.1;
      leads = record { tokens = []; spells = refl; last = found.0; all = refl; ends = found.2 };
    }

all_leading : (text : List ℕ) → AreLeading text
all_leading [] at p None r w e f = let is : reading at p None ≡ r = cc in record { tokens = []; spells = refl; last = p; all = refl; ends = ap finished is ∙ f }
all_leading [] at p (Some n) r w e f = let is : reading at p (Some n) ≡ r = cc in at_end at p n w n.quoted refl (ap finished is ∙ f)
all_leading (b ∷ text) at p None r w e f = between at p b text w (all_leading text) (r, e, f)
all_leading (b ∷ text) at p (Some n) r w e f = behind_name at p n b text w (all_leading text) n.quoted refl (r, e, f)

pub bytes_lead : (text : List ℕ) (at : ℕ) (p : Parse) (r : Reading) (w : Written) → after_bytes (reading at p None) text ≡ Some r → finished r ≡ Some w → Leads at p text w
bytes_lead text at p r w e f = all_leading text at p None r w e f
