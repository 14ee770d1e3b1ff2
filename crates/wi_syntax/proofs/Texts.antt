-- A text is read to an end just where it is a query's, and stops where it stops being one.
use Rattle.std.proofs.Common.{◌≡◌, ℕ, zero, suc, ◌+◌, Bool, true, false, ◌↔◌, List, [], ◌∷◌, ◌++◌, length, drop, Option, Some, None, refl, sym, ap, ◌∙◌, subst, arith}
use Rattle.std.specs.Prelude.{◌==◌, nat_lt, is_some, if◌then◌else◌}
use Rattle.std.specs.Option.{option_and_then}
use Rattle.std.specs.Char.{encode_utf8}
use Rattle.std.specs.Str.{IsCharBoundary, IsUtf8}
use Rattle.std.proofs.lemmas.Str.{length-encode}
use Rattle.std.proofs.lemmas.Str.{IsCharBoundary-start, IsCharBoundary-end, IsCharBoundary-past_char, IsUtf8-drop}
use Rattle.std.proofs.lemmas.List.{append-nil, append_assoc, length-append, nil_from_length}
use Rattle.wi_text.specs.Characters.{is_name_byte, is_plain, is_space}
use Rattle.wi_text.specs.Prefixes.{IsFaultAt}
use Rattle.wi_text.specs.private.Machines.{at_end, goes_on, first_stop}
use Rattle.wi_text.proofs.Stops.{fault_at}
use Rattle.wi_syntax.specs.Names.{Named}
use Rattle.wi_syntax.specs.declared.token.Token.{Token}
use Rattle.wi_syntax.specs.declared.token.Token.TheVariants as token
use Rattle.wi_syntax.specs.declared.written.Written.{Written}
use Rattle.wi_syntax.specs.declared.parser.Stage.{Stage}
use Rattle.wi_syntax.specs.declared.parser.Stage.TheVariants as stage
use Rattle.wi_syntax.specs.declared.parser.Owner.TheVariants as owner
use Rattle.wi_syntax.specs.Tokens.{IsTokens}
use Rattle.wi_syntax.specs.Grammar.{plain, tokens_of, Reads, IsQueryText}
use Rattle.wi_syntax.specs.private.Parsing.{Parse, start, after, token_of}
use Rattle.wi_syntax.specs.private.Reading.{Reading, reading, mark_of, admits, keep, behind, longer, begin, after_plain, end_quoted, after_quoted, after_byte, after_char, after_bytes, finished, may_stop, nothing_read}
use Rattle.wi_syntax.proofs.Options.{if_some, map_some, then_some}
use Rattle.wi_syntax.proofs.Shown.{Good, step, start_good, all_shown, finished_is}
use Rattle.wi_syntax.proofs.Building.{query_leads}
use Rattle.wi_syntax.proofs.Bytes.{Ends, tokens_lead}
use Rattle.wi_syntax.proofs.Cutting.{bytes_lead}
use Rattle.wi_syntax.proofs.Completing.{HasNumber, completable, finishes}
use Rattle.wi_syntax.proofs.Chars.{Does, char_does}

-- ---- texts that are read to an end

pub read_is : (text : List ℕ) (r : Reading) (w : Written) → after_bytes nothing_read text ≡ Some r → finished r ≡ Some w → Reads text w
read_is text r w e f =
    let leads = bytes_lead text 0 start r w e f in
    let shown = all_shown start leads.last leads.tokens start_good leads.all in
    let is = finished_is leads.last w shown.1 leads.ends in
    let same : leads.tokens ≡ tokens_of w = sym (append-nil leads.tokens) ∙ sym (shown.0 []) ∙ sym is.0 in
    record { form = is.1; tokens = subst (λ z. IsTokens z text) same leads.spells }

pub is_read : (text : List ℕ) (w : Written) → Reads text w → Ends (after_bytes nothing_read text) w
is_read text w h = let leads = query_leads w h.form in tokens_lead (tokens_of w) 0 start leads.0 text w h.tokens leads.1 leads.2

pub one_way : (text : List ℕ) (v w : Written) → Reads text v → Reads text w → v ≡ w
one_way text v w h k =
    let a = is_read text v h in
    let b = is_read text w k in
    let same : Some a.0 ≡ Some b.0 = sym a.1 ∙ b.1 in
    let is : a.0 ≡ b.0 = cc in
    let found : Some v ≡ Some w = sym a.2 ∙ ap finished is ∙ b.2 in
    cc

-- ---- where a text stops

abbrev stop : Reading → ℕ → List ℕ → Option ℕ
stop r i text = first_stop after_byte may_stop r i text

-- the bytes are read, and the text may end
abbrev ReadsOn : Option Reading → Type 0
ReadsOn o = (r : Reading) × (o ≡ Some r) × (may_stop r ≡ true)

end_none : (b : Bool) (i : ℕ) → at_end b i ≡ None → b ≡ true
end_none true i e = refl
end_none false i e = cc

reads_on : (text : List ℕ) (r : Reading) (i : ℕ) → stop r i text ≡ None → ReadsOn (after_bytes r text)
reads_on [] r i e = (r, refl, end_none (may_stop r) i e)
reads_on (b ∷ text) r i e = go (after_byte r b) (λ t f. reads_on text t (i + 1) f) e
  where
    go : (o : Option Reading) → ((t : Reading) → stop t (i + 1) text ≡ None → ReadsOn (after_bytes t text)) → goes_on o i (λ t. stop t (i + 1) text) ≡ None → ReadsOn (option_and_then (λ t. after_bytes t text) o)
    go None ih f = cc
    go (Some t) ih f = ih t f

no_stop : (text : List ℕ) (r : Reading) (i : ℕ) → ReadsOn (after_bytes r text) → stop r i text ≡ None
no_stop [] r i h = let is : r ≡ h.0 = (let e = h.1 in cc) in ap (λ z. at_end (may_stop z) i) is ∙ ap (λ z. at_end z i) h.2
no_stop (b ∷ text) r i h =
    let found = then_some (λ t. after_bytes t text) (after_byte r b) h.0 h.1 in
    ap (λ z. goes_on z i (λ t. stop t (i + 1) text)) found.1 ∙ no_stop text found.0 (i + 1) (h.0, found.2, h.2)

some_is : {X : Type 0} (o : Option X) → is_some o ≡ true → (x : X) × (o ≡ Some x)
some_is None e = cc
some_is (Some x) e = (x, refl)

ends_on : (o : Option Reading) (w : Written) → Ends o w → ReadsOn o
ends_on o w h = (h.0, h.1, ap is_some h.2)

accepts : (text : List ℕ) → IsQueryText text ↔ (stop nothing_read 0 text ≡ None)
accepts text = (
  (λ h. no_stop text nothing_read 0 (ends_on (after_bytes nothing_read text) h.0 (is_read text h.0 h.1))),
  (λ e. (let on = reads_on text nothing_read 0 e in let found = some_is (finished on.0) on.2 in (found.0, read_is text on.0 found.0 on.1 found.1))),
)

-- ---- what is so wherever a reader comes to

abbrev IsBegun : Parse → Option Named → Type 0
IsBegun p None = Unit {0}
IsBegun p (Some n) = admits p n ≡ true

abbrev Reached : Reading → Type 0
Reached r = Good r.parse.stage r.parse × IsBegun r.parse r.begun

by_token : (at : ℕ) (p : Parse) (t : Token) (s : Reading) → Good p.stage p → behind at (after p t) ≡ Some s → Reached s
by_token at p t s g e =
    let found = map_some (λ q. reading at q None) (after p t) s e in
    subst Reached found.2 ((step p found.0 t g found.1).good, tt)

by_name : (at : ℕ) (p : Parse) (n : Named) (s : Reading) → Good p.stage p → keep at p n ≡ Some s → Reached s
by_name at p n s g e = let found = if_some (admits p n) (reading at p (Some n)) s e in subst Reached found.1 (g, found.0)

by_begin : (at next : ℕ) (p : Parse) (b : ℕ) (s : Reading) → Good p.stage p → begin at next p b ≡ Some s → Reached s
by_begin at next p b s g e = by_plain (is_plain b) e
  where
    by_quote : (c : Bool) → (if c then keep next p (record { at = at; quoted = true; text = [] }) else option_and_then (λ m. behind next (after p (token_of p at m))) (mark_of b)) ≡ Some s → Reached s
    by_quote true f = by_name next p (record { at = at; quoted = true; text = [] }) s g f
    by_quote false f = let found = then_some (λ m. behind next (after p (token_of p at m))) (mark_of b) s f in by_token next p (token_of p at found.0) s g found.2

    by_space : (c : Bool) → (if c then Some (reading next p None) else if b == 34 then keep next p (record { at = at; quoted = true; text = [] }) else option_and_then (λ m. behind next (after p (token_of p at m))) (mark_of b)) ≡ Some s → Reached s
    by_space true f = let is : reading next p None ≡ s = cc in subst Reached is (g, tt)
    by_space false f = by_quote (b == 34) f

    by_plain : (c : Bool) → (if c then keep next p (plain at (b ∷ [])) else if is_space b then Some (reading next p None) else if b == 34 then keep next p (record { at = at; quoted = true; text = [] }) else option_and_then (λ m. behind next (after p (token_of p at m))) (mark_of b)) ≡ Some s → Reached s
    by_plain true f = by_name next p (plain at (b ∷ [])) s g f
    by_plain false f = by_space (is_space b) f

-- a name between quotation marks is admitted whatever its characters are
admits_quoted : (p : Parse) (n m : Named) → n.quoted ≡ true → m.quoted ≡ true → admits p n ≡ true → admits p m ≡ true
admits_quoted p n m q k e = rw k (rw q at e)

if_behind : {X : Type 0} (c : Bool) (o : Option X) (s : X) → (if c then o else None) ≡ Some s → o ≡ Some s
if_behind true o s e = e
if_behind false o s e = cc

keeps : (r s : Reading) (b : ℕ) → Reached r → after_byte r b ≡ Some s → Reached s
keeps r s b h e = go r.begun h.1 e
  where
    in_quoted : (n : Named) → n.quoted ≡ true → admits r.parse n ≡ true → after_quoted (r.at + 1) r.parse n b ≡ Some s → Reached s
    in_quoted n q ok f = by_quote (b == 34) f
      where
        by_named : (c : Bool) → (if c then Some (reading (r.at + 1) r.parse (Some (longer n (b ∷ [])))) else None) ≡ Some s → Reached s
        by_named true g = let is : reading (r.at + 1) r.parse (Some (longer n (b ∷ []))) ≡ s = cc in subst Reached is (h.0, admits_quoted r.parse n (longer n (b ∷ [])) q q ok)
        by_named false g = cc

        by_quote : (c : Bool) → (if c then end_quoted (r.at + 1) r.parse n else if is_name_byte b then Some (reading (r.at + 1) r.parse (Some (longer n (b ∷ [])))) else None) ≡ Some s → Reached s
        by_quote true g = by_token (r.at + 1) r.parse (token.Word n) s h.0 (if_behind (nat_lt 0 (length n.text)) (behind (r.at + 1) (after r.parse (token.Word n))) s g)
        by_quote false g = by_named (is_name_byte b) g

    in_plain : (n : Named) → after_plain r.at (r.at + 1) r.parse n b ≡ Some s → Reached s
    in_plain n f = by_plain (is_plain b) f
      where
        by_plain : (c : Bool) → (if c then keep (r.at + 1) r.parse (longer n (b ∷ [])) else option_and_then (λ q. begin r.at (r.at + 1) q b) (after r.parse (token.Word n))) ≡ Some s → Reached s
        by_plain true g = by_name (r.at + 1) r.parse (longer n (b ∷ [])) s h.0 g
        by_plain false g =
            let found = then_some (λ q. begin r.at (r.at + 1) q b) (after r.parse (token.Word n)) s g in
            by_begin r.at (r.at + 1) found.0 b s (step r.parse found.0 (token.Word n) h.0 found.1).good found.2

    by_quoted : (n : Named) → admits r.parse n ≡ true → (c : Bool) → n.quoted ≡ c → (if c then after_quoted (r.at + 1) r.parse n b else after_plain r.at (r.at + 1) r.parse n b) ≡ Some s → Reached s
    by_quoted n ok true q f = in_quoted n q ok f
    by_quoted n ok false q f = in_plain n f

    go : (o : Option Named) → IsBegun r.parse o → elim o [ None ↦ begin r.at (r.at + 1) r.parse b | Some n ↦ if n.quoted then after_quoted (r.at + 1) r.parse n b else after_plain r.at (r.at + 1) r.parse n b ] ≡ Some s → Reached s
    go None ok f = by_begin r.at (r.at + 1) r.parse b s h.0 f
    go (Some n) ok f = by_quoted n ok n.quoted refl f

has_number : (at : Stage) (p : Parse) → Good at p → HasNumber at p
has_number stage.Start p g = tt
has_number (stage.Labels h) p g = tt
has_number (stage.LabelList h) p g = tt
has_number stage.Links p g = tt
has_number (stage.LinkList owner.Path) p g = tt
has_number (stage.LinkList owner.Down) p g = (g.read.1.1.0, g.read.1.1.1)
has_number (stage.LinkList owner.Up) p g = (g.read.1.0.1.0, g.read.1.0.1.1)
has_number stage.Number p g = tt
has_number stage.BehindNumber p g = (g.read.0.1.0, g.read.0.1.1)
has_number stage.DownDue p g = (g.read.0.1.0, g.read.0.1.1)
has_number stage.BehindDown p g = (g.read.0.1.0, g.read.0.1.1)
has_number stage.UpDue p g = (g.read.0.1.0, g.read.0.1.1)
has_number stage.BehindUp p g = (g.read.0.1.0, g.read.0.1.1)

completes : (r : Reading) (i : ℕ) → Reached r → (more : List ℕ) × (stop r i more ≡ None)
completes r i h = go r.begun refl h.1
  where
    number : HasNumber r.parse.stage r.parse
    number = has_number r.parse.stage r.parse h.0

    whole : (n : Option Named) → r.begun ≡ n → reading r.at r.parse n ≡ r
    whole n e = ap (λ z. reading r.at r.parse z) (sym e)

    go : (o : Option Named) → r.begun ≡ o → IsBegun r.parse o → (more : List ℕ) × (stop r i more ≡ None)
    go None e ok = let found = completable r.parse number r.at in (found.0, subst (λ z. stop z i found.0 ≡ None) (whole None e) (no_stop found.0 (reading r.at r.parse None) i (ends_on (after_bytes (reading r.at r.parse None) found.0) found.1 found.2)))
    go (Some n) e ok = let found = finishes r.at r.parse n number ok in (found.0, subst (λ z. stop z i found.0 ≡ None) (whole (Some n) e) (no_stop found.0 (reading r.at r.parse (Some n)) i (ends_on (after_bytes (reading r.at r.parse (Some n)) found.0) found.1 found.2)))

pub fault_is : (text : List ℕ) (k : ℕ) → IsCharBoundary text k → stop nothing_read 0 text ≡ Some k → IsFaultAt IsQueryText text k
fault_is text k boundary e = fault_at after_byte may_stop Reached keeps completes IsQueryText nothing_read (start_good, tt) accepts text k boundary e

-- ---- the reader's places

-- after the bytes before a place, and a character there that goes nowhere
pub stops_there : (front : List ℕ) (r s : Reading) (i c : ℕ) (rest : List ℕ) → after_bytes r front ≡ Some s → after_char s c ≡ None → stop r i (front ++ (encode_utf8 c ++ rest)) ≡ Some (i + length front)
stops_there [] r s i c rest e h =
    let does = subst (Does s c) h (char_does s c) in
    let is : r ≡ s = cc in
    ap (λ z. stop r i (z ++ rest)) does.2 ∙ ap (λ z. goes_on (after_byte z does.0) i (λ t. stop t (i + 1) (does.1 ++ rest))) is ∙ ap (λ z. goes_on z i (λ t. stop t (i + 1) (does.1 ++ rest))) does.3 ∙ ap Some (let k : i ≡ i + 0 = omega arith in k)
stops_there (b ∷ front) r s i c rest e h =
    let found = then_some (λ t. after_bytes t front) (after_byte r b) s e in
    ap (λ z. goes_on z i (λ t. stop t (i + 1) (front ++ (encode_utf8 c ++ rest)))) found.1 ∙ stops_there front found.0 s (i + 1) c rest found.2 h ∙ ap Some (let k : i + 1 + length front ≡ i + suc (length front) = omega arith in k)

pub stops_last : (text : List ℕ) (r s : Reading) (i : ℕ) → after_bytes r text ≡ Some s → finished s ≡ None → stop r i text ≡ Some (i + length text)
stops_last [] r s i e h = let is : r ≡ s = cc in ap (λ z. at_end (may_stop z) i) is ∙ ap (λ z. at_end (is_some z) i) h ∙ ap Some (let k : i ≡ i + 0 = omega arith in k)
stops_last (b ∷ text) r s i e h =
    let found = then_some (λ t. after_bytes t text) (after_byte r b) s e in
    ap (λ z. goes_on z i (λ t. stop t (i + 1) text)) found.1 ∙ stops_last text found.0 s (i + 1) found.2 h ∙ ap Some (let k : i + 1 + length text ≡ i + suc (length text) = omega arith in k)

pub more_bytes : (xs ys : List ℕ) (r s t : Reading) → after_bytes r xs ≡ Some s → after_bytes s ys ≡ Some t → after_bytes r (xs ++ ys) ≡ Some t
more_bytes [] ys r s t e f = let is : r ≡ s = cc in ap (λ z. after_bytes z ys) is ∙ f
more_bytes (b ∷ xs) ys r s t e f =
    let found = then_some (λ q. after_bytes q xs) (after_byte r b) s e in
    ap (option_and_then (λ q. after_bytes q (xs ++ ys))) found.1 ∙ more_bytes xs ys found.0 s t found.2 f

-- how many bytes were read
at_moves : (r s : Reading) (b : ℕ) → after_byte r b ≡ Some s → s.at ≡ r.at + 1
at_moves r s b e = go r.begun e
  where
    behind_at : (next : ℕ) (o : Option Parse) → behind next o ≡ Some s → s.at ≡ next
    behind_at next o f = let found = map_some (λ q. reading next q None) o s f in ap (λ z. z.at) (sym found.2)

    keep_at : (next : ℕ) (p : Parse) (n : Named) → keep next p n ≡ Some s → s.at ≡ next
    keep_at next p n f = let found = if_some (admits p n) (reading next p (Some n)) s f in ap (λ z. z.at) (sym found.1)

    begin_at : (at next : ℕ) (p : Parse) → begin at next p b ≡ Some s → s.at ≡ next
    begin_at at next p f = by_plain (is_plain b) f
      where
        by_quote : (c : Bool) → (if c then keep next p (record { at = at; quoted = true; text = [] }) else option_and_then (λ m. behind next (after p (token_of p at m))) (mark_of b)) ≡ Some s → s.at ≡ next
        by_quote true g = keep_at next p (record { at = at; quoted = true; text = [] }) g
        by_quote false g = let found = then_some (λ m. behind next (after p (token_of p at m))) (mark_of b) s g in behind_at next (after p (token_of p at found.0)) found.2

        by_space : (c : Bool) → (if c then Some (reading next p None) else if b == 34 then keep next p (record { at = at; quoted = true; text = [] }) else option_and_then (λ m. behind next (after p (token_of p at m))) (mark_of b)) ≡ Some s → s.at ≡ next
        by_space true g = let is : reading next p None ≡ s = cc in ap (λ z. z.at) (sym is)
        by_space false g = by_quote (b == 34) g

        by_plain : (c : Bool) → (if c then keep next p (plain at (b ∷ [])) else if is_space b then Some (reading next p None) else if b == 34 then keep next p (record { at = at; quoted = true; text = [] }) else option_and_then (λ m. behind next (after p (token_of p at m))) (mark_of b)) ≡ Some s → s.at ≡ next
        by_plain true g = keep_at next p (plain at (b ∷ [])) g
        by_plain false g = by_space (is_space b) g

    quoted_at : (n : Named) → after_quoted (r.at + 1) r.parse n b ≡ Some s → s.at ≡ r.at + 1
    quoted_at n f = by_quote (b == 34) f
      where
        by_named : (c : Bool) → (if c then Some (reading (r.at + 1) r.parse (Some (longer n (b ∷ [])))) else None) ≡ Some s → s.at ≡ r.at + 1
        by_named true g = let is : reading (r.at + 1) r.parse (Some (longer n (b ∷ []))) ≡ s = cc in ap (λ z. z.at) (sym is)
        by_named false g = cc

        by_quote : (c : Bool) → (if c then end_quoted (r.at + 1) r.parse n else if is_name_byte b then Some (reading (r.at + 1) r.parse (Some (longer n (b ∷ [])))) else None) ≡ Some s → s.at ≡ r.at + 1
        by_quote true g = behind_at (r.at + 1) (after r.parse (token.Word n)) (if_behind (nat_lt 0 (length n.text)) (behind (r.at + 1) (after r.parse (token.Word n))) s g)
        by_quote false g = by_named (is_name_byte b) g

    plain_at : (n : Named) → after_plain r.at (r.at + 1) r.parse n b ≡ Some s → s.at ≡ r.at + 1
    plain_at n f = by_plain (is_plain b) f
      where
        by_plain : (c : Bool) → (if c then keep (r.at + 1) r.parse (longer n (b ∷ [])) else option_and_then (λ q. begin r.at (r.at + 1) q b) (after r.parse (token.Word n))) ≡ Some s → s.at ≡ r.at + 1
        by_plain true g = keep_at (r.at + 1) r.parse (longer n (b ∷ [])) g
        by_plain false g = let found = then_some (λ q. begin r.at (r.at + 1) q b) (after r.parse (token.Word n)) s g in begin_at r.at (r.at + 1) found.0 found.2

    by_quoted : (n : Named) (c : Bool) → (if c then after_quoted (r.at + 1) r.parse n b else after_plain r.at (r.at + 1) r.parse n b) ≡ Some s → s.at ≡ r.at + 1
    by_quoted n true f = quoted_at n f
    by_quoted n false f = plain_at n f

    go : (o : Option Named) → elim o [ None ↦ begin r.at (r.at + 1) r.parse b | Some n ↦ if n.quoted then after_quoted (r.at + 1) r.parse n b else after_plain r.at (r.at + 1) r.parse n b ] ≡ Some s → s.at ≡ r.at + 1
    go None f = begin_at r.at (r.at + 1) r.parse f
    go (Some n) f = by_quoted n n.quoted f

all_moves : (bs : List ℕ) (r s : Reading) → after_bytes r bs ≡ Some s → s.at ≡ r.at + length bs
all_moves [] r s e = (let is : r ≡ s = cc in ap (λ z. z.at) (sym is) ∙ (let k : r.at ≡ r.at + 0 = omega arith in k))
all_moves (b ∷ bs) r s e =
    let found = then_some (λ t. after_bytes t bs) (after_byte r b) s e in
    let one : (found.0).at ≡ r.at + 1 = at_moves r found.0 b found.1 in
    let more : s.at ≡ (found.0).at + length bs = all_moves bs found.0 s found.2 in
    omega arith

-- a reader at a place of a text: the bytes before it were read
pub record IsPlace (text rest : List ℕ) (at : ℕ) (r : Reading) : Type 0 where
  pub front : List ℕ
  pub split : text ≡ front ++ rest
  pub long : length front ≡ at
  pub boundary : IsCharBoundary text at
  pub read : after_bytes nothing_read front ≡ Some r

pub first_place : (text rest : List ℕ) (at : ℕ) (r : Reading) → IsUtf8 text → rest ≡ text → at ≡ 0 → r ≡ nothing_read → IsPlace text rest at r
first_place text rest at r utf8 e f is = record {
  front = [];
  split = sym e;
  long = sym f;
  boundary = subst (IsCharBoundary text) (sym f) (IsCharBoundary-start text utf8);
  read = ap Some (sym is);
}

drop_front : (front rest : List ℕ) (n : ℕ) → length front ≡ n → drop n (front ++ rest) ≡ rest
drop_front [] rest zero e = refl
drop_front [] rest (suc n) e = (let k : 0 ≡ suc n = e in absurd (omega arith))
drop_front (b ∷ front) rest zero e = (let k : suc (length front) ≡ 0 = e in absurd (omega arith))
drop_front (b ∷ front) rest (suc n) e = drop_front front rest n (let k : suc (length front) ≡ suc n = e in omega arith)

pub next_place : (text rest more : List ℕ) (at next c : ℕ) (r s : Reading) → IsUtf8 text → IsPlace text rest at r → rest ≡ encode_utf8 c ++ more → next ≡ at + length (encode_utf8 c) → after_char r c ≡ Some s → IsPlace text more next s × (s.at ≡ next)
next_place text rest more at next c r s utf8 here is n e = (
  record {
    front = here.front ++ encode_utf8 c;
    split = here.split ∙ ap (λ z. here.front ++ z) is ∙ sym (append_assoc here.front (encode_utf8 c) more);
    long = long;
    boundary = subst (IsCharBoundary text) (sym (n ∙ ap (λ z. at + z) (length-encode c))) (IsCharBoundary-past_char text more at c here.boundary.0 (IsUtf8-drop text at utf8 here.boundary) (ap (drop at) here.split ∙ drop_front here.front rest at here.long ∙ is));
    read = read;
  },
  (let moved : s.at ≡ 0 + length (here.front ++ encode_utf8 c) = all_moves (here.front ++ encode_utf8 c) nothing_read s read in let l = long in omega arith),
)
  where
    does : after_bytes r (encode_utf8 c) ≡ Some s
    does = subst (Does r c) e (char_does r c)

    read : after_bytes nothing_read (here.front ++ encode_utf8 c) ≡ Some s
    read = more_bytes here.front (encode_utf8 c) nothing_read r s here.read does

    long : length (here.front ++ encode_utf8 c) ≡ next
    long = (let both : length (here.front ++ encode_utf8 c) ≡ length here.front + length (encode_utf8 c) = length-append here.front (encode_utf8 c) in let l = here.long in omega arith)

pub stop_place : (text rest more : List ℕ) (at i c : ℕ) (r : Reading) → IsPlace text rest at r → i ≡ at → rest ≡ encode_utf8 c ++ more → after_char r c ≡ None → IsCharBoundary text i × (stop nothing_read 0 text ≡ Some i)
stop_place text rest more at i c r here same is e = (
  subst (IsCharBoundary text) (sym same) here.boundary,
  ap (stop nothing_read 0) (here.split ∙ ap (λ z. here.front ++ z) is) ∙ stops_there here.front nothing_read r 0 c more here.read e ∙ ap Some (let l = here.long in omega arith),
)

pub last_place : (text rest : List ℕ) (at : ℕ) (r : Reading) → IsPlace text rest at r → length rest ≡ 0 → after_bytes nothing_read text ≡ Some r
last_place text rest at r here none = ap (after_bytes nothing_read) (here.split ∙ ap (λ z. here.front ++ z) (nil_from_length rest none) ∙ append-nil here.front) ∙ here.read

pub end_fault : (text : List ℕ) (r : Reading) → IsUtf8 text → after_bytes nothing_read text ≡ Some r → finished r ≡ None → IsFaultAt IsQueryText text (length text)
end_fault text r utf8 e f = fault_is text (length text) (IsCharBoundary-end text) (stops_last text nothing_read r 0 e f ∙ ap Some (let k : 0 + length text ≡ length text = omega arith in k))
