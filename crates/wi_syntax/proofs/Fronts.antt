-- A text behind the front of a query that asks for anything: what it may be, and from which byte on its names stand.
use Rattle.std.proofs.Common.{◌≡◌, ℕ, ◌+◌, ◌≤◌, true, List, [], ◌∷◌, ◌++◌, length, Option, Some, None, refl, sym, ap, ◌∙◌, subst, arith}
use Rattle.std.specs.Prelude.{codes}
use Rattle.std.specs.Option.{option_and_then}
use Rattle.std.proofs.lemmas.List.{append-nil}
use Rattle.wi_text.specs.Spelling.{Spells}
use Rattle.wi_syntax.specs.declared.token.Mark.TheVariants.{Less, Greater, Dot, CloseSquare, Hash, Comma}
use Rattle.wi_syntax.specs.declared.token.Token.{Token}
use Rattle.wi_syntax.specs.declared.token.Token.TheVariants.{Mark, AnyEnd, Word}
use Rattle.wi_syntax.specs.declared.written.LabelAtom.{LabelAtom}
use Rattle.wi_syntax.specs.declared.written.LabelAtom.TheVariants as label
use Rattle.wi_syntax.specs.declared.written.LinkAtom.{LinkAtom}
use Rattle.wi_syntax.specs.declared.written.LinkAtom.TheVariants as link
use Rattle.wi_syntax.specs.declared.written.End.{End}
use Rattle.wi_syntax.specs.declared.written.End.TheVariants as end
use Rattle.wi_syntax.specs.declared.written.Pair.{Pair}
use Rattle.wi_syntax.specs.declared.written.Sign.{Sign}
use Rattle.wi_syntax.specs.declared.written.Sign.TheVariants as sign
use Rattle.wi_syntax.specs.declared.written.Known.{Known}
use Rattle.wi_syntax.specs.declared.written.Last.{Last}
use Rattle.wi_syntax.specs.declared.written.Last.TheVariants.{Header, Dropped}
use Rattle.wi_syntax.specs.declared.written.Written.{Written}
use Rattle.wi_syntax.specs.declared.parser.Stage.TheVariants as stage
use Rattle.wi_syntax.specs.Tokens.{spelling, IsToken}
use Rattle.wi_syntax.specs.Atoms.{label_tokens, link_tokens, end_tokens, pair_tokens, separated}
use Rattle.wi_syntax.specs.Trees.{signs_tokens}
use Rattle.wi_syntax.specs.Grammar.{plain, known_tokens, last_tokens, tokens_of, Reads, IsQueryText}
use Rattle.wi_syntax.specs.private.Behind.{IsEndFrom, ArePairsFrom, IsKnownFrom, IsBehind}
use Rattle.wi_syntax.specs.private.Lists.{no_names, no_pairs}
use Rattle.wi_syntax.specs.private.Parsing.{Parse, start}
use Rattle.wi_syntax.specs.private.Reading.{Reading, reading, after_byte, after_bytes, nothing_read}
use Rattle.wi_syntax.proofs.Options.{then_some}
use Rattle.wi_syntax.proofs.Shown.{start_good, all_shown, finished_is}
use Rattle.wi_syntax.proofs.Cutting.{bytes_lead}
use Rattle.wi_syntax.proofs.Texts.{read_is, is_read}

-- any first header, any path, any last header, and no failures
abbrev pub any_front : List ℕ
any_front = codes "<.> . <.> 0 "

-- ---- where its tokens are

abbrev IsFrom : ℕ → Token → Type 0
IsFrom n (Mark m) = Unit {0}
IsFrom n (AnyEnd at) = n ≤ at
IsFrom n (Word name) = n ≤ name.at

abbrev AreFrom : ℕ → List Token → Type 0
AreFrom n [] = Unit {0}
AreFrom n (t ∷ ts) = IsFrom n t × AreFrom n ts

token_from : (n at : ℕ) (t : Token) (rest : List ℕ) → n ≤ at → IsToken at t rest → IsFrom n t
token_from n at (Mark m) rest low is = tt
token_from n at (AnyEnd k) rest low is = (let e : k ≡ at = is in omega arith)
token_from n at (Word name) rest low is = (let e : name.at ≡ at = is.0 in omega arith)

spells_from : (n at : ℕ) (ts : List Token) (text : List ℕ) → n ≤ at → Spells spelling IsToken at ts text → AreFrom n ts
spells_from n at [] text low h = tt
spells_from n at (t ∷ ts) text low h =
    (token_from n (at + length h.0) t h.1 (omega arith) h.4, spells_from n (at + length h.0 + length (spelling t)) ts h.1 (omega arith) h.5)

end_from : (n : ℕ) (e : End) (rest : List Token) → AreFrom n (end_tokens e rest) → IsEndFrom n e × AreFrom n rest
end_from n (end.Any at) rest h = (h.0, h.1)
end_from n (end.Router router) rest h = (h.0, h.1)
end_from n (end.Interface router interface) rest h = ((h.0, h.1.1.0), h.1.1.1)

pairs_from : (n : ℕ) (pairs : List Pair) (rest : List Token) → AreFrom n (separated pair_tokens pairs rest) → ArePairsFrom n pairs
pairs_from n [] rest h = tt
pairs_from n (pair ∷ []) rest h =
    let left = end_from n pair.from (Mark Hash ∷ end_tokens pair.to rest) h in
    let right = end_from n pair.to rest left.1.1 in
    (left.0, right.0, tt)
pairs_from n (pair ∷ next ∷ pairs) rest h =
    let left = end_from n pair.from (Mark Hash ∷ end_tokens pair.to (Mark Comma ∷ separated pair_tokens (next ∷ pairs) rest)) h in
    let right = end_from n pair.to (Mark Comma ∷ separated pair_tokens (next ∷ pairs) rest) left.1.1 in
    (left.0, right.0, pairs_from n (next ∷ pairs) rest right.1.1)

-- what is behind a list, too
behind_pairs : (n : ℕ) (pairs : List Pair) (rest : List Token) → AreFrom n (separated pair_tokens pairs rest) → AreFrom n rest
behind_pairs n [] rest h = h
behind_pairs n (pair ∷ []) rest h = (end_from n pair.to rest (end_from n pair.from (Mark Hash ∷ end_tokens pair.to rest) h).1.1).1
behind_pairs n (pair ∷ next ∷ pairs) rest h =
    behind_pairs n (next ∷ pairs) rest
    (end_from n pair.to (Mark Comma ∷ separated pair_tokens (next ∷ pairs) rest) (end_from n pair.from (Mark Hash ∷ end_tokens pair.to (Mark Comma ∷ separated pair_tokens (next ∷ pairs) rest)) h).1.1).1.1

known_from : (n : ℕ) (word : List ℕ) (known : Option Known) (rest : List Token) → AreFrom n (known_tokens word known rest) → IsKnownFrom n known × AreFrom n rest
known_from n word None rest h = (tt, h)
known_from n word (Some known) rest h = (pairs_from n known.pairs (Mark CloseSquare ∷ rest) h.1.1, (behind_pairs n known.pairs (Mark CloseSquare ∷ rest) h.1.1).1)

-- ---- what they are behind

labels_end : (signs : List (Sign LabelAtom)) (rest more : List Token) → signs_tokens label_tokens signs (Mark Greater ∷ rest) ≡ Mark Greater ∷ more → (signs ≡ []) × (rest ≡ more)
labels_end [] rest more e = (refl, cc)
labels_end (sign.Atom label.Any ∷ signs) rest more e = cc
labels_end (sign.Atom (label.Name name) ∷ signs) rest more e = cc
labels_end (sign.Atom (label.List except names) ∷ signs) rest more e = cc
labels_end (sign.Open ∷ signs) rest more e = cc
labels_end (sign.Close ∷ signs) rest more e = cc
labels_end (sign.Star ∷ signs) rest more e = cc
labels_end (sign.Plus ∷ signs) rest more e = cc
labels_end (sign.Maybe ∷ signs) rest more e = cc
labels_end (sign.Or ∷ signs) rest more e = cc

labels_any : (signs : List (Sign LabelAtom)) (rest more : List Token) → signs_tokens label_tokens signs (Mark Greater ∷ rest) ≡ Mark Dot ∷ Mark Greater ∷ more → (signs ≡ sign.Atom label.Any ∷ []) × (rest ≡ more)
labels_any [] rest more e = cc
labels_any (sign.Atom label.Any ∷ signs) rest more e =
    let ends = labels_end signs rest more (let tail : signs_tokens label_tokens signs (Mark Greater ∷ rest) ≡ Mark Greater ∷ more = cc in tail) in
    (ap (λ z. sign.Atom label.Any ∷ z) ends.0, ends.1)
labels_any (sign.Atom (label.Name name) ∷ signs) rest more e = cc
labels_any (sign.Atom (label.List except names) ∷ signs) rest more e = cc
labels_any (sign.Open ∷ signs) rest more e = cc
labels_any (sign.Close ∷ signs) rest more e = cc
labels_any (sign.Star ∷ signs) rest more e = cc
labels_any (sign.Plus ∷ signs) rest more e = cc
labels_any (sign.Maybe ∷ signs) rest more e = cc
labels_any (sign.Or ∷ signs) rest more e = cc

links_end : (signs : List (Sign LinkAtom)) (rest more : List Token) → signs_tokens link_tokens signs rest ≡ Mark Less ∷ more → (signs ≡ []) × (rest ≡ Mark Less ∷ more)
links_end [] rest more e = (refl, e)
links_end (sign.Atom link.Any ∷ signs) rest more e = cc
links_end (sign.Atom (link.List except pairs) ∷ signs) rest more e = cc
links_end (sign.Open ∷ signs) rest more e = cc
links_end (sign.Close ∷ signs) rest more e = cc
links_end (sign.Star ∷ signs) rest more e = cc
links_end (sign.Plus ∷ signs) rest more e = cc
links_end (sign.Maybe ∷ signs) rest more e = cc
links_end (sign.Or ∷ signs) rest more e = cc

no_dot : (last : Last) (rest more : List Token) → last_tokens last rest ≡ Mark Dot ∷ more → ⊥
no_dot (Header signs) rest more e = cc
no_dot (Dropped at) rest more e = cc

links_any : (signs : List (Sign LinkAtom)) (last : Last) (rest more : List Token) → signs_tokens link_tokens signs (last_tokens last rest) ≡ Mark Dot ∷ Mark Less ∷ more → (signs ≡ sign.Atom link.Any ∷ []) × (last_tokens last rest ≡ Mark Less ∷ more)
links_any [] last rest more e = absurd (no_dot last rest (Mark Less ∷ more) e)
links_any (sign.Atom link.Any ∷ signs) last rest more e =
    let ends = links_end signs (last_tokens last rest) more (let tail : signs_tokens link_tokens signs (last_tokens last rest) ≡ Mark Less ∷ more = cc in tail) in
    (ap (λ z. sign.Atom link.Any ∷ z) ends.0, ends.1)
links_any (sign.Atom (link.List except pairs) ∷ signs) last rest more e = cc
links_any (sign.Open ∷ signs) last rest more e = cc
links_any (sign.Close ∷ signs) last rest more e = cc
links_any (sign.Star ∷ signs) last rest more e = cc
links_any (sign.Plus ∷ signs) last rest more e = cc
links_any (sign.Maybe ∷ signs) last rest more e = cc
links_any (sign.Or ∷ signs) last rest more e = cc

last_any : (last : Last) (rest more : List Token) → last_tokens last rest ≡ Mark Less ∷ Mark Dot ∷ Mark Greater ∷ more → (last ≡ Header (sign.Atom label.Any ∷ [])) × (rest ≡ more)
last_any (Header signs) rest more e =
    let is = labels_any signs rest more (let tail : signs_tokens label_tokens signs (Mark Greater ∷ rest) ≡ Mark Dot ∷ Mark Greater ∷ more = cc in tail) in
    (ap Header is.0, is.1)
last_any (Dropped at) rest more e = cc

-- the tokens of the front, before others
abbrev front_tokens : List Token → List Token
front_tokens rest = Mark Less ∷ Mark Dot ∷ Mark Greater ∷ Mark Dot ∷ Mark Less ∷ Mark Dot ∷ Mark Greater ∷ Word (plain 10 (codes "0")) ∷ rest

is_behind : (w : Written) (ts : List Token) → tokens_of w ≡ front_tokens ts → AreFrom 12 ts → IsBehind 12 w
is_behind w ts e from =
    let ends : List Token = known_tokens (codes "down") w.down (known_tokens (codes "up") w.up []) in
    let first = labels_any w.first (signs_tokens link_tokens w.path (last_tokens w.last (Word w.number ∷ ends))) (Mark Dot ∷ Mark Less ∷ Mark Dot ∷ Mark Greater ∷ Word (plain 10 (codes "0")) ∷ ts)
    (tail (Mark Less) (Mark Less) (signs_tokens label_tokens w.first (Mark Greater ∷ signs_tokens link_tokens w.path (last_tokens w.last (Word w.number ∷ ends))))
    (Mark Dot ∷ Mark Greater ∷ Mark Dot ∷ Mark Less ∷ Mark Dot ∷ Mark Greater ∷ Word (plain 10 (codes "0")) ∷ ts) e) in
    let path = links_any w.path w.last (Word w.number ∷ ends) (Mark Dot ∷ Mark Greater ∷ Word (plain 10 (codes "0")) ∷ ts) first.1 in
    let last = last_any w.last (Word w.number ∷ ends) (Word (plain 10 (codes "0")) ∷ ts) path.1 in
    let down = known_from 12 (codes "down") w.down (known_tokens (codes "up") w.up [])
    (subst (AreFrom 12) (sym (tail (Word w.number) (Word (plain 10 (codes "0"))) ends ts last.1)) from) in
    record { first = first.0; path = path.0; last = last.0; down = down.0; up = (known_from 12 (codes "up") w.up [] down.1).0 }
  where
    tail : (s t : Token) (ss ts : List Token) → s ∷ ss ≡ t ∷ ts → ss ≡ ts
    tail s t ss ts e = cc

-- ---- from bytes to tokens

-- what was read of the front
abbrev behind_number : Parse
behind_number = record {
  stage = stage.BehindNumber;
  first = record { signs = sign.Atom label.Any ∷ []; depth = 0; behind = true };
  path = record { signs = sign.Atom link.Any ∷ []; depth = 0; behind = true };
  last = record { signs = sign.Atom label.Any ∷ []; depth = 0; behind = true };
  drop_at = None;
  names = no_names;
  pairs = no_pairs;
  number = Some (plain 10 (codes "0"));
  word_at = 0;
  down = None;
  up = None;
}

abbrev any_written : Written
any_written = record {
  first = sign.Atom label.Any ∷ [];
  path = sign.Atom link.Any ∷ [];
  last = Header (sign.Atom label.Any ∷ []);
  number = plain 10 (codes "0");
  down = None;
  up = None;
}

front_read : after_bytes nothing_read any_front ≡ Some (reading 12 behind_number None)
front_read = refl

pub front_is_query : IsQueryText any_front
front_is_query = (any_written, read_is any_front (reading 12 behind_number None) any_written front_read refl)

bytes_append : (xs ys : List ℕ) (r s : Reading) → after_bytes r xs ≡ Some s → after_bytes r (xs ++ ys) ≡ after_bytes s ys
bytes_append [] ys r s e = let is : r ≡ s = cc in ap (λ z. after_bytes z ys) is
bytes_append (b ∷ xs) ys r s e =
    let found = then_some (λ q. after_bytes q xs) (after_byte r b) s e in
    ap (option_and_then (λ q. after_bytes q (xs ++ ys))) found.1 ∙ bytes_append xs ys found.0 s found.2

pub behind_front : (text : List ℕ) (w : Written) → Reads (any_front ++ text) w → IsBehind 12 w
behind_front text w h =
    let read = is_read (any_front ++ text) w h in
    let leads = bytes_lead text 12 behind_number read.0 w (sym (bytes_append any_front text nothing_read (reading 12 behind_number None) front_read) ∙ read.1) read.2 in
    let good = all_shown start behind_number (front_tokens []) start_good refl in
    let shown = all_shown behind_number leads.last leads.tokens good.1 leads.all in
    let is = finished_is leads.last w shown.1 leads.ends in
    is_behind w leads.tokens (is.0 ∙ shown.0 [] ∙ ap front_tokens (append-nil leads.tokens)) (spells_from 12 12 leads.tokens text (omega arith) leads.spells)
