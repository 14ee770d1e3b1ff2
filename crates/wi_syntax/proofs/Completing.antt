-- From wherever a reader of queries comes to, some text leads to the end of one.
use Rattle.std.proofs.Common.{◌≡◌, ℕ, zero, suc, ◌+◌, ◌-◌, ◌<◌, Bool, true, false, List, [], ◌∷◌, ◌++◌, length, take, drop, Some, None, refl, sym, ap, ◌∙◌, subst, arith}
use Rattle.std.specs.Prelude.{codes, not, ◌&&◌, ◌||◌, ◌==◌, if◌then◌else◌}
use Rattle.std.specs.Option.{option_map}
use Rattle.std.specs.List.{list_all}
use Rattle.std.specs.Str.{bytes_eq}
use Rattle.std.proofs.lemmas.Bool.{and_parts, and_from, ne_eqb}
use Rattle.std.proofs.lemmas.List.{append-nil}
use Rattle.std.proofs.lemmas.Slice.Eq.{bytes_eq-Decides}
use Rattle.wi_text.specs.Characters.{is_plain, is_number}
use Rattle.wi_syntax.specs.Names.{Named}
use Rattle.wi_syntax.specs.declared.token.Mark.{Mark}
use Rattle.wi_syntax.specs.declared.token.Mark.TheVariants.{Less, Greater, OpenRound, CloseRound, OpenSquare, CloseSquare, Hash, Dot, Comma, Caret, Star, Plus, Question, Bar}
use Rattle.wi_syntax.specs.declared.token.Token.{Token}
use Rattle.wi_syntax.specs.declared.token.Token.TheVariants as token
use Rattle.wi_syntax.specs.declared.written.LabelAtom.TheVariants as label
use Rattle.wi_syntax.specs.declared.written.LinkAtom.TheVariants as link
use Rattle.wi_syntax.specs.declared.written.End.{End}
use Rattle.wi_syntax.specs.declared.written.End.TheVariants as end
use Rattle.wi_syntax.specs.declared.written.Pair.{Pair}
use Rattle.wi_syntax.specs.declared.written.Sign.TheVariants as sign
use Rattle.wi_syntax.specs.declared.written.Written.{Written}
use Rattle.wi_syntax.specs.declared.places.NamePlace.{NamePlace}
use Rattle.wi_syntax.specs.declared.places.NamePlace.TheVariants as name
use Rattle.wi_syntax.specs.declared.places.PairPlace.{PairPlace}
use Rattle.wi_syntax.specs.declared.places.PairPlace.TheVariants as pair
use Rattle.wi_syntax.specs.declared.parser.Stage.{Stage}
use Rattle.wi_syntax.specs.declared.parser.Stage.TheVariants as stage
use Rattle.wi_syntax.specs.declared.parser.Header.{Header}
use Rattle.wi_syntax.specs.declared.parser.Header.TheVariants.{First, Last}
use Rattle.wi_syntax.specs.declared.parser.Owner.{Owner}
use Rattle.wi_syntax.specs.declared.parser.Owner.TheVariants as owner
use Rattle.wi_syntax.specs.Tokens.{mark_byte, spelling}
use Rattle.wi_syntax.specs.Grammar.{plain}
use Rattle.wi_syntax.specs.private.Lists.{NameListing, PairListing, no_known, with_item, after_name, after_pair, whole_pair, after_in_names, after_in_pairs}
use Rattle.wi_syntax.specs.private.Parsing.{Parse, is_whole, with_atom, phrase_of, with_phrase, with_path, with_names, with_pairs, is_keyword, after_at, after, after_before_up, last_of, may_end, finish}
use Rattle.wi_syntax.specs.private.Reading.{reading, is_name_due, is_word_due, takes_names, begins, may_begin, admits, longer, behind, after_bytes}
use Rattle.wi_syntax.proofs.Words.{mark_there}
use Rattle.wi_syntax.proofs.Bytes.{Ends, ends_by, one_byte, mark_goes, space_goes, plains_go, plain_ends, quoted_goes, quote_ends, token_goes}

-- some text leads from a byte on to the end of a query
abbrev pub Completes : ℕ → Parse → Type 0
Completes at p = (text : List ℕ) × (w : Written) × Ends (after_bytes (reading at p None) text) w

abbrev pub Completable : Parse → Type 0
Completable p = (at : ℕ) → Completes at p

by_mark : (p q : Parse) (m : Mark) → after p (token.Mark m) ≡ Some q → Completable q → Completable p
by_mark p q m e k at =
    let later = k (at + 1) in
    (mark_byte m ∷ later.0, later.1, ends_by _ _ later.1 (one_byte (reading at p None) (reading (at + 1) q None) (mark_byte m) later.0 (mark_goes at p m ∙ ap (λ z. behind (at + 1) (after p z)) (mark_there p q at m e) ∙ ap (behind (at + 1)) e)) later.2)

-- the name "a", between quotation marks
abbrev letter : ℕ → Named
letter at = record { at = at; quoted = true; text = codes "a" }

by_word : (p : Parse) → ((at : ℕ) → (q : Parse) × (after p (token.Word (letter at)) ≡ Some q) × Completable q) → Completable p
by_word p k at =
    let next = k at in
    let later = next.2 (at + length (spelling (token.Word (letter at)))) in
    (spelling (token.Word (letter at)) ++ later.0, later.1, token_goes at p next.0 (token.Word (letter at)) later.0 later.1 (refl, refl) next.1 later.2)

-- any router, as an end of a pair
by_end : (p : Parse) → ((at : ℕ) → (q : Parse) × (after p (token.AnyEnd at) ≡ Some q) × Completable q) → Completable p
by_end p k at =
    let next = k at in
    let later = next.2 (at + 1) in
    (46 ∷ later.0, later.1, token_goes at p next.0 (token.AnyEnd at) later.0 later.1 refl next.1 later.2)

ended : (p : Parse) (w : Written) → finish p ≡ Some w → Completable p
ended p w e at = ([], w, (reading at p None, refl, e))

-- the number is there, where it was read
abbrev pub HasNumber : Stage → Parse → Type 0
HasNumber stage.BehindNumber p = (n : Named) × (p.number ≡ Some n)
HasNumber stage.DownDue p = (n : Named) × (p.number ≡ Some n)
HasNumber (stage.LinkList owner.Down) p = (n : Named) × (p.number ≡ Some n)
HasNumber stage.BehindDown p = (n : Named) × (p.number ≡ Some n)
HasNumber stage.UpDue p = (n : Named) × (p.number ≡ Some n)
HasNumber (stage.LinkList owner.Up) p = (n : Named) × (p.number ≡ Some n)
HasNumber stage.BehindUp p = (n : Named) × (p.number ≡ Some n)
HasNumber _ p = Unit {0}

may_finish : (p : Parse) (at : Stage) → p.stage ≡ at → may_end at ≡ true → (n : Named) → p.number ≡ Some n → Completable p
may_finish p at is ok n there = ended p (record { first = p.first.signs; path = p.path.signs; last = last_of p.drop_at p.last; number = n; down = p.down; up = p.up }) (rw (is, ok, there) refl)

number_due : (p : Parse) → p.stage ≡ stage.Number → Completable p
number_due p is at =
    let n : Named = plain at (codes "0") in
    let q : Parse = record p { stage = stage.BehindNumber; number = Some n } in
    let w : Written = record { first = p.first.signs; path = p.path.signs; last = last_of p.drop_at p.last; number = n; down = p.down; up = p.up } in
    (codes "0", w, token_goes at p q (token.Word n) [] w (refl, refl) (ap (λ z. after_at z p (token.Word n)) is) (reading (at + 1) q None, refl, refl))

deep : (d n : ℕ) → d ≡ suc n → (d == 0) ≡ false
deep d n e = ne_eqb d 0 (λ z. (let k : d ≡ 0 = z in omega arith))

less : (d n : ℕ) → d ≡ suc n → d - 1 ≡ n
less d n e = omega arith

last_close : (d : ℕ) (p : Parse) → p.stage ≡ stage.Labels Last → p.last.behind ≡ true → p.last.depth ≡ d → Completable p
last_close zero p is b e = by_mark p (record p { stage = stage.Number }) Greater (ap (λ z. after_at z p (token.Mark Greater)) is ∙ rw (b, e) refl) (number_due (record p { stage = stage.Number }) refl)
last_close (suc d) p is b e =
    let q : Parse = with_phrase Last p (record { signs = p.last.signs ++ sign.Close ∷ []; depth = d; behind = true }) in
    by_mark p q CloseRound (ap (λ z. after_at z p (token.Mark CloseRound)) is ∙ rw (b, deep p.last.depth d e, less p.last.depth d e) refl) (last_close d q refl refl refl)

last_any : (p : Parse) → p.stage ≡ stage.Labels Last → Completable p
last_any p is = by_mark p (with_phrase Last p (with_atom p.last label.Any)) Dot (ap (λ z. after_at z p (token.Mark Dot)) is) (last_close p.last.depth (with_phrase Last p (with_atom p.last label.Any)) refl refl refl)

path_close : (d : ℕ) (p : Parse) → p.stage ≡ stage.Links → p.path.behind ≡ true → p.path.depth ≡ d → Completable p
path_close zero p is b e = by_mark p (record p { stage = stage.Labels Last }) Less (ap (λ z. after_at z p (token.Mark Less)) is ∙ rw (b, e) refl) (last_any (record p { stage = stage.Labels Last }) refl)
path_close (suc d) p is b e =
    let q : Parse = with_path p (record { signs = p.path.signs ++ sign.Close ∷ []; depth = d; behind = true }) in
    by_mark p q CloseRound (ap (λ z. after_at z p (token.Mark CloseRound)) is ∙ rw (b, deep p.path.depth d e, less p.path.depth d e) refl) (path_close d q refl refl refl)

path_any : (p : Parse) → p.stage ≡ stage.Links → Completable p
path_any p is = by_mark p (with_path p (with_atom p.path link.Any)) Dot (ap (λ z. after_at z p (token.Mark Dot)) is) (path_close p.path.depth (with_path p (with_atom p.path link.Any)) refl refl refl)

first_close : (d : ℕ) (p : Parse) → p.stage ≡ stage.Labels First → p.first.behind ≡ true → p.first.depth ≡ d → Completable p
first_close zero p is b e = by_mark p (record p { stage = stage.Links }) Greater (ap (λ z. after_at z p (token.Mark Greater)) is ∙ rw (b, e) refl) (path_any (record p { stage = stage.Links }) refl)
first_close (suc d) p is b e =
    let q : Parse = with_phrase First p (record { signs = p.first.signs ++ sign.Close ∷ []; depth = d; behind = true }) in
    by_mark p q CloseRound (ap (λ z. after_at z p (token.Mark CloseRound)) is ∙ rw (b, deep p.first.depth d e, less p.first.depth d e) refl) (first_close d q refl refl refl)

labels_any : (h : Header) (p : Parse) → p.stage ≡ stage.Labels h → Completable p
labels_any First p is = by_mark p (with_phrase First p (with_atom p.first label.Any)) Dot (ap (λ z. after_at z p (token.Mark Dot)) is) (first_close p.first.depth (with_phrase First p (with_atom p.first label.Any)) refl refl refl)
labels_any Last p is = last_any p is

-- in a list of names
names_whole : (h : Header) (p : Parse) (e : Bool) (items : List Named) (n : Named) → p.stage ≡ stage.LabelList h → p.names ≡ record { except = e; items = items; place = name.Whole n } → Completable p
names_whole First p e items n is l = by_mark p (with_names First p (record { except = e; items = items ++ n ∷ []; place = name.Due }, true)) CloseSquare (ap (λ z. after_at z p (token.Mark CloseSquare)) is ∙ rw l refl) (labels_any First (with_names First p (record { except = e; items = items ++ n ∷ []; place = name.Due }, true)) refl)
names_whole Last p e items n is l = by_mark p (with_names Last p (record { except = e; items = items ++ n ∷ []; place = name.Due }, true)) CloseSquare (ap (λ z. after_at z p (token.Mark CloseSquare)) is ∙ rw l refl) (labels_any Last (with_names Last p (record { except = e; items = items ++ n ∷ []; place = name.Due }, true)) refl)

names_any : (h : Header) (p : Parse) (place : NamePlace) → p.stage ≡ stage.LabelList h → p.names ≡ record { except = p.names.except; items = p.names.items; place = place } → Completable p
names_any h p (name.Whole n) is l = names_whole h p p.names.except p.names.items n is l
names_any h p name.Opened is l = by_word p (λ at. (
  record p { names = record { except = p.names.except; items = p.names.items; place = name.Whole (letter at) } },
  ap (λ z. after_at z p (token.Word (letter at))) is ∙ ap (λ z. option_map (with_names h p) (after_in_names z (token.Word (letter at)))) l,
  names_whole h (record p { names = record { except = p.names.except; items = p.names.items; place = name.Whole (letter at) } }) p.names.except p.names.items (letter at) is refl,
))
names_any h p name.Due is l = by_word p (λ at. (
  record p { names = record { except = p.names.except; items = p.names.items; place = name.Whole (letter at) } },
  ap (λ z. after_at z p (token.Word (letter at))) is ∙ ap (λ z. option_map (with_names h p) (after_in_names z (token.Word (letter at)))) l,
  names_whole h (record p { names = record { except = p.names.except; items = p.names.items; place = name.Whole (letter at) } }) p.names.except p.names.items (letter at) is refl,
))

-- a token that belongs to an element of a list
abbrev is_element : Token → Bool
is_element (token.Word n) = true
is_element (token.Mark Hash) = true
is_element (token.AnyEnd at) = true
is_element _ = false

-- where the list of an owner is due
abbrev stage_due : Owner → Stage
stage_due owner.Path = stage.Links
stage_due owner.Down = stage.DownDue
stage_due owner.Up = stage.UpDue

abbrev is_known_owner : Owner → Bool
is_known_owner owner.Path = false
is_known_owner _ = true

-- in a list of pairs
abbrev with_place : Parse → PairPlace → Parse
with_place p place = record p { pairs = record { except = p.pairs.except; items = p.pairs.items; place = place } }

pair_token : (o : Owner) (p : Parse) (t : Token) (place : PairPlace) → p.stage ≡ stage.LinkList o → after_pair p.pairs.place t ≡ Some place → is_element t ≡ true → after p t ≡ Some (with_place p place)
pair_token o p t place is e ok = ap (λ z. after_at z p t) is ∙ ap (option_map (with_pairs o p)) (in_pairs p.pairs t place ok e)
  where
    in_pairs : (l : PairListing) (t : Token) (place : PairPlace) → is_element t ≡ true → after_pair l.place t ≡ Some place → after_in_pairs l t ≡ Some (record { except = l.except; items = l.items; place = place }, false)
    in_pairs l (token.Word n) place ok e = rw e refl
    in_pairs l (token.Mark Hash) place ok e = rw e refl
    in_pairs l (token.AnyEnd at) place ok e = rw e refl
    in_pairs l (token.Mark Dot) place ok e = cc
    in_pairs l (token.Mark Less) place ok e = cc
    in_pairs l (token.Mark Greater) place ok e = cc
    in_pairs l (token.Mark OpenRound) place ok e = cc
    in_pairs l (token.Mark CloseRound) place ok e = cc
    in_pairs l (token.Mark OpenSquare) place ok e = cc
    in_pairs l (token.Mark CloseSquare) place ok e = cc
    in_pairs l (token.Mark Comma) place ok e = cc
    in_pairs l (token.Mark Caret) place ok e = cc
    in_pairs l (token.Mark Star) place ok e = cc
    in_pairs l (token.Mark Plus) place ok e = cc
    in_pairs l (token.Mark Question) place ok e = cc
    in_pairs l (token.Mark Bar) place ok e = cc

list_end : (o : Owner) (p : Parse) (x : Pair) → HasNumber (stage.LinkList o) p → Completable (with_pairs o p (with_item p.pairs pair.Due x, true))
list_end owner.Path p x h = path_any (with_pairs owner.Path p (with_item p.pairs pair.Due x, true)) refl
list_end owner.Down p x h = may_finish (with_pairs owner.Down p (with_item p.pairs pair.Due x, true)) stage.BehindDown refl refl h.0 h.1
list_end owner.Up p x h = may_finish (with_pairs owner.Up p (with_item p.pairs pair.Due x, true)) stage.BehindUp refl refl h.0 h.1

pairs_whole : (o : Owner) (p : Parse) (x : Pair) → p.stage ≡ stage.LinkList o → HasNumber (stage.LinkList o) p → whole_pair p.pairs.place ≡ Some x → Completable p
pairs_whole o p x is h e =
    by_mark p (with_pairs o p (with_item p.pairs pair.Due x, true)) CloseSquare
    (ap (λ z. after_at z p (token.Mark CloseSquare)) is ∙ ap (λ z. option_map (with_pairs o p) (option_map {U = PairListing × Bool} (λ y. (with_item p.pairs pair.Due y, true)) z)) e)
    (list_end o p x h)

has_again : (o : Owner) (p : Parse) (place : PairPlace) → HasNumber (stage.LinkList o) p → HasNumber (stage.LinkList o) (with_place p place)
has_again owner.Path p place h = tt
has_again owner.Down p place h = h
has_again owner.Up p place h = h

to_due : (o : Owner) (p : Parse) (from : End) → p.stage ≡ stage.LinkList o → HasNumber (stage.LinkList o) p → p.pairs.place ≡ pair.ToDue from → Completable p
to_due o p from is h e =
    by_end p (λ at.
    (let x : Pair = record { from = from; to = end.Any at } in
    (with_place p (pair.Whole x), pair_token o p (token.AnyEnd at) (pair.Whole x) is (rw e refl) refl, pairs_whole o (with_place p (pair.Whole x)) x is (has_again o p (pair.Whole x) h) refl)))

hash_due : (o : Owner) (p : Parse) (from : End) → p.stage ≡ stage.LinkList o → HasNumber (stage.LinkList o) p → p.pairs.place ≡ pair.HashDue from → Completable p
hash_due o p from is h e =
    by_mark p (with_place p (pair.ToDue from)) Hash (pair_token o p (token.Mark Hash) (pair.ToDue from) is (rw e refl) refl)
    (to_due o (with_place p (pair.ToDue from)) from is (has_again o p (pair.ToDue from) h) refl)

pairs_at : (o : Owner) (p : Parse) (place : PairPlace) → p.stage ≡ stage.LinkList o → HasNumber (stage.LinkList o) p → p.pairs.place ≡ place → Completable p
pairs_at o p pair.Opened is h e = by_end p (λ at. (
  with_place p (pair.HashDue (end.Any at)),
  pair_token o p (token.AnyEnd at) (pair.HashDue (end.Any at)) is (rw e refl) refl,
  hash_due o (with_place p (pair.HashDue (end.Any at))) (end.Any at) is (has_again o p (pair.HashDue (end.Any at)) h) refl,
))
pairs_at o p pair.Due is h e = by_end p (λ at. (
  with_place p (pair.HashDue (end.Any at)),
  pair_token o p (token.AnyEnd at) (pair.HashDue (end.Any at)) is (rw e refl) refl,
  hash_due o (with_place p (pair.HashDue (end.Any at))) (end.Any at) is (has_again o p (pair.HashDue (end.Any at)) h) refl,
))
pairs_at o p (pair.FromRouter n) is h e = by_mark p (with_place p (pair.ToDue (end.Router n))) Hash (pair_token o p (token.Mark Hash) (pair.ToDue (end.Router n)) is (rw e refl) refl) (to_due o (with_place p (pair.ToDue (end.Router n))) (end.Router n) is (has_again o p (pair.ToDue (end.Router n)) h) refl)
pairs_at o p (pair.FromInterfaceDue n) is h e = by_word p (λ at. (
  with_place p (pair.HashDue (end.Interface n (letter at))),
  pair_token o p (token.Word (letter at)) (pair.HashDue (end.Interface n (letter at))) is (rw e refl) refl,
  hash_due o (with_place p (pair.HashDue (end.Interface n (letter at)))) (end.Interface n (letter at)) is (has_again o p (pair.HashDue (end.Interface n (letter at))) h) refl,
))
pairs_at o p (pair.HashDue from) is h e = hash_due o p from is h e
pairs_at o p (pair.ToDue from) is h e = to_due o p from is h e
pairs_at o p (pair.ToRouter from n) is h e = pairs_whole o p (record { from = from; to = end.Router n }) is h (rw e refl)
pairs_at o p (pair.ToInterfaceDue from n) is h e = by_word p (λ at.
    (let x : Pair = record { from = from; to = end.Interface n (letter at) } in
    (with_place p (pair.Whole x), pair_token o p (token.Word (letter at)) (pair.Whole x) is (rw e refl) refl, pairs_whole o (with_place p (pair.Whole x)) x is (has_again o p (pair.Whole x) h) refl)))
pairs_at o p (pair.Whole x) is h e = pairs_whole o p x is h (rw e refl)

list_due : (o : Owner) (p : Parse) → (HasNumber (stage.LinkList o) p) → p.stage ≡ stage_due o → is_known_owner o ≡ true → Completable p
list_due owner.Path p h is ok = cc
list_due owner.Down p h is ok = by_mark p (record p { stage = stage.LinkList owner.Down; pairs = no_known }) OpenSquare (ap (λ z. after_at z p (token.Mark OpenSquare)) is) (pairs_at owner.Down (record p { stage = stage.LinkList owner.Down; pairs = no_known }) pair.Due refl h refl)
list_due owner.Up p h is ok = by_mark p (record p { stage = stage.LinkList owner.Up; pairs = no_known }) OpenSquare (ap (λ z. after_at z p (token.Mark OpenSquare)) is) (pairs_at owner.Up (record p { stage = stage.LinkList owner.Up; pairs = no_known }) pair.Due refl h refl)

completable_at : (at : Stage) (p : Parse) → p.stage ≡ at → HasNumber at p → Completable p
completable_at stage.Start p is h = by_mark p (record p { stage = stage.Labels First }) Less (ap (λ z. after_at z p (token.Mark Less)) is) (labels_any First (record p { stage = stage.Labels First }) refl)
completable_at (stage.Labels g) p is h = labels_any g p is
completable_at (stage.LabelList g) p is h = names_any g p p.names.place is refl
completable_at stage.Links p is h = path_any p is
completable_at (stage.LinkList o) p is h = pairs_at o p p.pairs.place is h refl
completable_at stage.Number p is h = number_due p is
completable_at stage.BehindNumber p is h = may_finish p stage.BehindNumber is refl h.0 h.1
completable_at stage.DownDue p is h = list_due owner.Down p h is refl
completable_at stage.BehindDown p is h = may_finish p stage.BehindDown is refl h.0 h.1
completable_at stage.UpDue p is h = list_due owner.Up p h is refl
completable_at stage.BehindUp p is h = may_finish p stage.BehindUp is refl h.0 h.1

pub completable : (p : Parse) → HasNumber p.stage p → Completable p
completable p h = completable_at p.stage p refl h

-- ---- behind a name that is begun

-- any name leads on, where one may come
name_leads : (place : NamePlace) (n : Named) → is_name_due place ≡ true → after_name place (token.Word n) ≡ Some (name.Whole n)
name_leads name.Opened n e = refl
name_leads name.Due n e = refl
name_leads (name.Whole m) n e = cc

word_leads : (place : PairPlace) (n : Named) → is_word_due place ≡ true → (next : PairPlace) × (after_pair place (token.Word n) ≡ Some next)
word_leads pair.Opened n e = (pair.FromRouter n, refl)
word_leads pair.Due n e = (pair.FromRouter n, refl)
word_leads (pair.FromRouter m) n e = cc
word_leads (pair.FromInterfaceDue m) n e = (pair.HashDue (end.Interface m n), refl)
word_leads (pair.HashDue from) n e = cc
word_leads (pair.ToDue from) n e = (pair.ToRouter from n, refl)
word_leads (pair.ToRouter from m) n e = cc
word_leads (pair.ToInterfaceDue from m) n e = (pair.Whole (record { from = from; to = end.Interface m n }), refl)
word_leads (pair.Whole w) n e = cc

-- a word leads on to where some text completes a query
abbrev WordLeads : Parse → Named → Type 0
WordLeads p n = (q : Parse) × (after p (token.Word n) ≡ Some q) × Completable q

leads_at : (at : Stage) (p : Parse) (n : Named) → p.stage ≡ at → HasNumber at p → takes_names p at ≡ true → WordLeads p n
leads_at (stage.Labels h) p n is k ok = (with_phrase h p (with_atom (phrase_of h p) (label.Name n)), ap (λ z. after_at z p (token.Word n)) is, labels_any h (with_phrase h p (with_atom (phrase_of h p) (label.Name n))) (stage_is h))
  where
    stage_is : (h : Header) → (with_phrase h p (with_atom (phrase_of h p) (label.Name n))).stage ≡ stage.Labels h
    stage_is First = refl
    stage_is Last = refl
leads_at (stage.LabelList h) p n is k ok =
    let q : Parse = record p { names = record { except = p.names.except; items = p.names.items; place = name.Whole n } } in
    (q, ap (λ z. after_at z p (token.Word n)) is ∙ ap (λ z. option_map (with_names h p) (option_map {U = NameListing × Bool} (λ place. (record { except = p.names.except; items = p.names.items; place = place }, false)) z)) (name_leads p.names.place n ok), names_whole h q p.names.except p.names.items n is refl)
leads_at (stage.LinkList o) p n is k ok =
    let next = word_leads p.pairs.place n ok in
    (with_place p next.0, pair_token o p (token.Word n) next.0 is next.1 refl, pairs_at o (with_place p next.0) next.0 is (has_again o p next.0 k) refl)
leads_at stage.Start p n is k ok = cc
leads_at stage.Links p n is k ok = cc
leads_at stage.Number p n is k ok = cc
leads_at stage.BehindNumber p n is k ok = cc
leads_at stage.DownDue p n is k ok = cc
leads_at stage.BehindDown p n is k ok = cc
leads_at stage.UpDue p n is k ok = cc
leads_at stage.BehindUp p n is k ok = cc

-- some text leads from what was read on to the end of a query
abbrev pub Finishes : ℕ → Parse → Named → Type 0
Finishes at p n = (text : List ℕ) × (w : Written) × Ends (after_bytes (reading at p (Some n)) text) w

-- more plain characters, white space, and then what completes it
plain_finishes : (at : ℕ) (p : Parse) (n : Named) (s : List ℕ) → n.quoted ≡ false → list_all is_plain s ≡ true → WordLeads p (longer n s) → Finishes at p n
plain_finishes at p n s quote ok next =
    let later = next.2 (at + length s + 1) in (
      s ++ 32 ∷ later.0,
      later.1,
      ends_by _ _ later.1 (plains_go at p next.0 n s (32 ∷ later.0) quote ok next.1)
          (plain_ends (at + length s) p next.0 (longer n s) (32 ∷ later.0) later.1 quote next.1 refl
          (ends_by _ _ later.1 (one_byte (reading (at + length s) next.0 None) (reading (at + length s + 1) next.0 None) 32 later.0 (space_goes (at + length s) next.0 32 refl)) later.2)),
    )

quoted_finishes : (at : ℕ) (p : Parse) (n : Named) → n.quoted ≡ true → WordLeads p (longer n (97 ∷ [])) → Finishes at p n
quoted_finishes at p n quote next =
    let later = next.2 (at + 1 + 1) in (
      97 ∷ 34 ∷ later.0,
      later.1,
      ends_by _ _ later.1
          (one_byte (reading at p (Some n)) (reading (at + 1) p (Some (longer n (97 ∷ [])))) 97 (34 ∷ later.0) (quoted_goes at p n 97 quote refl)
          ∙ one_byte (reading (at + 1) p (Some (longer n (97 ∷ [])))) (reading (at + 1 + 1) next.0 None) 34 later.0 (quote_ends (at + 1) p next.0 (longer n (97 ∷ [])) quote (some_length n.text) next.1))
          later.2,
    )
  where
    some_length : (s : List ℕ) → 0 < length (s ++ 97 ∷ [])
    some_length [] = omega arith
    some_length (b ∷ s) = omega arith

no_more : (n : Named) → longer n [] ≡ n
no_more n = ap (λ z. record { at = n.at; quoted = n.quoted; text = z }) (append-nil n.text)

-- where a name may come
finishes_name : (at : ℕ) (p : Parse) (n : Named) → HasNumber p.stage p → takes_names p p.stage ≡ true → Finishes at p n
finishes_name at p n h ok = go n.quoted refl
  where
    go : (b : Bool) → n.quoted ≡ b → Finishes at p n
    go true e = quoted_finishes at p n e (leads_at p.stage p (longer n (97 ∷ [])) refl h ok)
    go false e = plain_finishes at p n [] e refl (leads_at p.stage p (longer n []) refl h ok)

-- where a number or a word is due
begun_is : (s word : List ℕ) → begins s word ≡ true → s ++ drop (length s) word ≡ word
begun_is s word e = ap (λ z. z ++ drop (length s) word) ((bytes_eq-Decides s (take (length s) word)).0 e) ∙ take_drop (length s) word
  where
    take_drop : (k : ℕ) (xs : List ℕ) → take k xs ++ drop k xs ≡ xs
    take_drop zero xs = refl
    take_drop (suc k) [] = refl
    take_drop (suc k) (x ∷ xs) = ap (λ z. x ∷ z) (take_drop k xs)

plain_drop : (k : ℕ) (xs : List ℕ) → list_all is_plain xs ≡ true → list_all is_plain (drop k xs) ≡ true
plain_drop zero xs e = e
plain_drop (suc k) [] e = e
plain_drop (suc k) (x ∷ xs) e = plain_drop k xs (and_parts (is_plain x) (list_all is_plain xs) e).1

-- a word that is completed is a keyword
keyword : (n : Named) (word : List ℕ) → n.quoted ≡ false → begins n.text word ≡ true → is_keyword (longer n (drop (length n.text) word)) word ≡ true
keyword n word quote e = rw quote (ap (λ z. bytes_eq z word) (begun_is n.text word e) ∙ (bytes_eq-Decides word word).1 refl)

number_leads : (p : Parse) (n : Named) → p.stage ≡ stage.Number → n.quoted ≡ false → is_number n.text ≡ true → WordLeads p n
number_leads p n is quote ok = (
  record p { stage = stage.BehindNumber; number = Some n },
  ap (λ z. after_at z p (token.Word n)) is ∙ ap (λ z. if z then Some (record p { stage = stage.BehindNumber; number = Some n }) else None) (and_from (not n.quoted) (is_number n.text) (ap not quote) ok),
  may_finish (record p { stage = stage.BehindNumber; number = Some n }) stage.BehindNumber refl refl n refl,
)

up_word : (p : Parse) (n : Named) (m : Named) → p.number ≡ Some m → is_keyword n (codes "up") ≡ true → (q : Parse) × (after_before_up p (token.Word n) ≡ Some q) × Completable q
up_word p n m there e = (
  record p { stage = stage.UpDue; word_at = n.at },
  ap (λ z. if z then Some (record p { stage = stage.UpDue; word_at = n.at }) else None) e,
  list_due owner.Up (record p { stage = stage.UpDue; word_at = n.at }) (m, there) refl refl,
)

finishes_word : (at : ℕ) (st : Stage) (p : Parse) (n : Named) → p.stage ≡ st → HasNumber st p → n.quoted ≡ false → may_begin p st n.text ≡ true → Finishes at p n
finishes_word at stage.Links p n is h quote ok =
    let parts : (is_whole p.path ≡ true) × (begins n.text (codes "drop") ≡ true) = and_parts (is_whole p.path) (begins n.text (codes "drop")) ok in
    let word = longer n (drop (length n.text) (codes "drop")) in
    let q : Parse = record p { stage = stage.Number; drop_at = Some n.at } in
    plain_finishes at p n (drop (length n.text) (codes "drop")) quote (plain_drop (length n.text) (codes "drop") refl)
    (q, ap (λ z. after_at z p (token.Word word)) is ∙ ap (λ z. if z then Some q else None) (and_from (is_whole p.path) (is_keyword word (codes "drop")) parts.0 (keyword n (codes "drop") quote parts.1)), number_due q refl)
finishes_word at stage.Number p n is h quote ok = plain_finishes at p n [] quote refl (subst (WordLeads p) (sym (no_more n)) (number_leads p n is quote ok))
finishes_word at stage.BehindNumber p n is h quote ok = go (begins n.text (codes "down")) refl
  where
    go : (b : Bool) → begins n.text (codes "down") ≡ b → Finishes at p n
    go true e =
        let word = longer n (drop (length n.text) (codes "down")) in
        let q : Parse = record p { stage = stage.DownDue; word_at = n.at } in
        plain_finishes at p n (drop (length n.text) (codes "down")) quote (plain_drop (length n.text) (codes "down") refl)
        (q, ap (λ z. after_at z p (token.Word word)) is ∙ ap (λ z. if z then Some q else after_before_up p (token.Word word)) (keyword n (codes "down") quote e), list_due owner.Down q h refl refl)
    go false e =
        let word = longer n (drop (length n.text) (codes "up")) in
        let up : begins n.text (codes "up") ≡ true = sym (ap (λ z. z || begins n.text (codes "up")) e) ∙ ok in
        let next = up_word p word h.0 h.1 (keyword n (codes "up") quote up) in
        plain_finishes at p n (drop (length n.text) (codes "up")) quote (plain_drop (length n.text) (codes "up") refl)
        (next.0, ap (λ z. after_at z p (token.Word word)) is ∙ ap (λ z. if z then Some (record p { stage = stage.DownDue; word_at = n.at }) else after_before_up p (token.Word word)) (not_down word (begun_is n.text (codes "up") up)) ∙ next.1, next.2)
      where
        not_down : (word : Named) → word.text ≡ codes "up" → is_keyword word (codes "down") ≡ false
        not_down word e = ap (λ z. not word.quoted && bytes_eq z (codes "down")) e ∙ and_no (not word.quoted)
          where
            and_no : (b : Bool) → (b && false) ≡ false
            and_no true = refl
            and_no false = refl
finishes_word at stage.BehindDown p n is h quote ok =
    let word = longer n (drop (length n.text) (codes "up")) in
    let next = up_word p word h.0 h.1 (keyword n (codes "up") quote ok) in
    plain_finishes at p n (drop (length n.text) (codes "up")) quote (plain_drop (length n.text) (codes "up") refl) (next.0, ap (λ z. after_at z p (token.Word word)) is ∙ next.1, next.2)
finishes_word at stage.Start p n is h quote ok = cc
finishes_word at (stage.Labels g) p n is h quote ok = cc
finishes_word at (stage.LabelList g) p n is h quote ok = cc
finishes_word at (stage.LinkList o) p n is h quote ok = cc
finishes_word at stage.DownDue p n is h quote ok = cc
finishes_word at stage.UpDue p n is h quote ok = cc
finishes_word at stage.BehindUp p n is h quote ok = cc

pub finishes : (at : ℕ) (p : Parse) (n : Named) → HasNumber p.stage p → admits p n ≡ true → Finishes at p n
finishes at p n h ok = go (takes_names p p.stage) refl
  where
    not_true : (b : Bool) → not b ≡ true → b ≡ false
    not_true true k = cc
    not_true false k = refl

    go : (b : Bool) → takes_names p p.stage ≡ b → Finishes at p n
    go true e = finishes_name at p n h e
    go false e =
        let parts = and_parts (not n.quoted) (may_begin p p.stage n.text) (sym (ap (λ z. z || (not n.quoted && may_begin p p.stage n.text)) e) ∙ ok) in
        finishes_word at p.stage p n refl h (not_true n.quoted parts.0) parts.1
