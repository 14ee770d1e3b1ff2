-- Expressions of one tree: they match the same words, and their positions are the same.
use Rattle.std.proofs.Common.{◌≡◌, ℕ, ◌+◌, Bool, true, ◌&&◌, ◌||◌, ◌⊎◌, ◌↔◌, IsTrue, List, [], ◌∷◌, ◌++◌, refl, sym, ap, subst, ◌∙◌}
use Rattle.std.specs.Str.Parse.{digits_value}
use Rattle.wi_regex.specs.declared.regex.Regex.{Regex}
use Rattle.wi_regex.specs.declared.regex.Regex.TheVariants as regex
use Rattle.wi_regex.specs.Matching.{Matches, IsRepeated, position_count, is_empty_word_in}
use Rattle.wi_nfa.specs.Positions.{BeginsAt, EndsAt, Follows}
use Rattle.wi_nfa.specs.Automata.{MayFollow, MayEnd}
use Rattle.wi_net.specs.Net.{Net}
use Rattle.wi_syntax.specs.declared.written.Sign.{Sign}
use Rattle.wi_syntax.specs.declared.written.Written.{Written}
use Rattle.wi_syntax.specs.Trees.{Tree, Leaf, Starred, Plussed, Optional, Grouped, Then, Or}
use Rattle.wi_syntax.proofs.Texts.{one_way}
use Rattle.wi_query.specs.declared.query.Query.{Query}
use Rattle.wi_query.specs.Sets.{SymbolMarks, holds, is_label_of, is_link_of}
use Rattle.wi_query.specs.Last.{last_signs, is_dropped}
use Rattle.wi_query.specs.Meaning.{IsRegexOf, AreSignsOf, IsQuery, AskTheSame, known_links}
use Rattle.wi_query.proofs.Running.{one_tree}

-- two expressions are made alike, of atoms that hold the same symbols
abbrev pub Alike : Regex SymbolMarks → Regex SymbolMarks → Type 0
Alike (regex.Atom a) (regex.Atom b) = (x : ℕ) → holds a x ≡ holds b x
Alike (regex.Concat' _ a _ b) (regex.Concat' _ c _ d) = Alike a c × Alike b d
Alike (regex.Either' _ a _ b) (regex.Either' _ c _ d) = Alike a c × Alike b d
Alike (regex.Star' _ a) (regex.Star' _ b) = Alike a b
Alike (regex.Plus' _ a) (regex.Plus' _ b) = Alike a b
Alike (regex.Maybe' _ a) (regex.Maybe' _ b) = Alike a b
Alike r s = ⊥

-- expressions of one tree are alike
alike : {A : Type 0} (means : A → ℕ → Bool) (t : Tree A) (r s : Regex SymbolMarks) → IsRegexOf means t r → IsRegexOf means t s → Alike r s
alike means (Leaf a) (regex.Atom set) (regex.Atom other) h k = λ x. h x ∙ sym (k x)
alike means (Leaf a) (regex.Atom set) s h k = absurd k
alike means (Starred t) (regex.Star' _ r) (regex.Star' _ s) h k = alike means t r s h k
alike means (Starred t) (regex.Star' _ r) s h k = absurd k
alike means (Plussed t) (regex.Plus' _ r) (regex.Plus' _ s) h k = alike means t r s h k
alike means (Plussed t) (regex.Plus' _ r) s h k = absurd k
alike means (Optional t) (regex.Maybe' _ r) (regex.Maybe' _ s) h k = alike means t r s h k
alike means (Optional t) (regex.Maybe' _ r) s h k = absurd k
alike means (Grouped t) r s h k = alike means t r s h k
alike means (Then t u) (regex.Concat' _ a _ b) (regex.Concat' _ c _ d) h k = (alike means t a c h.0 k.0, alike means u b d h.1 k.1)
alike means (Then t u) (regex.Concat' _ a _ b) s h k = absurd k
alike means (Or t u) (regex.Either' _ a _ b) (regex.Either' _ c _ d) h k = (alike means t a c h.0 k.0, alike means u b d h.1 k.1)
alike means (Or t u) (regex.Either' _ a _ b) s h k = absurd k
alike means t r s h k = absurd h

-- and so are expressions of the same signs
pub alike_signs : {A : Type 0} (means : A → ℕ → Bool) (v w : List (Sign A)) (r s : Regex SymbolMarks) → v ≡ w → AreSignsOf means v r → AreSignsOf means w s → Alike r s
alike_signs means v w r s e h k = alike means k.0 r s (subst (λ t. IsRegexOf means t r) (one_tree h.0 k.0 h.1 k.1 (h.2 ∙ e ∙ sym k.2)) h.3) k.3

-- they match the same words
matches_same : (r s : Regex SymbolMarks) → Alike r s → Matches holds r ≡ Matches holds s
matches_same (regex.Atom a) (regex.Atom b) h = λ i w. (x : ℕ) × (h x i ≡ true) × (w ≡ x ∷ [])
matches_same (regex.Concat' _ a _ b) (regex.Concat' _ c _ d) h = λ i w. (u v : List ℕ) × matches_same a c h.0 i u × matches_same b d h.1 i v × (w ≡ u ++ v)
matches_same (regex.Either' _ a _ b) (regex.Either' _ c _ d) h = λ i w. matches_same a c h.0 i w ⊎ matches_same b d h.1 i w
matches_same (regex.Star' _ a) (regex.Star' _ b) h = λ i w. IsRepeated (matches_same a b h i) w
matches_same (regex.Plus' _ a) (regex.Plus' _ b) h = λ i w. (u v : List ℕ) × matches_same a b h i u × IsRepeated (matches_same a b h i) v × (w ≡ u ++ v)
matches_same (regex.Maybe' _ a) (regex.Maybe' _ b) h = λ i w. (w ≡ []) ⊎ matches_same a b h i w
matches_same r s h = absurd h

pub match_same : (r s : Regex SymbolMarks) → Alike r s → (w : List ℕ) → Matches holds r w ↔ Matches holds s w
match_same r s h w = let same = matches_same r s h in (subst (λ P. P w) same, subst (λ P. P w) (sym same))

-- they have as many positions, and the empty word in both or in neither
pub count_same : (r s : Regex SymbolMarks) → Alike r s → position_count r ≡ position_count s
count_same (regex.Atom a) (regex.Atom b) h = refl
count_same (regex.Concat' _ a _ b) (regex.Concat' _ c _ d) h = λ i. count_same a c h.0 i + count_same b d h.1 i
count_same (regex.Either' _ a _ b) (regex.Either' _ c _ d) h = λ i. count_same a c h.0 i + count_same b d h.1 i
count_same (regex.Star' _ a) (regex.Star' _ b) h = count_same a b h
count_same (regex.Plus' _ a) (regex.Plus' _ b) h = count_same a b h
count_same (regex.Maybe' _ a) (regex.Maybe' _ b) h = count_same a b h
count_same r s h = absurd h

empty_same : (r s : Regex SymbolMarks) → Alike r s → is_empty_word_in r ≡ is_empty_word_in s
empty_same (regex.Atom a) (regex.Atom b) h = refl
empty_same (regex.Concat' _ a _ b) (regex.Concat' _ c _ d) h = λ i. empty_same a c h.0 i && empty_same b d h.1 i
empty_same (regex.Either' _ a _ b) (regex.Either' _ c _ d) h = λ i. empty_same a c h.0 i || empty_same b d h.1 i
empty_same (regex.Star' _ a) (regex.Star' _ b) h = refl
empty_same (regex.Plus' _ a) (regex.Plus' _ b) h = empty_same a b h
empty_same (regex.Maybe' _ a) (regex.Maybe' _ b) h = refl
empty_same r s h = absurd h

-- words begin, end and go on at the same positions
begins_same : (m n : ℕ) (r s : Regex SymbolMarks) → m ≡ n → Alike r s → BeginsAt m r ≡ BeginsAt n s
begins_same m n (regex.Atom a) (regex.Atom b) e h = λ i q. q ≡ e i + 1
begins_same m n (regex.Concat' _ a _ b) (regex.Concat' _ c _ d) e h =
    let later = begins_same (m + position_count a) (n + position_count c) b d (λ i. e i + count_same a c h.0 i) h.1 in
    λ i q. begins_same m n a c e h.0 i q ⊎ (IsTrue (empty_same a c h.0 i) × later i q)
begins_same m n (regex.Either' _ a _ b) (regex.Either' _ c _ d) e h =
    let later = begins_same (m + position_count a) (n + position_count c) b d (λ i. e i + count_same a c h.0 i) h.1 in
    λ i q. begins_same m n a c e h.0 i q ⊎ later i q
begins_same m n (regex.Star' _ a) (regex.Star' _ b) e h = begins_same m n a b e h
begins_same m n (regex.Plus' _ a) (regex.Plus' _ b) e h = begins_same m n a b e h
begins_same m n (regex.Maybe' _ a) (regex.Maybe' _ b) e h = begins_same m n a b e h
begins_same m n r s e h = absurd h

ends_same : (m n : ℕ) (r s : Regex SymbolMarks) → m ≡ n → Alike r s → EndsAt m r ≡ EndsAt n s
ends_same m n (regex.Atom a) (regex.Atom b) e h = λ i p. p ≡ e i + 1
ends_same m n (regex.Concat' _ a _ b) (regex.Concat' _ c _ d) e h =
    let later = ends_same (m + position_count a) (n + position_count c) b d (λ i. e i + count_same a c h.0 i) h.1 in
    λ i p. later i p ⊎ (IsTrue (empty_same b d h.1 i) × ends_same m n a c e h.0 i p)
ends_same m n (regex.Either' _ a _ b) (regex.Either' _ c _ d) e h =
    let later = ends_same (m + position_count a) (n + position_count c) b d (λ i. e i + count_same a c h.0 i) h.1 in
    λ i p. ends_same m n a c e h.0 i p ⊎ later i p
ends_same m n (regex.Star' _ a) (regex.Star' _ b) e h = ends_same m n a b e h
ends_same m n (regex.Plus' _ a) (regex.Plus' _ b) e h = ends_same m n a b e h
ends_same m n (regex.Maybe' _ a) (regex.Maybe' _ b) e h = ends_same m n a b e h
ends_same m n r s e h = absurd h

follows_same : (m n : ℕ) (r s : Regex SymbolMarks) → m ≡ n → Alike r s → Follows m r ≡ Follows n s
follows_same m n (regex.Atom a) (regex.Atom b) e h = refl
follows_same m n (regex.Concat' _ a _ b) (regex.Concat' _ c _ d) e h =
    let on : m + position_count a ≡ n + position_count c = λ i. e i + count_same a c h.0 i in
    let later = follows_same (m + position_count a) (n + position_count c) b d on h.1 in
    λ i p q. follows_same m n a c e h.0 i p q ⊎ (later i p q ⊎ (ends_same m n a c e h.0 i p × begins_same (m + position_count a) (n + position_count c) b d on h.1 i q))
follows_same m n (regex.Either' _ a _ b) (regex.Either' _ c _ d) e h =
    let later = follows_same (m + position_count a) (n + position_count c) b d (λ i. e i + count_same a c h.0 i) h.1 in
    λ i p q. follows_same m n a c e h.0 i p q ⊎ later i p q
follows_same m n (regex.Star' _ a) (regex.Star' _ b) e h = λ i p q. follows_same m n a b e h i p q ⊎ (ends_same m n a b e h i p × begins_same m n a b e h i q)
follows_same m n (regex.Plus' _ a) (regex.Plus' _ b) e h = λ i p q. follows_same m n a b e h i p q ⊎ (ends_same m n a b e h i p × begins_same m n a b e h i q)
follows_same m n (regex.Maybe' _ a) (regex.Maybe' _ b) e h = follows_same m n a b e h
follows_same m n r s e h = absurd h

pub may_follow_same : (r s : Regex SymbolMarks) → Alike r s → MayFollow r ≡ MayFollow s
may_follow_same r s h = λ i p q. ((p ≡ 0) × begins_same 0 0 r s refl h i q) ⊎ follows_same 0 0 r s refl h i p q

pub may_end_same : (r s : Regex SymbolMarks) → Alike r s → MayEnd r ≡ MayEnd s
may_end_same r s h = λ i p. ((p ≡ 0) × IsTrue (empty_same r s h i)) ⊎ ends_same 0 0 r s refl h i p

-- two readings of a text are alike in each part, and have the same bounds
module _ (net : Net) (text : List ℕ) (q r : Query) (first : IsQuery net text q) (other : IsQuery net text r) where
  one_written : first.written ≡ other.written
  one_written = one_way text first.written other.written first.reads other.reads

  pub alike_first : Alike q.first.regex r.first.regex
  alike_first = alike_signs (is_label_of net) first.written.first other.written.first q.first.regex r.first.regex (ap (λ (w : Written). w.first) one_written) first.means.first other.means.first

  pub alike_path : Alike q.path.regex r.path.regex
  alike_path = alike_signs (is_link_of net) first.written.path other.written.path q.path.regex r.path.regex (ap (λ (w : Written). w.path) one_written) first.means.path other.means.path

  pub alike_last : Alike q.last.regex r.last.regex
  alike_last = alike_signs (is_label_of net) (last_signs first.written.last) (last_signs other.written.last) q.last.regex r.last.regex (ap (λ (w : Written). last_signs w.last) one_written) first.means.last other.means.last

  same_end : q.drops ≡ r.drops
  same_end = first.means.drops ∙ ap (λ (w : Written). is_dropped w.last) one_written ∙ sym other.means.drops

  pub same_bounds : q.bounds ≡ r.bounds
  same_bounds =
      let k : q.bounds.k ≡ r.bounds.k = first.means.k ∙ ap (λ (w : Written). digits_value 10 w.number.text) one_written ∙ sym other.means.k in
      let down : q.bounds.down ≡ r.bounds.down = first.means.down ∙ ap (λ (w : Written). known_links net w.down) one_written ∙ sym other.means.down in
      let up : q.bounds.up ≡ r.bounds.up = first.means.up ∙ ap (λ (w : Written). known_links net w.up) one_written ∙ sym other.means.up in
      λ i. record { k = k i; down = down i; up = up i }

  pub ask_the_same : AskTheSame q r
  ask_the_same = record {
    first = match_same q.first.regex r.first.regex alike_first;
    path = match_same q.path.regex r.path.regex alike_path;
    last = match_same q.last.regex r.last.regex alike_last;
    drops = same_end;
    bounds = same_bounds;
  }
