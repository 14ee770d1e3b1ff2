-- From the parts of a query to the query, and to its first fault.
use Rattle.std.proofs.Common.{◌≡◌, ℕ, Bool, true, false, nat_lt, List, [], ◌∷◌, length, Option, Some, None, Result, Ok, Err, IfOk, refl, sym, ap, subst, ◌∙◌}
use Rattle.std.specs.List.{find, filter}
use Rattle.std.proofs.lemmas.Bool.{le-ltb}
use Rattle.wi_regex.specs.declared.regex.Regex.{Regex}
use Rattle.wi_regex.specs.Matching.{position_count}
use Rattle.wi_net.specs.declared.parts.LinkId.{LinkId}
use Rattle.wi_net.specs.LinkSet.{has}
use Rattle.wi_net.specs.Net.{Net, widened, all_links}
use Rattle.wi_world.specs.Moves.{AreBounds}
use Rattle.wi_syntax.specs.Names.{Named}
use Rattle.wi_syntax.specs.declared.written.LabelAtom.{LabelAtom}
use Rattle.wi_syntax.specs.declared.written.LinkAtom.{LinkAtom}
use Rattle.wi_syntax.specs.declared.written.Known.{Known}
use Rattle.wi_syntax.specs.declared.written.Last.{Last}
use Rattle.wi_syntax.specs.declared.written.Last.TheVariants.{Header}
use Rattle.wi_syntax.specs.declared.written.Sign.{Sign}
use Rattle.wi_syntax.specs.declared.written.Written.{Written}
use Rattle.wi_syntax.specs.Atoms.{is_label_atom}
use Rattle.wi_syntax.specs.Trees.{IsExpression}
use Rattle.wi_syntax.specs.Grammar.{IsLast}
use Rattle.wi_query.specs.Sets.{SymbolMarks, holds, is_label_of, is_link_of}
use Rattle.wi_query.specs.Compiled.{Compiled, HasAutomaton, IsExpressionOver, IsWithin}
use Rattle.wi_query.specs.Last.{last_signs}
use Rattle.wi_query.specs.Unknown.{unknown_in}
use Rattle.wi_query.specs.Meaning.{AreSignsOf, known_links, IsQuery}
use Rattle.wi_query.specs.Faults.{too_many_positions, IsShort, IsFault}
use Rattle.wi_query.specs.private.Names.{marks_of}
use Rattle.wi_query.specs.private.Parts.{AreParts, IsRefusedBound, AreBoundsOf, too_many_in, shared, IsMadeOf, IsWrong}
use Rattle.wi_query.specs.declared.fault.QueryFault.{QueryFault}
use Rattle.wi_query.specs.declared.fault.QueryFault.TheVariants.{Memory, TooManyPositions, TooManyFailures, DownAndUp}
use Rattle.wi_query.specs.declared.parts.Parts.{Parts}
use Rattle.wi_query.specs.declared.query.Query.{Query}
use Rattle.wi_query.proofs.Trees.{any_expression, same_meaning, within_signs, position_count_is}
use Rattle.wi_query.proofs.Marks.{holds_label, holds_link, label_within, link_within}
use Rattle.wi_query.proofs.Lasts.{any_when_dropped}
use Rattle.wi_query.proofs.LinkSets.{widened_again, apart_from_none}

-- the signs of an expression, as they are shown
pub shown_expression : {A : Type 0} (p : A → Bool) (signs shown : List (Sign A)) → shown ≡ signs → IsExpression p signs → IsExpression (λ a. true) shown
shown_expression {A} p signs shown is e = let P : List (Sign A) → Type 0 = IsExpression (λ a. true) in subst P (sym is) (any_expression p signs e)

pub label_signs : (net : Net) (signs shown : List (Sign LabelAtom)) (r : Regex SymbolMarks) → shown ≡ signs → AreSignsOf (λ a x. holds (marks_of (length net.labels) (is_label_of net a)) x) shown r → AreSignsOf (is_label_of net) signs r
label_signs net signs shown r is h =
    let P : List (Sign LabelAtom) → Type 0 = λ s. AreSignsOf (is_label_of net) s r in
    subst P is (same_meaning (λ a x. holds (marks_of (length net.labels) (is_label_of net a)) x) (is_label_of net) shown r (holds_label net) h)

pub link_signs : (net : Net) (signs shown : List (Sign LinkAtom)) (r : Regex SymbolMarks) → shown ≡ signs → AreSignsOf (λ a x. holds (marks_of (length net.links) (is_link_of net a)) x) shown r → AreSignsOf (is_link_of net) signs r
link_signs net signs shown r is h =
    let P : List (Sign LinkAtom) → Type 0 = λ s. AreSignsOf (is_link_of net) s r in
    subst P is (same_meaning (λ a x. holds (marks_of (length net.links) (is_link_of net a)) x) (is_link_of net) shown r (holds_link net) h)

-- the signs of the last header, as they are shown
pub header_signs : (last : Last) (signs shown : List (Sign LabelAtom)) → last ≡ Header signs → shown ≡ signs → shown ≡ last_signs last
header_signs last signs shown is same = same ∙ ap last_signs (sym is)

pub header_expression : (last : Last) (signs shown : List (Sign LabelAtom)) → last ≡ Header signs → shown ≡ signs → IsLast last → IsExpression (λ a. true) shown
header_expression last signs shown is same h = shown_expression is_label_atom signs shown same (subst IsLast is h)

pub last_read : (net : Net) (last : Last) (shown : List (Sign LabelAtom)) (result : Result (Regex SymbolMarks) QueryFault) → shown ≡ last_signs last
    → IfOk result (λ r. AreSignsOf (λ a x. holds (marks_of (length net.labels) (is_label_of net a)) x) shown r) → IfOk result (λ r. AreSignsOf (is_label_of net) (last_signs last) r)
last_read net last shown (Ok r) is h = label_signs net (last_signs last) shown r is h
last_read net last shown (Err f) is h = tt

-- what is wrong with the bounds comes after the positions
small_enough : (e : Compiled) (r : Regex SymbolMarks) → e.regex ≡ r → HasAutomaton e → nat_lt 512 (position_count r) ≡ false
small_enough e r is h = let P : Regex SymbolMarks → Type 0 = λ s. nat_lt 512 (position_count s) ≡ false in subst P is (le-ltb 512 (position_count e.regex) h.few)

none_too_many : (parts : Parts) (first path last : Compiled) → first.regex ≡ parts.first → HasAutomaton first → path.regex ≡ parts.path → HasAutomaton path → last.regex ≡ parts.last → HasAutomaton last → too_many_in parts ≡ None
none_too_many parts first path last e1 h1 e2 h2 e3 h3 = rw (small_enough first parts.first e1 h1, small_enough path parts.path e2 h2, small_enough last parts.last e3 h3) refl

pub wrong_bounds : (parts : Parts) (number : Named) (first path last : Compiled) (f : QueryFault) → first.regex ≡ parts.first → HasAutomaton first → path.regex ≡ parts.path → HasAutomaton path → last.regex ≡ parts.last → HasAutomaton last
    → IsRefusedBound number parts.down parts.up f → IsWrong parts number f
wrong_bounds parts number first path last (TooManyFailures at) e1 h1 e2 h2 e3 h3 h = (none_too_many parts first path last e1 h1 e2 h2 e3 h3, h.0, h.1)
wrong_bounds parts number first path last (DownAndUp e) e1 h1 e2 h2 e3 h3 h = (none_too_many parts first path last e1 h1 e2 h2 e3 h3, h.0, h.1)
wrong_bounds parts number first path last f e1 h1 e2 h2 e3 h3 h = absurd h

-- what is wrong with the parts is the text's first fault
same_count : (net : Net) (w : Written) (parts : Parts) → AreParts net w parts → too_many_positions w ≡ too_many_in parts
same_count net w parts h =
    rw (sym (position_count_is (is_label_of net) w.first parts.first h.first), sym (position_count_is (is_link_of net) w.path parts.path h.path), sym (position_count_is (is_label_of net) (last_signs w.last) parts.last h.last)) refl

same_shared : (net : Net) (w : Written) (parts : Parts) → AreParts net w parts → find (λ d. has (known_links net w.up) d) (known_links net w.down) ≡ shared parts.down parts.up
same_shared net w parts h = ap (λ u. find (λ d. has u d) (known_links net w.down)) (sym h.up) ∙ ap (λ d. shared d parts.up) (sym h.down)

pub wrong_fault : (net : Net) (text : List ℕ) (w : Written) (parts : Parts) (f : QueryFault) → IsShort text w → unknown_in net w ≡ [] → AreParts net w parts → IsWrong parts w.number f → IsFault net text f
wrong_fault net text w parts Memory short known h wrong = tt
wrong_fault net text w parts (TooManyPositions i n) short known h wrong = (w, record { written = short; known = known }, same_count net w parts h ∙ wrong)
wrong_fault net text w parts (TooManyFailures at) short known h wrong =
    (w, record { written = record { written = short; known = known }; few = same_count net w parts h ∙ wrong.0 }, wrong.1, wrong.2)
wrong_fault net text w parts (DownAndUp e) short known h wrong =
    (w, record { written = record { written = short; known = known }; few = same_count net w parts h ∙ wrong.0 }, wrong.1, same_shared net w parts h ∙ wrong.2)
wrong_fault net text w parts f short known h wrong = absurd wrong

-- what each query keeps
no_links : (links : List LinkId) → filter (λ e. false) links ≡ []
no_links [] = refl
no_links (e ∷ links) = no_links links

pub known_union : (net : Net) (known : Option Known) → widened net (known_links net known) ≡ known_links net known
known_union net None = no_links (all_links net)
known_union net (Some known) = widened_again net _

query_bounds : (net : Net) (w : Written) (parts : Parts) (query : Query) → AreParts net w parts → AreBoundsOf w.number parts.down parts.up query.bounds → AreBounds net query.bounds
query_bounds net w parts query h b = record {
  down = ap (λ s. widened net s) (b.down ∙ h.down) ∙ known_union net w.down ∙ sym (b.down ∙ h.down);
  up = ap (λ s. widened net s) (b.up ∙ h.up) ∙ known_union net w.up ∙ sym (b.up ∙ h.up);
  apart = rw (b.down, b.up) (apart_from_none parts.down parts.up b.apart);
}

is_over : (n : ℕ) (e : Compiled) (r : Regex SymbolMarks) → e.regex ≡ r → HasAutomaton e → IsWithin n r → IsExpressionOver n e.regex
is_over n e r is h within = record { within = (let P : Regex SymbolMarks → Type 0 = IsWithin n in subst P (sym is) within); few = h.few }

signs_of_same : {A : Type 0} (means : A → ℕ → Bool) (signs : List (Sign A)) (e : Compiled) (r : Regex SymbolMarks) → e.regex ≡ r → AreSignsOf means signs r → AreSignsOf means signs e.regex
signs_of_same means signs e r is h = let P : Regex SymbolMarks → Type 0 = λ s. AreSignsOf means signs s in subst P (sym is) h

pub query_is : (net : Net) (text : List ℕ) (w : Written) (parts : Parts) (query : Query) → IsShort text w → unknown_in net w ≡ [] → AreParts net w parts → IsMadeOf parts w.number query → IsQuery net text query
query_is net text w parts query short known h made = record {
  short = short.short;
  written = w;
  reads = short.reads;
  known = known;
  means = record {
    first = signs_of_same (is_label_of net) w.first query.first parts.first made.first h.first;
    path = signs_of_same (is_link_of net) w.path query.path parts.path made.path h.path;
    last = signs_of_same (is_label_of net) (last_signs w.last) query.last parts.last made.last h.last;
    drops = made.drops ∙ h.drops;
    k = made.bounds.k;
    down = made.bounds.down ∙ h.down;
    up = made.bounds.up ∙ h.up;
  };
  keeps = record {
    first = is_over (length net.labels) query.first parts.first made.first made.automata.first (within_signs (is_label_of net) (length net.labels) w.first parts.first (label_within net) h.first);
    path = is_over (length net.links) query.path parts.path made.path made.automata.path (within_signs (is_link_of net) (length net.links) w.path parts.path (link_within net) h.path);
    last = is_over (length net.labels) query.last parts.last made.last made.automata.last (within_signs (is_label_of net) (length net.labels) (last_signs w.last) parts.last (label_within net) h.last);
    any_last = λ drops. any_when_dropped net w.last query.last.regex (sym (made.drops ∙ h.drops) ∙ drops) (signs_of_same (is_label_of net) (last_signs w.last) query.last parts.last made.last h.last);
    k = made.bounds.few;
    bounds = query_bounds net w parts query h made.bounds;
  };
}
