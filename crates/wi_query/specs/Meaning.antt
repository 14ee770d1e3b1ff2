-- What a query means.
use Rattle.std.specs.Prelude.{◌≡◌, ◌↔◌, ℕ, ◌≤◌, Bool, true, false, nat_lt, List, [], length, Option, Some, None}
use Rattle.std.specs.List.{list_all, list_any}
use Rattle.std.specs.Str.Parse.{digits_value}
use Rattle.wi_regex.specs.declared.regex.Regex.{Regex}
use Rattle.wi_regex.specs.declared.regex.Regex.TheVariants as regex
use Rattle.wi_regex.specs.Matching.{Matches}
use Rattle.wi_net.specs.declared.parts.LinkId.{LinkId}
use Rattle.wi_net.specs.Net.{Net, links_where, widened}
use Rattle.wi_world.specs.Holds.{Question}
use Rattle.wi_world.specs.Moves.{AreBounds}
use Rattle.wi_syntax.specs.declared.written.Known.{Known}
use Rattle.wi_syntax.specs.declared.written.Sign.{Sign}
use Rattle.wi_syntax.specs.declared.written.Written.{Written}
use Rattle.wi_syntax.specs.Trees.{Tree, Leaf, Starred, Plussed, Optional, Grouped, Then, Or, AnExpression, is_tree, signs_of}
use Rattle.wi_syntax.specs.Grammar.{Reads}
use Rattle.wi_query.specs.declared.bounds.TheConstants.{FAILURE_LIMIT}
use Rattle.wi_query.specs.declared.query.TheConstants.{LENGTH_LIMIT}
use Rattle.wi_query.specs.declared.query.Query.{Query}
use Rattle.wi_query.specs.Compiled.{IsExpressionOver, HasAutomaton}
use Rattle.wi_query.specs.Sets.{SymbolMarks, holds, is_label_of, is_link_of, is_link_between}
use Rattle.wi_query.specs.Last.{last_signs, is_dropped}
use Rattle.wi_query.specs.Unknown.{unknown_in}

-- an expression is that of a tree whose atoms mean these sets: brackets leave no trace
abbrev pub IsRegexOf : {A : Type 0} → (A → ℕ → Bool) → Tree A → Regex SymbolMarks → Type 0
IsRegexOf means (Leaf a) (regex.Atom set) = (x : ℕ) → holds set x ≡ means a x
IsRegexOf means (Starred t) (regex.Star' p r) = IsRegexOf means t r
IsRegexOf means (Plussed t) (regex.Plus' p r) = IsRegexOf means t r
IsRegexOf means (Optional t) (regex.Maybe' p r) = IsRegexOf means t r
IsRegexOf means (Grouped t) r = IsRegexOf means t r
IsRegexOf means (Then a b) (regex.Concat' p r q s) = IsRegexOf means a r × IsRegexOf means b s
IsRegexOf means (Or a b) (regex.Either' p r q s) = IsRegexOf means a r × IsRegexOf means b s
IsRegexOf means t r = ⊥

-- an expression is the one that signs are
abbrev pub AreSignsOf : {A : Type 0} → (A → ℕ → Bool) → List (Sign A) → Regex SymbolMarks → Type 0
AreSignsOf {A} means signs r = (t : Tree A) × (is_tree (λ a. true) AnExpression t ≡ true) × (signs_of t [] ≡ signs) × IsRegexOf means t r

-- the links of a list that are known down or up, each with its risk group
abbrev pub known_links : Net → Option Known → List LinkId
known_links net None = []
known_links net (Some known) = widened net (links_where net (λ e. list_any (λ pair. is_link_between net pair e.0) known.pairs))

-- what the written query means
pub record Means (net : Net) (w : Written) (query : Query) : Type 0 where
  pub first : AreSignsOf (is_label_of net) w.first query.first.regex
  pub path : AreSignsOf (is_link_of net) w.path query.path.regex
  pub last : AreSignsOf (is_label_of net) (last_signs w.last) query.last.regex
  pub drops : query.drops ≡ is_dropped w.last
  pub k : query.bounds.k ≡ digits_value 10 w.number.text
  pub down : query.bounds.down ≡ known_links net w.down
  pub up : query.bounds.up ≡ known_links net w.up

-- what every query keeps: each expression has its automaton
pub record HasAutomata (query : Query) : Type 0 where
  pub first : HasAutomaton query.first
  pub path : HasAutomaton query.path
  pub last : HasAutomaton query.last

-- a packet may be dropped with any header of the network's labels
abbrev pub MayDropAny : Net → Query → Type 0
MayDropAny net query = query.drops ≡ true → (w : List ℕ) → list_all (λ x. nat_lt x (length net.labels)) w ≡ true → Matches holds query.last.regex w

-- what each query that is read of a network keeps: it speaks of the network's labels and links alone, and a packet may be dropped
-- with any header
pub record IsQueryOf (net : Net) (query : Query) : Type 0 where
  pub first : IsExpressionOver (length net.labels) query.first.regex
  pub path : IsExpressionOver (length net.links) query.path.regex
  pub last : IsExpressionOver (length net.labels) query.last.regex
  pub any_last : MayDropAny net query
  pub k : query.bounds.k ≤ FAILURE_LIMIT
  pub bounds : AreBounds net query.bounds

-- the text is a query of the network
pub record IsQuery (net : Net) (text : List ℕ) (query : Query) : Type 0 where
  pub short : nat_lt LENGTH_LIMIT (length text) ≡ false
  pub written : Written
  pub reads : Reads text written
  pub known : unknown_in net written ≡ []
  pub means : Means net written query
  pub keeps : IsQueryOf net query

-- the question that a query asks
abbrev pub question_of : Query → Question
question_of query = record {
  first = Matches holds query.first.regex;
  path = Matches holds query.path.regex;
  last = Matches holds query.last.regex;
  drops = query.drops;
  bounds = query.bounds;
}

-- two queries ask the same: their expressions match the same words, of the same end, within the same bounds
pub record AskTheSame (q r : Query) : Type 0 where
  pub first : (w : List ℕ) → Matches holds q.first.regex w ↔ Matches holds r.first.regex w
  pub path : (w : List ℕ) → Matches holds q.path.regex w ↔ Matches holds r.path.regex w
  pub last : (w : List ℕ) → Matches holds q.last.regex w ↔ Matches holds r.last.regex w
  pub drops : q.drops ≡ r.drops
  pub bounds : q.bounds ≡ r.bounds
