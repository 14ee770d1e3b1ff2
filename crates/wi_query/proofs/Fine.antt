-- The text of a query has no fault.
use Rattle.std.proofs.Common.{◌≡◌, ℕ, ◌≤◌, Bool, true, false, nat_lt, List, [], length, Option, Some, None, refl, sym, ap, ◌∙◌}
use Rattle.std.specs.List.{find}
use Rattle.std.proofs.lemmas.Bool.{le-ltb}
use Rattle.wi_regex.specs.declared.regex.Regex.{Regex}
use Rattle.wi_regex.specs.Matching.{position_count}
use Rattle.wi_net.specs.declared.parts.LinkId.{LinkId}
use Rattle.wi_net.specs.LinkSet.{has, is_apart}
use Rattle.wi_net.specs.Net.{Net}
use Rattle.wi_syntax.specs.declared.written.Sign.{Sign}
use Rattle.wi_syntax.specs.declared.written.Written.{Written}
use Rattle.wi_syntax.specs.Grammar.{Reads}
use Rattle.wi_syntax.proofs.Texts.{one_way}
use Rattle.wi_query.specs.declared.fault.QueryFault.{QueryFault}
use Rattle.wi_query.specs.declared.fault.QueryFault.TheVariants.{Memory, TooLong, Syntax, UnknownLabel, UnknownRouter, UnknownInterface, TooManyPositions, TooManyFailures, DownAndUp}
use Rattle.wi_query.specs.declared.query.Query.{Query}
use Rattle.wi_query.specs.Sets.{SymbolMarks, is_label_of, is_link_of}
use Rattle.wi_query.specs.Last.{last_signs}
use Rattle.wi_query.specs.Unknown.{Kind, unknown_in}
use Rattle.wi_query.specs.Meaning.{AreSignsOf, known_links, IsQuery}
use Rattle.wi_query.specs.Faults.{atom_count, too_many_positions, IsUnknown, is_large, IsFault}
use Rattle.wi_query.proofs.LinkSets.{none_from_apart}
use Rattle.wi_query.proofs.Numbers.{few_enough}
use Rattle.wi_query.proofs.Trees.{position_count_is}

-- no expression has too many positions
few_atoms : {A : Type 0} (means : A → ℕ → Bool) (signs : List (Sign A)) (r : Regex SymbolMarks) → AreSignsOf means signs r → position_count r ≤ 512 → nat_lt 512 (atom_count signs) ≡ false
few_atoms means signs r h few = ap (nat_lt 512) (sym (position_count_is means signs r h)) ∙ le-ltb 512 (position_count r) few

few_among : (w : Written) → nat_lt 512 (atom_count w.first) ≡ false → nat_lt 512 (atom_count w.path) ≡ false → nat_lt 512 (atom_count (last_signs w.last)) ≡ false → too_many_positions w ≡ None
few_among w first path last = rw (first, path, last) refl

-- no link is known both down and up
none_shared : (downs ups down up : List LinkId) → downs ≡ down → ups ≡ up → is_apart downs ups ≡ true → find (λ d. has up d) down ≡ None
none_shared downs ups down up d u apart = rw (← d, ← u) (none_from_apart downs ups apart)

module _ (net : Net) (text : List ℕ) (query : Query) (q : IsQuery net text query) where
  few : too_many_positions q.written ≡ None
  few =
      few_among q.written
      (few_atoms (is_label_of net) q.written.first query.first.regex q.means.first q.keeps.first.few)
      (few_atoms (is_link_of net) q.written.path query.path.regex q.means.path q.keeps.path.few)
      (few_atoms (is_label_of net) (last_signs q.written.last) query.last.regex q.means.last q.keeps.last.few)

  small : is_large q.written.number ≡ false
  small = few_enough q.written.number.text query.bounds.k q.means.k q.keeps.k

  apart : find (λ d. has (known_links net q.written.up) d) (known_links net q.written.down) ≡ None
  apart = none_shared query.bounds.down query.bounds.up (known_links net q.written.down) (known_links net q.written.up) q.means.down q.means.up q.keeps.bounds.apart

  -- the text is written as the query's in no other way
  same : (w : Written) → Reads text w → w ≡ q.written
  same w reads = one_way text w q.written reads q.reads

  -- so what isn't wrong with it in the one way isn't in the other
  none_again : {X : Type 0} (wrong : Written → Option X) (w : Written) (x : X) → Reads text w → wrong q.written ≡ None → wrong w ≡ Some x → ⊥
  none_again wrong w x reads none some = let again : wrong w ≡ None = ap wrong (same w reads) ∙ none in cc

  all_known : (kind : Kind) (at : ℕ) (name : List ℕ) → IsUnknown net text kind at name → ⊥
  all_known kind at name (w, written, quoted, rest, first) = let known : unknown_in net w ≡ [] = ap (unknown_in net) (same w written.reads) ∙ q.known in cc

  only_memory : (fault : QueryFault) → IsFault net text fault → fault ≡ Memory
  only_memory Memory f = refl
  only_memory (TooLong n) f = let short = q.short in let long : nat_lt 4096 (length text) ≡ true = ap (nat_lt 4096) (sym f.1) ∙ f.0 in cc
  only_memory (Syntax k) f = absurd ((f.1).outside (q.written, q.reads))
  only_memory (UnknownLabel at name) f = absurd (all_known _ at _ f)
  only_memory (UnknownRouter at name) f = absurd (all_known _ at _ f)
  only_memory (UnknownInterface at name) f = absurd (all_known _ at _ f)
  only_memory (TooManyPositions i n) f = absurd (none_again too_many_positions f.0 (i, n) (f.1).written.reads few f.2)
  only_memory (TooManyFailures at) f = let none : is_large (f.0).number ≡ false = ap (λ (w : Written). is_large w.number) (same f.0 (f.1).written.written.reads) ∙ small in let large = f.2 in cc
  only_memory (DownAndUp e) f = absurd (none_again (λ w. find (λ d. has (known_links net w.up) d) (known_links net w.down)) f.0 e (f.1).written.written.reads apart f.3)

pub query_fine : (net : Net) (text : List ℕ) (query : Query) (fault : QueryFault) → IsQuery net text query → IsFault net text fault → fault ≡ Memory
query_fine net text query fault q f = only_memory net text query q fault f
