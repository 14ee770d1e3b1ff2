-- The last header of a packet that is dropped may be any.
use Rattle.std.proofs.Common.{◌≡◌, ℕ, true, nat_lt, List, [], ◌∷◌, length, refl, subst, ◌∙◌}
use Rattle.std.specs.List.{list_all}
use Rattle.std.proofs.lemmas.Bool.{and_parts}
use Rattle.wi_regex.specs.declared.regex.Regex.{Regex}
use Rattle.wi_regex.specs.declared.regex.Regex.TheVariants as regex
use Rattle.wi_regex.specs.Matching.{IsRepeated, Matches}
use Rattle.wi_net.specs.Net.{Net}
use Rattle.wi_syntax.specs.declared.written.LabelAtom.{LabelAtom}
use Rattle.wi_syntax.specs.declared.written.LabelAtom.TheVariants as label
use Rattle.wi_syntax.specs.declared.written.Last.{Last}
use Rattle.wi_syntax.specs.declared.written.Last.TheVariants.{Header, Dropped}
use Rattle.wi_syntax.specs.declared.written.Sign.{Sign}
use Rattle.wi_syntax.specs.Trees.{Tree, Leaf, Starred, signs_of, IsExpression}
use Rattle.wi_query.specs.Sets.{SymbolMarks, holds, is_label_of}
use Rattle.wi_query.specs.Last.{last_signs, is_dropped}
use Rattle.wi_query.specs.Meaning.{IsRegexOf, AreSignsOf}
use Rattle.wi_query.proofs.Running.{one_tree}

-- the tree of the signs `.*`
abbrev any_header : Tree LabelAtom
any_header = Starred (Leaf label.Any)

pub any_header_is : (signs : List (Sign LabelAtom)) → signs_of any_header [] ≡ signs → IsExpression (λ a. true) signs
any_header_is signs is = (any_header, refl, is)

-- a word of symbols below a number is these symbols, one after the other
any_word : (set : SymbolMarks) (n : ℕ) → ((x : ℕ) → holds set x ≡ nat_lt x n) → (w : List ℕ) → list_all (λ x. nat_lt x n) w ≡ true → IsRepeated (λ v. (x : ℕ) × (holds set x ≡ true) × (v ≡ x ∷ [])) w
any_word set n all [] e = ([], refl)
any_word set n all (x ∷ w) e =
    let parts = and_parts (nat_lt x n) (list_all (λ x. nat_lt x n) w) e in
    let later = any_word set n all w parts.1 in
    ((x ∷ []) ∷ later.0, (w, (λ none. cc), (x, all x ∙ parts.0, refl), refl, later.1))

any_matches : (net : Net) (r : Regex SymbolMarks) → IsRegexOf (is_label_of net) any_header r → (w : List ℕ) → list_all (λ x. nat_lt x (length net.labels)) w ≡ true → Matches holds r w
any_matches net (regex.Star' p (regex.Atom set)) h w e = any_word set (length net.labels) h w e
any_matches net r h w e = absurd h

pub any_when_dropped : (net : Net) (last : Last) (r : Regex SymbolMarks) → is_dropped last ≡ true → AreSignsOf (is_label_of net) (last_signs last) r
    → (w : List ℕ) → list_all (λ x. nat_lt x (length net.labels)) w ≡ true → Matches holds r w
any_when_dropped net (Header signs) r e h = cc
any_when_dropped net (Dropped at) r e h = any_matches net r (subst (λ t. IsRegexOf (is_label_of net) t r) (one_tree h.0 any_header h.1 refl h.2) h.3)
