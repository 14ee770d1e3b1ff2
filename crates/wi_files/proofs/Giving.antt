-- Texts of what is given: what they give is one, and they have no fault.
use Rattle.std.proofs.Common.{◌≡◌, ℕ, ◌+◌, List, [], ◌++◌, length, Option, Some, None, true, nat_lt, ap, sym, ◌∙◌, refl}
use Rattle.std.specs.Prelude.{string_bytes}
use Rattle.std.specs.List.{find}
use Rattle.std.specs.Option.{option_map}
use Rattle.wi_net.specs.declared.bounds.Bounds.{Bounds}
use Rattle.wi_net.specs.declared.parts.LinkId.{LinkId}
use Rattle.wi_net.specs.LinkSet.{has, is_apart}
use Rattle.wi_net.specs.Net.{Net}
use Rattle.wi_syntax.specs.Atoms.{pair_at}
use Rattle.wi_syntax.specs.Grammar.{Reads}
use Rattle.wi_syntax.specs.declared.written.Written.{Written}
use Rattle.wi_syntax.proofs.Texts.{one_way}
use Rattle.wi_query.specs.declared.fault.QueryFault.TheVariants.{Memory, TooLong, Syntax, UnknownRouter, UnknownInterface, DownAndUp}
use Rattle.wi_query.specs.declared.strict.StrictFault.{StrictFault}
use Rattle.wi_query.specs.declared.strict.StrictFault.TheVariants.{InQuery, NoLink}
use Rattle.wi_query.specs.Given.{IsGiven, IsGivenFault, IsUnknownGiven, first_shared, front}
use Rattle.wi_query.specs.Linked.{first_linkless}
use Rattle.wi_query.specs.Meaning.{known_links}
use Rattle.wi_query.specs.Unknown.{Kind, unknown_in}
use Rattle.wi_query.proofs.LinkSets.{none_from_apart}

bounds_of : (a : Bounds) (k : ℕ) (down up : List LinkId) → a.k ≡ k → a.down ≡ down → a.up ≡ up → a ≡ record { k = k; down = down; up = up }
bounds_of a k down up k_is down_is up_is = rw (← k_is, ← down_is, ← up_is) refl

pub one_given : (net : Net) (text : List ℕ) (a b : Bounds) → IsGiven net text a → IsGiven net text b → a ≡ b
one_given net text a b one other =
    let same : one.written ≡ other.written = one_way (front ++ text) one.written other.written one.reads other.reads in
    bounds_of a 0 (known_links net one.written.down) (known_links net one.written.up) one.k one.down one.up
    ∙ ap (λ (w : Written). record { k = 0; down = known_links net w.down; up = known_links net w.up }) same
    ∙ sym (bounds_of b 0 (known_links net other.written.down) (known_links net other.written.up) other.k other.down other.up)

-- no link is known both down and up
none_shared : (downs ups down up : List LinkId) → downs ≡ down → ups ≡ up → is_apart downs ups ≡ true → find (λ d. has up d) down ≡ None
none_shared downs ups down up d u apart = rw (← d, ← u) (none_from_apart downs ups apart)

module _ (net : Net) (text : List ℕ) (bounds : Bounds) (g : IsGiven net text bounds) where
  apart : first_shared net g.written ≡ None
  apart = none_shared bounds.down bounds.up (known_links net g.written.down) (known_links net g.written.up) g.down g.up g.keeps.apart

  -- what isn't wrong with it as it is written isn't wrong with it in another way
  none_again : {X : Type 0} (wrong : Written → Option X) (w : Written) (x : X) → Reads (front ++ text) w → wrong g.written ≡ None → wrong w ≡ Some x → ⊥
  none_again wrong w x reads none some = let again : wrong w ≡ None = ap wrong (one_way (front ++ text) w g.written reads g.reads) ∙ none in cc

  all_known : (kind : Kind) (at : ℕ) (name : List ℕ) → IsUnknownGiven net text kind at name → ⊥
  all_known kind at name (w, written, quoted, rest, first) =
      let known : unknown_in net w ≡ [] = ap (unknown_in net) (one_way (front ++ text) w g.written written.reads g.reads) ∙ g.known in cc

  only_memory : (fault : StrictFault) → IsGivenFault net text fault → fault ≡ InQuery Memory
  only_memory (InQuery Memory) f = refl
  only_memory (InQuery (TooLong n)) f = let short = g.short in let long : nat_lt 4096 (length text) ≡ true = ap (nat_lt 4096) (sym f.1) ∙ f.0 in cc
  only_memory (InQuery (Syntax at)) f = absurd ((f.1).outside (g.written, g.reads))
  only_memory (InQuery (UnknownRouter at name)) f = absurd (all_known _ at (string_bytes name) f)
  only_memory (InQuery (UnknownInterface at name)) f = absurd (all_known _ at (string_bytes name) f)
  only_memory (InQuery (DownAndUp e)) f = absurd (none_again (first_shared net) f.0 e (f.1).reads apart f.3)
  only_memory (InQuery fault) f = elim f [ ]
  only_memory (NoLink at) f = absurd (none_again (λ w. option_map pair_at (first_linkless net w)) f.0 (length front + at) (f.1).reads (ap (option_map pair_at) g.linked) f.4)

pub given_fine : (net : Net) (text : List ℕ) (bounds : Bounds) (fault : StrictFault) → IsGiven net text bounds → IsGivenFault net text fault → fault ≡ InQuery Memory
given_fine net text bounds fault g f = only_memory net text bounds g fault f
