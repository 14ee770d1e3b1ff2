-- What is asked of a ring can be asked of it.
use Rattle.std.proofs.Common.{◌≡◌, ℕ, ◌+◌, ◌-◌, ◌%◌, ◌<◌, ◌≤◌, true, false, nat_lt, codes, List, [], ◌∷◌, length, Option, Some, None, refl, sym, ap, ◌∙◌, arith}
use Rattle.std.specs.Prelude.{min}
use Rattle.std.specs.List.{find}
use Rattle.std.specs.Fmt.{decimal}
use Rattle.wi_world.specs.declared.run.Quantity.TheVariants.{Hops, Failures}
use Rattle.wi_net.specs.declared.parts.LinkId.{LinkId}
use Rattle.wi_net.specs.LinkSet.{has}
use Rattle.wi_net.specs.Net.{Net}
use Rattle.wi_syntax.specs.declared.written.Written.{Written}
use Rattle.wi_syntax.specs.Grammar.{Reads}
use Rattle.wi_syntax.proofs.Texts.{one_way}
use Rattle.wi_query.specs.declared.fault.QueryFault.{QueryFault}
use Rattle.wi_query.specs.declared.fault.QueryFault.TheVariants as query_fault
use Rattle.wi_query.specs.Unknown.{Kind, unknown_in}
use Rattle.wi_query.specs.Meaning.{known_links}
use Rattle.wi_query.specs.Faults.{too_many_positions, IsShort, IsUnknown, is_large, IsFault as IsQueryFault}
use Rattle.wi_quantity.specs.declared.vector.Part.{Part}
use Rattle.wi_quantity.specs.declared.fault.WeightFault.{WeightFault}
use Rattle.wi_quantity.specs.declared.fault.WeightFault.TheVariants as weight_fault
use Rattle.wi_quantity.specs.Written.{WrittenTerm, Written as WrittenWeights, Reads as ReadsWeights}
use Rattle.wi_quantity.specs.Faults.{Means, IsFault as IsWeightsFault}
use Rattle.wi_quantity.proofs.Fine.{text_fine}
use Rattle.wi_gen.specs.Ring.{Ring, ring_of, net_of}
use Rattle.wi_gen.specs.Texts.{query_text, weights_text}
use Rattle.wi_gen.proofs.TextsWritten.{written, asked_is}
use Rattle.wi_gen.proofs.TextsNames.{nothing_unknown, has_names}

-- ---- a query whose written form has no fault has none

module _ (net : Net) (text : List ℕ) (w : Written) (is : IsShort text w)
    (known : unknown_in net w ≡ []) (few : too_many_positions w ≡ None) (small : is_large w.number ≡ false)
    (apart : find (λ d. has (known_links net w.up) d) (known_links net w.down) ≡ None) where
  -- the text is written in no other way
  same : (v : Written) → Reads text v → v ≡ w
  same v reads = one_way text v w reads is.reads

  -- so what isn't wrong with it in the one way isn't in the other
  none_again : {X : Type 0} (wrong : Written → Option X) (v : Written) (x : X)
      → Reads text v → wrong w ≡ None → wrong v ≡ Some x → ⊥
  none_again wrong v x reads none some = let again : wrong v ≡ None = ap wrong (same v reads) ∙ none in cc

  all_known : (kind : Kind) (at : ℕ) (name : List ℕ) → IsUnknown net text kind at name → ⊥
  all_known kind at name (v, written, quoted, rest, first) =
      let none : unknown_in net v ≡ [] = ap (unknown_in net) (same v written.reads) ∙ known in
      cc

  none_large : (v : Written) → Reads text v → is_large v.number ≡ true → ⊥
  none_large v reads large =
      let none : is_large v.number ≡ false = ap (λ (z : Written). is_large z.number) (same v reads) ∙ small in
      cc

  only_memory : (fault : QueryFault) → IsQueryFault net text fault → fault ≡ query_fault.Memory
  only_memory query_fault.Memory f = refl
  only_memory (query_fault.TooLong n) f =
      let short : nat_lt 4096 (length text) ≡ false = is.short in
      let long : nat_lt 4096 (length text) ≡ true = ap (nat_lt 4096) (sym f.1) ∙ f.0 in
      cc
  only_memory (query_fault.Syntax k) f = absurd ((f.1).outside (w, is.reads))
  only_memory (query_fault.UnknownLabel at name) f = absurd (all_known _ at _ f)
  only_memory (query_fault.UnknownRouter at name) f = absurd (all_known _ at _ f)
  only_memory (query_fault.UnknownInterface at name) f = absurd (all_known _ at _ f)
  only_memory (query_fault.TooManyPositions i n) f = absurd (none_again too_many_positions f.0 (i, n) (f.1).written.reads few f.2)
  only_memory (query_fault.TooManyFailures at) f = absurd (none_large f.0 (f.1).written.written.reads f.2)
  only_memory (query_fault.DownAndUp e) f =
      let shared : Written → Option LinkId = λ v. find (λ d. has (known_links net v.up) d) (known_links net v.down) in
      absurd (none_again shared f.0 e (f.1).written.written.reads apart f.3)

-- ---- the text that is asked of a ring

-- the path is a part of the circle, of 2 to 63 links
path_low : (seed size : ℕ) → 4 ≤ size → 2 + seed % (min size 64 - 2) < size
path_low seed size few = let some : 0 < min size 64 - 2 = omega arith in omega arith

path_short : (seed size : ℕ) → 4 ≤ size → 2 + seed % (min size 64 - 2) < 100
path_short seed size few = let some : 0 < min size 64 - 2 = omega arith in omega arith

asks : (ring : Ring) → 4 ≤ ring.size → ring.path < ring.size → ring.path < 100
    → (fault : QueryFault) → IsQueryFault (net_of ring) (query_text ring) fault → fault ≡ query_fault.Memory
asks ring few low short fault f =
    let known : unknown_in (net_of ring) (written (decimal ring.path)) ≡ [] =
    nothing_unknown (net_of ring) (decimal ring.path) (has_names ring few low) in
    only_memory (net_of ring) (query_text ring) (written (decimal ring.path)) (asked_is ring.path short)
    known refl refl refl fault f

pub the_query_is_one : (seed size : ℕ) → 4 ≤ size → size ≤ 2000 → (fault : QueryFault)
    → IsQueryFault (net_of (ring_of seed size)) (query_text (ring_of seed size)) fault → fault ≡ query_fault.Memory
the_query_is_one seed size few many = asks (ring_of seed size) few (path_low seed size few) (path_short seed size few)

-- ---- the weights

term : ℕ → List ℕ → WrittenTerm
term at name = record { first = record { number = None; word = (at, name) }; more = [] }

weights : WrittenWeights
weights = record { first = term 0 (codes "Failures"); more = term 10 (codes "Hops") ∷ [] }

reads_weights : ReadsWeights weights_text weights
unfolding term weights
reads_weights = (
  [],
  _,
  refl,
  refl,
  (refl, (λ e. (cc)), refl, refl),
  (
    [],
    _,
    refl,
    refl,
    tt,
    (32 ∷ [], _, refl, refl, (refl, (λ e. (cc)), refl, refl), refl),
  ),
)

vector : List (List Part)
vector = (record { coefficient = 1; quantity = Failures } ∷ []) ∷ (record { coefficient = 1; quantity = Hops } ∷ []) ∷ []

means_weights : Means weights_text vector
unfolding term weights vector
means_weights = record { written = weights; reads = reads_weights; known = refl; few = refl; small = refl; terms = refl }

pub the_weights_are_some : (fault : WeightFault) → IsWeightsFault weights_text fault → fault ≡ weight_fault.Memory
the_weights_are_some fault f = text_fine weights_text vector fault means_weights f
