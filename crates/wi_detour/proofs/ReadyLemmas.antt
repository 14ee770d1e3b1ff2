-- The rules of each head are few, and their weights fit.
use Rattle.std.proofs.Common.{◌≡◌, ℕ, zero, suc, ◌+◌, ◌^◌, ◌<◌, ◌≤◌, ◌==◌, Bool, true, false, cond, if◌then◌else◌, List, [], ◌∷◌, length, map, refl, arith, ap, subst, inl, inr, length-append}
use Rattle.std.specs.List.{Contains, filter}
use Rattle.std.proofs.lemmas.Bool.{cases_lt}
use Rattle.std.proofs.lemmas.List.{length-map}
use Rattle.wi_net.specs.declared.parts.LinkId.{LinkId}
use Rattle.wi_net.specs.LinkSet.{links_from}
use Rattle.wi_net.specs.Net.{Net}
use Rattle.wi_net.specs.Network.{leaves}
use Rattle.wi_weight.specs.Weights.{EachBelow}
use Rattle.wi_weight.specs.declared.kinds.Pair.{Pair}
use Rattle.wi_weight.specs.declared.kinds.Effort.{Effort}
use Rattle.wi_pds.specs.declared.rule.Rule.{Rule}
use Rattle.wi_saturate.specs.LeastTables.{AreReady}
use Rattle.wi_saturate.proofs.Elements.{get_from_contains}
use Rattle.wi_detour.specs.Graphs.{exits_of}
use Rattle.wi_detour.specs.private.Exits.{exits_in}
use Rattle.wi_detour.specs.private.Around.{Around, IsAround, state_of, is_outside, exits_at, links_on, along, ending, endings, rules_around}
use Rattle.wi_detour.specs.private.Tables.{components}
use Rattle.wi_detour.proofs.ExitLemmas.{exits_is, exits_past}
use Rattle.wi_detour.proofs.RunLemmas.{mapped_cases, one_if}
use Rattle.wi_detour.proofs.BoundLemmas.{near}

kept_no_more : (p : LinkId → Bool) (s : List LinkId) → length (filter p s) ≤ length s
kept_no_more p [] = omega arith
kept_no_more p (x ∷ s) = go (p x) (kept_no_more p s)
  where
    go : (b : Bool) → length (filter p s) ≤ length s → length (cond b (x ∷ filter p s) (filter p s)) ≤ suc (length s)
    go true le = omega arith
    go false le = omega arith

links_count : (at n : ℕ) → length (links_from at n) ≡ n
links_count at zero = refl
links_count at (suc n) = ap suc (links_count (at + 1) n)

few_exits : (net : Net) (r : ℕ) → length (exits_in (exits_of net) r) ≤ length net.links
few_exits net r = elim (cases_lt r (length net.routers)) [
  | inl lt ↦
      (let kept = kept_no_more (leaves net (record { 0 = r })) (links_from 0 (length net.links)) in
      let count = links_count 0 (length net.links) in
      let same : length (exits_in (exits_of net) r) ≡ length (filter (leaves net (record { 0 = r })) (links_from 0 (length net.links))) = ap length (exits_is net r lt) in
      omega (arith, kept, count, same))
  | inr le ↦ (let same : length (exits_in (exits_of net) r) ≡ 0 = ap length (exits_past net r le) in omega (arith, same))
]

few_at : (a : Around) (p : ℕ) → length (exits_at a p) ≤ length a.net.links
few_at a zero = few_exits a.net a.ends.from.0
few_at a (suc zero) = omega arith
few_at a (suc (suc r)) = few_exits a.net r

at_most_one : {X : Type 0} (b : Bool) (x : X) → length (if b then x ∷ [] else []) ≤ 1
at_most_one true x = omega arith
at_most_one false x = omega arith

module _ (a : Around) (is : IsAround a) where
  few_rules : (p g : ℕ) → length (rules_around a p g) < 2 ^ 32
  few_rules p (suc g) = omega arith
  few_rules p zero =
      let exits = few_at a p in
      let kept = kept_no_more (is_outside a) (exits_at a p) in
      let mapped : length (map (along a.net p) (links_on a p)) ≡ length (links_on a p) = length-map (links_on a p) (along a.net p) in
      let one : length (endings a p) ≤ 1 = at_most_one (p == state_of a.ends.to.0) (ending p) in
      let both : length (rules_around a p 0) ≡ length (map (along a.net p) (links_on a p)) + length (endings a p) = length-append (map (along a.net p) (links_on a p)) (endings a p) in
      omega (arith, exits, kept, mapped, one, both, is.network.few_links)

  small_rules : (p g : ℕ) (r : Rule (Pair Effort Effort)) → Contains (rules_around a p g) r → EachBelow (2 ^ 64) (components r.weight)
  small_rules p (suc g) r h = absurd (omega (arith, h.1))
  small_rules p zero r h =
      let at = get_from_contains (rules_around a p 0) r h in
      elim (mapped_cases (along a.net p) (links_on a p) (endings a p) at.0 r at.1) [
        | inl k ↦
            (let low = near a.net k.0 is.network in
            subst (λ (x : Rule (Pair Effort Effort)). EachBelow (2 ^ 64) (components x.weight)) k.2 (omega (arith, low), (omega arith, tt)))
        | inr k ↦ subst (λ (x : Rule (Pair Effort Effort)). EachBelow (2 ^ 64) (components x.weight)) ((one_if (p == state_of a.ends.to.0) (ending p) r k.0 k.2).1) (omega arith, (omega arith, tt))
      ]

  pub ready : (heads : List (ℕ × ℕ)) → AreReady components (rules_around a) heads
  ready heads = record { count = λ p g h. few_rules p g; small = λ p g r h there. small_rules p g r there }
