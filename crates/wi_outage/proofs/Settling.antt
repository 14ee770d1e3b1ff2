-- What may fail while a risk group is out, and what else may not.
use Rattle.std.proofs.Common.{◌≡◌, ◌+◌, ◌≤◌, Bool, true, false, not, ◌&&◌, ◌||◌, nat_le, List, [], ◌∷◌, refl, arith, ap, inl, inr, sym, ◌∙◌}
use Rattle.std.proofs.lemmas.Bool.{le-leb, leb-true, and_parts, and_from, not_from_false, not-true, or_cases, or_left, or_right, cases_Bool, false_from_ne_true, true≢false}
use Rattle.wi_net.specs.declared.parts.LinkId.{LinkId}
use Rattle.wi_net.specs.declared.bounds.Bounds.{Bounds}
use Rattle.wi_net.specs.LinkSet.{has, is_apart, outside}
use Rattle.wi_net.specs.RiskGroups.{union}
use Rattle.wi_net.specs.Net.{Net, same_risk, risk_count, widened, with_risk, without_risk}
use Rattle.wi_net.specs.Network.{IsNetwork}
use Rattle.wi_net.proofs.SetLemmas.{has_where, where_has, union_link, within_has, within_from, apart_has, apart_from}
use Rattle.wi_net.proofs.CountLemmas.{count_within, count_less, count_more, filter_same}
use Rattle.wi_net.proofs.WidenLemmas.{has-union}
use Rattle.wi_world.specs.Moves.{IsAllowed, IsBounded}
use Rattle.wi_world.proofs.Allowed.{with_union, without_union}
use Rattle.wi_outage.specs.Survival.{with_down, with_k, with_up}
use Rattle.wi_outage.proofs.Unions.{apart_turned, apart_union, in_union, union_first, widened_whole, union_whole}

-- the links of one link's risk group
in_group : (net : Net) (d e : LinkId) → has (widened net (d ∷ [])) e ≡ true → same_risk net d e ≡ true
in_group net d e h =
    elim (or_cases (same_risk net d e) false ((where_has net (λ x. same_risk net d x || false) e h).1)) [ inl r ↦ r | inr none ↦ cc ]

-- ---- one group adds one to the count

or_nothing : (b : Bool) → (b || false) ≡ b
or_nothing true = refl
or_nothing false = refl

-- what is left of the failed links without a group, besides those known to be down and the group
rest_besides : (net : Net) (fails down : List LinkId) (d : LinkId) → outside (without_risk net fails d) (union down (widened net (d ∷ []))) ≡ outside (without_risk net fails d) down
rest_besides net fails down d = filter_same (λ e. not (has (union down (widened net (d ∷ []))) e)) (λ e. not (has down e)) (without_risk net fails d) same
  where
    same : (e : LinkId) → has (without_risk net fails d) e ≡ true → not (has (union down (widened net (d ∷ []))) e) ≡ not (has down e)
    same e h =
        let other : same_risk net d e ≡ false = not-true (same_risk net d e) ((and_parts (has fails e) (not (same_risk net d e)) ((where_has net (λ x. has fails x && not (same_risk net d x)) e h).1)).1) in
        let out : has (widened net (d ∷ [])) e ≡ false = false_from_ne_true (has (widened net (d ∷ [])) e) (λ i. true≢false (sym (in_group net d e i) ∙ other)) in
        ap not (has-union down (widened net (d ∷ [])) e ∙ ap (λ b. has down e || b) out ∙ or_nothing (has down e))

-- so where the group is known to be down besides, at most one risk group fewer has failed besides what is known
pub one_group_more : (net : Net) (fails down : List LinkId) (d : LinkId) → widened net fails ≡ fails → risk_count net (outside fails down) ≤ risk_count net (outside fails (union down (widened net (d ∷ [])))) + 1
one_group_more net fails down d u = omega (arith, within, more, fewer)
  where
    whole : widened net (without_risk net fails d) ≡ without_risk net fails d
    whole = without_union net fails d u

    back : (e : LinkId) → has fails e ≡ true → has down e ≡ false → has (with_risk net (without_risk net fails d) d) e ≡ true
    back e h free = has_where net (λ x. has (without_risk net fails d) x || same_risk net d x) e (union_link net fails e u h) (go (same_risk net d e) refl)
      where
        go : (c : Bool) → same_risk net d e ≡ c → (has (without_risk net fails d) e || same_risk net d e) ≡ true
        go true c = or_right (has (without_risk net fails d) e) (same_risk net d e) c
        go false c =
            or_left (has (without_risk net fails d) e) (same_risk net d e)
            (has_where net (λ x. has fails x && not (same_risk net d x)) e (union_link net fails e u h) (and_from (has fails e) (not (same_risk net d e)) h (not_from_false (same_risk net d e) c)))

    within : risk_count net (outside fails down) ≤ risk_count net (outside (with_risk net (without_risk net fails d) d) down)
    within = count_within net fails (with_risk net (without_risk net fails d) d) down u (with_union net (without_risk net fails d) d whole) back

    more : risk_count net (outside (with_risk net (without_risk net fails d) d) down) ≤ risk_count net (outside (without_risk net fails d) down) + 1
    more = count_more net (without_risk net fails d) down d whole (with_union net (without_risk net fails d) d whole)

    fewer : risk_count net (outside (without_risk net fails d) down) ≤ risk_count net (outside fails (union down (widened net (d ∷ []))))
    fewer =
        let besides : risk_count net (outside (without_risk net fails d) (union down (widened net (d ∷ [])))) ≤ risk_count net (outside fails (union down (widened net (d ∷ [])))) = count_within net (without_risk net fails d) fails (union down (widened net (d ∷ []))) whole u (λ e h free. (and_parts (has fails e) (not (same_risk net d e)) ((where_has net (λ x. has fails x && not (same_risk net d x)) e h).1)).0) in
        rw (rest_besides net fails down d) at besides

-- ---- the two laws

-- with a group out, and with one more that may fail
pub at_one_more : (net : Net) (bounds : Bounds) (d : LinkId) (links fails : List LinkId) → IsBounded net bounds → links ≡ widened net (d ∷ []) → is_apart links bounds.up ≡ true → IsAllowed net (with_down bounds links) fails → IsAllowed net (with_k bounds (bounds.k + 1)) fails
at_one_more net bounds d links fails b is off a = record {
  union = a.union;
  down = within_from bounds.down fails (λ e h. within_has (union bounds.down links) fails e a.down (union_first bounds.down links e h));
  up = a.up;
  few =
      (let one = one_group_more net fails bounds.down d a.union in
      let most : risk_count net (outside fails (union bounds.down (widened net (d ∷ [])))) ≤ bounds.k = leb-true _ bounds.k (ap (λ s. nat_le (risk_count net (outside fails (union bounds.down s))) bounds.k) (sym is) ∙ a.few) in
      le-leb (risk_count net (outside fails bounds.down)) (bounds.k + 1) (omega (arith, one, most)));
}

-- where no risk group has failed besides a union, no link has
none_besides : (net : Net) (s t : List LinkId) (e : LinkId) → IsNetwork net → widened net s ≡ s → widened net t ≡ t → risk_count net (outside s t) ≤ 0 → has s e ≡ true → has t e ≡ true
none_besides net s t e k us ut none h = elim (cases_Bool (has t e)) [ inl i ↦ i | inr out ↦ absurd (some out) ]
  where
    some : has t e ≡ false → ⊥
    some out =
        let less = count_less net t s t e k ut us ut (λ x i no. absurd (true≢false (sym i ∙ no))) h out out in
        omega (arith, less, none)

-- with just a group out, and with links that aren't in it kept up
pub kept_up : (net : Net) (bounds : Bounds) (d : LinkId) (links kept fails : List LinkId) → IsBounded net bounds → widened net kept ≡ kept → is_apart kept bounds.down ≡ true → links ≡ widened net (d ∷ []) → is_apart links bounds.up ≡ true → is_apart links kept ≡ true
    → IsAllowed net (with_k (with_down bounds links) 0) fails → IsAllowed net (with_k (with_up bounds kept) 1) fails
kept_up net bounds d links kept fails b uk free is off apart a = record {
  union = a.union;
  down = within_from bounds.down fails (λ e h. within_has (union bounds.down links) fails e a.down (union_first bounds.down links e h));
  up = apart_union fails bounds.up kept a.up kept_apart;
  few =
      (let one = one_group_more net fails bounds.down d a.union in
      let least : risk_count net (outside fails (union bounds.down (widened net (d ∷ [])))) ≤ 0 = leb-true _ 0 (ap (λ s. nat_le (risk_count net (outside fails (union bounds.down s))) 0) (sym is) ∙ a.few) in
      le-leb (risk_count net (outside fails bounds.down)) 1 (omega (arith, one, least)));
}
  where
    whole : widened net links ≡ links
    whole = ap (widened net) is ∙ widened_whole net (d ∷ []) ∙ sym is

    -- what has failed was known to be down, or is of the group
    known : (e : LinkId) → has fails e ≡ true → has (union bounds.down links) e ≡ true
    known e h = none_besides net fails (union bounds.down links) e b.network a.union (union_whole net bounds.down links b.bounds_of.down whole) (leb-true (risk_count net (outside fails (union bounds.down links))) 0 a.few) h

    kept_apart : is_apart fails kept ≡ true
    kept_apart =
        apart_from fails kept (λ e h.
        elim (or_cases (has bounds.down e) (has links e) (in_union bounds.down links e (known e h))) [
          | inl i ↦ apart_has bounds.down kept e (apart_turned kept bounds.down free) i
          | inr i ↦ apart_has links kept e apart i
        ])
