-- What the rules of a head weigh is below 2^64.
use Rattle.std.proofs.Common.{◌≡◌, ℕ, ◌<◌, ◌≤◌, ◌^◌, Bool, true, false, nat_eq, nat_lt, List, [], ◌∷◌, Option, Some, None, length, map, take, replicate, slice_get, refl, arith, subst}
use Rattle.std.specs.Prelude.{if◌then◌else◌}
use Rattle.std.specs.List.{Contains, list_all}
use Rattle.std.specs.Option.{option_map_or, option_and_then}
use Rattle.std.proofs.lemmas.Bool.{and_from, ltb-true, le-leb}
use Rattle.wi_labels.specs.declared.label.Label.{Label}
use Rattle.wi_net.specs.declared.parts.Link.{Link}
use Rattle.wi_net.specs.declared.parts.LinkId.{LinkId}
use Rattle.wi_net.specs.declared.parts.Member.{Member}
use Rattle.wi_net.specs.Net.{Net, is_link, entry, before, risk_count}
use Rattle.wi_net.specs.Network.{IsNetwork}
use Rattle.wi_net.proofs.KeptLists.{all_get}
use Rattle.wi_weight.specs.Weights.{EachBelow}
use Rattle.wi_weight.specs.lemmas.Sums.{each_below_both}
use Rattle.wi_world.specs.declared.run.Quantity.{Quantity}
use Rattle.wi_world.specs.declared.run.Quantity.TheVariants.{Links, Hops, Distance, Failures, Tunnels}
use Rattle.wi_world.specs.declared.run.Step.{Step}
use Rattle.wi_world.specs.declared.run.End.{End}
use Rattle.wi_world.specs.declared.run.End.TheVariants.{Arrives, Inactive, Undefined}
use Rattle.wi_world.specs.Moves.{before_end}
use Rattle.wi_world.specs.Runs.{link_share}
use Rattle.wi_quantity.specs.declared.vector.Part.{Part}
use Rattle.wi_quantity.specs.Vectors.{is_vector}
use Rattle.wi_quantity.specs.Weighing.{growth, member_share, end_adds, hop_weight, entry_weight, first_weight, end_weight, is_way_out}
use Rattle.wi_quantity.proofs.RiskLemmas.{before_few}
use Rattle.wi_quantity.proofs.ShareLemmas.{growth_small}
use Rattle.wi_rules.specs.declared.spot.Spot.{Spot}
use Rattle.wi_rules.specs.Rules.{SpotRule, rules_of}
use Rattle.wi_rules.specs.Numbers.{NumberedRule, layout_of, spot_of, numbered, rules_at_number}
use Rattle.wi_rules.proofs.Lists.{contains_in, map_in, option_in}
use Rattle.wi_rules.proofs.Members.{Kept, kept, member_numbered}
use Rattle.wi_build.specs.Encodings.{encoding_of}
use Rattle.wi_build.specs.Problems.{Problem, IsProblem}
use Rattle.wi_build.proofs.Sound.{sound}
use Rattle.wi_build.proofs.Values.{each_below_take, zeros_below, values_below}
use Rattle.wi_build.proofs.RuleShares.{shares_hold}

-- each link's distance is below 2^32
abbrev pub are_near : Net → Bool
are_near net = list_all (λ (l : Link). nat_lt l.distance (2 ^ 32)) net.links

-- an end needs no more risk groups than there can be links
pub end_few : (net : Net) (groups : List (List Member)) (end : End) → IsNetwork net → risk_count net (before_end net groups end) ≤ 20000
end_few net groups Arrives k = omega arith
end_few net groups Inactive k = before_few net groups (length groups) k
end_few net groups (Undefined step) k = before_few net groups step.group k

module _ (net : Net) (k : IsNetwork net) (near : are_near net ≡ true) where
  distance_small : (e : LinkId) (o : Option Link) → slice_get net.links e.0 ≡ o → option_map_or (λ (l : Link). l.distance) o 0 < 2 ^ 32
  distance_small e None is = omega arith
  distance_small e (Some l) is = ltb-true l.distance (2 ^ 32) (all_get (λ (l : Link). nat_lt l.distance (2 ^ 32)) net.links e.0 l near is)

  hops_small : (o : Option Link) → option_map_or (λ (l : Link). if nat_eq l.from.0 l.to.0 then 0 else 1) o 0 < 2 ^ 32
  hops_small None = omega arith
  hops_small (Some l) = go (nat_eq l.from.0 l.to.0)
    where
      go : (b : Bool) → (if b then 0 else 1) < 2 ^ 32
      go true = omega arith
      go false = omega arith

  link_small : (e : LinkId) (q : Quantity) → link_share q net e < 2 ^ 32
  link_small e Links = omega arith
  link_small e Hops = hops_small (slice_get net.links e.0)
  link_small e Distance = distance_small e (slice_get net.links e.0) refl
  link_small e Failures = omega arith
  link_small e Tunnels = omega arith

  member_small : (m : Member) (failures : ℕ) → Kept net m → failures ≤ 20000 → (q : Quantity) → member_share q net m failures < 2 ^ 32
  member_small m failures kept few Links = link_small m.link Links
  member_small m failures kept few Hops = link_small m.link Hops
  member_small m failures kept few Distance = link_small m.link Distance
  member_small m failures kept few Failures = omega (arith, few)
  member_small m failures kept few Tunnels =
      let way : is_way_out net m ≡ true = and_from (is_link net m.link) _ kept.link (le-leb (length m.ops) 8 kept.few) in
      let grown = growth_small net m (growth m.ops) refl way in
      omega (arith, grown)

  first_below : (vector : List (List Part)) (e : LinkId) → is_vector vector ≡ true → EachBelow (2 ^ 64) (take 5 (first_weight net vector e.0))
  first_below vector e is = values_below (λ q. link_share q net e) (link_small e) vector is

  -- what is added by a member of a number of a group of a number, where there is one, and otherwise nothing
  in_groups_below : (vector : List (List Part)) (groups : List (List Member)) (j m : ℕ) → is_vector vector ≡ true → ((group : List Member) (member : Member) → slice_get groups j ≡ Some group → slice_get group m ≡ Some member → Kept net member)
      → EachBelow (2 ^ 64) (take 5 (entry_weight net vector groups j m))
  in_groups_below vector groups j m is each = in_groups (slice_get groups j) refl
    where
      failures : ℕ
      failures = risk_count net (before net groups j)

      in_group : (group : List Member) (o : Option Member) → slice_get groups j ≡ Some group → slice_get group m ≡ o → EachBelow (2 ^ 64) (take 5 (option_map_or (λ (member : Member). hop_weight net vector member failures) o (replicate 6 0)))
      in_group group None g e = each_below_take (2 ^ 64) 5 (replicate 6 0) (zeros_below (2 ^ 64) 6 (omega arith))
      in_group group (Some member) g e = values_below (λ q. member_share q net member failures) (member_small member failures (each group member g e) (before_few net groups j k)) vector is

      in_groups : (o : Option (List Member)) → slice_get groups j ≡ o → EachBelow (2 ^ 64) (take 5 (option_map_or (λ (member : Member). hop_weight net vector member failures) (option_and_then (λ (group : List Member). slice_get group m) o) (replicate 6 0)))
      in_groups None g = each_below_take (2 ^ 64) 5 (replicate 6 0) (zeros_below (2 ^ 64) 6 (omega arith))
      in_groups (Some group) g = in_group group (slice_get group m) g refl

  step_below : (vector : List (List Part)) (e : LinkId) (l : Label) (step : Step) → is_vector vector ≡ true → EachBelow (2 ^ 64) (take 5 (entry_weight net vector (entry net e l) step.group step.member))
  step_below vector e l step is =
      in_groups_below vector (entry net e l) step.group step.member is
      (λ group member g f. kept net k _ member (member_numbered net.rows e l step.group step.member group member g f))

  end_small : (failures : ℕ) → failures ≤ 20000 → (q : Quantity) → end_adds q failures < 2 ^ 32
  end_small failures few Links = omega arith
  end_small failures few Hops = omega arith
  end_small failures few Distance = omega arith
  end_small failures few Failures = omega (arith, few)
  end_small failures few Tunnels = omega arith

  end_below : (vector : List (List Part)) (e : LinkId) (l : Label) (end : End) → is_vector vector ≡ true → EachBelow (2 ^ 64) (take 5 (end_weight vector (risk_count net (before_end net (entry net e l) end))))
  end_below vector e l end is =
      let failures = risk_count net (before_end net (entry net e l) end) in
      values_below (λ q. end_adds q failures) (end_small failures (end_few net (entry net e l) end k)) vector is

pub fits : (problem : Problem) (n g : ℕ) (rule : NumberedRule) → IsProblem problem → is_vector problem.vector ≡ true → Contains (rules_at_number (encoding_of problem) n g) rule → EachBelow (2 ^ 64) rule.weight
fits problem n g rule k is h =
    let s = encoding_of problem in
    let a = option_in (λ (p : Spot). map (λ (r : SpotRule). numbered s r) (rules_of s p g)) (spot_of (layout_of s) n) rule (contains_in (rules_at_number s n g) rule h) in
    let b = map_in (λ (r : SpotRule). numbered s r) (rules_of s a.0 g) rule a.2 in
    let share = shares_hold s (sound problem k) (λ (share : List ℕ). EachBelow (2 ^ 64) share) (zeros_below (2 ^ 64) 5 (omega arith)) (λ e. first_below problem.net k.network k.network.near problem.vector e is) (λ e l step. step_below problem.net k.network k.network.near problem.vector e l step is)
    (λ e l end. end_below problem.net k.network k.network.near problem.vector e l end is) a.0 g b.0 b.1 in
    subst (λ (x : NumberedRule). EachBelow (2 ^ 64) x.weight) b.2 (each_below_both (2 ^ 64) b.0.share (1 ∷ []) share (omega arith, tt))
