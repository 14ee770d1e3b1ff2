-- What the rules of a head weigh and stand for can be said by weights and tags, and each rule is listed once.
use Rattle.std.proofs.Common.{◌≡◌, ℕ, ◌+◌, ◌*◌, ◌/◌, ◌%◌, ◌<◌, List, [], ◌∷◌, ◌++◌, length, map, take, Option, Some, None, refl, ap, ◌∙◌, arith, inl, inr, length-append}
use Rattle.wi_weight.specs.declared.kinds.Pair.{Pair}
use Rattle.wi_weight.specs.declared.kinds.Terms.{Terms}
use Rattle.wi_weight.specs.declared.kinds.Effort.{Effort}
use Rattle.wi_labels.specs.declared.label.Label.{Label}
use Rattle.wi_net.specs.declared.parts.LinkId.{LinkId}
use Rattle.wi_net.specs.Net.{entry}
use Rattle.wi_net.specs.Tables.{group_members, members_before}
use Rattle.wi_pds.specs.declared.rule.Rule.{Rule}
use Rattle.wi_quantity.specs.Weighing.{components}
use Rattle.wi_world.specs.declared.run.Step.{Step}
use Rattle.wi_world.specs.declared.run.End.TheVariants.{Arrives, Inactive, Undefined}
use Rattle.wi_rules.specs.declared.spot.Origin.{Origin}
use Rattle.wi_rules.specs.declared.spot.Origin.TheVariants.{Pushed, SetOut, Hop, Operation, Ending, Nothing}
use Rattle.wi_rules.specs.declared.spot.Spot.{Spot}
use Rattle.wi_rules.specs.Rules.{IsEncoding, SpotRule, rules_of}
use Rattle.wi_rules.specs.Numbers.{AreRulesOf, layout_of, numbered, rules_at_number, seen, spot_of}
use Rattle.wi_rules.proofs.Lists.{In, get_below}
use Rattle.wi_rules.proofs.Members.{all_count}
use Rattle.wi_build.proofs.Sound.{sound}
use Rattle.wi_build.specs.private.Tags.{IsWithin}
use Rattle.wi_build.specs.Tags.{origin_by, origin_of, tag_of, tagged}
use Rattle.wi_build.specs.Problems.{Problem, IsProblem}
use Rattle.wi_build.specs.Encodings.{encoding_of}
use Rattle.wi_build.specs.Systems.{rule_at, rules_by, weight}
use Rattle.wi_build.proofs.HeadLemmas.{spot_fits}
use Rattle.wi_build.proofs.HopLemmas.{HasRoom, cons_same, group_room}
use Rattle.wi_build.proofs.KindLemmas.{IsListed, OfKinds, all_kind}

-- what a tag says is what it was made for
tag_kind : (kind a b : ℕ) → kind < 8 → b < 1073741824 → (tagged kind a b % 8 ≡ kind) × (tagged kind a b / 8 ≡ b + 1073741824 * a)
tag_kind kind a b k h = (omega arith, omega arith)

tag_parts : (kind a b : ℕ) → kind < 8 → b < 1073741824 → (tagged kind a b / 8 / 1073741824 ≡ a) × (tagged kind a b / 8 % 1073741824 ≡ b)
tag_parts kind a b k h =
    let parts = tag_kind kind a b k h in
    let first : (b + 1073741824 * a) / 1073741824 ≡ a = omega arith in
    let second : (b + 1073741824 * a) % 1073741824 ≡ b = omega arith in
    (ap (λ n. n / 1073741824) parts.1 ∙ first, ap (λ n. n % 1073741824) parts.1 ∙ second)

tag_read : (kind a b : ℕ) → kind < 8 → b < 1073741824 → origin_of (tagged kind a b) ≡ origin_by kind a b
tag_read kind a b k h =
    let kinds = tag_kind kind a b k h in
    let parts = tag_parts kind a b k h in
    ap (λ n. origin_by n (tagged kind a b / 8 / 1073741824) (tagged kind a b / 8 % 1073741824)) kinds.0
    ∙ ap (λ n. origin_by kind n (tagged kind a b / 8 % 1073741824)) parts.0
    ∙ ap (λ n. origin_by kind a n) parts.1

tag_tells : (o : Origin) → IsWithin o → origin_of (tag_of o) ≡ o
tag_tells Nothing h = refl
tag_tells (Pushed l) h = tag_read 1 l.0 0 (omega arith) (omega arith)
tag_tells (SetOut e) h = tag_read 2 e.0 0 (omega arith) (omega arith)
tag_tells (Hop step) h = tag_read 3 step.group step.member (omega arith) h.1
tag_tells (Operation m i) h = tag_read 4 m i (omega arith) h.1
tag_tells (Ending Arrives) h = tag_read 5 0 0 (omega arith) (omega arith)
tag_tells (Ending Inactive) h = tag_read 6 0 0 (omega arith) (omega arith)
tag_tells (Ending (Undefined step)) h = tag_read 7 step.group step.member (omega arith) h.1

-- a weight has six components
pub weight_tells : (xs : List ℕ) → length xs ≡ 6 → components (weight xs) ≡ xs
weight_tells [] h = absurd (omega (arith, h))
weight_tells (a ∷ []) h = absurd (omega (arith, h))
weight_tells (a ∷ b ∷ []) h = absurd (omega (arith, h))
weight_tells (a ∷ b ∷ c ∷ []) h = absurd (omega (arith, h))
weight_tells (a ∷ b ∷ c ∷ d ∷ []) h = absurd (omega (arith, h))
weight_tells (a ∷ b ∷ c ∷ d ∷ e ∷ []) h = absurd (omega (arith, h))
weight_tells (a ∷ b ∷ c ∷ d ∷ e ∷ f ∷ []) h = refl
weight_tells (a ∷ b ∷ c ∷ d ∷ e ∷ f ∷ g ∷ xs) h = absurd (omega (arith, h))

-- a rule whose weight and meaning can be said
pub record IsSayable (r : SpotRule) : Type 0 where
  pub five : length r.share ≡ 5
  pub within : IsWithin r.origin

module _ (problem : Problem) (k : IsProblem problem) where
  is_encoding : IsEncoding (encoding_of problem)
  is_encoding = sound problem k

  step_within : (e : LinkId) (l : Label) (step : Step) → IsListed problem e l step → (step.group < 1073741824) × (step.member < 1073741824)
  step_within e l step there =
      let first = members_before problem.net.rows e l + group_members (take step.group (entry problem.net e l)) in
      let room : HasRoom problem (record { link = e; state = 0; top = l }) step.group first there.0 = group_room problem (record { link = e; state = 0; top = l }) step.group first there.0 k.network (record { group = there.2; first_is = refl }) in
      let below = get_below there.0 step.member there.1 there.3 in
      (omega (arith, room.few_groups), omega (arith, room.few_members, below))

  pub sayable : OfKinds problem IsSayable
  sayable = record {
    plains = λ to word. record { five = refl; within = tt };
    pushes = λ l g q below. record { five = refl; within = omega (arith, below, k.network.classes, k.network.few_labels) };
    firsts = λ e n q below. record { five = is_encoding.first_length e; within = omega (arith, below, k.network.few_links) };
    hops = λ at step q member word there. record { five = is_encoding.step_length at.link at.top step; within = step_within at.link at.top step there };
    arrivals = λ e l to word. record { five = is_encoding.end_length e l Arrives; within = tt };
    inactives = λ e l to word. record { five = is_encoding.end_length e l Inactive; within = tt };
    undefineds = λ e l step to word there. record { five = is_encoding.end_length e l (Undefined step); within = step_within e l step there };
    operations = λ m i to word below few. record { five = refl; within = (omega (arith, below, all_count problem.net.rows, k.network.few_members), omega (arith, few)) };
  }

  -- what is seen of rules that can be said is what they were made of
  said : (n g : ℕ) (rs : List SpotRule) → ((r : SpotRule) → In rs r → IsSayable r)
      → map (λ (r : Rule (Pair Terms Effort)). seen components (λ x. origin_of x.tag) r) (map (λ r. rule_at n g r) (map (λ r. numbered (encoding_of problem) r) rs)) ≡ map (λ r. numbered (encoding_of problem) r) rs
  said n g [] each = refl
  said n g (r ∷ rs) each = cons_same one (said n g rs (λ x i. each x (inr i)))
    where
      can : IsSayable r
      can = each r (inl refl)

      one : seen components (λ x. origin_of x.tag) (rule_at n g (numbered (encoding_of problem) r)) ≡ numbered (encoding_of problem) r
      one = cc (weight_tells (r.share ++ 1 ∷ []) (length-append r.share (1 ∷ []) ∙ omega (arith, can.five)), tag_tells r.origin can.within)

  rules_seen : (n g : ℕ) → map (λ (r : Rule (Pair Terms Effort)). seen components (λ x. origin_of x.tag) r) (rules_by (encoding_of problem) n g) ≡ rules_at_number (encoding_of problem) n g
  rules_seen n g = go (spot_of (layout_of (encoding_of problem)) n) refl
    where
      go : (o : Option Spot) → spot_of (layout_of (encoding_of problem)) n ≡ o → map (λ (r : Rule (Pair Terms Effort)). seen components (λ x. origin_of x.tag) r) (rules_by (encoding_of problem) n g) ≡ rules_at_number (encoding_of problem) n g
      go None e = rw e refl
      go (Some p) e = rw e (said n g (rules_of (encoding_of problem) p g) (λ r i. all_kind problem k IsSayable sayable p g r (spot_fits (encoding_of problem) n p e) i))

  pub systems : AreRulesOf (encoding_of problem) components (λ rule. origin_of rule.tag) (rules_by (encoding_of problem))
  systems = record { each = rules_seen }
