-- A head has few rules, and their weights fit: what is seen of them is few and fits.
use Rattle.std.proofs.Common.{◌≡◌, ℕ, true, ◌<◌, ◌^◌, length, map, Contains, ap, subst, arith}
use Rattle.std.proofs.lemmas.List.{length-map}
use Rattle.wi_weight.specs.Weights.{EachBelow}
use Rattle.wi_weight.specs.declared.kinds.Pair.{Pair}
use Rattle.wi_weight.specs.declared.kinds.Terms.{Terms}
use Rattle.wi_weight.specs.declared.kinds.Effort.{Effort}
use Rattle.wi_pds.specs.declared.rule.Rule.{Rule}
use Rattle.wi_quantity.specs.Vectors.{is_vector}
use Rattle.wi_quantity.specs.Weighing.{components}
use Rattle.wi_rules.specs.Numbers.{NumberedRule, seen}
use Rattle.wi_rules.proofs.Lists.{contains_in, in_contains, in_map}
use Rattle.wi_build.proofs.Few as encodings
use Rattle.wi_build.proofs.Fit.{fits}
use Rattle.wi_build.specs.Tags.{origin_of}
use Rattle.wi_build.specs.Problems.{Problem, IsProblem}
use Rattle.wi_build.specs.Encodings.{encoding_of}
use Rattle.wi_build.specs.Systems.{rules_by}
use Rattle.wi_build.proofs.LawLemmas.{systems}

abbrev seen_of : Rule (Pair Terms Effort) → NumberedRule
seen_of r = seen components (λ x. origin_of x.tag) r

pub few : (problem : Problem) → IsProblem problem → (n g : ℕ) → length (rules_by (encoding_of problem) n g) < 2 ^ 32
few problem k n g =
    let numbered_few = encodings.few problem n g k in
    omega (arith, length-map (rules_by (encoding_of problem) n g) seen_of, ap length ((systems problem k).each n g), numbered_few)

pub fit : (problem : Problem) → IsProblem problem → is_vector problem.vector ≡ true → (n g : ℕ) (r : Rule (Pair Terms Effort)) → Contains (rules_by (encoding_of problem) n g) r → EachBelow (2 ^ 64) (components r.weight)
fit problem k is n g r h =
    let rules = rules_by (encoding_of problem) n g in
    let there : Contains (map seen_of rules) (seen_of r) = in_contains (map seen_of rules) (seen_of r) (in_map seen_of rules r (contains_in rules r h)) in
    fits problem n g (seen_of r) k is
    (subst (λ xs. Contains xs (seen_of r)) ((systems problem k).each n g) there)
