use Rattle.std.proofs.Common.{◌≡◌, ℕ, ◌^◌, lit<, List, [], ◌∷◌, refl, sym, subst, ◌∙◌}
use Rattle.std.specs.List.Sorted.{IsStrictlySortedBy}
use Rattle.std.proofs.lemmas.List.Elements.{All-from_recursion}
use Rattle.wi_weight.specs.Weights.{EachBelow}
use Rattle.wi_pds.specs.Pairs.{pair_cmp}
use Rattle.wi_search_tests.specs.Systems.{two_ways_list}
use Rattle.wi_search_tests.proofs.RuleLists.{closed_by_test, ready_by_all}
use Rattle.wi_search_tests.proofs.systems.two_ways.Goals as goal

heads_rise : (xs : List (ℕ × ℕ)) → xs ≡ (0, 0) ∷ (2, 0) ∷ (2, 1) ∷ (3, 0) ∷ [] → IsStrictlySortedBy pair_cmp xs
unfolding IsStrictlySortedBy
heads_rise xs e = subst (λ l. IsStrictlySortedBy pair_cmp l) (sym e) ((refl, (refl, (refl, tt))), ((refl, (refl, tt)), ((refl, tt), (tt, tt))))

pairs_rise : (xs : List (ℕ × ℕ)) → xs ≡ (1, 0) ∷ [] → IsStrictlySortedBy pair_cmp xs
unfolding IsStrictlySortedBy
pairs_rise xs e = subst (λ l. IsStrictlySortedBy pair_cmp l) (sym e) (tt, tt)

pub invariant_of-result : goal.invariant_of-result
invariant_of-result g c = record {
  heads_rise = heads_rise _ (c.of-2.ensures ∙ c.in_ok-heads.ensures.items);
  pairs_rise = pairs_rise _ (c.of-3.ensures ∙ c.in_ok-pairs.ensures.items);
}

pub returns-clause-closed : goal.returns-clause-closed
returns-clause-closed g c =
    rw (c.of.ensures, c.in_ok-rules.ensures, c.of-2.ensures, c.in_ok-heads.ensures.items, c.of-3.ensures, c.in_ok-pairs.ensures.items) (closed_by_test (two_ways_list c.args.one c.args.two c.args.five) _ _ _ refl refl)

pub returns-clause-ready : goal.returns-clause-ready
returns-clause-ready g c =
    rw (c.of.ensures, c.in_ok-rules.ensures, c.of-2.ensures, c.in_ok-heads.ensures.items)
    (ready_by_all (two_ways_list c.args.one c.args.two c.args.five) g.W.Domain.components _ (lit< tt) (All-from_recursion (λ r. EachBelow (2 ^ 64) (g.W.Domain.components r.weight)) (two_ways_list c.args.one c.args.two c.args.five) (c.requires.one, (c.requires.five, (c.requires.two, (c.requires.one, (c.requires.one, tt)))))))
