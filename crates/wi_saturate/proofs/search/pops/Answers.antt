use Rattle.std.proofs.Common.{◌≡◌, None, Some, length, ap, arith, subst, sym, ◌∙◌}
use Rattle.std.specs.List.{Contains}
use Rattle.std.proofs.lemmas.Option.{slice_get_within}
use Rattle.wi_saturate.proofs.Elements.{some_there}
use Rattle.wi_saturate.proofs.Counts.{first_tries, all_tries}
use Rattle.wi_saturate.proofs.Searching.{pops_kept, begins_more}
use Rattle.wi_saturate.proofs.search.pops.Goals as goal
use borrow.Author.Count.{below_more}

pub loop-rule-init : goal.loop-rule-init
loop-rule-init g c = record {
  begins = record {
    sound = λ t is. absurd (subst (λ heap. Contains heap t → ⊥) (sym c.new-frontier.ensures.heap) (λ within. let low = within.1 in omega (arith, low)) is);
    held = λ head q x at. let none : None ≡ Some x = sym (c.new-frontier.ensures.offered head q) ∙ at in cc;
  };
  lengths = let empty : length c.new-frontier.result.heap ≡ 0 = ap length c.new-frontier.ensures.heap in omega (arith, empty);
  tries = omega arith;
  has = λ k low. absurd (omega (arith, low));
}

pub loop-rule-preserved : goal.loop-rule-preserved
loop-rule-preserved g c =
    let m = g.W.Domain.scale in
    let w = g.W.Domain.components in
    let flat = c.args.rules.now.items in
    record {
      begins = begins_more m w flat c.loop-rule.frontier c.push_if_pop.new.frontier c.loop-rule.invariant.begins c.in_ok-push_if_pop.ensures.adds;
      lengths = omega (arith, c.loop-rule.invariant.lengths, c.in_ok-push_if_pop.ensures.lengths);
      tries = let f = some_there flat c.loop-rule.rule (omega (arith, c.loop-rule-test.true, c.len-rule-end.ensures)) in first_tries flat c.loop-rule.rule f.0 _ _ _ f.1 c.loop-rule.invariant.tries (c.in_ok-push_if_pop.ensures.tries f.0 f.1);
      has = below_more _ _ (λ k low. pops_kept m w g.met.W.Domain.laws g.met.W.Domain.admitted flat k c.loop-rule.frontier c.push_if_pop.new.frontier c.in_ok-push_if_pop.ensures.adds (c.loop-rule.invariant.has k low)) c.in_ok-push_if_pop.ensures.has;
    }

pub returns-clause-has : goal.returns-clause-has
returns-clause-has g c k f at word =
    let within = slice_get_within c.args.rules.now.items k f at in
    c.loop-rule.invariant.has k (omega (arith, within, c.loop-rule-test.false, c.len-rule-end.ensures)) f at word

pub returns-clause-tries : goal.returns-clause-tries
returns-clause-tries g c = all_tries c.args.rules.now.items c.loop-rule.rule _ _ (omega (arith, c.loop-rule-test.false, c.len-rule-end.ensures)) c.loop-rule.invariant.tries
