use Rattle.std.proofs.Common.{sym, ◌∙◌, refl}
use Rattle.wi_accept.specs.Followers.{is_missing, followers, followers_at}
use Rattle.wi_check.proofs.Parts.{part_found, part_none}
use Rattle.wi_check.proofs.heads.missing_by_rules.Goals as goal

pub returns-then-is_some-clause-found : goal.returns-then-is_some-clause-found
returns-then-is_some-clause-found c = part_found (is_missing c.args.listed.heads.now c.args.listed.pairs.now)
    (followers_at c.args.listed.pairs.now c.args.g) (λ r. followers c.args.listed.pairs.now c.args.g r.to r.word) (λ r rs. refl) c.args.rules.now c.loop-rule.rule-index
    _ _ _ _ c.loop-rule-test.true refl c.in_ok-found.ensures.found c.loop-rule.invariant.found (sym c.is_some.ensures ∙ c.if-is_some.true)

pub loop-rule-preserved : goal.loop-rule-preserved
loop-rule-preserved c = record {
  found = part_none (is_missing c.args.listed.heads.now c.args.listed.pairs.now)
      (followers_at c.args.listed.pairs.now c.args.g) (λ r. followers c.args.listed.pairs.now c.args.g r.to r.word) (λ r rs. refl) c.args.rules.now c.loop-rule.rule-index
      _ _ _ _ c.loop-rule-test.true refl c.in_ok-found.ensures.found c.loop-rule.invariant.found (sym c.is_some.ensures ∙ c.if-is_some.false);
  whole = c.in_ok-found.ensures.whole;
}
