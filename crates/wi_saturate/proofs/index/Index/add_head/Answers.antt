use Rattle.std.proofs.Common.{◌≡◌, ◌∙◌, ℕ, List, Some, slice_get, refl, ap, sym, subst}
use Rattle.wi_saturate.specs.private.Rulings.{RulesView}
use Rattle.wi_saturate.specs.private.Indexes.{AreBegins}
use Rattle.wi_saturate.proofs.Lookups.{rule_named}
use Rattle.wi_saturate.proofs.index.Index.add_head.Goals as goal

pub loop-at-init : goal.loop-at-init
loop-at-init g c = record {
  heads = refl;
  begins = subst (λ (v : RulesView _). AreBegins v.heads v.items c.args.self.now.begins) (sym c.begin_head.ensures) c.requires.begins;
  rules = refl;
}

pub add-requires-clause-named : goal.add-requires-clause-named
add-requires-clause-named g c =
    let same : c.loop-at.self.rules.heads ≡ c.args.self.now.rules.heads = c.loop-at.invariant.heads ∙ ap (λ v. v.heads) c.begin_head.ensures in
    subst (λ (hs : List (ℕ × ℕ)). slice_get hs c.args.head ≡ Some (c.index-rules-at.result.from, c.index-rules-at.result.top)) (sym same)
    (rule_named c.args.self.now.rules.heads c.args.head c.loop-at.at c.args.rules.now c.index-rules-at.result c.requires.listed c.requires.named c.loop-at-test.true c.index-rules-at.is)

pub returns-clause-heads : goal.returns-clause-heads
returns-clause-heads g c = c.loop-at.invariant.heads ∙ ap (λ v. v.heads) c.begin_head.ensures
