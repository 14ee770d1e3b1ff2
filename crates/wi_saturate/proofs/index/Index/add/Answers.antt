use Rattle.std.proofs.Common.{◌++◌, ◌∷◌, [], sym, subst}
use Rattle.wi_saturate.specs.private.Chains.{ChainsView}
use Rattle.wi_saturate.specs.private.Rulings.{RulesView}
use Rattle.wi_saturate.specs.private.Indexes.{AreBegins}
use Rattle.wi_saturate.proofs.Lookups.{begins_more}
use Rattle.wi_saturate.proofs.index.Index.add.Goals as goal

pub returns-clause-begins : goal.returns-clause-begins
returns-clause-begins g c =
    subst (λ (v : RulesView _). AreBegins v.heads v.items c.add.new.self) (sym c.in_ok-push.ensures)
    (subst (λ (v : ChainsView). AreBegins c.args.self.now.rules.heads (c.args.self.now.rules.items ++ c.args.ruled ∷ []) v) (sym c.in_ok-add.ensures) (begins_more c.args.self.now.rules.heads c.args.self.now.rules.items c.args.self.now.begins c.args.ruled _ c.requires.begins c.begins_at.ensures))
