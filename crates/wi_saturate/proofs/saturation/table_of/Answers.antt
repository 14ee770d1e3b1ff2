use Rattle.std.proofs.lemmas.Result.{IfOk-weaker}
use Rattle.wi_saturate.proofs.Counts.{ways_are, tried_in_all, tries_in_all}
use Rattle.std.proofs.Common.{refl}
use Rattle.wi_saturate.proofs.saturation.table_of.Goals as goal

pub returns-clause-tried : goal.returns-clause-tried
returns-clause-tried g c = IfOk-weaker c.settle-table.result _ _ (λ t turns. tried_in_all _ _ _ _ _ c.in_ok-search.ensures.lengths turns) c.settle-table.ensures.tried

pub returns-clause-tries : goal.returns-clause-tries
returns-clause-tries g c =
    let index = c.args.asked.now.index.now in
    IfOk-weaker c.settle-table.result _ _
    (λ t turns. tries_in_all _ _ _ _ _ _ c.in_ok-search.ensures.tries turns (ways_are (g.S.System.rules c.args.sys.now) index.rules.heads index.rules.heads index.rules.items t.rows refl c.requires.asked.index.listed))
    c.settle-table.ensures.tries
