use Rattle.wi_protect.proofs.network.protect.Goals as goal

pub returns-clause-paths : goal.returns-clause-paths
returns-clause-paths c = c.protected_paths.ensures c.args.net.now c.args.plan.now c.keeps.ensures c.requires

pub returns-clause-names : goal.returns-clause-names
returns-clause-names c = c.labels_are_named.ensures c.args.net.now c.args.plan.now c.keeps.ensures
