use Rattle.wi_script.proofs.plays.happen.Goals as goal

pub returns-in-Repair : goal.returns-in-Repair
returns-in-Repair c = rw c.in-Repair.is (c.repair.ensures c.args.k)

pub returns-in-Hop : goal.returns-in-Hop
returns-in-Hop c = rw c.in-Hop.is (c.take.ensures c.args.k)
