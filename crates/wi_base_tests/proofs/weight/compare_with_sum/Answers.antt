use Rattle.wi_base_tests.proofs.weight.compare_with_sum.Goals as goal

pub returns : goal.returns
returns g c = rw (c.compare.ensures, c.extend.ensures)
    (g.met.W.Domain.laws.grows _ _ (g.met.W.Domain.admitted c.args.first) (g.met.W.Domain.admitted c.args.next))
