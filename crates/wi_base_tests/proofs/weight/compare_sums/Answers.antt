use Rattle.wi_weight.specs.lemmas.Order.{order_plus_right}
use Rattle.wi_base_tests.proofs.weight.compare_sums.Goals as goal

pub returns : goal.returns
returns g c =
    let is = g.met.W.Domain.admitted in
    rw (c.compare.ensures, c.extend.ensures, c.extend-2.ensures)
    (order_plus_right g.met.W.Domain.laws _ _ _ (is c.args.one) (is c.args.other) (is c.args.added))
