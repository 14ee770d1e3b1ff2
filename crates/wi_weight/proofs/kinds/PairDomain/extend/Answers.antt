use Rattle.std.proofs.Common.{◌∙◌, sym}
use Rattle.wi_weight.specs.lemmas.Sums.{plus-append, each_below_first, each_below_second}
use Rattle.wi_weight.proofs.kinds.PairDomain.extend.Goals as goal

pub extend-requires-clause-first : goal.extend-requires-clause-first
extend-requires-clause-first g c = each_below_first _ _ _ c.requires.first

pub extend-requires-clause-second : goal.extend-requires-clause-second
extend-requires-clause-second g c = each_below_first _ _ _ c.requires.second

pub extend-requires-2-clause-first : goal.extend-requires-2-clause-first
extend-requires-2-clause-first g c = each_below_second _ (g.A.Domain.components c.args.self.first) _ c.requires.first

pub extend-requires-2-clause-second : goal.extend-requires-2-clause-second
extend-requires-2-clause-second g c = each_below_second _ (g.A.Domain.components c.args.next.first) _ c.requires.second

pub returns : goal.returns
returns g c = rw (c.extend.ensures, c.extend-2.ensures)
    (sym (plus-append _ _ _ _ (g.met.A.Domain.admitted c.args.self.first ∙ sym (g.met.A.Domain.admitted c.args.next.first))))
