use Rattle.std.proofs.Common.{◌≡◌, ◌∙◌, true, false, sym}
use Rattle.wi_weight.specs.lemmas.Sums.{each_below_first, each_below_second, each_below_both}
use Rattle.wi_weight.proofs.kinds.PairDomain.fits.Goals as goal

false_not_true : false ≡ true → ⊥
false_not_true same = cc

pub returns-then-fits : goal.returns-then-fits
returns-then-fits g c = (
  (λ second. each_below_both _ _ _ (c.fits.ensures.0 c.if-fits.true) (c.fits-then-fits.ensures.0 second)),
  (λ both. c.fits-then-fits.ensures.1 (each_below_second _ (g.A.Domain.components c.args.self.now.first) _ both)),
)

pub returns-else-fits : goal.returns-else-fits
returns-else-fits g c = (
  (λ same. absurd (false_not_true (sym c.if-fits.false ∙ same))),
  (λ both. c.fits.ensures.1 (each_below_first _ _ _ both)),
)
