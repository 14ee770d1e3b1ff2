-- A certificate that was checked to the end is accepted, and what was told first is why it isn't.
use Rattle.std.proofs.Common.{◌<◌, arith}
use Rattle.wi_build.specs.Problems.{Problem}
use Rattle.wi_cert.specs.declared.certificate.Certificate.{Certificate}
use Rattle.wi_cert.specs.declared.check_refused.CheckRefused.{CheckRefused}
use Rattle.wi_cert.specs.declared.check_refused.CheckRefused.TheVariants.{OfAnotherQuestion, TermsDiffer, StepNotInTable, NoMatch, WeightDiffers, WrongAnswer, Unbounded, BadSplit, Leaf, Memory}
use Rattle.wi_cert.specs.declared.check_refused.ClosedRefused.{ClosedRefused}
use Rattle.wi_accept.specs.Causes.{IsAccepted, IsCause, IsRefused, IsShownCause, place}
use Rattle.wi_accept.proofs.FirstRefusals.{few_places, shown_first}
use Rattle.wi_check.specs.private.Stages.{NoneShown, NoneClosed, IsShownRefused, IsFirstClosed}

-- a cause against a certificate is one against what is shown, or comes after
cause_shown : (problem : Problem) (c : Certificate) (r : CheckRefused) → place r < 6 → IsCause problem c r → IsShownCause problem c.shown r
cause_shown problem c OfAnotherQuestion low h = h
cause_shown problem c (TermsDiffer shown asked) low h = h
cause_shown problem c (StepNotInTable n) low h = h
cause_shown problem c (NoMatch part) low h = h
cause_shown problem c (WeightDiffers shown counted) low h = h
cause_shown problem c WrongAnswer low h = h
cause_shown problem c (Unbounded r) low h = absurd (omega (arith, low))
cause_shown problem c (BadSplit n) low h = h
cause_shown problem c (Leaf n r) low h = h
cause_shown problem c Memory low h = h

pub accepted : (problem : Problem) (c : Certificate) → NoneShown problem c.shown 6 → NoneClosed problem c.shown c.closed 3 → IsAccepted problem c
accepted problem c shown closed (Unbounded r) h = closed r (few_places r) h
accepted problem c shown closed (BadSplit n) h = h
accepted problem c shown closed (Leaf n r) h = h
accepted problem c shown closed r h = shown r (shown_first problem c.shown r h) h

-- what is shown is refused, and so the certificate
pub shown_refused : (problem : Problem) (c : Certificate) (r : CheckRefused) → IsShownRefused problem c.shown r → IsRefused problem c r
shown_refused problem c Memory h = tt
shown_refused problem c OfAnotherQuestion h = record { cause = h.cause; first = λ s low k. absurd (omega (arith, low)) }
shown_refused problem c (TermsDiffer shown asked) h = record { cause = h.cause; first = λ s low k. h.first s low (cause_shown problem c s (omega (arith, low)) k) }
shown_refused problem c (StepNotInTable n) h = record { cause = h.cause; first = λ s low k. h.first s low (cause_shown problem c s (omega (arith, low)) k) }
shown_refused problem c (NoMatch part) h = record { cause = h.cause; first = λ s low k. h.first s low (cause_shown problem c s (omega (arith, low)) k) }
shown_refused problem c (WeightDiffers shown counted) h = record { cause = h.cause; first = λ s low k. h.first s low (cause_shown problem c s (omega (arith, low)) k) }
shown_refused problem c WrongAnswer h = record { cause = h.cause; first = λ s low k. h.first s low (cause_shown problem c s (omega (arith, low)) k) }
shown_refused problem c (Unbounded r) h = absurd h.cause
shown_refused problem c (BadSplit n) h = absurd h.cause
shown_refused problem c (Leaf n r) h = absurd h.cause

-- what is listed is refused, once nothing speaks against what is shown
pub closed_refused : (problem : Problem) (c : Certificate) (r : ClosedRefused) → NoneShown problem c.shown 6 → IsFirstClosed problem c.shown c.closed r → IsRefused problem c (Unbounded r)
closed_refused problem c r shown h = record { cause = h.cause; first = earlier }
  where
    earlier : (s : CheckRefused) → place s < place (Unbounded r) → IsCause problem c s → ⊥
    earlier (Unbounded s) low k = h.first s (omega (arith, low)) k
    earlier (BadSplit n) low k = k
    earlier (Leaf n s) low k = k
    earlier s low k = shown s (shown_first problem c.shown s k) k
