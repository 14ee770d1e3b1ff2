use Rattle.wi_files.proofs.Causes.{err_as}
use Rattle.wi_ask.proofs.verify.stored.Goals as goal

pub returns-in_err-store_certificate-clause-refused : goal.returns-in_err-store_certificate-clause-refused
returns-in_err-store_certificate-clause-refused g c = err_as _ _ _ c.from_residual-in_err-store_certificate.ensures.1 (rw c.in-Some.is c.in_err-store_certificate.ensures.refused)
