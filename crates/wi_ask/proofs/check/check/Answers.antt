use Rattle.wi_cert.specs.Sheets.{certificates}
use Rattle.wi_cert.specs.Text.{IsBadLine}
use Rattle.wi_files.proofs.Causes.{err_as}
use Rattle.wi_ask.specs.Certificates.{FromCertificate, IsRefusedFile}
use Rattle.wi_ask.proofs.Checking.{file_believed, file_not_believed, lines_refused}
use Rattle.wi_ask.proofs.check.check.Goals as goal

pub returns-in_err-certificate-clause-refused : goal.returns-in_err-certificate-clause-refused
returns-in_err-certificate-clause-refused g c =
    let problem = c.args.problem.now in
    let old = g.S.Shelf.seen c.args.shelf.now in
    err_as (FromCertificate old (g.S.Shelf.seen c.fetch_certificate.new.shelf) problem c.args.file.now) _ _ c.from_residual.ensures.1 (lines_refused (IsBadLine certificates) (IsRefusedFile old problem c.args.file.now) old (g.S.Shelf.seen c.fetch_certificate.new.shelf) problem c.args.file.now _ c.in_err-certificate.ensures.refused)

pub returns-clause-believed : goal.returns-clause-believed
returns-clause-believed g c =
    file_believed c.believed-printed.result (g.S.Shelf.seen c.args.shelf.now) c.args.problem.now c.args.file.now c.in_ok-certificate.ensures.read.0 c.in_ok-certificate.certificate c.in_ok-certificate.ensures.read.1 c.in_ok-certificate.ensures.read.2 c.believed-printed.ensures.believed c.believed-printed.ensures.status c.believed-printed.ensures.text

pub returns-clause-refused : goal.returns-clause-refused
returns-clause-refused g c =
    file_not_believed c.believed-printed.result (g.S.Shelf.seen c.args.shelf.now) (g.S.Shelf.seen c.fetch_certificate.new.shelf) c.args.problem.now c.args.file.now c.in_ok-certificate.ensures.read.0 c.in_ok-certificate.certificate
    c.keeps.ensures.problem c.in_ok-certificate.ensures.calm c.in_ok-certificate.ensures.read.1 c.in_ok-certificate.ensures.read.2 c.believed-printed.ensures.refused
