use Rattle.std.proofs.Common.{rules}
use Rattle.wi_files.proofs.certificate_file.store_certificate.Goals as goal

pub returns-clause-kept : goal.returns-clause-kept
returns-clause-kept g c = search rules
