use Rattle.wi_files.proofs.Causes.{err_as}
use Rattle.wi_files.proofs.policies_file.policies_in.Goals as goal

pub returns-in_err-bytes-clause-refused : goal.returns-in_err-bytes-clause-refused
returns-in_err-bytes-clause-refused g c = err_as _ _ _ c.from_residual.ensures.1 (c.in_err-bytes.ensures.refused c.args.net.now c.args.given.now)
