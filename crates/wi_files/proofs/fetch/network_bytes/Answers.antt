use Rattle.wi_files.proofs.Causes.{too_long_within}
use Rattle.wi_files.proofs.fetch.network_bytes.Goals as goal

pub returns-in-None-clause-refused : goal.returns-in-None-clause-refused
returns-in-None-clause-refused g c = (c.in_ok-bytes.ensures.calm, λ told. too_long_within _ _ _ c.in-None.is (c.in_ok-bytes.ensures.found told))
