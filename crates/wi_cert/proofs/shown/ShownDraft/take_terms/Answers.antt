use Rattle.std.proofs.Common.{rules}
use Rattle.wi_cert.proofs.shown.ShownDraft.take_terms.Goals as goal

pub invariant_of-self : goal.invariant_of-self
invariant_of-self c = search rules
