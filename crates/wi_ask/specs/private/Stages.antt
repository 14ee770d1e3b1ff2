-- What speaks against what is held against a problem.
use Rattle.std.specs.Prelude.{◌≡◌, length}
use Rattle.wi_build.specs.Problems.{Problem}
use Rattle.wi_cert.specs.declared.certificate.Certificate.{Certificate}
use Rattle.wi_cert.specs.declared.tree.TreeCertificate.{TreeCertificate}
use Rattle.wi_accept.specs.Causes.{IsRefusal}
use Rattle.wi_accept.specs.Trees.{IsTreeRefusal}
use Rattle.wi_outcome.specs.declared.refusal.Refusal.{Refusal}
use Rattle.wi_outcome.specs.declared.refusal.Refusal.TheVariants.{Memory, NotAccepted}

-- ---- check
-- this speaks against the certificate
abbrev pub FromJudging : Problem → Certificate → Refusal → Type 0
FromJudging problem c (NotAccepted fault terms) = (terms ≡ length problem.vector) × IsRefusal problem c fault
FromJudging problem c Memory = Unit {0}
FromJudging problem c refusal = ⊥

-- ---- check-exact
-- this speaks against the tree
abbrev pub FromJudgingTree : Problem → TreeCertificate → Refusal → Type 0
FromJudgingTree problem t (NotAccepted fault terms) = (terms ≡ length problem.vector) × IsTreeRefusal problem t fault
FromJudgingTree problem t Memory = Unit {0}
FromJudgingTree problem t refusal = ⊥
