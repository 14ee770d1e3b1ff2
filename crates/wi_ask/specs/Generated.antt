-- What is generated: the summary of a ring, and of the answer to what is asked of it.
use Rattle.std.specs.Prelude.{◌≡◌, ℕ, List, length, Some}
use Rattle.wi_trace.specs.declared.answer.Answer.{Answer}
use Rattle.wi_build.specs.Problems.{Problem}
use Rattle.wi_cert.specs.declared.certificate.Certificate.{Certificate}
use Rattle.wi_gen.specs.Ring.{net_of, ring_of}
use Rattle.wi_gen.specs.Texts.{query_text, weights_text}
use Rattle.wi_report.specs.Summaries.{summary_of}
use Rattle.wi_outcome.specs.declared.refusal.Refusal.{Refusal}
use Rattle.wi_outcome.specs.declared.refusal.Refusal.TheVariants.{Memory}
use Rattle.wi_ask.specs.Asked.{ForAsked}
use Rattle.wi_ask.specs.Certificates.{IsCertified}
use Rattle.wi_ask.specs.Decided.{FromDecision}

-- this holds of the problem that the texts of a ring ask of it
abbrev pub ForRing : ℕ → ℕ → (Problem → Type 0) → Type 0
ForRing seed size P = ForAsked (net_of (ring_of seed size)) (query_text (ring_of seed size)) (Some weights_text) P

-- the summary of an answer to a problem that holds and can be shown, and whose certificate is accepted
pub record IsSummed (seed size : ℕ) (problem : Problem) (text : List ℕ) : Type 0 where
  pub answer : Answer
  pub certificate : Certificate
  pub is : IsCertified problem answer certificate
  pub text_is : text ≡ summary_of seed size problem.net problem.bounds (length problem.vector) answer

-- the summary of a ring
abbrev pub IsSummary : ℕ → ℕ → List ℕ → Type 0
IsSummary seed size text = ForRing seed size (λ problem. IsSummed seed size problem text)

-- there is none, but only for what is asked of the ring, or for want of memory
abbrev pub FromRing : ℕ → ℕ → Refusal → Type 0
FromRing seed size Memory = Unit {0}
FromRing seed size refusal = ForRing seed size (λ problem. FromDecision problem refusal)
