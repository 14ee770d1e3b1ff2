-- From what is found to what is printed of it, or refused.
use Rattle.std.proofs.Common.{◌≡◌, ℕ, inl, inr, List, length, Option, Some, None, Result, Ok, Err, refl, sym, subst}
use Rattle.std.specs.Prelude.{IfOk, IfErr}
use Rattle.wi_base.specs.Shelf.{ShelfSeen}
use Rattle.wi_net.specs.Net.{Net}
use Rattle.wi_query.specs.Meaning.{HasAutomata}
use Rattle.wi_query.specs.declared.query.Query.{Query}
use Rattle.wi_query.specs.declared.fault.QueryFault.{QueryFault}
use Rattle.wi_query.specs.declared.fault.QueryFault.TheVariants as query_fault
use Rattle.wi_query.specs.Faults.{IsFault as IsQueryFault}
use Rattle.wi_quantity.specs.Faults.{IsFault as IsWeightsFault}
use Rattle.wi_quantity.specs.declared.vector.Part.{Part}
use Rattle.wi_quantity.specs.declared.fault.WeightFault.{WeightFault}
use Rattle.wi_quantity.specs.declared.fault.WeightFault.TheVariants as weight_fault
use Rattle.wi_trace.specs.declared.answer.Answer.{Answer}
use Rattle.wi_build.specs.Problems.{Problem, IsProblem, problem_of}
use Rattle.wi_cert.specs.declared.certificate.Certificate.{Certificate}
use Rattle.wi_accept.specs.Causes.{IsAccepted}
use Rattle.wi_gen.specs.Ring.{net_of, ring_of}
use Rattle.wi_gen.specs.Texts.{query_text, weights_text}
use Rattle.wi_report.specs.Summaries.{summary_of}
use Rattle.wi_words.specs.declared.Content.{Content}
use Rattle.wi_outcome.specs.Edges.{kept}
use Rattle.wi_outcome.specs.declared.printed.Printed.{Printed}
use Rattle.wi_outcome.specs.declared.refusal.Refusal.{Refusal}
use Rattle.wi_outcome.specs.declared.refusal.Refusal.TheVariants.{Memory, NotAccepted, Overflow, Query as BadQuery, TooLong, Weights as BadWeights}
use Rattle.wi_files.specs.Asked.{AreBadTexts, IsAsked, IsBadQuery, IsBadWeights}
use Rattle.wi_files.specs.Certificates.{IsKept, FromKeeping}
use Rattle.wi_ask.specs.Certificates.{FromStore, IsCertificate, IsCertified, IsStored}
use Rattle.wi_ask.specs.Decided.{FromDecision, IsReported, printed_by, status_for}
use Rattle.wi_ask.specs.Generated.{FromRing, IsSummary, IsSummed}
use Rattle.wi_ask.specs.Wanted.{FromAnswer}
use Rattle.wi_ask.specs.private.Stages.{FromJudging}
use Rattle.wi_ask.proofs.Asking.{asked_problem}

-- ---- verify

-- a certificate that is kept is stored
kept_stored : (file : Option (List ℕ)) (shelf : ShelfSeen) (problem : Problem) (answer : Answer) (c : Certificate) → IsCertificate problem answer c → IsKept file shelf c → IsStored file shelf problem answer
kept_stored None shelf problem answer c is kept = tt
kept_stored (Some name) shelf problem answer c is kept = (kept.0, record { certificate = c; is = is; text = kept.1; short = kept.2 }, kept.3)

pub decided_reported : (r : Result Printed Refusal) (content : Content) (problem : Problem) (file : Option (List ℕ)) (shelf : ShelfSeen) (answer : Answer) (c : Certificate) → IsCertified problem answer c
    → IfOk r (λ printed. printed.status ≡ status_for answer.word) → IfOk r (λ printed. printed.text ≡ printed_by content problem answer) → IfOk r (λ _. IsKept file shelf c) → IfOk r (λ printed. IsReported content problem file shelf printed.status printed.text)
decided_reported (Err refusal) content problem file shelf answer c is status text kept = tt
decided_reported (Ok printed) content problem file shelf answer c is status text kept = record {
  answer = answer;
  holds = is.holds;
  shown = is.shown;
  stored = kept_stored file shelf problem answer c is.is kept;
  status_is = status;
  text_is = text;
}

pub decided_refused : (r : Result Printed Refusal) (old new : ShelfSeen) (problem : Problem) (file : Option (List ℕ)) (answer : Answer) (c : Certificate) → IsCertified problem answer c
    → IfErr r (λ refusal. FromKeeping old new file c refusal) → IfErr r (λ refusal. FromAnswer FromDecision (FromStore file) old new problem refusal)
decided_refused (Ok printed) old new problem file answer c is cause = tt
decided_refused (Err refusal) old new problem file answer c is cause = inr (record { answer = answer; certificate = c; is = is; unkept = cause })

-- ---- gen

-- what is asked of a network by texts is asked of a ring by its own, where they are these
asked_of_ring : (seed size : ℕ) (net : Net) (text weights : List ℕ) (query : Query) (vector : List (List Part)) → net ≡ net_of (ring_of seed size) → text ≡ query_text (ring_of seed size) → weights ≡ weights_text
    → IsAsked net text (Some weights) query vector → IsAsked (net_of (ring_of seed size)) (query_text (ring_of seed size)) (Some weights_text) query vector
asked_of_ring seed size net text weights query vector own same light asked =
    subst (λ n. IsAsked n (query_text (ring_of seed size)) (Some weights_text) query vector) own
    (subst (λ t. IsAsked net t (Some weights_text) query vector) same (subst (λ w. IsAsked net text (Some w) query vector) light asked))

-- a problem that they ask is summed
pub ring_summed : (r : Result Printed Refusal) (seed size : ℕ) (net : Net) (text weights : List ℕ) (query : Query) (vector : List (List Part)) → net ≡ net_of (ring_of seed size) → text ≡ query_text (ring_of seed size) → weights ≡ weights_text
    → IsAsked net text (Some weights) query vector → HasAutomata query → IfOk r (λ printed. IsSummed seed size (problem_of net query vector) printed.text) → IfOk r (λ printed. IsSummary seed size printed.text)
ring_summed (Ok printed) seed size net text weights query vector own same light asked automata summed =
    let here = asked_of_ring seed size net text weights query vector own same light asked in
    (query, vector, here, asked_problem _ _ _ query vector here automata, subst (λ n. IsSummed seed size (problem_of n query vector) printed.text) own summed)
ring_summed (Err refusal) seed size net text weights query vector own same light asked automata summed = tt

-- or isn't decided
from_ring : (seed size : ℕ) (query : Query) (vector : List (List Part)) (refusal : Refusal) → IsAsked (net_of (ring_of seed size)) (query_text (ring_of seed size)) (Some weights_text) query vector
    → IsProblem (problem_of (net_of (ring_of seed size)) query vector) → FromDecision (problem_of (net_of (ring_of seed size)) query vector) refusal → FromRing seed size refusal
from_ring seed size query vector (Overflow w terms) asked is cause = (query, vector, asked, is, cause)
from_ring seed size query vector (TooLong effort) asked is cause = (query, vector, asked, is, cause)
from_ring seed size query vector Memory asked is cause = tt
from_ring seed size query vector refusal asked is cause = elim cause [ ]

pub ring_refused : (r : Result Printed Refusal) (seed size : ℕ) (net : Net) (text weights : List ℕ) (query : Query) (vector : List (List Part)) → net ≡ net_of (ring_of seed size) → text ≡ query_text (ring_of seed size) → weights ≡ weights_text
    → IsAsked net text (Some weights) query vector → HasAutomata query → IfErr r (λ refusal. FromDecision (problem_of net query vector) refusal) → IfErr r (λ refusal. FromRing seed size refusal)
ring_refused (Ok printed) seed size net text weights query vector own same light asked automata cause = tt
ring_refused (Err refusal) seed size net text weights query vector own same light asked automata cause =
    let here = asked_of_ring seed size net text weights query vector own same light asked in
    from_ring seed size query vector refusal here (asked_problem _ _ _ query vector here automata) (subst (λ n. FromDecision (problem_of n query vector) refusal) own cause)

-- texts without a fault are the cause of nothing but want of memory
fine_query : (net : Net) (text : List ℕ) (refusal : Refusal) → ((fault : QueryFault) → IsQueryFault net text fault → fault ≡ query_fault.Memory) → IsBadQuery net text refusal → refusal ≡ Memory
fine_query net text (BadQuery said) fine cause = absurd (cause.due (fine cause.fault cause.first))
fine_query net text Memory fine cause = refl
fine_query net text refusal fine cause = elim cause [ ]

fine_weights : (text : List ℕ) (refusal : Refusal) → ((fault : WeightFault) → IsWeightsFault text fault → fault ≡ weight_fault.Memory) → IsBadWeights (Some text) refusal → refusal ≡ Memory
fine_weights text (BadWeights fault) fine cause =
    let own : text ≡ cause.0 = some_same text cause.0 cause.1 in
    absurd (cause.2 (fine fault (subst (λ t. IsWeightsFault t fault) (sym own) cause.3)))
  where
    some_same : (a b : List ℕ) → Some a ≡ Some b → a ≡ b
    some_same a b same = cc
fine_weights text Memory fine cause = refl
fine_weights text refusal fine cause = elim cause [ ]

fine_texts : (net : Net) (text weights : List ℕ) (refusal : Refusal) → ((fault : QueryFault) → IsQueryFault net text fault → fault ≡ query_fault.Memory) → ((fault : WeightFault) → IsWeightsFault weights fault → fault ≡ weight_fault.Memory)
    → AreBadTexts net text (Some weights) refusal → refusal ≡ Memory
fine_texts net text weights refusal query light (inl bad) = fine_query net text refusal query bad
fine_texts net text weights refusal query light (inr bad) = fine_weights weights refusal light bad.2

-- and a ring's have none
pub ring_is_read : (seed size : ℕ) (net : Net) (text weights : List ℕ) (refusal : Refusal) → net ≡ net_of (ring_of seed size) → text ≡ query_text (ring_of seed size) → weights ≡ weights_text
    → ((fault : QueryFault) → IsQueryFault (net_of (ring_of seed size)) (query_text (ring_of seed size)) fault → fault ≡ query_fault.Memory) → ((fault : WeightFault) → IsWeightsFault weights_text fault → fault ≡ weight_fault.Memory)
    → AreBadTexts net text (Some weights) refusal → FromRing seed size refusal
ring_is_read seed size net text weights refusal own same light query fine bad =
    let bad_at : AreBadTexts (net_of (ring_of seed size)) (query_text (ring_of seed size)) (Some weights_text) refusal =
    subst (λ n. AreBadTexts n (query_text (ring_of seed size)) (Some weights_text) refusal) own
    (subst (λ t. AreBadTexts net t (Some weights_text) refusal) same (subst (λ w. AreBadTexts net text (Some w) refusal) light bad)) in
    let wants : refusal ≡ Memory = fine_texts (net_of (ring_of seed size)) (query_text (ring_of seed size)) weights_text refusal query fine bad_at in
    subst (FromRing seed size) (sym wants) tt

-- a decided problem is summed, once its certificate is accepted
pub decided_summed : (r : Result Printed Refusal) (seed size : ℕ) (problem : Problem) (answer : Answer) (c : Certificate) → IsCertified problem answer c
    → IfOk r (λ printed. printed.text ≡ summary_of seed size problem.net problem.bounds (length problem.vector) answer) → IfOk r (λ printed. IsSummed seed size problem printed.text)
decided_summed (Ok printed) seed size problem answer c is text = record { answer = answer; certificate = c; is = is; text_is = text }
decided_summed (Err refusal) seed size problem answer c is text = tt

-- the certificate of a decided problem is accepted, so only memory can be wanting
pub decided_believed : (r : Result Printed Refusal) (problem : Problem) (c : Certificate) → IsAccepted problem c → IfErr r (λ refusal. FromJudging problem c refusal) → IfErr r (λ refusal. FromDecision problem refusal)
decided_believed (Ok printed) problem c accepted cause = tt
decided_believed (Err refusal) problem c accepted cause = no_cause refusal cause
  where
    no_cause : (refusal : Refusal) → FromJudging problem c refusal → FromDecision problem refusal
    no_cause (NotAccepted fault terms) cause = absurd (accepted fault cause.1.cause)
    no_cause Memory cause = tt
    no_cause refusal cause = elim cause [ ]
